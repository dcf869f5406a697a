use Rattle.std.proofs.Common.{refl, ap}
use Rattle.state_image.proofs.KeptLemmas.{blank_kept}
use Rattle.state_image.proofs.reading.Reading.of.Goals as goal

pub returns-clause-kept : goal.returns-clause-kept
returns-clause-kept c = blank_kept _ refl (ap (λ l. l.items) c.new.ensures) refl refl c.requires
