use Rattle.std.proofs.Common.{ap, ◌∙◌, take}
use Rattle.std.proofs.lemmas.List.{take-map}
use Rattle.domain_text.specs.Names.{lower}
use Rattle.domain_text.proofs.front.Front.lower.Goals as goal

pub returns : goal.returns
returns c = ap (take c.self.inside.len) c.make_ascii_lowercase.ensures.after ∙ take-map _ c.self.inside.len c.self.inside.bytes ∙ ap lower c.self.view_is
