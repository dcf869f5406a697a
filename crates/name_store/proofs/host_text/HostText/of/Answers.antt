use Rattle.std.proofs.Common.{ap, ◌∙◌}
use Rattle.name_store.specs.Spelling.{spelled}
use Rattle.name_store.proofs.SpellingLemmas.{host_spelled}
use Rattle.name_store.proofs.host_text.HostText.of.Goals as goal

pub returns : goal.returns
returns c = λ text is. c.spell-len.ensures.text ∙ ap spelled c.wire.ensures.value ∙ host_spelled text c.args.name.now is
