use Rattle.std.proofs.Common.{◌∙◌}
use Rattle.chain_names.specs.Tables.{names_in}
use Rattle.name_snapshot.proofs.PutLemmas.{pushed, names_filled}
use Rattle.name_snapshot.proofs.putting.push_item.Goals as goal

pub returns-clause-names : goal.returns-clause-names
returns-clause-names g c = c.push.ensures.names ∙ pushed (names_in c.args.names.now) _ c.args.name.now c.args.item c.in_ok-place.ensures.names

pub returns-clause-filled : goal.returns-clause-filled
returns-clause-filled g c =
    names_filled c.args.names.now c.push.new.self c.args.name.now c.args.item
    (c.push.ensures.names ∙ pushed (names_in c.args.names.now) _ c.args.name.now c.args.item c.in_ok-place.ensures.names) (c.push.ensures.places ∙ c.in_ok-place.ensures.ok)
