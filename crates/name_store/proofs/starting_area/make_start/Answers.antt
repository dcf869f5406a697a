use Rattle.std.proofs.Common.{[], sym, subst}
use Rattle.disk_model.specs.DiskSeen.{file_in}
use Rattle.chain_names.specs.Log.{Log}
use Rattle.name_store.specs.Starting.{HasStartArea}
use Rattle.name_store.proofs.MakingLemmas.{no_start}
use Rattle.name_store.proofs.StartLemmas.{empty_start}
use Rattle.name_store.proofs.starting_area.make_start.Goals as goal

pub returns-clause-made : goal.returns-clause-made
returns-clause-made g c = λ tells start is.
    let base = c.args.base.now in
    let new = g.D.Disk.seen c.make_area.new.disk in
    subst (λ (list : Log). HasStartArea base list (file_in new 1)) (sym (empty_start base start c.args.parts.now is (c.has_coin.ensures.none c.if-has_coin.false)))
    (record { text = []; has_text = no_start base; area = c.in_ok-make_area.ensures.made tells })
