use Rattle.std.proofs.Common.{true, ap, ◌∙◌}
use Rattle.std.specs.Prelude.{Some}
use Rattle.chain_names.proofs.Changed.{same_point-at_changed}
use Rattle.chain_names.specs.Points.{same_point, changed}
use Rattle.name_snapshot.proofs.PutLemmas.{coin_kept}
use Rattle.name_snapshot.proofs.putting.put_coin.Goals as goal

pub put-requires : goal.put-requires
put-requires g c = record { placed = same_point-at_changed _ _ c.args.at true c.in_ok-place.ensures.ok }

pub returns-clause-kept : goal.returns-clause-kept
returns-clause-kept g c = λ free kept.
    coin_kept c.args.tables.now c.args.at free kept c.args.coin c.put.new.self c.queue_up.new.queue c.in_ok-queue_up.ensures
    (c.put.ensures.coins ∙ ap (λ f. changed same_point f c.args.at (Some c.args.coin)) c.in_ok-place.ensures.coins) (c.put.ensures.places ∙ c.in_ok-place.ensures.ok)
