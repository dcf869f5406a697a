use Rattle.std.proofs.Common.{Option, None, sym, ap, arith, ◌∙◌}
use Rattle.std.proofs.lemmas.List.{length-map}
use Rattle.std.specs.Map.{keys_of}
use Rattle.std.specs.Option.{option_map}
use Rattle.nmc_base.specs.declared.hashes.OutPoint.{OutPoint}
use Rattle.chain_names.proofs.Points.{same_point-Decides}
use Rattle.chain_names.specs.Points.{same_point, changed}
use Rattle.chain_names.specs.declared.coin.Coin.{Coin}
use Rattle.chain_names.specs.Tables.{coins_in, filled_by}
use Rattle.sliced_save.specs.Mirror.{coin_at}
use Rattle.sliced_save.proofs.FillLemmas.{filled_all, filled_next, unlisted_none}
use Rattle.sliced_save.proofs.UndoLemmas.{slice_get_map}
use Rattle.sliced_save.proofs.filling.coins_of.Goals as goal

pub set-requires : goal.set-requires
set-requires g c = c.requires.short c.in-Some.at.now c.in-Some.coin.now c.in-Some.ensures.held

pub returns-in-None-clause-coins : goal.returns-in-None-clause-coins
returns-in-None-clause-coins g c =
    filled_all same_point same_point-Decides (coins_in c.args.table.now) None (keys_of c.args.table.now) (coin_at c.loop-i.coins) c.loop-i.i c.loop-i.invariant.0
    (omega (arith, length-map c.args.table.now (λ p. p.0), c.in-None.ensures.item))
    (λ q e. ap filled_by (unlisted_none (same_point q) c.args.table.now e))

pub loop-i-preserved : goal.loop-i-preserved
loop-i-preserved g c =
    let table = c.args.table.now in (
      filled_next same_point same_point-Decides (coins_in table) None (keys_of table) (coin_at c.loop-i.coins) (coin_at c.set.new.self) c.in-Some.at.now c.loop-i.i
          c.loop-i.invariant.0 (slice_get_map (λ (p : OutPoint × Option Coin). p.0) table c.loop-i.i ∙ ap (option_map (λ (p : OutPoint × Option Coin). p.0)) c.in-Some.ensures.item)
          (c.in_ok-set-in-Some.ensures.coins ∙ ap (changed same_point (coin_at c.loop-i.coins) c.in-Some.at.now) (sym c.in-Some.ensures.held)),
      omega (arith, c.in-Some.ensures.cost, c.in_ok-set-in-Some.ensures.grows, c.loop-i.invariant.1),
      omega (arith, c.in-Some.ensures.cost, c.in_ok-set-in-Some.ensures.cost, c.loop-i.invariant.2),
    )
