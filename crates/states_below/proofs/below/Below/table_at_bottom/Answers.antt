use Rattle.std.proofs.Common.{◌≡◌, ℕ, suc, ◌+◌, Bool, true, take, Some, sym, ap, subst, ◌∙◌, arith}
use Rattle.nmc_base.specs.declared.hashes.OutPoint.{OutPoint}
use Rattle.chain_names.specs.declared.coin.Coin.{Coin}
use Rattle.states_below.specs.Bottom.{coin_low}
use Rattle.states_below.specs.Scan.{slot_passes, all_pass}
use Rattle.states_below.specs.Views.{coins_below}
use Rattle.std.proofs.lemmas.Option.{slice_get_past}
use Rattle.states_below.proofs.PassLemmas.{one_more, whole, each_passes}
use Rattle.states_below.proofs.below.Below.table_at_bottom.Goals as goal

pub returns-in-None : goal.returns-in-None
returns-in-None g c =
    let test : OutPoint → Coin → Bool = λ point coin. coin_low c.args.base (coins_below c.args.self.now.coins point) in
    each_passes test c.args.self.now.coins.under.now (whole (slot_passes test) c.args.self.now.coins.under.now c.loop-i.i (slice_get_past c.args.self.now.coins.under.now c.loop-i.i c.in-None.ensures.item) c.loop-i.invariant)

pub loop-i-preserved : goal.loop-i-preserved
loop-i-preserved g c =
    let test : OutPoint → Coin → Bool = λ point coin. coin_low c.args.base (coins_below c.args.self.now.coins point) in
    let next : suc c.loop-i.i ≡ c.loop-i.i + 1 = omega arith in
    subst (λ (k : ℕ). all_pass test (take k c.args.self.now.coins.under.now) ≡ true) next
    (one_more (slot_passes test) c.args.self.now.coins.under.now c.loop-i.i (c.in-Some.point.now, Some c.in-Some.field-0-1.now) c.in-Some.ensures.item
    (sym (ap (coin_low c.args.base) c.get.ensures) ∙ sym c.coin_low.ensures ∙ c.if-not-coin_low.false) c.loop-i.invariant)
