use Rattle.std.proofs.Common.{◌≡◌, ℕ, suc, ◌+◌, true, take, Some, sym, subst, ◌∙◌, arith}
use Rattle.chain_names.specs.Tables.{names_in}
use Rattle.states_below.specs.Scan.{sound_coin, slot_passes, all_pass}
use Rattle.std.proofs.lemmas.Option.{slice_get_past}
use Rattle.states_below.proofs.PassLemmas.{one_more, whole, each_passes}
use Rattle.states_below.proofs.scan.coins_pass.Goals as goal

pub returns-in-None : goal.returns-in-None
returns-in-None g c =
    let test = sound_coin c.args.profile c.args.tip (names_in c.args.names.now) in
    each_passes test c.args.coins.now (whole (slot_passes test) c.args.coins.now c.loop-i.i (slice_get_past c.args.coins.now c.loop-i.i c.in-None.ensures.item) c.loop-i.invariant)

pub loop-i-preserved : goal.loop-i-preserved
loop-i-preserved g c =
    let test = sound_coin c.args.profile c.args.tip (names_in c.args.names.now) in
    let next : suc c.loop-i.i ≡ c.loop-i.i + 1 = omega arith in
    subst (λ (k : ℕ). all_pass test (take k c.args.coins.now) ≡ true) next
    (one_more (slot_passes test) c.args.coins.now c.loop-i.i (c.in-Some.point.now, Some c.in-Some.coin.now) c.in-Some.ensures.item (sym c.coin_passes.ensures ∙ c.if-not-coin_passes.false) c.loop-i.invariant)
