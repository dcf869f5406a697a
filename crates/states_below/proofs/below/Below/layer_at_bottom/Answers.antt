use Rattle.std.proofs.Common.{◌≡◌, ℕ, suc, ◌+◌, true, take, Option, sym, ap, subst, ◌∙◌, arith, true≢false}
use Rattle.std.specs.Borrow.{Bor}
use Rattle.chain_names.specs.declared.coin.Coin.{Coin}
use Rattle.chain_names.specs.Tables.{coins_in}
use Rattle.states_below.specs.Views.{coin_over}
use Rattle.states_below.specs.Bottom.{coin_low, layer_low}
use Rattle.states_below.specs.StepTests.{all_by}
use Rattle.states_below.proofs.PassLemmas.{one_more}
use Rattle.states_below.proofs.below.Below.layer_at_bottom.Goals as goal

pub loop-i-preserved : goal.loop-i-preserved
loop-i-preserved c =
    let next : suc c.loop-i.i ≡ c.loop-i.i + 1 = omega arith in
    subst (λ (k : ℕ). all_by (layer_low c.args.base) (take k c.args.self.now.coins.over.entries) ≡ true) next
    (one_more (layer_low c.args.base) c.args.self.now.coins.over.entries c.loop-i.i (c.in-Some.field-0-0.now, c.in-Some.coin.now) (sym c.in-Some.ensures.entry) (sym c.coin_low.ensures ∙ c.if-not-coin_low.false) c.loop-i.invariant)

pub returns-then-not-coin_low-clause-no : goal.returns-then-not-coin_low-clause-no
returns-then-not-coin_low-clause-no c = λ here all.
    let point = c.in-Some.field-0-0.now in
    true≢false
    (sym (all point) ∙ ap (λ (o : Option (Option (Bor Coin))). coin_low c.args.base (coin_over (coins_in c.args.self.now.coins.under.now point) o)) c.in-Some.ensures.value
    ∙ sym c.coin_low.ensures ∙ c.if-not-coin_low.true)
