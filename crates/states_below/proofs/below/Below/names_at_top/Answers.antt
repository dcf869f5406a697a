use Rattle.std.proofs.Common.{◌≡◌, ℕ, suc, ◌+◌, true, take, refl, sym, subst, ◌∙◌, arith}
use Rattle.std.specs.Map.{lookup, keys_of}
use Rattle.states_below.specs.Top.{top_name}
use Rattle.states_below.specs.StepTests.{all_by}
use Rattle.states_below.specs.Undoing.{maps_below}
use Rattle.states_below.specs.Views.{has_bytes}
use Rattle.states_below.proofs.PassLemmas.{one_more, whole, each_name}
use Rattle.states_below.proofs.TopLemmas.{empty_top}
use Rattle.states_below.proofs.below.Below.names_at_top.Goals as goal

pub returns-in-None : goal.returns-in-None
returns-in-None g c =
    let test = top_name c.args.profile c.args.tip (maps_below c.args.self.now) in
    let keys = keys_of c.args.self.now.names.under.now in
    each_name test (maps_below c.args.self.now).names c.args.self.now.names.under.now (λ name. lookup (has_bytes name) c.args.self.now.names.left.entries) (λ name. refl)
    (empty_top c.args.profile c.args.tip (maps_below c.args.self.now))
    (whole test keys c.loop-i.i (sym c.in-None.ensures.name) c.loop-i.invariant)

pub loop-i-preserved : goal.loop-i-preserved
loop-i-preserved g c =
    let test = top_name c.args.profile c.args.tip (maps_below c.args.self.now) in
    let next : suc c.loop-i.i ≡ c.loop-i.i + 1 = omega arith in
    subst (λ (k : ℕ). all_by test (take k (keys_of c.args.self.now.names.under.now)) ≡ true) next
    (one_more test (keys_of c.args.self.now.names.under.now) c.loop-i.i c.in-Some.name.now (sym c.in-Some.ensures.name) (sym c.top_name.ensures ∙ c.if-not-top_name.false) c.loop-i.invariant)
