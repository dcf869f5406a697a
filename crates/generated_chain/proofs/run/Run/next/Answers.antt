use Rattle.std.proofs.Common.{rules, ◌+◌, length, ap, ◌∙◌, arith}
use Rattle.generated_chain.specs.Events.{round_at}
use Rattle.generated_chain.specs.Place.{Place}
use Rattle.generated_chain.proofs.Behind.{next_holds, next_round}
use Rattle.generated_chain.proofs.Lengths.{query_short}
use Rattle.generated_chain.specs.declared.run.Round.{Round}
use Rattle.generated_chain.proofs.run.Run.next.Goals as goal

pub invariant_of-self : goal.invariant_of-self
invariant_of-self c =
    let run = c.self.inside in
    let drawn = c.next_state-state.ensures in
    let number = c.number_drawn-number.ensures in
    let round = next_round run _ _ c.self.invariant drawn number.number number.low in
    next_holds run _ _ c.in_ok-round.round c.in_ok-round.stand c.self.invariant (search rules) (search rules) drawn number.number number.low
    (c.in_ok-round.ensures.round ∙ round) c.in_ok-round.ensures.stand

pub returns-clause-round : goal.returns-clause-round
returns-clause-round c =
    let number = c.number_drawn-number.ensures in
    c.in_ok-round.ensures.round ∙ next_round c.self.inside _ _ c.self.invariant c.next_state-state.ensures number.number number.low
    ∙ ap (λ (p : Place). round_at p.seed p.rounds) c.self.view_is

pub returns-clause-query_fits : goal.returns-clause-query_fits
returns-clause-query_fits c =
    let is = ap (λ (r : Round). length r.query) c.in_ok-round.ensures.round in
    omega (arith, is, query_short (c.self.inside.tip.height + 1) c.number_drawn-number.result (omega (arith, c.number_drawn-number.ensures.low)))
