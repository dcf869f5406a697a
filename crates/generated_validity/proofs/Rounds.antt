-- Where the events of a run lead.
use Rattle.std.proofs.Common.{ℕ, zero, suc, ◌<◌, ◌≤◌, Bool, true, false, List, [], ◌∷◌, ◌++◌, refl, sym, subst, arith}
use Rattle.block_grammar.specs.Block.{block_hash}
use Rattle.chain_commands.specs.Event.{Connect, Disconnect, Event, Do, Ask, Save}
use Rattle.generated_chain.specs.Events.{asked_twice, events_of, generated_events, joined_again, round_at, saved}
use Rattle.generated_validity.specs.Blocks.{block_behind}
use Rattle.generated_validity.specs.Causes.{Leads}

module _ (seed most : ℕ) where
  -- one list behind the other
  pub leads_then : (from mid to : ℕ) (events more : List Event) → Leads seed most from events mid → Leads seed most mid more to → Leads seed most from (events ++ more) to
  leads_then from mid to [] more e f = subst (λ (at : ℕ). Leads seed most at more to) (sym e) f
  leads_then from mid to (Do (Connect block) ∷ events) more e f = (e.0, e.1, leads_then (suc from) mid to events more e.2 f)
  leads_then from mid to (Do (Disconnect hash) ∷ events) more e f = (e.0, e.1, e.2, leads_then e.0 mid to events more e.3 f)
  leads_then from mid to (Ask carrier message ∷ events) more e f = leads_then from mid to events more e f
  leads_then from mid to (Save ∷ events) more e f = leads_then from mid to events more e f

  -- and apart again
  abbrev pub Splits : (from to : ℕ) (events more : List Event) → Type 0
  Splits from to events more = (mid : ℕ) × Leads seed most from events mid × Leads seed most mid more to

  pub leads_apart : (from to : ℕ) (events more : List Event) → Leads seed most from (events ++ more) to → Splits from to events more
  leads_apart from to [] more e = (from, refl, e)
  leads_apart from to (Do (Connect block) ∷ events) more e = let rest = leads_apart (suc from) to events more e.2 in (rest.0, (e.0, e.1, rest.1), rest.2)
  leads_apart from to (Do (Disconnect hash) ∷ events) more e = let rest = leads_apart e.0 to events more e.3 in (rest.0, (e.0, e.1, e.2, rest.1), rest.2)
  leads_apart from to (Ask carrier message ∷ events) more e = leads_apart from to events more e
  leads_apart from to (Save ∷ events) more e = leads_apart from to events more e

  -- to no more blocks than the most
  pub leads_low : (from to : ℕ) (events : List Event) → from ≤ most → Leads seed most from events to → to ≤ most
  leads_low from to [] low e = omega (arith, low, e)
  leads_low from to (Do (Connect block) ∷ events) low e = leads_low (suc from) to events (omega (arith, e.0)) e.2
  leads_low from to (Do (Disconnect hash) ∷ events) low e = leads_low e.0 to events (omega (arith, low, e.1)) e.3
  leads_low from to (Ask carrier message ∷ events) low e = leads_low from to events low e
  leads_low from to (Save ∷ events) low e = leads_low from to events low e

  -- ---- rounds

  behind_connect : (n : ℕ) (again saves : Bool) (query : List ℕ) → n < most
      → Leads seed most (suc n) (joined_again again (block_behind seed n) (block_hash (block_behind seed n)) ++ (saved saves ++ asked_twice query)) (suc n)
  behind_connect n true true query low = (n, refl, refl, (low, refl, refl))
  behind_connect n true false query low = (n, refl, refl, (low, refl, refl))
  behind_connect n false true query low = refl
  behind_connect n false false query low = refl

  pub leads_round : (n : ℕ) → n < most → Leads seed most n (events_of (round_at seed n)) (suc n)
  leads_round n low = let round = round_at seed n in (low, refl, behind_connect n round.reconnects round.saves round.query low)

  pub leads_rounds : (n : ℕ) → n ≤ most → Leads seed most 0 (generated_events n seed) n
  leads_rounds zero low = refl
  leads_rounds (suc n) low =
      leads_then 0 n (suc n) (generated_events n seed) (events_of (round_at seed n)) (leads_rounds n (omega (arith, low))) (leads_round n (omega (arith, low)))
