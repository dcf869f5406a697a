-- The steps of a reading, whatever follows.
use Rattle.std.proofs.Common.{◌≡◌, ◌≢◌, ℕ, zero, suc, List, [], ◌∷◌, ◌++◌, inl, inr, refl, sym, ap, subst, ◌∙◌}
use Rattle.std.specs.Prelude.{Option, Some, None, Result, Ok, Err}
use Rattle.std.specs.Borrow.{Bor}
use Rattle.std.specs.Int.{w32}
use Rattle.block_grammar.specs.Combinators.{◌>>=◌}
use Rattle.undo_records.specs.declared.fault.FaultKind.{FaultKind}
use Rattle.undo_records.specs.declared.fault.FaultKind.TheVariants.{Cut, BadTag}
use Rattle.undo_records.specs.declared.fault.Stop.{Stop}
use Rattle.undo_records.specs.declared.fault.Stop.TheVariants.{At, NoMemory}
use Rattle.undo_records.specs.declared.version.Version.{Version}
use Rattle.undo_records.specs.Reading.{Reads, number_from, op_from, item_from, held_from}
use Rattle.image_grammar.specs.Reading.{entry_from, history_head_from, undo_head_from}
use Rattle.image_grammar.specs.Resuming.{Answer, EndsEarly, Stands}
use Rattle.image_grammar.specs.Stages.{Gathered, Stage, head, in_undos, in_ops, at_expired, in_expired, at_coins, in_coins, at_names, in_names, in_items}
use Rattle.image_grammar.specs.Stages.{Standing, stands, nothing_of, begun, with_op, with_expired, without_last, with_entry, named, with_item, opening_from, rest_from, step_from}
use Rattle.image_grammar.proofs.ShorterLaws.{step_ends}
use Rattle.image_grammar.proofs.StepLaws.{step_stable}
use Rattle.state_image.specs.Standing.{stage_of, standing, standing_at}
use Rattle.state_image.specs.Turning.{Turns, StopsAt, Steps}
use Rattle.state_image.specs.Versioned.{Versioned, in_version, left_at, left_from}
use Rattle.state_image.specs.declared.next.Next.{Next}
use Rattle.state_image.specs.declared.next.Next.TheVariants.{Head as at_head, Undos, Ops, ExpiredCount, Expired, CoinCount, Coins, NameCount, Names, Items}
use Rattle.state_image.specs.declared.reading.Reading.{Reading}

-- ---- the rest follows a step

-- a value is read, and then the rest: so it is where a step is made of the value
module _ {A : Type 0} (f : A → Standing) (read : Reads A) where
  abbrev made : A × List ℕ → Answer Standing
  made x = Ok (f x.0, x.1)

  abbrev left_of : A × List ℕ → Answer Versioned
  left_of x = left_from (f x.0) x.1

  abbrev on_from : Standing × List ℕ → Answer Versioned
  on_from x = left_from x.0 x.1

  seen_then : (bytes : List ℕ) → (read bytes >>= left_of) ≡ ((read bytes >>= made) >>= on_from)
  seen_then bytes = by (read bytes)
    where
      by : (r : Answer A) → (r >>= left_of) ≡ ((r >>= made) >>= on_from)
      by (Ok x) = refl
      by (Err e) = refl

  -- behind the head the version stands
  module _ (version : Version) (same : (x : A × List ℕ) → in_version version (rest_from (f x.0)) x.1 ≡ left_of x) where
    abbrev rest_of : A × List ℕ → Answer Gathered
    rest_of x = rest_from (f x.0) x.1

    abbrev versioned : Gathered × List ℕ → Answer Versioned
    versioned x = Ok ((version, x.0), x.1)

    behind_then : (bytes : List ℕ) → ((read bytes >>= rest_of) >>= versioned) ≡ ((read bytes >>= made) >>= on_from)
    behind_then bytes = by (read bytes)
      where
        by : (r : Answer A) → ((r >>= rest_of) >>= versioned) ≡ ((r >>= made) >>= on_from)
        by (Ok x) = same x
        by (Err e) = refl

abbrev step_then : Standing → Reads Versioned
step_then s bytes = step_from s bytes >>= λ x. left_from x.0 x.1

at_then : (version : Version) (stage : Stage) (g : Gathered) (bytes : List ℕ) → left_at version stage g bytes ≡ step_then (stands version stage g) bytes
at_then version head g bytes = seen_then (λ x. stands x.0.0 (in_undos x.1) (nothing_of x.0.1)) opening_from bytes
at_then version (in_undos zero) g bytes = refl
at_then version (in_undos (suc n)) g bytes = behind_then (λ x. stands version (in_ops x.1 n) (begun g x.0)) undo_head_from version (λ x. refl) bytes
at_then version (in_ops zero undos) g bytes = refl
at_then version (in_ops (suc n) undos) g bytes = behind_then (λ op. stands version (in_ops n undos) (with_op g op)) (op_from version) version (λ x. refl) bytes
at_then version (at_expired undos) g bytes = behind_then (λ n. stands version (in_expired n undos) g) (number_from w32) version (λ x. refl) bytes
at_then version (in_expired zero undos) g bytes = refl
at_then version (in_expired (suc n) undos) g bytes = behind_then (λ held. stands version (in_expired n undos) (with_expired g held)) (held_from g.last) version (λ x. refl) bytes
at_then version at_coins g bytes = behind_then (λ n. stands version (in_coins n) (without_last g)) (number_from w32) version (λ x. refl) bytes
at_then version (in_coins zero) g bytes = refl
at_then version (in_coins (suc n)) g bytes = behind_then (λ held. stands version (in_coins n) (with_entry g held)) (entry_from g.last) version (λ x. refl) bytes
at_then version at_names g bytes = behind_then (λ n. stands version (in_names n) g) (number_from w32) version (λ x. refl) bytes
at_then version (in_names zero) g bytes = refl
at_then version (in_names (suc n)) g bytes = behind_then (λ x. stands version (in_items x.1 n) (named g x.0)) (history_head_from g.name) version (λ x. refl) bytes
at_then version (in_items zero names) g bytes = refl
at_then version (in_items (suc n) names) g bytes = behind_then (λ item. stands version (in_items n names) (with_item g item)) (item_from version) version (λ x. refl) bytes

left_follows : (s : Standing) (bytes : List ℕ) → left_from s bytes ≡ step_then s bytes
left_follows s bytes = at_then s.version s.stage s.gathered bytes

-- ---- what is left once a step was taken

module _ (s : Standing) (bytes : List ℕ) where
  goes : (x : Standing × List ℕ) → step_from s bytes ≡ Ok x → (more : List ℕ) → left_from s (bytes ++ more) ≡ left_from x.0 (x.1 ++ more)
  goes x e more = left_follows s (bytes ++ more) ∙ ap (λ (r : Answer Standing). r >>= λ y. left_from y.0 y.1) (by (subst (λ (r : Answer Standing). Stands more r (step_from s (bytes ++ more))) e (step_stable s bytes more)))
    where
      by : Stands more (Ok x) (step_from s (bytes ++ more)) → step_from s (bytes ++ more) ≡ Ok (x.0, x.1 ++ more)
      by (inl early) = absurd early
      by (inr same) = same

  stops : (kind : FaultKind) (rest : List ℕ) → step_from s bytes ≡ Err (kind, rest) → kind ≢ Cut → (more : List ℕ) → left_from s (bytes ++ more) ≡ Err (kind, rest ++ more)
  stops kind rest e other more = left_follows s (bytes ++ more) ∙ ap (λ (r : Answer Standing). r >>= λ y. left_from y.0 y.1) (by (subst (λ (r : Answer Standing). Stands more r (step_from s (bytes ++ more))) e (step_stable s bytes more)))
    where
      by : Stands more (Err (kind, rest)) (step_from s (bytes ++ more)) → step_from s (bytes ++ more) ≡ Err (kind, rest ++ more)
      by (inl early) = absurd (other early)
      by (inr same) = same

  early : EndsEarly (step_from s bytes) → EndsEarly (left_from s bytes)
  early e = subst (λ (r : Answer Versioned). EndsEarly r) (sym (left_follows s bytes)) (by (step_from s bytes) e)
    where
      by : (r : Answer Standing) → EndsEarly r → EndsEarly (r >>= λ y. left_from y.0 y.1)
      by (Ok x) e = absurd e
      by (Err f) e = e

names_at : (next : Next) → stage_of next ≡ in_names 0 → next ≡ Names 0
names_at (Names names) e = cc
names_at at_head e = absurd cc
names_at (Undos undos) e = absurd cc
names_at (Ops ops undos) e = absurd cc
names_at (ExpiredCount undos) e = absurd cc
names_at (Expired expired undos) e = absurd cc
names_at CoinCount e = absurd cc
names_at (Coins coins) e = absurd cc
names_at NameCount e = absurd cc
names_at (Items items names) e = absurd cc

pub turn_step : (old new : Reading) (bytes : List ℕ) (result : Result (Option (Bor (List ℕ))) Stop) → old.next ≢ Names 0 → Turns old bytes new result → Steps old bytes new result
turn_step old new bytes (Ok (Some rest)) on e =
    (goes (standing old) bytes (standing new, rest.now) e, step_ends (standing old) bytes (standing new, rest.now) (λ (at : stage_of old.next ≡ in_names 0). on (names_at old.next at)) e)
turn_step old new bytes (Ok None) on e = (e.0, inr (early (standing old) bytes e.1))
turn_step old new bytes (Err (At fault)) on e = (stops (standing old) bytes fault.kind fault.rest.now e.0 e.1, e.1)
turn_step old new bytes (Err NoMemory) on e = tt

-- a byte behind the last name
pub end_stops : (r : Reading) (bytes : List ℕ) (kind : FaultKind) (rest : List ℕ) → r.next ≡ Names 0 → (bytes ≡ [] → ⊥) → kind ≡ BadTag → rest ≡ bytes → StopsAt r bytes kind rest × (kind ≢ Cut)
end_stops r [] kind rest at some bad same = absurd (some refl)
end_stops r (b ∷ bytes) kind rest at some bad same = (
  (λ more. ap (λ n. left_from (standing_at n r) (b ∷ (bytes ++ more))) at ∙ (λ i. Err (sym bad i, sym same i ++ more))),
  (λ (cut : kind ≡ Cut). let not : BadTag ≡ Cut = sym bad ∙ cut in absurd cc),
)
