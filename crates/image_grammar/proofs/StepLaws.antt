-- The steps of the reading of an image: each stands whatever follows, and the rest is read from behind it.
use Rattle.std.proofs.Common.{◌≡◌, ℕ, zero, suc, List, inr, refl}
use Rattle.std.specs.Prelude.{Ok, Err}
use Rattle.std.specs.Int.{w32}
use Rattle.block_grammar.specs.Combinators.{◌>>=◌}
use Rattle.undo_records.specs.declared.version.Version.{Version}
use Rattle.undo_records.specs.Reading.{Reads, number_from, op_from, item_from, held_from}
use Rattle.image_grammar.specs.Reading.{entry_from, history_head_from, undo_head_from}
use Rattle.image_grammar.specs.Resuming.{Answer, IsStable}
use Rattle.image_grammar.specs.Stages.{Gathered, Stage, head, in_undos, in_ops, at_expired, in_expired, at_coins, in_coins, at_names, in_names, in_items}
use Rattle.image_grammar.specs.Stages.{Standing, stands, nothing_of, begun, with_op, with_expired, without_last, with_entry, named, with_item, opening_from, rest_at, rest_from, step_at, step_from, step_then}
use Rattle.image_grammar.proofs.StableLaws.{map_stable, number_stable}
use Rattle.image_grammar.proofs.ValueLaws.{opening_stable, undo_head_stable, op_stable, held_stable, entry_stable, history_head_stable, item_stable}

-- ---- each step stands

at_stable : (version : Version) (stage : Stage) (g : Gathered) → IsStable (step_at version stage g)
at_stable version head g = map_stable _ opening_from opening_stable
at_stable version (in_undos zero) g = λ bytes more. inr refl
at_stable version (in_undos (suc n)) g = map_stable _ undo_head_from undo_head_stable
at_stable version (in_ops zero undos) g = λ bytes more. inr refl
at_stable version (in_ops (suc n) undos) g = map_stable _ (op_from version) (op_stable version)
at_stable version (at_expired undos) g = map_stable _ (number_from w32) (number_stable w32)
at_stable version (in_expired zero undos) g = λ bytes more. inr refl
at_stable version (in_expired (suc n) undos) g = map_stable _ (held_from g.last) (held_stable g.last)
at_stable version at_coins g = map_stable _ (number_from w32) (number_stable w32)
at_stable version (in_coins zero) g = λ bytes more. inr refl
at_stable version (in_coins (suc n)) g = map_stable _ (entry_from g.last) (entry_stable g.last)
at_stable version at_names g = map_stable _ (number_from w32) (number_stable w32)
at_stable version (in_names zero) g = λ bytes more. inr refl
at_stable version (in_names (suc n)) g = map_stable _ (history_head_from g.name) (history_head_stable g.name)
at_stable version (in_items zero names) g = λ bytes more. inr refl
at_stable version (in_items (suc n) names) g = map_stable _ (item_from version) (item_stable version)

pub step_stable : (s : Standing) → IsStable (step_from s)
step_stable s = at_stable s.version s.stage s.gathered

-- ---- and the rest follows it

-- a value is read, and then the rest: so it is where a step is made of the value
module _ {A : Type 0} (f : A → Standing) (read : Reads A) where
  abbrev made : A × List ℕ → Answer Standing
  made x = Ok (f x.0, x.1)

  abbrev rest_of : A × List ℕ → Answer Gathered
  rest_of x = rest_from (f x.0) x.1

  abbrev on_from : Standing × List ℕ → Answer Gathered
  on_from x = rest_from x.0 x.1

  seen_then : (bytes : List ℕ) → (read bytes >>= rest_of) ≡ ((read bytes >>= made) >>= on_from)
  seen_then bytes = by (read bytes)
    where
      by : (r : Answer A) → (r >>= rest_of) ≡ ((r >>= made) >>= on_from)
      by (Ok x) = refl
      by (Err e) = refl

at_then : (version : Version) (stage : Stage) (g : Gathered) (bytes : List ℕ) → rest_at version stage g bytes ≡ step_then (stands version stage g) bytes
at_then version head g bytes = seen_then (λ x. stands x.0.0 (in_undos x.1) (nothing_of x.0.1)) opening_from bytes
at_then version (in_undos zero) g bytes = refl
at_then version (in_undos (suc n)) g bytes = seen_then (λ x. stands version (in_ops x.1 n) (begun g x.0)) undo_head_from bytes
at_then version (in_ops zero undos) g bytes = refl
at_then version (in_ops (suc n) undos) g bytes = seen_then (λ op. stands version (in_ops n undos) (with_op g op)) (op_from version) bytes
at_then version (at_expired undos) g bytes = seen_then (λ n. stands version (in_expired n undos) g) (number_from w32) bytes
at_then version (in_expired zero undos) g bytes = refl
at_then version (in_expired (suc n) undos) g bytes = seen_then (λ held. stands version (in_expired n undos) (with_expired g held)) (held_from g.last) bytes
at_then version at_coins g bytes = seen_then (λ n. stands version (in_coins n) (without_last g)) (number_from w32) bytes
at_then version (in_coins zero) g bytes = refl
at_then version (in_coins (suc n)) g bytes = seen_then (λ held. stands version (in_coins n) (with_entry g held)) (entry_from g.last) bytes
at_then version at_names g bytes = seen_then (λ n. stands version (in_names n) g) (number_from w32) bytes
at_then version (in_names zero) g bytes = refl
at_then version (in_names (suc n)) g bytes = seen_then (λ x. stands version (in_items x.1 n) (named g x.0)) (history_head_from g.name) bytes
at_then version (in_items zero names) g bytes = refl
at_then version (in_items (suc n) names) g bytes = seen_then (λ item. stands version (in_items n names) (with_item g item)) (item_from version) bytes

pub step_follows : (s : Standing) (bytes : List ℕ) → rest_from s bytes ≡ step_then s bytes
step_follows s bytes = at_then s.version s.stage s.gathered bytes
