-- What was read, or the first fault, as the readers on lists give it.
use Rattle.std.specs.Prelude.{ℕ, List, Option, Some, None, Result, Ok, Err}
use Rattle.block_grammar.specs.declared.kinds.BlockKind.{BlockKind}
use Rattle.block_reader.specs.declared.parts.Stop.{Stop}

abbrev pub stopped : {X A : Type 0} → (X → A × List ℕ) → Result X Stop → Result (A × List ℕ) (BlockKind × List ℕ)
stopped view (Ok x) = Ok (view x)
stopped view (Err stop) = Err (stop.kind, stop.rest.now)

abbrev pub stopped_rest : {X : Type 0} → (X → List ℕ) → Result X Stop → Result (List ℕ) (BlockKind × List ℕ)
stopped_rest view (Ok x) = Ok (view x)
stopped_rest view (Err stop) = Err (stop.kind, stop.rest.now)

-- what was read, without the fault
abbrev pub found_at : {A E : Type 0} → Result (A × List ℕ) E → Option (A × List ℕ)
found_at (Ok x) = Some x
found_at (Err e) = None
