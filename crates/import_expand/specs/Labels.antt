-- Whether a label may be among the labels of a map, by the numbers that stand for them.
use Rattle.std.specs.Prelude.{◌≡◌, ℕ, suc, ◌*◌, ◌/◌, ◌%◌, ◌^◌, ◌<◌, ◌==◌, List, length, get_or, Bool}
use Rattle.std.specs.List.{list_any}
use Rattle.ifa_value.specs.Labels.{label_number}

-- whether a label's number is among these
abbrev pub is_among : List ℕ → List ℕ → Bool
is_among numbers label = list_any (λ n. n == label_number label) numbers

-- where the mark of a number stands
abbrev pub mark_at : ℕ → ℕ → ℕ
mark_at factor n = (n * factor) % 2 ^ 64 / 2 ^ 56

-- the mark of the number of this place: the place, from 1 on, or that several may have it
abbrev pub IsMark : ℕ → ℕ → Type 0
IsMark place mark = (mark ≡ suc place → ⊥) → mark ≡ 255

-- each of these numbers has its mark
abbrev pub AreMarked : ℕ → List ℕ → List ℕ → Type 0
AreMarked factor marks numbers = (k : ℕ) → k < length numbers → IsMark k (get_or marks (mark_at factor (get_or numbers k 0)) 0)
