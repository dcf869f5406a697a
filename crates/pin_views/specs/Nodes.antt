-- What a pile's root is seen as, and what holds of it.
use Rattle.std.specs.Prelude.{◌≡◌, ◌+◌, ◌^◌, ◌≤◌, List, ◌∷◌, ◌++◌, length, Option, Some, None}
use Rattle.std.specs.declared.alloc.Global.{Global}
use Rattle.std.specs.declared.rc.Rc.{Rc}
use Rattle.pin_views.specs.Piles.{Heap, empty, joined}
use Rattle.pin_views.specs.declared.pile.Node.{Node}

abbrev pub heap_of : {T : Type 0} → Option (Rc (Node T) Global) → Heap T
heap_of None = empty
heap_of (Some n) = joined n.value.left n.value.item.value n.value.right

-- its counts are right, its left is full, and its right is no longer and no deeper
pub record IsFilled {T : Type 0} (n : Node T) : Type 0 where
  pub before : n.before ≡ length n.left.items
  pub size : n.size ≡ length n.left.items + length n.right.items + 1
  pub full : length n.left.items + 1 ≡ 2 ^ n.left.depth
  pub fewer : length n.right.items ≤ length n.left.items
  pub level : n.right.depth ≤ n.left.depth

abbrev pub IsFit : {T : Type 0} → Option (Rc (Node T) Global) → Type 0
IsFit None = Unit {0}
IsFit (Some n) = IsFilled n.value
