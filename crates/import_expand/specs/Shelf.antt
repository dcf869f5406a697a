-- What stands on the shelf.
use Rattle.std.specs.Prelude.{◌≡◌, ℕ, List, Contains}
use Rattle.ifa_value.specs.Object.{members}
use Rattle.ifa_value.specs.Values.{object_of}
use Rattle.ifa_value.specs.declared.object.IfaObject.{IfaObject}

-- each object is that of its text
abbrev pub AreRead : List (List ℕ × IfaObject) → Type 0
AreRead entries = (text : List ℕ) (o : IfaObject) → Contains entries (text, o) → members o ≡ object_of text
