-- The elements of items that were made once.
use Rattle.std.specs.Prelude.{◌≡◌, List}
use Rattle.std.specs.List.{All}
use Rattle.serde_json.specs.Data.{Members}
use Rattle.ifa_value.specs.Elements.{elements_of}
use Rattle.ifa_value.specs.declared.made.MadeItem.{MadeItem}

-- each has the elements of its item of an object with these members
abbrev pub AreMade : Members → List MadeItem → Type 0
AreMade ms = All (λ m. m.elements.items ≡ elements_of m.key ms)
