-- How much JSON a value is: no more than the bytes of any text of it.
use Rattle.std.specs.Prelude.{ℕ, ◌+◌, length}
use Rattle.serde_json.specs.Data.{Data, null, boolean, number, string, array, object, Items, no_items, item, Members, no_members, member}

-- A string with its quotes, a list and an object with their brackets, a member with the quotes of its key and the colon; anything else
-- counts as one byte.
abbrev mutual
  pub size : Data → ℕ
  size null = 1
  size (boolean b) = 1
  size (number n) = 1
  size (string s) = 2 + length s
  size (array ds) = 2 + items_size ds
  size (object ms) = 2 + members_size ms

  pub items_size : Items → ℕ
  items_size no_items = 0
  items_size (item d ds) = size d + items_size ds

  pub members_size : Members → ℕ
  members_size no_members = 0
  members_size (member k d ms) = (3 + length k) + (size d + members_size ms)
