-- What is read of the table, once the entry at one name is another.
use Rattle.std.proofs.Common.{◌≡◌, ◌≤◌, ℕ, Bool, true, false, cond, List, [], Option, Some, None, is_some, Result, Ok, Err, refl, sym, ap, subst, true≢false, arith}
use Rattle.std.specs.Map.{lookup, KeepsOthers}
use Rattle.std.specs.Result.{OnOk}
use Rattle.std.specs.Str.{bytes_eq}
use Rattle.std.specs.declared.vec.Vec.{Vec}
use Rattle.nmc_base.specs.Roomy.{Roomy}
use Rattle.chain_names.specs.declared.coin.Item.{Item}
use Rattle.chain_names.specs.Coins.{entry_of}
use Rattle.chain_names.specs.Points.{changed}
use Rattle.chain_names.specs.Tables.{NameSlots, names_in, name_places, room_in, items_of, spare_of}
use Rattle.chain_names.proofs.Changed.{read_at-changed, changed-kept, bytes_eq-true}
use Rattle.name_table.specs.ByBytes.{by_bytes}
use Rattle.name_table.proofs.ByBytesLemmas.{has_bytes, by_bytes-updates}
use Rattle.name_table.proofs.EntryLemmas.{is_some-entry_of}

-- the functions that are read of the table, where one name has another entry
pub record Reads (old new : NameSlots) (name : List ℕ) (entry : Option (Roomy Item)) : Type 0 where
  pub names : names_in new ≡ changed bytes_eq (names_in old) name (items_of entry)
  pub places : name_places new ≡ changed bytes_eq (name_places old) name (is_some entry)
  pub room : room_in new ≡ changed bytes_eq (room_in old) name (spare_of entry)

pub reads : {A : Type 0} (old new : List (Vec ℕ A × Roomy Item)) (name : List ℕ) (entry : Option (Roomy Item))
    → lookup (has_bytes name) new ≡ entry
    → KeepsOthers (λ x y. bytes_eq x.items y.items) (has_bytes name) old new
    → Reads (by_bytes old) (by_bytes new) name entry
reads old new name entry here others =
    let updates = by_bytes-updates old new name entry here others in
    record {
      names = read_at-changed bytes_eq items_of (by_bytes old) (by_bytes new) name entry updates;
      places = read_at-changed bytes_eq is_some (by_bytes old) (by_bytes new) name entry updates;
      room = read_at-changed bytes_eq spare_of (by_bytes old) (by_bytes new) name entry updates;
    }

-- a change to the value that is there
pub kept : {V : Type 0} (f : List ℕ → V) (name : List ℕ) (value : V) → f name ≡ value → changed bytes_eq f name value ≡ f
kept f name value h = changed-kept bytes_eq bytes_eq-true f name value h

-- where only one name's room changed and it didn't fall, no room fell
pub no_room_fell : (before after : List ℕ → ℕ) (name : List ℕ) → after ≡ changed bytes_eq before name (after name) → before name ≤ after name
    → (other : List ℕ) → before other ≤ after other
no_room_fell before after name others here other =
    subst (λ (n : ℕ). before other ≤ n) (sym (ap (λ (f : List ℕ → ℕ). f other) others)) (by (bytes_eq name other) refl)
  where
    by : (b : Bool) → bytes_eq name other ≡ b → before other ≤ cond b (after name) (before other)
    by true e = subst (λ (n : List ℕ). before n ≤ after name) (bytes_eq-true name other e) here
    by false e = omega arith

-- a name with no place has no value and no room
pub no_items : (entry : Option (Roomy Item)) → is_some entry ≡ false → items_of entry ≡ []
no_items None h = refl
no_items (Some history) h = absurd (true≢false h)

pub no_spare : (entry : Option (Roomy Item)) → is_some entry ≡ false → spare_of entry ≡ 0
no_spare None h = refl
no_spare (Some history) h = absurd (true≢false h)

-- a name with values has a place and an entry
pub has_entry : (entry : Option (Roomy Item)) → (items_of entry ≡ [] → ⊥) → is_some (entry_of (items_of entry)) ≡ true
has_entry entry some = is_some-entry_of (items_of entry) some

pub has_place : (entry : Option (Roomy Item)) → (items_of entry ≡ [] → ⊥) → is_some entry ≡ true
has_place None some = absurd (some refl)
has_place (Some history) some = refl

-- what holds whatever the result
pub on_ok_from : {T E P : Type 0} (result : Result T E) → P → OnOk result P
on_ok_from (Ok value) h = h
on_ok_from (Err error) h = tt
