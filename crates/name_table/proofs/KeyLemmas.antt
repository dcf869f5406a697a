-- The keys of a table, where an entry is written through, and where a new one goes last.
use Rattle.std.proofs.Common.{◌≡◌, ℕ, Bool, true, false, List, [], ◌∷◌, map, refl, sym, ap, ◌∙◌}
use Rattle.std.specs.List.{list_any}
use Rattle.std.specs.Map.{keys_of}
use Rattle.std.specs.Str.{bytes_eq}
use Rattle.std.specs.declared.vec.Vec.{Vec}
use Rattle.indexmap.specs.IndexMap.{insert_entry}
use Rattle.indexmap.specs.IndexSet.{insert_key}
use Rattle.name_table.specs.ByBytes.{by_bytes}

-- a key that isn't the first goes behind it
later : (keys : List (List ℕ)) (first name : List ℕ) (any : Bool) → list_any (bytes_eq name) keys ≡ any → bytes_eq name first ≡ false
    → first ∷ insert_key bytes_eq keys name ≡ insert_key bytes_eq (first ∷ keys) name
later keys first name true any other = rw (other, any) refl
later keys first name false any other = rw (other, any) refl

module _ {A V : Type 0} where
  pub keys_of-by_bytes : (entries : List (Vec ℕ A × V)) → keys_of (by_bytes entries) ≡ map (λ (key : Vec ℕ A). key.items) (keys_of entries)
  keys_of-by_bytes [] = refl
  keys_of-by_bytes (entry ∷ entries) = ap (λ ks. entry.0.items ∷ ks) (keys_of-by_bytes entries)

  -- equal keys have equal bytes
  pub same_keys : (old new : List (Vec ℕ A × V)) → keys_of new ≡ keys_of old → keys_of (by_bytes new) ≡ keys_of (by_bytes old)
  same_keys old new same = keys_of-by_bytes new ∙ ap (map (λ (key : Vec ℕ A). key.items)) same ∙ sym (keys_of-by_bytes old)

  pub inserted_keys : (entries : List (Vec ℕ A × V)) (key : Vec ℕ A) (value : V)
      → keys_of (by_bytes (insert_entry (λ x y. bytes_eq x.items y.items) entries key value)) ≡ insert_key bytes_eq (keys_of (by_bytes entries)) key.items
  inserted_keys [] key value = refl
  inserted_keys (entry ∷ entries) key value = by (bytes_eq key.items entry.0.items) refl (inserted_keys entries key value)
    where
      by : (here : Bool) → bytes_eq key.items entry.0.items ≡ here
          → keys_of (by_bytes (insert_entry (λ x y. bytes_eq x.items y.items) entries key value)) ≡ insert_key bytes_eq (keys_of (by_bytes entries)) key.items
          → keys_of (by_bytes (insert_entry (λ x y. bytes_eq x.items y.items) (entry ∷ entries) key value)) ≡ insert_key bytes_eq (keys_of (by_bytes (entry ∷ entries))) key.items
      by true here rest = rw here refl
      by false other rest =
          let front : keys_of (by_bytes (insert_entry (λ x y. bytes_eq x.items y.items) (entry ∷ entries) key value)) ≡ entry.0.items ∷ keys_of (by_bytes (insert_entry (λ x y. bytes_eq x.items y.items) entries key value)) = rw other refl in
          front ∙ ap (λ keys. entry.0.items ∷ keys) rest ∙ later (keys_of (by_bytes entries)) entry.0.items key.items _ refl other
