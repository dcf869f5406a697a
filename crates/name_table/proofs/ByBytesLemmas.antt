-- Look-ups by the bytes of keys, before and after the entry at one key changed.
use Rattle.std.proofs.Common.{◌≡◌, ℕ, zero, suc, slice_get, Bool, true, false, cond, List, [], ◌∷◌, Option, Some, refl, sym, ap, subst, ◌∙◌, true≢false}
use Rattle.std.proofs.lemmas.Bool.{false_from_ne_true}
use Rattle.std.proofs.lemmas.Slice.Eq.{bytes_eq-Decides}
use Rattle.std.specs.List.{IsDistinct, AllByRecursion}
use Rattle.std.specs.Map.{lookup, keys_of, KeepsOthers}
use Rattle.std.specs.Option.{option_map}
use Rattle.std.specs.Str.{bytes_eq}
use Rattle.std.specs.declared.vec.Vec.{Vec}
use Rattle.name_table.specs.ByBytes.{by_bytes}

-- the key has these bytes
abbrev pub has_bytes : {A : Type 0} → List ℕ → Vec ℕ A → Bool
has_bytes name key = bytes_eq name key.items

module _ {A V : Type 0} where
  pub lookup-by_bytes : (name : List ℕ) (entries : List (Vec ℕ A × V))
      → lookup (bytes_eq name) (by_bytes entries) ≡ lookup (has_bytes name) entries
  lookup-by_bytes name [] = refl
  lookup-by_bytes name (entry ∷ entries) = ap (cond (has_bytes name entry.0) (Some entry.1)) (lookup-by_bytes name entries)

  pub found : (name : List ℕ) (entries : List (Vec ℕ A × V)) (entry : Option V)
      → lookup (has_bytes name) entries ≡ entry → lookup (bytes_eq name) (by_bytes entries) ≡ entry
  found name entries entry h = lookup-by_bytes name entries ∙ h

  -- the entry at one key is another, and those at the other keys are the same
  pub by_bytes-updates : (old new : List (Vec ℕ A × V)) (name : List ℕ) (entry : Option V)
      → lookup (has_bytes name) new ≡ entry
      → KeepsOthers (λ x y. bytes_eq x.items y.items) (has_bytes name) old new
      → (k : List ℕ) → lookup (bytes_eq k) (by_bytes new) ≡ cond (bytes_eq name k) entry (lookup (bytes_eq k) (by_bytes old))
  unfolding KeepsOthers
  by_bytes-updates old new name entry here others k = by (bytes_eq name k) refl
    where
      key_test : (x y : Vec ℕ A) → has_bytes k x ≡ true → has_bytes k y ≡ bytes_eq x.items y.items
      key_test x y h = ap (λ (b : List ℕ). bytes_eq b y.items) ((bytes_eq-Decides k x.items).0 h)

      apart : bytes_eq name k ≡ false → (x : Vec ℕ A) → has_bytes name x ≡ true → has_bytes k x ≡ false
      apart e x h = false_from_ne_true (has_bytes k x) (λ same.
          let one = (bytes_eq-Decides name x.items).0 h ∙ sym ((bytes_eq-Decides k x.items).0 same) in
          true≢false (sym ((bytes_eq-Decides name k).1 one) ∙ e))

      by : (b : Bool) → bytes_eq name k ≡ b → lookup (bytes_eq k) (by_bytes new) ≡ cond b entry (lookup (bytes_eq k) (by_bytes old))
      by true e = lookup-by_bytes k new ∙ subst (λ (n : List ℕ). lookup (has_bytes n) new ≡ entry) ((bytes_eq-Decides name k).0 e) here
      by false e = lookup-by_bytes k new ∙ others (has_bytes k) key_test (apart e) ∙ sym (lookup-by_bytes k old)

  -- keys with different bytes
  pub IsDistinct-by_bytes : (entries : List (Vec ℕ A × V))
      → IsDistinct (λ x y. bytes_eq x.items y.items) (keys_of entries) → IsDistinct bytes_eq (keys_of (by_bytes entries))
  unfolding IsDistinct
  IsDistinct-by_bytes [] h = tt
  IsDistinct-by_bytes (entry ∷ entries) h = (apart entry.0 entries h.0, IsDistinct-by_bytes entries h.1)
    where
      apart : (key : Vec ℕ A) (es : List (Vec ℕ A × V)) → AllByRecursion (λ (y : Vec ℕ A). bytes_eq key.items y.items ≡ false) (keys_of es)
          → AllByRecursion (λ (y : List ℕ). bytes_eq key.items y ≡ false) (keys_of (by_bytes es))
      apart key [] h = tt
      apart key (e ∷ es) h = (h.0, apart key es h.1)

  -- the key at a place
  pub slice_get-by_bytes : (entries : List (Vec ℕ A × V)) (i : ℕ)
      → slice_get (keys_of (by_bytes entries)) i ≡ option_map (λ (e : Vec ℕ A × V). e.0.items) (slice_get entries i)
  slice_get-by_bytes [] i = refl
  slice_get-by_bytes (entry ∷ entries) zero = refl
  slice_get-by_bytes (entry ∷ entries) (suc i) = slice_get-by_bytes entries i
