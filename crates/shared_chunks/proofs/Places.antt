-- What a look-up, a write and a removal are at a key's place.
use Rattle.std.proofs.Common.{◌≡◌, ℕ, suc, List, [], ◌∷◌, ◌++◌, length, drop, Some, None, refl, sym, ap}
use Rattle.std.proofs.lemmas.List.{take_at, drop_at}
use Rattle.std.specs.List.{AllByRecursion, insert, remove, slice_get}
use Rattle.std.specs.declared.cmp.Ordering.{Ordering}
use Rattle.std.specs.declared.cmp.Ordering.TheVariants.{Less, Equal, Greater}
use Rattle.shared_chunks.specs.Pairs.{value_at, with_pair, without_key}

module _ {X : Type 0} where
  pub insert_at : (a b : List X) (x : X) (n : ℕ) → length a ≡ n → insert (a ++ b) n x ≡ a ++ x ∷ b
  insert_at a b x n e = rw (take_at a b n e, drop_at a b n e)

  pub drop_suc_at : (a : List X) (x : X) (b : List X) (n : ℕ) → length a ≡ n → drop (suc n) (a ++ x ∷ b) ≡ b
  drop_suc_at [] x b n e = rw (sym e)
  drop_suc_at (y ∷ a) x b n e = rw (sym e) (drop_suc_at a x b (length a) refl)

  pub remove_at : (a : List X) (x : X) (b : List X) (n : ℕ) → length a ≡ n → remove (a ++ x ∷ b) n ≡ a ++ b
  remove_at a x b n e = rw (take_at a (x ∷ b) n e, drop_suc_at a x b n e)

  pub slice_get_at : (a : List X) (x : X) (b : List X) (n : ℕ) → length a ≡ n → slice_get (a ++ x ∷ b) n ≡ Some x
  slice_get_at [] x b n e = rw (sym e)
  slice_get_at (y ∷ a) x b n e = rw (sym e) (slice_get_at a x b (length a) refl)

module _ {K V : Type 0} (cmp : K → K → Ordering) (key : K) where
  pub with_pair-gap : (a b : List (K × V)) (value : V) → AllByRecursion (λ p. cmp key p.0 ≡ Greater) a → AllByRecursion (λ p. cmp key p.0 ≡ Less) b → with_pair cmp (a ++ b) key value ≡ a ++ (key, value) ∷ b
  with_pair-gap [] [] value lower higher = refl
  with_pair-gap [] (p ∷ b) value lower higher = rw higher.0
  with_pair-gap (p ∷ a) b value lower higher = rw lower.0 (ap (λ z. p ∷ z) (with_pair-gap a b value lower.1 higher))

  pub with_pair-at : (a : List (K × V)) (p : K × V) (b : List (K × V)) (value : V) → AllByRecursion (λ q. cmp key q.0 ≡ Greater) a → cmp key p.0 ≡ Equal → with_pair cmp (a ++ p ∷ b) key value ≡ a ++ (key, value) ∷ b
  with_pair-at [] p b value lower equal = rw equal
  with_pair-at (q ∷ a) p b value lower equal = rw lower.0 (ap (λ z. q ∷ z) (with_pair-at a p b value lower.1 equal))

  pub value_at-gap : (a b : List (K × V)) → AllByRecursion (λ p. cmp key p.0 ≡ Greater) a → AllByRecursion (λ p. cmp key p.0 ≡ Less) b → value_at cmp (a ++ b) key ≡ None
  value_at-gap [] [] lower higher = refl
  value_at-gap [] (p ∷ b) lower higher = rw higher.0 (value_at-gap [] b tt higher.1)
  value_at-gap (p ∷ a) b lower higher = rw lower.0 (value_at-gap a b lower.1 higher)

  pub value_at-at : (a : List (K × V)) (p : K × V) (b : List (K × V)) → AllByRecursion (λ q. cmp key q.0 ≡ Greater) a → cmp key p.0 ≡ Equal → value_at cmp (a ++ p ∷ b) key ≡ Some p.1
  value_at-at [] p b lower equal = rw equal
  value_at-at (q ∷ a) p b lower equal = rw lower.0 (value_at-at a p b lower.1 equal)

  pub without_key-at : (a : List (K × V)) (p : K × V) (b : List (K × V)) → AllByRecursion (λ q. cmp key q.0 ≡ Greater) a → cmp key p.0 ≡ Equal → without_key cmp (a ++ p ∷ b) key ≡ a ++ b
  without_key-at [] p b lower equal = rw equal
  without_key-at (q ∷ a) p b lower equal = rw lower.0 (ap (λ z. q ∷ z) (without_key-at a p b lower.1 equal))

  pub without_key-gap : (a b : List (K × V)) → AllByRecursion (λ p. cmp key p.0 ≡ Greater) a → AllByRecursion (λ p. cmp key p.0 ≡ Less) b → without_key cmp (a ++ b) key ≡ a ++ b
  without_key-gap [] [] lower higher = refl
  without_key-gap [] (p ∷ b) lower higher = rw higher.0 (ap (λ z. p ∷ z) (without_key-gap [] b tt higher.1))
  without_key-gap (p ∷ a) b lower higher = rw lower.0 (ap (λ z. p ∷ z) (without_key-gap a b lower.1 higher))
