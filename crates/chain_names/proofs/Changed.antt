-- Functions with another value at one key, and what is read of a table once its entry at one key changed.
use Rattle.std.proofs.Common.{◌≡◌, ℕ, Bool, true, false, cond, List, [], ◌∷◌, Option, Some, refl, sym, ap, ◌∙◌}
use Rattle.std.proofs.Math.Path.{fun_ext}
use Rattle.std.proofs.lemmas.Bool.{cond-true}
use Rattle.std.proofs.lemmas.Slice.Eq.{bytes_eq-Decides}
use Rattle.std.specs.Bool.{Decides}
use Rattle.std.specs.Map.{lookup, set_value}
use Rattle.std.specs.Str.{bytes_eq}
use Rattle.nmc_base.specs.declared.hashes.OutPoint.{OutPoint}
use Rattle.chain_names.specs.Points.{same_point, changed}
pub use Rattle.chain_names.proofs.Points.{same_point-self}

module _ {K : Type 0} (same : K → K → Bool) (equal : (a b : K) → same a b ≡ true → a ≡ b) where
  -- a change to the value that is there changes nothing
  pub changed-kept : {V : Type 0} (f : K → V) (key : K) (value : V) → f key ≡ value → changed same f key value ≡ f
  changed-kept f key value here = fun_ext (λ k. by k (same key k) refl)
    where
      by : (k : K) (b : Bool) → same key k ≡ b → cond b value (f k) ≡ f k
      by k true e = sym here ∙ ap f (equal key k e)
      by k false e = refl

module _ {K V : Type 0} {same : K → K → Bool} (decides : (a b : K) → Decides (same a b) (a ≡ b)) where
  pub changed_at : (f : K → V) (k : K) (v : V) → changed same f k v k ≡ v
  changed_at f k v = let e : same k k ≡ true = (decides k k).1 refl in rw e refl

  -- what it was before is there again
  pub changed_back : (f : K → V) (k : K) (v w : V) → f k ≡ v → changed same (changed same f k w) k v ≡ f
  changed_back f k v w e = fun_ext (λ q. by q (same k q) refl)
    where
      by : (q : K) (b : Bool) → same k q ≡ b → cond b v (cond b w (f q)) ≡ f q
      by q true is = sym e ∙ ap f ((decides k q).0 is)
      by q false is = refl

  -- the value that is there already
  pub changed_kept : (f : K → V) (k : K) (v : V) → f k ≡ v → changed same f k v ≡ f
  changed_kept f k v e = changed-kept same (λ a b. (decides a b).0) f k v e

  -- a value that both have
  pub changed_still : (f : K → V) (k q : K) (v : V) → f q ≡ v → changed same f k v q ≡ v
  changed_still f k q v e = still (same k q)
    where
      still : (b : Bool) → cond b v (f q) ≡ v
      still true = refl
      still false = e

-- a map of the values
pub changed_mapped : {K V W : Type 0} (same : K → K → Bool) (g : V → W) (f : K → V) (k : K) (v : V) → (λ q. g (changed same f k v q)) ≡ changed same (λ q. g (f q)) k (g v)
changed_mapped same g f k v = fun_ext (λ q. mapped (same k q) (f q))
  where
    mapped : (b : Bool) (x : _) → g (cond b v x) ≡ cond b (g v) (g x)
    mapped true x = refl
    mapped false x = refl

-- and so are lists with the same bytes
pub bytes_eq-true : (a b : List ℕ) → bytes_eq a b ≡ true → a ≡ b
bytes_eq-true a b h = (bytes_eq-Decides a b).0 h

pub bytes_eq-self : (a : List ℕ) → bytes_eq a a ≡ true
bytes_eq-self a = (bytes_eq-Decides a a).1 refl

-- what a changed function gives at the key that it was changed at
at_changed : {K V : Type 0} (same : K → K → Bool) (self : (a : K) → same a a ≡ true) (f before : K → V) (key : K) (value : V)
    → f ≡ changed same before key value → f key ≡ value
at_changed {K = K} {V = V} same self f before key value is =
    ap (λ (g : K → V). g key) is ∙ cond-true (same key key) value (before key) (self key)

pub same_point-at_changed : {V : Type 0} (f before : OutPoint → V) (point : OutPoint) (value : V)
    → f ≡ changed same_point before point value → f point ≡ value
same_point-at_changed f before point value is = at_changed same_point same_point-self f before point value is

pub bytes_eq-at_changed : {V : Type 0} (f before : List ℕ → V) (name : List ℕ) (value : V)
    → f ≡ changed bytes_eq before name value → f name ≡ value
bytes_eq-at_changed f before name value is = at_changed bytes_eq bytes_eq-self f before name value is

module _ {K X Y : Type 0} (same : K → K → Bool) (read : Option X → Y) where
  -- what is read of the entries at each key
  abbrev pub read_at : List (K × X) → K → Y
  read_at entries = λ key. read (lookup (same key) entries)

  -- once the entry at one key is another, only what is read there is another
  pub read_at-changed : (old new : List (K × X)) (key : K) (entry : Option X)
      → ((k : K) → lookup (same k) new ≡ cond (same key k) entry (lookup (same k) old))
      → read_at new ≡ changed same (read_at old) key (read entry)
  read_at-changed old new key entry updates = fun_ext (λ k. ap read (updates k) ∙ by (same key k) (lookup (same k) old))
    where
      by : (b : Bool) (before : Option X) → read (cond b entry before) ≡ cond b (read entry) (read before)
      by true before = refl
      by false before = refl

  -- and where the other entry reads as the one before it, everything reads the same
  pub read_at-kept : ((a b : K) → same a b ≡ true → a ≡ b) → (old new : List (K × X)) (key : K) (entry : Option X)
      → ((k : K) → lookup (same k) new ≡ cond (same key k) entry (lookup (same k) old))
      → read (lookup (same key) old) ≡ read entry
      → read_at new ≡ read_at old
  read_at-kept equal old new key entry updates here =
      read_at-changed old new key entry updates ∙ changed-kept same equal (read_at old) key (read entry) here

module _ {K X : Type 0} (test : K → Bool) where
  -- a value that is there, written again
  pub set_value-same : (entries : List (K × X)) (value : X) → lookup test entries ≡ Some value → set_value test entries value ≡ entries
  set_value-same [] value h = refl
  set_value-same (entry ∷ entries) value h = by (test entry.0) h (set_value-same entries value)
    where
      by : (b : Bool) → cond b (Some entry.1) (lookup test entries) ≡ Some value
          → (lookup test entries ≡ Some value → set_value test entries value ≡ entries)
          → cond b ((entry.0, value) ∷ entries) (entry ∷ set_value test entries value) ≡ entry ∷ entries
      by true e rest = let v : entry.1 ≡ value = cc in ap (λ (w : X). (entry.0, w) ∷ entries) (sym v)
      by false e rest = ap (λ (es : List (K × X)). entry ∷ es) (rest e)
