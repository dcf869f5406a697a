-- What stands on the shelf is read, also where an object is found there, or joins.
use Rattle.std.proofs.Common.{◌≡◌, ℕ, List, [], ◌∷◌, slice_get, Option, Some, None, Contains, refl, sym, ap, ◌∙◌, subst, inl, inr, arith}
use Rattle.std.specs.Option.{IfSome}
use Rattle.std.specs.Str.{bytes_eq}
use Rattle.std.specs.Cmp.Lexicographic.{bytes_decides}
use Rattle.std.proofs.lemmas.Option.{none-some, same_Some}
use Rattle.lru.specs.LruCache.{LruCache, promoted, put_entries}
use Rattle.lru.proofs.CallerLemmas.{Contains-promoted, Contains-put_entries}
use Rattle.ifa_value.specs.declared.object.IfaObject.{IfaObject}
use Rattle.ifa_value.specs.Object.{members}
use Rattle.ifa_value.specs.Values.{object_of}
use Rattle.import_expand.specs.Shelf.{AreRead}

pub promoted_read : (sought : List ℕ) (es : List (List ℕ × IfaObject)) → AreRead es → AreRead (promoted (bytes_eq sought) es)
promoted_read sought es are text o is = are text o (Contains-promoted (bytes_eq sought) es (text, o) is)

pub put_read : (c : LruCache (List ℕ) IfaObject) (k : List ℕ) (v : IfaObject) → members v ≡ object_of k → AreRead c.entries → AreRead (put_entries bytes_eq c k v)
put_read c k v this are text o is = elim (Contains-put_entries bytes_eq c k v (text, o) is) [
  | inl there ↦ are text o there
  | inr put ↦ ap members put.0 ∙ this ∙ ap object_of (elim put.1 [
    | inl same ↦ sym same
    | inr other ↦ (bytes_decides k text).0 other.2
  ])
]

-- what was used last stands on the shelf
newest_there : (es : List (List ℕ × IfaObject)) (e : List ℕ × IfaObject) → Some e ≡ slice_get es 0 → Contains es e
newest_there [] e first = absurd (none-some e (sym first))
newest_there (f ∷ es) e first = subst (Contains (f ∷ es)) (sym (same_Some e f first)) (0, omega arith, refl)

shared_read : (r : Option IfaObject) (o : IfaObject) (text : List ℕ) → IfSome r (λ s. s ≡ o) → members o ≡ object_of text → IfSome r (λ s. members s ≡ object_of text)
shared_read None o text same is = tt
shared_read (Some s) o text same is = ap members same ∙ is

pub newest_read : (es : List (List ℕ × IfaObject)) (newest text : List ℕ) (o : IfaObject) (r : Option IfaObject) → AreRead es → Some (newest, o) ≡ slice_get es 0 → newest ≡ text → IfSome r (λ s. s ≡ o) → IfSome r (λ s. members s ≡ object_of text)
newest_read es newest text o r are first one same = shared_read r o text same (are newest o (newest_there es (newest, o) first) ∙ ap object_of one)
