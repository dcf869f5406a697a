-- Sources that have no entry under a label.
use Rattle.std.proofs.Common.{◌≡◌, ℕ, suc, ◌+◌, ◌<◌, ◌≤◌, List, [], ◌∷◌, length, get_or, None, refl, arith, below_more}
use Rattle.serde_json.specs.Data.{Members}
use Rattle.std.proofs.Common.{false}
use Rattle.std.specs.Prelude.{is_some}
use Rattle.std.specs.List.{AllByRecursion}
use Rattle.ifa_value.specs.declared.item.Key.{Key}
use Rattle.ifa_value.specs.declared.item.Key.TheVariants as key
use Rattle.ifa_value.specs.Values.{item_of}
use Rattle.import_expand.specs.Sources.{Live, entries, child_of, first_of, EndsNoWay}
use Rattle.import_expand.specs.Books.{IsAt, Shows}
use Rattle.import_expand.specs.Rooms.{IsPlain}

-- of the first so many of these numbers' objects this is so
abbrev pub AllAre : (Members → Type 0) → List Members → List ℕ → ℕ → Type 0
AllAre P os numbers n = (k : ℕ) → k < n → (o : Members) → IsAt os (get_or numbers k 0) o → P o

pub one_more : (P : Members → Type 0) (os : List Members) (numbers : List ℕ) (n at : ℕ) → get_or numbers n 0 ≡ at → ((o : Members) → IsAt os at o → P o) → AllAre P os numbers n → AllAre P os numbers (n + 1)
one_more P os numbers n at e so have = below_more _ _ have (λ o here. so o (rw e at here))

-- what is so of all is so of the objects that they show
all_shown : (P : Members → Type 0) (os : List Members) (is : List ℕ) (ns : List Members) → Shows os is ns → AllAre P os is (length is) → AllByRecursion P ns
all_shown P os [] [] h so = tt
all_shown P os (i ∷ is) (n ∷ ns) h so = (so 0 (omega arith) n h.0, all_shown P os is ns h.1 (λ k l o here. so (suc k) (omega arith) o here))
all_shown P os [] (n ∷ ns) h so = absurd h
all_shown P os (i ∷ is) [] h so = absurd h

first_none : (key : Key) (ns : List Members) → AllByRecursion (λ o. is_some (item_of key o) ≡ false) ns → first_of key ns ≡ None
first_none key [] none = refl
first_none key (n ∷ ns) none = rw none.0 (first_none key ns none.1)

only : (P Q : Members → Type 0) (ns : List Members) → ((o : Members) → P o → Q o) → AllByRecursion P ns → AllByRecursion Q ns
only P Q [] weaker so = tt
only P Q (n ∷ ns) weaker so = (weaker n so.0, only P Q ns weaker so.1)

pub all_plain : (os : List Members) (numbers : List ℕ) (n : ℕ) (ns : List Members) → length numbers ≤ n → AllAre EndsNoWay os numbers n → Shows os numbers ns → IsPlain ns
all_plain os numbers n ns over so shown =
    let none : AllByRecursion EndsNoWay ns = all_shown EndsNoWay os numbers ns shown (λ k l. so k (omega arith)) in
    record {
      ns = first_none key.Ns ns (only EndsNoWay (λ o. is_some (item_of key.Ns o) ≡ false) ns (λ o e. e.ns) none);
      translate = first_none key.Translate ns (only EndsNoWay (λ o. is_some (item_of key.Translate o) ≡ false) ns (λ o e. e.translate) none);
    }

-- where no source has an entry under a label, the child is that under `*`
pub child_of_any : (live : Live) (ns : List Members) (label : List ℕ) → entries label ns ≡ [] → child_of live ns (42 ∷ []) ≡ child_of live ns label
child_of_any live ns label none = by_case (entries (42 ∷ []) ns) refl
  where
    by_case : (any : List Members) → entries (42 ∷ []) ns ≡ any → child_of live ns (42 ∷ []) ≡ child_of live ns label
    by_case [] e = rw (none, e) refl
    by_case (x ∷ xs) e = rw (none, e) refl
