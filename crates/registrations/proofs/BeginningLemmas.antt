-- Items that begin their registration, name by name.
use Rattle.std.proofs.Common.{◌≡◌, ℕ, suc, Bool, true, false, cond, ◌||◌, List, [], ◌∷◌, ◌++◌, length, map, reverse, take, Some, None, refl, sym, ap, ◌∙◌, arith, true≢false, slice_get, ⊎_elim}
use Rattle.std.proofs.Math.Path.{fun_ext}
use Rattle.std.proofs.lemmas.Bool.{or_cases}
use Rattle.std.proofs.lemmas.List.Folds.{list_any-append}
use Rattle.std.specs.List.{list_any}
use Rattle.std.specs.Map.{keys_of}
use Rattle.std.specs.Str.{bytes_eq}
use Rattle.chain_names.specs.declared.coin.Item.{Item}
use Rattle.chain_names.specs.Changes.{without_entry}
use Rattle.chain_names.specs.Coins.{entry_of}
use Rattle.chain_names.specs.Points.{changed}
use Rattle.chain_names.specs.Tables.{NameSlots, names_in}
use Rattle.sound_states.proofs.HistoryLemmas.{no_entry}
use Rattle.chain_names.proofs.Changed.{bytes_eq-true, bytes_eq-self}
use Rattle.registrations.specs.Filling.{begun, all_begun}
use Rattle.registrations.specs.Told.{Histories}
use Rattle.registrations.proofs.ListLemmas.{reverse-more, middle, front_and_last, length-more, take_past}
use Rattle.registrations.proofs.NameLemmas.{changed_over, at_name, same_there, then_changed, unlisted}

-- ---- the items of one name

-- some items of a name were taken away, the last first
pub record IsEmptying (first now : Histories) (name : List ℕ) (items : List Item) : Type 0 where
  pub rest : now name ++ reverse items ≡ first name
  pub others : now ≡ changed bytes_eq first name (now name)

pub one_less : (first now next : Histories) (name : List ℕ) (items : List Item) (item : Item) → entry_of (now name) ≡ Some item
    → next ≡ changed bytes_eq now name (without_entry (now name)) → IsEmptying first now name items → IsEmptying first next name (items ++ item ∷ [])
one_less first now next name items item last e so =
    let changes = then_changed first now next name (without_entry (now name)) so.others e in
    record {
      rest =
          ap (λ l. l ++ reverse (items ++ item ∷ [])) changes.1 ∙ ap (λ l. without_entry (now name) ++ l) (reverse-more items item)
          ∙ sym (middle (without_entry (now name)) (reverse items) item) ∙ ap (λ l. l ++ reverse items) (front_and_last (now name) item last) ∙ so.rest;
      others = changes.0;
    }

pub shorter : (now next : Histories) (name : List ℕ) (item : Item) → entry_of (now name) ≡ Some item → next ≡ changed bytes_eq now name (without_entry (now name))
    → suc (length (next name)) ≡ length (now name)
shorter now next name item last e =
    let here : length (next name) ≡ length (without_entry (now name)) = ap (λ (ns : Histories). length (ns name)) e ∙ ap length (at_name now name (without_entry (now name))) in
    let whole = ap length (front_and_last (now name) item last) in
    omega (arith, here, whole, length-more (without_entry (now name)) item)

-- none is left
pub record IsEmptied (first now : Histories) (name : List ℕ) (items : List Item) : Type 0 where
  pub all : reverse items ≡ first name
  pub none : now ≡ changed bytes_eq first name []

pub all_taken : (first now next : Histories) (name : List ℕ) (items : List Item) → entry_of (now name) ≡ None → next ≡ changed bytes_eq now name (without_entry (now name))
    → IsEmptying first now name items → IsEmptied first next name items
all_taken first now next name items none e so =
    let empty = no_entry (now name) none in
    record {
      all = ap (λ l. l ++ reverse items) (sym empty) ∙ so.rest;
      none = e ∙ ap (λ ns. changed bytes_eq ns name (without_entry (now name))) so.others ∙ changed_over first name (now name) (without_entry (now name))
          ∙ ap (λ l. changed bytes_eq first name (without_entry l)) empty;
    }

-- the items were put back, the first first, and each begins its registration
pub record IsRefilling (first now : Histories) (name : List ℕ) (all items : List Item) : Type 0 where
  pub rest : now name ++ map begun (reverse items) ≡ first name ++ map begun (reverse all)
  pub others : now ≡ changed bytes_eq first name (now name)

pub one_more : (first now next : Histories) (name : List ℕ) (all items : List Item) (item put : Item) → put ≡ begun item
    → next ≡ changed bytes_eq now name (now name ++ put ∷ []) → IsRefilling first now name all (items ++ item ∷ []) → IsRefilling first next name all items
one_more first now next name all items item put is e so =
    let changes = then_changed first now next name (now name ++ put ∷ []) so.others e in
    record {
      rest =
          ap (λ l. l ++ map begun (reverse items)) changes.1 ∙ middle (now name) (map begun (reverse items)) put
          ∙ ap (λ (x : Item). now name ++ x ∷ map begun (reverse items)) is ∙ ap (λ l. now name ++ map begun l) (sym (reverse-more items item)) ∙ so.rest;
      others = changes.0;
    }

pub none_put : (first : Histories) (name : List ℕ) (all : List Item) → IsRefilling first first name all all
none_put first name all = record { rest = refl; others = sym (same_there first name (first name) refl) }

pub all_put : (first now : Histories) (name : List ℕ) (all items : List Item) → items ≡ [] → IsRefilling first now name all items
    → now ≡ changed bytes_eq first name (first name ++ map begun (reverse all))
all_put first now name all items e so =
    so.others ∙ ap (changed bytes_eq first name) (sym (nothing (now name)) ∙ ap (λ l. now name ++ map begun (reverse l)) (sym e) ∙ so.rest)
  where
    nothing : (xs : List Item) → xs ++ [] ≡ xs
    nothing [] = refl
    nothing (x ∷ xs) = ap (λ rest. x ∷ rest) (nothing xs)

-- all items of the name were taken away and put back
pub begun_whole : (first empty last : Histories) (name : List ℕ) (items : List Item) → IsEmptied first empty name items
    → last ≡ changed bytes_eq empty name (empty name ++ map begun (reverse items)) → last ≡ changed bytes_eq first name (map begun (first name))
begun_whole first empty last name items emptied e =
    let none : empty name ≡ [] = ap (λ (ns : Histories). ns name) emptied.none ∙ at_name first name [] in
    e ∙ ap (λ l. changed bytes_eq empty name (l ++ map begun (reverse items))) none ∙ ap (λ l. changed bytes_eq empty name (map begun l)) emptied.all
    ∙ ap (λ ns. changed bytes_eq ns name (map begun (first name))) emptied.none ∙ changed_over first name [] (map begun (first name))

-- ---- name after name

begun_twice : (items : List Item) → map begun (map begun items) ≡ map begun items
begun_twice [] = refl
begun_twice (item ∷ items) = ap (λ rest. begun item ∷ rest) (begun_twice items)

-- of the histories at first, each item of these names begins its registration now, and each other item may
pub record IsBeginning (listed : List (List ℕ)) (first now : Histories) : Type 0 where
  pub done : (name : List ℕ) → list_any (bytes_eq name) listed ≡ true → now name ≡ map begun (first name)
  pub still : (name : List ℕ) → map begun (now name) ≡ map begun (first name)

pub none_begun : (listed : List (List ℕ)) (first : Histories) → listed ≡ [] → IsBeginning listed first first
none_begun listed first e = record {
  done = λ name here. absurd (true≢false (sym here ∙ ap (list_any (bytes_eq name)) e));
  still = λ name. refl;
}

not_this : (listed : List (List ℕ)) (key name : List ℕ) → bytes_eq key name ≡ false → list_any (bytes_eq name) (listed ++ key ∷ []) ≡ true → list_any (bytes_eq name) listed ≡ true
not_this listed key name other here =
    let parts : (list_any (bytes_eq name) listed || list_any (bytes_eq name) (key ∷ [])) ≡ true = sym (list_any-append (bytes_eq name) listed (key ∷ [])) ∙ here in
    ⊎_elim (λ there. there) (λ this. absurd (apart (⊎_elim (λ same. same) (λ none. absurd (true≢false (sym none))) (or_cases (bytes_eq name key) false this))))
    (or_cases (list_any (bytes_eq name) listed) (list_any (bytes_eq name) (key ∷ [])) parts)
  where
    apart : bytes_eq name key ≡ true → ⊥
    apart same = true≢false (sym (bytes_eq-self key) ∙ ap (bytes_eq key) (sym (bytes_eq-true name key same)) ∙ other)

pub one_begun : (listed : List (List ℕ)) (key : List ℕ) (first now next : Histories) → next ≡ changed bytes_eq now key (map begun (now key)) → IsBeginning listed first now
    → IsBeginning (listed ++ key ∷ []) first next
one_begun listed key first now next e so = record {
  done = λ name here. ap (λ (ns : Histories). ns name) e ∙ done_by name here (bytes_eq key name) refl;
  still = λ name. ap (λ (ns : Histories). map begun (ns name)) e ∙ still_by name (bytes_eq key name) refl;
}
  where
    done_by : (name : List ℕ) → list_any (bytes_eq name) (listed ++ key ∷ []) ≡ true → (b : Bool) → bytes_eq key name ≡ b
        → cond b (map begun (now key)) (now name) ≡ map begun (first name)
    done_by name here true same = so.still key ∙ ap (λ n. map begun (first n)) (bytes_eq-true key name same)
    done_by name here false other = so.done name (not_this listed key name other here)

    still_by : (name : List ℕ) (b : Bool) → bytes_eq key name ≡ b → map begun (cond b (map begun (now key)) (now name)) ≡ map begun (first name)
    still_by name true same = begun_twice (now key) ∙ so.still key ∙ ap (λ n. map begun (first n)) (bytes_eq-true key name same)
    still_by name false other = so.still name

-- all names of the table are listed
pub whole_begun : (old new : NameSlots) (i : ℕ) → keys_of new ≡ keys_of old → slice_get (keys_of new) i ≡ None
    → IsBeginning (take i (keys_of old)) (names_in old) (names_in new) → names_in new ≡ all_begun (names_in old)
whole_begun old new i same past so = fun_ext (λ name. by name (list_any (bytes_eq name) (keys_of old)) refl)
  where
    by : (name : List ℕ) (b : Bool) → list_any (bytes_eq name) (keys_of old) ≡ b → names_in new name ≡ map begun (names_in old name)
    by name true here =
        so.done name (ap (list_any (bytes_eq name)) (take_past (keys_of old) i (ap (λ ks. slice_get ks i) (sym same) ∙ past)) ∙ here)
    by name false none =
        let was = unlisted old name none in
        let now = unlisted new name (ap (list_any (bytes_eq name)) same ∙ none) in
        now ∙ sym (ap (map begun) was)
