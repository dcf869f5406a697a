-- What objects added that were asked, and what they add again.
use Rattle.std.proofs.Common.{◌≡◌, ℕ, zero, suc, ◌+◌, ◌-◌, ◌<◌, ◌≤◌, List, [], ◌∷◌, ◌++◌, length, take, drop, All, refl, sym, ap, subst, ◌∙◌, arith}
use Rattle.std.proofs.lemmas.List.{take_all, length-append}
use Rattle.std.proofs.lemmas.List.Elements.{All-push, All-weaker}
use Rattle.std.proofs.lemmas.Option.{same_Some}
use Rattle.serde_json.specs.Data.{Members}
use Rattle.import_expand.specs.Sources.{Live, under}
use Rattle.import_expand.specs.Books.{IsAt, Shows, Grows}
use Rattle.import_expand.specs.Joinings.{IsTold, AreTold, IsJoined}
use Rattle.import_expand.specs.declared.told.Joining.{Joining}
use Rattle.import_expand.specs.declared.told.Told.{Told}
use Rattle.import_expand.proofs.BookLemmas.{shows_later}
use Rattle.import_expand.proofs.ExpandLemmas.{nil_end, shows_by, shows_cut, shows_length, shows_same, shows_take, take_behind}

-- a stretch of a list that goes on behind it
stretch_more : {A : Type 0} (xs ys : List A) (first count : ℕ) → first + count ≤ length xs → take count (drop first (xs ++ ys)) ≡ take count (drop first xs)
stretch_more [] ys zero zero h = refl
stretch_more [] ys zero (suc count) h = absurd (omega arith)
stretch_more [] ys (suc first) count h = absurd (omega arith)
stretch_more (x ∷ xs) ys zero zero h = refl
stretch_more (x ∷ xs) ys zero (suc count) h = ap (λ l. x ∷ l) (stretch_more xs ys zero count (omega arith))
stretch_more (x ∷ xs) ys (suc first) count h = stretch_more xs ys first count (omega arith)

length_both : {A : Type 0} (xs ys : List A) → length (xs ++ ys) ≡ length xs + length ys
length_both xs ys = length-append xs ys

told_more_one : (live : Live) (os : List Members) (label : List ℕ) (ms more : List Members) (t : Told) → IsTold live os label ms t → IsTold live os label (ms ++ more) t
told_more_one live os label ms more t h = record {
  of = h.of;
  is_of = h.is_of;
  within = let l = length_both ms more in omega (arith, l, h.within);
  is = stretch_more ms more t.first t.count h.within ∙ h.is;
}

-- what was told still is where sources join, as far as there is room
pub told_more : (live : Live) (os : List Members) (label : List ℕ) (ms more : List Members) (told : List Told) → length ms ≤ 256 → AreTold live os label ms told → AreTold live os label (take 256 (ms ++ more)) told
told_more live os label ms more told few h =
    subst (λ (l : List Members). AreTold live os label l told) (sym (take_behind 256 ms more few))
    (All-weaker (IsTold live os label ms) (IsTold live os label (ms ++ take (256 - length ms) more)) (told_more_one live os label ms (take (256 - length ms) more)) told h)

told_later_one : (live : Live) (os later : List Members) (label : List ℕ) (ms : List Members) → Grows os later → (t : Told) → IsTold live os label ms t → IsTold live later label ms t
told_later_one live os later label ms g t h = record { of = h.of; is_of = g _ _ h.is_of; within = h.within; is = h.is }

pub told_later : (live : Live) (os later : List Members) (label : List ℕ) (ms : List Members) (told : List Told) → Grows os later → AreTold live os label ms told → AreTold live later label ms told
told_later live os later label ms told g h = All-weaker (IsTold live os label ms) (IsTold live later label ms) (told_later_one live os later label ms g) told h

-- what an object told is so of the object of its number
pub told_is : (live : Live) (os : List Members) (label : List ℕ) (o : Members) (ms : List Members) (t : Told) → IsTold live os label ms t → IsAt os t.of o → take t.count (drop t.first ms) ≡ under live label o
told_is live os label o ms t h here = h.is ∙ ap (under live label) (same_Some h.of o (sym h.is_of ∙ here))

shows_drop : (os : List Members) (n : ℕ) (is : List ℕ) (ms : List Members) → Shows os is ms → Shows os (drop n is) (drop n ms)
shows_drop os zero is ms h = h
shows_drop os (suc n) [] [] h = tt
shows_drop os (suc n) (i ∷ is) (m ∷ ms) h = shows_drop os n is ms h.1
shows_drop os (suc n) [] (m ∷ ms) h = absurd h
shows_drop os (suc n) (i ∷ is) [] h = absurd h

take_none : (n : ℕ) (xs : List ℕ) → xs ≡ [] → take n xs ≡ []
take_none zero xs e = refl
take_none (suc n) xs e = rw e refl

pub take_short : (n m : ℕ) (xs : List ℕ) → m ≤ n → take m xs ≡ take n (take m xs)
take_short n zero xs h = sym (take_none n (take 0 xs) refl)
take_short zero (suc m) xs h = absurd (omega arith)
take_short (suc n) (suc m) [] h = refl
take_short (suc n) (suc m) (x ∷ xs) h = ap (λ l. x ∷ l) (take_short n m xs (omega arith))

pub take_long : (n m : ℕ) (xs : List ℕ) → n ≤ m → take n xs ≡ take n (take m xs)
take_long zero m xs h = refl
take_long (suc n) zero xs h = absurd (omega arith)
take_long (suc n) (suc m) [] h = refl
take_long (suc n) (suc m) (x ∷ xs) h = ap (λ l. x ∷ l) (take_long n m xs (omega arith))

-- what an object added, once more
pub shows_again : (live : Live) (os : List Members) (label : List ℕ) (o : Members) (ms : List Members) (is now : List ℕ) (t : Told) → Shows os is ms → take t.count (drop t.first ms) ≡ under live label o → now ≡ take 256 (is ++ take t.count (drop t.first is)) → Shows os now (take 256 (ms ++ under live label o))
shows_again live os label o ms is now t shown same e =
    shows_cut os is (take t.count (drop t.first is)) now ms (under live label o) e shown
    (shows_same os _ _ _ same (shows_take os t.count (drop t.first is) (drop t.first ms) (shows_drop os t.first is ms shown)))

short : {A : Type 0} (n : ℕ) (xs : List A) → length (take n xs) < n → take n xs ≡ xs
short zero xs h = absurd (omega arith)
short (suc n) [] h = refl
short (suc n) (x ∷ xs) h = ap (λ l. x ∷ l) (short n xs (omega arith))

behind : {A : Type 0} (xs ys : List A) → drop (length xs) (xs ++ ys) ≡ ys
behind [] ys = refl
behind (x ∷ xs) ys = behind xs ys

-- what an object added just now, where there is room left
pub told_new : (live : Live) (os : List Members) (label : List ℕ) (o : Members) (ms : List Members) (now : List ℕ) (t : Told) → IsAt os t.of o → t.first ≡ length ms → t.count ≡ length now - t.first → length now < 256 → Shows os now (take 256 (ms ++ under live label o))
    → IsTold live os label (take 256 (ms ++ under live label o)) t
told_new live os label o ms now t here first count few shown =
    let xs : List Members = under live label o in
    let many : length now ≡ length (take 256 (ms ++ xs)) = shows_length os now (take 256 (ms ++ xs)) shown in
    let whole : take 256 (ms ++ xs) ≡ ms ++ xs = short 256 (ms ++ xs) (omega (arith, many, few)) in
    let both : length (ms ++ xs) ≡ length ms + length xs = length_both ms xs in
    let all : length now ≡ length ms + length xs = many ∙ ap length whole ∙ both in
    let rest : t.count ≡ length xs = omega (arith, count, first, all) in
    subst (λ (l : List Members). IsTold live os label l t) (sym whole) (record {
      of = o;
      is_of = here;
      within = omega (arith, first, rest, both);
      is = ap (λ (k : ℕ). take t.count (drop k (ms ++ xs))) first ∙ ap (take t.count) (behind ms xs) ∙ take_all t.count xs (omega (arith, rest));
    })

-- one object more that told
pub told_push : (live : Live) (os : List Members) (label : List ℕ) (ms : List Members) (told now : List Told) (t : Told) → now ≡ told ++ t ∷ [] → AreTold live os label ms told → IsTold live os label ms t → AreTold live os label ms now
told_push live os label ms told now t e h is = subst (λ (l : List Told). AreTold live os label ms l) (sym e) (All-push (IsTold live os label ms) told t h is)

-- where an object gives nothing the same sources are found
pub same_found : (ms xs : List Members) → length ms ≤ 256 → xs ≡ [] → ms ≡ take 256 (ms ++ xs)
same_found ms xs few none =
    let nil : ms ++ xs ≡ ms = ap (λ l. ms ++ l) none ∙ sym (nil_end ms) in
    sym (ap (take 256) nil ∙ take_all 256 ms few)

-- the first of the sources that were told, and the same cut
pub few_found : (live : Live) (os : List Members) (label : List ℕ) (j : Joining) (ms : List Members) → length j.found.items ≤ 256 → IsJoined live os label j ms → length ms ≤ 256
few_found live os label j ms few h = let l = shows_length os j.found.items ms h.shown in omega (arith, l, few)

pub joined_later : (live : Live) (os later : List Members) (label : List ℕ) (j : Joining) (ms : List Members) → Grows os later → IsJoined live os label j ms → IsJoined live later label j ms
joined_later live os later label j ms g h = record { shown = shows_later os later g j.found.items ms h.shown; told = told_later live os later label ms j.told.items g h.told }

-- an object that gives nothing joined them
pub joined_none : (live : Live) (os : List Members) (label : List ℕ) (j : Joining) (o : Members) (ms : List Members) → under live label o ≡ [] → IsJoined live os label j ms → IsJoined live os label j (take 256 (ms ++ under live label o))
joined_none live os label j o ms none h = subst (IsJoined live os label j) (same_found ms (under live label o) (few_found live os label j ms j.few h) none) h

-- nothing is found yet
pub joined_start : (live : Live) (os : List Members) (label : List ℕ) (j : Joining) → j.found.items ≡ [] → j.told.items ≡ [] → IsJoined live os label j []
joined_start live os label j found told = record { shown = shows_by os [] j.found.items [] (sym found) tt; told = rw told (λ k d within. absurd (omega (arith, within))) }
