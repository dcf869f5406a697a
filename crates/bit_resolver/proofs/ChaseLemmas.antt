-- The chase, as the code goes on with it.
use Rattle.std.proofs.Common.{◌≡◌, ℕ, zero, suc, ◌≤◌, subst, arith, List, [], ◌∷◌, ◌++◌, Bool, true, false, ◌||◌, not, refl, sym, ap, ◌∙◌, append_assoc}
use Rattle.std.proofs.lemmas.List.{append-nil}
use Rattle.bit_resolver.specs.declared.resource.Resource.{Resource}
use Rattle.bit_resolver.specs.declared.zone.Zone.{Zone}
use Rattle.import_expand.specs.Sources.{Live}
use Rattle.bit_resolver.specs.Places.{Place, place_of, outside, apex, below}
use Rattle.bit_resolver.specs.Held.{HoldsPlace}
use Rattle.bit_resolver.specs.declared.limits.TheConstants.{MOST_CNAMES}
use Rattle.bit_resolver.specs.Nodes.{is_nil}
use Rattle.bit_resolver.specs.Answers.{Answer, done, renamed, answered, after_records, go_on, asked_at, chase}

-- How far the value of the first name is held: it is asked next, or it was.
pub data HoldsSoFar (live : Live) (bytes left : ℕ) (place first : Place) : Type 0 where
  begun : place ≡ first → left ≡ MOST_CNAMES → HoldsSoFar live bytes left place first
  asked : HoldsPlace live bytes first → HoldsSoFar live bytes left place first

pub holds_more : (live : Live) (bytes more : ℕ) (p : Place) → bytes ≤ more → HoldsPlace live bytes p → HoldsPlace live more p
holds_more live bytes more outside l h = h
holds_more live bytes more apex l h = h
holds_more live bytes more (below b) l h = λ label value is. let w = h label value is in omega (arith, w, l)

-- a name more was asked
pub holds_first : (live : Live) (bytes more left : ℕ) (place first : Place) → HoldsSoFar live bytes left place first → bytes ≤ more → HoldsPlace live more place → HoldsPlace live more first
holds_first live bytes more left place first (begun e l) m h = subst (HoldsPlace live more) e h
holds_first live bytes more left place first (asked h) m here = holds_more live bytes more first m h

pub holds_last : (live : Live) (bytes left : ℕ) (place first : Place) → HoldsSoFar live bytes left place first → left ≡ 0 → HoldsPlace live bytes first
holds_last live bytes left place first (begun e l) none = let m : left ≡ 8 = l in absurd (omega (arith, m, none))
holds_last live bytes left place first (asked h) none = h

or_assoc : (a b c : Bool) → ((a || b) || c) ≡ (a || (b || c))
or_assoc true b c = refl
or_assoc false b c = refl

or_false : (a : Bool) → (a || false) ≡ a
or_false true = refl
or_false false = refl

some_of_join : (xs ys : List Resource) → (not (is_nil ys) || not (is_nil xs)) ≡ not (is_nil (xs ++ ys))
some_of_join [] [] = refl
some_of_join [] (y ∷ ys) = refl
some_of_join (x ∷ xs) [] = refl
some_of_join (x ∷ xs) (y ∷ ys) = refl

joined : (xs ys zs : List Resource) → xs ++ (ys ++ zs) ≡ (xs ++ ys) ++ zs
joined xs ys zs = sym (simp append_assoc)

pub after_twice : (xs ys : List Resource) (s : Answer) → after_records xs (after_records ys s) ≡ after_records (xs ++ ys) s
after_twice xs ys s =
    ap (λ r. record { answer = r; authority = s.authority; rcode = s.rcode; aa = (s.aa || not (is_nil ys)) || not (is_nil xs) }) (joined xs ys s.answer)
    ∙ ap (λ b. record { answer = (xs ++ ys) ++ s.answer; authority = s.authority; rcode = s.rcode; aa = b }) (or_assoc s.aa _ _ ∙ ap (λ b. s.aa || b) (some_of_join xs ys))

pub after_none : (s : Answer) → after_records [] s ≡ s
after_none s = ap (λ b. record { answer = s.answer; authority = s.authority; rcode = s.rcode; aa = b }) (or_false s.aa)

pub after_stop : (before : List Resource) → after_records before (answered []) ≡ answered before
after_stop before = ap (λ r. answered r) (append-nil before)

chase_more : (live : Live) (z : Zone) (kind left more : ℕ) (p : Place) → suc more ≡ left → chase live z kind left p ≡ go_on (chase live z kind more) (asked_at live z kind p)
unfolding chase
chase_more live z kind left more p step = ap (λ n. chase live z kind n p) (sym step)

-- one hop: what the loop has, and what is left to answer
pub hop : (live : Live) (z : Zone) (kind left more : ℕ) (before rs after : List Resource) (p q : Place) (target text : List ℕ) (whole : Answer) → suc more ≡ left
    → asked_at live z kind p ≡ renamed rs target → after ≡ before ++ rs → q ≡ place_of text → text ≡ target
    → after_records before (chase live z kind left p) ≡ whole → after_records after (chase live z kind more q) ≡ whole
hop live z kind left more before rs after p q target text whole step is grown place same holds =
    ap (λ r. after_records r (chase live z kind more q)) grown
    ∙ ap (λ x. after_records (before ++ rs) (chase live z kind more x)) (place ∙ ap place_of same)
    ∙ sym (after_twice before rs (chase live z kind more (place_of target)))
    ∙ sym (ap (after_records before) (chase_more live z kind left more p step ∙ ap (go_on (chase live z kind more)) is))
    ∙ holds

-- the last name
pub last : (live : Live) (z : Zone) (kind left more : ℕ) (before : List Resource) (p : Place) (s whole : Answer) → suc more ≡ left → asked_at live z kind p ≡ done s
    → after_records before (chase live z kind left p) ≡ whole → after_records before s ≡ whole
last live z kind left more before p s whole step is holds =
    sym (ap (after_records before) (chase_more live z kind left more p step ∙ ap (go_on (chase live z kind more)) is)) ∙ holds

chase_none : (live : Live) (z : Zone) (kind : ℕ) (p : Place) → chase live z kind zero p ≡ answered []
unfolding chase
chase_none live z kind p = refl

-- as many CNAME records as may be
pub stop : (live : Live) (z : Zone) (kind left : ℕ) (before : List Resource) (p : Place) (whole : Answer) → left ≡ 0
    → after_records before (chase live z kind left p) ≡ whole → answered before ≡ whole
stop live z kind left before p whole none holds =
    sym (after_stop before) ∙ sym (ap (after_records before) (ap (λ n. chase live z kind n p) none ∙ chase_none live z kind p)) ∙ holds

pub nothing_before : (a : Answer) (xs : List Resource) → xs ≡ [] → after_records xs a ≡ a
nothing_before a xs e = ap (λ l. after_records l a) e ∙ after_none a
