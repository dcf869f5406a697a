-- Whether a make may stand on those below, by the test of the reader.
use Rattle.std.proofs.Common.{◌≡◌, ◌≢◌, ℕ, suc, ◌<◌, ◌^◌, ◌⊎◌, Bool, true, false, cond, List, [], ◌∷◌, length, refl, sym, ap, ◌∙◌, inl, inr, arith}
use Rattle.std.specs.Prelude.{◌&&◌, nat_le, Option, Some, None}
use Rattle.std.specs.Ordering.{is_eq}
use Rattle.std.specs.declared.cmp.Ordering.TheVariants.{Less}
use Rattle.std.proofs.lemmas.Bool.{leb-true, leb-false, le-leb, lt-leb}
use Rattle.nmc_base.specs.declared.chain_ends.Base.{Base}
use Rattle.nmc_base.specs.declared.hashes.OutPoint.{OutPoint}
use Rattle.nmc_base.specs.Expiry.{is_expired}
use Rattle.nmc_base.specs.Hash.{outpoint_cmp}
use Rattle.chain_names.specs.declared.coin.Item.{Item}
use Rattle.chain_names.specs.Coins.{coin_of, coin_now, history_of}
use Rattle.chain_names.specs.Points.{same_point}
use Rattle.chain_names.specs.Start.{IsStartOperation, AreStartMakes, IsStart}
use Rattle.chain_names.specs.Writable.{IsAfter}
use Rattle.chain_names.proofs.OrderLemmas.{outpoint_cmp-total, same_by_cmp}
use Rattle.undo_records.specs.Reading.{is_after}
use Rattle.undo_records.proofs.CoinLaws.{after_is, is_after_at}
use Rattle.name_snapshot.specs.Makes.{IsWritableTold, IsWritableMake, last_of, MayFollow, MayFollowAll, IsMisplaced, not_after, too_high, expired, taken}
use Rattle.name_snapshot.specs.Reading.{is_none, may_give, may_stand}
use Rattle.name_snapshot.specs.Text.{Told, commitment, value, StartMake, operation_of, start_of}

-- ---- tests

both : (a b : Bool) → (a && b) ≡ true → (a ≡ true) × (b ≡ true)
both true b e = (refl, e)
both false b e = absurd cc

one_of : (a b : Bool) → (a && b) ≡ false → (a ≡ false) ⊎ (b ≡ false)
one_of true b e = inr e
one_of false b e = inl refl

first_fails : (a b : Bool) → a ≡ false → (a && b) ≡ false
first_fails a b e = ap (λ (c : Bool). c && b) e

second_fails : (a b : Bool) → b ≡ false → (a && b) ≡ false
second_fails true b e = e
second_fails false b e = refl

no_items : (items : List Item) → is_none items ≡ true → items ≡ []
no_items [] e = refl
no_items (item ∷ items) e = absurd cc

some_items : (items : List Item) → is_none items ≡ false → items ≢ []
some_items [] e = absurd cc
some_items (item ∷ items) e = λ is. absurd cc

some_there : (items : List Item) → items ≢ [] → is_none items ≡ false
some_there [] some = absurd (some refl)
some_there (item ∷ items) some = refl

-- ---- outpoints that rise

apart : (a b : OutPoint) → outpoint_cmp a b ≡ Less → same_point a b ≡ false
apart a b less = sym (same_by_cmp a b) ∙ ap is_eq less

later : (last : Option OutPoint) (at point : OutPoint) → IsAfter last at → outpoint_cmp at point ≡ Less → IsAfter last point
later None at point before less = tt
later (Some last) at point before less = outpoint_cmp-total.trans last at point before less

-- an outpoint that is greater than those below has no coin
pub free_above : (base : Base) (below : List StartMake) (point : OutPoint) → MayFollowAll base below → IsAfter (last_of below) point → coin_now (start_of below) point ≡ None
free_above base [] point follow after = refl
free_above base (m ∷ below) point follow after =
    ap (λ b. cond b (Some (coin_of (operation_of m.told) m.height)) (coin_now (start_of below) point)) (apart m.at point after)
    ∙ free_above base below point follow.1 (later (last_of below) m.at point follow.0.after after)

-- ---- a make

module _ (base : Base) (below : List StartMake) where
  abbrev names : List ℕ → List Item
  names = history_of (start_of below)

  gives : (height : ℕ) (t : Told) → IsWritableTold t → may_give base names height t ≡ true → IsStartOperation base.profile base.height (start_of below) (operation_of t) height
  gives height (commitment hash) fits e = fits
  gives height (value name bytes) fits e = by (is_expired base.profile height (suc base.height)) refl e
    where
      by : (b : Bool) → is_expired base.profile height (suc base.height) ≡ b → cond b false (is_none (names name)) ≡ true
          → IsStartOperation base.profile base.height (start_of below) (operation_of (value name bytes)) height
      by true is e' = absurd cc
      by false is e' = record { one = no_items (names name) e'; live = is; fits = record { name_length = fits.0; value_length = fits.1 } }

  gives_at : (height : ℕ) (t : Told) → IsStartOperation base.profile base.height (start_of below) (operation_of t) height → may_give base names height t ≡ true
  gives_at height (commitment hash) fits = refl
  gives_at height (value name bytes) fits = ap (λ (b : Bool). cond b false (is_none (names name))) fits.live ∙ ap (λ (items : List Item). is_none items) fits.one

  why_not : (m : StartMake) (t : Told) → m.told ≡ t → may_give base names m.height t ≡ false → IsMisplaced base below m
  why_not m (commitment hash) is e = absurd cc
  why_not m (value name bytes) is e = by (is_expired base.profile m.height (suc base.height)) refl e
    where
      by : (b : Bool) → is_expired base.profile m.height (suc base.height) ≡ b → cond b false (is_none (names name)) ≡ false → IsMisplaced base below m
      by true late e' = expired name bytes is late
      by false late e' = taken name bytes is (some_items (names name) e')

  module _ (m : StartMake) where
    abbrev comes : Bool
    comes = is_after (last_of below) m.at

    abbrev is_low : Bool
    is_low = nat_le m.height base.height

    abbrev may : Bool
    may = may_stand base (last_of below) names m

    pub may_follow : MayFollowAll base below → IsWritableMake m → may ≡ true → MayFollow base below m
    may_follow follow fits e =
        let a = both comes (is_low && may_give base names m.height m.told) e in
        let b = both is_low (may_give base names m.height m.told) a.1 in
        let after = after_is (last_of below) m.at a.0 in
        record {
          writable = fits;
          after = after;
          start = record { low = leb-true m.height base.height b.0; one = free_above base below m.at follow after; fits = gives m.height m.told fits.told b.1 };
        }

    pub stands_at : MayFollow base below m → may ≡ true
    stands_at f =
        ap (λ (c : Bool). c && (is_low && may_give base names m.height m.told)) (is_after_at (last_of below) m.at f.after)
        ∙ ap (λ (c : Bool). c && may_give base names m.height m.told) (le-leb m.height base.height f.start.low) ∙ gives_at m.height m.told f.start.fits

    pub misplaced_by : may ≡ false → IsMisplaced base below m
    misplaced_by e =
        elim (one_of comes (is_low && may_give base names m.height m.told) e) [
          | inl a ↦ not_after (λ (after : IsAfter (last_of below) m.at). other (sym (is_after_at (last_of below) m.at after) ∙ a))
          | inr rest ↦
              elim (one_of is_low (may_give base names m.height m.told) rest) [
                | inl b ↦ too_high (leb-false m.height base.height b)
                | inr c ↦ why_not m m.told refl c
              ]
        ]
      where
        other : true ≡ false → ⊥
        other e' = cc

    pub misplaced_at : IsMisplaced base below m → may ≡ false
    misplaced_at (not_after none) = first_fails comes (is_low && may_give base names m.height m.told) (by comes refl)
      where
        by : (b : Bool) → comes ≡ b → b ≡ false
        by true is = absurd (none (after_is (last_of below) m.at is))
        by false is = refl
    misplaced_at (too_high high) =
        second_fails comes (is_low && may_give base names m.height m.told) (first_fails is_low (may_give base names m.height m.told) (lt-leb m.height base.height high))
    misplaced_at (expired name bytes is late) =
        second_fails comes (is_low && may_give base names m.height m.told) (second_fails is_low (may_give base names m.height m.told)
        (ap (may_give base names m.height) is ∙ ap (λ (b : Bool). cond b false (is_none (names name))) late))
    misplaced_at (taken name bytes is some) =
        second_fails comes (is_low && may_give base names m.height m.told) (second_fails is_low (may_give base names m.height m.told)
        (ap (may_give base names m.height) is ∙ by (is_expired base.profile m.height (suc base.height))))
      where
        by : (b : Bool) → cond b false (is_none (names name)) ≡ false
        by true = refl
        by false = some_there (names name) some

-- ---- all makes

start_makes : (base : Base) (makes : List StartMake) → MayFollowAll base makes → AreStartMakes base.profile base.height (start_of makes)
start_makes base [] follow = tt
start_makes base (m ∷ below) follow = (follow.0.start, start_makes base below follow.1)

length-start_of : (makes : List StartMake) → length (start_of makes) ≡ length makes
length-start_of [] = refl
length-start_of (m ∷ below) = ap suc (length-start_of below)

pub is_start : (base : Base) (makes : List StartMake) → length makes < 2 ^ 32 → MayFollowAll base makes → IsStart base.profile base.height (start_of makes)
is_start base makes few follow = record { makes = start_makes base makes follow; few = omega (arith, few, length-start_of makes) }
