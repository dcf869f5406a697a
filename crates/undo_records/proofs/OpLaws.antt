-- The laws of operations.
use Rattle.std.proofs.Common.{◌≡◌, ◌≢◌, ℕ, ◌⊎◌, false, cond, eqb, List, [], ◌∷◌, ◌++◌, Option, Some, None, refl, sym, ap, subst, ◌∙◌, arith, inl, inr}
use Rattle.std.proofs.lemmas.Bool.{cases_Bool, eqb-true, ne_eqb}
use Rattle.nmc_base.specs.declared.hashes.OutPoint.{OutPoint}
use Rattle.chain_names.specs.declared.coin.Coin.{Coin}
use Rattle.chain_names.specs.declared.coin.Item.{Item}
use Rattle.chain_names.specs.declared.undo.UndoOp.{UndoOp}
use Rattle.chain_names.specs.declared.undo.UndoOp.TheVariants.{New as op_new, First, Update}
use Rattle.block_grammar.specs.Combinators.{map_from}
use Rattle.undo_records.specs.declared.fault.FaultKind.TheVariants.{BadTag}
use Rattle.undo_records.specs.Reading.{Reads, point_from, new_coin_from, named_coin_from, change_from, first_of, update_of, op_from}
use Rattle.chain_names.specs.Writable.{Change, change_of, IsWritablePoint, IsWritableNew, IsWritableNamed}
use Rattle.undo_records.specs.declared.version.Version.{Version}
use Rattle.undo_records.specs.Versions.{IsChangeIn, IsOpIn}
use Rattle.undo_records.specs.Text.{point_text, name_text, coin_text, change_text, op_text}
use Rattle.undo_records.specs.Faults.{IsOther, IsBadChange, other_coin, bad_before, IsBadOperation, other_tag, in_first as in_first_op, in_update}
use Rattle.undo_records.proofs.Laws.{Spot, Flaw, Part, Core, Ends, PairFlaw, in_first, in_second, then_part, then_core, then_ends, IsSeenBy, seen_core, seen_ends, IsSaid, said_core, said_ends, TagFlaw}
use Rattle.undo_records.proofs.Choices.{choice_from, ChoiceFlaw, unknown, behind_tag, FitsAt, tagged_text, Choice, behind_part, choice_part, choice_core, choice_ends}
use Rattle.undo_records.proofs.FieldLaws.{name_part, name_core, name_ends, point_part, point_core, point_ends, IsOtherAt}
use Rattle.undo_records.proofs.PartLaws.{new_coin_core, new_coin_ends, named_coin_core, named_coin_ends, before_part, before_core, before_ends, some_is}

-- ---- changes

abbrev Tail1 : Type 0
Tail1 = List ℕ × Option Item

abbrev Tail2 : Type 0
Tail2 = Coin × Tail1

abbrev Tail3 : Type 0
Tail3 = OutPoint × Tail2

-- an operation on a name: the tag of the coin that it spends, and those coins
module _ (version : Version) (coin_tag : ℕ) (FitsCoin : Coin → Type 0) (coin_from : Reads Coin) where
  abbrev coin_part : Part Coin
  coin_part = record { text = coin_text; Fits = FitsCoin; Flawed = TagFlaw (IsOtherAt (coin_tag ∷ [])); read = coin_from }

  abbrev parts1 : Part Tail1
  parts1 = then_part name_part (λ _. before_part version)

  abbrev parts2 : Part Tail2
  parts2 = then_part coin_part (λ _. parts1)

  abbrev parts3 : Part Tail3
  parts3 = then_part point_part (λ _. parts2)

  abbrev parts4 : Part (OutPoint × Tail3)
  parts4 = then_part point_part (λ _. parts3)

  abbrev pub change_part : Part Change
  change_part = record { text = change_text version; Fits = IsChangeIn version FitsCoin; Flawed = TagFlaw (IsBadChange version coin_tag FitsCoin); read = change_from version coin_from }

  change_to : (bytes : List ℕ) (e : Spot) → PairFlaw point_part (λ _. parts3) bytes e → TagFlaw (IsBadChange version coin_tag FitsCoin) bytes e
  change_to bytes e (in_first f) = absurd f
  change_to bytes e (in_second made mid made_fits p1 (in_first f)) = absurd f
  change_to bytes e (in_second made mid made_fits p1 (in_second spent mid2 spent_fits p2 (in_first f))) = record {
    rest = f.rest;
    flaw = other_coin made spent made_fits spent_fits
        (p1 ∙ ap (λ (l : List ℕ). point_text made ++ l) (p2 ∙ ap (λ (l : List ℕ). point_text spent ++ l) (sym f.flaw.1)))
        (subst (λ (l : List ℕ). IsOther (coin_tag ∷ []) l) (sym f.flaw.1) f.flaw.0);
    is = f.is;
  }
  change_to bytes e (in_second made mid made_fits p1 (in_second spent mid2 spent_fits p2 (in_second coin mid3 coin_fits p3 (in_first f)))) = absurd f
  change_to bytes e (in_second made mid made_fits p1 (in_second spent mid2 spent_fits p2 (in_second coin mid3 coin_fits p3 (in_second name inner name_fits p4 f)))) = record {
    rest = f.rest;
    flaw = bad_before made spent coin name inner made_fits spent_fits coin_fits name_fits
        (p1 ∙ ap (λ (l : List ℕ). point_text made ++ l) (p2 ∙ ap (λ (l : List ℕ). point_text spent ++ l) (p3 ∙ ap (λ (l : List ℕ). coin_text coin ++ l) p4)))
        f.flaw;
    is = f.is;
  }

  change_of_flaw : (bytes : List ℕ) (e : Spot) → TagFlaw (IsBadChange version coin_tag FitsCoin) bytes e → PairFlaw point_part (λ _. parts3) bytes e
  change_of_flaw bytes e f = go f.rest f.flaw f.is
    where
      go : (rest : List ℕ) → IsBadChange version coin_tag FitsCoin bytes rest → (BadTag, rest) ≡ e → PairFlaw point_part (λ _. parts3) bytes e
      go rest (other_coin made spent made_fits spent_fits parts other) is =
          in_second made (point_text spent ++ rest) made_fits parts (in_second spent rest spent_fits refl (in_first (record { rest = rest; flaw = (other, refl); is = is })))
      go rest (bad_before made spent coin name inner made_fits spent_fits coin_fits name_fits parts bad) is =
          in_second made (point_text spent ++ (coin_text coin ++ (name_text name ++ inner))) made_fits parts
          (in_second spent (coin_text coin ++ (name_text name ++ inner)) spent_fits refl
          (in_second coin (name_text name ++ inner) coin_fits refl
          (in_second name inner name_fits refl (record { rest = rest; flaw = bad; is = is }))))

  abbrev made_of : OutPoint × Tail3 → Change
  made_of x = change_of x.0 x.1.0 x.1.1.0 x.1.1.1.0 x.1.1.1.1

  abbrev of_change : Change → OutPoint × Tail3
  of_change c = (c.made, (c.spent, (c.coin, (c.name, c.before))))

  change_is : IsSeenBy made_of of_change parts4 change_part
  unfolding change_text change_from
  change_is = record {
    read = λ bytes. refl;
    back = λ c fits. refl;
    spell = λ x fits. refl;
    to = λ x fits. (record { made = fits.0; spent = fits.1.0; coin = fits.1.1.0; name = fits.1.1.1.0; before = fits.1.1.1.1.0 }, fits.1.1.1.1.1);
    from = λ c fits. (fits.0.made, (fits.0.spent, (fits.0.coin, (fits.0.name, (fits.0.before, fits.1)))));
    flaw_to = change_to;
    flaw_from = change_of_flaw;
  }

  core1 : Core parts1
  core1 = then_core name_part (λ _. before_part version) name_core (λ _ _. before_core version)

  ends1 : Ends parts1
  ends1 = then_ends name_part (λ _. before_part version) name_core name_ends (λ _ _. before_ends version)

  module _ (coin_core : Core coin_part) where
    core2 : Core parts2
    core2 = then_core coin_part (λ _. parts1) coin_core (λ _ _. core1)

    core3 : Core parts3
    core3 = then_core point_part (λ _. parts2) point_core (λ _ _. core2)

    pub change_core : Core change_part
    change_core = seen_core made_of of_change parts4 change_part change_is (then_core point_part (λ _. parts3) point_core (λ _ _. core3))

    module _ (coin_ends : Ends coin_part) where
      ends2 : Ends parts2
      ends2 = then_ends coin_part (λ _. parts1) coin_core coin_ends (λ _ _. ends1)

      ends3 : Ends parts3
      ends3 = then_ends point_part (λ _. parts2) point_core point_ends (λ _ _. ends2)

      pub change_ends : Ends change_part
      change_ends = seen_ends made_of of_change parts4 change_part change_is (then_ends point_part (λ _. parts3) point_core point_ends (λ _ _. ends3))

-- ---- operations

abbrev op_tag : UndoOp → ℕ
op_tag (op_new made) = 0x51
op_tag (First made spent coin name before) = 0x52
op_tag (Update made spent coin name before) = 0x53

made_from : Reads UndoOp
made_from = map_from (λ point. op_new point) point_from

point_in : OutPoint → UndoOp → OutPoint
point_in point (op_new made) = made
point_in point (First made spent coin name before) = made
point_in point (Update made spent coin name before) = made

change_in : Change → UndoOp → Change
change_in c (op_new made) = c
change_in c (First made spent coin name before) = change_of made spent coin name before
change_in c (Update made spent coin name before) = change_of made spent coin name before

no_some : {A : Type 0} {x : A} → Some x ≡ None → ⊥
no_some e = absurd cc

module _ (version : Version) where
  abbrev first_part : Part Change
  first_part = change_part version 1 IsWritableNew new_coin_from

  abbrev update_part : Part Change
  update_part = change_part version 2 IsWritableNamed named_coin_from

  first_core : Core first_part
  first_core = change_core version 1 IsWritableNew new_coin_from new_coin_core

  first_ends : Ends first_part
  first_ends = change_ends version 1 IsWritableNew new_coin_from new_coin_core new_coin_ends

  update_core : Core update_part
  update_core = change_core version 2 IsWritableNamed named_coin_from named_coin_core

  update_ends : Ends update_part
  update_ends = change_ends version 2 IsWritableNamed named_coin_from named_coin_core named_coin_ends

  behind_op : UndoOp → List ℕ
  behind_op (op_new made) = point_text made
  behind_op (First made spent coin name before) = change_text version (change_of made spent coin name before)
  behind_op (Update made spent coin name before) = change_text version (change_of made spent coin name before)

  abbrev FitsOpAt : ℕ → UndoOp → Type 0
  FitsOpAt = FitsAt op_tag (IsOpIn version)

  firsts_from : Reads UndoOp
  firsts_from = map_from first_of (change_from version new_coin_from)

  updates_from : Reads UndoOp
  updates_from = map_from update_of (change_from version named_coin_from)

  op_pick : ℕ → Option (Reads UndoOp)
  op_pick first = cond (eqb first 0x51) (Some made_from) (cond (eqb first 0x52) (Some firsts_from) (cond (eqb first 0x53) (Some updates_from) None))

  abbrev OpAt : ℕ → Flaw
  OpAt first bytes e = ((first ≡ 0x52) × first_part.Flawed bytes e) ⊎ ((first ≡ 0x53) × update_part.Flawed bytes e)

  abbrev op_choice : Choice UndoOp
  op_choice = record { tag_of = op_tag; behind = behind_op; Fits = IsOpIn version; pick = op_pick; FlawAt = OpAt }

  made_back : (op : UndoOp) → FitsOpAt 0x51 op → op_new (point_in point_ends.sample op) ≡ op
  unfolding point_in
  made_back (op_new made) fits = refl
  made_back (First made spent coin name before) fits = absurd (omega (arith, fits.0))
  made_back (Update made spent coin name before) fits = absurd (omega (arith, fits.0))

  made_fits : (op : UndoOp) → FitsOpAt 0x51 op → IsWritablePoint (point_in point_ends.sample op)
  unfolding point_in
  made_fits (op_new made) fits = fits.1.0
  made_fits (First made spent coin name before) fits = absurd (omega (arith, fits.0))
  made_fits (Update made spent coin name before) fits = absurd (omega (arith, fits.0))

  made_none : (bytes : List ℕ) (e : Spot) → OpAt 0x51 bytes e → ⊥
  made_none bytes e (inl w) = absurd (omega (arith, w.0))
  made_none bytes e (inr w) = absurd (omega (arith, w.0))

  made_is : IsSeenBy (λ (point : OutPoint). op_new point) (point_in point_ends.sample) point_part (behind_part op_choice 0x51 made_from)
  unfolding behind_op made_from
  made_is = record {
    read = λ bytes. refl;
    back = made_back;
    spell = λ x fits. refl;
    to = λ x fits. (refl, (fits, tt));
    from = made_fits;
    flaw_to = λ bytes e f. absurd f;
    flaw_from = made_none;
  }

  made_core : Core (behind_part op_choice 0x51 made_from)
  made_core = seen_core (λ (point : OutPoint). op_new point) (point_in point_ends.sample) point_part (behind_part op_choice 0x51 made_from) made_is point_core

  made_ends : Ends (behind_part op_choice 0x51 made_from)
  made_ends = seen_ends (λ (point : OutPoint). op_new point) (point_in point_ends.sample) point_part (behind_part op_choice 0x51 made_from) made_is point_ends

  first_back : (op : UndoOp) → FitsOpAt 0x52 op → first_of (change_in first_ends.sample op) ≡ op
  unfolding change_in
  first_back (op_new made) fits = absurd (omega (arith, fits.0))
  first_back (First made spent coin name before) fits = refl
  first_back (Update made spent coin name before) fits = absurd (omega (arith, fits.0))

  first_fits : (op : UndoOp) → FitsOpAt 0x52 op → first_part.Fits (change_in first_ends.sample op)
  unfolding change_in
  first_fits (op_new made) fits = absurd (omega (arith, fits.0))
  first_fits (First made spent coin name before) fits = fits.1
  first_fits (Update made spent coin name before) fits = absurd (omega (arith, fits.0))

  first_flaw : (bytes : List ℕ) (e : Spot) → OpAt 0x52 bytes e → first_part.Flawed bytes e
  first_flaw bytes e (inl w) = w.1
  first_flaw bytes e (inr w) = absurd (omega (arith, w.0))

  first_is : IsSeenBy first_of (change_in first_ends.sample) first_part (behind_part op_choice 0x52 firsts_from)
  unfolding behind_op firsts_from
  first_is = record {
    read = λ bytes. refl;
    back = first_back;
    spell = λ x fits. refl;
    to = λ x fits. (refl, fits);
    from = first_fits;
    flaw_to = λ bytes e f. inl (refl, f);
    flaw_from = first_flaw;
  }

  firsts_core : Core (behind_part op_choice 0x52 firsts_from)
  firsts_core = seen_core first_of (change_in first_ends.sample) first_part (behind_part op_choice 0x52 firsts_from) first_is first_core

  firsts_ends : Ends (behind_part op_choice 0x52 firsts_from)
  firsts_ends = seen_ends first_of (change_in first_ends.sample) first_part (behind_part op_choice 0x52 firsts_from) first_is first_ends

  update_back : (op : UndoOp) → FitsOpAt 0x53 op → update_of (change_in update_ends.sample op) ≡ op
  unfolding change_in
  update_back (op_new made) fits = absurd (omega (arith, fits.0))
  update_back (First made spent coin name before) fits = absurd (omega (arith, fits.0))
  update_back (Update made spent coin name before) fits = refl

  update_fits : (op : UndoOp) → FitsOpAt 0x53 op → update_part.Fits (change_in update_ends.sample op)
  unfolding change_in
  update_fits (op_new made) fits = absurd (omega (arith, fits.0))
  update_fits (First made spent coin name before) fits = absurd (omega (arith, fits.0))
  update_fits (Update made spent coin name before) fits = fits.1

  update_flaw : (bytes : List ℕ) (e : Spot) → OpAt 0x53 bytes e → update_part.Flawed bytes e
  update_flaw bytes e (inl w) = absurd (omega (arith, w.0))
  update_flaw bytes e (inr w) = w.1

  update_is : IsSeenBy update_of (change_in update_ends.sample) update_part (behind_part op_choice 0x53 updates_from)
  unfolding behind_op updates_from
  update_is = record {
    read = λ bytes. refl;
    back = update_back;
    spell = λ x fits. refl;
    to = λ x fits. (refl, fits);
    from = update_fits;
    flaw_to = λ bytes e f. inr (refl, f);
    flaw_from = update_flaw;
  }

  updates_core : Core (behind_part op_choice 0x53 updates_from)
  updates_core = seen_core update_of (change_in update_ends.sample) update_part (behind_part op_choice 0x53 updates_from) update_is update_core

  updates_ends : Ends (behind_part op_choice 0x53 updates_from)
  updates_ends = seen_ends update_of (change_in update_ends.sample) update_part (behind_part op_choice 0x53 updates_from) update_is update_ends

  -- which reader a tag picks
  data Picks (first : ℕ) (read : Reads UndoOp) : Type 0 where
    picks_made : first ≡ 0x51 → made_from ≡ read → Picks first read
    picks_first : first ≡ 0x52 → firsts_from ≡ read → Picks first read
    picks_update : first ≡ 0x53 → updates_from ≡ read → Picks first read

  op_cases : (first : ℕ) (read : Reads UndoOp) → op_pick first ≡ Some read → Picks first read
  unfolding op_pick
  op_cases first read e =
      elim (cases_Bool (eqb first 0x51)) [
        | inl a ↦ let is : Some made_from ≡ Some read = rw a at e in picks_made (eqb-true first 0x51 a) (some_is is)
        | inr na ↦
            elim (cases_Bool (eqb first 0x52)) [
              | inl b ↦ let is : Some firsts_from ≡ Some read = rw (na, b) at e in picks_first (eqb-true first 0x52 b) (some_is is)
              | inr nb ↦
                  elim (cases_Bool (eqb first 0x53)) [
                    | inl c ↦ let is : Some updates_from ≡ Some read = rw (na, nb, c) at e in picks_update (eqb-true first 0x53 c) (some_is is)
                    | inr nc ↦ let is : None ≡ Some read = rw (na, nb, nc) at e in absurd cc
                  ]
            ]
      ]

  op_known : (op : UndoOp) → IsOpIn version op → (read : Reads UndoOp) × (op_pick (op_tag op) ≡ Some read)
  unfolding op_pick
  op_known (op_new made) fits = (made_from, refl)
  op_known (First made spent coin name before) fits = (firsts_from, refl)
  op_known (Update made spent coin name before) fits = (updates_from, refl)

  made_picked : op_pick 0x51 ≡ Some made_from
  unfolding op_pick
  made_picked = refl

  first_picked : op_pick 0x52 ≡ Some firsts_from
  unfolding op_pick
  first_picked = refl

  update_picked : op_pick 0x53 ≡ Some updates_from
  unfolding op_pick
  update_picked = refl

  op_at : (first : ℕ) (read : Reads UndoOp) → op_pick first ≡ Some read → Core (behind_part op_choice first read)
  op_at first read e = go (op_cases first read e)
    where
      placed : (found : Reads UndoOp) (tag : ℕ) → first ≡ tag → found ≡ read → Core (behind_part op_choice tag found) → Core (behind_part op_choice first read)
      placed found tag same is r = subst (λ (r' : Reads UndoOp). Core (behind_part op_choice first r')) is (subst (λ (t : ℕ). Core (behind_part op_choice t found)) (sym same) r)

      go : Picks first read → Core (behind_part op_choice first read)
      go (picks_made same is) = placed made_from 0x51 same is made_core
      go (picks_first same is) = placed firsts_from 0x52 same is firsts_core
      go (picks_update same is) = placed updates_from 0x53 same is updates_core

  op_at_ends : (first : ℕ) (read : Reads UndoOp) → op_pick first ≡ Some read → Ends (behind_part op_choice first read)
  op_at_ends first read e = go (op_cases first read e)
    where
      placed : (found : Reads UndoOp) (tag : ℕ) → first ≡ tag → found ≡ read → Ends (behind_part op_choice tag found) → Ends (behind_part op_choice first read)
      placed found tag same is r = subst (λ (r' : Reads UndoOp). Ends (behind_part op_choice first r')) is (subst (λ (t : ℕ). Ends (behind_part op_choice t found)) (sym same) r)

      go : Picks first read → Ends (behind_part op_choice first read)
      go (picks_made same is) = placed made_from 0x51 same is made_ends
      go (picks_first same is) = placed firsts_from 0x52 same is firsts_ends
      go (picks_update same is) = placed updates_from 0x53 same is updates_ends

  op_is : (bytes : List ℕ) → op_from version bytes ≡ choice_from op_pick bytes
  unfolding op_from op_pick made_from firsts_from updates_from
  op_is [] = refl
  op_is (first ∷ rest) =
      elim (cases_Bool (eqb first 0x51)) [
        | inl a ↦ rw a refl
        | inr na ↦
            elim (cases_Bool (eqb first 0x52)) [
              | inl b ↦ rw (na, b) refl
              | inr nb ↦ elim (cases_Bool (eqb first 0x53)) [ inl c ↦ rw (na, nb, c) refl | inr nc ↦ rw (na, nb, nc) refl ]
            ]
      ]

  op_spelled : (op : UndoOp) → IsOpIn version op → op_text version op ≡ tagged_text op_tag behind_op op
  unfolding op_text behind_op
  op_spelled (op_new made) fits = refl
  op_spelled (First made spent coin name before) fits = refl
  op_spelled (Update made spent coin name before) fits = refl

  none_picked : (first : ℕ) → op_pick first ≡ None → (first ≢ 0x51) × (first ≢ 0x52) × (first ≢ 0x53)
  none_picked first e = (
    λ is. no_some (sym (op_known_at 0x51 made_from first is made_picked) ∙ e),
    λ is. no_some (sym (op_known_at 0x52 firsts_from first is first_picked) ∙ e),
    λ is. no_some (sym (op_known_at 0x53 updates_from first is update_picked) ∙ e),
  )
    where
      op_known_at : (tag : ℕ) (read : Reads UndoOp) (first : ℕ) → first ≡ tag → op_pick tag ≡ Some read → op_pick first ≡ Some read
      op_known_at tag read first is known = ap op_pick is ∙ known

  picked_none : (first : ℕ) → first ≢ 0x51 → first ≢ 0x52 → first ≢ 0x53 → op_pick first ≡ None
  unfolding op_pick
  picked_none first h h' h'' =
      let t : eqb first 0x51 ≡ false = ne_eqb first 0x51 h in
      let u : eqb first 0x52 ≡ false = ne_eqb first 0x52 h' in
      let v : eqb first 0x53 ≡ false = ne_eqb first 0x53 h'' in
      rw (t, u, v) refl

  op_to : (bytes : List ℕ) (e : Spot) → ChoiceFlaw op_pick OpAt bytes e → TagFlaw (IsBadOperation version) bytes e
  op_to bytes e (unknown first more parts none is) =
      let w = none_picked first none in
      record { rest = bytes; flaw = other_tag (record { first = first; more = more; text = parts; other = (w.0, (w.1, (w.2, tt))) }) refl; is = is }
  op_to bytes e (behind_tag first more read parts is (inl f)) = record { rest = f.1.rest; flaw = in_first_op more (parts ∙ ap (λ (b : ℕ). b ∷ more) f.0) f.1.flaw; is = f.1.is }
  op_to bytes e (behind_tag first more read parts is (inr f)) = record { rest = f.1.rest; flaw = in_update more (parts ∙ ap (λ (b : ℕ). b ∷ more) f.0) f.1.flaw; is = f.1.is }

  op_of : (bytes : List ℕ) (e : Spot) → TagFlaw (IsBadOperation version) bytes e → ChoiceFlaw op_pick OpAt bytes e
  op_of bytes e f = go f.rest f.flaw f.is
    where
      go : (rest : List ℕ) → IsBadOperation version bytes rest → (BadTag, rest) ≡ e → ChoiceFlaw op_pick OpAt bytes e
      go rest (other_tag other same) is =
          unknown other.first other.more other.text (picked_none other.first other.other.0 other.other.1.0 other.other.1.1.0) (ap (λ (l : List ℕ). (BadTag, l)) (sym same) ∙ is)
      go rest (in_first_op change parts bad) is = behind_tag 0x52 change firsts_from parts first_picked (inl (refl, record { rest = rest; flaw = bad; is = is }))
      go rest (in_update change parts bad) is = behind_tag 0x53 change updates_from parts update_picked (inr (refl, record { rest = rest; flaw = bad; is = is }))

  abbrev pub op_part : Part UndoOp
  op_part = record { text = op_text version; Fits = IsOpIn version; Flawed = TagFlaw (IsBadOperation version); read = op_from version }

  op_said : IsSaid (choice_part op_choice) op_part
  op_said = record { read = op_is; spell = op_spelled; to = λ x fits. fits; from = λ x fits. fits; flaw_to = op_to; flaw_from = op_of }

  pub op_core : Core op_part
  op_core = said_core (choice_part op_choice) op_part op_said (choice_core op_choice op_known op_at)

  pub op_ends : Ends op_part
  op_ends = said_ends (choice_part op_choice) op_part op_said (choice_ends op_choice op_known op_at_ends (op_new point_ends.sample) (point_ends.sample_fits, tt))
