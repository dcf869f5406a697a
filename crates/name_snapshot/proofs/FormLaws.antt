-- The laws of the form of a make: what is read is spelled so and fits; what fits is read, whatever follows; and each fault has its
-- cause.
use Rattle.std.proofs.Common.{◌≡◌, ◌≢◌, ℕ, ◌<◌, ◌^◌, cond, eqb, List, [], ◌∷◌, ◌++◌, Option, Some, None, refl, sym, ap, subst, ◌∙◌, arith, inl, inr}
use Rattle.std.specs.Int.{w32, to_le_bytes}
use Rattle.std.proofs.lemmas.Bool.{cases_Bool, eqb-true, ne_eqb}
use Rattle.nmc_base.specs.declared.hashes.OutPoint.{OutPoint}
use Rattle.block_grammar.proofs.ReaderLaws.{PairFits}
use Rattle.block_grammar.proofs.FieldLaws.{HasLength, IsBelow}
use Rattle.chain_names.specs.Writable.{IsWritablePoint, IsWritableName}
use Rattle.undo_records.specs.declared.fault.FaultKind.TheVariants.{BadTag}
use Rattle.undo_records.specs.Faults.{IsOther, IsLongLength}
use Rattle.undo_records.specs.Reading.{Reads}
use Rattle.undo_records.specs.Text.{point_text, name_text}
use Rattle.undo_records.proofs.Laws.{Spot, Flaw, Part, Core, Ends, PairFlaw, in_first, in_second, then_part, then_core, then_ends, IsSeenBy, seen_core, seen_ends, IsSaid, said_core, said_ends, TagFlaw}
use Rattle.undo_records.proofs.Choices.{choice_from, ChoiceFlaw, unknown, behind_tag, Choice, behind_part, choice_part, choice_core, choice_ends}
use Rattle.undo_records.proofs.FieldLaws.{part32, core32, ends32, piece_part, piece_core, piece_ends, no_pair, name_part, name_core, name_ends, value_part, value_core, value_ends, FitsValue, point_part, point_core, point_ends}
use Rattle.name_snapshot.specs.Makes.{IsWritableTold, IsWritableMake}
use Rattle.name_snapshot.specs.Reading.{commitment_from, given_from, told_from, make_of_pair, make_from}
use Rattle.name_snapshot.specs.Text.{Told, commitment, value, StartMake, told_text, make_text}

-- ---- what stands behind the tag

abbrev Timed : Type 0
Timed = ℕ × Told

abbrev told_tag : Told → ℕ
told_tag (commitment hash) = 0x51
told_tag (value name bytes) = 0x53

told_behind : ℕ → Told → List ℕ
told_behind height (commitment hash) = to_le_bytes w32 height ++ hash
told_behind height (value name bytes) = to_le_bytes w32 height ++ (name_text name ++ value_part.text bytes)

abbrev pub ToldFits : Timed → Type 0
ToldFits x = (x.0 < 2 ^ 32) × IsWritableTold x.1

-- the length of a value is above the limit
pub record IsLongIn (bytes rest : List ℕ) : Type 0 where
  pub height : ℕ
  pub name : List ℕ
  pub height_fits : height < 2 ^ 32
  pub name_fits : IsWritableName name
  pub text : bytes ≡ to_le_bytes w32 height ++ (name_text name ++ rest)
  pub long : IsLongLength rest

ToldAt : ℕ → Flaw
ToldAt tag bytes e = (tag ≡ 0x53) × TagFlaw IsLongIn bytes e

commitments_from : Reads Timed
commitments_from = commitment_from

values_from : Reads Timed
values_from = given_from

told_pick : ℕ → Option (Reads Timed)
told_pick first = cond (eqb first 0x51) (Some commitments_from) (cond (eqb first 0x53) (Some values_from) None)

abbrev told_choice : Choice Timed
told_choice = record { tag_of = λ x. told_tag x.1; behind = λ x. told_behind x.0 x.1; Fits = ToldFits; pick = told_pick; FlawAt = ToldAt }

-- ---- commitments

abbrev commitment_parts : Part (ℕ × List ℕ)
commitment_parts = then_part part32 (λ _. piece_part 20)

abbrev commitment_of : ℕ × List ℕ → Timed
commitment_of x = (x.0, commitment x.1)

hash_in : Told → List ℕ
hash_in (commitment hash) = hash
hash_in (value name bytes) = name

abbrev of_commitment : Timed → ℕ × List ℕ
of_commitment x = (x.0, hash_in x.1)

commitment_back : (height : ℕ) (t : Told) → told_tag t ≡ 0x51 → commitment_of (height, hash_in t) ≡ (height, t)
unfolding hash_in
commitment_back height (commitment hash) is = refl
commitment_back height (value name bytes) is = absurd (omega (arith, is))

commitment_parted : (height : ℕ) (t : Told) → told_tag t ≡ 0x51 → ToldFits (height, t) → PairFits (IsBelow (2 ^ 32)) (λ _. HasLength 20) (height, hash_in t)
unfolding hash_in
commitment_parted height (commitment hash) is fits = fits
commitment_parted height (value name bytes) is fits = absurd (omega (arith, is))

commitment_flaw : (bytes : List ℕ) (e : Spot) → ToldAt 0x51 bytes e → PairFlaw part32 (λ _. piece_part 20) bytes e
unfolding ToldAt
commitment_flaw bytes e f = absurd (omega (arith, f.0))

commitment_is : IsSeenBy commitment_of of_commitment commitment_parts (behind_part told_choice 0x51 commitments_from)
unfolding told_behind commitments_from
commitment_is = record {
  read = λ bytes. refl;
  back = λ y fits. commitment_back y.0 y.1 fits.0;
  spell = λ x fits. refl;
  to = λ x fits. (refl, fits);
  from = λ y fits. commitment_parted y.0 y.1 fits.0 fits.1;
  flaw_to = λ bytes e f. absurd (no_pair part32 (λ _. piece_part 20) bytes e (λ bytes e f. f) (λ x bytes e f. f) f);
  flaw_from = commitment_flaw;
}

commitments_core : Core (behind_part told_choice 0x51 commitments_from)
commitments_core = seen_core commitment_of of_commitment commitment_parts (behind_part told_choice 0x51 commitments_from) commitment_is (then_core part32 (λ _. piece_part 20) core32 (λ _ _. piece_core 20))

commitments_ends : Ends (behind_part told_choice 0x51 commitments_from)
commitments_ends =
    seen_ends commitment_of of_commitment commitment_parts (behind_part told_choice 0x51 commitments_from) commitment_is
    (then_ends part32 (λ _. piece_part 20) core32 ends32 (λ _ _. piece_ends 20))

-- ---- values

abbrev named_parts : Part (List ℕ × List ℕ)
named_parts = then_part name_part (λ _. value_part)

abbrev given_parts : Part (ℕ × (List ℕ × List ℕ))
given_parts = then_part part32 (λ _. named_parts)

abbrev value_of : ℕ × (List ℕ × List ℕ) → Timed
value_of x = (x.0, value x.1.0 x.1.1)

named_in : Told → List ℕ × List ℕ
named_in (commitment hash) = (hash, hash)
named_in (value name bytes) = (name, bytes)

abbrev of_value : Timed → ℕ × (List ℕ × List ℕ)
of_value x = (x.0, named_in x.1)

value_back : (height : ℕ) (t : Told) → told_tag t ≡ 0x53 → value_of (height, named_in t) ≡ (height, t)
unfolding named_in
value_back height (commitment hash) is = absurd (omega (arith, is))
value_back height (value name bytes) is = refl

value_parted : (height : ℕ) (t : Told) → told_tag t ≡ 0x53 → ToldFits (height, t) → PairFits (IsBelow (2 ^ 32)) (λ _. PairFits IsWritableName (λ _. FitsValue)) (height, named_in t)
unfolding named_in
value_parted height (commitment hash) is fits = absurd (omega (arith, is))
value_parted height (value name bytes) is fits = fits

long_to : (bytes : List ℕ) (e : Spot) → PairFlaw part32 (λ _. named_parts) bytes e → TagFlaw IsLongIn bytes e
long_to bytes e (in_first f) = absurd f
long_to bytes e (in_second height mid fits parts (in_first f)) = absurd f
long_to bytes e (in_second height mid fits parts (in_second name last name_fits name_parts f)) = record {
  rest = f.rest;
  flaw = record {
    height = height;
    name = name;
    height_fits = fits;
    name_fits = name_fits;
    text = parts ∙ ap (λ (l : List ℕ). to_le_bytes w32 height ++ l) (name_parts ∙ ap (λ (l : List ℕ). name_text name ++ l) (sym f.flaw.1));
    long = subst IsLongLength (sym f.flaw.1) f.flaw.0;
  };
  is = f.is;
}

long_from : (bytes : List ℕ) (e : Spot) → ToldAt 0x53 bytes e → PairFlaw part32 (λ _. named_parts) bytes e
unfolding ToldAt
long_from bytes e f =
    let l = f.1.flaw in
    in_second l.height (name_text l.name ++ f.1.rest) l.height_fits l.text (in_second l.name f.1.rest l.name_fits refl (record { rest = f.1.rest; flaw = (l.long, refl); is = f.1.is }))

value_is : IsSeenBy value_of of_value given_parts (behind_part told_choice 0x53 values_from)
unfolding told_behind values_from ToldAt
value_is = record {
  read = λ bytes. refl;
  back = λ y fits. value_back y.0 y.1 fits.0;
  spell = λ x fits. refl;
  to = λ x fits. (refl, fits);
  from = λ y fits. value_parted y.0 y.1 fits.0 fits.1;
  flaw_to = λ bytes e f. (refl, long_to bytes e f);
  flaw_from = long_from;
}

values_core : Core (behind_part told_choice 0x53 values_from)
values_core =
    seen_core value_of of_value given_parts (behind_part told_choice 0x53 values_from) value_is
    (then_core part32 (λ _. named_parts) core32 (λ _ _. then_core name_part (λ _. value_part) name_core (λ _ _. value_core)))

values_ends : Ends (behind_part told_choice 0x53 values_from)
values_ends =
    seen_ends value_of of_value given_parts (behind_part told_choice 0x53 values_from) value_is
    (then_ends part32 (λ _. named_parts) core32 ends32 (λ _ _. then_ends name_part (λ _. value_part) name_core name_ends (λ _ _. value_ends)))

-- ---- by the tag

data Picks (first : ℕ) (read : Reads Timed) : Type 0 where
  picks_commitment : first ≡ 0x51 → commitments_from ≡ read → Picks first read
  picks_value : first ≡ 0x53 → values_from ≡ read → Picks first read

some_is : {x y : Reads Timed} → Some x ≡ Some y → x ≡ y
some_is e = cc

told_cases : (first : ℕ) (read : Reads Timed) → told_pick first ≡ Some read → Picks first read
unfolding told_pick
told_cases first read e =
    elim (cases_Bool (eqb first 0x51)) [
      | inl a ↦ let is : Some commitments_from ≡ Some read = rw a at e in picks_commitment (eqb-true first 0x51 a) (some_is is)
      | inr na ↦
          elim (cases_Bool (eqb first 0x53)) [
            | inl b ↦ let is : Some values_from ≡ Some read = rw (na, b) at e in picks_value (eqb-true first 0x53 b) (some_is is)
            | inr nb ↦ let is : None ≡ Some read = rw (na, nb) at e in absurd cc
          ]
    ]

picked_at : (t : Told) → (read : Reads Timed) × (told_pick (told_tag t) ≡ Some read)
unfolding told_pick
picked_at (commitment hash) = (commitments_from, refl)
picked_at (value name bytes) = (values_from, refl)

commitment_picked : told_pick 0x51 ≡ Some commitments_from
unfolding told_pick
commitment_picked = refl

value_picked : told_pick 0x53 ≡ Some values_from
unfolding told_pick
value_picked = refl

placed_core : (first tag : ℕ) (found read : Reads Timed) → first ≡ tag → found ≡ read → Core (behind_part told_choice tag found) → Core (behind_part told_choice first read)
placed_core first tag found read same is r =
    subst (λ (r' : Reads Timed). Core (behind_part told_choice first r')) is (subst (λ (t : ℕ). Core (behind_part told_choice t found)) (sym same) r)

placed_ends : (first tag : ℕ) (found read : Reads Timed) → first ≡ tag → found ≡ read → Ends (behind_part told_choice tag found) → Ends (behind_part told_choice first read)
placed_ends first tag found read same is r =
    subst (λ (r' : Reads Timed). Ends (behind_part told_choice first r')) is (subst (λ (t : ℕ). Ends (behind_part told_choice t found)) (sym same) r)

told_at : (first : ℕ) (read : Reads Timed) → told_pick first ≡ Some read → Core (behind_part told_choice first read)
told_at first read e = go (told_cases first read e)
  where
    go : Picks first read → Core (behind_part told_choice first read)
    go (picks_commitment same is) = placed_core first 0x51 commitments_from read same is commitments_core
    go (picks_value same is) = placed_core first 0x53 values_from read same is values_core

told_at_ends : (first : ℕ) (read : Reads Timed) → told_pick first ≡ Some read → Ends (behind_part told_choice first read)
told_at_ends first read e = go (told_cases first read e)
  where
    go : Picks first read → Ends (behind_part told_choice first read)
    go (picks_commitment same is) = placed_ends first 0x51 commitments_from read same is commitments_ends
    go (picks_value same is) = placed_ends first 0x53 values_from read same is values_ends

told_is : (bytes : List ℕ) → told_from bytes ≡ choice_from told_pick bytes
unfolding told_pick commitments_from values_from
told_is [] = refl
told_is (first ∷ rest) =
    elim (cases_Bool (eqb first 0x51)) [
      | inl a ↦ rw a refl
      | inr na ↦ elim (cases_Bool (eqb first 0x53)) [ inl b ↦ rw (na, b) refl | inr nb ↦ rw (na, nb) refl ]
    ]

told_spelled : (height : ℕ) (t : Told) → told_text height t ≡ told_tag t ∷ told_behind height t
unfolding told_behind
told_spelled height (commitment hash) = refl
told_spelled height (value name bytes) = refl

-- the tag is another one, or a value is too long
pub data IsBadTold (bytes rest : List ℕ) : Type 0 where
  other : IsOther (0x51 ∷ 0x53 ∷ []) bytes → rest ≡ bytes → IsBadTold bytes rest
  long : (behind : List ℕ) → bytes ≡ 0x53 ∷ behind → IsLongIn behind rest → IsBadTold bytes rest

none_picked : (first : ℕ) → told_pick first ≡ None → (first ≢ 0x51) × (first ≢ 0x53)
none_picked first e = (λ is. none_some commitments_from (sym e ∙ (ap told_pick is ∙ commitment_picked)), λ is. none_some values_from (sym e ∙ (ap told_pick is ∙ value_picked)))
  where
    none_some : (x : Reads Timed) → None ≡ Some x → ⊥
    none_some x e' = cc

picked_none : (first : ℕ) → first ≢ 0x51 → first ≢ 0x53 → told_pick first ≡ None
unfolding told_pick
picked_none first h h' = rw (ne_eqb first 0x51 h, ne_eqb first 0x53 h') refl

told_to : (bytes : List ℕ) (e : Spot) → ChoiceFlaw told_pick ToldAt bytes e → TagFlaw IsBadTold bytes e
unfolding ToldAt
told_to bytes e (unknown first more parts none is) =
    let w = none_picked first none in
    record { rest = bytes; flaw = other (record { first = first; more = more; text = parts; other = (w.0, (w.1, tt)) }) refl; is = is }
told_to bytes e (behind_tag first more read parts is f) =
    record { rest = f.1.rest; flaw = long more (parts ∙ ap (λ (b : ℕ). b ∷ more) f.0) f.1.flaw; is = f.1.is }

told_of : (bytes : List ℕ) (e : Spot) → TagFlaw IsBadTold bytes e → ChoiceFlaw told_pick ToldAt bytes e
unfolding ToldAt
told_of bytes e f = go f.rest f.flaw f.is
  where
    go : (rest : List ℕ) → IsBadTold bytes rest → (BadTag, rest) ≡ e → ChoiceFlaw told_pick ToldAt bytes e
    go rest (other o same) is = unknown o.first o.more o.text (picked_none o.first o.other.0 o.other.1.0) (ap (λ (l : List ℕ). (BadTag, l)) (sym same) ∙ is)
    go rest (long behind parts l) is = behind_tag 0x53 behind values_from parts value_picked (refl, record { rest = rest; flaw = l; is = is })

abbrev told_part : Part Timed
told_part = record { text = λ x. told_text x.0 x.1; Fits = ToldFits; Flawed = TagFlaw IsBadTold; read = told_from }

told_said : IsSaid (choice_part told_choice) told_part
told_said = record { read = told_is; spell = λ x fits. told_spelled x.0 x.1; to = λ x fits. fits; from = λ x fits. fits; flaw_to = told_to; flaw_from = told_of }

told_core : Core told_part
told_core = said_core (choice_part told_choice) told_part told_said (choice_core told_choice (λ x fits. picked_at x.1) told_at)

told_sample : Timed
told_sample = (0, value [] [])

sample_fits : ToldFits told_sample
unfolding told_sample
sample_fits = (omega arith, (omega arith, omega arith))

told_ends : Ends told_part
told_ends = said_ends (choice_part told_choice) told_part told_said (choice_ends told_choice (λ x fits. picked_at x.1) told_at_ends told_sample sample_fits)

-- ---- the whole make

-- a make whose form is wrong
pub record IsBadForm (bytes rest : List ℕ) : Type 0 where
  pub at : OutPoint
  pub at_fits : IsWritablePoint at
  pub behind : List ℕ
  pub text : bytes ≡ point_text at ++ behind
  pub bad : IsBadTold behind rest

abbrev pub make_part : Part StartMake
make_part = record { text = make_text; Fits = IsWritableMake; Flawed = TagFlaw IsBadForm; read = make_from }

abbrev make_parts : Part (OutPoint × Timed)
make_parts = then_part point_part (λ _. told_part)

abbrev of_make : StartMake → OutPoint × Timed
of_make m = (m.at, (m.height, m.told))

form_to : (bytes : List ℕ) (e : Spot) → PairFlaw point_part (λ _. told_part) bytes e → TagFlaw IsBadForm bytes e
form_to bytes e (in_first f) = absurd f
form_to bytes e (in_second at mid fits parts f) = record { rest = f.rest; flaw = record { at = at; at_fits = fits; behind = mid; text = parts; bad = f.flaw }; is = f.is }

form_from : (bytes : List ℕ) (e : Spot) → TagFlaw IsBadForm bytes e → PairFlaw point_part (λ _. told_part) bytes e
form_from bytes e f = in_second f.flaw.at f.flaw.behind f.flaw.at_fits f.flaw.text (record { rest = f.rest; flaw = f.flaw.bad; is = f.is })

make_is : IsSeenBy make_of_pair of_make make_parts make_part
make_is = record {
  read = λ bytes. refl;
  back = λ m fits. refl;
  spell = λ x fits. refl;
  to = λ x fits. record { at = fits.0; height = fits.1.0; told = fits.1.1 };
  from = λ m fits. (fits.at, (fits.height, fits.told));
  flaw_to = form_to;
  flaw_from = form_from;
}

pub make_core : Core make_part
make_core = seen_core make_of_pair of_make make_parts make_part make_is (then_core point_part (λ _. told_part) point_core (λ _ _. told_core))

pub make_ends : Ends make_part
make_ends = seen_ends make_of_pair of_make make_parts make_part make_is (then_ends point_part (λ _. told_part) point_core point_ends (λ _ _. told_ends))
