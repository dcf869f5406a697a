-- The laws of coins, items and what stands before.
use Rattle.std.proofs.Common.{◌≡◌, ◌≢◌, ℕ, ◌<◌, ◌^◌, ◌⊎◌, true, false, cond, eqb, List, [], ◌∷◌, ◌++◌, Option, Some, None, refl, sym, ap, subst, ◌∙◌, arith, inl, inr}
use Rattle.std.specs.Prelude.{Ok}
use Rattle.std.specs.Int.{w32, to_le_bytes}
use Rattle.std.proofs.lemmas.Bool.{cases_Bool, eqb-true, eq-eqb, ne_eqb}
use Rattle.nmc_base.specs.declared.hashes.OutPoint.{OutPoint}
use Rattle.chain_names.specs.declared.coin.Coin.{Coin}
use Rattle.chain_names.specs.declared.coin.Coin.TheVariants.{New, Named}
use Rattle.chain_names.specs.declared.coin.Item.{Item}
use Rattle.block_grammar.proofs.Readers.{Took}
use Rattle.block_grammar.specs.Combinators.{then_from, map_from}
use Rattle.block_grammar.proofs.ReaderLaws.{ok_is, PairFits}
use Rattle.block_grammar.proofs.FieldLaws.{HasLength, IsBelow}
use Rattle.undo_records.specs.declared.fault.FaultKind.TheVariants.{BadTag}
use Rattle.undo_records.specs.Reading.{Reads, number_from, new_coin_from, named_coin_from, registered_from, item_from, before_from}
use Rattle.undo_records.specs.declared.version.Version.{Version}
use Rattle.undo_records.specs.declared.version.Version.TheVariants.{One, Two}
use Rattle.undo_records.specs.Versions.{IsTold, IsItemIn, IsBeforeIn}
use Rattle.undo_records.specs.Text.{point_text, name_text, coin_text, registered_text, item_text, before_text}
use Rattle.chain_names.specs.Writable.{IsWritablePoint, IsWritableName, IsWritableNew, IsWritableNamed}
use Rattle.undo_records.specs.Faults.{IsLongLength, IsBadBefore, no_flag, long_value}
use Rattle.undo_records.proofs.Laws.{Spot, Flaw, NoFlaw, Part, Core, Ends, PairFlaw, in_first, in_second, then_part, then_core, then_ends, IsSeenBy, seen_core, seen_ends, IsSaid, said_core, said_ends, TagFlaw}
use Rattle.undo_records.proofs.Choices.{choice_from, ChoiceFlaw, unknown, behind_tag, FitsAt, tagged_text, Choice, behind_part, choice_part, choice_core, choice_ends}
use Rattle.undo_records.proofs.FieldLaws.{part32, core32, ends32, piece_part, piece_core, piece_ends, no_pair, name_part, name_core, name_ends, value_part, value_core, value_ends, point_part, point_core, point_ends, IsOtherAt, tagged_part, tagged_core, tagged_ends}

-- ---- coins

-- what stands behind a coin's tag
behind_coin : Coin → List ℕ
behind_coin (New hash height) = to_le_bytes w32 height ++ hash.0
behind_coin (Named name height) = to_le_bytes w32 height ++ name_text name

abbrev new_of : ℕ × List ℕ → Coin
new_of x = New (record { 0 = x.1 }) x.0

abbrev of_coin : Coin → ℕ × List ℕ
of_coin (New hash height) = (height, hash.0)
of_coin (Named name height) = (height, name)

new_back : (coin : Coin) → IsWritableNew coin → new_of (of_coin coin) ≡ coin
new_back (New hash height) fits = refl
new_back (Named name height) fits = absurd fits

new_parts : (coin : Coin) → IsWritableNew coin → PairFits (IsBelow (2 ^ 32)) (λ _. HasLength 20) (of_coin coin)
new_parts (New hash height) fits = fits
new_parts (Named name height) fits = absurd fits

new_spelled : (coin : Coin) → IsWritableNew coin → coin_text coin ≡ 1 ∷ behind_coin coin
unfolding coin_text behind_coin
new_spelled (New hash height) fits = refl
new_spelled (Named name height) fits = absurd fits

behind_new_from : Reads Coin
behind_new_from = map_from new_of (then_from (number_from w32) (λ _. (piece_part 20).read))

abbrev behind_new_part : Part Coin
behind_new_part = record { text = behind_coin; Fits = IsWritableNew; Flawed = NoFlaw; read = behind_new_from }

behind_new_is : IsSeenBy new_of of_coin (then_part part32 (λ _. piece_part 20)) behind_new_part
unfolding behind_coin behind_new_from
behind_new_is = record {
  read = λ bytes. refl;
  back = new_back;
  spell = λ x fits. refl;
  to = λ x fits. fits;
  from = new_parts;
  flaw_to = λ bytes e f. no_pair part32 (λ _. piece_part 20) bytes e (λ bytes e f. f) (λ x bytes e f. f) f;
  flaw_from = λ bytes e f. absurd f;
}

behind_new_core : Core behind_new_part
behind_new_core = seen_core new_of of_coin (then_part part32 (λ _. piece_part 20)) behind_new_part behind_new_is (then_core part32 (λ _. piece_part 20) core32 (λ _ _. piece_core 20))

behind_new_ends : Ends behind_new_part
behind_new_ends = seen_ends new_of of_coin (then_part part32 (λ _. piece_part 20)) behind_new_part behind_new_is (then_ends part32 (λ _. piece_part 20) core32 ends32 (λ _ _. piece_ends 20))

abbrev pub new_coin_part : Part Coin
new_coin_part = record { text = coin_text; Fits = IsWritableNew; Flawed = TagFlaw (IsOtherAt (1 ∷ [])); read = new_coin_from }

new_coin_is : IsSaid (tagged_part 1 behind_new_part) new_coin_part
unfolding behind_new_from new_coin_from
new_coin_is = record { read = λ bytes. refl; spell = new_spelled; to = λ c fits. fits; from = λ c fits. fits; flaw_to = λ bytes e f. f; flaw_from = λ bytes e f. f }

pub new_coin_core : Core new_coin_part
new_coin_core = said_core (tagged_part 1 behind_new_part) new_coin_part new_coin_is (tagged_core 1 behind_new_part (λ bytes e f. f) behind_new_core)

pub new_coin_ends : Ends new_coin_part
new_coin_ends = said_ends (tagged_part 1 behind_new_part) new_coin_part new_coin_is (tagged_ends 1 behind_new_part (λ bytes e f. f) behind_new_ends)

abbrev named_of : ℕ × List ℕ → Coin
named_of x = Named x.1 x.0

named_back : (coin : Coin) → IsWritableNamed coin → named_of (of_coin coin) ≡ coin
named_back (New hash height) fits = absurd fits
named_back (Named name height) fits = refl

named_parts : (coin : Coin) → IsWritableNamed coin → PairFits (IsBelow (2 ^ 32)) (λ _. IsWritableName) (of_coin coin)
named_parts (New hash height) fits = absurd fits
named_parts (Named name height) fits = fits

named_spelled : (coin : Coin) → IsWritableNamed coin → coin_text coin ≡ 2 ∷ behind_coin coin
unfolding coin_text behind_coin
named_spelled (New hash height) fits = absurd fits
named_spelled (Named name height) fits = refl

behind_named_from : Reads Coin
behind_named_from = map_from named_of (then_from (number_from w32) (λ _. name_part.read))

abbrev behind_named_part : Part Coin
behind_named_part = record { text = behind_coin; Fits = IsWritableNamed; Flawed = NoFlaw; read = behind_named_from }

behind_named_is : IsSeenBy named_of of_coin (then_part part32 (λ _. name_part)) behind_named_part
unfolding behind_coin behind_named_from
behind_named_is = record {
  read = λ bytes. refl;
  back = named_back;
  spell = λ x fits. refl;
  to = λ x fits. fits;
  from = named_parts;
  flaw_to = λ bytes e f. no_pair part32 (λ _. name_part) bytes e (λ bytes e f. f) (λ x bytes e f. f) f;
  flaw_from = λ bytes e f. absurd f;
}

behind_named_core : Core behind_named_part
behind_named_core = seen_core named_of of_coin (then_part part32 (λ _. name_part)) behind_named_part behind_named_is (then_core part32 (λ _. name_part) core32 (λ _ _. name_core))

behind_named_ends : Ends behind_named_part
behind_named_ends = seen_ends named_of of_coin (then_part part32 (λ _. name_part)) behind_named_part behind_named_is (then_ends part32 (λ _. name_part) core32 ends32 (λ _ _. name_ends))

abbrev pub named_coin_part : Part Coin
named_coin_part = record { text = coin_text; Fits = IsWritableNamed; Flawed = TagFlaw (IsOtherAt (2 ∷ [])); read = named_coin_from }

named_coin_is : IsSaid (tagged_part 2 behind_named_part) named_coin_part
unfolding behind_named_from named_coin_from
named_coin_is = record { read = λ bytes. refl; spell = named_spelled; to = λ c fits. fits; from = λ c fits. fits; flaw_to = λ bytes e f. f; flaw_from = λ bytes e f. f }

pub named_coin_core : Core named_coin_part
named_coin_core = said_core (tagged_part 2 behind_named_part) named_coin_part named_coin_is (tagged_core 2 behind_named_part (λ bytes e f. f) behind_named_core)

pub named_coin_ends : Ends named_coin_part
named_coin_ends = said_ends (tagged_part 2 behind_named_part) named_coin_part named_coin_is (tagged_ends 2 behind_named_part (λ bytes e f. f) behind_named_ends)

-- ---- registration heights

abbrev pub registered_part : Version → Part ℕ
registered_part version = record { text = registered_text version; Fits = IsTold version; Flawed = NoFlaw; read = registered_from version }

-- in version 1 it has no bytes, and is read with 0
registered_core : (version : Version) → Core (registered_part version)
registered_core One = record {
  takes = λ bytes x fits e.
      subst (λ (y : ℕ × List ℕ). Took (registered_text One) (IsTold One) bytes y) (ok_is (0, bytes) x e) (record { parts = refl; fits = refl; rest_bytes = fits });
  again = λ x rest fits. ap (λ (n : ℕ). Ok (n, rest)) (sym fits);
  stops = λ bytes e fits h. absurd cc;
  flawed = λ bytes e f. absurd f;
  behind = λ bytes e fits h. absurd cc;
}
registered_core Two = core32

registered_ends : (version : Version) → Ends (registered_part version)
registered_ends One = record {
  short = λ bytes front. absurd (no_front bytes front.next front.more front.text_is);
  begun = λ bytes fits h. absurd cc;
  sample = 0;
  sample_fits = refl;
}
  where
    no_front : (bytes : List ℕ) (next : ℕ) (more : List ℕ) → [] ≡ bytes ++ next ∷ more → ⊥
    no_front [] next more e = absurd cc
    no_front (b ∷ bytes) next more e = absurd cc
registered_ends Two = ends32

-- four bytes are enough for a height that is told
told_below : (version : Version) (registered : ℕ) → IsTold version registered → registered < 2 ^ 32
told_below One registered fits = omega (arith, fits)
told_below Two registered fits = fits

-- ---- items

-- an item whose value is long
pub record IsLongItem (version : Version) (bytes rest : List ℕ) : Type 0 where
  pub height : ℕ
  pub registered : ℕ
  pub at : OutPoint
  pub height_fits : height < 2 ^ 32
  pub registered_fits : IsTold version registered
  pub at_fits : IsWritablePoint at
  pub parts : bytes ≡ to_le_bytes w32 height ++ (registered_text version registered ++ (point_text at ++ rest))
  pub long : IsLongLength rest

abbrev placed_part : Part (OutPoint × List ℕ)
placed_part = then_part point_part (λ _. value_part)

abbrev dated_part : Version → Part (ℕ × (OutPoint × List ℕ))
dated_part version = then_part (registered_part version) (λ _. placed_part)

abbrev item_parts : Version → Part (ℕ × (ℕ × (OutPoint × List ℕ)))
item_parts version = then_part part32 (λ _. dated_part version)

abbrev pub item_part : Version → Part Item
item_part version = record { text = item_text version; Fits = IsItemIn version; Flawed = TagFlaw (IsLongItem version); read = item_from version }

module _ (version : Version) where
  item_to : (bytes : List ℕ) (e : Spot) → PairFlaw part32 (λ _. dated_part version) bytes e → TagFlaw (IsLongItem version) bytes e
  item_to bytes e (in_first f) = absurd f
  item_to bytes e (in_second height mid height_fits p1 (in_first f)) = absurd f
  item_to bytes e (in_second height mid height_fits p1 (in_second registered mid2 registered_fits p2 (in_first f))) = absurd f
  item_to bytes e (in_second height mid height_fits p1 (in_second registered mid2 registered_fits p2 (in_second at inner at_fits p3 f))) = record {
    rest = f.rest;
    flaw = record {
      height = height;
      registered = registered;
      at = at;
      height_fits = height_fits;
      registered_fits = registered_fits;
      at_fits = at_fits;
      parts = p1 ∙ ap (λ (l : List ℕ). to_le_bytes w32 height ++ l)
          (p2 ∙ ap (λ (l : List ℕ). registered_text version registered ++ l) (p3 ∙ ap (λ (l : List ℕ). point_text at ++ l) (sym f.flaw.1)));
      long = subst (λ (l : List ℕ). IsLongLength l) (sym f.flaw.1) f.flaw.0;
    };
    is = f.is;
  }

  item_of_flaw : (bytes : List ℕ) (e : Spot) → TagFlaw (IsLongItem version) bytes e → PairFlaw part32 (λ _. dated_part version) bytes e
  item_of_flaw bytes e f =
      let w = f.flaw in
      in_second w.height (registered_text version w.registered ++ (point_text w.at ++ f.rest)) w.height_fits w.parts
      (in_second w.registered (point_text w.at ++ f.rest) w.registered_fits refl
      (in_second w.at f.rest w.at_fits refl (record { rest = f.rest; flaw = (w.long, refl); is = f.is })))

  abbrev item_of : ℕ × (ℕ × (OutPoint × List ℕ)) → Item
  item_of x = record { height = x.0; registered = x.1.0; at = x.1.1.0; value = x.1.1.1 }

  abbrev of_item : Item → ℕ × (ℕ × (OutPoint × List ℕ))
  of_item item = (item.height, (item.registered, (item.at, item.value)))

  item_is : IsSeenBy item_of of_item (item_parts version) (item_part version)
  unfolding item_text item_from
  item_is = record {
    read = λ bytes. refl;
    back = λ item fits. refl;
    spell = λ x fits. refl;
    to = λ x fits. (record { height = fits.0; registered = told_below version x.1.0 fits.1.0; at = fits.1.1.0; value = fits.1.1.1 }, fits.1.0);
    from = λ item fits. (fits.0.height, (fits.1, (fits.0.at, fits.0.value)));
    flaw_to = item_to;
    flaw_from = item_of_flaw;
  }

  placed_core : Core placed_part
  placed_core = then_core point_part (λ _. value_part) point_core (λ _ _. value_core)

  placed_ends : Ends placed_part
  placed_ends = then_ends point_part (λ _. value_part) point_core point_ends (λ _ _. value_ends)

  dated_core : Core (dated_part version)
  dated_core = then_core (registered_part version) (λ _. placed_part) (registered_core version) (λ _ _. placed_core)

  dated_ends : Ends (dated_part version)
  dated_ends = then_ends (registered_part version) (λ _. placed_part) (registered_core version) (registered_ends version) (λ _ _. placed_ends)

  pub item_core : Core (item_part version)
  item_core = seen_core item_of of_item (item_parts version) (item_part version) item_is (then_core part32 (λ _. dated_part version) core32 (λ _ _. dated_core))

  pub item_ends : Ends (item_part version)
  item_ends = seen_ends item_of of_item (item_parts version) (item_part version) item_is (then_ends part32 (λ _. dated_part version) core32 ends32 (λ _ _. dated_ends))

-- ---- the item before

abbrev before_tag : Option Item → ℕ
before_tag None = 0
before_tag (Some item) = 1

none_from : Reads (Option Item)
none_from bytes = Ok (None, bytes)

item_or : Item → Option Item → Item
item_or item None = item
item_or item (Some other) = other

pub some_is : {A : Type 0} {x y : A} → Some x ≡ Some y → x ≡ y
some_is e = cc

module _ (version : Version) where
  behind_before : Option Item → List ℕ
  behind_before None = []
  behind_before (Some item) = item_text version item

  some_from : Reads (Option Item)
  some_from = map_from (λ item. Some item) (item_from version)

  before_pick : ℕ → Option (Reads (Option Item))
  before_pick first = cond (eqb first 0) (Some none_from) (cond (eqb first 1) (Some some_from) None)

  abbrev BeforeAt : ℕ → Flaw
  BeforeAt first bytes e = (first ≡ 1) × TagFlaw (IsLongItem version) bytes e

  abbrev FitsBeforeAt : ℕ → Option Item → Type 0
  FitsBeforeAt = FitsAt before_tag (IsBeforeIn version)

  abbrev before_choice : Choice (Option Item)
  before_choice = record { tag_of = before_tag; behind = behind_before; Fits = IsBeforeIn version; pick = before_pick; FlawAt = BeforeAt }

  none_core : Core (behind_part before_choice 0 none_from)
  unfolding behind_before none_from
  none_core = record {
    takes = λ bytes x fits e.
        let made : Option Item × List ℕ = (None, bytes) in
        subst (λ (y : Option Item × List ℕ). Took behind_before (FitsBeforeAt 0) bytes y) (ok_is made x e) (record { parts = refl; fits = (refl, (tt, tt)); rest_bytes = fits });
    again = again;
    stops = λ bytes e fits h. absurd cc;
    flawed = λ bytes e f. absurd (omega (arith, f.0));
    behind = λ bytes e fits h. absurd cc;
  }
    where
      again : (x : Option Item) (rest : List ℕ) → FitsBeforeAt 0 x → none_from (behind_before x ++ rest) ≡ Ok (x, rest)
      again None rest fits = refl
      again (Some item) rest fits = absurd (omega (arith, fits.0))

  none_ends : Ends (behind_part before_choice 0 none_from)
  unfolding behind_before none_from
  none_ends = record {
    short = λ bytes front. absurd (short front.value bytes front.next front.more front.fits front.text_is);
    begun = λ bytes fits h. absurd cc;
    sample = None;
    sample_fits = (refl, (tt, tt));
  }
    where
      short : (x : Option Item) (bytes : List ℕ) (next : ℕ) (more : List ℕ) → FitsBeforeAt 0 x → behind_before x ≡ bytes ++ next ∷ more → ⊥
      short None [] next more fits e = absurd cc
      short None (b ∷ bytes) next more fits e = absurd cc
      short (Some item) bytes next more fits e = absurd (omega (arith, fits.0))

  some_back : (item : Item) (x : Option Item) → FitsBeforeAt 1 x → Some (item_or item x) ≡ x
  unfolding item_or
  some_back item None fits = absurd (omega (arith, fits.0))
  some_back item (Some other) fits = refl

  some_fits : (item : Item) (x : Option Item) → FitsBeforeAt 1 x → IsItemIn version (item_or item x)
  unfolding item_or
  some_fits item None fits = absurd (omega (arith, fits.0))
  some_fits item (Some other) fits = fits.1

  abbrev some_in : Option Item → Item
  some_in = item_or (item_ends version).sample

  some_seen : IsSeenBy (λ (item : Item). Some item) some_in (item_part version) (behind_part before_choice 1 some_from)
  unfolding behind_before some_from
  some_seen = record {
    read = λ bytes. refl;
    back = some_back (item_ends version).sample;
    spell = λ item fits. refl;
    to = λ item fits. (refl, fits);
    from = some_fits (item_ends version).sample;
    flaw_to = λ bytes e f. (refl, f);
    flaw_from = λ bytes e f. f.1;
  }

  some_core : Core (behind_part before_choice 1 some_from)
  some_core = seen_core (λ (item : Item). Some item) some_in (item_part version) (behind_part before_choice 1 some_from) some_seen (item_core version)

  some_ends : Ends (behind_part before_choice 1 some_from)
  some_ends = seen_ends (λ (item : Item). Some item) some_in (item_part version) (behind_part before_choice 1 some_from) some_seen (item_ends version)

  before_cases : (first : ℕ) (read : Reads (Option Item)) → before_pick first ≡ Some read → ((first ≡ 0) × (none_from ≡ read)) ⊎ ((first ≡ 1) × (some_from ≡ read))
  unfolding before_pick
  before_cases first read e =
      elim (cases_Bool (eqb first 0)) [
        | inl zero_it ↦ let is : Some none_from ≡ Some read = rw zero_it at e in inl (eqb-true first 0 zero_it, some_is is)
        | inr not_zero ↦
            elim (cases_Bool (eqb first 1)) [
              | inl one_it ↦ let is : Some some_from ≡ Some read = rw (not_zero, one_it) at e in inr (eqb-true first 1 one_it, some_is is)
              | inr not_one ↦ let is : None ≡ Some read = rw (not_zero, not_one) at e in absurd cc
            ]
      ]

  before_known : (x : Option Item) → IsBeforeIn version x → (read : Reads (Option Item)) × (before_pick (before_tag x) ≡ Some read)
  unfolding before_pick
  before_known None fits = (none_from, refl)
  before_known (Some item) fits = (some_from, refl)

  before_at : (first : ℕ) (read : Reads (Option Item)) → before_pick first ≡ Some read → Core (behind_part before_choice first read)
  before_at first read e =
      elim (before_cases first read e) [
        | inl w ↦ subst (λ (r : Reads (Option Item)). Core (behind_part before_choice first r)) w.1 (subst (λ (t : ℕ). Core (behind_part before_choice t none_from)) (sym w.0) none_core)
        | inr w ↦ subst (λ (r : Reads (Option Item)). Core (behind_part before_choice first r)) w.1 (subst (λ (t : ℕ). Core (behind_part before_choice t some_from)) (sym w.0) some_core)
      ]

  before_at_ends : (first : ℕ) (read : Reads (Option Item)) → before_pick first ≡ Some read → Ends (behind_part before_choice first read)
  before_at_ends first read e =
      elim (before_cases first read e) [
        | inl w ↦ subst (λ (r : Reads (Option Item)). Ends (behind_part before_choice first r)) w.1 (subst (λ (t : ℕ). Ends (behind_part before_choice t none_from)) (sym w.0) none_ends)
        | inr w ↦ subst (λ (r : Reads (Option Item)). Ends (behind_part before_choice first r)) w.1 (subst (λ (t : ℕ). Ends (behind_part before_choice t some_from)) (sym w.0) some_ends)
      ]

  before_is : (bytes : List ℕ) → before_from version bytes ≡ choice_from before_pick bytes
  unfolding before_from before_pick none_from some_from
  before_is [] = refl
  before_is (first ∷ rest) =
      elim (cases_Bool (eqb first 0)) [
        | inl zero_it ↦ rw zero_it refl
        | inr not_zero ↦
            elim (cases_Bool (eqb first 1)) [
              | inl one_it ↦ rw (not_zero, one_it) refl
              | inr not_one ↦ rw (not_zero, not_one) refl
            ]
      ]

  before_spelled : (x : Option Item) → IsBeforeIn version x → before_text version x ≡ tagged_text before_tag behind_before x
  unfolding before_text behind_before
  before_spelled None fits = refl
  before_spelled (Some item) fits = refl

  none_picked : (first : ℕ) → before_pick first ≡ None → (first ≢ 0) × (first ≢ 1)
  unfolding before_pick
  none_picked first e = (not_zero, not_one)
    where
      not_zero : first ≢ 0
      not_zero is = let t : eqb first 0 ≡ true = eq-eqb first 0 is in let some : Some none_from ≡ None = rw t at e in absurd cc

      not_one : first ≢ 1
      not_one is =
          let t : eqb first 0 ≡ false = ne_eqb first 0 (λ h. absurd (omega (arith, is, h))) in
          let u : eqb first 1 ≡ true = eq-eqb first 1 is in
          let some : Some some_from ≡ None = rw (t, u) at e in
          absurd cc

  picked_none : (first : ℕ) → first ≢ 0 → first ≢ 1 → before_pick first ≡ None
  unfolding before_pick
  picked_none first h h' = let t : eqb first 0 ≡ false = ne_eqb first 0 h in let u : eqb first 1 ≡ false = ne_eqb first 1 h' in rw (t, u) refl

  picked_one : before_pick 1 ≡ Some some_from
  unfolding before_pick
  picked_one = refl

  before_to : (bytes : List ℕ) (e : Spot) → ChoiceFlaw before_pick BeforeAt bytes e → TagFlaw (IsBadBefore version) bytes e
  before_to bytes e (unknown first more parts none is) =
      let w = none_picked first none in
      record { rest = bytes; flaw = no_flag (record { first = first; more = more; text = parts; other = (w.0, (w.1, tt)) }) refl; is = is }
  before_to bytes e (behind_tag first more read parts is f) =
      let w = f.1.flaw in
      record { rest = f.1.rest; flaw = long_value w.height w.registered w.at w.height_fits w.registered_fits w.at_fits (parts ∙ ap (λ (b : ℕ). b ∷ more) f.0 ∙ ap (λ (l : List ℕ). 1 ∷ l) w.parts) w.long; is = f.1.is }

  before_of : (bytes : List ℕ) (e : Spot) → TagFlaw (IsBadBefore version) bytes e → ChoiceFlaw before_pick BeforeAt bytes e
  before_of bytes e f = go f.rest f.flaw f.is
    where
      go : (rest : List ℕ) → IsBadBefore version bytes rest → (BadTag, rest) ≡ e → ChoiceFlaw before_pick BeforeAt bytes e
      go rest (no_flag other same) is =
          unknown other.first other.more other.text (picked_none other.first other.other.0 other.other.1.0) (ap (λ (l : List ℕ). (BadTag, l)) (sym same) ∙ is)
      go rest (long_value height registered at height_fits registered_fits at_fits parts long) is =
          behind_tag 1 (to_le_bytes w32 height ++ (registered_text version registered ++ (point_text at ++ rest))) some_from parts picked_one (
            refl,
            record {
              rest = rest;
              flaw = record { height = height; registered = registered; at = at; height_fits = height_fits; registered_fits = registered_fits; at_fits = at_fits; parts = refl; long = long };
              is = is;
            },
          )

  abbrev pub before_part : Part (Option Item)
  before_part = record { text = before_text version; Fits = IsBeforeIn version; Flawed = TagFlaw (IsBadBefore version); read = before_from version }

  before_said : IsSaid (choice_part before_choice) before_part
  before_said = record { read = before_is; spell = before_spelled; to = λ x fits. fits; from = λ x fits. fits; flaw_to = before_to; flaw_from = before_of }

  pub before_core : Core before_part
  before_core = said_core (choice_part before_choice) before_part before_said (choice_core before_choice before_known before_at)

  pub before_ends : Ends before_part
  before_ends = said_ends (choice_part before_choice) before_part before_said (choice_ends before_choice before_known before_at_ends None (tt, tt))
