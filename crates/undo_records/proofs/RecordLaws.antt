-- The laws of the record.
use Rattle.std.proofs.Common.{◌≡◌, ℕ, ◌<◌, ◌^◌, ◌⊎◌, true, false, List, [], ◌∷◌, ◌++◌, length, Option, Some, None, refl, sym, ap, subst, ◌∙◌, append_assoc, arith, inl, inr}
use Rattle.std.specs.Prelude.{Err}
use Rattle.std.specs.List.{flat_map, AllByRecursion}
use Rattle.std.specs.Int.{w32, to_le_bytes}
use Rattle.std.proofs.lemmas.Bool.{false≢true, cases_Bool}
use Rattle.nmc_base.specs.declared.hashes.OutPoint.{OutPoint}
use Rattle.chain_names.specs.declared.coin.HeldCoin.{HeldCoin}
use Rattle.chain_names.specs.declared.coin.Item.{Item}
use Rattle.chain_names.specs.declared.undo.UndoOp.{UndoOp}
use Rattle.chain_names.specs.declared.undo.UndoOp.TheVariants.{New, First, Update}
use Rattle.chain_names.specs.Undo.{UndoRecord}
use Rattle.block_grammar.proofs.Readers.{IsBytes}
use Rattle.block_grammar.specs.Combinators.{then_from, map_from, many_from}
use Rattle.block_grammar.proofs.ReaderLaws.{err_is}
use Rattle.undo_records.specs.declared.fault.FaultKind.{FaultKind}
use Rattle.undo_records.specs.declared.fault.FaultKind.TheVariants.{Cut, BadTag, Unsorted}
use Rattle.undo_records.specs.Reading.{Reads, number_from, piece_from, op_from, ops_from, is_after, coins_from, expired_from, undo_from}
use Rattle.undo_records.specs.Text.{point_text, op_text, held_text, undo_text}
use Rattle.undo_records.specs.declared.version.Version.{Version}
use Rattle.undo_records.specs.declared.version.Version.TheVariants.{One, Two}
use Rattle.undo_records.specs.Versions.{told, IsToldBefore, IsToldOp, AreTold, IsOpIn, HasPartsIn, IsUndoIn}
use Rattle.chain_names.specs.Writable.{IsWritableBefore, IsWritableOp, IsWritableHeld, IsAfter, AreAscending}
use Rattle.undo_records.specs.Faults.{IsOther, last_point, ReachesOperation, ReachesCoin, IsBadTag, operation, expired_coin, IsUnsorted, IsCut}
use Rattle.undo_records.proofs.Laws.{Spot, ended, Flaw, Part, Core, Ends, PairFlaw, in_first, in_second, then_part, then_core, then_ends, IsSeenBy, seen_core, seen_ends, IsSaid, said_core, TagFlaw, many_part, many_core, many_ends}
use Rattle.undo_records.proofs.Choices.{no_cut}
use Rattle.undo_records.proofs.FieldLaws.{part32, core32, ends32, piece_part, piece_core, piece_ends}
use Rattle.undo_records.proofs.OpLaws.{op_part, op_core, op_ends}
use Rattle.undo_records.proofs.CoinLaws.{held_part, after_is, is_after_at, last_after, last_is, coins_part, coins_core, loose_held_from, loose_held_part, loose_coins_ends, OrUnsorted, the_same, unsorted, bind_same, coins_same}

-- ---- values behind their number

abbrev counted_text : {A : Type 0} → (A → List ℕ) → List A → List ℕ
counted_text text xs = to_le_bytes w32 (length xs) ++ flat_map text xs

abbrev CountedFits : {A : Type 0} → (List A → Type 0) → List A → Type 0
CountedFits Fits xs = (length xs < 2 ^ 32) × Fits xs

abbrev HasCount : {A : Type 0} → (List A → Type 0) → ℕ → List A → Type 0
HasCount Fits n xs = (length xs ≡ n) × Fits xs

-- so many values, all of which fit
abbrev all_part : {A : Type 0} → (A → List ℕ) → (List A → Type 0) → (ℕ → Flaw) → (ℕ → Reads (List A)) → ℕ → Part (List A)
all_part text Fits FlawAt all n = record { text = flat_map text; Fits = HasCount Fits n; Flawed = FlawAt n; read = all n }

abbrev counted_part : {A : Type 0} → (A → List ℕ) → (List A → Type 0) → (ℕ → Flaw) → (ℕ → Reads (List A)) → Part (List A)
counted_part text Fits FlawAt all = record {
  text = counted_text text;
  Fits = CountedFits Fits;
  Flawed = PairFlaw part32 (all_part text Fits FlawAt all);
  read = map_from (λ x. x.1) (then_from (number_from w32) all);
}

module _ {A : Type 0} (text : A → List ℕ) (Fits : List A → Type 0) (FlawAt : ℕ → Flaw) (all : ℕ → Reads (List A)) where
  counted_is : IsSeenBy (λ (x : ℕ × List A). x.1) (λ (xs : List A). (length xs, xs)) (then_part part32 (all_part text Fits FlawAt all)) (counted_part text Fits FlawAt all)
  counted_is = record {
    read = λ bytes. refl;
    back = λ xs fits. refl;
    spell = λ x fits. rw fits.1.0 refl;
    to = λ x fits. (omega (arith, fits.0, fits.1.0), fits.1.1);
    from = λ xs fits. (fits.0, (refl, fits.1));
    flaw_to = λ bytes e f. f;
    flaw_from = λ bytes e f. f;
  }

  pub counted_core : ((n : ℕ) → Core (all_part text Fits FlawAt all n)) → Core (counted_part text Fits FlawAt all)
  counted_core laws =
      seen_core (λ (x : ℕ × List A). x.1) (λ (xs : List A). (length xs, xs)) (then_part part32 (all_part text Fits FlawAt all)) (counted_part text Fits FlawAt all) counted_is
      (then_core part32 (all_part text Fits FlawAt all) core32 (λ n _. laws n))

  pub counted_ends : ((n : ℕ) → Ends (all_part text Fits FlawAt all n)) → Ends (counted_part text Fits FlawAt all)
  counted_ends laws =
      seen_ends (λ (x : ℕ × List A). x.1) (λ (xs : List A). (length xs, xs)) (then_part part32 (all_part text Fits FlawAt all)) (counted_part text Fits FlawAt all) counted_is
      (then_ends part32 (all_part text Fits FlawAt all) core32 ends32 (λ n _. laws n))

abbrev CoinsOk : List HeldCoin → Type 0
CoinsOk coins = AllByRecursion IsWritableHeld coins × AreAscending None coins

abbrev pub expired_part : Part (List HeldCoin)
expired_part = record {
  text = counted_text held_text;
  Fits = CountedFits CoinsOk;
  Flawed = (counted_part held_text CoinsOk (λ n. (coins_part None n).Flawed) (coins_from None)).Flawed;
  read = expired_from;
}

pub expired_core : Core expired_part
unfolding expired_from
expired_core = counted_core held_text CoinsOk (λ n. (coins_part None n).Flawed) (coins_from None) (coins_core None)

loose_expired_from : Reads (List HeldCoin)
loose_expired_from = map_from (λ x. x.1) (then_from (number_from w32) (many_from loose_held_from))

abbrev loose_expired_part : Part (List HeldCoin)
loose_expired_part = record {
  text = counted_text held_text;
  Fits = CountedFits (AllByRecursion IsWritableHeld);
  Flawed = (counted_part held_text (AllByRecursion IsWritableHeld) (λ n. (many_part loose_held_part n).Flawed) (many_from loose_held_from)).Flawed;
  read = loose_expired_from;
}

loose_expired_ends : Ends loose_expired_part
unfolding loose_expired_from
loose_expired_ends = counted_ends held_text (AllByRecursion IsWritableHeld) (λ n. (many_part loose_held_part n).Flawed) (many_from loose_held_from) loose_coins_ends

-- ---- the record

abbrev Tail : Type 0
Tail = List UndoOp × List HeldCoin

abbrev record_of : List ℕ × Tail → UndoRecord
record_of x = record { block = record { 0 = x.0 }; ops = x.1.0; expired = x.1.1 }

abbrev of_record : UndoRecord → List ℕ × Tail
of_record undo = (undo.block.0, (undo.ops, undo.expired))

-- a version's condition on a record is that on its operations
pub all_told : (version : Version) (ops : List UndoOp) → AllByRecursion (IsOpIn version) ops → AllByRecursion IsWritableOp ops × AllByRecursion (IsToldOp version) ops
all_told version [] all = (tt, tt)
all_told version (op ∷ ops) all = let rest = all_told version ops all.1 in ((all.0.0, rest.0), (all.0.1, rest.1))

both_told : (version : Version) (ops : List UndoOp) → AllByRecursion IsWritableOp ops → AllByRecursion (IsToldOp version) ops → AllByRecursion (IsOpIn version) ops
both_told version [] all told = tt
both_told version (op ∷ ops) all told = ((all.0, told.0), both_told version ops all.1 told.1)

-- version 2 tells each operation that has a text
tells_before : (before : Option Item) → IsWritableBefore before → IsToldBefore Two before
tells_before None fits = tt
tells_before (Some item) fits = fits.registered

tells_op : (op : UndoOp) → IsWritableOp op → IsToldOp Two op
tells_op (New made) fits = tt
tells_op (First made spent coin name before) fits = tells_before before fits.before
tells_op (Update made spent coin name before) fits = tells_before before fits.before

tells_ops : (ops : List UndoOp) → AllByRecursion IsWritableOp ops → AllByRecursion (IsToldOp Two) ops
tells_ops [] all = tt
tells_ops (op ∷ ops) all = (tells_op op all.0, tells_ops ops all.1)

are_told : (version : Version) (undo : UndoRecord) → AllByRecursion (IsToldOp version) undo.ops → AreTold version undo
are_told One undo told = told
are_told Two undo told = tt

ops_told : (version : Version) (undo : UndoRecord) → AllByRecursion IsWritableOp undo.ops → AreTold version undo → AllByRecursion (IsToldOp version) undo.ops
ops_told One undo all told = told
ops_told Two undo all told = tells_ops undo.ops all

not_both : (last : Option OutPoint) (at : OutPoint) → IsAfter last at → is_after last at ≡ false → ⊥
not_both last at after fails = let holds : is_after last at ≡ true = is_after_at last at after in false≢true (sym fails ∙ holds)

fails_at : (last : Option OutPoint) (at : OutPoint) → ¬ (IsAfter last at) → is_after last at ≡ false
fails_at last at not_after = elim (cases_Bool (is_after last at)) [ inl holds ↦ absurd (not_after (after_is last at holds)) | inr fails ↦ fails ]

pub kinds_apart : Unsorted ≡ Cut → ⊥
kinds_apart e = subst is_unsorted e tt
  where
    is_unsorted : FaultKind → Type 0
    is_unsorted Cut = ⊥
    is_unsorted BadTag = ⊥
    is_unsorted Unsorted = Unit {0}

tags_apart : BadTag ≡ Unsorted → ⊥
tags_apart e = subst is_tag e tt
  where
    is_tag : FaultKind → Type 0
    is_tag Cut = ⊥
    is_tag BadTag = Unit {0}
    is_tag Unsorted = ⊥

module _ (version : Version) where
  abbrev pub ops_part : Part (List UndoOp)
  ops_part = record {
    text = counted_text (op_text version);
    Fits = CountedFits (AllByRecursion (IsOpIn version));
    Flawed = (counted_part (op_text version) (AllByRecursion (IsOpIn version)) (λ n. (many_part (op_part version) n).Flawed) (many_from (op_from version))).Flawed;
    read = ops_from version;
  }

  pub ops_core : Core ops_part
  unfolding ops_from
  ops_core =
      counted_core (op_text version) (AllByRecursion (IsOpIn version)) (λ n. (many_part (op_part version) n).Flawed) (many_from (op_from version))
      (many_core (op_part version) (op_ends version).sample (op_core version))

  pub ops_ends : Ends ops_part
  unfolding ops_from
  ops_ends =
      counted_ends (op_text version) (AllByRecursion (IsOpIn version)) (λ n. (many_part (op_part version) n).Flawed) (many_from (op_from version))
      (many_ends (op_part version) (op_ends version).sample (op_core version) (op_ends version))

  -- a record behind these expired coins
  abbrev record_parts : Part (List HeldCoin) → Part (List ℕ × Tail)
  record_parts coins = then_part (piece_part 32) (λ _. then_part ops_part (λ _. coins))

  record_core : (coins : Part (List HeldCoin)) → Core coins → Core (record_parts coins)
  record_core coins core = then_core (piece_part 32) (λ _. then_part ops_part (λ _. coins)) (piece_core 32) (λ _ _. then_core ops_part (λ _. coins) ops_core (λ _ _. core))

  record_ends : (coins : Part (List HeldCoin)) → Ends coins → Ends (record_parts coins)
  record_ends coins ends =
      then_ends (piece_part 32) (λ _. then_part ops_part (λ _. coins)) (piece_core 32) (piece_ends 32) (λ _ _. then_ends ops_part (λ _. coins) ops_core ops_ends (λ _ _. ends))

  spelled : (x : List ℕ × Tail) → undo_text version (record_of x) ≡ x.0 ++ ((counted_text (op_text version) x.1.0) ++ counted_text held_text x.1.1)
  unfolding undo_text
  spelled x = ap (λ (l : List ℕ). x.0 ++ l) (sym (append_assoc (to_le_bytes w32 (length x.1.0)) (flat_map (op_text version) x.1.0) (counted_text held_text x.1.1)))

  abbrev raw_part : Part UndoRecord
  raw_part = record { text = undo_text version; Fits = IsUndoIn version; Flawed = (record_parts expired_part).Flawed; read = undo_from version }

  raw_to : (x : List ℕ × Tail) → (record_parts expired_part).Fits x → IsUndoIn version (record_of x)
  raw_to x fits =
      let all = all_told version x.1.0 fits.1.0.1 in
      (record { fits = record { block = fits.0; op_count = fits.1.0.0; ops = all.0; expired_count = fits.1.1.0; expired = fits.1.1.1.0 }; in_order = fits.1.1.1.1 }, are_told version (record_of x) all.1)

  raw_from : (undo : UndoRecord) → IsUndoIn version undo → (record_parts expired_part).Fits (of_record undo)
  raw_from undo fits =
      let f = fits.0.fits in
      (f.block, ((f.op_count, both_told version undo.ops f.ops (ops_told version undo f.ops fits.1)), (f.expired_count, (f.expired, fits.0.in_order))))

  raw_is : IsSeenBy record_of of_record (record_parts expired_part) raw_part
  unfolding undo_from
  raw_is = record { read = λ bytes. refl; back = λ undo fits. refl; spell = λ x fits. spelled x; to = raw_to; from = raw_from; flaw_to = λ bytes e f. f; flaw_from = λ bytes e f. f }

  raw_core : Core raw_part
  raw_core = seen_core record_of of_record (record_parts expired_part) raw_part raw_is (record_core expired_part expired_core)

  -- the record, whatever the order of its expired coins
  loose_undo_from : Reads UndoRecord
  loose_undo_from = map_from record_of (then_from (piece_from 32) (λ _. then_from (ops_from version) (λ _. loose_expired_from)))

  abbrev loose_part : Part UndoRecord
  loose_part = record { text = undo_text version; Fits = HasPartsIn version; Flawed = (record_parts loose_expired_part).Flawed; read = loose_undo_from }

  loose_to : (x : List ℕ × Tail) → (record_parts loose_expired_part).Fits x → HasPartsIn version (record_of x)
  loose_to x fits =
      let all = all_told version x.1.0 fits.1.0.1 in
      (record { block = fits.0; op_count = fits.1.0.0; ops = all.0; expired_count = fits.1.1.0; expired = fits.1.1.1 }, are_told version (record_of x) all.1)

  loose_of : (undo : UndoRecord) → HasPartsIn version undo → (record_parts loose_expired_part).Fits (of_record undo)
  loose_of undo fits =
      let f = fits.0 in
      (f.block, ((f.op_count, both_told version undo.ops f.ops (ops_told version undo f.ops fits.1)), (f.expired_count, f.expired)))

  loose_is : IsSeenBy record_of of_record (record_parts loose_expired_part) loose_part
  unfolding loose_undo_from
  loose_is = record { read = λ bytes. refl; back = λ undo fits. refl; spell = λ x fits. spelled x; to = loose_to; from = loose_of; flaw_to = λ bytes e f. f; flaw_from = λ bytes e f. f }

  loose_ends : Ends loose_part
  loose_ends = seen_ends record_of of_record (record_parts loose_expired_part) loose_part loose_is (record_ends loose_expired_part loose_expired_ends)

  undo_same : (bytes : List ℕ) → OrUnsorted (undo_from version bytes) (loose_undo_from bytes)
  unfolding undo_from loose_undo_from expired_from loose_expired_from
  undo_same bytes =
      bind_same (then_from (piece_from 32) (λ _. then_from (ops_from version) (λ _. expired_from)) bytes) (then_from (piece_from 32) (λ _. then_from (ops_from version) (λ _. loose_expired_from)) bytes) _ _
      (bind_same (piece_from 32 bytes) (piece_from 32 bytes) _ _ (the_same refl) (λ x.
      bind_same (then_from (ops_from version) (λ _. expired_from) x.1) (then_from (ops_from version) (λ _. loose_expired_from) x.1) _ _
      (bind_same (ops_from version x.1) (ops_from version x.1) _ _ (the_same refl) (λ y.
      bind_same (expired_from y.1) (loose_expired_from y.1) _ _
      (bind_same (then_from (number_from w32) (coins_from None) y.1) (then_from (number_from w32) (many_from loose_held_from) y.1) _ _
      (bind_same (number_from w32 y.1) (number_from w32 y.1) _ _ (the_same refl) (λ z.
      bind_same (coins_from None z.0 z.1) (many_from loose_held_from z.0 z.1) _ _ (coins_same None z.0 z.1) (λ w. the_same refl)))
      (λ z. the_same refl))
      (λ z. the_same refl)))
      (λ y. the_same refl)))
      (λ x. the_same refl)

  -- ---- flaws, by the grammar

  -- a bad tag, or an outpoint out of order
  pub data UndoFlaw (bytes : List ℕ) (e : Spot) : Type 0 where
    bad_tag : TagFlaw (IsBadTag version) bytes e → UndoFlaw bytes e
    out_of_order : (rest : List ℕ) → IsUnsorted version bytes rest → (Unsorted, rest) ≡ e → UndoFlaw bytes e

  undo_to : (bytes : List ℕ) (e : Spot) → (record_parts expired_part).Flawed bytes e → UndoFlaw bytes e
  undo_to bytes e (in_first f) = absurd f
  undo_to bytes e (in_second block mid block_length p1 (in_first (in_first f))) = absurd f
  undo_to bytes e (in_second block mid block_length p1 (in_first (in_second count mid2 count_fits p2 f))) = bad_tag (record {
    rest = f.flaw.rest;
    flaw = operation f.inner (record {
      block = block;
      block_length = block_length;
      count = count;
      count_fits = count_fits;
      ops = f.before;
      ops_fit = f.fits;
      fewer = f.fewer;
      text = p1 ∙ ap (λ (l : List ℕ). block ++ l) (p2 ∙ ap (λ (l : List ℕ). to_le_bytes w32 count ++ l) f.parts);
    }) f.flaw.flaw;
    is = f.flaw.is;
  })
  undo_to bytes e (in_second block mid block_length p1 (in_second ops mid2 ops_fits p2 (in_first f))) = absurd f
  undo_to bytes e (in_second block mid block_length p1 (in_second ops mid2 ops_fits p2 (in_second count mid3 count_fits p3 f))) = go f.flaw
    where
      reached : ReachesCoin version bytes f.before f.inner
      reached = record {
        block = block;
        block_length = block_length;
        ops = ops;
        op_count = ops_fits.0;
        ops_fit = ops_fits.1;
        count = count;
        count_fits = count_fits;
        coins_fit = f.fits;
        in_order = f.in_order;
        fewer = f.fewer;
        text = p1 ∙ ap (λ (l : List ℕ). block ++ l)
            (p2 ∙ append_assoc (to_le_bytes w32 (length ops)) (flat_map (op_text version) ops) mid2
            ∙ ap (λ (l : List ℕ). to_le_bytes w32 (length ops) ++ (flat_map (op_text version) ops ++ l)) (p3 ∙ ap (λ (l : List ℕ). to_le_bytes w32 count ++ l) f.parts));
      }

      go : (held_part (last_after None f.before)).Flawed f.inner e → UndoFlaw bytes e
      go (in_first c) = out_of_order f.inner (record {
        coins = f.before;
        reached = reached;
        at = c.value;
        more = c.rest;
        fits = c.fits;
        text = c.parts;
        not_after = λ after. not_both (last_after None f.before) c.value (subst (λ (last : Option OutPoint). IsAfter last c.value) (sym (last_is f.before)) after) c.fails;
      }) c.is
      go (in_second at inner at_fits p4 t) = bad_tag (record {
        rest = t.rest;
        flaw = expired_coin f.before f.inner at reached at_fits.0 (subst (λ (last : Option OutPoint). IsAfter last at) (last_is f.before) at_fits.1)
            (p4 ∙ ap (λ (l : List ℕ). point_text at ++ l) (sym t.flaw.1)) (subst (λ (l : List ℕ). IsOther (2 ∷ []) l) (sym t.flaw.1) t.flaw.0);
        is = t.is;
      })

  reached_ops : (bytes inner : List ℕ) (r : ReachesOperation version bytes inner) (e : Spot) → (op_part version).Flawed inner e → (record_parts expired_part).Flawed bytes e
  reached_ops bytes inner r e f =
      in_second r.block (to_le_bytes w32 r.count ++ (flat_map (op_text version) r.ops ++ inner)) r.block_length r.text
      (in_first (in_second r.count (flat_map (op_text version) r.ops ++ inner) r.count_fits refl
      (record { before = r.ops; fits = r.ops_fit; fewer = r.fewer; inner = inner; parts = refl; flaw = f })))

  reached_coins : (bytes : List ℕ) (coins : List HeldCoin) (inner : List ℕ) (r : ReachesCoin version bytes coins inner) (e : Spot) → (held_part (last_point coins)).Flawed inner e → (record_parts expired_part).Flawed bytes e
  reached_coins bytes coins inner r e f =
      let rest : List ℕ = to_le_bytes w32 r.count ++ (flat_map held_text coins ++ inner) in
      in_second r.block (to_le_bytes w32 (length r.ops) ++ (flat_map (op_text version) r.ops ++ rest)) r.block_length r.text
      (in_second r.ops rest (r.op_count, r.ops_fit) (sym (append_assoc (to_le_bytes w32 (length r.ops)) (flat_map (op_text version) r.ops) rest))
      (in_second r.count (flat_map held_text coins ++ inner) r.count_fits refl
      (record { before = coins; fits = r.coins_fit; in_order = r.in_order; fewer = r.fewer; inner = inner; parts = refl; flaw = subst (λ (last : Option OutPoint). (held_part last).Flawed inner e) (sym (last_is coins)) f })))

  undo_of : (bytes : List ℕ) (e : Spot) → UndoFlaw bytes e → (record_parts expired_part).Flawed bytes e
  undo_of bytes e (bad_tag t) = go t.rest t.flaw t.is
    where
      go : (rest : List ℕ) → IsBadTag version bytes rest → (BadTag, rest) ≡ e → (record_parts expired_part).Flawed bytes e
      go rest (operation inner reached bad) is = reached_ops bytes inner reached e (record { rest = rest; flaw = bad; is = is })
      go rest (expired_coin coins inner at reached at_fits after parts other) is =
          reached_coins bytes coins inner reached e (in_second at rest (at_fits, after) parts (record { rest = rest; flaw = (other, refl); is = is }))
  undo_of bytes e (out_of_order rest u is) =
      reached_coins bytes u.coins rest u.reached e
      (in_first (record { value = u.at; rest = u.more; fits = u.fits; parts = u.text; fails = fails_at (last_point u.coins) u.at u.not_after; is = is }))

  abbrev pub undo_part : Part UndoRecord
  undo_part = record { text = undo_text version; Fits = IsUndoIn version; Flawed = UndoFlaw; read = undo_from version }

  undo_is : IsSaid raw_part undo_part
  undo_is = record { read = λ bytes. refl; spell = λ x fits. refl; to = λ x fits. fits; from = λ x fits. fits; flaw_to = undo_to; flaw_from = undo_of }

  pub undo_core : Core undo_part
  undo_core = said_core raw_part undo_part undo_is raw_core

  -- ---- where bytes end too early

  -- the fault of an outpoint out of order, with its cause
  pub unsorted_cause : (bytes rest : List ℕ) → IsBytes bytes → undo_from version bytes ≡ Err (Unsorted, rest) → IsUnsorted version bytes rest
  unsorted_cause bytes rest fits h = go (undo_core.stops bytes (Unsorted, rest) fits h)
    where
      go : ((Unsorted, rest) ≡ ended) ⊎ UndoFlaw bytes (Unsorted, rest) → IsUnsorted version bytes rest
      go (inl cut) = absurd (kinds_apart (ap (λ (s : Spot). s.0) cut))
      go (inr (bad_tag t)) = absurd (tags_apart (ap (λ (s : Spot). s.0) t.is))
      go (inr (out_of_order other u is)) = subst (λ (l : List ℕ). IsUnsorted version bytes l) (ap (λ (s : Spot). s.1) is) u

  pub tag_cause : (bytes rest : List ℕ) → IsBytes bytes → undo_from version bytes ≡ Err (BadTag, rest) → IsBadTag version bytes rest
  tag_cause bytes rest fits h = go (undo_core.stops bytes (BadTag, rest) fits h)
    where
      go : ((BadTag, rest) ≡ ended) ⊎ UndoFlaw bytes (BadTag, rest) → IsBadTag version bytes rest
      go (inl cut) = absurd (no_cut (ap (λ (s : Spot). s.0) cut))
      go (inr (bad_tag t)) = subst (λ (l : List ℕ). IsBadTag version bytes l) (ap (λ (s : Spot). s.1) t.is) t.flaw
      go (inr (out_of_order other u is)) = absurd (tags_apart (sym (ap (λ (s : Spot). s.0) is)))

  pub cut_cause : (bytes : List ℕ) → IsBytes bytes → undo_from version bytes ≡ Err ended → IsCut version bytes
  cut_cause bytes fits h = record {
    front = loose_ends.begun bytes fits (loose (undo_same bytes));
    sorted = λ rest u. kinds_apart (ap (λ (s : Spot). s.0) (err_is (Unsorted, rest) ended (sym (undo_core.flawed bytes (Unsorted, rest) (out_of_order rest u refl)) ∙ h)));
  }
    where
      loose : OrUnsorted (undo_from version bytes) (loose_undo_from bytes) → loose_undo_from bytes ≡ Err ended
      loose (the_same is) = sym is ∙ h
      loose (unsorted rest is) = absurd (kinds_apart (ap (λ (s : Spot). s.0) (err_is (Unsorted, rest) ended (sym is ∙ h))))

  -- a front of a record's text, where nothing in it is out of order
  pub front_cut : (bytes : List ℕ) → IsBytes bytes → IsCut version bytes → undo_from version bytes ≡ Err ended
  front_cut bytes fits cut = go (undo_same bytes)
    where
      go : OrUnsorted (undo_from version bytes) (loose_undo_from bytes) → undo_from version bytes ≡ Err ended
      go (the_same is) = is ∙ loose_ends.short bytes cut.front
      go (unsorted rest is) = absurd (cut.sorted rest (unsorted_cause bytes rest fits is))

  -- bytes that begin the same way are out of order too
  pub unsorted_grows : (bytes rest more : List ℕ) → IsUnsorted version bytes rest → IsUnsorted version (bytes ++ more) (rest ++ more)
  unsorted_grows bytes rest more u =
      let r = u.reached in
      record {
        coins = u.coins;
        reached = record {
          block = r.block;
          block_length = r.block_length;
          ops = r.ops;
          op_count = r.op_count;
          ops_fit = r.ops_fit;
          count = r.count;
          count_fits = r.count_fits;
          coins_fit = r.coins_fit;
          in_order = r.in_order;
          fewer = r.fewer;
          text = ap (λ (l : List ℕ). l ++ more) r.text ∙ moved r.block (to_le_bytes w32 (length r.ops)) (flat_map (op_text version) r.ops) (to_le_bytes w32 r.count) (flat_map held_text u.coins) rest more;
        };
        at = u.at;
        more = u.more ++ more;
        fits = u.fits;
        text = ap (λ (l : List ℕ). l ++ more) u.text ∙ append_assoc (point_text u.at) u.more more;
        not_after = u.not_after;
      }
    where
      moved : (a b c d e f g : List ℕ) → (a ++ (b ++ (c ++ (d ++ (e ++ f))))) ++ g ≡ a ++ (b ++ (c ++ (d ++ (e ++ (f ++ g)))))
      moved a b c d e f g =
          append_assoc a (b ++ (c ++ (d ++ (e ++ f)))) g
          ∙ ap (λ (l : List ℕ). a ++ l) (append_assoc b (c ++ (d ++ (e ++ f))) g
          ∙ ap (λ (l : List ℕ). b ++ l) (append_assoc c (d ++ (e ++ f)) g
          ∙ ap (λ (l : List ℕ). c ++ l) (append_assoc d (e ++ f) g
          ∙ ap (λ (l : List ℕ). d ++ l) (append_assoc e f g))))
