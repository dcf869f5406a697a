-- What is read of an image whole is the text of one.
use Rattle.std.proofs.Common.{◌≡◌, ◌≢◌, ℕ, zero, suc, ◌≤◌, true, List, [], ◌∷◌, ◌++◌, length, refl, sym, ap, subst, ◌∙◌, append_assoc, arith}
use Rattle.std.specs.Prelude.{Option, Some, None, Ok, nat_le}
use Rattle.std.specs.Int.{w32, to_le_bytes}
use Rattle.std.specs.Cmp.Lexicographic.{slice_cmp, nat_list_cmp_total}
use Rattle.std.specs.List.{flat_map, AllByRecursion}
use Rattle.std.specs.Ordering.{nat_cmp}
use Rattle.std.specs.declared.cmp.Ordering.{Ordering}
use Rattle.std.specs.declared.cmp.Ordering.TheVariants.{Less, Equal, Greater}
use Rattle.std.proofs.lemmas.Bool.{leb-true}
use Rattle.block_grammar.proofs.Readers.{IsBytes}
use Rattle.block_grammar.proofs.ReaderLaws.{bind_ok, ok_is}
use Rattle.nmc_base.specs.declared.chain_ends.Base.{Base}
use Rattle.nmc_base.specs.declared.hashes.OutPoint.{OutPoint}
use Rattle.nmc_base.specs.Hash.{outpoint_cmp}
use Rattle.chain_names.specs.declared.coin.HeldCoin.{HeldCoin}
use Rattle.chain_names.specs.declared.coin.Item.{Item}
use Rattle.chain_names.specs.declared.undo.UndoOp.{UndoOp}
use Rattle.chain_names.specs.Expired.{points_of}
use Rattle.chain_names.specs.Undo.{UndoRecord}
use Rattle.chain_names.specs.Writable.{IsWritableHeld, IsWritableItem, IsWritableOp, IsWritable, IsAfter, AreAscending}
use Rattle.chain_names.proofs.OrderLemmas.{outpoint_cmp-total}
use Rattle.undo_records.specs.declared.version.Version.{Version}
use Rattle.undo_records.specs.Reading.{Reads, number_from, op_from, item_from, held_from, is_less}
use Rattle.undo_records.specs.Text.{held_text, op_text, item_text, undo_text, name_text}
use Rattle.undo_records.specs.Versions.{IsOpIn, IsItemIn}
use Rattle.undo_records.proofs.FieldLaws.{core32}
use Rattle.undo_records.proofs.PartLaws.{item_core}
use Rattle.undo_records.proofs.OpLaws.{op_core}
use Rattle.undo_records.proofs.CoinLaws.{after_is, HeldFits, held_core}
use Rattle.image_grammar.specs.Answers.{Holds, IsTextOf}
use Rattle.image_grammar.specs.Image.{Image, History, IsWritableEntry, IsWritableHistory, HasText, names_of}
use Rattle.image_grammar.specs.Reading.{Head, history_head_from, undo_head_from, comes_after}
use Rattle.image_grammar.specs.Resuming.{fold_then}
use Rattle.image_grammar.specs.Stages.{Gathered, nothing_of, begun, with_op, with_expired, closed, without_last, with_entry, named, with_item, end_from, items_then, names_then, name_count_then, coins_then, coin_count_then, ops_then, expired_then, expired_count_then, undos_then, opening_from, image_from}
use Rattle.image_grammar.specs.Text.{head_text, history_text, image_text}
use Rattle.image_grammar.proofs.AgainLaws.{IsRecordIn, IsHistoryIn, entries, names_ascend, items_name, ops_last, four_parts, six_parts, with_undo, with_undos, with_history, with_names}
use Rattle.image_grammar.proofs.FoldLaws.{gathered_all, AllFit}
use Rattle.image_grammar.proofs.GatheredLaws.{gathered_of, holds_image}
use Rattle.image_grammar.proofs.SortedLaws.{IsAboveLast, Rise, rise_sorted}
use Rattle.image_grammar.proofs.WholeLaws.{IsImageIn, image_again, lists_apart}
use Rattle.image_grammar.proofs.TakeLaws.{TakesText, opening_value, undo_head_value, history_head_value, entry_takes}

-- ---- values that were read one by one

-- values of which each was so written as it was read
record Taken (S A : Type 0) : Type 1 where
  text : A → List ℕ
  Fits : S → A → Type 0
  read : S → Reads A
  add : S → A → S
  takes : (s : S) → TakesText text (Fits s) (read s)

module _ {S A R : Type 0} (t : Taken S A) where
  record Folded (n : ℕ) (s : S) (after : S → Reads R) (bytes : List ℕ) (z : R × List ℕ) : Type 0 where
    xs : List A
    rest : List ℕ
    count : length xs ≡ n
    text_is : bytes ≡ flat_map t.text xs ++ rest
    fit : AllFit t.add t.Fits s xs
    rest_bytes : IsBytes rest
    then : after (gathered_all t.add s xs) rest ≡ Ok z

  fold_takes : (after : S → Reads R) (n : ℕ) (s : S) (bytes : List ℕ) (z : R × List ℕ) → IsBytes bytes → fold_then t.read t.add n s after bytes ≡ Ok z → Folded n s after bytes z
  fold_takes after zero s bytes z are e = record { xs = []; rest = bytes; count = refl; text_is = refl; fit = tt; rest_bytes = are; then = e }
  fold_takes after (suc n) s bytes z are e =
      let first = bind_ok (t.read s bytes) (λ (y : A × List ℕ). fold_then t.read t.add n (t.add s y.0) after y.1) z e in
      let took = t.takes s bytes first.0 are first.1 in
      let more = fold_takes after n (t.add s first.0.0) first.0.1 z took.rest_bytes first.2 in
      record {
        xs = first.0.0 ∷ more.xs;
        rest = more.rest;
        count = ap suc more.count;
        text_is = took.parts ∙ ap (λ (l : List ℕ). t.text first.0.0 ++ l) more.text_is ∙ sym (append_assoc (t.text first.0.0) (flat_map t.text more.xs) more.rest);
        fit = (took.fits, more.fit);
        rest_bytes = more.rest_bytes;
        then = more.then;
      }

abbrev expired_taken : Taken Gathered HeldCoin
expired_taken = record { text = held_text; Fits = λ g. HeldFits g.last; read = λ g. held_from g.last; add = with_expired; takes = λ g. (held_core g.last).takes }

abbrev entries_taken : Taken Gathered HeldCoin
entries_taken = record { text = held_text; Fits = entries.Fits; read = entries.read; add = with_entry; takes = λ g. entry_takes g.last }

abbrev ops_taken : Version → Taken Gathered UndoOp
ops_taken version = record { text = op_text version; Fits = λ g. IsOpIn version; read = λ g. op_from version; add = with_op; takes = λ g. (op_core version).takes }

abbrev items_taken : Version → Taken Gathered Item
items_taken version = record { text = item_text version; Fits = λ g. IsItemIn version; read = λ g. item_from version; add = with_item; takes = λ g. (item_core version).takes }

-- values that fit whatever was gathered
each_fits : {S A : Type 0} (add : S → A → S) (Fits Part : A → Type 0) → ((x : A) → Fits x → Part x) → (s : S) (xs : List A) → AllFit add (λ _. Fits) s xs → AllByRecursion Part xs
each_fits add Fits Part to s [] fits = tt
each_fits add Fits Part to s (x ∷ xs) fits = (to x fits.0, each_fits add Fits Part to (add s x) xs fits.1)

-- ---- coins

expired_parts : (g : Gathered) (helds : List HeldCoin) → AllFit with_expired (λ g. HeldFits g.last) g helds → AllByRecursion IsWritableHeld helds × AreAscending g.last helds
expired_parts g [] fits = (tt, tt)
expired_parts g (held ∷ helds) fits = let rest = expired_parts (with_expired g held) helds fits.1 in ((fits.0.0, rest.0), (fits.0.1, rest.1))

entry_parts : (g : Gathered) (helds : List HeldCoin) → AllFit with_entry entries.Fits g helds → AllByRecursion IsWritableEntry helds × Rise outpoint_cmp outpoint_cmp-total g.last (points_of helds)
entry_parts g [] fits = (tt, tt)
entry_parts g (held ∷ helds) fits = let rest = entry_parts (with_entry g held) helds fits.1 in ((fits.0.0, rest.0), (above g.last held.at (after_is g.last held.at fits.0.1), rest.1))
  where
    above : (last : Option OutPoint) (at : OutPoint) → IsAfter last at → IsAboveLast outpoint_cmp outpoint_cmp-total last at
    above None at after = tt
    above (Some before) at after = after

-- ---- records and names

name_rises : (last : Option (List ℕ)) (name : List ℕ) → comes_after last name ≡ true → IsAboveLast (slice_cmp nat_cmp) nat_list_cmp_total last name
name_rises None name after = tt
name_rises (Some last) name after = less_is (slice_cmp nat_cmp last name) after
  where
    less_is : (o : Ordering) → is_less o ≡ true → o ≡ Less
    less_is Less e = refl
    less_is Equal e = absurd cc
    less_is Greater e = absurd cc

-- values behind their number, and the number behind what comes before it
counted_at : (n m : ℕ) (E F : List ℕ) {bytes rest more : List ℕ} → bytes ≡ to_le_bytes w32 n ++ rest → m ≡ n → rest ≡ E ++ more → more ≡ F → bytes ≡ to_le_bytes w32 m ++ (E ++ F)
counted_at n m E F {rest = rest} first same second third =
    first ∙ ap (λ (k : ℕ). to_le_bytes w32 k ++ rest) (sym same) ∙ ap (λ (l : List ℕ). to_le_bytes w32 m ++ l) second ∙ ap (λ (l : List ℕ). to_le_bytes w32 m ++ (E ++ l)) third

headed_at : (B rest : List ℕ) (n m : ℕ) {bytes : List ℕ} → bytes ≡ (B ++ to_le_bytes w32 n) ++ rest → m ≡ n → bytes ≡ B ++ (to_le_bytes w32 m ++ rest)
headed_at B rest n m first same = first ∙ append_assoc B (to_le_bytes w32 n) rest ∙ ap (λ (k : ℕ). B ++ (to_le_bytes w32 k ++ rest)) (sym same)

-- the texts of a record, of a history and of an image, put together
record_parted : (B L O K E F M : List ℕ) {bytes middle rest : List ℕ} → bytes ≡ B ++ (L ++ middle) → middle ≡ O ++ rest → rest ≡ K ++ (E ++ (F ++ M)) → bytes ≡ ((B ++ (L ++ (O ++ (K ++ E)))) ++ F) ++ M
record_parted B L O K E F M first second third =
    first ∙ ap (λ (l : List ℕ). B ++ (L ++ l)) second ∙ ap (λ (l : List ℕ). B ++ (L ++ (O ++ l))) third ∙ sym (six_parts B L O K E F M)

history_parted : (N L I F M : List ℕ) {bytes middle rest : List ℕ} → bytes ≡ N ++ (L ++ middle) → middle ≡ I ++ rest → rest ≡ F ++ M → bytes ≡ ((N ++ (L ++ I)) ++ F) ++ M
history_parted N L I F M first second third =
    first ∙ ap (λ (l : List ℕ). N ++ (L ++ l)) second ∙ ap (λ (l : List ℕ). N ++ (L ++ (I ++ l))) third ∙ sym (four_parts N L I F M)

image_parted : (H LU U LC C LN N : List ℕ) {bytes middle rest : List ℕ} → bytes ≡ H ++ (LU ++ middle) → middle ≡ U ++ rest → rest ≡ LC ++ (C ++ (LN ++ (N ++ [])))
    → bytes ≡ H ++ ((LU ++ U) ++ ((LC ++ C) ++ (LN ++ N)))
image_parted H LU U LC C LN N first second third =
    first ∙ ap (λ (l : List ℕ). H ++ (LU ++ l)) second ∙ ap (λ (l : List ℕ). H ++ (LU ++ (U ++ l))) third ∙ ap (λ (l : List ℕ). H ++ l) (sym (lists_apart LU U LC C LN N))

module _ (version : Version) (z : Gathered × List ℕ) where
  pub record UndosTook (n : ℕ) (g : Gathered) (bytes : List ℕ) : Type 0 where
    pub us : List UndoRecord
    pub rest : List ℕ
    pub count : length us ≡ n
    pub fits : AllByRecursion (IsRecordIn version) us
    pub text_is : bytes ≡ flat_map (undo_text version) us ++ rest
    pub rest_bytes : IsBytes rest
    pub then : coin_count_then version (with_undos g us) rest ≡ Ok z

  undos_take : (n : ℕ) (g : Gathered) (bytes : List ℕ) → IsBytes bytes → undos_then version n g bytes ≡ Ok z → UndosTook n g bytes
  unfolding undo_text
  undos_take zero g bytes are e = record { us = []; rest = bytes; count = refl; fits = tt; text_is = refl; rest_bytes = are; then = e }
  undos_take (suc n) g bytes are e =
      let after : (Gathered → Reads Gathered) = undos_then version n in
      let head = bind_ok (undo_head_from bytes) (λ (x : (List ℕ × ℕ) × List ℕ). ops_then version x.0.1 (begun g x.0.0) after x.1) z e in
      let h = undo_head_value.takes bytes head.0 are head.1 in
      let start : Gathered = begun g head.0.0.0 in
      let ops = fold_takes (ops_taken version) (λ (g : Gathered). expired_count_then version g after)
      head.0.0.1 start head.0.1 z h.rest_bytes head.2 in
      let middle : Gathered = gathered_all with_op start ops.xs in
      let count = bind_ok (number_from w32 ops.rest) (λ (x : ℕ × List ℕ). expired_then version x.0 middle after x.1) z ops.then in
      let c = core32.takes ops.rest count.0 ops.rest_bytes count.1 in
      let gone = fold_takes expired_taken (λ (g : Gathered). after (closed g))
      count.0.0 middle count.0.1 z c.rest_bytes count.2 in
      let u : UndoRecord = record { block = record { 0 = head.0.0.0 }; ops = ops.xs; expired = gone.xs } in
      let more = undos_take n (with_undo g u) gone.rest gone.rest_bytes gone.then in
      let parts = expired_parts middle gone.xs gone.fit in
      let B : List ℕ = head.0.0.0 in
      let L : List ℕ = to_le_bytes w32 (length ops.xs) in
      let O : List ℕ = flat_map (op_text version) ops.xs in
      let K : List ℕ = to_le_bytes w32 (length gone.xs) in
      let E : List ℕ = flat_map held_text gone.xs in
      let F : List ℕ = flat_map (undo_text version) more.us in
      let at_head : bytes ≡ B ++ (L ++ head.0.1) = headed_at B head.0.1 head.0.0.1 (length ops.xs) h.parts ops.count in
      let at_count : ops.rest ≡ K ++ (E ++ (F ++ more.rest)) = counted_at count.0.0 (length gone.xs) E (F ++ more.rest) c.parts gone.count gone.text_is more.text_is in
      record {
        us = u ∷ more.us;
        rest = more.rest;
        count = ap suc more.count;
        fits = (
          record {
            writable = record {
              fits = record {
                block = h.fits.0;
                op_count = omega (arith, h.fits.1, ops.count);
                ops = each_fits with_op (IsOpIn version) IsWritableOp (λ op fits. fits.0) start ops.xs ops.fit;
                expired_count = omega (arith, c.fits, gone.count);
                expired = parts.0;
              };
              in_order = subst (λ (last : Option OutPoint). AreAscending last gone.xs) (ops_last start ops.xs) parts.1;
            };
            ops = each_fits with_op (IsOpIn version) (IsOpIn version) (λ op fits. fits) start ops.xs ops.fit;
          },
          more.fits,
        );
        text_is = record_parted B L O K E F more.rest at_head ops.text_is at_count;
        rest_bytes = more.rest_bytes;
        then = more.then;
      }

  pub record NamesTook (n : ℕ) (g : Gathered) (bytes : List ℕ) : Type 0 where
    pub hs : List History
    pub rest : List ℕ
    pub count : length hs ≡ n
    pub fits : AllByRecursion (IsHistoryIn version) hs
    pub rise : Rise (slice_cmp nat_cmp) nat_list_cmp_total g.name (names_of hs)
    pub text_is : bytes ≡ flat_map (history_text version) hs ++ rest
    pub then : end_from (with_names g hs) rest ≡ Ok z

  some_items : (items : List Item) (n : ℕ) → length items ≡ n → nat_le 1 n ≡ true → items ≢ []
  some_items items n count some e = let low : 1 ≤ n = leb-true 1 n some in absurd (omega (arith, low, count, ap length e))

  names_take : (n : ℕ) (g : Gathered) (bytes : List ℕ) → IsBytes bytes → names_then version n g bytes ≡ Ok z → NamesTook n g bytes
  names_take zero g bytes are e = record { hs = []; rest = bytes; count = refl; fits = tt; rise = tt; text_is = refl; then = e }
  names_take (suc n) g bytes are e =
      let after : (Gathered → Reads Gathered) = names_then version n in
      let head = bind_ok (history_head_from g.name bytes) (λ (x : (List ℕ × ℕ) × List ℕ). items_then version x.0.1 (named g x.0.0) after x.1) z e in
      let t = (history_head_value g.name).takes bytes head.0 are head.1 in
      let start : Gathered = named g head.0.0.0 in
      let items = fold_takes (items_taken version) after head.0.0.1 start head.0.1 z t.rest_bytes head.2 in
      let h : History = record { name = head.0.0.0; items = items.xs } in
      let more = names_take n (with_history g h) items.rest items.rest_bytes items.then in
      let N : List ℕ = name_text head.0.0.0 in
      let L : List ℕ = to_le_bytes w32 (length items.xs) in
      let I : List ℕ = flat_map (item_text version) items.xs in
      let F : List ℕ = flat_map (history_text version) more.hs in
      let at_head : bytes ≡ N ++ (L ++ head.0.1) = headed_at N head.0.1 head.0.0.1 (length items.xs) t.parts items.count in
      record {
        hs = h ∷ more.hs;
        rest = more.rest;
        count = ap suc more.count;
        fits = (
          record {
            name = t.fits.0.0;
            some = some_items items.xs head.0.0.1 items.count t.fits.1.1;
            count = omega (arith, t.fits.1.0, items.count);
            items = each_fits with_item (IsItemIn version) (IsItemIn version) (λ item fits. fits) start items.xs items.fit;
          },
          more.fits,
        );
        rise = (
          name_rises g.name head.0.0.0 t.fits.0.1,
          subst (λ (last : Option (List ℕ)). Rise (slice_cmp nat_cmp) nat_list_cmp_total last (names_of more.hs)) (items_name start items.xs) more.rise,
        );
        text_is = history_parted N L I F more.rest at_head items.text_is more.text_is;
        then = more.then;
      }

-- ---- the whole

written_records : (version : Version) (us : List UndoRecord) → AllByRecursion (IsRecordIn version) us → AllByRecursion IsWritable us
written_records version [] fits = tt
written_records version (u ∷ us) fits = (fits.0.writable, written_records version us fits.1)

written_items : (version : Version) (items : List Item) → AllByRecursion (IsItemIn version) items → AllByRecursion IsWritableItem items
written_items version [] fits = tt
written_items version (item ∷ items) fits = (fits.0.0, written_items version items fits.1)

written_names : (version : Version) (hs : List History) → AllByRecursion (IsHistoryIn version) hs → AllByRecursion IsWritableHistory hs
written_names version [] fits = tt
written_names version (h ∷ hs) fits =
    (record { name = fits.0.name; some = fits.0.some; count = fits.0.count; items = written_items version h.items fits.0.items }, written_names version hs fits.1)

nothing_left : (g : Gathered) (rest : List ℕ) (z : Gathered × List ℕ) → end_from g rest ≡ Ok z → rest ≡ []
nothing_left g [] z e = refl
nothing_left g (first ∷ rest) z e = absurd cc

-- an image that the version tells whole is held by what is gathered of its text
told_whole : (version : Version) (image : Image) (g : Gathered) → IsImageIn version image → HasText image → image_from (image_text version image) ≡ Ok (g, []) → Holds image g
told_whole version image g fit has e =
    let same : (gathered_of image, []) ≡ (g, []) = ok_is (gathered_of image, []) (g, []) (sym (image_again version image fit) ∙ e) in
    subst (Holds image) (ap (λ (x : Gathered × List ℕ). x.0) same) (holds_image image has.coins_sorted has.names_sorted)

pub image_takes : (text : List ℕ) (g : Gathered) → IsBytes text → image_from text ≡ Ok (g, []) → IsTextOf text g
image_takes text g are e =
    let z : Gathered × List ℕ = (g, []) in
    let head = bind_ok (opening_from text) (λ (x : (Head × ℕ) × List ℕ). undos_then x.0.0.0 x.0.1 (nothing_of x.0.0.1) x.1) z e in
    let t = opening_value.takes text head.0 are head.1 in
    let version : Version = head.0.0.0.0 in
    let base : Base = head.0.0.0.1 in
    let undos = undos_take version z head.0.0.1 (nothing_of base) head.0.1 t.rest_bytes head.2 in
    let before : Gathered = without_last (with_undos (nothing_of base) undos.us) in
    let coin_count = bind_ok (number_from w32 undos.rest) (λ (x : ℕ × List ℕ). coins_then version x.0 before x.1) z undos.then in
    let c = core32.takes undos.rest coin_count.0 undos.rest_bytes coin_count.1 in
    let coins = fold_takes entries_taken (name_count_then version) coin_count.0.0 before coin_count.0.1 z c.rest_bytes coin_count.2 in
    let behind : Gathered = gathered_all with_entry before coins.xs in
    let name_count = bind_ok (number_from w32 coins.rest) (λ (x : ℕ × List ℕ). names_then version x.0 behind x.1) z coins.then in
    let n = core32.takes coins.rest name_count.0 coins.rest_bytes name_count.1 in
    let names = names_take version z name_count.0.0 behind name_count.0.1 n.rest_bytes name_count.2 in
    let image : Image = record { base = base; undos = undos.us; coins = coins.xs; names = names.hs } in
    let entry = entry_parts before coins.xs coins.fit in
    let sorted = rise_sorted (slice_cmp nat_cmp) nat_list_cmp_total behind.name (names_of names.hs) names.rise in
    let has : HasText image = record {
      height = t.fits.0.0;
      hash = t.fits.0.1;
      undo_count = omega (arith, t.fits.1, undos.count);
      undos = written_records version undos.us undos.fits;
      coin_count = omega (arith, c.fits, coins.count);
      coins = entry.0;
      coins_sorted = rise_sorted outpoint_cmp outpoint_cmp-total None (points_of coins.xs) entry.1;
      name_count = omega (arith, n.fits, names.count);
      names = written_names version names.hs names.fits;
      names_sorted = sorted;
    } in
    let whole : IsImageIn version image = record {
      height = has.height;
      hash = has.hash;
      undo_count = has.undo_count;
      undos = undos.fits;
      coin_count = has.coin_count;
      coins = coins.fit;
      name_count = has.name_count;
      names = names.fits;
      names_up = names_ascend names.hs sorted;
    } in
    let H : List ℕ = head_text version base in
    let LU : List ℕ = to_le_bytes w32 (length undos.us) in
    let U : List ℕ = flat_map (undo_text version) undos.us in
    let LC : List ℕ = to_le_bytes w32 (length coins.xs) in
    let C : List ℕ = flat_map held_text coins.xs in
    let LN : List ℕ = to_le_bytes w32 (length names.hs) in
    let N : List ℕ = flat_map (history_text version) names.hs in
    let none_left : names.rest ≡ [] = nothing_left (with_names behind names.hs) names.rest z names.then in
    let at_names : coins.rest ≡ LN ++ (N ++ []) = counted_at name_count.0.0 (length names.hs) N [] n.parts names.count names.text_is none_left in
    let at_coins : undos.rest ≡ LC ++ (C ++ (LN ++ (N ++ []))) = counted_at coin_count.0.0 (length coins.xs) C (LN ++ (N ++ [])) c.parts coins.count coins.text_is at_names in
    let at_head : text ≡ H ++ (LU ++ head.0.1) = headed_at H head.0.1 head.0.0.1 (length undos.us) t.parts undos.count in
    let text_is : text ≡ image_text version image = image_parted H LU U LC C LN N at_head undos.text_is at_coins in
    record { version = version; image = image; has_text = has; text_is = text_is; holds = told_whole version image g whole has (ap image_from (sym text_is) ∙ e) }
