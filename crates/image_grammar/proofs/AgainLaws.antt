-- What is written is read again, list by list.
use Rattle.std.proofs.Common.{◌≡◌, ◌≢◌, ℕ, suc, ◌<◌, ◌^◌, true, List, [], ◌∷◌, ◌++◌, length, refl, sym, ap, subst, ◌∙◌, append_assoc, arith}
use Rattle.std.specs.Prelude.{Option, Some, None, Ok, nat_le}
use Rattle.std.specs.Int.{w32, to_le_bytes}
use Rattle.std.specs.List.{flat_map, AllByRecursion}
use Rattle.std.specs.List.Sorted.{IsStrictlySortedBy}
use Rattle.std.specs.Cmp.Lexicographic.{slice_cmp}
use Rattle.std.specs.Ordering.{nat_cmp}
use Rattle.std.specs.declared.cmp.Ordering.TheVariants.{Less}
use Rattle.std.proofs.lemmas.Bool.{le-leb}
use Rattle.block_grammar.specs.Combinators.{◌>>=◌}
use Rattle.nmc_base.specs.declared.hashes.OutPoint.{OutPoint}
use Rattle.nmc_base.specs.Hash.{outpoint_cmp}
use Rattle.chain_names.specs.declared.coin.Coin.{Coin}
use Rattle.chain_names.specs.declared.coin.Coin.TheVariants.{New, Named}
use Rattle.chain_names.specs.declared.coin.HeldCoin.{HeldCoin}
use Rattle.chain_names.specs.declared.coin.Item.{Item}
use Rattle.chain_names.specs.declared.undo.UndoOp.{UndoOp}
use Rattle.chain_names.specs.Expired.{points_of}
use Rattle.chain_names.specs.Undo.{UndoRecord}
use Rattle.chain_names.specs.Writable.{IsWritablePoint, IsWritableName, IsWritableHeld, AreAscending, IsWritable}
use Rattle.undo_records.specs.declared.version.Version.{Version}
use Rattle.undo_records.specs.Reading.{Reads, is_less, is_after, later_point_from, held_from, item_from, op_from}
use Rattle.undo_records.specs.Text.{point_text, coin_text, name_text, held_text, item_text, op_text, undo_text}
use Rattle.undo_records.specs.Versions.{IsItemIn, IsOpIn}
use Rattle.undo_records.proofs.FieldLaws.{piece_core, core32, name_core, point_core}
use Rattle.undo_records.proofs.PartLaws.{new_coin_core, named_coin_core, item_core}
use Rattle.undo_records.proofs.OpLaws.{op_core}
use Rattle.undo_records.proofs.CoinLaws.{is_after_at}
use Rattle.image_grammar.specs.Image.{History, IsWritableCoin, IsWritableEntry, names_of}
use Rattle.image_grammar.specs.Text.{history_text}
use Rattle.image_grammar.specs.Reading.{coin_from, entry_from, comes_after, history_head_from, undo_head_from}
use Rattle.image_grammar.specs.Resuming.{Answer}
use Rattle.image_grammar.specs.Stages.{Gathered, begun, with_op, with_expired, closed, with_entry, named, with_item, end_from, items_then, names_then, name_count_then, coins_then, coin_count_then, ops_then, expired_then, expired_count_then, undos_then}
use Rattle.image_grammar.proofs.FoldLaws.{Folds, gathered_all, AllFit, fold_again}

-- ---- coins

later_again : (last : Option OutPoint) (p : OutPoint) (rest : List ℕ) → IsWritablePoint p → is_after last p ≡ true → later_point_from last (point_text p ++ rest) ≡ Ok (p, rest)
unfolding later_point_from
later_again last p rest fits after = rw (point_core.again p rest fits, after) refl

coin_again : (c : Coin) (rest : List ℕ) → IsWritableCoin c → coin_from (coin_text c ++ rest) ≡ Ok (c, rest)
unfolding coin_text
coin_again (New hash height) rest fits = new_coin_core.again (New hash height) rest fits
coin_again (Named name height) rest fits = named_coin_core.again (Named name height) rest fits

pub entry_again : (last : Option OutPoint) (held : HeldCoin) (rest : List ℕ) → IsWritableEntry held → is_after last held.at ≡ true → entry_from last (held_text held ++ rest) ≡ Ok (held, rest)
unfolding held_text
entry_again last held rest fits after =
    rw (append_assoc (point_text held.at) (coin_text held.coin) rest, later_again last held.at (coin_text held.coin ++ rest) fits.at after, coin_again held.coin rest fits.coin) refl

held_again : (last : Option OutPoint) (held : HeldCoin) (rest : List ℕ) → IsWritableHeld held → is_after last held.at ≡ true → held_from last (held_text held ++ rest) ≡ Ok (held, rest)
unfolding held_text held_from
held_again last held rest fits after =
    rw (append_assoc (point_text held.at) (coin_text held.coin) rest, later_again last held.at (coin_text held.coin ++ rest) fits.at after, named_coin_core.again held.coin rest fits.coin) refl

abbrev pub entries : Folds Gathered HeldCoin
entries = record {
  text = held_text;
  Fits = λ g held. IsWritableEntry held × (is_after g.last held.at ≡ true);
  read = λ g. entry_from g.last;
  add = with_entry;
  again = λ g held rest fits. entry_again g.last held rest fits.0 fits.1;
}

abbrev expired : Folds Gathered HeldCoin
expired = record {
  text = held_text;
  Fits = λ g held. IsWritableHeld held × (is_after g.last held.at ≡ true);
  read = λ g. held_from g.last;
  add = with_expired;
  again = λ g held rest fits. held_again g.last held rest fits.0 fits.1;
}

-- ---- coins in order fit

abbrev pub StartsAfter : Option OutPoint → List HeldCoin → Type 0
StartsAfter last [] = Unit {0}
StartsAfter last (held ∷ helds) = is_after last held.at ≡ true

next_after : (at : OutPoint) (helds : List HeldCoin) → AllByRecursion (λ (y : OutPoint). outpoint_cmp at y ≡ Less) (points_of helds) → StartsAfter (Some at) helds
next_after at [] s = tt
next_after at (held ∷ helds) s = ap is_less s.0

pub none_before : (helds : List HeldCoin) → StartsAfter None helds
none_before [] = tt
none_before (held ∷ helds) = refl

pub entries_fit : (g : Gathered) (helds : List HeldCoin) → AllByRecursion IsWritableEntry helds → IsStrictlySortedBy outpoint_cmp (points_of helds) → StartsAfter g.last helds
    → AllFit with_entry entries.Fits g helds
unfolding IsStrictlySortedBy
entries_fit g [] fits sorted first = tt
entries_fit g (held ∷ helds) fits sorted first = ((fits.0, first), entries_fit (with_entry g held) helds fits.1 sorted.1 (next_after held.at helds sorted.0))

expired_fit : (g : Gathered) (helds : List HeldCoin) → AllByRecursion IsWritableHeld helds → AreAscending g.last helds → AllFit with_expired expired.Fits g helds
expired_fit g [] fits up = tt
expired_fit g (held ∷ helds) fits up = ((fits.0, is_after_at g.last held.at up.0), expired_fit (with_expired g held) helds fits.1 up.1)

-- values that fit whatever was gathered
all_fit : {S A : Type 0} (add : S → A → S) (Fits : A → Type 0) (s : S) (xs : List A) → AllByRecursion Fits xs → AllFit add (λ _. Fits) s xs
all_fit add Fits s [] fits = tt
all_fit add Fits s (x ∷ xs) fits = (fits.0, all_fit add Fits (add s x) xs fits.1)

-- ---- what operations and items leave as it was

pub ops_last : (g : Gathered) (ops : List UndoOp) → (gathered_all with_op g ops).last ≡ g.last
ops_last g [] = refl
ops_last g (op ∷ ops) = ops_last (with_op g op) ops

pub items_name : (g : Gathered) (items : List Item) → (gathered_all with_item g items).name ≡ g.name
items_name g [] = refl
items_name g (item ∷ items) = items_name (with_item g item) items

abbrev pub with_ops : Gathered → UndoRecord → Gathered
with_ops g u = gathered_all with_op (begun g u.block.0) u.ops

abbrev pub with_undo : Gathered → UndoRecord → Gathered
with_undo g u = closed (gathered_all with_expired (with_ops g u) u.expired)

abbrev pub with_undos : Gathered → List UndoRecord → Gathered
with_undos g [] = g
with_undos g (u ∷ us) = with_undos (with_undo g u) us

abbrev pub with_history : Gathered → History → Gathered
with_history g h = gathered_all with_item (named g h.name) h.items

abbrev pub with_names : Gathered → List History → Gathered
with_names g [] = g
with_names g (h ∷ hs) = with_names (with_history g h) hs

-- ---- names in order

abbrev pub NamesAscend : Option (List ℕ) → List History → Type 0
NamesAscend last [] = Unit {0}
NamesAscend last (h ∷ hs) = (comes_after last h.name ≡ true) × NamesAscend (Some h.name) hs

names_after : (last : List ℕ) (hs : List History) → AllByRecursion (λ (y : List ℕ). slice_cmp nat_cmp last y ≡ Less) (names_of hs) → IsStrictlySortedBy (slice_cmp nat_cmp) (names_of hs)
    → NamesAscend (Some last) hs
unfolding IsStrictlySortedBy
names_after last [] above sorted = tt
names_after last (h ∷ hs) above sorted = (ap is_less above.0, names_after h.name hs sorted.0 sorted.1)

pub names_ascend : (hs : List History) → IsStrictlySortedBy (slice_cmp nat_cmp) (names_of hs) → NamesAscend None hs
unfolding IsStrictlySortedBy
names_ascend [] sorted = tt
names_ascend (h ∷ hs) sorted = (refl, names_after h.name hs sorted.0 sorted.1)

history_head_again : (last : Option (List ℕ)) (name : List ℕ) (n : ℕ) (rest : List ℕ) → IsWritableName name → comes_after last name ≡ true → n < 2 ^ 32 → nat_le 1 n ≡ true
    → history_head_from last (name_text name ++ (to_le_bytes w32 n ++ rest)) ≡ Ok ((name, n), rest)
history_head_again last name n rest fits after few some =
    rw (name_core.again name (to_le_bytes w32 n ++ rest) fits, after, core32.again n rest few, some) refl

some_items : (items : List Item) → items ≢ [] → nat_le 1 (length items) ≡ true
some_items [] some = absurd (some refl)
some_items (item ∷ items) some = le-leb 1 (suc (length items)) (omega arith)

undo_head_again : (block : List ℕ) (n : ℕ) (rest : List ℕ) → length block ≡ 32 → n < 2 ^ 32 → undo_head_from (block ++ (to_le_bytes w32 n ++ rest)) ≡ Ok ((block, n), rest)
undo_head_again block n rest len few = rw ((piece_core 32).again block (to_le_bytes w32 n ++ rest) len, core32.again n rest few) refl

pub four_parts : (N L I F M : List ℕ) → ((N ++ (L ++ I)) ++ F) ++ M ≡ N ++ (L ++ (I ++ (F ++ M)))
four_parts N L I F M = append_assoc (N ++ (L ++ I)) F M ∙ append_assoc N (L ++ I) (F ++ M) ∙ ap (λ (t : List ℕ). N ++ t) (append_assoc L I (F ++ M))

pub six_parts : (B L O K E F M : List ℕ) → ((B ++ (L ++ (O ++ (K ++ E)))) ++ F) ++ M ≡ B ++ (L ++ (O ++ (K ++ (E ++ (F ++ M)))))
six_parts B L O K E F M =
    append_assoc (B ++ (L ++ (O ++ (K ++ E)))) F M ∙ append_assoc B (L ++ (O ++ (K ++ E))) (F ++ M)
    ∙ ap (λ (t : List ℕ). B ++ t) (append_assoc L (O ++ (K ++ E)) (F ++ M) ∙ ap (λ (t : List ℕ). L ++ t) (append_assoc O (K ++ E) (F ++ M) ∙ ap (λ (t : List ℕ). O ++ t) (append_assoc K E (F ++ M))))

-- ---- by version

module _ (version : Version) where
  abbrev ops : Folds Gathered UndoOp
  ops = record { text = op_text version; Fits = λ _. IsOpIn version; read = λ _. op_from version; add = with_op; again = λ g op rest fits. (op_core version).again op rest fits }

  abbrev items : Folds Gathered Item
  items = record { text = item_text version; Fits = λ _. IsItemIn version; read = λ _. item_from version; add = with_item; again = λ g item rest fits. (item_core version).again item rest fits }

  -- a record, and a history, that the version tells whole
  pub record IsRecordIn (u : UndoRecord) : Type 0 where
    pub writable : IsWritable u
    pub ops : AllByRecursion (IsOpIn version) u.ops

  pub record IsHistoryIn (h : History) : Type 0 where
    pub name : IsWritableName h.name
    pub some : h.items ≢ []
    pub count : length h.items < 2 ^ 32
    pub items : AllByRecursion (IsItemIn version) h.items

  pub coins_again : (g : Gathered) (helds : List HeldCoin) (more : List ℕ) → AllFit with_entry entries.Fits g helds
      → coins_then version (length helds) g (flat_map held_text helds ++ more) ≡ name_count_then version (gathered_all with_entry g helds) more
  coins_again g helds more fit = fold_again entries (name_count_then version) g helds more fit

  pub names_again : (g : Gathered) (hs : List History) (more : List ℕ) → AllByRecursion IsHistoryIn hs → NamesAscend g.name hs
      → names_then version (length hs) g (flat_map (history_text version) hs ++ more) ≡ end_from (with_names g hs) more
  names_again g [] more fit up = refl
  names_again g (h ∷ hs) more fit up =
      let own : List ℕ = flat_map (item_text version) h.items in
      let others : List ℕ = flat_map (history_text version) hs in
      let next : NamesAscend (with_history g h).name hs = subst (λ (last : Option (List ℕ)). NamesAscend last hs) (sym (items_name (named g h.name) h.items)) up.1 in
      ap (names_then version (length (h ∷ hs)) g) (four_parts (name_text h.name) (to_le_bytes w32 (length h.items)) own others more)
      ∙ ap (λ (r : Answer (List ℕ × ℕ)). r >>= λ x. items_then version x.0.1 (named g x.0.0) (names_then version (length hs)) x.1)
      (history_head_again g.name h.name (length h.items) (own ++ (others ++ more)) fit.0.name up.0 fit.0.count (some_items h.items fit.0.some))
      ∙ fold_again items (names_then version (length hs)) (named g h.name) h.items (others ++ more) (all_fit with_item (IsItemIn version) (named g h.name) h.items fit.0.items)
      ∙ names_again (with_history g h) hs more fit.1 next

  pub undos_again : (g : Gathered) (us : List UndoRecord) (more : List ℕ) → AllByRecursion IsRecordIn us
      → undos_then version (length us) g (flat_map (undo_text version) us ++ more) ≡ coin_count_then version (with_undos g us) more
  unfolding undo_text
  undos_again g [] more fit = refl
  undos_again g (u ∷ us) more fit =
      let own : List ℕ = flat_map (op_text version) u.ops in
      let gone : List ℕ = flat_map held_text u.expired in
      let count : List ℕ = to_le_bytes w32 (length u.expired) in
      let others : List ℕ = flat_map (undo_text version) us in
      let after : (Gathered → Reads Gathered) = undos_then version (length us) in
      let parts = fit.0.writable.fits in
      let up : AreAscending (with_ops g u).last u.expired = subst (λ (last : Option OutPoint). AreAscending last u.expired) (sym (ops_last (begun g u.block.0) u.ops)) fit.0.writable.in_order in
      ap (undos_then version (length (u ∷ us)) g) (six_parts u.block.0 (to_le_bytes w32 (length u.ops)) own count gone others more)
      ∙ ap (λ (r : Answer (List ℕ × ℕ)). r >>= λ x. ops_then version x.0.1 (begun g x.0.0) after x.1)
      (undo_head_again u.block.0 (length u.ops) (own ++ (count ++ (gone ++ (others ++ more)))) parts.block parts.op_count)
      ∙ fold_again ops (λ (g : Gathered). expired_count_then version g after) (begun g u.block.0) u.ops (count ++ (gone ++ (others ++ more))) (all_fit with_op (IsOpIn version) (begun g u.block.0) u.ops fit.0.ops)
      ∙ ap (λ (r : Answer ℕ). r >>= λ x. expired_then version x.0 (with_ops g u) after x.1) (core32.again (length u.expired) (gone ++ (others ++ more)) parts.expired_count)
      ∙ fold_again expired (λ (g : Gathered). after (closed g)) (with_ops g u) u.expired (others ++ more) (expired_fit (with_ops g u) u.expired parts.expired up)
      ∙ undos_again (with_undo g u) us more fit.1
