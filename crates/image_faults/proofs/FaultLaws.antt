-- The fault of an image's text by the grammar is the one that its reading answers.
use Rattle.std.proofs.Common.{◌≡◌, ◌≢◌, ℕ, zero, suc, ◌+◌, ◌-◌, ◌<◌, ◌^◌, ◌⊎◌, List, [], ◌∷◌, ◌++◌, length, refl, sym, ap, subst, ◌∙◌, append_assoc, arith, inl, inr}
use Rattle.std.specs.Prelude.{Option, None, Ok, Err}
use Rattle.std.specs.Int.{w32, to_le_bytes}
use Rattle.std.specs.List.{AllByRecursion}
use Rattle.block_grammar.specs.Combinators.{◌>>=◌}
use Rattle.block_grammar.proofs.Readers.{IsBytes}
use Rattle.block_grammar.proofs.ReaderLaws.{ok_is, err_is, bind_ok, bind_err}
use Rattle.nmc_base.specs.declared.chain_ends.Base.{Base}
use Rattle.nmc_base.specs.declared.hashes.OutPoint.{OutPoint}
use Rattle.chain_names.specs.declared.coin.HeldCoin.{HeldCoin}
use Rattle.chain_names.specs.Undo.{UndoRecord}
use Rattle.chain_names.specs.Writable.{IsAfter}
use Rattle.undo_records.specs.declared.fault.FaultKind.{FaultKind}
use Rattle.undo_records.specs.declared.fault.FaultKind.TheVariants.{Cut, BadTag, Unsorted}
use Rattle.undo_records.specs.declared.version.Version.{Version}
use Rattle.undo_records.specs.Faults.{IsBadTag, IsUnsorted}
use Rattle.undo_records.specs.Reading.{Reads, number_from, undo_from}
use Rattle.undo_records.specs.Text.{held_text, undo_text}
use Rattle.undo_records.specs.Versions.{IsUndoIn}
use Rattle.undo_records.proofs.Laws.{Spot, ended}
use Rattle.undo_records.proofs.Choices.{no_cut}
use Rattle.undo_records.proofs.FieldLaws.{core32}
use Rattle.undo_records.proofs.RecordLaws.{UndoFlaw, bad_tag, out_of_order, undo_core, kinds_apart}
use Rattle.image_faults.specs.Faults.{texts_of, last_coin, last_name, IsNameAfter, AreEntries, AreHistories, ReachesRecord, ReachesEntry, ReachesName, IsBadRecord, IsBadImage, in_head, in_record, in_coin, in_name, behind, HasImageFault, bad, cut}
use Rattle.image_grammar.specs.Answers.{IsWhole}
use Rattle.image_grammar.specs.Image.{Image, History, HasText, image_told}
use Rattle.image_grammar.specs.Reading.{Head, entry_from}
use Rattle.image_grammar.specs.Resuming.{Answer, fold_then}
use Rattle.image_grammar.specs.Stages.{Gathered, nothing_of, without_last, with_entry, named, end_from, names_then, name_count_then, coins_then, coin_count_then, undos_then, opening_from, image_from}
use Rattle.image_grammar.specs.Text.{head_text, history_text, image_text}
use Rattle.image_grammar.proofs.AgainLaws.{items_name, with_undo, with_history}
use Rattle.image_grammar.proofs.GatheredLaws.{undos_name}
use Rattle.image_faults.proofs.HeadFaults.{opening_core, opening_bad, opening_flawed}
use Rattle.image_faults.proofs.ValueFaults.{EntryFits, entry_part, entry_core, entry_bad, entry_flawed, HistoryFits, history_from, history_part, history_core, history_bad, history_flawed}
use Rattle.image_faults.proofs.RunLaws.{Run, gathered, RunFits, run_again, RunStop, at_value, behind_all, run_stops, told_of, undos_fold, names_fold}
use Rattle.image_grammar.proofs.ReadLaws.{image_takes}
use Rattle.image_grammar.proofs.WholeLaws.{text_again}

-- ---- the three lists

abbrev undo_run : Version → Run Gathered UndoRecord
undo_run version = record { text = undo_text version; Fits = λ _. IsUndoIn version; Flawed = λ _. UndoFlaw version; read = λ _. undo_from version; add = with_undo; core = λ _. undo_core version }

abbrev entry_run : Run Gathered HeldCoin
entry_run = record { text = held_text; Fits = λ g. EntryFits g.last; Flawed = λ g. (entry_part g.last).Flawed; read = λ g. entry_from g.last; add = with_entry; core = λ g. entry_core g.last }

abbrev history_run : Version → Run Gathered History
history_run version = record {
  text = history_text version;
  Fits = λ g. HistoryFits version g.name;
  Flawed = λ g. (history_part version g.name).Flawed;
  read = λ g. history_from version g.name;
  add = with_history;
  core = λ g. history_core version g.name;
}

-- what was gathered tells the last outpoint and the last name
coin_last : (g : Gathered) (coins : List HeldCoin) → (gathered entry_run (without_last g) coins).last ≡ last_coin coins
coin_last g [] = refl
coin_last g (held ∷ below) = refl

coins_name : (g : Gathered) (coins : List HeldCoin) → (gathered entry_run g coins).name ≡ g.name
coins_name g [] = refl
coins_name g (held ∷ below) = coins_name g below

records_name : (version : Version) (g : Gathered) (undos : List UndoRecord) → (gathered (undo_run version) g undos).name ≡ g.name
records_name version g [] = refl
records_name version g (undo ∷ below) = undos_name (gathered (undo_run version) g below) (undo ∷ []) ∙ records_name version g below

name_last : (version : Version) (g : Gathered) → g.name ≡ None → (names : List History) → (gathered (history_run version) g names).name ≡ last_name names
name_last version g none [] = none
name_last version g none (h ∷ below) = items_name (named (gathered (history_run version) g below) h.name) h.items

-- ---- values that fit

undos_fit : (version : Version) (g : Gathered) (undos : List UndoRecord) → AllByRecursion (IsUndoIn version) undos → RunFits (undo_run version) g undos
undos_fit version g [] fits = tt
undos_fit version g (undo ∷ below) fits = (fits.0, undos_fit version g below fits.1)

fit_undos : (version : Version) (g : Gathered) (undos : List UndoRecord) → RunFits (undo_run version) g undos → AllByRecursion (IsUndoIn version) undos
fit_undos version g [] fits = tt
fit_undos version g (undo ∷ below) fits = (fits.0, fit_undos version g below fits.1)

coins_fit : (g : Gathered) (coins : List HeldCoin) → AreEntries coins → RunFits entry_run (without_last g) coins
coins_fit g [] fits = tt
coins_fit g (held ∷ below) fits = ((fits.0, subst (λ (last : Option OutPoint). IsAfter last held.at) (sym (coin_last g below)) fits.1), coins_fit g below fits.2)

fit_coins : (g : Gathered) (coins : List HeldCoin) → RunFits entry_run (without_last g) coins → AreEntries coins
fit_coins g [] fits = tt
fit_coins g (held ∷ below) fits = (fits.0.0, subst (λ (last : Option OutPoint). IsAfter last held.at) (coin_last g below) fits.0.1, fit_coins g below fits.1)

names_fit : (version : Version) (g : Gathered) → g.name ≡ None → (names : List History) → AreHistories version names → RunFits (history_run version) g names
names_fit version g none [] fits = tt
names_fit version g none (h ∷ below) fits =
    ((fits.0, subst (λ (last : Option (List ℕ)). IsNameAfter last h.name) (sym (name_last version g none below)) fits.1), names_fit version g none below fits.2)

fit_names : (version : Version) (g : Gathered) → g.name ≡ None → (names : List History) → RunFits (history_run version) g names → AreHistories version names
fit_names version g none [] fits = tt
fit_names version g none (h ∷ below) fits =
    (fits.0.0, subst (λ (last : Option (List ℕ)). IsNameAfter last h.name) (name_last version g none below) fits.0.1, fit_names version g none below fits.1)

-- ---- behind whole values the reading goes on

module _ (version : Version) (text : List ℕ) where
  abbrev behind_undos : Base → List UndoRecord → Gathered
  behind_undos base undos = gathered (undo_run version) (nothing_of base) undos

  reads_records : (count : ℕ) (undos : List UndoRecord) (bytes : List ℕ) (r : ReachesRecord version text count undos bytes) (m : ℕ) → count ≡ length undos + m
      → image_from text ≡ fold_then (λ (g : Gathered). undo_from version) with_undo m (behind_undos r.base undos) (coin_count_then version) bytes
  reads_records count undos bytes r m e =
      let rest : List ℕ = texts_of (undo_text version) undos ++ bytes in
      ap image_from (r.text_is ∙ sym (append_assoc (head_text version r.base) (to_le_bytes w32 count) rest))
      ∙ ap (λ (a : Answer (Head × ℕ)). a >>= λ x. undos_then x.0.0.0 x.0.1 (nothing_of x.0.0.1) x.1) (opening_core.again ((version, r.base), count) rest ((r.height, r.hash), r.count_fits))
      ∙ undos_fold version count (nothing_of r.base) rest
      ∙ ap (λ (n : ℕ). fold_then (λ (g : Gathered). undo_from version) with_undo n (nothing_of r.base) (coin_count_then version) rest) e
      ∙ run_again (undo_run version) (nothing_of r.base) (coin_count_then version) undos m bytes (undos_fit version (nothing_of r.base) undos r.fit)

  abbrev before_coins : Base → List UndoRecord → Gathered
  before_coins base undos = without_last (behind_undos base undos)

  abbrev behind_coins : Base → List UndoRecord → List HeldCoin → Gathered
  behind_coins base undos coins = gathered entry_run (before_coins base undos) coins

  reads_coins : (count : ℕ) (coins : List HeldCoin) (bytes : List ℕ) (r : ReachesEntry version text count coins bytes) (m : ℕ) → count ≡ length coins + m
      → image_from text ≡ fold_then (λ (g : Gathered). entry_from g.last) with_entry m (behind_coins r.reached.base r.undos coins) (name_count_then version) bytes
  reads_coins count coins bytes r m e =
      let g : Gathered = before_coins r.reached.base r.undos in
      reads_records (length r.undos) r.undos (to_le_bytes w32 count ++ (texts_of held_text coins ++ bytes)) r.reached 0 (omega arith)
      ∙ ap (λ (a : Answer ℕ). a >>= λ x. coins_then version x.0 g x.1) (core32.again count (texts_of held_text coins ++ bytes) r.count_fits)
      ∙ ap (λ (n : ℕ). fold_then (λ (g : Gathered). entry_from g.last) with_entry n g (name_count_then version) (texts_of held_text coins ++ bytes)) e
      ∙ run_again entry_run g (name_count_then version) coins m bytes (coins_fit (behind_undos r.reached.base r.undos) coins r.fit)

  no_name : (base : Base) (undos : List UndoRecord) (coins : List HeldCoin) → (behind_coins base undos coins).name ≡ None
  no_name base undos coins = coins_name (before_coins base undos) coins ∙ records_name version (nothing_of base) undos

  reads_names : (count : ℕ) (names : List History) (bytes : List ℕ) (r : ReachesName version text count names bytes) (m : ℕ) → count ≡ length names + m
      → image_from text ≡ fold_then (λ (g : Gathered). history_from version g.name) with_history m (gathered (history_run version) (behind_coins r.reached.reached.base r.reached.undos r.coins) names) end_from bytes
  reads_names count names bytes r m e =
      let base = r.reached.reached.base in
      let g : Gathered = behind_coins base r.reached.undos r.coins in
      reads_coins (length r.coins) r.coins (to_le_bytes w32 count ++ (texts_of (history_text version) names ++ bytes)) r.reached 0 (omega arith)
      ∙ ap (λ (a : Answer ℕ). a >>= λ x. names_then version x.0 g x.1) (core32.again count (texts_of (history_text version) names ++ bytes) r.count_fits)
      ∙ names_fold version count g (texts_of (history_text version) names ++ bytes)
      ∙ ap (λ (n : ℕ). fold_then (λ (g : Gathered). history_from version g.name) with_history n g end_from (texts_of (history_text version) names ++ bytes)) e
      ∙ run_again (history_run version) g end_from names m bytes (names_fit version g (no_name base r.reached.undos r.coins) names r.fit)

-- ---- what can't stand there is a fault

-- the reading ends at this place, and not for want of bytes
pub record Faults (text rest : List ℕ) : Type 0 where
  pub kind : FaultKind
  pub reads : image_from text ≡ Err (kind, rest)
  pub no_end : kind ≡ Cut → ⊥

one_more : (count n : ℕ) → n < count → count ≡ n + suc (count - suc n)
one_more count n fewer = omega (arith, fewer)

end_bad : (g : Gathered) (rest : List ℕ) → rest ≢ [] → end_from g rest ≡ Err (BadTag, rest)
end_bad g [] some = absurd (some refl)
end_bad g (b ∷ rest) some = refl

-- a record's own fault
record_faults : (version : Version) (bytes rest : List ℕ) → IsBadRecord version bytes rest → (kind : FaultKind) × (undo_from version bytes ≡ Err (kind, rest)) × (kind ≡ Cut → ⊥)
record_faults version bytes rest (inl t) = (BadTag, (undo_core version).flawed bytes (BadTag, rest) (bad_tag (record { rest = rest; flaw = t; is = refl })), no_cut)
record_faults version bytes rest (inr u) = (Unsorted, (undo_core version).flawed bytes (Unsorted, rest) (out_of_order rest u refl), kinds_apart)

pub bad_faults : (text rest : List ℕ) → IsBytes text → IsBadImage text rest → Faults text rest
bad_faults text rest are (in_head b) = record {
  kind = BadTag;
  reads = ap (λ (a : Answer (Head × ℕ)). a >>= λ x. undos_then x.0.0.0 x.0.1 (nothing_of x.0.0.1) x.1) (opening_core.flawed text (BadTag, rest) (opening_flawed text rest are b));
  no_end = no_cut;
}
bad_faults text rest are (in_record version count undos bytes r fewer b) =
    let f = record_faults version bytes rest b in
    let k = count - suc (length undos) in
    record {
      kind = f.0;
      reads = reads_records version text count undos bytes r (suc k) (one_more count (length undos) fewer)
          ∙ ap (λ (a : Answer UndoRecord). a >>= λ x. fold_then (λ (g : Gathered). undo_from version) with_undo k (with_undo (behind_undos version text r.base undos) x.0) (coin_count_then version) x.1) f.1;
      no_end = f.2;
    }
bad_faults text rest are (in_coin version count coins bytes r fewer b) =
    let f = entry_flawed (last_coin coins) bytes rest b in
    let k = count - suc (length coins) in
    let g : Gathered = behind_coins version text r.reached.base r.undos coins in
    let reads : entry_from g.last bytes ≡ Err (f.kind, rest) =
    subst (λ (last : Option OutPoint). entry_from last bytes ≡ Err (f.kind, rest)) (sym (coin_last (behind_undos version text r.reached.base r.undos) coins)) ((entry_core (last_coin coins)).flawed bytes (f.kind, rest) f.flaw) in
    record {
      kind = f.kind;
      reads = reads_coins version text count coins bytes r (suc k) (one_more count (length coins) fewer)
          ∙ ap (λ (a : Answer HeldCoin). a >>= λ x. fold_then (λ (g : Gathered). entry_from g.last) with_entry k (with_entry g x.0) (name_count_then version) x.1) reads;
      no_end = f.no_end;
    }
bad_faults text rest are (in_name version count names bytes r fewer b) =
    let f = history_flawed version (last_name names) bytes rest b in
    let k = count - suc (length names) in
    let start : Gathered = behind_coins version text r.reached.reached.base r.reached.undos r.coins in
    let g : Gathered = gathered (history_run version) start names in
    let reads : history_from version g.name bytes ≡ Err (f.kind, rest) =
    subst (λ (last : Option (List ℕ)). history_from version last bytes ≡ Err (f.kind, rest)) (sym (name_last version start (no_name version text r.reached.reached.base r.reached.undos r.coins) names))
    ((history_core version (last_name names)).flawed bytes (f.kind, rest) f.flaw) in
    record {
      kind = f.kind;
      reads = reads_names version text count names bytes r (suc k) (one_more count (length names) fewer)
          ∙ ap (λ (a : Answer History). a >>= λ x. fold_then (λ (g : Gathered). history_from version g.name) with_history k (with_history g x.0) end_from x.1) reads;
      no_end = f.no_end;
    }
bad_faults text rest are (behind version names r some) = record {
  kind = BadTag;
  reads = reads_names version text (length names) names rest r 0 (omega arith) ∙ end_bad (gathered (history_run version) (behind_coins version text r.reached.reached.base r.reached.undos r.coins) names) rest some;
  no_end = no_cut;
}

-- ---- a fault is the end, or something that can't stand there

record_bad : (version : Version) (bytes : List ℕ) (e : Spot) → UndoFlaw version bytes e → IsBadRecord version bytes e.1
record_bad version bytes e (bad_tag t) = inl (subst (IsBadTag version bytes) (ap (λ (s : Spot). s.1) t.is) t.flaw)
record_bad version bytes e (out_of_order rest u is) = inr (subst (IsUnsorted version bytes) (ap (λ (s : Spot). s.1) is) u)

module _ (version : Version) (text : List ℕ) (e : Spot) where
  abbrev EndsSo : Type 0
  EndsSo = (e ≡ ended) ⊎ IsBadImage text e.1

  at_names : (coins : List HeldCoin) (g : Gathered) (rest : List ℕ) → g.name ≡ None → ReachesEntry version text (length coins) coins rest → IsBytes rest → name_count_then version g rest ≡ Err e → EndsSo
  at_names coins g rest none reached are h =
      elim (bind_err (number_from w32 rest) (λ (x : ℕ × List ℕ). names_then version x.0 g x.1) e h) [
        | inl w ↦ elim (core32.stops rest e are w) [ inl end ↦ inl end | inr f ↦ absurd f ]
        | inr c ↦
            let took = core32.takes rest c.0 are c.1 in
            by c.0.0 c.0.1 took.parts took.fits (run_stops (history_run version) g end_from c.0.0 c.0.1 e took.rest_bytes (sym (names_fold version c.0.0 g c.0.1) ∙ c.2))
      ]
    where
      reach : (n : ℕ) (bytes inner : List ℕ) (names : List History) → rest ≡ to_le_bytes w32 n ++ bytes → n < 2 ^ 32 → RunFits (history_run version) g names → bytes ≡ texts_of (history_text version) names ++ inner
          → ReachesName version text n names inner
      reach n bytes inner names parts few fit inner_is = record {
        coins = coins;
        count_fits = few;
        fit = fit_names version g none names fit;
        reached = subst (ReachesEntry version text (length coins) coins) (parts ∙ ap (λ (l : List ℕ). to_le_bytes w32 n ++ l) inner_is) reached;
      }

      last : (names : List History) (rest : List ℕ) → ReachesName version text (length names) names rest → end_from (gathered (history_run version) g names) rest ≡ Err e → EndsSo
      last names [] r h' = absurd cc
      last names (b ∷ rest) r h' =
          let same : b ∷ rest ≡ e.1 = ap (λ (s : Spot). s.1) (err_is (BadTag, b ∷ rest) e h') in
          let some : (b ∷ rest) ≢ [] = λ none. let size = ap (λ (l : List ℕ). length l) none in omega (arith, size) in
          inr (subst (IsBadImage text) same (behind version names r some))

      by : (n : ℕ) (bytes : List ℕ) → rest ≡ to_le_bytes w32 n ++ bytes → n < 2 ^ 32 → RunStop (history_run version) g end_from n bytes e → EndsSo
      by n bytes parts few (at_value names inner fit fewer inner_is inner_are w) =
          let at_last = name_last version g none names in
          elim ((history_core version (last_name names)).stops inner e inner_are (subst (λ (l : Option (List ℕ)). history_from version l inner ≡ Err e) at_last w)) [
            | inl end ↦ inl end
            | inr f ↦ inr (in_name version n names inner (reach n bytes inner names parts few fit inner_is) fewer (history_bad version (last_name names) inner e f))
          ]
      by n bytes parts few (behind_all names inner fit count inner_is inner_are h') =
          last names inner (subst (λ (k : ℕ). ReachesName version text k names inner) (sym count) (reach n bytes inner names parts few fit inner_is)) h'

  at_coins : (undos : List UndoRecord) (g : Gathered) (rest : List ℕ) → g.name ≡ None → ReachesRecord version text (length undos) undos rest → IsBytes rest → coin_count_then version g rest ≡ Err e → EndsSo
  at_coins undos g rest none reached are h =
      elim (bind_err (number_from w32 rest) (λ (x : ℕ × List ℕ). coins_then version x.0 (without_last g) x.1) e h) [
        | inl w ↦ elim (core32.stops rest e are w) [ inl end ↦ inl end | inr f ↦ absurd f ]
        | inr c ↦
            let took = core32.takes rest c.0 are c.1 in
            by c.0.0 c.0.1 took.parts took.fits (run_stops entry_run (without_last g) (name_count_then version) c.0.0 c.0.1 e took.rest_bytes c.2)
      ]
    where
      reach : (n : ℕ) (bytes inner : List ℕ) (coins : List HeldCoin) → rest ≡ to_le_bytes w32 n ++ bytes → n < 2 ^ 32 → RunFits entry_run (without_last g) coins → bytes ≡ texts_of held_text coins ++ inner
          → ReachesEntry version text n coins inner
      reach n bytes inner coins parts few fit inner_is = record {
        undos = undos;
        count_fits = few;
        fit = fit_coins g coins fit;
        reached = subst (ReachesRecord version text (length undos) undos) (parts ∙ ap (λ (l : List ℕ). to_le_bytes w32 n ++ l) inner_is) reached;
      }

      by : (n : ℕ) (bytes : List ℕ) → rest ≡ to_le_bytes w32 n ++ bytes → n < 2 ^ 32 → RunStop entry_run (without_last g) (name_count_then version) n bytes e → EndsSo
      by n bytes parts few (at_value coins inner fit fewer inner_is inner_are w) =
          elim ((entry_core (last_coin coins)).stops inner e inner_are (subst (λ (l : Option OutPoint). entry_from l inner ≡ Err e) (coin_last g coins) w)) [
            | inl end ↦ inl end
            | inr f ↦ inr (in_coin version n coins inner (reach n bytes inner coins parts few fit inner_is) fewer (entry_bad (last_coin coins) inner e f))
          ]
      by n bytes parts few (behind_all coins inner fit count inner_is inner_are h') =
          at_names coins (gathered entry_run (without_last g) coins) inner (coins_name (without_last g) coins ∙ none)
          (subst (λ (k : ℕ). ReachesEntry version text k coins inner) (sym count) (reach n bytes inner coins parts few fit inner_is)) inner_are h'

  at_records : (base : Base) (n : ℕ) (bytes : List ℕ) → base.height < 2 ^ 32 → length base.hash.0 ≡ 32 → n < 2 ^ 32 → text ≡ (head_text version base ++ to_le_bytes w32 n) ++ bytes → IsBytes bytes
      → undos_then version n (nothing_of base) bytes ≡ Err e → EndsSo
  at_records base n bytes low long few parts are h =
      by (run_stops (undo_run version) (nothing_of base) (coin_count_then version) n bytes e are (sym (undos_fold version n (nothing_of base) bytes) ∙ h))
    where
      reach : (inner : List ℕ) (undos : List UndoRecord) → RunFits (undo_run version) (nothing_of base) undos → bytes ≡ texts_of (undo_text version) undos ++ inner → ReachesRecord version text n undos inner
      reach inner undos fit inner_is = record {
        base = base;
        height = low;
        hash = long;
        count_fits = few;
        fit = fit_undos version (nothing_of base) undos fit;
        text_is = parts ∙ append_assoc (head_text version base) (to_le_bytes w32 n) bytes ∙ ap (λ (l : List ℕ). head_text version base ++ (to_le_bytes w32 n ++ l)) inner_is;
      }

      by : RunStop (undo_run version) (nothing_of base) (coin_count_then version) n bytes e → EndsSo
      by (at_value undos inner fit fewer inner_is inner_are w) =
          elim ((undo_core version).stops inner e inner_are w) [
            | inl end ↦ inl end
            | inr f ↦ inr (in_record version n undos inner (reach inner undos fit inner_is) fewer (record_bad version inner e f))
          ]
      by (behind_all undos inner fit count inner_is inner_are h') =
          at_coins undos (gathered (undo_run version) (nothing_of base) undos) inner (records_name version (nothing_of base) undos)
          (subst (λ (k : ℕ). ReachesRecord version text k undos inner) (sym count) (reach inner undos fit inner_is)) inner_are h'

pub fault_cases : (text : List ℕ) (e : Spot) → IsBytes text → image_from text ≡ Err e → (e ≡ ended) ⊎ IsBadImage text e.1
fault_cases text e are h =
    elim (bind_err (opening_from text) (λ (x : (Head × ℕ) × List ℕ). undos_then x.0.0.0 x.0.1 (nothing_of x.0.0.1) x.1) e h) [
      | inl w ↦ elim (opening_core.stops text e are w) [ inl end ↦ inl end | inr f ↦ inr (in_head (opening_bad text e f)) ]
      | inr x ↦
          let took = opening_core.takes text x.0 are x.1 in
          at_records x.0.0.0.0 text e x.0.0.0.1 x.0.0.1 x.0.1 took.fits.0.0 took.fits.0.1 took.fits.1 took.parts took.rest_bytes x.2
    ]

-- ---- the place

pub fault_told : (text : List ℕ) (e : Spot) → IsBytes text → image_from text ≡ Err e → HasImageFault text (length text - length e.1)
fault_told text e are h =
    elim (fault_cases text e are h) [
      | inl end ↦
          cut (λ is. by is.version is.image is.has_text is.text_is) (λ rest b. let f = bad_faults text rest are b in f.no_end (ap (λ (s : Spot). s.0) (err_is (f.kind, rest) ended (sym f.reads ∙ h ∙ ap (λ (s : Spot). Err s) end))))
          (omega (arith, ap (λ (s : Spot). length s.1) end))
      | inr b ↦ bad e.1 b refl
    ]
  where
    by : (version : Version) (image : Image) → HasText image → text ≡ image_text version image → ⊥
    by version image has is = subst (IsWhole (image_told version image)) (ap image_from (sym is) ∙ h) (text_again version image has)

-- nothing is left behind an image that was read
fold_ok : {S A R : Type 0} (read : S → Reads A) (add : S → A → S) (after : S → Reads R) (n : ℕ) (s : S) (bytes : List ℕ) (z : R × List ℕ) → fold_then read add n s after bytes ≡ Ok z
    → (t : S) × (rest : List ℕ) × (after t rest ≡ Ok z)
fold_ok read add after zero s bytes z h = (s, bytes, h)
fold_ok {A = A} read add after (suc n) s bytes z h =
    let x = bind_ok (read s bytes) (λ (y : A × List ℕ). fold_then read add n (add s y.0) after y.1) z h in
    fold_ok read add after n (add s x.0.0) x.0.1 z x.2

end_ok : (g : Gathered) (rest : List ℕ) (z : Gathered × List ℕ) → end_from g rest ≡ Ok z → z.1 ≡ []
end_ok g [] z h = ap (λ (y : Gathered × List ℕ). y.1) (sym (ok_is (g, []) z h))
end_ok g (b ∷ rest) z h = absurd cc

nothing_behind : (text : List ℕ) (z : Gathered × List ℕ) → image_from text ≡ Ok z → z.1 ≡ []
nothing_behind text z h =
    let x = bind_ok (opening_from text) (λ (x : (Head × ℕ) × List ℕ). undos_then x.0.0.0 x.0.1 (nothing_of x.0.0.1) x.1) z h in
    let version = x.0.0.0.0 in
    let us = fold_ok (λ (g : Gathered). undo_from version) with_undo (coin_count_then version) x.0.0.1 (nothing_of x.0.0.0.1) x.0.1 z (sym (undos_fold version x.0.0.1 (nothing_of x.0.0.0.1) x.0.1) ∙ x.2) in
    let c = bind_ok (number_from w32 us.1) (λ (y : ℕ × List ℕ). coins_then version y.0 (without_last us.0) y.1) z us.2 in
    let cs = fold_ok (λ (g : Gathered). entry_from g.last) with_entry (name_count_then version) c.0.0 (without_last us.0) c.0.1 z c.2 in
    let n = bind_ok (number_from w32 cs.1) (λ (y : ℕ × List ℕ). names_then version y.0 cs.0 y.1) z cs.2 in
    let ns = fold_ok (λ (g : Gathered). history_from version g.name) with_history end_from n.0.0 cs.0 n.0.1 z (sym (names_fold version n.0.0 cs.0 n.0.1) ∙ n.2) in
    end_ok ns.0 ns.1 z ns.2

-- the fault that the reading answers, and its place
pub record ReadsFault (text : List ℕ) (at : ℕ) : Type 0 where
  pub fault : Spot
  pub reads : image_from text ≡ Err fault
  pub at_is : at ≡ length text - length fault.1

pub fault_only : (text : List ℕ) (at : ℕ) → IsBytes text → HasImageFault text at → ReadsFault text at
fault_only text at are (bad rest b at_is) = let f = bad_faults text rest are b in record { fault = (f.kind, rest); reads = f.reads; at_is = at_is }
fault_only text at are (cut no_image no_bad at_is) =
    elim (told_of (image_from text)) [
      | inl x ↦
          let none = nothing_behind text x.0 x.1 in
          let whole : image_from text ≡ Ok (x.0.0, []) = x.1 ∙ ap (λ (l : List ℕ). Ok (x.0.0, l)) none in
          let is = image_takes text x.0.0 are whole in
          absurd (no_image (record { version = is.version; image = is.image; has_text = is.has_text; text_is = is.text_is }))
      | inr e ↦
          elim (fault_cases text e.0 are e.1) [
            | inl end ↦ record { fault = e.0; reads = e.1; at_is = omega (arith, at_is, ap (λ (s : Spot). length s.1) end) }
            | inr b ↦ absurd (no_bad e.0.1 b)
          ]
    ]
