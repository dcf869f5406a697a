-- What the text of a version tells of a record.
use Rattle.std.proofs.Common.{◌≡◌, ℕ, ◌<◌, ◌^◌, List, [], ◌∷◌, ◌++◌, length, map, Option, Some, None, refl, sym, ap, ◌∙◌, append-nil, arith}
use Rattle.std.specs.Prelude.{Ok, Err}
use Rattle.std.proofs.lemmas.List.{length-map}
use Rattle.std.specs.List.{flat_map, AllByRecursion}
use Rattle.chain_names.specs.declared.coin.Coin.{Coin}
use Rattle.chain_names.specs.declared.coin.Item.{Item}
use Rattle.chain_names.specs.declared.undo.UndoOp.{UndoOp}
use Rattle.chain_names.specs.declared.undo.UndoOp.TheVariants.{New, First, Update}
use Rattle.chain_names.specs.Undo.{UndoRecord}
use Rattle.block_grammar.proofs.Readers.{IsBytes}
use Rattle.block_grammar.proofs.ReaderLaws.{ok_is, ok_err}
use Rattle.undo_records.specs.declared.fault.FaultKind.TheVariants.{Unsorted}
use Rattle.undo_records.specs.Reading.{undo_from}
use Rattle.undo_records.specs.Text.{item_text, before_text, change_text, op_text, undo_text}
use Rattle.undo_records.specs.declared.version.Version.{Version}
use Rattle.undo_records.specs.declared.version.Version.TheVariants.{One, Two}
use Rattle.undo_records.specs.Versions.{item_without, before_without, op_without, told, IsItemIn, IsBeforeIn, IsOpIn, IsUndoIn}
use Rattle.chain_names.specs.Writable.{Change, change_of, IsWritableNew, IsWritableNamed, IsWritableItem, IsWritableBefore, IsWritableChange, IsWritableOp, IsWritable}
use Rattle.undo_records.specs.Faults.{IsUnsorted}
use Rattle.undo_records.proofs.Laws.{ended}
use Rattle.undo_records.proofs.RecordLaws.{out_of_order, all_told, undo_core, front_cut, unsorted_grows}

-- ---- without registration heights, each part has the same text of version 1

pub item_without_text : (item : Item) → item_text One (item_without item) ≡ item_text One item
unfolding item_text
item_without_text item = refl

before_without_text : (before : Option Item) → before_text One (before_without before) ≡ before_text One before
unfolding before_text
before_without_text None = refl
before_without_text (Some item) = ap (λ (l : List ℕ). 1 ∷ l) (item_without_text item)

pub op_without_text : (op : UndoOp) → op_text One (op_without op) ≡ op_text One op
unfolding op_text change_text
op_without_text (New made) = refl
op_without_text (First made spent coin name before) = rw (before_without_text before) refl
op_without_text (Update made spent coin name before) = rw (before_without_text before) refl

pub ops_without_text : (ops : List UndoOp) → flat_map (op_text One) (map op_without ops) ≡ flat_map (op_text One) ops
ops_without_text [] = refl
ops_without_text (op ∷ ops) = ap (λ (l : List ℕ). l ++ flat_map (op_text One) (map op_without ops)) (op_without_text op) ∙ ap (λ (l : List ℕ). op_text One op ++ l) (ops_without_text ops)

-- a text of version 1 says nothing of registration heights
told_text : (version : Version) (undo : UndoRecord) → undo_text version (told version undo) ≡ undo_text version undo
unfolding undo_text
told_text One undo = rw (ops_without_text undo.ops, length-map undo.ops op_without) refl
told_text Two undo = refl

-- ---- and each part with a text has one of version 1

pub item_fits : (item : Item) → IsWritableItem item → IsItemIn One (item_without item)
item_fits item fits = (record { height = fits.height; registered = omega arith; at = fits.at; value = fits.value }, refl)

before_fits : (before : Option Item) → IsWritableBefore before → IsBeforeIn One (before_without before)
before_fits None fits = (tt, tt)
before_fits (Some item) fits = item_fits item fits

change_fits : (FitsCoin : Coin → Type 0) (c : Change) → IsWritableChange FitsCoin c → IsWritableChange FitsCoin (change_of c.made c.spent c.coin c.name (before_without c.before))
change_fits FitsCoin c fits = record { made = fits.made; spent = fits.spent; coin = fits.coin; name = fits.name; before = (before_fits c.before fits.before).0 }

pub op_fits : (op : UndoOp) → IsWritableOp op → IsOpIn One (op_without op)
op_fits (New made) fits = (fits, tt)
op_fits (First made spent coin name before) fits = (change_fits IsWritableNew (change_of made spent coin name before) fits, (before_fits before fits.before).1)
op_fits (Update made spent coin name before) fits = (change_fits IsWritableNamed (change_of made spent coin name before) fits, (before_fits before fits.before).1)

pub ops_fit : (ops : List UndoOp) → AllByRecursion IsWritableOp ops → AllByRecursion (IsOpIn One) (map op_without ops)
ops_fit [] all = tt
ops_fit (op ∷ ops) all = (op_fits op all.0, ops_fit ops all.1)

-- a record with a text has one of each version, of what that tells
pub told_fits : (version : Version) (undo : UndoRecord) → IsWritable undo → IsUndoIn version (told version undo)
told_fits One undo fits =
    let f = fits.fits in
    let all = all_told One (map op_without undo.ops) (ops_fit undo.ops f.ops) in
    let count : length (map op_without undo.ops) < 2 ^ 32 = omega (arith, f.op_count, length-map undo.ops op_without) in
    (record { fits = record { block = f.block; op_count = count; ops = all.0; expired_count = f.expired_count; expired = f.expired }; in_order = fits.in_order }, all.1)
told_fits Two undo fits = (fits, tt)

-- what a text tells is read again, whatever follows
pub told_again : (version : Version) (undo : UndoRecord) (more : List ℕ) → IsWritable undo → undo_from version (undo_text version undo ++ more) ≡ Ok (told version undo, more)
told_again version undo more fits =
    ap (λ (l : List ℕ). undo_from version (l ++ more)) (sym (told_text version undo)) ∙ (undo_core version).again (told version undo) more (told_fits version undo fits)

-- each proper front of a text is cut
pub text_cut : (version : Version) (undo : UndoRecord) (front : List ℕ) (next : ℕ) (more : List ℕ) → IsBytes front → IsWritable undo → undo_text version undo ≡ front ++ next ∷ more
    → undo_from version front ≡ Err ended
text_cut version undo front next more front_bytes fits text = front_cut version front front_bytes (record {
  front = record { value = told version undo; fits = ((told_fits version undo fits).0.fits, (told_fits version undo fits).1); next = next; more = more; text_is = told_text version undo ∙ text };
  sorted = in_order;
})
  where
    in_order : (rest : List ℕ) → ¬ (IsUnsorted version front rest)
    in_order rest u =
        let grown : IsUnsorted version (front ++ next ∷ more) (rest ++ next ∷ more) = unsorted_grows version front rest (next ∷ more) u in
        let read : undo_from version (undo_text version undo ++ []) ≡ Ok (told version undo, []) = told_again version undo [] fits in
        let fault : undo_from version (front ++ next ∷ more) ≡ Err (Unsorted, rest ++ next ∷ more) =
        (undo_core version).flawed (front ++ next ∷ more) (Unsorted, rest ++ next ∷ more) (out_of_order (rest ++ next ∷ more) grown refl) in
        ok_err (undo_from version (front ++ next ∷ more)) (told version undo, []) (Unsorted, rest ++ next ∷ more) (ap (undo_from version) (sym (append-nil (undo_text version undo) ∙ text)) ∙ read) fault

-- bytes begin with the text of what is told of one record alone
pub one_record : (version : Version) (undo other : UndoRecord) (more others : List ℕ) → IsWritable undo → IsWritable other → undo_text version undo ++ more ≡ undo_text version other ++ others
    → (told version undo ≡ told version other) × (more ≡ others)
one_record version undo other more others fits other_fits e =
    let same : (told version undo, more) ≡ (told version other, others) =
    ok_is (told version undo, more) (told version other, others) (sym (told_again version undo more fits) ∙ ap (undo_from version) e ∙ told_again version other others other_fits) in
    (ap (λ (x : UndoRecord × List ℕ). x.0) same, ap (λ (x : UndoRecord × List ℕ). x.1) same)
