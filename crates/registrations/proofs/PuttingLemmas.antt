-- One operation more is done again, and one record more.
use Rattle.std.proofs.Common.{◌≡◌, List, [], ◌∷◌, ◌++◌, map, reverse, refl, sym, ap, ◌∙◌, append-nil}
use Rattle.chain_names.specs.declared.undo.Undo.{Undo}
use Rattle.chain_names.specs.declared.undo.UndoOp.{UndoOp}
use Rattle.chain_names.specs.Seen.{seen_undo}
use Rattle.name_tables.specs.Parts.{newest_first}
use Rattle.registrations.specs.declared.taking.Taken.{Taken}
use Rattle.registrations.specs.declared.taking.TakenBack.{TakenBack}
use Rattle.registrations.specs.Filling.{op_with, with_made, with_all, ops_with, undo_with, names_with, undos_with}
use Rattle.registrations.specs.Seen.{seen_taken}
use Rattle.registrations.specs.Told.{Histories}
use Rattle.registrations.specs.Taking.{TakenUndo}
use Rattle.registrations.proofs.ListLemmas.{reverse-more, map-more, middle, newest-more}

-- ---- operations

-- of all operations, which are kept from the last to the first, those that are left are to be done again behind the histories as
-- they are now, and the others were
pub record IsPutting (all : List Taken) (first : Histories) (left : List Taken) (names : Histories) (ops : List UndoOp) : Type 0 where
  pub ops_are : ops ++ ops_with (reverse left) names ≡ ops_with (reverse all) first
  pub names_are : with_all (reverse left) names ≡ with_all (reverse all) first

pub none_put_yet : (all : List Taken) (first : Histories) (ops : List UndoOp) → ops ≡ [] → IsPutting all first all first ops
none_put_yet all first ops e = record { ops_are = ap (λ os. os ++ ops_with (reverse all) first) e; names_are = refl }

pub one_put : (all : List Taken) (first : Histories) (left : List Taken) (t : Taken) (names next : Histories) (ops : List UndoOp) (op : UndoOp)
    → (op ≡ op_with t.op names) × (next ≡ with_made t names) → IsPutting all first (left ++ t ∷ []) names ops → IsPutting all first left next (ops ++ op ∷ [])
one_put all first left t names next ops op one so = record {
  ops_are =
      middle ops (ops_with (reverse left) next) op ∙ (λ i. ops ++ one.0 i ∷ ops_with (reverse left) (one.1 i))
      ∙ ap (λ ts. ops ++ ops_with ts names) (sym (reverse-more left t)) ∙ so.ops_are;
  names_are = ap (with_all (reverse left)) one.1 ∙ ap (λ ts. with_all ts names) (sym (reverse-more left t)) ∙ so.names_are;
}

pub put_whole : (all : List Taken) (first : Histories) (left : List Taken) (names : Histories) (ops : List UndoOp) → left ≡ [] → IsPutting all first left names ops
    → (ops ≡ ops_with (reverse all) first) × (names ≡ with_all (reverse all) first)
put_whole all first left names ops e so = (
  sym (append-nil ops) ∙ ap (λ ts. ops ++ ops_with (reverse ts) names) (sym e) ∙ so.ops_are,
  ap (λ ts. with_all (reverse ts) names) (sym e) ∙ so.names_are,
)

-- ---- records

names_with-more : (ts : List TakenUndo) (t : TakenUndo) (names : Histories) → names_with (ts ++ t ∷ []) names ≡ names_with ts (with_all t.ops names)
names_with-more [] t names = refl
names_with-more (first ∷ ts) t names = ap (with_all first.ops) (names_with-more ts t names)

undos_with-more : (ts : List TakenUndo) (t : TakenUndo) (names : Histories) → undos_with (ts ++ t ∷ []) names ≡ undos_with ts (with_all t.ops names) ++ undo_with t names ∷ []
undos_with-more [] t names = refl
undos_with-more (first ∷ ts) t names = λ i. undo_with first (names_with-more ts t names i) ∷ undos_with-more ts t names i

pub record IsPuttingUndos (all : List TakenBack) (first : Histories) (left : List TakenBack) (names : Histories) (undos : List Undo) : Type 0 where
  pub undos_are : undos_with (map seen_taken left) names ++ newest_first undos ≡ undos_with (map seen_taken all) first
  pub names_are : names_with (map seen_taken left) names ≡ names_with (map seen_taken all) first

pub no_undo_put : (all : List TakenBack) (first : Histories) (undos : List Undo) → undos ≡ [] → IsPuttingUndos all first all first undos
no_undo_put all first undos e = record {
  undos_are = ap (λ us. undos_with (map seen_taken all) first ++ newest_first us) e ∙ append-nil (undos_with (map seen_taken all) first);
  names_are = refl;
}

pub one_undo_put : (all : List TakenBack) (first : Histories) (left : List TakenBack) (t : TakenBack) (names next : Histories) (undos : List Undo) (undo : Undo)
    → (seen_undo undo ≡ undo_with (seen_taken t) names) × (next ≡ with_all (seen_taken t).ops names)
    → IsPuttingUndos all first (left ++ t ∷ []) names undos → IsPuttingUndos all first left next (undos ++ undo ∷ [])
one_undo_put all first left t names next undos undo one so =
    let seen = map seen_taken left in
    record {
      undos_are =
          (λ i. undos_with seen (one.1 i) ++ (newest-more undos undo ∙ ap (λ u. u ∷ newest_first undos) one.0) i)
          ∙ sym (middle (undos_with seen (with_all (seen_taken t).ops names)) (newest_first undos) (undo_with (seen_taken t) names))
          ∙ ap (λ us. us ++ newest_first undos) (sym (undos_with-more seen (seen_taken t) names))
          ∙ ap (λ ts. undos_with ts names ++ newest_first undos) (sym (map-more seen_taken left t)) ∙ so.undos_are;
      names_are =
          ap (names_with seen) one.1 ∙ sym (names_with-more seen (seen_taken t) names)
          ∙ ap (λ ts. names_with ts names) (sym (map-more seen_taken left t)) ∙ so.names_are;
    }

pub undos_put_whole : (all : List TakenBack) (first : Histories) (left : List TakenBack) (names : Histories) (undos : List Undo) → left ≡ [] → IsPuttingUndos all first left names undos
    → (newest_first undos ≡ undos_with (map seen_taken all) first) × (names ≡ names_with (map seen_taken all) first)
undos_put_whole all first left names undos e so = (
  ap (λ ts. undos_with (map seen_taken ts) names ++ newest_first undos) (sym e) ∙ so.undos_are,
  ap (λ ts. names_with (map seen_taken ts) names) (sym e) ∙ so.names_are,
)
