-- One operation more is taken back, and one record more.
use Rattle.std.proofs.Common.{◌≡◌, List, [], ◌∷◌, ◌++◌, map, reverse, refl, sym, ap, ◌∙◌, append-nil}
use Rattle.std.specs.Prelude.{Option}
use Rattle.chain_names.specs.declared.coin.Item.{Item}
use Rattle.chain_names.specs.declared.undo.Undo.{Undo}
use Rattle.chain_names.specs.declared.undo.UndoOp.{UndoOp}
use Rattle.name_tables.specs.Parts.{newest_first}
use Rattle.registrations.specs.declared.taking.Taken.{Taken}
use Rattle.registrations.specs.declared.taking.TakenBack.{TakenBack}
use Rattle.registrations.specs.Seen.{seen_taken}
use Rattle.registrations.specs.Told.{Histories}
use Rattle.registrations.specs.Taking.{IsTakenBack, name_of, last_at, names_before, before_all, taken, names_at_base, undos_taken}
use Rattle.registrations.proofs.ListLemmas.{reverse-more, map-more, middle, newest-more}

-- ---- operations

before_all-more : (ops : List UndoOp) (op : UndoOp) (names : Histories) → before_all (ops ++ op ∷ []) names ≡ before_all ops (names_before (name_of op) names)
before_all-more [] op names = refl
before_all-more (first ∷ ops) op names = ap (names_before (name_of first)) (before_all-more ops op names)

taken-more : (ops : List UndoOp) (op : UndoOp) (names : Histories)
    → taken (ops ++ op ∷ []) names ≡ taken ops (names_before (name_of op) names) ++ record { op = op; item = last_at (name_of op) names } ∷ []
taken-more [] op names = refl
taken-more (first ∷ ops) op names =
    λ i. record { op = first; item = last_at (name_of first) (before_all-more ops op names i) } ∷ taken-more ops op names i

taken_is : (op : UndoOp) (item : Option Item) (t : Taken) → t.op ≡ op → t.item ≡ item → t ≡ record { op = op; item = item }
taken_is op item t e f = λ i. record { op = e i; item = f i }

-- of all operations, those that are left are to be taken back from the histories as they are now, and the others were
pub record IsTaking (all : List UndoOp) (first : Histories) (ops : List UndoOp) (names : Histories) (back : List Taken) : Type 0 where
  pub taken_are : taken ops names ++ reverse back ≡ taken all first
  pub names_are : before_all ops names ≡ before_all all first

pub none_taken : (all : List UndoOp) (first : Histories) (back : List Taken) → back ≡ [] → IsTaking all first all first back
none_taken all first back e = record { taken_are = ap (λ ts. taken all first ++ reverse ts) e ∙ append-nil (taken all first); names_are = refl }

pub one_taken : (all : List UndoOp) (first : Histories) (ops : List UndoOp) (op : UndoOp) (names next : Histories) (back : List Taken) (t : Taken)
    → IsTakenBack names next op t → IsTaking all first (ops ++ op ∷ []) names back → IsTaking all first ops next (back ++ t ∷ [])
one_taken all first ops op names next back t one so = record {
  taken_are =
      ap (λ ns. taken ops ns ++ reverse (back ++ t ∷ [])) one.names_are
      ∙ ap (λ ts. taken ops (names_before (name_of op) names) ++ ts) (reverse-more back t ∙ ap (λ x. x ∷ reverse back) (taken_is op (last_at (name_of op) names) t one.op_is one.item_is))
      ∙ sym (middle (taken ops (names_before (name_of op) names)) (reverse back) (record { op = op; item = last_at (name_of op) names }))
      ∙ ap (λ ts. ts ++ reverse back) (sym (taken-more ops op names)) ∙ so.taken_are;
  names_are = ap (before_all ops) one.names_are ∙ sym (before_all-more ops op names) ∙ so.names_are;
}

pub taken_whole : (all : List UndoOp) (first : Histories) (ops : List UndoOp) (names : Histories) (back : List Taken) → ops ≡ [] → IsTaking all first ops names back
    → (reverse back ≡ taken all first) × (names ≡ before_all all first)
taken_whole all first ops names back e so = (
  ap (λ os. taken os names ++ reverse back) (sym e) ∙ so.taken_are,
  ap (λ os. before_all os names) (sym e) ∙ so.names_are,
)

-- ---- records

pub record IsTakingUndos (all : List Undo) (first : Histories) (undos : List Undo) (names : Histories) (back : List TakenBack) : Type 0 where
  pub taken_are : map seen_taken back ++ undos_taken (newest_first undos) names ≡ undos_taken (newest_first all) first
  pub names_are : names_at_base (newest_first undos) names ≡ names_at_base (newest_first all) first

pub no_undo_taken : (all : List Undo) (first : Histories) (back : List TakenBack) → back ≡ [] → IsTakingUndos all first all first back
no_undo_taken all first back e = record { taken_are = ap (λ ts. map seen_taken ts ++ undos_taken (newest_first all) first) e; names_are = refl }

pub one_undo_taken : (all : List Undo) (first : Histories) (undos : List Undo) (undo : Undo) (names next : Histories) (back : List TakenBack) (t : TakenBack)
    → (seen_taken t ≡ record { block = undo.block; ops = taken undo.ops.items names; expired = undo.expired.items }) × (next ≡ before_all undo.ops.items names)
    → IsTakingUndos all first (undos ++ undo ∷ []) names back → IsTakingUndos all first undos next (back ++ t ∷ [])
one_undo_taken all first undos undo names next back t one so = record {
  taken_are =
      ap (λ ts. ts ++ undos_taken (newest_first undos) next) (map-more seen_taken back t)
      ∙ middle (map seen_taken back) (undos_taken (newest_first undos) next) (seen_taken t)
      ∙ ap (λ ts. map seen_taken back ++ ts) (λ i. one.0 i ∷ undos_taken (newest_first undos) (one.1 i))
      ∙ ap (λ us. map seen_taken back ++ undos_taken us names) (sym (newest-more undos undo)) ∙ so.taken_are;
  names_are = ap (names_at_base (newest_first undos)) one.1 ∙ ap (λ us. names_at_base us names) (sym (newest-more undos undo)) ∙ so.names_are;
}

pub undos_taken_whole : (all : List Undo) (first : Histories) (undos : List Undo) (names : Histories) (back : List TakenBack) → undos ≡ [] → IsTakingUndos all first undos names back
    → (map seen_taken back ≡ undos_taken (newest_first all) first) × (names ≡ names_at_base (newest_first all) first)
undos_taken_whole all first undos names back e so = (
  sym (append-nil (map seen_taken back)) ∙ ap (λ us. map seen_taken back ++ undos_taken (newest_first us) names) (sym e) ∙ so.taken_are,
  ap (λ us. names_at_base (newest_first us) names) (sym e) ∙ so.names_are,
)
