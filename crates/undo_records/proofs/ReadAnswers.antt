-- What the answers of reading say by the grammar.
use Rattle.std.proofs.Common.{◌≡◌, ℕ, ◌+◌, ◌-◌, ◌≤◌, ◌⊎◌, List, [], ◌++◌, length, drop, refl, sym, ap, ◌∙◌, arith, inl, inr, length-drop}
use Rattle.std.specs.Prelude.{Result, Ok, Err, IfOk, IfErr}
use Rattle.std.proofs.lemmas.List.{length-append, drop_at, drop_all}
use Rattle.chain_names.specs.Undo.{UndoRecord}
use Rattle.block_grammar.proofs.Readers.{IsBytes}
use Rattle.block_grammar.proofs.ReaderLaws.{ok_is, err_is, ok_err}
use Rattle.undo_records.specs.declared.fault.FaultKind.{FaultKind}
use Rattle.undo_records.specs.declared.fault.FaultKind.TheVariants.{Cut as cut, BadTag as bad_tag, Unsorted as unsorted}
use Rattle.undo_records.specs.declared.fault.UndoFault.{UndoFault}
use Rattle.undo_records.specs.declared.fault.UndoFault.TheVariants.{Cut, BadTag, Unsorted, NoMemory}
use Rattle.undo_records.specs.declared.version.Version.{Version}
use Rattle.undo_records.specs.Versions.{told}
use Rattle.undo_records.specs.Text.{undo_text}
use Rattle.chain_names.specs.Limits.{IsWithinLimits}
use Rattle.chain_names.specs.Writable.{IsWritable}
use Rattle.undo_records.specs.Reading.{undo_from}
use Rattle.undo_records.specs.Faults.{HasFault, BeginsWith}
use Rattle.undo_records.specs.Answers.{placed_fault, StopsAt, GivesUndo, IsCausedBy, AnswersUndo, AnswersFault}
use Rattle.undo_records.proofs.Laws.{Spot, ended}
use Rattle.undo_records.proofs.Choices.{no_cut}
use Rattle.undo_records.proofs.RecordLaws.{kinds_apart, undo_core, UndoFlaw, bad_tag as tag_flaw, out_of_order, tag_cause, unsorted_cause, cut_cause, front_cut}
use Rattle.undo_records.proofs.ToldLaws.{told_again}
use Rattle.undo_records.proofs.WidthLaws.{writable_within}

-- what stands behind a front
pub behind_front : (bytes front rest : List ℕ) → bytes ≡ front ++ rest → (length rest ≤ length bytes) × (rest ≡ drop (length bytes - length rest) bytes)
behind_front bytes front rest e =
    let len : length bytes ≡ length front + length rest = ap length e ∙ length-append front rest in
    let place : length bytes - length rest ≡ length front = omega (arith, len) in
    (omega (arith, len), sym (ap (λ (n : ℕ). drop n bytes) place ∙ ap (λ (l : List ℕ). drop (length front) l) e ∙ drop_at front rest (length front) refl))

-- the end is where nothing stands behind
at_length : (bytes : List ℕ) (at : ℕ) → at ≤ length bytes → drop at bytes ≡ [] → at ≡ length bytes
at_length bytes at le none = let h : length (drop at bytes) ≡ 0 = ap length none in omega (arith, le, h, length-drop at bytes)

module _ (version : Version) (bytes : List ℕ) where
  -- the places of one rest
  same_place : (at at' : ℕ) → at ≤ length bytes → at' ≤ length bytes → drop at bytes ≡ drop at' bytes → at ≡ at'
  same_place at at' le le' e =
      let h : length (drop at bytes) ≡ length (drop at' bytes) = ap length e in
      omega (arith, le, le', h, length-drop at bytes, length-drop at' bytes)

  -- two ends of reading are one
  one_stop : (kind kind' : FaultKind) (at at' : ℕ) → StopsAt version bytes kind at → StopsAt version bytes kind' at' → placed_fault kind' at' ≡ placed_fault kind at
  one_stop kind kind' at at' s s' =
      let same : (kind, drop at bytes) ≡ (kind', drop at' bytes) = err_is (kind, drop at bytes) (kind', drop at' bytes) (sym s.0 ∙ s'.0) in
      let kinds : kind ≡ kind' = ap (λ (y : Spot). y.0) same in
      let places : at ≡ at' = same_place at at' s.1 s'.1 (ap (λ (y : Spot). y.1) same) in
      ap (λ (k : FaultKind). placed_fault k at') (sym kinds) ∙ ap (λ (n : ℕ). placed_fault kind n) (sym places)

  -- the fault that a cause has
  stops_at : IsBytes bytes → (fault : UndoFault) → HasFault version bytes fault → (kind : FaultKind) × (at : ℕ) × (StopsAt version bytes kind at × (placed_fault kind at ≡ fault))
  stops_at fits (Cut at) h = (cut, at, ((front_cut version bytes fits h.1 ∙ ap (λ (l : List ℕ). Err (cut, l)) (sym (drop_all at bytes (omega (arith, h.0)))), omega (arith, h.0)), refl))
  stops_at fits (BadTag at) h = (bad_tag, at, (((undo_core version).flawed bytes (bad_tag, drop at bytes) (tag_flaw (record { rest = drop at bytes; flaw = h.1; is = refl })), h.0), refl))
  stops_at fits (Unsorted at) h = (unsorted, at, (((undo_core version).flawed bytes (unsorted, drop at bytes) (out_of_order (drop at bytes) h.1 refl), h.0), refl))
  stops_at fits NoMemory h = absurd h

module _ {X : Type 0} (view : X → UndoRecord) (version : Version) (bytes : List ℕ) where
  -- a record that the bytes begin with is read
  pub only : (r : Result (X × ℕ) UndoFault) → GivesUndo view version bytes r → (undo : UndoRecord) (more : List ℕ) → IsWritable undo → bytes ≡ undo_text version undo ++ more → AnswersUndo view (told version undo) (length (undo_text version undo)) r
  only r g undo more writable e = go r g
    where
      read : undo_from version bytes ≡ Ok (told version undo, more)
      read = ap (undo_from version) e ∙ told_again version undo more writable

      go : (r : Result (X × ℕ) UndoFault) → GivesUndo view version bytes r → AnswersUndo view (told version undo) (length (undo_text version undo)) r
      go (Ok x) g =
          let kept : UndoRecord × List ℕ = (view x.0, drop x.1 bytes) in
          let same : (told version undo, more) ≡ kept = ok_is (told version undo, more) (view x.0, drop x.1 bytes) (sym read ∙ g.0) in
          let rest : more ≡ drop x.1 bytes = ap (λ (y : UndoRecord × List ℕ). y.1) same in
          let len : length bytes ≡ length (undo_text version undo) + length more = ap length e ∙ length-append (undo_text version undo) more in
          let left : length more ≡ length (drop x.1 bytes) = ap length rest in
          (sym (ap (λ (y : UndoRecord × List ℕ). y.0) same), omega (arith, len, left, g.1, length-drop x.1 bytes))
      go (Err (Cut at)) g = absurd (ok_err (undo_from version bytes) (told version undo, more) (cut, drop at bytes) read g.0)
      go (Err (BadTag at)) g = absurd (ok_err (undo_from version bytes) (told version undo, more) (bad_tag, drop at bytes) read g.0)
      go (Err (Unsorted at)) g = absurd (ok_err (undo_from version bytes) (told version undo, more) (unsorted, drop at bytes) read g.0)
      go (Err NoMemory) g = refl

module _ {X : Type 0} (view : X → UndoRecord) (version : Version) (bytes : List ℕ) (fits : IsBytes bytes) where
  pub found_place : (undo : UndoRecord) (rest : List ℕ) → undo_from version bytes ≡ Ok (undo, rest) → (length rest ≤ length bytes) × (rest ≡ drop (length bytes - length rest) bytes)
  found_place undo rest e = behind_front bytes (undo_text version undo) rest ((undo_core version).takes bytes (undo, rest) fits e).parts

  pub found : (undo : X) (rest : List ℕ) → undo_from version bytes ≡ Ok (view undo, rest) → GivesUndo view version bytes (Ok (undo, length bytes - length rest))
  found undo rest e = let p = found_place (view undo) rest e in (e ∙ ap (λ (l : List ℕ). Ok (view undo, l)) p.1, omega arith)

  pub fault_place : (kind : FaultKind) (rest : List ℕ) → undo_from version bytes ≡ Err (kind, rest) → (length rest ≤ length bytes) × (rest ≡ drop (length bytes - length rest) bytes)
  fault_place kind rest e = let b = (undo_core version).behind bytes (kind, rest) fits e in behind_front bytes b.0 rest b.1

  pub placed : (kind : FaultKind) (rest : List ℕ) → undo_from version bytes ≡ Err (kind, rest) → GivesUndo view version bytes (Err (placed_fault kind (length bytes - length rest)))
  placed cut rest e = let p = fault_place cut rest e in (e ∙ ap (λ (l : List ℕ). Err (cut, l)) p.1, omega arith)
  placed bad_tag rest e = let p = fault_place bad_tag rest e in (e ∙ ap (λ (l : List ℕ). Err (bad_tag, l)) p.1, omega arith)
  placed unsorted rest e = let p = fault_place unsorted rest e in (e ∙ ap (λ (l : List ℕ). Err (unsorted, l)) p.1, omega arith)

  -- what was read
  pub begins : (r : Result (X × ℕ) UndoFault) → GivesUndo view version bytes r → IfOk r (λ x. BeginsWith version bytes (view x.0) x.1)
  begins (Ok x) g =
      let t = (undo_core version).takes bytes (view x.0, drop x.1 bytes) fits g.0 in
      let len : length bytes ≡ length (undo_text version (view x.0)) + length (drop x.1 bytes) = ap length t.parts ∙ length-append (undo_text version (view x.0)) (drop x.1 bytes) in
      record { writable = t.fits.0; told = t.fits.1; text = t.parts; length_is = omega (arith, len, g.1, length-drop x.1 bytes) }
  begins (Err fault) g = tt

  -- it can be written
  pub within : (r : Result (X × ℕ) UndoFault) → GivesUndo view version bytes r → IfOk r (λ x. IsWithinLimits (view x.0))
  within (Ok x) g = writable_within (view x.0) ((undo_core version).takes bytes (view x.0, drop x.1 bytes) fits g.0).fits.0
  within (Err fault) g = tt

  -- what is wrong
  pub cause : (r : Result (X × ℕ) UndoFault) → GivesUndo view version bytes r → IfErr r (IsCausedBy (HasFault version bytes))
  cause (Ok x) g = tt
  cause (Err (Cut at)) g = go ((undo_core version).stops bytes (cut, drop at bytes) fits g.0)
    where
      go : ((cut, drop at bytes) ≡ ended) ⊎ UndoFlaw version bytes (cut, drop at bytes) → HasFault version bytes (Cut at)
      go (inl is) =
          let none : drop at bytes ≡ [] = ap (λ (s : Spot). s.1) is in
          (at_length bytes at g.1 none, cut_cause version bytes fits (g.0 ∙ ap (λ (s : Spot). Err s) is))
      go (inr (tag_flaw t)) = absurd (no_cut (ap (λ (s : Spot). s.0) t.is))
      go (inr (out_of_order rest u is)) = absurd (kinds_apart (ap (λ (s : Spot). s.0) is))
  cause (Err (BadTag at)) g = (g.1, tag_cause version bytes (drop at bytes) fits g.0)
  cause (Err (Unsorted at)) g = (g.1, unsorted_cause version bytes (drop at bytes) fits g.0)
  cause (Err NoMemory) g = tt

  pub only_fault : (r : Result (X × ℕ) UndoFault) → GivesUndo view version bytes r → (fault : UndoFault) → HasFault version bytes fault → AnswersFault fault r
  only_fault r g fault h = go r g
    where
      w : (kind : FaultKind) × (at : ℕ) × (StopsAt version bytes kind at × (placed_fault kind at ≡ fault))
      w = stops_at version bytes fits fault h

      go : (r : Result (X × ℕ) UndoFault) → GivesUndo view version bytes r → AnswersFault fault r
      go (Ok x) g = ok_err (undo_from version bytes) (view x.0, drop x.1 bytes) (w.0, drop w.1 bytes) g.0 w.2.0.0
      go (Err (Cut at)) g = one_stop version bytes w.0 cut w.1 at w.2.0 g ∙ w.2.1
      go (Err (BadTag at)) g = one_stop version bytes w.0 bad_tag w.1 at w.2.0 g ∙ w.2.1
      go (Err (Unsorted at)) g = one_stop version bytes w.0 unsorted w.1 at w.2.0 g ∙ w.2.1
      go (Err NoMemory) g = tt
