-- The laws of headers with their merge-mining part.
use Rattle.std.proofs.Common.{◌≡◌, ℕ, ◌^◌, eqb, List, ◌++◌, Option, Some, None, refl, subst, inl, inr, bit_and}
use Rattle.std.specs.Prelude.{Ok}
use Rattle.std.specs.Int.{w32, to_le_bytes}
use Rattle.std.proofs.lemmas.Bool.{cases_Bool, eqb-true, eqb-false}
use Rattle.block_grammar.specs.PureHeader.{PureHeader, pure_header_text, FitsPureHeader, IsMerged}
use Rattle.block_grammar.proofs.Readers.{Took}
use Rattle.block_grammar.specs.declared.kinds.TxKind.{TxKind}
use Rattle.block_grammar.specs.Kinds.{is_cut}
use Rattle.block_grammar.specs.Transaction.{Transaction, transaction_text, FitsTransaction}
use Rattle.block_grammar.specs.MergePart.{MergePart, branch_text, merge_part_text, FitsBranch, FitsMergePart}
use Rattle.block_grammar.specs.Header.{Header, merged_text, header_text, FitsMerged, FitsHeader}
use Rattle.block_grammar.specs.Hashes.{IsHash}
use Rattle.block_grammar.specs.Combinators.{Reader, then_from, map_from}
use Rattle.block_grammar.specs.Reading.{number_from, piece_from, transaction_from, fields_from, branch_from, merge_part_from, merged_from, header_from}
use Rattle.block_grammar.proofs.ReaderLaws.{Reads, ok_is, ok_err, pair_text, PairFits, then_reads, map_reads, fits_reads, same_reads}
use Rattle.block_grammar.proofs.FieldLaws.{itself, HasLength, IsBelow, FitsListed, piece_laws, laws32, list_laws}
use Rattle.block_grammar.proofs.BodyLaws.{transaction_laws}

abbrev pub Spot : Type 0
Spot = TxKind × List ℕ

-- ---- the 80 bytes

pub fields_laws : Reads is_cut pure_header_text FitsPureHeader fields_from
unfolding fields_from pure_header_text
fields_laws =
    map_reads is_cut (λ (x : ℕ × (List ℕ × (List ℕ × (ℕ × (ℕ × ℕ))))). record { version = x.0; previous = x.1.0; root = x.1.1.0; time = x.1.1.1.0; bits = x.1.1.1.1.0; nonce = x.1.1.1.1.1 })
    (λ (h : PureHeader). (h.version, (h.previous, (h.root, (h.time, (h.bits, h.nonce))))))
    _ _ _ pure_header_text FitsPureHeader
    (λ h fits. refl) (λ x fits. refl)
    (λ x fits. record { version = fits.0; previous = fits.1.0; root = fits.1.1.0; time = fits.1.1.1.0; bits = fits.1.1.1.1.0; nonce = fits.1.1.1.1.1 })
    (λ h fits. (fits.version, (fits.previous, (fits.root, (fits.time, (fits.bits, fits.nonce))))))
    (then_reads is_cut (to_le_bytes w32) (IsBelow (2 ^ 32)) (number_from w32) _ _ (λ _. then_from (piece_from 32) (λ _. then_from (piece_from 32) (λ _. then_from (number_from w32) (λ _. then_from (number_from w32) (λ _. number_from w32))))) laws32 (λ _ _.
    then_reads is_cut itself (HasLength 32) (piece_from 32) _ _ (λ _. then_from (piece_from 32) (λ _. then_from (number_from w32) (λ _. then_from (number_from w32) (λ _. number_from w32)))) (piece_laws 32) (λ _ _.
    then_reads is_cut itself (HasLength 32) (piece_from 32) _ _ (λ _. then_from (number_from w32) (λ _. then_from (number_from w32) (λ _. number_from w32))) (piece_laws 32) (λ _ _.
    then_reads is_cut (to_le_bytes w32) (IsBelow (2 ^ 32)) (number_from w32) _ _ (λ _. then_from (number_from w32) (λ _. number_from w32)) laws32 (λ _ _.
    then_reads is_cut (to_le_bytes w32) (IsBelow (2 ^ 32)) (number_from w32) (λ _. to_le_bytes w32) (λ _. IsBelow (2 ^ 32)) (λ _. number_from w32) laws32 (λ _ _. laws32))))))

-- ---- the merge-mining part

pub branch_laws : Reads is_cut branch_text FitsBranch branch_from
unfolding branch_from
branch_laws =
    fits_reads is_cut branch_text (FitsListed (IsBelow (2 ^ 64)) IsHash) FitsBranch branch_from
    (λ branch fits. record { count = fits.0; hashes = fits.1 }) (λ branch fits. (fits.count, fits.hashes))
    (list_laws itself IsHash (piece_from 32) (piece_laws 32))

abbrev Parts : Type 0
Parts = Transaction × (List ℕ × (List (List ℕ) × (ℕ × (List (List ℕ) × (ℕ × PureHeader)))))

pub merge_part_laws : Reads is_cut merge_part_text FitsMergePart merge_part_from
unfolding merge_part_from merge_part_text
merge_part_laws =
    map_reads is_cut
    (λ (x : Parts). record {
      coinbase = x.0;
      parent_hash = x.1.0;
      coinbase_branch = x.1.1.0;
      coinbase_index = x.1.1.1.0;
      chain_branch = x.1.1.1.1.0;
      chain_index = x.1.1.1.1.1.0;
      parent = x.1.1.1.1.1.1;
    })
    (λ (m : MergePart). (m.coinbase, (m.parent_hash, (m.coinbase_branch, (m.coinbase_index, (m.chain_branch, (m.chain_index, m.parent)))))))
    _ _ _ merge_part_text FitsMergePart
    (λ m fits. refl) (λ x fits. refl)
    (λ x fits. record {
      coinbase = fits.0;
      parent_hash = fits.1.0;
      coinbase_branch = fits.1.1.0;
      coinbase_index = fits.1.1.1.0;
      chain_branch = fits.1.1.1.1.0;
      chain_index = fits.1.1.1.1.1.0;
      parent = fits.1.1.1.1.1.1;
    })
    (λ m fits. (fits.coinbase, (fits.parent_hash, (fits.coinbase_branch, (fits.coinbase_index, (fits.chain_branch, (fits.chain_index, fits.parent)))))))
    (then_reads is_cut transaction_text FitsTransaction transaction_from _ _ (λ _. then_from (piece_from 32) (λ _. then_from branch_from (λ _. then_from (number_from w32) (λ _. then_from branch_from (λ _. then_from (number_from w32) (λ _. fields_from)))))) transaction_laws (λ _ _.
    then_reads is_cut itself (HasLength 32) (piece_from 32) _ _ (λ _. then_from branch_from (λ _. then_from (number_from w32) (λ _. then_from branch_from (λ _. then_from (number_from w32) (λ _. fields_from))))) (piece_laws 32) (λ _ _.
    then_reads is_cut branch_text FitsBranch branch_from _ _ (λ _. then_from (number_from w32) (λ _. then_from branch_from (λ _. then_from (number_from w32) (λ _. fields_from)))) branch_laws (λ _ _.
    then_reads is_cut (to_le_bytes w32) (IsBelow (2 ^ 32)) (number_from w32) _ _ (λ _. then_from branch_from (λ _. then_from (number_from w32) (λ _. fields_from))) laws32 (λ _ _.
    then_reads is_cut branch_text FitsBranch branch_from _ _ (λ _. then_from (number_from w32) (λ _. fields_from)) branch_laws (λ _ _.
    then_reads is_cut (to_le_bytes w32) (IsBelow (2 ^ 32)) (number_from w32) (λ _. pure_header_text) (λ _. FitsPureHeader) (λ _. fields_from) laws32 (λ _ _. fields_laws)))))))

-- ---- the part where the version says so

abbrev nothing_from : Reader TxKind (Option MergePart)
nothing_from bytes = Ok (None, bytes)

nothing_laws : (version : ℕ) → ¬ IsMerged version → Reads is_cut merged_text (FitsMerged version) nothing_from
nothing_laws version clear = record {
  takes = λ bytes x fits e.
      let made : Option MergePart × List ℕ = (None, bytes) in
      subst (λ (y : Option MergePart × List ℕ). Took merged_text (FitsMerged version) bytes y) (ok_is made x e) (record { parts = refl; fits = clear; rest_bytes = fits });
  again = again;
  stops = λ bytes e fits h. absurd (ok_err (nothing_from bytes) (None, bytes) e refl h);
  sample = None;
  sample_fits = clear;
}
  where
    again : (x : Option MergePart) (rest : List ℕ) → FitsMerged version x → nothing_from (merged_text x ++ rest) ≡ Ok (x, rest)
    again None rest fits = refl
    again (Some m) rest fits = absurd (clear fits.0)

abbrev part_or : MergePart → Option MergePart → MergePart
part_or m None = m
part_or m (Some n) = n

part_laws : (version : ℕ) → IsMerged version → Reads is_cut merged_text (FitsMerged version) (map_from (λ m. Some m) merge_part_from)
part_laws version set =
    map_reads is_cut (λ (m : MergePart). Some m) (part_or merge_part_laws.sample) merge_part_text FitsMergePart merge_part_from merged_text (FitsMerged version)
    back (λ m fits. refl) (λ m fits. (set, fits)) from merge_part_laws
  where
    back : (y : Option MergePart) → FitsMerged version y → Some (part_or merge_part_laws.sample y) ≡ y
    back None fits = absurd (fits set)
    back (Some m) fits = refl

    from : (y : Option MergePart) → FitsMerged version y → FitsMergePart (part_or merge_part_laws.sample y)
    from None fits = absurd (fits set)
    from (Some m) fits = fits.1

merged_laws : (version : ℕ) → Reads is_cut merged_text (FitsMerged version) (merged_from version)
unfolding merged_from
merged_laws version =
    elim (cases_Bool (eqb (bit_and version 0x100) 0)) [
      | inl clear ↦ same_reads is_cut merged_text (FitsMerged version) nothing_from (merged_from version) (λ bytes. rw clear refl) (nothing_laws version (λ m. m (eqb-true (bit_and version 0x100) 0 clear)))
      | inr set ↦ same_reads is_cut merged_text (FitsMerged version) (map_from (λ m. Some m) merge_part_from) (merged_from version) (λ bytes. rw set refl) (part_laws version (λ e. eqb-false (bit_and version 0x100) 0 set e))
    ]

pub header_laws : Reads is_cut header_text FitsHeader header_from
unfolding header_from header_text
header_laws =
    map_reads is_cut (λ (x : PureHeader × Option MergePart). record { fields = x.0; merged = x.1 }) (λ (h : Header). (h.fields, h.merged))
    (pair_text pure_header_text (λ _. merged_text)) (PairFits FitsPureHeader (λ h. FitsMerged h.version)) (then_from fields_from (λ fields. merged_from fields.version)) header_text FitsHeader
    (λ h fits. refl) (λ x fits. refl) (λ x fits. record { fields = fits.0; merged = fits.1 }) (λ h fits. (fits.fields, fits.merged))
    (then_reads is_cut pure_header_text FitsPureHeader fields_from (λ _. merged_text) (λ h. FitsMerged h.version) (λ fields. merged_from fields.version) fields_laws (λ fields _. merged_laws fields.version))
