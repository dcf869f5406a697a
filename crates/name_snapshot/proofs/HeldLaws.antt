-- The bytes of a head or of a make that isn't whole are few.
use Rattle.std.proofs.Common.{◌≡◌, ℕ, ◌<◌, ◌≤◌, Bool, true, false, cond, nat_lt, List, [], ◌∷◌, ◌++◌, length, take, drop, refl, sym, ap, ◌∙◌, length-append, arith}
use Rattle.std.specs.Prelude.{Ok, Err}
use Rattle.std.specs.Int.{w16, w32, byte_len, from_le_bytes, to_le_bytes}
use Rattle.std.proofs.lemmas.Bool.{ltb-true}
use Rattle.block_grammar.specs.Combinators.{◌>>=◌}
use Rattle.block_grammar.proofs.Readers.{IsBytes}
use Rattle.block_grammar.proofs.ReaderLaws.{err_is}
use Rattle.nmc_base.specs.declared.chain_ends.Base.{Base}
use Rattle.nmc_base.specs.declared.hashes.OutPoint.{OutPoint}
use Rattle.chain_names.specs.Writable.{IsWritablePoint}
use Rattle.undo_records.specs.declared.fault.FaultKind.TheVariants.{Cut, BadTag}
use Rattle.undo_records.specs.Reading.{number_from}
use Rattle.undo_records.specs.Text.{point_text}
use Rattle.undo_records.proofs.Laws.{Spot}
use Rattle.undo_records.proofs.Choices.{no_cut}
use Rattle.name_snapshot.specs.Makes.{IsWritableTold, IsWritableMake}
use Rattle.name_snapshot.specs.Reading.{head_from, next_from}
use Rattle.name_snapshot.specs.Text.{Told, commitment, value, StartMake, told_text, make_text, mark}
use Rattle.name_snapshot.proofs.WholeLaws.{Answer, Passes, passes, ends, differs, passed_cases, number_behind, NextFault, ends_early, is_bad, next_fault}

-- ---- the head

number_short : (bytes rest : List ℕ) → number_from w32 bytes ≡ Err (Cut, rest) → length bytes < 4
number_short bytes rest e = by (nat_lt (length bytes) (byte_len w32)) refl e
  where
    by : (b : Bool) → nat_lt (length bytes) (byte_len w32) ≡ b
        → cond {A = Answer ℕ} b (Err (Cut, [])) (Ok (from_le_bytes w32 (take (byte_len w32) bytes), drop (byte_len w32) bytes)) ≡ Err (Cut, rest) → length bytes < 4
    by true is e' = ltb-true (length bytes) 4 is
    by false is e' = absurd cc

pub head_held : (text rest : List ℕ) → head_from text ≡ Err (Cut, rest) → length text < 9
head_held text rest e = by (passed_cases mark text)
  where
    by : Passes mark text → length text < 9
    by (passes behind text_is is) =
        let short = number_short behind rest (sym (ap (λ r. r >>= number_behind) is) ∙ e) in
        let whole : length text ≡ length (mark ++ behind) = ap length text_is in
        omega (arith, short, whole)
    by (ends next more text_is is) = let whole : 5 ≡ length (text ++ next ∷ more) = ap length text_is in omega (arith, whole, length-append text (next ∷ more))
    by (differs front wanted others behind text_is at bad is) =
        absurd (no_cut (ap (λ (s : Spot). s.0) (err_is (BadTag, behind) (Cut, rest) (sym (ap (λ r. r >>= number_behind) is) ∙ e))))

-- ---- a make

point_length : (at : OutPoint) → IsWritablePoint at → length (point_text at) ≡ 36
unfolding point_text
point_length at fits = omega (arith, fits.txid, length-append at.txid.0 (to_le_bytes w32 at.index))

told_length : (height : ℕ) (t : Told) → IsWritableTold t → length (told_text height t) ≤ 1286
told_length height (commitment hash) fits = omega (arith, fits)
told_length height (value name bytes) fits = omega (arith, fits.0, fits.1, length-append name (to_le_bytes w16 (length bytes) ++ bytes))

make_length : (m : StartMake) → IsWritableMake m → length (make_text m) ≤ 1322
make_length m fits = omega (arith, length-append (point_text m.at) (told_text m.height m.told), point_length m.at fits.at, told_length m.height m.told fits.told)

module _ (base : Base) (below : List StartMake) (bytes rest : List ℕ) (are : IsBytes bytes) where
  pub next_held : next_from base below bytes ≡ Err (Cut, rest) → length bytes < 1322
  next_held e = by (next_fault base below bytes (Cut, rest) are e)
    where
      by : NextFault base below bytes (Cut, rest) → length bytes < 1322
      by (ends_early cut front) =
          let whole : length (make_text front.value) ≡ length (bytes ++ front.next ∷ front.more) = ap length front.text_is in
          omega (arith, whole, length-append bytes (front.next ∷ front.more), make_length front.value front.fits)
      by (is_bad at kind bad) = absurd (no_cut (sym (ap (λ (s : Spot). s.0) kind)))
