-- What the reader answers of a text of bytes, on the base of the rows.
use Rattle.std.proofs.Common.{◌≡◌, ℕ, ◌-◌, ◌<◌, Bool, true, false, cond, List, [], ◌∷◌, length, refl, subst}
use Rattle.std.specs.Prelude.{Ok, Err, nat_lt}
use Rattle.std.specs.List.{AllByRecursion}
use Rattle.std.proofs.lemmas.Bool.{ltb-true}
use Rattle.block_grammar.proofs.Readers.{IsBytes, IsBytes-all}
use Rattle.undo_records.specs.declared.fault.FaultKind.TheVariants.{Cut, BadTag}
use Rattle.undo_records.proofs.Choices.{no_cut}
use Rattle.name_snapshot.specs.Faults.{HasFault, bad}
use Rattle.name_snapshot.specs.Makes.{IsSnapshot}
use Rattle.name_snapshot.specs.Reading.{snapshot_from}
use Rattle.name_snapshot.specs.Rows.{base_of_rows}
use Rattle.name_snapshot.specs.Text.{StartMake}
use Rattle.name_snapshot.proofs.FeedLemmas.{not_the_end, the_end}
use Rattle.name_snapshot.proofs.WholeLaws.{whole_read}

abbrev pub all_small : List ℕ → Bool
all_small [] = true
all_small (b ∷ bytes) = cond (nat_lt b 256) (all_small bytes) false

small_all : (bytes : List ℕ) → all_small bytes ≡ true → AllByRecursion (λ b. b < 256) bytes
small_all [] e = tt
small_all (b ∷ bytes) e = by (small_all bytes) (nat_lt b 256) refl e
  where
    by : (all_small bytes ≡ true → AllByRecursion (λ b. b < 256) bytes) → (t : Bool) → nat_lt b 256 ≡ t → cond t (all_small bytes) false ≡ true → AllByRecursion (λ b. b < 256) (b ∷ bytes)
    by rest true is e' = (ltb-true b 256 is, rest e')
    by rest false is e' = absurd cc

are_bytes : (bytes : List ℕ) → all_small bytes ≡ true → IsBytes bytes
are_bytes bytes small = IsBytes-all bytes (small_all bytes small)

pub whole_row : (text : List ℕ) (makes : List StartMake) → all_small text ≡ true → snapshot_from base_of_rows text ≡ Ok (makes, []) → IsSnapshot base_of_rows text makes
whole_row text makes small e = (whole_read base_of_rows text (makes, []) (are_bytes text small) e).0

pub bad_row : (text rest : List ℕ) (at : ℕ) → all_small text ≡ true → snapshot_from base_of_rows text ≡ Err (BadTag, rest) → at ≡ length text - length rest → HasFault base_of_rows text at
bad_row text rest at small e place = bad rest (not_the_end base_of_rows text BadTag rest (are_bytes text small) e no_cut) place

pub cut_row : (text : List ℕ) (at : ℕ) → all_small text ≡ true → snapshot_from base_of_rows text ≡ Err (Cut, []) → length text ≡ at → HasFault base_of_rows text at
cut_row text at small e place = subst (HasFault base_of_rows text) place (the_end base_of_rows text [] (are_bytes text small) e)
