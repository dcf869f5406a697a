-- The readers of a snapshot: what was read and the bytes behind it; or the kind of the first fault, and the bytes from its place on.
use Rattle.std.specs.Prelude.{ℕ, zero, suc, ◌==◌, ◌&&◌, Bool, true, false, nat_le, if◌then◌else◌, List, [], ◌∷◌, Option, Ok, Err}
use Rattle.std.specs.Int.{w32}
use Rattle.block_grammar.specs.Combinators.{◌>>=◌, then_from, map_from}
use Rattle.nmc_base.specs.declared.chain_ends.Base.{Base}
use Rattle.nmc_base.specs.declared.hashes.OutPoint.{OutPoint}
use Rattle.nmc_base.specs.declared.limits.TheConstants.{DIGEST_LENGTH}
use Rattle.nmc_base.specs.Expiry.{is_expired}
use Rattle.chain_names.specs.declared.coin.Item.{Item}
use Rattle.chain_names.specs.Coins.{history_of}
use Rattle.undo_records.specs.declared.fault.FaultKind.TheVariants.{Cut, BadTag}
use Rattle.undo_records.specs.Reading.{Reads, number_from, piece_from, checked_from, name_from, value_from, point_from, is_after}
use Rattle.name_snapshot.specs.Makes.{last_of}
use Rattle.name_snapshot.specs.Text.{Told, commitment, value, StartMake, start_of, mark}

-- ---- one make

abbrev pub commitment_from : Reads (ℕ × Told)
commitment_from = map_from (λ x. (x.0, commitment x.1)) (then_from (number_from w32) (λ _. piece_from DIGEST_LENGTH))

abbrev pub given_from : Reads (ℕ × Told)
given_from = map_from (λ x. (x.0, value x.1.0 x.1.1)) (then_from (number_from w32) (λ _. then_from name_from (λ _. value_from)))

-- the height and what the make leaves, behind its tag
abbrev pub told_from : Reads (ℕ × Told)
told_from [] = Err (Cut, [])
told_from (first ∷ rest) =
    if first == 0x51 then commitment_from rest
    else (if first == 0x53 then given_from rest
    else Err (BadTag, first ∷ rest))

abbrev pub make_of_pair : OutPoint × (ℕ × Told) → StartMake
make_of_pair x = record { at = x.0; height = x.1.0; told = x.1.1 }

abbrev pub make_from : Reads StartMake
make_from = map_from make_of_pair (then_from point_from (λ _. told_from))

-- ---- whether it may stand there

abbrev pub is_none : List Item → Bool
is_none [] = true
is_none (item ∷ items) = false

-- by the histories of the makes below
abbrev pub may_give : Base → (List ℕ → List Item) → ℕ → Told → Bool
may_give base names height (commitment hash) = true
may_give base names height (value name bytes) = if is_expired base.profile height (suc base.height) then false else is_none (names name)

-- and by the outpoint before
abbrev pub may_stand : Base → Option OutPoint → (List ℕ → List Item) → StartMake → Bool
may_stand base last names m = is_after last m.at && (nat_le m.height base.height && may_give base names m.height m.told)

-- a make whole, and then whether it may stand there: where it may not, the fault stands at its first byte
abbrev pub next_by : Base → Option OutPoint → (List ℕ → List Item) → Reads StartMake
next_by base last names = checked_from BadTag (may_stand base last names) make_from

abbrev pub next_from : Base → List StartMake → Reads StartMake
next_from base below = next_by base (last_of below) (history_of (start_of below))

-- ---- the whole

-- behind bytes that must be these: the first that is another one is a fault
abbrev pub passed_from : List ℕ → Reads (Unit {0})
passed_from [] bytes = Ok (tt, bytes)
passed_from (wanted ∷ others) [] = Err (Cut, [])
passed_from (wanted ∷ others) (first ∷ rest) = if first == wanted then passed_from others rest else Err (BadTag, first ∷ rest)

-- the number of makes
abbrev pub head_from : Reads ℕ
head_from bytes = passed_from mark bytes >>= λ x. number_from w32 x.1

-- nothing follows the last make
abbrev pub end_from : List StartMake → Reads (List StartMake)
end_from makes [] = Ok (makes, [])
end_from makes (first ∷ rest) = Err (BadTag, first ∷ rest)

-- so many makes on those below
abbrev pub makes_then : Base → ℕ → List StartMake → Reads (List StartMake)
makes_then base zero below bytes = end_from below bytes
makes_then base (suc n) below bytes = next_from base below bytes >>= λ x. makes_then base n (x.0 ∷ below) x.1

abbrev pub snapshot_from : Base → Reads (List StartMake)
snapshot_from base bytes = head_from bytes >>= λ x. makes_then base x.0 [] x.1
