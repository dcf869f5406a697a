-- The readers of the values of an image: what was read and the bytes behind it; or the kind of the first fault, and the bytes
-- from its place on. Each field is read whole before it is tested.
use Rattle.std.specs.Prelude.{ℕ, ◌==◌, Bool, true, nat_le, if◌then◌else◌, List, [], ◌∷◌, length, Option, Some, None, Ok, Err}
use Rattle.std.specs.Int.{w32}
use Rattle.std.specs.Cmp.Lexicographic.{slice_cmp}
use Rattle.std.specs.Ordering.{nat_cmp}
use Rattle.block_grammar.specs.Combinators.{◌>>=◌, then_from, map_from}
use Rattle.nmc_base.specs.declared.chain_ends.Base.{Base}
use Rattle.nmc_base.specs.declared.chain_ends.Profile.{Profile}
use Rattle.nmc_base.specs.declared.hashes.OutPoint.{OutPoint}
use Rattle.chain_names.specs.declared.coin.Coin.{Coin}
use Rattle.chain_names.specs.declared.coin.HeldCoin.{HeldCoin}
use Rattle.undo_records.specs.declared.fault.FaultKind.TheVariants.{Cut, BadTag, Unsorted}
use Rattle.undo_records.specs.declared.version.Version.{Version}
use Rattle.undo_records.specs.Reading.{Reads, number_from, piece_from, byte_from, checked_from, name_from, new_coin_from, named_coin_from, is_less, later_point_from}
use Rattle.image_grammar.specs.Resuming.{Answer}
use Rattle.image_grammar.specs.Text.{magic, is_version, version_of, is_profile, profile_of}

-- ---- the head

-- the bytes from the first one on that differs from what is wanted
abbrev pub first_other : List ℕ → List ℕ → List ℕ
first_other [] bytes = []
first_other (w ∷ want) [] = []
first_other (w ∷ want) (b ∷ bytes) = if b == w then first_other want bytes else (b ∷ bytes)

abbrev pub same_or_fault : List ℕ → List ℕ → List ℕ → Answer (List ℕ)
same_or_fault bytes rest [] = Ok (bytes, rest)
same_or_fault bytes rest (b ∷ other) = Err (BadTag, b ∷ other)

-- bytes that must be these: the first that differs is the fault's place
abbrev pub exactly_from : List ℕ → Reads (List ℕ)
exactly_from want bytes = piece_from (length want) bytes >>= λ x. same_or_fault x.0 x.1 (first_other want bytes)

abbrev pub version_from : Reads Version
version_from = map_from version_of (checked_from BadTag is_version byte_from)

abbrev pub profile_from : Reads Profile
profile_from = map_from profile_of (checked_from BadTag is_profile byte_from)

-- the version of the text, and the base
abbrev pub Head : Type 0
Head = Version × Base

abbrev pub head_of : List ℕ × (Version × (Profile × (ℕ × List ℕ))) → Head
head_of x = (x.1.0, record { profile = x.1.1.0; height = x.1.1.1.0; hash = record { 0 = x.1.1.1.1 } })

abbrev pub head_from : Reads Head
head_from = map_from head_of
    (then_from (exactly_from magic) (λ _. then_from version_from (λ _. then_from profile_from (λ _. then_from (number_from w32) (λ _. piece_from 32)))))

-- ---- coins

-- a coin of either kind
abbrev pub coin_from : Reads Coin
coin_from [] = Err (Cut, [])
coin_from (first ∷ rest) = if first == 1 then new_coin_from (first ∷ rest) else named_coin_from (first ∷ rest)

abbrev pub entry_of_pair : OutPoint × Coin → HeldCoin
entry_of_pair x = record { at = x.0; coin = x.1 }

-- a coin behind an outpoint that is greater than the one before
abbrev pub entry_from : Option OutPoint → Reads HeldCoin
entry_from last = map_from entry_of_pair (then_from (later_point_from last) (λ _. coin_from))

-- ---- names

abbrev pub comes_after : Option (List ℕ) → List ℕ → Bool
comes_after None name = true
comes_after (Some last) name = is_less (slice_cmp nat_cmp last name)

-- a name that is greater than the one before: else the fault stands at its length byte
abbrev pub later_name_from : Option (List ℕ) → Reads (List ℕ)
later_name_from last = checked_from Unsorted (comes_after last) name_from

-- a count that isn't 0
abbrev pub item_count_from : Reads ℕ
item_count_from = checked_from BadTag (λ n. nat_le 1 n) (number_from w32)

abbrev pub history_head_from : Option (List ℕ) → Reads (List ℕ × ℕ)
history_head_from last = then_from (later_name_from last) (λ _. item_count_from)

-- ---- records

-- the hash of the block, and the number of its operations
abbrev pub undo_head_from : Reads (List ℕ × ℕ)
undo_head_from = then_from (piece_from 32) (λ _. number_from w32)
