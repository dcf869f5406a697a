-- All commands behind a gate.
use Rattle.std.proofs.Common.{◌≡◌, ℕ, ◌+◌, ◌<◌, Bool, List, length, take, Ok, Err, sym, subst, arith}
use Rattle.std.specs.Prelude.{IsTrue}
use Rattle.gate_journal.specs.Stand.{Stand}
use Rattle.gate_journal.specs.declared.faults.JournalFault.{JournalFault}
use Rattle.gate_journal.specs.declared.faults.JournalFault.TheVariants as journal
use Rattle.chain_state.specs.Chain.{Indexed}
use Rattle.index_commands.specs.Commands.{Origin}
use Rattle.index_commands.specs.Damage.{HasBadRecord}
use Rattle.index_commands.specs.Reading.{IsBehind, IsFrontOf, FollowsArea, FollowedAnswer, HasFollowedAll}
use Rattle.index_commands.specs.declared.reading.Reading.{Reading}
use Rattle.index_commands.proofs.ReadingLemmas.{followed_all_same}

-- what a reading came to, from a gate on in a file that was the same before
module _ (tells : Bool) (first : Indexed) (gate : ℕ) (old mid : List ℕ) (same : IsTrue tells → mid ≡ old) (front : List ℕ) (gate_is : gate ≡ length front) (stands : IsTrue tells → IsFrontOf front old)
    (stand : Stand) (length_is : stand.length ≡ gate + 1) (longest : ℕ) where
  abbrev origin : Origin
  origin = record { front = front; index = first }

  behind : IsBehind tells front stand mid
  behind = record {
    length_is = omega (arith, length_is, gate_is);
    begins = λ told. subst (λ (l : List ℕ). take (length front) l ≡ front) (sym (same told)) (stands told).begins;
    inside = λ told. subst (λ (l : List ℕ). length front < length l) (sym (same told)) (stands told).inside;
  }

  pub followed_to : (reading : Reading) → FollowsArea tells longest first stand mid (Ok reading) → HasFollowedAll tells longest origin old reading.chain reading.journal.length
  followed_to reading follows = followed_all_same tells longest origin mid old same reading.chain reading.journal.length (follows front behind)

  pub followed_fault : (fault : JournalFault) → FollowsArea tells longest first stand mid (Err fault) → FollowedAnswer tells longest origin old (Err fault)
  followed_fault (journal.Damaged at) follows = λ told. subst (λ (l : List ℕ). HasBadRecord origin longest l at) (same told) (follows front behind told)
  followed_fault journal.DiskFault follows = tt
  followed_fault journal.NoMemory follows = tt
