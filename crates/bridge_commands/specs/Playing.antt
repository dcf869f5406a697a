-- What comes of the events of a generated chain, which a bridge is asked one after the other.
use Rattle.std.specs.Prelude.{◌≡◌, ◌≢◌, ℕ, suc, ◌+◌, ◌%◌, ◌^◌, ◌==◌, ◌&&◌, not, nat_le, if◌then◌else◌, Bool, IsTrue, List, [], ◌∷◌, ◌++◌, length, Result, Ok, Err}
use Rattle.disk_model.specs.DiskSeen.{DiskSeen}
use Rattle.feed_frames.specs.Replies.{Reply}
use Rattle.dns_message.specs.Reading.{header_at}
use Rattle.dns_message.specs.declared.numbers.TheConstants.{HEADER_SIZE}
use Rattle.dns_message.specs.declared.rcode.TheConstants.{NOERROR, SERVFAIL}
use Rattle.chain_commands.specs.Event.{Event, Connect, Do, Ask, Save, Datagram}
use Rattle.chain_commands.specs.Reply.{no_memory_reply}
use Rattle.generated_chain.specs.Events.{joined_again, saved}
use Rattle.generated_chain.specs.declared.run.Round.{Round}
use Rattle.name_store.specs.Stored.{IsOn}
use Rattle.bridge_core.specs.Bridged.{Bridged}
use Rattle.bridge_core.specs.Bridge.{fault_code, AnswersEvent, AnswersQuery}
use Rattle.bridge_core.specs.declared.bridge.Turned.{Turned}
use Rattle.bridge_core.specs.declared.bridge.Turned.TheVariants.{On}
use Rattle.bridge_core.specs.declared.status.Status.{Status}
use Rattle.bridge_core.specs.declared.status.Status.TheVariants as statuses
use Rattle.bridge_core.specs.declared.status.Status.TheVariants.{TestFailed}
use Rattle.bridge_commands.specs.declared.course.Course.{Course}
use Rattle.bridge_commands.specs.declared.playing.Stop.{Stop}
use Rattle.bridge_commands.specs.declared.playing.Stop.TheVariants.{Refused, NoMemory}

-- ---- replies to messages

-- RCODE, the four low bits of a header's flags (RFC 1035, 4.1.1)
abbrev pub rcode_in : List ℕ → ℕ
rcode_in message = (header_at message).flags % 2 ^ 4

-- the message has a header, its RCODE is 0, and a record stands in its answer section
abbrev pub has_answer : List ℕ → Bool
has_answer message = nat_le HEADER_SIZE (length message) && ((rcode_in message == NOERROR) && not ((header_at message).answers == 0))

-- a reply to a message with an answer
abbrev pub is_answered : Reply → Bool
is_answered reply = (reply.code == 0) && has_answer reply.payload

-- one more, or not
abbrev pub counted_if : Bool → ℕ → ℕ
counted_if is_one count = if is_one then suc count else count

-- how many messages got an answer
abbrev pub answers_in : List Event → List Reply → ℕ
answers_in [] replies = 0
answers_in (event ∷ events) [] = 0
answers_in (Do command ∷ events) (reply ∷ replies) = answers_in events replies
answers_in (Ask carrier message ∷ events) (reply ∷ replies) = counted_if (is_answered reply) (answers_in events replies)
answers_in (Save ∷ events) (reply ∷ replies) = answers_in events replies

-- ---- replies that let a run go on

-- a command and a save are accepted, and memory was there for the answer to a message
abbrev pub IsTaken : Event → Reply → Type 0
IsTaken (Do command) reply = reply.code ≡ 0
IsTaken (Ask carrier message) reply = rcode_in reply.payload ≢ SERVFAIL
IsTaken Save reply = reply.code ≡ 0

abbrev pub AreTaken : List Event → List Reply → Type 0
AreTaken [] replies = Unit {0}
AreTaken (event ∷ events) [] = Unit {0}
AreTaken (event ∷ events) (reply ∷ replies) = IsTaken event reply × AreTaken events replies

-- a code of a refusal: neither that of an acceptance, nor of want of memory, nor of a fault of the disk
pub record IsRefusal (reply : Reply) : Type 0 where
  pub not_done : reply.code ≢ 0
  pub had_memory : reply.code ≢ no_memory_reply.code
  pub no_fault : reply.code ≢ fault_code

-- a command or a save was refused
abbrev pub IsRefused : Event → Reply → Type 0
IsRefused (Do command) reply = IsRefusal reply
IsRefused (Ask carrier message) reply = ⊥
IsRefused Save reply = IsRefusal reply

-- how the reply to a command or a save is judged
abbrev pub IsJudged : Reply → Result (Unit {0}) Stop → Type 0
IsJudged reply (Ok done) = reply.code ≡ 0
IsJudged reply (Err Refused) = IsRefusal reply
IsJudged reply (Err NoMemory) = Unit {0}

-- ---- one after the other

-- The bridge on its disk gave these replies, each event on the disk that the one before left, and goes on.
abbrev pub AnswersEach : {D : Type 0} → Bool → (D → DiskSeen) → (old : Bridged × D) → List Event → List Reply → (new : Bridged × D) → Type 0
AnswersEach tells seen old [] [] new = new ≡ old
AnswersEach {D} tells seen old (event ∷ events) (reply ∷ replies) new =
    (mid : Bridged × D) × AnswersEvent tells seen old.0 old.1 event reply (On mid.0) mid.1 × AnswersEach tells seen mid events replies new
AnswersEach tells seen old [] (reply ∷ replies) new = ⊥
AnswersEach tells seen old (event ∷ events) [] new = ⊥

-- the events were answered so that a run goes on
pub record PlaysAll {D : Type 0} (tells : Bool) (seen : D → DiskSeen) (old : Bridged × D) (events : List Event) (new : Bridged × D) : Type 0 where
  pub replies : List Reply
  pub each : AnswersEach tells seen old events replies new
  pub taken : AreTaken events replies
  pub still_on : IsTrue tells → IsOn new.0.store (seen new.1).moments.now

-- A front of the events was answered so, and the next event was refused.
pub record StopsIn {D : Type 0} (tells : Bool) (seen : D → DiskSeen) (old : Bridged × D) (events : List Event) : Type 0 where
  pub front : List Event
  pub event : Event
  pub more : List Event
  pub events_are : events ≡ front ++ event ∷ more
  pub replies : List Reply
  pub mid : Bridged × D
  pub each : AnswersEach tells seen old front replies mid
  pub taken : AreTaken front replies
  pub reply : Reply
  pub turned : Turned
  pub after : D
  pub last : AnswersEvent tells seen mid.0 mid.1 event reply turned after
  pub refused : IsRefused event reply

-- what commands and saves come to
abbrev pub PlaysRequests : {D : Type 0} → Bool → (D → DiskSeen) → (old : Bridged × D) → List Event → (after : D) → Result Bridged Stop → Type 0
PlaysRequests tells seen old events after (Ok bridge) = PlaysAll tells seen old events (bridge, after)
PlaysRequests tells seen old events after (Err Refused) = StopsIn tells seen old events
PlaysRequests tells seen old events after (Err NoMemory) = Unit {0}

-- a message was asked twice, in a datagram each, and so many times it got an answer
pub record AsksTwice (old : Bridged) (message : List ℕ) (new : Bridged) (answers : ℕ) : Type 0 where
  pub first : Reply
  pub mid : Bridged
  pub once : AnswersQuery old Datagram message first mid
  pub first_taken : rcode_in first.payload ≢ SERVFAIL
  pub second : Reply
  pub again : AnswersQuery mid Datagram message second new
  pub second_taken : rcode_in second.payload ≢ SERVFAIL
  pub answers_are : answers ≡ counted_if (is_answered first) (counted_if (is_answered second) 0)

-- the commands and the save of a round, which its questions follow
abbrev pub requests_of : Round → List Event
requests_of round = Do (Connect round.block) ∷ (joined_again round.reconnects round.block round.hash.0 ++ saved round.saves)

-- The commands of the round and its save were answered so, and then its message; and what was counted of it.
pub record PlaysOn {D : Type 0} (tells : Bool) (seen : D → DiskSeen) (old : Course) (before : D) (round : Round) (new : Course) (after : D) : Type 0 where
  pub mid : Bridged
  pub requests : PlaysAll tells seen (old.bridge, before) (requests_of round) (mid, after)
  pub answers : ℕ
  pub asks : AsksTwice mid round.query new.bridge answers
  pub answers_are : new.answers ≡ old.answers + answers
  pub saves_are : new.saves ≡ counted_if round.saves old.saves

-- what a round comes to
abbrev pub PlaysRound : {D : Type 0} → Bool → (D → DiskSeen) → (old : Course) → (before : D) → Round → (after : D) → Result Course Stop → Type 0
PlaysRound tells seen old before round after (Ok new) = PlaysOn tells seen old before round new after
PlaysRound tells seen old before round after (Err Refused) = StopsIn tells seen (old.bridge, before) (requests_of round)
PlaysRound tells seen old before round after (Err NoMemory) = Unit {0}

-- the status with which a run stops in this block
abbrev pub status_of_stop : (block : ℕ) → Stop → Status
status_of_stop block Refused = TestFailed block
status_of_stop block NoMemory = statuses.NoMemory
