-- The connections of clients, each in a place.
use Rattle.std.specs.Prelude.{◌≡◌, ◌≢◌, ◌⊎◌, ℕ, ◌<◌, ◌≤◌, List, ◌++◌, map, slice_get, Some, All, AllPairs, Contains}
use Rattle.byte_io.specs.declared.port.Polled.{Polled}
use Rattle.byte_io.specs.declared.port.Polled.TheVariants as polls
use Rattle.system_io.specs.Net.{NetTold, Moves}
use Rattle.system_io.specs.declared.stream.Stream.{Stream}
use Rattle.system_io.specs.declared.stream.State.TheVariants.{Over}

-- what stands in this place is the connection of the client
abbrev pub IsOf : List Stream → ℕ → ℕ → Type 0
IsOf streams client at = (stream : Stream) → slice_get streams at ≡ Some stream → stream.client ≡ client

-- no connection is the client's
abbrev pub HasNone : List Stream → ℕ → Type 0
HasNone streams client = All (λ stream. stream.client ≢ client) streams

-- each place that wasn't the client's has what it had
abbrev pub KeepsOthers : (old new : List Stream) → ℕ → Type 0
KeepsOthers old new client = (at : ℕ) (stream : Stream) → slice_get old at ≡ Some stream → stream.client ≢ client → slice_get new at ≡ Some stream

-- ---- numbers

-- the number of each connection's client
abbrev pub clients_of : List Stream → List ℕ
clients_of streams = map (λ stream. stream.client) streams

-- no number is above this one
abbrev pub AreUpTo : List ℕ → ℕ → Type 0
AreUpTo clients last = All (λ client. client ≤ last) clients

-- no two are the same
abbrev pub AreApart : List ℕ → Type 0
AreApart clients = AllPairs (λ a b. a ≢ b) clients

-- No number is given again: the last one given never falls, and a connection that didn't stand there has a number above the last
-- one that was given before.
pub record GivesAnew (old_last new_last : ℕ) (old new : List ℕ) : Type 0 where
  pub later : old_last ≤ new_last
  pub each : All (λ client. Contains old client ⊎ (old_last < client)) new

-- ---- what is done

-- The client's connection, where it stands, has the reply behind what was unsent: of both some from the front went over it, in order, and
-- the others are unsent. Or it is over.
abbrev pub HasReply : (held holds : NetTold) → Stream → Stream → List ℕ → Type 0
HasReply held holds old new bytes = (new.client ≡ old.client) × ((new.state ≡ Over) ⊎ Moves held holds old.link.peer (old.unsent ++ bytes) new.unsent)

abbrev pub GivesReply : (held holds : NetTold) (old new : List Stream) → ℕ → List ℕ → Type 0
GivesReply held holds old new client bytes = (at : ℕ) (stream : Stream) → slice_get old at ≡ Some stream → stream.client ≡ client
    → (after : Stream) × (slice_get new at ≡ Some after) × HasReply held holds stream after bytes

-- a poll that brings the end of a client's connection leaves none of the client's
abbrev pub LetsGo : List Stream → Polled → Type 0
LetsGo streams (polls.StreamEnd client) = HasNone streams client
LetsGo streams polled = Unit {0}
