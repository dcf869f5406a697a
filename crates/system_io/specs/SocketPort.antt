-- What contracts see of sockets as a port, and what each of its calls does with the net.
use Rattle.std.specs.Prelude.{ℕ, ◌≤◌, List, [], ◌∷◌, drop, ◌≡◌, Option, Some, None, Result, Ok, IfOk, is_ok}
use Rattle.std.specs.declared.io.Error.{Error}
use Rattle.std.specs.Int.{w64, to_be_bytes}
use Rattle.fault_counts.specs.Counts.{counted}
use Rattle.fault_counts.specs.Faults.{Faults, NeverFell, Rose}
use Rattle.byte_io.specs.Port.{PortSeen, Note, replied, stream_replied, fed_back}
use Rattle.byte_io.specs.declared.port.Polled.{Polled}
use Rattle.byte_io.specs.declared.port.Polled.TheVariants as polls
use Rattle.system_io.specs.Net.{NetTold, Adds, noted, notes_in, Hears, handed, GivesWhole, SendsOn}
use Rattle.system_io.specs.Notes.{note_of_poll}
use Rattle.system_io.specs.Streams.{GivesReply}
use Rattle.system_io.specs.FeedReplies.{SendsReply}
use Rattle.system_io.specs.declared.link.Peer.TheVariants as peers
use Rattle.system_io.specs.declared.socket_port.Bound.{Bound}
use Rattle.system_io.specs.declared.socket_port.PortOf.{PortOf}

-- the numbers that it is bound to
abbrev pub numbers_of : Option Bound → Option (ℕ × ℕ)
numbers_of None = None
numbers_of (Some bound) = Some (bound.udp, bound.feed)

-- it tells of its calls what its net tells
abbrev pub port_seen : {N : Type 0} → (N → NetTold) → PortOf N → PortSeen
port_seen told p = record { bound = numbers_of p.bound; notes = notes_in (told p.net); faults = counted p.tally.faults }

-- what a poll brought has room in the buffer, or the count of faults rose
abbrev pub IsBrought : (old new : Faults) (room : ℕ) → Polled → Type 0
IsBrought old new room (polls.Query client n) = NeverFell old new × (n ≤ room)
IsBrought old new room (polls.Stream client n) = NeverFell old new × (n ≤ room)
IsBrought old new room (polls.StreamEnd client) = NeverFell old new
IsBrought old new room (polls.Feed n) = NeverFell old new × (n ≤ room)
IsBrought old new room polls.FeedEnd = NeverFell old new
IsBrought old new room polls.Nothing = NeverFell old new
IsBrought old new room polls.Failed = NeverFell old new × Rose old new

-- this happened, and then the port noted it
pub record Then (Happens : NetTold → Type 0) (new : NetTold) (note : Note) : Type 0 where
  pub between : NetTold
  pub happened : Happens between
  pub noted_it : Adds between new (noted note ∷ [])

-- all that came in a poll is what the poll hands on, once: a datagram whole, bytes of one client's connection or of the feed's
abbrev pub PollsNet : (old new : NetTold) (buffer : List ℕ) → Polled → Type 0
PollsNet old new buffer polled = Then (λ between. Hears old between (handed polled buffer)) new (note_of_poll polled buffer)

-- what the port answers with Ok was answered so by its sockets, and of their answer this holds
abbrev pub IsAnsweredBy : {E : Type 0} → Result (Unit {0}) E → (Result (Unit {0}) Error → Type 0) → Type 0
IsAnsweredBy result Holds = (answer : Result (Unit {0}) Error) × IfOk result (λ done. answer ≡ Ok done) × Holds answer

-- the datagram was given whole to the client's address, and nothing else; at Ok it went whole
abbrev pub RepliesOverNet : {E : Type 0} → (old new : NetTold) (client : ℕ) (bytes : List ℕ) → Result (Unit {0}) E → Type 0
RepliesOverNet old new client bytes result =
    Then (λ between. IsAnsweredBy result (λ answer. GivesWhole old between (drop 2 (to_be_bytes w64 client)) bytes answer)) new (replied client bytes (is_ok result))

-- over both states of the sockets, where they are bound
abbrev pub OfBound : (Bound → Bound → Type 0) → (old new : Option Bound) → Type 0
OfBound Holds (Some old) (Some new) = Holds old new
OfBound Holds old new = ⊥

-- something went over the client's connection, if it is there, and no other: of what was unsent and the reply behind it the front, in
-- order, and the others are unsent; or the connection is over
abbrev pub RepliesToStream : {E : Type 0} → (held holds : NetTold) (old new : Option Bound) (client : ℕ) (bytes : List ℕ) → Result (Unit {0}) E → Type 0
RepliesToStream held holds old new client bytes result =
    Then (λ between. SendsOn held between (peers.Client client)
    × OfBound (λ before after. GivesReply held between before.sockets.streams.streams.items after.sockets.streams.streams.items client bytes) old new)
    holds (stream_replied client bytes (is_ok result))

-- the same of the feed's connection. At Ok the reply is sent or kept
abbrev pub RepliesToFeed : {E : Type 0} → (held holds : NetTold) (old new : Option Bound) (bytes : List ℕ) → Result (Unit {0}) E → Type 0
RepliesToFeed held holds old new bytes result =
    Then (λ between. SendsOn held between peers.Feed
    × IsAnsweredBy result (λ answer. OfBound (λ before after. SendsReply held between before.sockets.feed.place after.sockets.feed.place answer bytes) old new))
    holds (fed_back bytes (is_ok result))
