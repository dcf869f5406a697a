-- What a net tells of its sockets: what came and went, and what the port over it noted.
use Rattle.std.specs.Prelude.{◌≡◌, ℕ, zero, suc, ◌<◌, ◌==◌, min, Bool, true, false, List, [], ◌∷◌, ◌++◌, take, length, map, replicate, flat_map, Option, Some, None, Result, Ok, Err}
use Rattle.std.specs.List.{concat}
use Rattle.std.specs.Option.{option_map}
use Rattle.std.specs.Int.{w64, from_be_bytes}
use Rattle.byte_io.specs.Port.{Got, datagram, stream, piece, Note}
use Rattle.byte_io.specs.declared.port.Polled.{Polled}
use Rattle.byte_io.specs.declared.port.Polled.TheVariants as polls
use Rattle.system_io.specs.declared.link.Peer.{Peer}
use Rattle.system_io.specs.declared.link.Peer.TheVariants as peers

-- one thing that happened: an address was asked for; a datagram came from this address, or was given to be sent there, and went whole or
-- not; bytes came over the connection of this peer, or went; and the port noted what it was asked and answered
pub data Event : Type 0 where
  asked : (address : List ℕ) → Event
  came : (address bytes : List ℕ) → Event
  gave : (address bytes : List ℕ) (is_whole : Bool) → Event
  received : (peer : Peer) (bytes : List ℕ) → Event
  sent : (peer : Peer) (bytes : List ℕ) → Event
  noted : (note : Note) → Event

-- all that happened, in order, where it is told
abbrev pub NetTold : Type 0
NetTold = Option (List Event)

-- who tells what happened told it before too, and these happened since
abbrev pub Adds : (old new : NetTold) → List Event → Type 0
Adds old None more = Unit {0}
Adds None (Some after) more = ⊥
Adds (Some before) (Some after) more = after ≡ before ++ more

-- ---- what each call adds

-- A datagram came whole, and so many of its bytes from the front are in the buffer: all, where there is room. None is longer than IPv4
-- allows (RFC 768, RFC 791).
pub record CameIn (old new : NetTold) (buffer : List ℕ) (count : ℕ) (address : List ℕ) : Type 0 where
  pub bytes : List ℕ
  pub short : length bytes < 65536
  pub count_is : count ≡ min (length bytes) (length buffer)
  pub same : take count buffer ≡ take count bytes
  pub added : Adds old new (came address bytes ∷ [])

-- the same, of who tells
abbrev pub ComesFrom : (old new : NetTold) (buffer : List ℕ) (count : ℕ) (address : List ℕ) → Type 0
ComesFrom old None buffer count address = Unit {0}
ComesFrom old (Some after) buffer count address = CameIn old (Some after) buffer count address

-- a datagram of this length that was given went whole
abbrev pub went_whole : {E : Type 0} → Result ℕ E → ℕ → Bool
went_whole (Ok n) size = n == size
went_whole (Err e) size = false

-- some bytes came over the connection of this peer, or none
abbrev pub receptions : Peer → List ℕ → List Event
receptions peer [] = []
receptions peer (byte ∷ bytes) = received peer (byte ∷ bytes) ∷ []

-- so many bytes at the front of the buffer came
abbrev pub Reads : {E : Type 0} → (old new : NetTold) (peer : Peer) (buffer : List ℕ) → Result ℕ E → Type 0
Reads old new peer buffer (Ok n) = Adds old new (receptions peer (take n buffer))
Reads old new peer buffer (Err e) = Adds old new []

-- so many bytes from the front of these went
abbrev pub Writes : {E : Type 0} → (old new : NetTold) (peer : Peer) (bytes : List ℕ) → Result ℕ E → Type 0
Writes old new peer bytes (Ok n) = Adds old new (sent peer (take n bytes) ∷ [])
Writes old new peer bytes (Err e) = Adds old new []

-- ---- what several calls add

-- a datagram was given some times, and didn't go whole
pub record Tries (old new : NetTold) (address bytes : List ℕ) : Type 0 where
  pub times : ℕ
  pub added : Adds old new (replicate times (gave address bytes false))

-- a send of a datagram went as it says
abbrev pub is_sent : {E : Type 0} → Result Bool E → Bool
is_sent (Ok is_whole) = is_whole
is_sent (Err e) = false

-- the last time it went whole, where that is answered
abbrev pub last_try : {T E : Type 0} → Result T E → (address bytes : List ℕ) → List Event
last_try (Ok done) address bytes = gave address bytes true ∷ []
last_try (Err e) address bytes = []

-- a datagram was given, whole, and nothing else: at Ok it went whole the last time
pub record GivesWhole {T E : Type 0} (old new : NetTold) (address bytes : List ℕ) (result : Result T E) : Type 0 where
  pub before : NetTold
  pub tried : Tries old before address bytes
  pub last : Adds before new (last_try result address bytes)

-- something went over this peer's connection, and nothing else happened
pub record SendsOn (old new : NetTold) (peer : Peer) : Type 0 where
  pub pieces : List (List ℕ)
  pub added : Adds old new (map (sent peer) pieces)

-- some bytes from the front went over the connection of this peer, in order, and the others are left
pub record Moves (old new : NetTold) (peer : Peer) (before after : List ℕ) : Type 0 where
  pub pieces : List (List ℕ)
  pub left : before ≡ concat pieces ++ after
  pub added : Adds old new (map (sent peer) pieces)

-- ---- what a port hands on of it

-- the client's number for an address: its bytes, and two zeros before them
abbrev pub client_at : List ℕ → ℕ
client_at address = from_be_bytes w64 (0 ∷ (0 ∷ address))

abbrev pub got_of_peer : Peer → List ℕ → Got
got_of_peer (peers.Client client) bytes = stream client bytes
got_of_peer peers.Feed bytes = piece bytes

-- what came with an event
abbrev pub heard_by : Event → List Got
heard_by (asked address) = []
heard_by (came address bytes) = datagram (client_at address) bytes ∷ []
heard_by (gave address bytes is_whole) = []
heard_by (received peer bytes) = got_of_peer peer bytes ∷ []
heard_by (sent peer bytes) = []
heard_by (noted note) = []

-- what the port noted
abbrev pub notes_of_event : Event → List Note
notes_of_event (asked address) = []
notes_of_event (came address bytes) = []
notes_of_event (gave address bytes is_whole) = []
notes_of_event (received peer bytes) = []
notes_of_event (sent peer bytes) = []
notes_of_event (noted note) = note ∷ []

abbrev pub notes_in : NetTold → Option (List Note)
notes_in told = option_map (λ (events : List Event). flat_map notes_of_event events) told

-- this came, in order, and nothing else; and the port noted nothing
pub record Hears (old new : NetTold) (gots : List Got) : Type 0 where
  pub events : List Event
  pub added : Adds old new events
  pub heard : flat_map heard_by events ≡ gots
  pub quiet : flat_map notes_of_event events ≡ []

-- the bytes that a poll hands on, as what came
abbrev pub handed : Polled → List ℕ → List Got
handed (polls.Query client n) buffer = datagram client (take n buffer) ∷ []
handed (polls.Stream client n) buffer = stream client (take n buffer) ∷ []
handed (polls.StreamEnd client) buffer = []
handed (polls.Feed n) buffer = piece (take n buffer) ∷ []
handed polls.FeedEnd buffer = []
handed polls.Nothing buffer = []
handed polls.Failed buffer = []

-- what a read of the feed brought
abbrev pub fetched : {E : Type 0} → Result ℕ E → List ℕ → List Got
fetched (Ok zero) buffer = []
fetched (Ok (suc n)) buffer = piece (take (suc n) buffer) ∷ []
fetched (Err e) buffer = []

abbrev pub Fetches : {E : Type 0} → (old new : NetTold) (buffer : List ℕ) → Result ℕ E → Type 0
Fetches old new buffer result = Hears old new (fetched result buffer)

-- a poll hands on all that came in it, once
abbrev pub HandsOn : (old new : NetTold) (buffer : List ℕ) → Polled → Type 0
HandsOn old new buffer polled = Hears old new (handed polled buffer)

-- the same, or nothing came in it
abbrev pub handed_as : {E : Type 0} → Result Polled E → List ℕ → List Got
handed_as (Ok polled) buffer = handed polled buffer
handed_as (Err e) buffer = []

abbrev pub HandsOnOk : {E : Type 0} → (old new : NetTold) (buffer : List ℕ) → Result Polled E → Type 0
HandsOnOk old new buffer result = Hears old new (handed_as result buffer)
