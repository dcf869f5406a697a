-- What a wait asks for connections, each in its place; what it finds of them; and who gives way to a newcomer.
use Rattle.std.specs.Prelude.{◌≡◌, ◌≢◌, ◌⊎◌, ℕ, ◌+◌, ◌<◌, ◌≤◌, List, length, get_or, remove, Option, MatchOption, pos}
use Rattle.std.specs.Net.Tcp.{stream_raw_fd}
use Rattle.libc.specs.declared.types.pollfd.{pollfd}
use Rattle.libc.specs.declared.net.TheConstants.{POLLIN, POLLOUT}
use Rattle.dns_tcp.specs.declared.streams.TheConstants.{CLIENTS}
use Rattle.byte_io.specs.declared.port.Polled.{Polled}
use Rattle.byte_io.specs.declared.port.Polled.TheVariants as polls
use Rattle.system_io.specs.declared.stream.Stream.{Stream}
use Rattle.system_io.specs.declared.stream.State.TheVariants.{AtRest, Over}

-- ---- each connection in its place

-- the place asks for room for what the connection is still to take, and for bytes of it where that is nothing
pub record IsAskedOf (stream : Stream) (place : pollfd) : Type 0 where
  pub its : place.fd ≡ stream_raw_fd stream.link.socket
  pub reads : length stream.unsent ≡ 0 → place.events ≡ POLLIN
  pub sends : 0 < length stream.unsent → place.events ≡ POLLOUT

-- so do the first n places, each for the connection that stands there
abbrev pub AsksFirst : List Stream → List pollfd → ℕ → Type 0
AsksFirst streams places n = (k : ℕ) (stream : Stream) (place : pollfd) → k < n → k < length places → IsAskedOf (get_or streams k stream) (get_or places k place)

abbrev pub AsksEach : List Stream → List pollfd → Type 0
AsksEach streams places = AsksFirst streams places (length streams)

-- What was found in its place: something, and it isn't at rest any more; or nothing for ten seconds, and it is over. What is over stays
-- over.
pub record Looked (old new : Stream) (place : pollfd) (now : ℕ) : Type 0 where
  pub client : new.client ≡ old.client
  pub came : place.revents ≢ pos 0 → new.state ≢ AtRest
  pub silent : place.revents ≡ pos 0 → old.heard + 10000000 ≤ now → new.state ≡ Over
  pub over : old.state ≡ Over → new.state ≡ Over

-- the first n were looked at, each in its place, and the others are as they were
pub record LooksAtFirst (old new : List Stream) (places : List pollfd) (now n : ℕ) : Type 0 where
  pub size : length new ≡ length old
  pub looked : (k : ℕ) (stream : Stream) (place : pollfd) → k < n → k < length old → k < length places → Looked (get_or old k stream) (get_or new k stream) (get_or places k place) now
  pub others : (k : ℕ) (stream : Stream) → n ≤ k → get_or new k stream ≡ get_or old k stream

abbrev pub LooksAtEach : (old new : List Stream) → List pollfd → ℕ → Type 0
LooksAtEach old new places now = LooksAtFirst old new places now (length places)

-- ---- who gives way

-- nothing of it waits: what came was read and answered, but for a part of a message or nothing, and all replies were taken
pub record IsIdle (stream : Stream) : Type 0 where
  pub rests : stream.state ≡ AtRest
  pub taken : length stream.unsent ≡ 0

-- none of the first n is idle
abbrev pub NoneIdle : List Stream → ℕ → Type 0
NoneIdle streams n = (k : ℕ) (d : Stream) → k < n → IsIdle (get_or streams k d) → ⊥

-- of the first n this one is idle, and none of them that is was silent for longer
pub record IsSilentLongest (streams : List Stream) (n at : ℕ) : Type 0 where
  pub within : at < n
  pub idle : (d : Stream) → IsIdle (get_or streams at d)
  pub longest : (k : ℕ) (d : Stream) → k < n → IsIdle (get_or streams k d) → (get_or streams at d).heard ≤ (get_or streams k d).heard

abbrev pub FindsIdle : List Stream → ℕ → Option ℕ → Type 0
FindsIdle streams n found = MatchOption found (NoneIdle streams n) (IsSilentLongest streams n)

-- all places are held, and nobody gives way
abbrev pub AreAllBusy : List Stream → Type 0
AreAllBusy streams = (CLIENTS ≤ length streams) × NoneIdle streams (length streams)

-- the client's connection, which was silent for longest of those that are idle, is taken out, and no other
pub record GivesWay (old new : List Stream) (client : ℕ) : Type 0 where
  pub at : ℕ
  pub longest : IsSilentLongest old (length old) at
  pub its : (d : Stream) → (get_or old at d).client ≡ client
  pub left : new ≡ remove old at

-- where all places are held a poll that a newcomer waits for brings the end of the one that gives way; or nobody does
abbrev pub MakesWay : (old new : List Stream) → Polled → Type 0
MakesWay old new (polls.StreamEnd client) = GivesWay old new client
MakesWay old new polled = (polled ≡ polls.Nothing) × ((length old < CLIENTS) ⊎ (AreAllBusy old × (new ≡ old)))
