-- What contracts see of a port, and what each of its calls does.
use Rattle.std.specs.Prelude.{◌≡◌, ℕ, ◌≤◌, Bool, true, false, List, [], ◌∷◌, ◌++◌, length, take, Option, Some, Result, Ok, Err}
use Rattle.fault_counts.specs.Faults.{Faults, NeverFell, Rose}
use Rattle.byte_io.specs.declared.errors.Failed.{Failed}
use Rattle.byte_io.specs.declared.port.Polled.{Polled}
use Rattle.byte_io.specs.declared.port.Polled.TheVariants as polls

-- what a poll brought: a datagram of this client, a piece of this client's stream, the stream's end, a piece of the feed, the end of the
-- feed's connection, nothing, or a fault
pub data Got : Type 0 where
  datagram : (client : ℕ) (bytes : List ℕ) → Got
  stream : (client : ℕ) (bytes : List ℕ) → Got
  stream_end : (client : ℕ) → Got
  piece : (bytes : List ℕ) → Got
  feed_end : Got
  nothing : Got
  fault : Got

-- what a port was asked, and what came of it: a poll; a reply to this client, and whether it was sent; the same over this client's stream;
-- this client's stream closed; a reply to the feed, and whether it was sent; and the feed's connection closed
pub data Note : Type 0 where
  polled : Got → Note
  replied : (client : ℕ) (bytes : List ℕ) (is_sent : Bool) → Note
  stream_replied : (client : ℕ) (bytes : List ℕ) (is_sent : Bool) → Note
  stream_closed : (client : ℕ) → Note
  fed_back : (bytes : List ℕ) (is_sent : Bool) → Note
  closed : Note

-- the numbers of UDP and of the feed that it is bound to, or none; all that it noted, where it tells it; its faults
pub record PortSeen : Type 0 where
  pub bound : Option (ℕ × ℕ)
  pub notes : Option (List Note)
  pub faults : Faults

-- it is bound to two numbers
pub record IsBound (port : PortSeen) : Type 0 where
  pub numbers : ℕ × ℕ
  pub are : port.bound ≡ Some numbers

-- what was noted before, where these were noted since
pub record HadNoted (old : Option (List Note)) (more after : List Note) : Type 0 where
  pub before : List Note
  pub told : old ≡ Some before
  pub after_is : after ≡ before ++ more

-- a port that tells what it noted told it before too, and these were noted since
abbrev pub Adds : (old new : Option (List Note)) → List Note → Type 0
Adds old new more = (after : List Note) → new ≡ Some after → HadNoted old more after

-- the port stays bound as it was, and these were noted
pub record Notes (old new : PortSeen) (more : List Note) : Type 0 where
  pub bound : new.bound ≡ old.bound
  pub added : Adds old.notes new.notes more
  pub later : NeverFell old.faults new.faults

-- the same, and there was a fault
pub record NotesFault (old new : PortSeen) (more : List Note) : Type 0 where
  pub noted : Notes old new more
  pub rose : Rose old.faults new.faults

-- it is bound to the two numbers
pub record BindsTo (old new : PortSeen) (udp feed : ℕ) : Type 0 where
  pub bound : new.bound ≡ Some (udp, feed)
  pub added : Adds old.notes new.notes []
  pub later : NeverFell old.faults new.faults

abbrev pub Binds : (old new : PortSeen) (udp feed : ℕ) → Result (Unit {0}) Failed → Type 0
Binds old new udp feed (Ok done) = BindsTo old new udp feed
Binds old new udp feed (Err e) = NotesFault old new []

-- so many bytes of the buffer are what the poll brought
pub record Brings (old new : PortSeen) (buffer : List ℕ) (n : ℕ) (got : List ℕ → Got) : Type 0 where
  pub within : n ≤ length buffer
  pub noted : Notes old new (polled (got (take n buffer)) ∷ [])

abbrev pub Polls : (old new : PortSeen) (buffer : List ℕ) → Polled → Type 0
Polls old new buffer (polls.Query client n) = Brings old new buffer n (datagram client)
Polls old new buffer (polls.Stream client n) = Brings old new buffer n (stream client)
Polls old new buffer (polls.StreamEnd client) = Notes old new (polled (stream_end client) ∷ [])
Polls old new buffer (polls.Feed n) = Brings old new buffer n piece
Polls old new buffer polls.FeedEnd = Notes old new (polled feed_end ∷ [])
Polls old new buffer polls.Nothing = Notes old new (polled nothing ∷ [])
Polls old new buffer polls.Failed = NotesFault old new (polled fault ∷ [])

-- it was sent, or there was a fault
abbrev pub Sends : (old new : PortSeen) (note : Bool → Note) → Result (Unit {0}) Failed → Type 0
Sends old new note (Ok done) = Notes old new (note true ∷ [])
Sends old new note (Err e) = NotesFault old new (note false ∷ [])
