-- What a port notes with its net.
use Rattle.std.specs.Prelude.{ℕ, ◌≤◌, Bool, List, [], take, length, Result, Ok, Err}
use Rattle.std.specs.declared.net.socket_addr.SocketAddrV4.{SocketAddrV4}
use Rattle.byte_io.specs.Port.{Got, datagram, stream, stream_end, piece, feed_end, nothing, fault, Note, polled, replied, stream_replied, stream_closed, fed_back, closed}
use Rattle.byte_io.specs.declared.port.Polled.{Polled}
use Rattle.byte_io.specs.declared.port.Polled.TheVariants as polls
use Rattle.byte_io.specs.declared.sent.Sent.{Sent}
use Rattle.byte_io.specs.declared.sent.Sent.TheVariants as sends
use Rattle.system_io.specs.Client.{address_bytes}
use Rattle.system_io.specs.Net.{NetTold, Adds, ComesFrom}

-- what a poll brought, with its bytes
abbrev pub got_of_poll : Polled → List ℕ → Got
got_of_poll (polls.Query client n) buffer = datagram client (take n buffer)
got_of_poll (polls.Stream client n) buffer = stream client (take n buffer)
got_of_poll (polls.StreamEnd client) buffer = stream_end client
got_of_poll (polls.Feed n) buffer = piece (take n buffer)
got_of_poll polls.FeedEnd buffer = feed_end
got_of_poll polls.Nothing buffer = nothing
got_of_poll polls.Failed buffer = fault

abbrev pub note_of_poll : Polled → List ℕ → Note
note_of_poll brought buffer = polled (got_of_poll brought buffer)

-- what was asked, and whether it was sent
abbrev pub note_of_send : Sent → Bool → Note
note_of_send (sends.Reply client bytes) is_sent = replied client bytes.now is_sent
note_of_send (sends.Stream client bytes) is_sent = stream_replied client bytes.now is_sent
note_of_send (sends.StreamClosed client) is_sent = stream_closed client
note_of_send (sends.Feed bytes) is_sent = fed_back bytes.now is_sent
note_of_send sends.Closed is_sent = closed

-- a datagram came, or none
abbrev pub ComesIn : {E : Type 0} → (old new : NetTold) (buffer : List ℕ) → Result (ℕ × SocketAddrV4) E → Type 0
ComesIn old new buffer (Ok (count, from)) = (count ≤ length buffer) × ComesFrom old new buffer count (address_bytes from)
ComesIn old new buffer (Err e) = Adds old new []
