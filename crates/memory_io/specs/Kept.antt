-- What a port in memory keeps, without where its bytes lie in memory.
use Rattle.std.specs.Prelude.{◌≡◌, ℕ, ◌≤◌, if◌then◌else◌, Bool, true, false, List, [], ◌∷◌, length, take, Option, Some, None}
use Rattle.byte_io.specs.Port.{Got, datagram, stream, stream_end, piece, feed_end, nothing, fault, Note, polled, replied, stream_replied, stream_closed, fed_back, closed}
use Rattle.byte_io.specs.declared.port.TheConstants.{POLL_ROOM}
use Rattle.byte_io.specs.declared.port.Polled.{Polled}
use Rattle.byte_io.specs.declared.port.Polled.TheVariants as polls
use Rattle.byte_io.specs.declared.sent.Sent.{Sent}
use Rattle.byte_io.specs.declared.sent.Sent.TheVariants as sends
use Rattle.memory_io.specs.declared.kept.KeptPoll.{KeptPoll}
use Rattle.memory_io.specs.declared.kept.KeptPoll.TheVariants as kept
use Rattle.memory_io.specs.declared.kept.Recipient.{Recipient}
use Rattle.memory_io.specs.declared.kept.Recipient.TheVariants.{Client, Stream, Feed}
use Rattle.memory_io.specs.declared.kept.KeptNote.{KeptNote}
use Rattle.memory_io.specs.declared.kept.KeptNote.TheVariants as notes

-- a poll that fits these bytes: its length, where it has one, is theirs, and they fit in the buffer of a poll. No failed poll fits
abbrev pub Fits : Polled → List ℕ → Type 0
Fits (polls.Query client n) bytes = (n ≡ length bytes) × (n ≤ POLL_ROOM)
Fits (polls.Stream client n) bytes = (n ≡ length bytes) × (n ≤ POLL_ROOM)
Fits (polls.StreamEnd client) bytes = Unit {0}
Fits (polls.Feed n) bytes = (n ≡ length bytes) × (n ≤ POLL_ROOM)
Fits polls.FeedEnd bytes = Unit {0}
Fits polls.Nothing bytes = Unit {0}
Fits polls.Failed bytes = ⊥

-- what a poll brought, where these bytes stand at the front of the buffer
abbrev pub brought : Polled → List ℕ → Got
brought (polls.Query client n) bytes = datagram client (take n bytes)
brought (polls.Stream client n) bytes = stream client (take n bytes)
brought (polls.StreamEnd client) bytes = stream_end client
brought (polls.Feed n) bytes = piece (take n bytes)
brought polls.FeedEnd bytes = feed_end
brought polls.Nothing bytes = nothing
brought polls.Failed bytes = fault

abbrev pub seen_poll : KeptPoll → Got
seen_poll (kept.Query client bytes) = datagram client bytes
seen_poll (kept.Stream client bytes) = stream client bytes
seen_poll (kept.StreamEnd client) = stream_end client
seen_poll (kept.Feed bytes) = piece bytes
seen_poll kept.FeedEnd = feed_end
seen_poll kept.Nothing = nothing

abbrev pub seen_send : Recipient → List ℕ → Bool → Note
seen_send (Client client) bytes is_sent = replied client bytes is_sent
seen_send (Stream client) bytes is_sent = stream_replied client bytes is_sent
seen_send Feed bytes is_sent = fed_back bytes is_sent

abbrev pub seen_note : KeptNote → Note
seen_note (notes.Polled poll) = polled (seen_poll poll)
seen_note notes.FailedPoll = polled fault
seen_note (notes.Send to bytes is_sent) = seen_send to bytes.items is_sent
seen_note (notes.StreamClosed client) = stream_closed client
seen_note notes.Closed = closed

abbrev pub sent_note : Sent → Note
sent_note (sends.Reply client bytes) = replied client bytes.now true
sent_note (sends.Stream client bytes) = stream_replied client bytes.now true
sent_note (sends.StreamClosed client) = stream_closed client
sent_note (sends.Feed bytes) = fed_back bytes.now true
sent_note sends.Closed = closed

-- what a poll answered with this buffer lent is what it brought
abbrev pub Shows : Polled → List ℕ → Got → Type 0
Shows (polls.Query client n) buffer got = (n ≤ length buffer) × (got ≡ datagram client (take n buffer))
Shows (polls.Stream client n) buffer got = (n ≤ length buffer) × (got ≡ stream client (take n buffer))
Shows (polls.StreamEnd client) buffer got = got ≡ stream_end client
Shows (polls.Feed n) buffer got = (n ≤ length buffer) × (got ≡ piece (take n buffer))
Shows polls.FeedEnd buffer got = got ≡ feed_end
Shows polls.Nothing buffer got = got ≡ nothing
Shows polls.Failed buffer got = got ≡ fault

-- a send that didn't fail, or a closing
abbrev pub is_outgoing : Note → Bool
is_outgoing (polled got) = false
is_outgoing (replied client bytes is_sent) = is_sent
is_outgoing (stream_replied client bytes is_sent) = is_sent
is_outgoing (stream_closed client) = true
is_outgoing (fed_back bytes is_sent) = is_sent
is_outgoing closed = true

-- those of the notes that are such
abbrev pub outgoing : List Note → List Note
outgoing [] = []
outgoing (note ∷ notes) = if is_outgoing note then note ∷ outgoing notes else outgoing notes

-- the note, where it is such
abbrev pub if_outgoing : Note → Option Note
if_outgoing note = if is_outgoing note then Some note else None
