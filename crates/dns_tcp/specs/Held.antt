-- The clients that are held, with their buffers.
use Rattle.std.specs.Prelude.{ℕ, Bool, ◌==◌, List, map}
use Rattle.dns_tcp.specs.Streams.{Stream}
use Rattle.dns_tcp.specs.declared.streams.Held.{Held}

abbrev pub stream_of : Held → Stream
stream_of held = record { client = held.client; left = held.buffer.left }

abbrev pub streams_of : List Held → List Stream
streams_of held = map stream_of held

abbrev pub is_of : ℕ → Held → Bool
is_of client held = held.client == client
