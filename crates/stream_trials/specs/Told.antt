-- What a net in memory keeps of what happened, without where its bytes lie in memory.
use Rattle.std.specs.Prelude.{List, ℕ, map, true, Some, None, if◌then◌else◌}
use Rattle.byte_io.specs.Port.{replied, stream_replied, stream_closed, fed_back, closed}
use Rattle.system_io.specs.Client.{address_bytes}
use Rattle.system_io.specs.Net.{Event, asked, came, gave, received, sent, noted, NetTold}
use Rattle.system_io.specs.Notes.{note_of_poll}
use Rattle.stream_trials.specs.declared.told.What.{What}
use Rattle.stream_trials.specs.declared.told.What.TheVariants as what
use Rattle.stream_trials.specs.declared.told.KeptEvent.{KeptEvent}
use Rattle.stream_trials.specs.declared.told.Told.{Told}

-- this happened, with these bytes
abbrev pub happened : What → List ℕ → Event
happened (what.Asked at) bytes = asked (address_bytes at)
happened (what.Came from) bytes = came (address_bytes from) bytes
happened (what.Gave to) bytes = gave (address_bytes to) bytes true
happened (what.Received peer) bytes = received peer bytes
happened (what.Sent peer) bytes = sent peer bytes
happened (what.Polled polled) bytes = noted (note_of_poll polled bytes)
happened (what.Replied client is_sent) bytes = noted (replied client bytes is_sent)
happened (what.StreamReplied client is_sent) bytes = noted (stream_replied client bytes is_sent)
happened (what.StreamClosed client) bytes = noted (stream_closed client)
happened (what.FedBack is_sent) bytes = noted (fed_back bytes is_sent)
happened what.Closed bytes = noted closed

abbrev pub kept_event : KeptEvent → Event
kept_event kept = happened kept.what kept.bytes.items

-- it tells what happened as long as memory was found for all of it
abbrev pub told_of : Told → NetTold
told_of told = if told.is_whole then Some (map kept_event told.events.items) else None
