-- Queries: what a message of DNS is answered with. They leave the state.
use Rattle.std.specs.Prelude.{◌≡◌, ℕ, List, [], Option, Some, None}
use Rattle.chain_names.specs.Coins.{history_of}
use Rattle.chain_names.specs.Index.{served_value}
use Rattle.chain_names.specs.Log.{log_of}
use Rattle.domain_text.specs.Host.{IsAbsoluteHost}
use Rattle.import_expand.specs.Sources.{Live}
use Rattle.bit_resolver.specs.declared.zone.Zone.{Zone}
use Rattle.bit_resolver.specs.Replies.{MayReply}
use Rattle.dns_message.specs.declared.transport.Transport.{Transport}
use Rattle.dns_message.specs.declared.transport.Transport.TheVariants.{Udp, Tcp}
use Rattle.feed_frames.specs.Replies.{Reply}
use Rattle.chain_commands.specs.Event.{Carrier, Datagram, Stream}
use Rattle.chain_commands.specs.Chain.{Chain, height_of}
use Rattle.chain_commands.specs.RunState.{RunState, chain_of}

-- the values that a chain serves at its tip: of each name that of its entry in the chain's log, while it isn't expired
abbrev pub served_on : Chain → Live
served_on chain = served_value chain.base.profile (history_of (log_of chain.start chain.base.height chain.blocks)) (height_of chain)

-- the zone of a host, whose serial is the height of the tip
abbrev pub zone_on : List ℕ → Chain → Zone
zone_on host chain = record { host = host; serial = height_of chain }

-- what carries a message, as the standard of DNS calls it (RFC 1035, 4.2): the room for its reply goes by that
abbrev pub transport_of : Carrier → Transport
transport_of Datagram = Udp
transport_of Stream = Tcp

-- code 8 where the message gets no reply, and else the reply
abbrev pub query_reply : Option (List ℕ) → Reply
query_reply None = record { code = 8; payload = [] }
query_reply (Some text) = record { code = 0; payload = text }

-- The message, which came by this transport, gets its reply from the names that the chain serves; or SERVFAIL for want of memory, where
-- it asks a question.
pub record Queries (transport : Transport) (old : RunState) (message : List ℕ) (reply : Reply) (new : RunState) : Type 0 where
  pub unchanged : new ≡ old
  pub host : List ℕ
  pub is_host : IsAbsoluteHost old.host host
  pub answer : Option (List ℕ)
  pub answers : MayReply (served_on (chain_of old)) (zone_on host (chain_of old)) transport message answer
  pub told : reply ≡ query_reply answer
