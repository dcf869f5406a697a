-- What the types of the code are in the machine.
use Rattle.std.specs.Prelude.{⊤}
use Rattle.chain_commands.specs.Event as machine
use Rattle.dns_message.specs.declared.transport.Transport.{Transport}
use Rattle.dns_message.specs.declared.transport.Transport.TheVariants.{Udp, Tcp}
use Rattle.index_commands.specs.Views.{command_of, IsWithinLimits}
use Rattle.bridge_core.specs.declared.answering.Request.{Request}
use Rattle.bridge_core.specs.declared.answering.Request.TheVariants as requests
use Rattle.bridge_core.specs.declared.event.Event.{Event}
use Rattle.bridge_core.specs.declared.event.Event.TheVariants.{Do, Ask, Save}

-- a datagram over UDP, a stream over TCP
abbrev pub carrier_of : Transport → machine.Carrier
carrier_of Udp = machine.Datagram
carrier_of Tcp = machine.Stream

abbrev pub event_of : Event → machine.Event
event_of (Do command_is) = machine.Do (command_of command_is)
event_of (Ask transport message) = machine.Ask (carrier_of transport) message.now
event_of Save = machine.Save

abbrev pub request_of : Request → machine.Event
request_of (requests.Command command_is) = machine.Do (command_of command_is)
request_of requests.Save = machine.Save

-- a message may have any
abbrev pub IsReadable : Event → Type 0
IsReadable (Do command_is) = IsWithinLimits command_is
IsReadable (Ask transport message) = ⊤
IsReadable Save = ⊤

abbrev pub IsRequestWithinLimits : Request → Type 0
IsRequestWithinLimits (requests.Command command_is) = IsWithinLimits command_is
IsRequestWithinLimits requests.Save = ⊤
