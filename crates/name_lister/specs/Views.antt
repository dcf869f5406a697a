-- What the types of the code are in the machine.
use Rattle.std.specs.Prelude.{⊤}
use Rattle.bridge_core.specs.Views.{event_of, IsReadable}
use Rattle.name_lister.specs.Event as machine
use Rattle.name_lister.specs.declared.event.ListEvent.{ListEvent}
use Rattle.name_lister.specs.declared.event.ListEvent.TheVariants.{Plain, Open, Page, Close, Begin, Slice}

abbrev pub list_event_of : ListEvent → machine.ListEvent
list_event_of (Plain event) = machine.Plain (event_of event)
list_event_of Open = machine.Open
list_event_of (Page number) = machine.Page number
list_event_of (Close number) = machine.Close number
list_event_of Begin = machine.Begin
list_event_of (Slice asked) = machine.Slice asked

-- a block in it has at most the greatest length
abbrev pub IsListReadable : ListEvent → Type 0
IsListReadable (Plain event) = IsReadable event
IsListReadable Open = ⊤
IsListReadable (Page number) = ⊤
IsListReadable (Close number) = ⊤
IsListReadable Begin = ⊤
IsListReadable (Slice asked) = ⊤
