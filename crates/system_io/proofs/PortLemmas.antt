-- What a port over a net notes.
use Rattle.std.proofs.Common.{◌≡◌, ℕ, Bool, true, List, [], ◌∷◌, ◌++◌, length, Option, Some, None, Result, Ok, Err, IfOk, is_ok, is_err, refl, sym, ap, subst, ◌∙◌, true≢false}
use Rattle.std.specs.List.{flat_map}
use Rattle.std.proofs.lemmas.Grind.{flat_map-append}
use Rattle.std.proofs.lemmas.Option.{none-some, same_Some}
use Rattle.fault_counts.specs.Counts.{counted}
use Rattle.fault_counts.specs.Faults.{Faults, HasCause, NeverFell, Rose}
use Rattle.fault_counts.proofs.FaultLemmas.{NeverFell_refl}
use Rattle.byte_io.specs.Port.{Got, Note, PortSeen, Polls}
use Rattle.byte_io.specs.Port as ports
use Rattle.byte_io.specs.declared.errors.Failed.{Failed}
use Rattle.byte_io.specs.declared.port.Polled.{Polled}
use Rattle.byte_io.specs.declared.port.Polled.TheVariants as polls
use Rattle.system_io.specs.declared.link.Peer.{Peer}
use Rattle.system_io.specs.Arrival.{IsWithin}
use Rattle.system_io.specs.Loopback.{AsksFirst}
use Rattle.system_io.specs.Net.{Event, NetTold, Adds, noted, notes_of_event, notes_in, GivesWhole, SendsOn, Hears, handed, HandsOnOk}
use Rattle.system_io.specs.Notes.{note_of_poll}
use Rattle.system_io.specs.SocketPort.{IsBrought, OfBound}
use Rattle.system_io.specs.declared.socket_port.Bound.{Bound}
use Rattle.system_io.proofs.NetLemmas.{Adds_append, Hears_nothing, Hears_sends, Hears_gives, Hears_asks}

-- ---- the port's notes

told_notes : (a b : NetTold) (events : List Event) → Adds a b events → ports.Adds (notes_in a) (notes_in b) (flat_map notes_of_event events)
told_notes a None events p after is = absurd (none-some after is)
told_notes None (Some b) events p after is = absurd p
told_notes (Some a) (Some b) events p after is = record {
  before = flat_map notes_of_event a;
  told = refl;
  after_is = sym (same_Some (flat_map notes_of_event b) after is) ∙ (ap (λ (es : List Event). flat_map notes_of_event es) p ∙ flat_map-append notes_of_event a events);
}

-- one note behind what the port didn't note
pub Noted : (a b c : NetTold) (gots : List Got) (note : Note) → Hears a b gots → Adds b c (noted note ∷ []) → ports.Adds (notes_in a) (notes_in c) (note ∷ [])
Noted a b c gots note p q =
    subst (λ (ns : List Note). ports.Adds (notes_in a) (notes_in c) ns) (flat_map-append notes_of_event p.events (noted note ∷ []) ∙ ap (λ (ns : List Note). ns ++ note ∷ []) p.quiet)
    (told_notes a c (p.events ++ noted note ∷ []) (Adds_append a b c p.events (noted note ∷ []) p.added q))

-- no note
pub Unnoted : (a b : NetTold) (gots : List Got) → Hears a b gots → ports.Adds (notes_in a) (notes_in b) []
Unnoted a b gots p = subst (λ (ns : List Note). ports.Adds (notes_in a) (notes_in b) ns) p.quiet (told_notes a b p.events p.added)

-- the notes of each call

pub Noted_reply : {T E : Type 0} (a b c : NetTold) (address bytes : List ℕ) (result : Result T E) (note : Note) → GivesWhole a b address bytes result → Adds b c (noted note ∷ []) → ports.Adds (notes_in a) (notes_in c) (note ∷ [])
Noted_reply a b c address bytes result note p q = Noted a b c [] note (Hears_gives a b address bytes result p) q

pub Noted_sends : (a b c : NetTold) (peer : Peer) (note : Note) → SendsOn a b peer → Adds b c (noted note ∷ []) → ports.Adds (notes_in a) (notes_in c) (note ∷ [])
Noted_sends a b c peer note p q = Noted a b c [] note (Hears_sends a b peer p) q

pub Noted_alone : (a b : NetTold) (note : Note) → Adds a b (noted note ∷ []) → ports.Adds (notes_in a) (notes_in b) (note ∷ [])
Noted_alone a b note q = Noted a a b [] note (Hears_nothing a) q

pub Unnoted_asks : (a b : NetTold) (addresses : List (List ℕ)) → AsksFirst a b addresses → ports.Adds (notes_in a) (notes_in b) []
Unnoted_asks a b addresses p = Unnoted a b [] (Hears_asks a b addresses p)

-- ---- polls

brought : (old new : Faults) (room : ℕ) (polled : Polled) → IsWithin polled room → NeverFell old new → IsBrought old new room polled
brought old new room (polls.Query client n) low later = (later, low)
brought old new room (polls.Stream client n) low later = (later, low)
brought old new room (polls.StreamEnd client) low later = later
brought old new room (polls.Feed n) low later = (later, low)
brought old new room polls.FeedEnd low later = later
brought old new room polls.Nothing low later = later
brought old new room polls.Failed low later = absurd low

pub Brought_done : {E : Type 0} (a b room : ℕ) (answer : Result Polled E) (polled : Polled) → b ≡ a → IfOk answer (λ p. IsWithin p room) → answer ≡ Ok polled → IsBrought (counted a) (counted b) room polled
Brought_done {E} a b room answer polled same within is =
    subst (λ (n : ℕ). IsBrought (counted a) (counted n) room polled) (sym same)
    (brought (counted a) (counted a) room polled (subst (λ (r : Result Polled E). IfOk r (λ p. IsWithin p room)) is within) (NeverFell_refl (counted a)))

pub Handed_done : {E : Type 0} (a b : NetTold) (buffer : List ℕ) (answer : Result Polled E) (polled : Polled) → HandsOnOk a b buffer answer → answer ≡ Ok polled → Hears a b (handed polled buffer)
Handed_done {E} a b buffer answer polled hands is = subst (λ (r : Result Polled E). HandsOnOk a b buffer r) is hands

pub Handed_fault : {E : Type 0} (a b : NetTold) (buffer : List ℕ) (answer : Result Polled E) (e : E) → HandsOnOk a b buffer answer → answer ≡ Err e → Hears a b []
Handed_fault {E} a b buffer answer e hands is = subst (λ (r : Result Polled E). HandsOnOk a b buffer r) is hands

pub Polls_noted : (old new : PortSeen) (buffer : List ℕ) (polled : Polled) → new.bound ≡ old.bound → IsBrought old.faults new.faults (length buffer) polled → ports.Adds old.notes new.notes (note_of_poll polled buffer ∷ [])
    → Polls old new buffer polled
Polls_noted old new buffer (polls.Query client n) bound brought added = record { within = brought.1; noted = record { bound = bound; added = added; later = brought.0 } }
Polls_noted old new buffer (polls.Stream client n) bound brought added = record { within = brought.1; noted = record { bound = bound; added = added; later = brought.0 } }
Polls_noted old new buffer (polls.StreamEnd client) bound brought added = record { bound = bound; added = added; later = brought }
Polls_noted old new buffer (polls.Feed n) bound brought added = record { within = brought.1; noted = record { bound = bound; added = added; later = brought.0 } }
Polls_noted old new buffer polls.FeedEnd bound brought added = record { bound = bound; added = added; later = brought }
Polls_noted old new buffer polls.Nothing bound brought added = record { bound = bound; added = added; later = brought }
Polls_noted old new buffer polls.Failed bound brought added = record { noted = record { bound = bound; added = added; later = brought.0 }; rose = brought.1 }

-- ---- sends

pub Sends_noted : (old new : PortSeen) (note : Bool → Note) (result : Result (Unit {0}) Failed) (is_sent : Bool) → is_sent ≡ is_ok result → new.bound ≡ old.bound → HasCause old.faults new.faults result
    → ports.Adds old.notes new.notes (note is_sent ∷ []) → ports.Sends old new note result
Sends_noted old new note (Ok done) is_sent is bound cause added =
    record { bound = bound; added = subst (λ (b : Bool). ports.Adds old.notes new.notes (note b ∷ [])) is added; later = cause.later }
Sends_noted old new note (Err e) is_sent is bound cause added =
    record { noted = record { bound = bound; added = subst (λ (b : Bool). ports.Adds old.notes new.notes (note b ∷ [])) is added; later = cause.later }; rose = cause.failed }

pub Binds_failed : (old new : PortSeen) (udp feed : ℕ) (result : Result (Unit {0}) Failed) → is_err result ≡ true → new.bound ≡ old.bound → ports.Adds old.notes new.notes [] → NeverFell old.faults new.faults
    → Rose old.faults new.faults → ports.Binds old new udp feed result
Binds_failed old new udp feed (Ok done) failed bound added later rose = absurd (true≢false (sym failed))
Binds_failed old new udp feed (Err e) failed bound added later rose = record { noted = record { bound = bound; added = added; later = later }; rose = rose }

-- both states of the sockets
pub OfBound_some : (Holds : Bound → Bound → Type 0) (old new : Option Bound) (x y : Bound) → old ≡ Some x → new ≡ Some y → Holds x y → OfBound Holds old new
OfBound_some Holds old new x y old_is new_is holds = subst (λ (o : Option Bound). OfBound Holds o new) (sym old_is) (subst (λ (n : Option Bound). OfBound Holds (Some x) n) (sym new_is) holds)
