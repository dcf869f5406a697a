use Rattle.std.proofs.Common.{◌≡◌, ℕ, ◌≤◌, List, [], ◌∷◌, length, refl, sym, ap, arith, inl, inr, ◌∙◌}
use Rattle.feed_frames.specs.Frames.{Frame, IsFramed}
use Rattle.chain_commands.specs.Event.{Carrier, Datagram, Stream, Command, Event, Connect, Disconnect, Do, Ask, Save, event_frame, query_kind, last_kind}
use Rattle.chain_commands.proofs.laws.one_event.Goals as goal

empty_of : (payload : List ℕ) → length payload ≤ 0 → [] ≡ payload
empty_of [] short = refl
empty_of (byte ∷ payload) short = absurd (omega (arith, short))

framed_save : (frame : Frame) → frame.kind ≡ 4 → [] ≡ frame.payload → event_frame Save ≡ frame
framed_save frame kind payload = λ i. record { kind = sym kind i; payload = payload i }

some_event : (frame : Frame) → IsFramed last_kind frame → (event : Event) × (event_frame event ≡ frame)
some_event frame (low, inl h) = (Do (Connect frame.payload), rw h.of_kind refl)
some_event frame (low, inr (inl h)) = (Do (Disconnect frame.payload), rw h.of_kind refl)
some_event frame (low, inr (inr (inl h))) = (Ask Datagram frame.payload, rw h.of_kind refl)
some_event frame (low, inr (inr (inr (inl h)))) = (Save, framed_save frame h.of_kind (empty_of frame.payload h.no_longer))
some_event frame (low, inr (inr (inr (inr (inl h))))) = absurd (omega (arith, low, h.of_kind))
some_event frame (low, inr (inr (inr (inr (inr (inl h)))))) = absurd (omega (arith, low, h.of_kind))
some_event frame (low, inr (inr (inr (inr (inr (inr (inl h))))))) = absurd (omega (arith, low, h.of_kind))
some_event frame (low, inr (inr (inr (inr (inr (inr (inr (inl h)))))))) = absurd (omega (arith, low, h.of_kind))
some_event frame (low, inr (inr (inr (inr (inr (inr (inr (inr (inl h))))))))) = absurd (omega (arith, low, h.of_kind))
some_event frame (low, inr (inr (inr (inr (inr (inr (inr (inr (inr h))))))))) = absurd h

payload_of : (a b : Frame) → a ≡ b → a.payload ≡ b.payload
payload_of a b e = ap (λ (f : Frame). f.payload) e

kind_of : (a b : Frame) → a ≡ b → a.kind ≡ b.kind
kind_of a b e = ap (λ (f : Frame). f.kind) e

same_command : (a b : Command) → event_frame (Do a) ≡ event_frame (Do b) → a ≡ b
same_command (Connect a) (Connect b) e = ap Connect (payload_of _ _ e)
same_command (Disconnect a) (Disconnect b) e = ap Disconnect (payload_of _ _ e)
same_command (Connect a) (Disconnect b) e = let kinds = kind_of _ _ e in absurd (omega (arith, kinds))
same_command (Disconnect a) (Connect b) e = let kinds = kind_of _ _ e in absurd (omega (arith, kinds))

-- a command has kind 1 or 2
record IsCommandKind (kind : ℕ) : Type 0 where
  pub some : 1 ≤ kind
  pub few : kind ≤ 2

command_kind : (command : Command) → IsCommandKind (event_frame (Do command)).kind
command_kind (Connect block) = record { some = omega arith; few = omega arith }
command_kind (Disconnect hash) = record { some = omega arith; few = omega arith }

no_command : (carrier : Carrier) (command : Command) → query_kind carrier ≡ (event_frame (Do command)).kind → ⊥
no_command Datagram command kinds = let is = command_kind command in omega (arith, kinds, is.few)
no_command Stream command kinds = let is = command_kind command in omega (arith, kinds, is.some)

no_save : (carrier : Carrier) → query_kind carrier ≡ 4 → ⊥
no_save Datagram kinds = omega (arith, kinds)
no_save Stream kinds = omega (arith, kinds)

one_carrier : (a b : Carrier) → query_kind a ≡ query_kind b → a ≡ b
one_carrier Datagram Datagram kinds = refl
one_carrier Stream Stream kinds = refl
one_carrier Datagram Stream kinds = absurd (omega (arith, kinds))
one_carrier Stream Datagram kinds = absurd (omega (arith, kinds))

same_event : (a b : Event) → event_frame a ≡ event_frame b → a ≡ b
same_event (Do a) (Do b) e = ap Do (same_command a b e)
same_event (Ask one a) (Ask other b) e = ap (λ (c : Carrier). Ask c a) (one_carrier one other (kind_of _ _ e)) ∙ ap (Ask other) (payload_of _ _ e)
same_event Save Save e = refl
same_event (Do a) (Ask carrier b) e = absurd (no_command carrier a (sym (kind_of _ _ e)))
same_event (Ask carrier a) (Do b) e = absurd (no_command carrier b (kind_of _ _ e))
same_event (Ask carrier a) Save e = absurd (no_save carrier (kind_of _ _ e))
same_event Save (Ask carrier b) e = absurd (no_save carrier (sym (kind_of _ _ e)))
same_event (Do a) Save e = let is = command_kind a in let kinds = kind_of _ _ e in absurd (omega (arith, kinds, is.few))
same_event Save (Do b) e = let is = command_kind b in let kinds = kind_of _ _ e in absurd (omega (arith, kinds, is.few))

pub returns-clause-some : goal.returns-clause-some
returns-clause-some c = some_event

pub returns-clause-one : goal.returns-clause-one
returns-clause-one c = same_event
