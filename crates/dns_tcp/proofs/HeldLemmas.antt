-- The clients that are held, once one of them was fed, gave a message, came or went.
use Rattle.std.proofs.Common.{◌≡◌, true, false, ℕ, ◌-◌, ◌≤◌, List, [], ◌∷◌, ◌++◌, length, drop, refl, sym, ap, subst, ◌∙◌, arith}
use Rattle.std.specs.Prelude.{Option, Some, None, unwrap_or}
use Rattle.std.specs.List.{remove}
use Rattle.std.proofs.Math.ListN.{set}
use Rattle.std.proofs.lemmas.Bool.{le-ltb}
use Rattle.std.proofs.lemmas.List.{map_push, length-map}
use Rattle.dns_tcp.specs.Messages.{message_text, IsPartialMessage}
use Rattle.dns_tcp.specs.Buffer.{Bytes, Turns, Stays}
use Rattle.dns_tcp.specs.Streams.{left_of, left_or_nothing, with_left, may_hold, IsWaiting, AreDistinct, Takes, Waits}
use Rattle.dns_tcp.specs.Held.{stream_of, streams_of}
use Rattle.dns_tcp.specs.declared.streams.Held.{Held}
use Rattle.dns_tcp.specs.declared.streams.TheConstants.{CLIENTS}
use Rattle.dns_tcp.proofs.BufferLemmas.{last_given}
use Rattle.dns_tcp.proofs.StreamLemmas.{StandsAt, here, behind, left-at, with_left-at, without-at, with_left-new, distinct-with_left, distinct-without}

abbrev pub with_bytes : Held → Bytes → Held
with_bytes one bytes = record { client = one.client; buffer = bytes }

set-at : (client : ℕ) (held : List Held) (at : ℕ) (one : Held) → StandsAt client held at one → set held at one ≡ held
set-at client _ _ _ (here one held h) = refl
set-at client _ _ _ (behind other held at one h s) = ap (λ (q : List Held). other ∷ q) (set-at client held at one s)

pub waiting-at : (client : ℕ) (held : List Held) (at : ℕ) (one : Held) → StandsAt client held at one → IsWaiting client (streams_of held) → IsPartialMessage one.buffer.left
waiting-at client held at one s w = rw (left-at client held at one s) at w

-- ---- the next message

pub takes : (client : ℕ) (held : List Held) (at : ℕ) (one : Held) (bytes : Bytes) (count : ℕ) (message : List ℕ) → StandsAt client held at one → Turns one.buffer count bytes
    → message ≡ drop (length bytes.given - count) bytes.given → Takes client (streams_of held) message (streams_of (set held at (with_bytes one bytes)))
takes client held at one bytes count message s t e =
    let same : message ≡ t.message = e ∙ rw (t.given, t.count_is) (last_given one.buffer.given t.message) in
    record {
      rest = bytes.left;
      is_message = rw same t.is_message;
      left = left-at client held at one s ∙ ap Some (t.left ∙ ap (λ (m : List ℕ). message_text m ++ bytes.left) (sym same));
      now = sym (with_left-at client held at one bytes s);
    }

pub stays : (client : ℕ) (held : List Held) (at : ℕ) (one : Held) (bytes : Bytes) → StandsAt client held at one → Stays one.buffer bytes
    → Waits client (streams_of held) (streams_of (set held at (with_bytes one bytes)))
stays client held at one bytes s t = record {
  same = ap (λ (b : Bytes). streams_of (set held at (with_bytes one b))) t.same ∙ ap streams_of (set-at client held at one s);
  waiting = rw (left-at client held at one s) t.partial;
}

pub waits_for_none : (client : ℕ) (held : List Held) → left_of client (streams_of held) ≡ None → Waits client (streams_of held) (streams_of held)
waits_for_none client held none = record { same = refl; waiting = rw none tt }

-- ---- a piece

pub fed-at : (client : ℕ) (held : List Held) (at : ℕ) (one : Held) (piece : List ℕ) → StandsAt client held at one
    → streams_of (set held at (with_bytes one (record { given = []; left = one.buffer.left ++ piece }))) ≡ with_left client (left_or_nothing client (streams_of held) ++ piece) (streams_of held)
fed-at client held at one piece s =
    sym (with_left-at client held at one (record { given = []; left = one.buffer.left ++ piece }) s)
    ∙ ap (λ (q : Option (List ℕ)). with_left client (unwrap_or q [] ++ piece) (streams_of held)) (sym (left-at client held at one s))

pub fed-new : (client : ℕ) (held : List Held) (bytes : Bytes) → left_of client (streams_of held) ≡ None
    → streams_of (held ++ (record { client = client; buffer = bytes } ∷ [])) ≡ with_left client (left_or_nothing client (streams_of held) ++ bytes.left) (streams_of held)
fed-new client held bytes none =
    let one : Held = record { client = client; buffer = bytes } in
    map_push stream_of held one ∙ sym (with_left-new client bytes.left (streams_of held) none)
    ∙ ap (λ (q : Option (List ℕ)). with_left client (unwrap_or q [] ++ bytes.left) (streams_of held)) (sym none)

-- ---- no client is held twice

pub distinct-at : (client : ℕ) (held : List Held) (at : ℕ) (one : Held) (bytes : Bytes) → StandsAt client held at one → AreDistinct (streams_of held)
    → AreDistinct (streams_of (set held at (with_bytes one bytes)))
distinct-at client held at one bytes s distinct =
    subst AreDistinct (with_left-at client held at one bytes s) (distinct-with_left client bytes.left (streams_of held) distinct)

pub distinct-new : (client : ℕ) (held : List Held) (bytes : Bytes) → left_of client (streams_of held) ≡ None → AreDistinct (streams_of held)
    → AreDistinct (streams_of (held ++ (record { client = client; buffer = bytes } ∷ [])))
distinct-new client held bytes none distinct =
    subst AreDistinct (sym (fed-new client held bytes none)) (distinct-with_left client (left_or_nothing client (streams_of held) ++ bytes.left) (streams_of held) distinct)

pub distinct-removed : (client : ℕ) (held : List Held) (at : ℕ) (one : Held) → StandsAt client held at one → AreDistinct (streams_of held) → AreDistinct (streams_of (remove held at))
distinct-removed client held at one s distinct = subst AreDistinct (without-at client held at one s) (distinct-without client (streams_of held) distinct)

-- ---- room for a client

pub may_hold-at : (client : ℕ) (held : List Held) (at : ℕ) (one : Held) → StandsAt client held at one → true ≡ may_hold client (streams_of held)
may_hold-at client held at one s = rw (left-at client held at one s) refl

pub may_not_hold : (client : ℕ) (held : List Held) → left_of client (streams_of held) ≡ None → CLIENTS ≤ length held → false ≡ may_hold client (streams_of held)
may_not_hold client held none full =
    let long : length (streams_of held) ≡ length held = length-map held stream_of in
    rw none (sym (le-ltb (length (streams_of held)) CLIENTS (omega (arith, long))))
