-- The messages of a client's stream that are answered one after the other.
use Rattle.std.specs.Prelude.{Option, Some, None, Result, Ok, Err, is_some, unwrap_or, cond, IsTrue, IfSome}
use Rattle.std.proofs.Common.{◌≡◌, ◌⊎◌, inl, inr, ℕ, ◌<◌, ◌==◌, Bool, true, false, List, [], ◌∷◌, ◌++◌, length, refl, sym, ap, subst, ◌∙◌, length-append, arith}
use Rattle.std.specs.Int.{w16, to_be_bytes}
use Rattle.std.proofs.lemmas.Bool.{eqb-true, eq-eqb, cases_Bool}
use Rattle.std.proofs.lemmas.List.{map-append}
use Rattle.dns_tcp.specs.Messages.{message_text, Messages, IsPartialMessage}
use Rattle.dns_tcp.specs.Streams.{Stream, left_of, left_or_nothing, with_left, without, is_held, MayHold, IsWaiting}
use Rattle.dns_tcp.proofs.StreamLemmas.{left_of-with_left}
use Rattle.dns_tcp.proofs.MessageLemmas.{gave}
use Rattle.feed_frames.specs.Frames.{Frame}
use Rattle.feed_frames.specs.Replies.{Reply}
use Rattle.frame_loop.specs.Answering.{LeadsTo}
use Rattle.frame_loop.proofs.DeskLemmas.{leads_nowhere, leads_then}
use Rattle.port_loop.specs.Polls.{stream_query_of, AreParts}
use Rattle.port_loop.specs.Sends.{to_stream, Replied, none}
use Rattle.port_loop.specs.Streaming.{Counter, counter, AnswersMessage, FindsNone, AnswersMessages, AnswersWhole, AnswersFirst, AnswersAllOf, takes, AnswersStream}
use Rattle.port_loop.proofs.NoteLemmas.{Notes_nothing, Notes_append, replied_then, replied_one}

-- ---- what is left of a client

abbrev left_by : ℕ → List ℕ → Stream
left_by client left = record { client = client; left = left }

pub with_left-with_left : (client : ℕ) (left more : List ℕ) (streams : List Stream) → with_left client more (with_left client left streams) ≡ with_left client more streams
with_left-with_left client left more [] = ap (λ (b : Bool). cond b (left_by client more ∷ []) (left_by client left ∷ with_left client more [])) (eq-eqb client client refl)
with_left-with_left client left more (stream ∷ streams) = after (with_left-with_left client left more streams) (cases_Bool (stream.client == client)) where
  after : with_left client more (with_left client left streams) ≡ with_left client more streams → ((stream.client == client) ≡ true) ⊎ ((stream.client == client) ≡ false) → with_left client more (with_left client left (stream ∷ streams)) ≡ with_left client more (stream ∷ streams)
  after on (inl same) =
      ap (λ (b : Bool). with_left client more (cond b (left_by client left ∷ streams) (stream ∷ with_left client left streams))) same
      ∙ ap (λ (b : Bool). cond b (left_by client more ∷ streams) (left_by client left ∷ with_left client more streams)) (eq-eqb client client refl)
      ∙ sym (ap (λ (b : Bool). cond b (left_by client more ∷ streams) (stream ∷ with_left client more streams)) same)
  after on (inr differs) =
      ap (λ (b : Bool). with_left client more (cond b (left_by client left ∷ streams) (stream ∷ with_left client left streams))) differs
      ∙ ap (λ (b : Bool). cond b (left_by client more ∷ with_left client left streams) (stream ∷ with_left client more (with_left client left streams))) differs
      ∙ ap (λ (q : List Stream). stream ∷ q) on
      ∙ sym (ap (λ (b : Bool). cond b (left_by client more ∷ streams) (stream ∷ with_left client more streams)) differs)

-- what is left already
pub with_left-own : (client : ℕ) (left : List ℕ) (streams : List Stream) → left_of client streams ≡ Some left → with_left client left streams ≡ streams
with_left-own client left [] held = cc
with_left-own client left (stream ∷ streams) held = after (with_left-own client left streams) (cases_Bool (stream.client == client)) where
  after : (left_of client streams ≡ Some left → with_left client left streams ≡ streams) → ((stream.client == client) ≡ true) ⊎ ((stream.client == client) ≡ false)
      → with_left client left (stream ∷ streams) ≡ stream ∷ streams
  after on (inl same) =
      let there : Some stream.left ≡ Some left = sym (ap (λ (b : Bool). cond b (Some stream.left) (left_of client streams)) same) ∙ held in
      let bytes : stream.left ≡ left = ap (λ (o : Option (List ℕ)). unwrap_or o []) there in
      ap (λ (b : Bool). cond b (left_by client left ∷ streams) (stream ∷ with_left client left streams)) same
      ∙ ap (λ (c : ℕ). left_by c left ∷ streams) (sym (eqb-true stream.client client same))
      ∙ ap (λ (q : List ℕ). left_by stream.client q ∷ streams) (sym bytes)
  after on (inr differs) =
      let there : left_of client streams ≡ Some left = sym (ap (λ (b : Bool). cond b (Some stream.left) (left_of client streams)) differs) ∙ held in
      ap (λ (b : Bool). cond b (left_by client left ∷ streams) (stream ∷ with_left client left streams)) differs
      ∙ ap (λ (q : List Stream). stream ∷ q) (on there)

there_is : (left : Option (List ℕ)) → IsTrue (is_some left) → left ≡ Some (unwrap_or left [])
there_is None held = cc
there_is (Some left) held = refl

-- of a client that is held something is left
pub left_of_held : (client : ℕ) (streams : List Stream) → IsTrue (is_held client streams) → left_of client streams ≡ Some (left_or_nothing client streams)
left_of_held client streams held = there_is (left_of client streams) held

pub held_with : (client : ℕ) (left : List ℕ) (streams : List Stream) → IsTrue (is_held client (with_left client left streams))
held_with client left streams = subst (λ (o : Option (List ℕ)). IsTrue (is_some o)) (sym (left_of-with_left client left streams)) refl

pub nothing_or-with_left : (client : ℕ) (left : List ℕ) (streams : List Stream) → left_or_nothing client (with_left client left streams) ≡ left
nothing_or-with_left client left streams = ap (λ (o : Option (List ℕ)). unwrap_or o []) (left_of-with_left client left streams)

-- ---- parts of messages

pub parts_waiting : (client : ℕ) (streams : List Stream) → AreParts streams → IsWaiting client streams
parts_waiting client [] parts = tt
parts_waiting client (stream ∷ streams) parts = after (parts_waiting client streams parts.1) (cases_Bool (stream.client == client)) where
  after : IsWaiting client streams → ((stream.client == client) ≡ true) ⊎ ((stream.client == client) ≡ false) → IsWaiting client (stream ∷ streams)
  after on (inl same) = rw same parts.0
  after on (inr differs) = rw differs on

pub parts_with : (client : ℕ) (left : List ℕ) (streams : List Stream) → IsPartialMessage left → AreParts streams → AreParts (with_left client left streams)
parts_with client left [] partial parts = (partial, tt)
parts_with client left (stream ∷ streams) partial parts = after (parts_with client left streams partial parts.1) (cases_Bool (stream.client == client)) where
  after : AreParts (with_left client left streams) → ((stream.client == client) ≡ true) ⊎ ((stream.client == client) ≡ false) → AreParts (with_left client left (stream ∷ streams))
  after on (inl same) = rw same (partial, parts.1)
  after on (inr differs) = rw differs (parts.0, on)

pub parts_without : (client : ℕ) (streams : List Stream) → AreParts streams → AreParts (without client streams)
parts_without client [] parts = tt
parts_without client (stream ∷ streams) parts = after (parts_without client streams parts.1) (cases_Bool (stream.client == client)) where
  after : AreParts (without client streams) → ((stream.client == client) ≡ true) ⊎ ((stream.client == client) ≡ false) → AreParts (without client (stream ∷ streams))
  after on (inl same) = rw same parts.1
  after on (inr differs) = rw differs (parts.0, on)

-- what waits is a part
pub waiting_part : (client : ℕ) (left : List ℕ) (streams : List Stream) → IsWaiting client (with_left client left streams) → IsPartialMessage left
waiting_part client left streams waiting = subst (λ (o : Option (List ℕ)). IfSome o IsPartialMessage) (left_of-with_left client left streams) waiting

-- ---- one message after the other

some_with : (messages : List (List ℕ)) (message : List ℕ) → 0 < length (messages ++ message ∷ [])
some_with messages message = omega (arith, length-append messages (message ∷ []))

module _ {Start X : Type 0} {Reached : Start → List Frame → List Reply → X → Type 0} {client : ℕ} {bytes : List ℕ} where
  -- no message was answered yet
  pub answers_none : (old : Counter X) → left_of client old.streams ≡ Some bytes → AnswersMessages Reached Reached client bytes old old
  answers_none old held = record {
    messages = [];
    rest = bytes;
    split = record { whole = refl; are_messages = tt };
    streams_are = sym (with_left-own client bytes old.streams held);
    replies = [];
    sends = [];
    replied = none;
    noted = Notes_nothing old.port;
    leads = leads_nowhere Reached old.now;
  }

  -- messages were answered, and one more
  abbrev pub answers_one_more : {After : Start → List Frame → List Reply → X → Type 0} (old mid new : Counter X) → AnswersMessages Reached Reached client bytes old mid → AnswersMessage Reached After client mid new
      → AnswersMessages Reached After client bytes old new
  answers_one_more {After = After} old mid new first one =
      let message = one.message in
      let rest = one.takes.rest in
      let a = one.answered in
      let send = to_stream client a.reply a.sent.is_sent in
      let held : Some first.rest ≡ Some (message_text message ++ rest) =
      sym (left_of-with_left client first.rest old.streams) ∙ ap (left_of client) (sym first.streams_are) ∙ one.takes.left in
      let front : first.rest ≡ message_text message ++ rest = ap (λ (o : Option (List ℕ)). unwrap_or o []) held in
      let frames = sym (map-append stream_query_of first.messages (message ∷ [])) in
      record {
        messages = first.messages ++ message ∷ [];
        rest = rest;
        split = gave bytes first.messages message rest (subst (Messages bytes first.messages) front first.split) one.takes.is_message;
        streams_are = one.takes.now ∙ ap (with_left client rest) first.streams_are ∙ with_left-with_left client first.rest rest old.streams;
        replies = first.replies ++ a.reply ∷ [];
        sends = first.sends ++ send;
        replied = subst (λ (fs : List Frame). Replied (to_stream client) fs (first.replies ++ a.reply ∷ []) (first.sends ++ send)) frames
            (replied_then first.replied (replied_one (to_stream client) (stream_query_of message) a.reply a.sent.is_sent));
        noted = Notes_append old.port mid.port new.port first.sends send first.noted a.sent.noted;
        leads = subst (λ (fs : List Frame). LeadsTo Reached After old.now fs (first.replies ++ a.reply ∷ []) new.now) frames (leads_then first.leads a.leads);
      }

  -- the last one ended the run
  pub answers_first : {Broken : Start → List Frame → List Reply → X → Type 0} (old mid new : Counter X) → AnswersMessages Reached Reached client bytes old mid → AnswersMessage Reached Broken client mid new
      → AnswersFirst Reached Broken client bytes old new
  answers_first old mid new first one = record {
    answered = answers_one_more old mid new first one;
    some = some_with first.messages one.message;
  }

  -- no whole message is left
  pub answers_whole : {Ready : X → Type 0} (old mid new : Counter X) → Ready mid.now → AnswersMessages Reached Reached client bytes old mid → FindsNone client mid new → AnswersWhole Ready Reached client bytes old new
  answers_whole {Ready = Ready} old mid new ready first f =
      subst (AnswersWhole Ready Reached client bytes old) (sym f.same) (record {
        answered = first;
        partial = waiting_part client first.rest old.streams (subst (IsWaiting client) first.streams_are f.waiting);
        ready = ready;
      })

-- with each message that is answered less is left
pub less_is_left : {Start X : Type 0} {Reached After : Start → List Frame → List Reply → X → Type 0} {client : ℕ} (old new : Counter X) → AnswersMessage Reached After client old new
    → length (left_or_nothing client new.streams) < length (left_or_nothing client old.streams)
less_is_left {client = client} old new one =
    let message = one.message in
    let rest = one.takes.rest in
    let before : left_or_nothing client old.streams ≡ message_text message ++ rest = ap (λ (o : Option (List ℕ)). unwrap_or o []) one.takes.left in
    let after : left_or_nothing client new.streams ≡ rest = ap (left_or_nothing client) one.takes.now ∙ nothing_or-with_left client rest old.streams in
    omega (arith, ap length before, ap length after, length-append (message_text message) rest, length-append (to_be_bytes w16 (length message)) message)

-- ---- a piece that was taken

-- the client is held then
pub held_behind : (client : ℕ) (left : List ℕ) (old new : List Stream) → new ≡ with_left client left old → IsTrue (is_held client new)
held_behind client left old new are = subst (λ (ss : List Stream). IsTrue (is_held client ss)) (sym are) (held_with client left old)

-- the piece was put behind what was left
abbrev pub IsFed : ℕ → List ℕ → List Stream → List Stream → Type 0
IsFed client piece old new = new ≡ with_left client (left_or_nothing client old ++ piece) old

module _ {Start X : Type 0} {Reached : Start → List Frame → List Reply → X → Type 0} (client : ℕ) (piece : List ℕ) (old : Counter X) (fed : List Stream) (is_fed : IsFed client piece old.streams fed) where
  -- what was answered since then
  abbrev answers_since : {After : Start → List Frame → List Reply → X → Type 0} (new : Counter X) → AnswersMessages Reached After client (left_or_nothing client fed) (counter old.port fed old.now) new
      → AnswersMessages Reached After client (left_or_nothing client old.streams ++ piece) old new
  answers_since new a =
      let bytes = left_or_nothing client old.streams ++ piece in
      let left : left_or_nothing client fed ≡ bytes = ap (left_or_nothing client) is_fed ∙ nothing_or-with_left client bytes old.streams in
      record {
        messages = a.messages;
        rest = a.rest;
        split = subst (λ (q : List ℕ). Messages q a.messages a.rest) left a.split;
        streams_are = a.streams_are ∙ ap (with_left client a.rest) is_fed ∙ with_left-with_left client bytes a.rest old.streams;
        replies = a.replies;
        sends = a.sends;
        replied = a.replied;
        noted = a.noted;
        leads = a.leads;
      }

-- whatever came of it
module _ {Start X : Type 0} (Ready : X → Type 0) (Reached Broken : Start → List Frame → List Reply → X → Type 0) (client : ℕ) (piece : List ℕ) (old : Counter X) (fed : List Stream) (is_fed : IsFed client piece old.streams fed) where
  pub piece_taken : {A E : Type 0} (new : Counter X) (result : Result A E) → MayHold client old.streams
      → AnswersAllOf Ready Reached Broken client (left_or_nothing client fed) (counter old.port fed old.now) new result → AnswersStream Ready Reached Broken client piece old new result
  piece_taken new (Ok done) may_hold w = takes may_hold (record { answered = answers_since client piece old fed is_fed new w.answered; partial = w.partial; ready = w.ready })
  piece_taken new (Err over) may_hold f = record { may_hold = may_hold; first = record { answered = answers_since client piece old fed is_fed new f.answered; some = f.some } }
