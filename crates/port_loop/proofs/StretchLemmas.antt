-- The stretches of clients' streams in each transcript.
use Rattle.std.specs.Prelude.{map, ◌&&◌, ◌||◌, nat_lt}
use Rattle.std.proofs.Common.{◌≡◌, ◌⊎◌, inl, inr, ℕ, ◌==◌, Bool, true, false, List, [], ◌∷◌, ◌++◌, length, refl, sym, ap, subst, ◌∙◌, length-append, arith}
use Rattle.std.specs.List.{flat_map, AllByRecursion}
use Rattle.std.proofs.lemmas.Bool.{eqb-true, eq-eqb, cases_Bool}
use Rattle.std.proofs.lemmas.List.{append-nil, map-append, length-map}
use Rattle.std.proofs.lemmas.List.Concat.{flat_map-append}
use Rattle.byte_io.specs.Port.{Note, stream_closed, closed, Got, datagram, stream, stream_end, piece, feed_end, nothing, fault}
use Rattle.dns_tcp.specs.Messages.{Messages, IsPartialMessage}
use Rattle.dns_tcp.specs.Streams.{Stream, left_or_nothing, with_left, without, is_held, may_hold, MayHold}
use Rattle.dns_tcp.specs.declared.streams.TheConstants.{CLIENTS}
use Rattle.dns_tcp.proofs.MessageLemmas.{joined}
use Rattle.feed_frames.specs.Frames.{Frame}
use Rattle.feed_frames.specs.Replies.{Reply}
use Rattle.port_loop.specs.Polls.{Parts, stream_query_of, stream_queries, Closing, Brings, from_client, from_stream, refused, at_stream_end, from_feed, at_bad_frame, at_end, at_nothing, at_fault, BringsFirst, first_from_client, first_from_stream, first_from_feed}
use Rattle.port_loop.specs.Sends.{to_client, to_stream, to_feed, to_nobody, sends_of, Replied, none, one, closings}
use Rattle.port_loop.specs.Transcript.{BreaksOff, DealsWithAll, none_yet, one_more, PollTranscript}
use Rattle.port_loop.specs.declared.attending.Ending.{Ending}
use Rattle.port_loop.specs.declared.attending.Ending.TheVariants.{Done, Ended}
use Rattle.port_loop.specs.Stretches.{Exchange, exchange, exchanges_of, handed_by, handed_to, closed_by, closed_in, Stretch, new_stretch, lengthened, with_piece, without_stretch, whole_stream, has_room, behind_poll, behind_polls, handed_for, AnswersFront, IsAnswered, IsBegun, takes_piece, refused_by, IsKept, IsCutShort, AreKept, noted_by, TellAll, KeepsStreams, BreaksStreams, AnswersStreams}
use Rattle.port_loop.specs.declared.sending.TheConstants.{DROPPED}

-- ---- sends that are none over a stream

pub record Silent (notes : List Note) : Type 0 where
  pub handed : (client : ℕ) → handed_to client notes ≡ []
  pub closed_are : closed_in notes ≡ []

silent_then : (notes more : List Note) → Silent notes → Silent more → Silent (notes ++ more)
silent_then notes more first second = record {
  handed = λ client. flat_map-append (handed_by client) notes more ∙ ap (λ (q : List (List ℕ)). q ++ handed_to client more) (first.handed client) ∙ second.handed client;
  closed_are = flat_map-append closed_by notes more ∙ ap (λ (q : List ℕ). q ++ closed_in more) first.closed_are ∙ second.closed_are;
}

silent_all : (to : Reply → Bool → List Note) → ((reply : Reply) (is_sent : Bool) → Silent (to reply is_sent)) → {frames : List Frame} {replies : List Reply} {sends : List Note} → Replied to frames replies sends → Silent sends
silent_all to each none = record { handed = λ client. refl; closed_are = refl }
silent_all to each (one frame reply is_sent frames replies notes others) = silent_then (to reply is_sent) notes (each reply is_sent) (silent_all to each others)

silent_to_client : (client : ℕ) (reply : Reply) (is_sent : Bool) → Silent (to_client client reply is_sent)
silent_to_client client reply is_sent = after (cases_Bool (reply.code == DROPPED)) where
  after : ((reply.code == DROPPED) ≡ true) ⊎ ((reply.code == DROPPED) ≡ false) → Silent (to_client client reply is_sent)
  after (inl is-dropped) = rw is-dropped (record { handed = λ other. refl; closed_are = refl })
  after (inr sent) = rw sent (record { handed = λ other. refl; closed_are = refl })

silent_to_feed : (reply : Reply) (is_sent : Bool) → Silent (to_feed reply is_sent)
silent_to_feed reply is_sent = record { handed = λ client. refl; closed_are = refl }

silent_to_nobody : (reply : Reply) (is_sent : Bool) → Silent (to_nobody reply is_sent)
silent_to_nobody reply is_sent = record { handed = λ client. refl; closed_are = refl }

-- ---- sends over a stream

record Handed (client : ℕ) (replies : List Reply) (notes : List Note) : Type 0 where
  own : handed_to client notes ≡ flat_map handed_for replies
  others : (other : ℕ) → (client == other) ≡ false → handed_to other notes ≡ []
  closed_are : closed_in notes ≡ []

handed_one : (client : ℕ) (reply : Reply) (is_sent : Bool) → Handed client (reply ∷ []) (to_stream client reply is_sent)
handed_one client reply is_sent = after (cases_Bool (reply.code == DROPPED)) where
  after : ((reply.code == DROPPED) ≡ true) ⊎ ((reply.code == DROPPED) ≡ false) → Handed client (reply ∷ []) (to_stream client reply is_sent)
  after (inl is-dropped) = rw is-dropped (record { own = rw is-dropped refl; others = λ other differs. refl; closed_are = refl })
  after (inr sent) = rw sent (record { own = rw (sent, eq-eqb client client refl) refl; others = λ other differs. rw differs refl; closed_are = refl })

handed_all : (client : ℕ) {frames : List Frame} {replies : List Reply} {sends : List Note} → Replied (to_stream client) frames replies sends → Handed client replies sends
handed_all client none = record { own = refl; others = λ other differs. refl; closed_are = refl }
handed_all client (one frame reply is_sent frames replies notes rest) =
    let first = handed_one client reply is_sent in
    let second = handed_all client rest in
    let send = to_stream client reply is_sent in
    record {
      own = flat_map-append (handed_by client) send notes ∙ ap (λ (q : List (List ℕ)). q ++ handed_to client notes) first.own
          ∙ ap (λ (q : List (List ℕ)). flat_map handed_for (reply ∷ []) ++ q) second.own ∙ sym (flat_map-append handed_for (reply ∷ []) replies);
      others = λ other differs. flat_map-append (handed_by other) send notes ∙ ap (λ (q : List (List ℕ)). q ++ handed_to other notes) (first.others other differs) ∙ second.others other differs;
      closed_are = flat_map-append closed_by send notes ∙ ap (λ (q : List ℕ). q ++ closed_in notes) first.closed_are ∙ second.closed_are;
    }

one_each : {to : Reply → Bool → List Note} {frames : List Frame} {replies : List Reply} {sends : List Note} → Replied to frames replies sends → length replies ≡ length frames
one_each none = refl
one_each (one frame reply is_sent frames replies notes others) = let rest = one_each others in omega (arith, rest)

no_sends : {to : Reply → Bool → List Note} {frames : List Frame} {replies : List Reply} {sends : List Note} → Replied to frames replies sends → frames ≡ [] → sends ≡ []
no_sends none e = refl
no_sends (one frame reply is_sent frames replies notes others) e = cc

-- ---- streams and their stretches

-- the stretch is of the stream's client, its messages are answered, and the rest of its bytes, which is so, is left
pub record IsLinked (IsRest : List ℕ → Type 0) (held : Stream) (stretch : Stretch) : Type 0 where
  pub client_is : held.client ≡ stretch.client
  pub messages : List (List ℕ)
  pub front : AnswersFront stretch messages held.left
  pub is_rest : IsRest held.left

abbrev pub AreLinked : (List ℕ → Type 0) → List Stream → List Stretch → Type 0
AreLinked IsRest [] [] = Unit {0}
AreLinked IsRest [] (stretch ∷ stretches) = ⊥
AreLinked IsRest (held ∷ streams) [] = ⊥
AreLinked IsRest (held ∷ streams) (stretch ∷ stretches) = IsLinked IsRest held stretch × AreLinked IsRest streams stretches

pub all_answered : (streams : List Stream) (stretches : List Stretch) → AreLinked IsPartialMessage streams stretches → AllByRecursion IsAnswered stretches
all_answered [] [] linked = tt
all_answered [] (stretch ∷ stretches) linked = absurd linked
all_answered (held ∷ streams) [] linked = absurd linked
all_answered (held ∷ streams) (stretch ∷ stretches) linked =
    (record { messages = linked.0.messages; rest = held.left; front = linked.0.front; partial = linked.0.is_rest }, all_answered streams stretches linked.1)

as_many : (IsRest : List ℕ → Type 0) (streams : List Stream) (stretches : List Stretch) → AreLinked IsRest streams stretches → length streams ≡ length (map whole_stream stretches)
as_many IsRest [] [] linked = refl
as_many IsRest [] (stretch ∷ stretches) linked = absurd linked
as_many IsRest (held ∷ streams) [] linked = absurd linked
as_many IsRest (held ∷ streams) (stretch ∷ stretches) linked = let rest = as_many IsRest streams stretches linked.1 in omega (arith, rest)

held_alike : (IsRest : List ℕ → Type 0) (client : ℕ) (streams : List Stream) (stretches : List Stretch) → AreLinked IsRest streams stretches → is_held client streams ≡ is_held client (map whole_stream stretches)
held_alike IsRest client [] [] linked = refl
held_alike IsRest client [] (stretch ∷ stretches) linked = absurd linked
held_alike IsRest client (held ∷ streams) [] linked = absurd linked
held_alike IsRest client (held ∷ streams) (stretch ∷ stretches) linked = after (held_alike IsRest client streams stretches linked.1) (cases_Bool (stretch.client == client)) where
  same : (held.client == client) ≡ (stretch.client == client)
  same = ap (λ (c : ℕ). c == client) linked.0.client_is

  after : is_held client streams ≡ is_held client (map whole_stream stretches) → ((stretch.client == client) ≡ true) ⊎ ((stretch.client == client) ≡ false)
      → is_held client (held ∷ streams) ≡ is_held client (map whole_stream (stretch ∷ stretches))
  after rest (inl own) = rw (same, own) refl
  after rest (inr isn't) = rw (same, isn't) rest

pub room_alike : (IsRest : List ℕ → Type 0) (client : ℕ) (streams : List Stream) (stretches : List Stretch) → AreLinked IsRest streams stretches → may_hold client streams ≡ has_room client stretches
room_alike IsRest client streams stretches linked =
    ap (λ (b : Bool). b || nat_lt (length streams) CLIENTS) (held_alike IsRest client streams stretches linked)
    ∙ ap (λ (n : ℕ). is_held client (map whole_stream stretches) || nat_lt n CLIENTS) (as_many IsRest streams stretches linked)

-- a poll brought a piece, whose messages were answered
record TakesAll (client : ℕ) (bytes : List ℕ) (messages : List (List ℕ)) (poll : Exchange) : Type 0 where
  frames_are : poll.frames ≡ stream_queries messages
  one_reply : length poll.replies ≡ length messages
  handed_are : handed_to client poll.asked ≡ flat_map handed_for poll.replies

front_more : (client : ℕ) (bytes : List ℕ) (messages : List (List ℕ)) (poll : Exchange) (stretch : Stretch) (ms : List (List ℕ)) (left rest : List ℕ) → stretch.client ≡ client → TakesAll client bytes messages poll
    → AnswersFront stretch ms left → Messages (left ++ bytes) messages rest → AnswersFront (lengthened bytes poll stretch) (ms ++ messages) rest
front_more client bytes messages poll stretch ms left rest same t f s = record {
  split = joined stretch.bytes ms messages left bytes rest f.split s;
  frames_are = ap (λ (q : List Frame). q ++ poll.frames) f.frames_are ∙ ap (λ (q : List Frame). stream_queries ms ++ q) t.frames_are ∙ sym (map-append stream_query_of ms messages);
  one_each = omega (arith, length-append stretch.replies poll.replies, length-append ms messages, f.one_each, t.one_reply);
  handed_are = ap (λ (q : List (List ℕ)). q ++ handed_to stretch.client poll.asked) f.handed_are
      ∙ ap (λ (c : ℕ). flat_map handed_for stretch.replies ++ handed_to c poll.asked) same
      ∙ ap (λ (q : List (List ℕ)). flat_map handed_for stretch.replies ++ q) t.handed_are
      ∙ sym (flat_map-append handed_for stretch.replies poll.replies);
}

front_none : (client : ℕ) → AnswersFront (new_stretch client) [] []
front_none client = record { split = record { whole = refl; are_messages = tt }; frames_are = refl; one_each = refl; handed_are = refl }

module _ (client : ℕ) (bytes : List ℕ) (messages : List (List ℕ)) (rest : List ℕ) (poll : Exchange) (t : TakesAll client bytes messages poll) (IsRest : List ℕ → Type 0) (is_rest : IsRest rest) where
  linked_piece : (streams : List Stream) (stretches : List Stretch) → AreLinked IsRest streams stretches → Messages (left_or_nothing client streams ++ bytes) messages rest
      → AreLinked IsRest (with_left client rest streams) (with_piece client bytes poll stretches)
  linked_piece [] [] linked s =
      (record { client_is = refl; messages = messages; front = front_more client bytes messages poll (new_stretch client) [] [] rest refl t (front_none client) s; is_rest = is_rest }, tt)
  linked_piece [] (stretch ∷ stretches) linked s = absurd linked
  linked_piece (held ∷ streams) [] linked s = absurd linked
  linked_piece (held ∷ streams) (stretch ∷ stretches) linked s = after (linked_piece streams stretches linked.1) (cases_Bool (stretch.client == client)) where
    same : (held.client == client) ≡ (stretch.client == client)
    same = ap (λ (c : ℕ). c == client) linked.0.client_is

    after : (Messages (left_or_nothing client streams ++ bytes) messages rest → AreLinked IsRest (with_left client rest streams) (with_piece client bytes poll stretches))
        → ((stretch.client == client) ≡ true) ⊎ ((stretch.client == client) ≡ false) → AreLinked IsRest (with_left client rest (held ∷ streams)) (with_piece client bytes poll (stretch ∷ stretches))
    after on (inl own) =
        let is : stretch.client ≡ client = eqb-true stretch.client client own in
        let there : left_or_nothing client (held ∷ streams) ≡ held.left = rw (same, own) refl in
        let split = subst (λ (q : List ℕ). Messages (q ++ bytes) messages rest) there s in
        rw (same, own) (
          record {
            client_is = sym is;
            messages = linked.0.messages ++ messages;
            front = front_more client bytes messages poll stretch linked.0.messages held.left rest is t linked.0.front split;
            is_rest = is_rest;
          },
          linked.1,
        )
    after on (inr isn't) =
        let there : left_or_nothing client (held ∷ streams) ≡ left_or_nothing client streams = rw (same, isn't) refl in
        rw (same, isn't) (linked.0, on (subst (λ (q : List ℕ). Messages (q ++ bytes) messages rest) there s))

linked_without : (IsRest : List ℕ → Type 0) (client : ℕ) (streams : List Stream) (stretches : List Stretch) → AreLinked IsRest streams stretches → AreLinked IsRest (without client streams) (without_stretch client stretches)
linked_without IsRest client [] [] linked = tt
linked_without IsRest client [] (stretch ∷ stretches) linked = absurd linked
linked_without IsRest client (held ∷ streams) [] linked = absurd linked
linked_without IsRest client (held ∷ streams) (stretch ∷ stretches) linked = after (linked_without IsRest client streams stretches linked.1) (cases_Bool (stretch.client == client)) where
  same : (held.client == client) ≡ (stretch.client == client)
  same = ap (λ (c : ℕ). c == client) linked.0.client_is

  after : AreLinked IsRest (without client streams) (without_stretch client stretches) → ((stretch.client == client) ≡ true) ⊎ ((stretch.client == client) ≡ false)
      → AreLinked IsRest (without client (held ∷ streams)) (without_stretch client (stretch ∷ stretches))
  after on (inl own) = rw (same, own) linked.1
  after on (inr isn't) = rw (same, isn't) (linked.0, on)

-- whatever is left
abbrev pub AnyRest : List ℕ → Type 0
AnyRest left = Unit {0}

any_rest : (streams : List Stream) (stretches : List Stretch) → AreLinked IsPartialMessage streams stretches → AreLinked AnyRest streams stretches
any_rest [] [] linked = tt
any_rest [] (stretch ∷ stretches) linked = absurd linked
any_rest (held ∷ streams) [] linked = absurd linked
any_rest (held ∷ streams) (stretch ∷ stretches) linked =
    (record { client_is = linked.0.client_is; messages = linked.0.messages; front = linked.0.front; is_rest = tt }, any_rest streams stretches linked.1)

all_begun : (streams : List Stream) (stretches : List Stretch) → AreLinked AnyRest streams stretches → AllByRecursion IsBegun stretches
all_begun [] [] linked = tt
all_begun [] (stretch ∷ stretches) linked = absurd linked
all_begun (held ∷ streams) [] linked = absurd linked
all_begun (held ∷ streams) (stretch ∷ stretches) linked =
    (record { messages = linked.0.messages; rest = held.left; front = linked.0.front }, all_begun streams stretches linked.1)

-- ---- one poll

pub record Keeps (streams : List Stream) (stretches : List Stretch) (poll : Exchange) : Type 0 where
  pub linked : AreLinked IsPartialMessage streams (behind_poll poll stretches)
  pub elsewhere : (client : ℕ) → takes_piece client poll.got stretches ≡ false → handed_to client poll.asked ≡ []
  pub closed_are : closed_in poll.asked ≡ refused_by poll.got stretches

not_own : (other client : ℕ) (room : Bool) → room ≡ true → ((other == client) && room) ≡ false → (other == client) ≡ false
not_own other client room has isn't = after (cases_Bool (other == client)) where
  after : ((other == client) ≡ true) ⊎ ((other == client) ≡ false) → (other == client) ≡ false
  after (inl same) = let clash : true ≡ false = rw (same, has) at isn't in cc
  after (inr differs) = differs

keeps_silent : (streams : List Stream) (stretches : List Stretch) (got : Got) (frames : List Frame) (replies : List Reply) (asked : List Note) → AreLinked IsPartialMessage streams (behind_poll (exchange got frames replies asked) stretches)
    → Silent asked → refused_by got stretches ≡ [] → Keeps streams stretches (exchange got frames replies asked)
keeps_silent streams stretches got frames replies asked linked silent no_refusal =
    record { linked = linked; elsewhere = λ client not. silent.handed client; closed_are = silent.closed_are ∙ sym no_refusal }

silent_nothing : Silent []
silent_nothing = record { handed = λ client. refl; closed_are = refl }

silent_closed : Silent (closed ∷ [])
silent_closed = record { handed = λ client. refl; closed_are = refl }

-- a piece was taken
record Taken (IsRest : List ℕ → Type 0) (streams : List Stream) (stretches : List Stretch) (poll : Exchange) : Type 0 where
  linked : AreLinked IsRest streams (behind_poll poll stretches)
  elsewhere : (client : ℕ) → takes_piece client poll.got stretches ≡ false → handed_to client poll.asked ≡ []
  closed_are : closed_in poll.asked ≡ []

module _ (IsRest : List ℕ → Type 0) {replies : List Reply} {sends : List Note} (streams : List Stream) (stretches : List Stretch) (client : ℕ) (bytes : List ℕ) (messages : List (List ℕ)) (rest : List ℕ) where
  taken : AreLinked IsRest streams stretches → MayHold client streams → Messages (left_or_nothing client streams ++ bytes) messages rest → IsRest rest
      → Replied (to_stream client) (stream_queries messages) replies sends → Taken IsRest (with_left client rest streams) stretches (exchange (stream client bytes) (stream_queries messages) replies sends)
  taken linked may s is_rest replied =
      let poll = exchange (stream client bytes) (stream_queries messages) replies sends in
      let handed = handed_all client replied in
      let room : has_room client stretches ≡ true = sym (room_alike IsRest client streams stretches linked) ∙ may in
      let t : TakesAll client bytes messages poll = record { frames_are = refl; one_reply = one_each replied ∙ length-map messages stream_query_of; handed_are = handed.own } in
      record {
        linked = rw room (linked_piece client bytes messages rest poll t IsRest is_rest streams stretches linked s);
        elsewhere = λ other not. handed.others other (not_own client other (has_room client stretches) room not);
        closed_are = handed.closed_are;
      }

keeps_taken : {replies : List Reply} {sends : List Note} (streams : List Stream) (stretches : List Stretch) (client : ℕ) (bytes : List ℕ) (messages : List (List ℕ)) (rest : List ℕ)
    → AreLinked IsPartialMessage streams stretches → MayHold client streams → Taken IsPartialMessage (with_left client rest streams) stretches (exchange (stream client bytes) (stream_queries messages) replies sends)
    → Keeps (with_left client rest streams) stretches (exchange (stream client bytes) (stream_queries messages) replies sends)
keeps_taken streams stretches client bytes messages rest linked may t =
    let room : has_room client stretches ≡ true = sym (room_alike IsPartialMessage client streams stretches linked) ∙ may in
    record { linked = t.linked; elsewhere = t.elsewhere; closed_are = rw room t.closed_are }

keeps_refused : (streams : List Stream) (stretches : List Stretch) (client : ℕ) (bytes : List ℕ) (replies : List Reply) → AreLinked IsPartialMessage streams stretches → (MayHold client streams → ⊥)
    → Keeps streams stretches (exchange (stream client bytes) [] replies (stream_closed client ∷ []))
keeps_refused streams stretches client bytes replies linked full = after (cases_Bool (has_room client stretches)) where
  after : (has_room client stretches ≡ true) ⊎ (has_room client stretches ≡ false) → Keeps streams stretches (exchange (stream client bytes) [] replies (stream_closed client ∷ []))
  after (inl room) = absurd (full (room_alike IsPartialMessage client streams stretches linked ∙ room))
  after (inr full) = record { linked = rw full linked; elsewhere = λ other not. refl; closed_are = rw full refl }

module _ {kinds : ℕ} where
  pub keeps : {part after : Parts} {got : Got} {frames : List Frame} {replies : List Reply} {sends : List Note} {shut : List Closing} (stretches : List Stretch) → Brings kinds part got frames after shut
      → Replied (sends_of got) frames replies sends → AreLinked IsPartialMessage part.streams stretches → Keeps after.streams stretches (exchange got frames replies (sends ++ closings shut))
  keeps {part = part} {replies = replies} {sends = sends} stretches (from_client client message) replied linked =
      keeps_silent part.streams stretches (datagram client message) _ replies (sends ++ []) linked (silent_then sends [] (silent_all (to_client client) (silent_to_client client) replied) silent_nothing) refl
  keeps {part = part} {replies = replies} {sends = sends} stretches (from_stream client bytes messages rest may s p) replied linked =
      subst (λ (q : List Note). Keeps (with_left client rest part.streams) stretches (exchange (stream client bytes) (stream_queries messages) replies q)) (sym (append-nil sends))
      (keeps_taken part.streams stretches client bytes messages rest linked may (taken IsPartialMessage part.streams stretches client bytes messages rest linked may s p replied))
  keeps {part = part} {replies = replies} {sends = sends} stretches (refused client bytes full) replied linked =
      subst (λ (q : List Note). Keeps part.streams stretches (exchange (stream client bytes) [] replies (q ++ stream_closed client ∷ []))) (sym (no_sends replied refl))
      (keeps_refused part.streams stretches client bytes replies linked full)
  keeps {part = part} {replies = replies} {sends = sends} stretches (at_stream_end client) replied linked =
      keeps_silent (without client part.streams) stretches (stream_end client) [] replies (sends ++ []) (linked_without IsPartialMessage client part.streams stretches linked) (silent_then sends [] (silent_all to_nobody silent_to_nobody replied) silent_nothing) refl
  keeps {part = part} {replies = replies} {sends = sends} stretches (from_feed bytes frames rest s p) replied linked =
      keeps_silent part.streams stretches (piece bytes) frames replies (sends ++ []) linked (silent_then sends [] (silent_all to_feed silent_to_feed replied) silent_nothing) refl
  keeps {part = part} {replies = replies} {sends = sends} stretches (at_bad_frame bytes frames rest s b) replied linked =
      keeps_silent part.streams stretches (piece bytes) frames replies (sends ++ closed ∷ []) linked (silent_then sends (closed ∷ []) (silent_all to_feed silent_to_feed replied) silent_closed) refl
  keeps {part = part} {replies = replies} {sends = sends} stretches at_end replied linked =
      keeps_silent part.streams stretches feed_end [] replies (sends ++ []) linked (silent_then sends [] (silent_all to_nobody silent_to_nobody replied) silent_nothing) refl
  keeps {part = part} {replies = replies} {sends = sends} stretches at_nothing replied linked =
      keeps_silent part.streams stretches nothing [] replies (sends ++ []) linked (silent_then sends [] (silent_all to_nobody silent_to_nobody replied) silent_nothing) refl
  keeps {part = part} {replies = replies} {sends = sends} stretches at_fault replied linked =
      keeps_silent part.streams stretches fault [] replies (sends ++ []) linked (silent_then sends [] (silent_all to_nobody silent_to_nobody replied) silent_nothing) refl

-- ---- all polls

behind_more : (polls : List Exchange) (poll : Exchange) (stretches : List Stretch) → behind_polls (polls ++ poll ∷ []) stretches ≡ behind_poll poll (behind_polls polls stretches)
behind_more [] poll stretches = refl
behind_more (first ∷ polls) poll stretches = behind_more polls poll (behind_poll first stretches)

kept_more : (polls : List Exchange) (poll : Exchange) (stretches : List Stretch) → AreKept stretches polls → IsKept (behind_polls polls stretches) poll → AreKept stretches (polls ++ poll ∷ [])
kept_more [] poll stretches before last = (last, tt)
kept_more (first ∷ polls) poll stretches before last = (before.0, kept_more polls poll (behind_poll first stretches) before.1 last)

pub record AllKept (streams : List Stream) (polls : List Exchange) : Type 0 where
  pub linked : AreLinked IsPartialMessage streams (behind_polls polls [])
  pub kept : AreKept [] polls

pub tell_more : (polls : List Exchange) (poll : Exchange) {frames : List Frame} {replies : List Reply} {notes : List Note} → TellAll polls frames replies notes
    → TellAll (polls ++ poll ∷ []) (frames ++ poll.frames) (replies ++ poll.replies) (notes ++ noted_by poll)
tell_more polls poll {frames = frames} {replies = replies} {notes = notes} before = record {
  frames_are = flat_map-append (λ (it : Exchange). it.frames) polls (poll ∷ []) ∙ ap (λ (q : List Frame). q ++ (poll.frames ++ [])) before.frames_are ∙ ap (λ (q : List Frame). frames ++ q) (append-nil poll.frames);
  replies_are = flat_map-append (λ (it : Exchange). it.replies) polls (poll ∷ []) ∙ ap (λ (q : List Reply). q ++ (poll.replies ++ [])) before.replies_are ∙ ap (λ (q : List Reply). replies ++ q) (append-nil poll.replies);
  notes_are = flat_map-append noted_by polls (poll ∷ []) ∙ ap (λ (q : List Note). q ++ (noted_by poll ++ [])) before.notes_are ∙ ap (λ (q : List Note). notes ++ q) (append-nil (noted_by poll));
}

kept_then : (streams after : List Stream) (polls : List Exchange) (poll : Exchange) → AllKept streams polls → Keeps after (behind_polls polls []) poll → AllKept after (polls ++ poll ∷ [])
kept_then streams after polls poll before k = record {
  linked = subst (AreLinked IsPartialMessage after) (sym (behind_more polls poll [])) k.linked;
  kept = kept_more polls poll [] before.kept (record { answered = all_answered after (behind_poll poll (behind_polls polls [])) k.linked; elsewhere = k.elsewhere; closed_are = k.closed_are });
}

module _ {kinds : ℕ} where
  pub all_kept : (polls : ℕ) (part : Parts) (frames : List Frame) (replies : List Reply) (notes : List Note) (all : DealsWithAll kinds polls part frames replies notes) → AllKept part.streams (exchanges_of all)
  all_kept _ _ _ _ _ none_yet = record { linked = tt; kept = tt }
  all_kept _ _ _ _ _ (one_more polls part after {frames = frames} {more = more} {replies = replies} {answers = answers} {notes = notes} before d) =
      let first = all_kept polls part frames replies notes before in
      kept_then part.streams after.streams (exchanges_of before) (exchange d.got more answers (d.sends ++ closings d.shut)) first (keeps (behind_polls (exchanges_of before) []) d.brings d.replied first.linked)

  pub tells_all : (polls : ℕ) (part : Parts) (frames : List Frame) (replies : List Reply) (notes : List Note) (all : DealsWithAll kinds polls part frames replies notes) → TellAll (exchanges_of all) frames replies notes
  tells_all _ _ _ _ _ none_yet = record { frames_are = refl; replies_are = refl; notes_are = refl }
  tells_all _ _ _ _ _ (one_more polls part after {frames = frames} {more = more} {replies = replies} {answers = answers} {notes = notes} {added = added} before d) =
      let poll = exchange d.got more answers (d.sends ++ closings d.shut) in
      subst (λ (q : List Note). TellAll (exchanges_of before ++ poll ∷ []) (frames ++ more) (replies ++ answers) (notes ++ q)) (sym d.notes_are)
      (tell_more (exchanges_of before) poll (tells_all polls part frames replies notes before))

  -- ---- a poll that broke off

  pub cut_short : {part : Parts} {got : Got} {frames : List Frame} {replies : List Reply} {sends : List Note} (stretches : List Stretch) → BringsFirst kinds part got frames
      → Replied (sends_of got) frames replies sends → AreLinked IsPartialMessage part.streams stretches → IsCutShort stretches (exchange got frames replies sends)
  cut_short {part = part} stretches (first_from_client client message) replied linked =
      let silent = silent_all (to_client client) (silent_to_client client) replied in
      record { begun = all_begun part.streams stretches (any_rest part.streams stretches linked); elsewhere = λ other not. silent.handed other; closed_are = silent.closed_are }
  cut_short {part = part} {replies = replies} {sends = sends} stretches (first_from_stream client bytes messages rest may s) replied linked =
      let t : Taken AnyRest (with_left client rest part.streams) stretches (exchange (stream client bytes) (stream_queries messages) replies sends) =
      taken AnyRest part.streams stretches client bytes messages rest (any_rest part.streams stretches linked) may s tt replied in
      record { begun = all_begun (with_left client rest part.streams) (behind_poll (exchange (stream client bytes) (stream_queries messages) replies sends) stretches) t.linked; elsewhere = t.elsewhere; closed_are = t.closed_are }
  cut_short {part = part} stretches (first_from_feed bytes frames rest s) replied linked =
      let silent = silent_all to_feed silent_to_feed replied in
      record { begun = all_begun part.streams stretches (any_rest part.streams stretches linked); elsewhere = λ other not. silent.handed other; closed_are = silent.closed_are }

  pub last_cut : (polls : ℕ) (part : Parts) (frames : List Frame) (replies : List Reply) (notes : List Note) (all : DealsWithAll kinds polls part frames replies notes) (last_frames : List Frame) (last_replies : List Reply) (last_notes : List Note)
      → (last : BreaksOff kinds part last_frames last_replies last_notes) → IsCutShort (behind_polls (exchanges_of all) []) (exchange last.got last_frames last_replies last.sends)
  last_cut polls part frames replies notes all last_frames last_replies last_notes last =
      cut_short (behind_polls (exchanges_of all) []) last.brings last.replied (all_kept polls part frames replies notes all).linked

  -- ---- all of it

  pub keeps_streams : (polls : ℕ) (part : Parts) (frames : List Frame) (replies : List Reply) (notes : List Note) (all : DealsWithAll kinds polls part frames replies notes) → KeepsStreams all
  keeps_streams polls part frames replies notes all = record { told = tells_all polls part frames replies notes all; kept = (all_kept polls part frames replies notes all).kept }

  pub breaks_streams : (polls : ℕ) (part : Parts) (frames : List Frame) (replies : List Reply) (notes : List Note) (all : DealsWithAll kinds polls part frames replies notes) (last_frames : List Frame) (last_replies : List Reply) (last_notes : List Note)
      → (last : BreaksOff kinds part last_frames last_replies last_notes) → BreaksStreams all last
  breaks_streams polls part frames replies notes all last_frames last_replies last_notes last = record {
    before = keeps_streams polls part frames replies notes all;
    cut = last_cut polls part frames replies notes all last_frames last_replies last_notes last;
  }

pub answers_streams : {Start X : Type 0} (kinds : ℕ) (Reached Broken : Start → List Frame → List Reply → X → Type 0) (turns : ℕ) (notes : List Note) (first : X) (how : Ending) (now : X)
    → (transcript : PollTranscript kinds Reached Broken turns notes first how now) → AnswersStreams kinds Reached Broken turns notes first how now transcript
answers_streams kinds Reached Broken turns notes first Done now done = keeps_streams turns done.part done.frames done.replies notes done.dealt
answers_streams kinds Reached Broken turns notes first Ended now ended = breaks_streams ended.polls ended.part ended.frames ended.replies ended.before ended.dealt ended.last_frames ended.last_replies ended.last_notes ended.last
