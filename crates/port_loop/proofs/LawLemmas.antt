-- What each transcript of polls keeps.
use Rattle.std.proofs.Common.{◌≡◌, ◌⊎◌, inl, inr, ℕ, suc, ◌+◌, ◌==◌, Bool, true, false, List, [], ◌∷◌, ◌++◌, refl, sym, ap, subst, ◌∙◌, append_assoc, arith}
use Rattle.std.proofs.lemmas.Bool.{cases_Bool}
use Rattle.byte_io.specs.Port.{Note, polled, replied, stream_replied, stream_closed, fed_back, closed, Got, datagram, stream, stream_end, piece, feed_end, nothing, fault}
use Rattle.dns_tcp.specs.Streams.{left_or_nothing, with_left}
use Rattle.dns_tcp.proofs.MessageLemmas.{one_splitting as one_splitting_of}
use Rattle.feed_frames.specs.Frames.{Frame, IsPartialFrame, bad, partial}
use Rattle.feed_frames.specs.Replies.{Reply}
use Rattle.feed_frames.proofs.SplittingLemmas.{splitting, one_splitting, bad_or_partial}
use Rattle.port_loop.specs.Polls.{Parts, with_feed, with_streams, stream_queries, Closing, the_feed, the_stream, Brings, from_client, from_stream, refused, at_stream_end, from_feed, at_bad_frame, at_end, at_nothing, at_fault}
use Rattle.port_loop.specs.Sends.{to_client, to_stream, sends_of, Replied, none, one, closings}
use Rattle.port_loop.specs.Transcript.{DealsWith, DealsWithAll, none_yet, one_more}
use Rattle.port_loop.specs.Laws.{BringsSame, IsInItsPlace, polls_in}
use Rattle.port_loop.specs.declared.sending.TheConstants.{DROPPED}

-- ---- the place of each send

-- notes, and then those of the next poll
place_then : (last : Got) (notes : List Note) (got : Got) (more : List Note) → IsInItsPlace last notes → IsInItsPlace got more → IsInItsPlace last (notes ++ polled got ∷ more)
place_then last [] got more first second = second
place_then last (polled next ∷ notes) got more first second = place_then next notes got more first second
place_then last (replied client bytes is_sent ∷ notes) got more first second = (first.0, place_then last notes got more first.1 second)
place_then last (stream_replied client bytes is_sent ∷ notes) got more first second = (first.0, place_then last notes got more first.1 second)
place_then last (stream_closed client ∷ notes) got more first second = (first.0, place_then last notes got more first.1 second)
place_then last (fed_back bytes is_sent ∷ notes) got more first second = (first.0, place_then last notes got more first.1 second)
place_then last (closed ∷ notes) got more first second = (first.0, place_then last notes got more first.1 second)

-- a reply to a client, or none, and what is behind it
to_client_then : (client : ℕ) (message : List ℕ) (reply : Reply) (is_sent : Bool) (more : List Note) → IsInItsPlace (datagram client message) more
    → ((reply.code == DROPPED) ≡ true) ⊎ ((reply.code == DROPPED) ≡ false) → IsInItsPlace (datagram client message) (to_client client reply is_sent ++ more)
to_client_then client message reply is_sent more rest (inl is-dropped) = rw is-dropped rest
to_client_then client message reply is_sent more rest (inr other) = rw other (refl, rest)

to_stream_then : (client : ℕ) (bytes : List ℕ) (reply : Reply) (is_sent : Bool) (more : List Note) → IsInItsPlace (stream client bytes) more
    → ((reply.code == DROPPED) ≡ true) ⊎ ((reply.code == DROPPED) ≡ false) → IsInItsPlace (stream client bytes) (to_stream client reply is_sent ++ more)
to_stream_then client bytes reply is_sent more rest (inl is-dropped) = rw is-dropped rest
to_stream_then client bytes reply is_sent more rest (inr other) = rw other (refl, rest)

-- one reply, and what is behind it
send_then : (got : Got) (reply : Reply) (is_sent : Bool) (more : List Note) → IsInItsPlace got more → IsInItsPlace got (sends_of got reply is_sent ++ more)
send_then (datagram client message) reply is_sent more rest = to_client_then client message reply is_sent more rest (cases_Bool (reply.code == DROPPED))
send_then (stream client bytes) reply is_sent more rest = to_stream_then client bytes reply is_sent more rest (cases_Bool (reply.code == DROPPED))
send_then (stream_end client) reply is_sent more rest = rest
send_then (piece bytes) reply is_sent more rest = (tt, rest)
send_then feed_end reply is_sent more rest = rest
send_then nothing reply is_sent more rest = rest
send_then fault reply is_sent more rest = rest

sends_then : (got : Got) {frames : List Frame} {replies : List Reply} {sends : List Note} (more : List Note) → Replied (sends_of got) frames replies sends → IsInItsPlace got more → IsInItsPlace got (sends ++ more)
sends_then got more none rest = rest
sends_then got more (one frame reply is_sent frames replies notes others) rest =
    subst (λ (q : List Note). IsInItsPlace got q) (sym (append_assoc (sends_of got reply is_sent) notes more)) (send_then got reply is_sent (notes ++ more) (sends_then got more others rest))

-- ---- the number of polls

polls_in-append : (notes more : List Note) → polls_in (notes ++ more) ≡ polls_in notes + polls_in more
polls_in-append [] more = omega arith
polls_in-append (polled got ∷ notes) more = let rest = polls_in-append notes more in omega (arith, rest)
polls_in-append (replied client bytes is_sent ∷ notes) more = polls_in-append notes more
polls_in-append (stream_replied client bytes is_sent ∷ notes) more = polls_in-append notes more
polls_in-append (stream_closed client ∷ notes) more = polls_in-append notes more
polls_in-append (fed_back bytes is_sent ∷ notes) more = polls_in-append notes more
polls_in-append (closed ∷ notes) more = polls_in-append notes more

-- a send is no poll
no_poll_to : (client : ℕ) (reply : Reply) (is_sent : Bool) → ((reply.code == DROPPED) ≡ true) ⊎ ((reply.code == DROPPED) ≡ false) → polls_in (to_client client reply is_sent) ≡ 0
no_poll_to client reply is_sent (inl is-dropped) = rw is-dropped refl
no_poll_to client reply is_sent (inr other) = rw other refl

no_poll_over : (client : ℕ) (reply : Reply) (is_sent : Bool) → ((reply.code == DROPPED) ≡ true) ⊎ ((reply.code == DROPPED) ≡ false) → polls_in (to_stream client reply is_sent) ≡ 0
no_poll_over client reply is_sent (inl is-dropped) = rw is-dropped refl
no_poll_over client reply is_sent (inr other) = rw other refl

no_poll_in : (got : Got) (reply : Reply) (is_sent : Bool) → polls_in (sends_of got reply is_sent) ≡ 0
no_poll_in (datagram client message) reply is_sent = no_poll_to client reply is_sent (cases_Bool (reply.code == DROPPED))
no_poll_in (stream client bytes) reply is_sent = no_poll_over client reply is_sent (cases_Bool (reply.code == DROPPED))
no_poll_in (stream_end client) reply is_sent = refl
no_poll_in (piece bytes) reply is_sent = refl
no_poll_in feed_end reply is_sent = refl
no_poll_in nothing reply is_sent = refl
no_poll_in fault reply is_sent = refl

no_poll_among : (got : Got) {frames : List Frame} {replies : List Reply} {sends : List Note} → Replied (sends_of got) frames replies sends → polls_in sends ≡ 0
no_poll_among got none = refl
no_poll_among got (one frame reply is_sent frames replies notes others) =
    omega (arith, polls_in-append (sends_of got reply is_sent) notes, no_poll_in got reply is_sent, no_poll_among got others)

closing_is_none : (shut : List Closing) → polls_in (closings shut) ≡ 0
closing_is_none [] = refl
closing_is_none (the_feed ∷ shut) = closing_is_none shut
closing_is_none (the_stream client ∷ shut) = closing_is_none shut

module _ {kinds : ℕ} where
  -- ---- one reading of a poll

  pub one_reading : (part : Parts) (got : Got) (frames others : List Frame) (after behind : Parts) (shut others_shut : List Closing)
      → Brings kinds part got frames after shut → Brings kinds part got others behind others_shut → BringsSame frames others after behind shut others_shut
  one_reading part _ _ _ _ _ _ _ (from_client client message) (from_client _ _) = record { frames_are = refl; after_is = refl; shut_are = refl }
  one_reading part _ _ _ _ _ _ _ (from_stream client bytes messages rest h s p) (from_stream _ _ others behind _ t q) =
      let same = one_splitting_of (left_or_nothing client part.streams ++ bytes) messages others rest behind s p t q in
      record { frames_are = ap stream_queries same.messages_are; after_is = ap (λ (q : List ℕ). with_streams (with_left client q part.streams) part) same.rest_is; shut_are = refl }
  one_reading part _ _ _ _ _ _ _ (from_stream client bytes messages rest h s p) (refused _ _ full) = absurd (full h)
  one_reading part _ _ _ _ _ _ _ (refused client bytes full) (from_stream _ _ others behind h t q) = absurd (full h)
  one_reading part _ _ _ _ _ _ _ (refused client bytes full) (refused _ _ _) = record { frames_are = refl; after_is = refl; shut_are = refl }
  one_reading part _ _ _ _ _ _ _ (at_stream_end client) (at_stream_end _) = record { frames_are = refl; after_is = refl; shut_are = refl }
  one_reading part _ _ _ _ _ _ _ (from_feed bytes frames rest s p) (from_feed _ others behind t q) =
      let same = one_splitting kinds (part.feed ++ bytes) (splitting kinds frames rest s (partial p)) (splitting kinds others behind t (partial q)) in
      record { frames_are = same.frames; after_is = ap (λ (q : List ℕ). with_feed q part) same.rest; shut_are = refl }
  one_reading part _ _ _ _ _ _ _ (from_feed bytes frames rest s p) (at_bad_frame _ others behind t b) =
      let same = one_splitting kinds (part.feed ++ bytes) (splitting kinds frames rest s (partial p)) (splitting kinds others behind t (bad b)) in
      absurd (bad_or_partial kinds behind b (subst (IsPartialFrame kinds) same.rest p))
  one_reading part _ _ _ _ _ _ _ (at_bad_frame bytes frames rest s b) (from_feed _ others behind t q) =
      let same = one_splitting kinds (part.feed ++ bytes) (splitting kinds frames rest s (bad b)) (splitting kinds others behind t (partial q)) in
      absurd (bad_or_partial kinds rest b (subst (IsPartialFrame kinds) (sym same.rest) q))
  one_reading part _ _ _ _ _ _ _ (at_bad_frame bytes frames rest s b) (at_bad_frame _ others behind t d) =
      let same = one_splitting kinds (part.feed ++ bytes) (splitting kinds frames rest s (bad b)) (splitting kinds others behind t (bad d)) in
      record { frames_are = same.frames; after_is = refl; shut_are = refl }
  one_reading part _ _ _ _ _ _ _ at_end at_end = record { frames_are = refl; after_is = refl; shut_are = refl }
  one_reading part _ _ _ _ _ _ _ at_nothing at_nothing = record { frames_are = refl; after_is = refl; shut_are = refl }
  one_reading part _ _ _ _ _ _ _ at_fault at_fault = record { frames_are = refl; after_is = refl; shut_are = refl }

  -- the feed is closed behind a piece alone
  closing_behind : {part after : Parts} {got : Got} {frames : List Frame} {shut : List Closing} → Brings kinds part got frames after shut → IsInItsPlace got (closings shut)
  closing_behind (from_client client message) = tt
  closing_behind (from_stream client bytes messages rest h s p) = tt
  closing_behind (refused client bytes full) = (refl, tt)
  closing_behind (at_stream_end client) = tt
  closing_behind (from_feed bytes frames rest s p) = tt
  closing_behind (at_bad_frame bytes frames rest s b) = (tt, tt)
  closing_behind at_end = tt
  closing_behind at_nothing = tt
  closing_behind at_fault = tt

  place_more : {part after : Parts} {frames : List Frame} {replies : List Reply} (notes added : List Note) → DealsWith kinds part after frames replies added → IsInItsPlace nothing notes → IsInItsPlace nothing (notes ++ added)
  place_more notes added d before =
      subst (λ (q : List Note). IsInItsPlace nothing (notes ++ q)) (sym d.notes_are)
      (place_then nothing notes d.got (d.sends ++ closings d.shut) before (sends_then d.got (closings d.shut) d.replied (closing_behind d.brings)))

  pub in_place : (polls : ℕ) (part : Parts) (frames : List Frame) (replies : List Reply) (notes : List Note) → DealsWithAll kinds polls part frames replies notes → IsInItsPlace nothing notes
  in_place _ _ _ _ _ none_yet = tt
  in_place _ _ _ _ _ (one_more polls part after {frames = frames} {replies = replies} {notes = notes} {added = added} before d) = place_more notes added d (in_place polls part frames replies notes before)

  one_poll : {part after : Parts} {frames : List Frame} {replies : List Reply} (added : List Note) → DealsWith kinds part after frames replies added → polls_in added ≡ 1
  one_poll added d =
      let sends = no_poll_among d.got d.replied in
      let close = closing_is_none d.shut in
      let behind = polls_in-append d.sends (closings d.shut) in
      ap polls_in d.notes_are ∙ ap suc (omega (arith, sends, close, behind))

  polls_more : {part after : Parts} {frames : List Frame} {replies : List Reply} (polls : ℕ) (notes added : List Note) → DealsWith kinds part after frames replies added → polls_in notes ≡ polls → polls_in (notes ++ added) ≡ suc polls
  polls_more polls notes added d before = omega (arith, polls_in-append notes added, one_poll added d, before)

  pub counted : (polls : ℕ) (part : Parts) (frames : List Frame) (replies : List Reply) (notes : List Note) → DealsWithAll kinds polls part frames replies notes → polls_in notes ≡ polls
  counted _ _ _ _ _ none_yet = refl
  counted _ _ _ _ _ (one_more polls part after {frames = frames} {replies = replies} {notes = notes} {added = added} before d) = polls_more polls notes added d (counted polls part frames replies notes before)
