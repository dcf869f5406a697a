-- One poll, by what it brought.
use Rattle.std.specs.Prelude.{Result, Ok, Err}
use Rattle.std.proofs.Common.{◌≡◌, ℕ, ◌+◌, ◌<◌, ◌≤◌, List, [], ◌∷◌, ◌++◌, length, refl, sym, ap, subst, length-append, arith}
use Rattle.std.proofs.lemmas.List.{append-nil, length-map}
use Rattle.byte_io.specs.Port.{Note, polled, closed, stream_closed, Got, datagram, stream, stream_end, piece, feed_end, PortSeen, Notes}
use Rattle.byte_io.specs.declared.port.TheConstants.{POLL_ROOM}
use Rattle.dns_tcp.specs.Streams.{Stream, MayHold, left_or_nothing, without}
use Rattle.feed_frames.specs.Frames.{Frame, IsPartialFrame, nothing}
use Rattle.feed_frames.specs.Feed.{Feed, fresh_feed, after_piece}
use Rattle.feed_frames.specs.Replies.{Reply}
use Rattle.port_loop.specs.Polls.{query_of, stream_query_of, stream_queries, AreParts, the_feed, the_stream, Brings, from_client, from_stream, refused, at_stream_end, from_feed, at_bad_frame, at_end, first_from_client, first_from_stream, first_from_feed}
use Rattle.port_loop.specs.Sends.{to_client, SendsToFeed, none}
use Rattle.port_loop.specs.Streaming.{Counter, counter, AnswersWhole, TakesPiece, takes, lets_go, BreaksIn, AnswersStream}
use Rattle.port_loop.specs.Answering.{held, AnswersFrame, MayGoOn, Answers}
use Rattle.frame_loop.specs.Answering.{Desk, desk, fed_to, one_more, HaltsAtPart, HaltsAtBad, HaltsBehind}
use Rattle.port_loop.specs.Attending.{Station, station, parts_of, GoesThrough, waits, closes, AnswersPiece, Deals, Breaks, AnswersPoll}
use Rattle.port_loop.proofs.NoteLemmas.{Notes_append, replied_one, sent_all}
use Rattle.port_loop.proofs.StreamLemmas.{parts_with, parts_without}
use Rattle.frame_loop.proofs.DeskLemmas.{leads_nowhere}

-- a port that a poll brought a datagram or a piece of this client from
pub record Asked : Type 0 where
  pub port : PortSeen
  pub client : ℕ
  pub message : List ℕ

-- the next poll may be made
pub record WaitsAt {X : Type 0} (kinds : ℕ) (Ready : X → Type 0) (old : Station X) : Type 0 where
  pub ready : Ready old.now
  pub partial : IsPartialFrame kinds old.feed.left
  pub parts : AreParts old.streams

-- ---- a piece of the feed

-- a port, and the bytes that aren't answered
pub record Beside : Type 0 where
  pub port : PortSeen
  pub feed : Feed

-- a poll brought a piece, which was fed
pub record Feeds (old : Beside) (bytes : List ℕ) (mid : Beside) : Type 0 where
  pub noted : Notes old.port mid.port (polled (piece bytes) ∷ [])
  pub grown : mid.feed ≡ after_piece old.feed bytes
  pub within : length bytes ≤ POLL_ROOM

fed_more : (old new : Feed) (bytes : List ℕ) → fed_to new ≡ fed_to (after_piece old bytes) → length bytes ≤ POLL_ROOM → fed_to new ≤ fed_to old + POLL_ROOM
fed_more old new bytes fed within = omega (arith, fed, within, length-append old.left bytes)

-- the feed as it was, with the piece behind it
abbrev with_piece : {X : Type 0} → Station X → PortSeen → List ℕ → Desk PortSeen X
with_piece old mid bytes = desk mid (after_piece old.feed bytes) old.now

-- where the answering of the feed came to, with the streams as they were
abbrev pub at_streams : {X : Type 0} → Station X → Desk PortSeen X → Station X
at_streams old new = station new.outlet new.feed old.streams new.now

abbrev beside : {X : Type 0} → Station X → Beside
beside old = record { port = old.port; feed = old.feed }

module _ {kinds : ℕ} where
  -- ---- what brings no frame

  -- nothing came, or the poll failed
  pub brings_nothing : {Start X : Type 0} (Ready : X → Type 0) (Reached : Start → List Frame → List Reply → X → Type 0) (old : Station X) (port : PortSeen) (got : Got)
      → Brings kinds (parts_of old) got [] (parts_of old) [] → Notes old.port port (polled got ∷ []) → Ready old.now → IsPartialFrame kinds old.feed.left → AreParts old.streams → Deals kinds Ready Reached old (station port old.feed old.streams old.now)
  brings_nothing Ready Reached old port got brings noted ready partial parts = record {
    frames = [];
    replies = [];
    notes = polled got ∷ [];
    deals = record { got = got; shut = []; sends = []; brings = brings; replied = none; notes_are = refl };
    noted = noted;
    leads = leads_nowhere Reached old.now;
    ready = ready;
    partial = partial;
    parts = parts;
    kinds_are = refl;
    fed = omega arith;
  }

  -- the feed has ended, and what it brought was forgotten
  pub brings_end : {Start X : Type 0} (Ready : X → Type 0) (Reached : Start → List Frame → List Reply → X → Type 0) (old : Station X) (port : PortSeen) (feed : Feed)
      → Notes old.port port (polled feed_end ∷ []) → feed ≡ fresh_feed old.feed.kinds → Ready old.now → AreParts old.streams → Deals kinds Ready Reached old (station port feed old.streams old.now)
  brings_end Ready Reached old port feed noted fresh ready parts = subst (λ (f : Feed). Deals kinds Ready Reached old (station port f old.streams old.now)) (sym fresh) (record {
    frames = [];
    replies = [];
    notes = polled feed_end ∷ [];
    deals = record { got = feed_end; shut = []; sends = []; brings = at_end; replied = none; notes_are = refl };
    noted = noted;
    leads = leads_nowhere Reached old.now;
    ready = ready;
    partial = nothing refl;
    parts = parts;
    kinds_are = refl;
    fed = omega arith;
  })

  -- ---- a datagram

  query_deals : {Start X : Type 0} {Ready : X → Type 0} {Reached : Start → List Frame → List Reply → X → Type 0} {old : Station X} {mid port : PortSeen} {now : X} (client : ℕ) (message : List ℕ)
      → Notes old.port mid (polled (datagram client message) ∷ []) → MayGoOn Ready Reached (to_client client) (query_of message) (held mid old.now) (held port now)
      → IsPartialFrame kinds old.feed.left → AreParts old.streams → Deals kinds Ready Reached old (station port old.feed old.streams now)
  query_deals {old = old} {mid = mid} {port = port} client message noted goes partial parts =
      let answer = goes.answered in
      let sends = to_client client answer.reply answer.sent.is_sent in
      let all = Notes_append old.port mid port (polled (datagram client message) ∷ []) sends noted answer.sent.noted in
      record {
        frames = query_of message ∷ [];
        replies = answer.reply ∷ [];
        notes = polled (datagram client message) ∷ sends;
        deals = record {
          got = datagram client message;
          shut = [];
          sends = sends;
          brings = from_client client message;
          replied = replied_one (to_client client) (query_of message) answer.reply answer.sent.is_sent;
          notes_are = ap (λ (q : List Note). polled (datagram client message) ∷ q) (sym (append-nil sends));
        };
        noted = all;
        leads = answer.leads;
        ready = goes.ready;
        partial = partial;
        parts = parts;
        kinds_are = refl;
        fed = omega arith;
      }

  query_breaks : {Start X : Type 0} {Reached Broken : Start → List Frame → List Reply → X → Type 0} {old : Station X} {mid port : PortSeen} {now : X} (client : ℕ) (message : List ℕ)
      → Notes old.port mid (polled (datagram client message) ∷ []) → AnswersFrame Reached Broken (to_client client) (query_of message) (held mid old.now) (held port now)
      → Breaks kinds Reached Broken old (station port old.feed old.streams now)
  query_breaks {old = old} {mid = mid} {port = port} client message noted answer =
      let sends = to_client client answer.reply answer.sent.is_sent in
      record {
        frames = query_of message ∷ [];
        replies = answer.reply ∷ [];
        notes = polled (datagram client message) ∷ sends;
        breaks = record {
          got = datagram client message;
          sends = sends;
          brings = first_from_client client message;
          some = omega arith;
          replied = replied_one (to_client client) (query_of message) answer.reply answer.sent.is_sent;
          notes_are = refl;
        };
        noted = Notes_append old.port mid port (polled (datagram client message) ∷ []) sends noted answer.sent.noted;
        leads = answer.leads;
      }

  piece_waits : {Start X : Type 0} {Ready : X → Type 0} {Reached : Start → List Frame → List Reply → X → Type 0} (old : Station X) (mid : PortSeen) (bytes : List ℕ) (new : Desk PortSeen X)
      → Notes old.port mid (polled (piece bytes) ∷ []) → length bytes ≤ POLL_ROOM → AreParts old.streams → HaltsAtPart kinds SendsToFeed Ready Reached (with_piece old mid bytes) new → Deals kinds Ready Reached old (at_streams old new)
  piece_waits old mid bytes new noted within parts h =
      let a = h.answered in
      let all = sent_all a.given in
      record {
        frames = a.frames;
        replies = a.replies;
        notes = polled (piece bytes) ∷ all.sends;
        deals = record {
          got = piece bytes;
          shut = [];
          sends = all.sends;
          brings = from_feed bytes a.frames new.feed.left a.split h.partial;
          replied = all.replied;
          notes_are = ap (λ (q : List Note). polled (piece bytes) ∷ q) (sym (append-nil all.sends));
        };
        noted = Notes_append old.port mid new.outlet (polled (piece bytes) ∷ []) all.sends noted all.noted;
        leads = a.leads;
        ready = h.ready;
        partial = h.partial;
        parts = parts;
        kinds_are = a.kinds_are;
        fed = fed_more old.feed new.feed bytes a.fed within;
      }

  piece_closes : {Start X : Type 0} {Ready : X → Type 0} {Reached : Start → List Frame → List Reply → X → Type 0} (old : Station X) (mid : PortSeen) (bytes : List ℕ) (bad : Desk PortSeen X) (offset : ℕ) (port : PortSeen)
      → Notes old.port mid (polled (piece bytes) ∷ []) → AreParts old.streams → HaltsAtBad kinds SendsToFeed Ready Reached (with_piece old mid bytes) bad offset → Notes bad.outlet port (closed ∷ []) → Deals kinds Ready Reached old (station port (fresh_feed bad.feed.kinds) old.streams bad.now)
  piece_closes old mid bytes bad offset port noted parts h close =
      let a = h.answered in
      let all = sent_all a.given in
      record {
        frames = a.frames;
        replies = a.replies;
        notes = polled (piece bytes) ∷ (all.sends ++ closed ∷ []);
        deals = record {
          got = piece bytes;
          shut = the_feed ∷ [];
          sends = all.sends;
          brings = at_bad_frame bytes a.frames bad.feed.left a.split h.bad;
          replied = all.replied;
          notes_are = refl;
        };
        noted = Notes_append old.port mid port (polled (piece bytes) ∷ []) (all.sends ++ closed ∷ []) noted (Notes_append mid bad.outlet port all.sends (closed ∷ []) all.noted close);
        leads = a.leads;
        ready = h.ready;
        partial = nothing refl;
        parts = parts;
        kinds_are = a.kinds_are;
        fed = omega arith;
      }

  goes_through : {Start X : Type 0} {Ready : X → Type 0} {Reached : Start → List Frame → List Reply → X → Type 0} (old : Station X) (mid : PortSeen) (bytes : List ℕ) (new : Desk PortSeen X)
      → Notes old.port mid (polled (piece bytes) ∷ []) → length bytes ≤ POLL_ROOM → AreParts old.streams → GoesThrough kinds Ready Reached (with_piece old mid bytes) new → Deals kinds Ready Reached old (at_streams old new)
  goes_through old mid bytes new noted within parts (waits h) = piece_waits old mid bytes new noted within parts h
  goes_through {Ready = Ready} {Reached = Reached} old mid bytes new noted within parts (closes port feed offset h close fresh) =
      subst (λ (f : Feed). Deals kinds Ready Reached old (station new.outlet f old.streams new.now)) (sym fresh) (piece_closes old mid bytes (desk port feed new.now) offset new.outlet noted parts h close)

  broken_off : {Start X : Type 0} {Reached Broken : Start → List Frame → List Reply → X → Type 0} (old : Station X) (mid : PortSeen) (bytes : List ℕ) (new : Desk PortSeen X)
      → Notes old.port mid (polled (piece bytes) ∷ []) → HaltsBehind kinds SendsToFeed SendsToFeed Reached Broken (with_piece old mid bytes) new → Breaks kinds Reached Broken old (at_streams old new)
  broken_off old mid bytes new noted e =
      let all = sent_all (one_more e.frame e.reply e.given e.last) in
      record {
        frames = e.frames ++ e.frame ∷ [];
        replies = e.replies ++ e.reply ∷ [];
        notes = polled (piece bytes) ∷ all.sends;
        breaks = record {
          got = piece bytes;
          sends = all.sends;
          brings = first_from_feed bytes (e.frames ++ e.frame ∷ []) new.feed.left e.split;
          some = omega (arith, length-append e.frames (e.frame ∷ []));
          replied = all.replied;
          notes_are = refl;
        };
        noted = Notes_append old.port mid new.outlet (polled (piece bytes) ∷ []) all.sends noted all.noted;
        leads = e.leads;
      }

  -- ---- a client's stream

  -- it has ended, and what is left of it was forgotten
  pub brings_stream_end : {Start X : Type 0} (Ready : X → Type 0) (Reached : Start → List Frame → List Reply → X → Type 0) (old : Station X) (client : ℕ) (port : PortSeen) (streams : List Stream)
      → Notes old.port port (polled (stream_end client) ∷ []) → streams ≡ without client old.streams → Ready old.now → IsPartialFrame kinds old.feed.left → AreParts old.streams
      → Deals kinds Ready Reached old (station port old.feed streams old.now)
  brings_stream_end Ready Reached old client port streams noted are ready partial parts =
      subst (λ (ss : List Stream). Deals kinds Ready Reached old (station port old.feed ss old.now)) (sym are) (record {
        frames = [];
        replies = [];
        notes = polled (stream_end client) ∷ [];
        deals = record { got = stream_end client; shut = []; sends = []; brings = at_stream_end client; replied = none; notes_are = refl };
        noted = noted;
        leads = leads_nowhere Reached old.now;
        ready = ready;
        partial = partial;
        parts = parts_without client old.streams parts;
        kinds_are = refl;
        fed = omega arith;
      })

module _ {kinds : ℕ} {Start X : Type 0} {Reached : Start → List Frame → List Reply → X → Type 0} (old : Station X) (client : ℕ) (bytes : List ℕ) (mid : PortSeen) (noted : Notes old.port mid (polled (stream client bytes) ∷ [])) where
  -- all messages that the piece completes were answered
  stream_takes : {Ready : X → Type 0} (new : Counter X) → IsPartialFrame kinds old.feed.left → AreParts old.streams → MayHold client old.streams
      → AnswersWhole Ready Reached client (left_or_nothing client old.streams ++ bytes) (counter mid old.streams old.now) new → Deals kinds Ready Reached old (station new.port old.feed new.streams new.now)
  stream_takes {Ready = Ready} new partial parts may_hold w =
      let a = w.answered in
      subst (λ (ss : List Stream). Deals kinds Ready Reached old (station new.port old.feed ss new.now)) (sym a.streams_are) (record {
        frames = stream_queries a.messages;
        replies = a.replies;
        notes = polled (stream client bytes) ∷ a.sends;
        deals = record {
          got = stream client bytes;
          shut = [];
          sends = a.sends;
          brings = from_stream client bytes a.messages a.rest may_hold a.split w.partial;
          replied = a.replied;
          notes_are = ap (λ (q : List Note). polled (stream client bytes) ∷ q) (sym (append-nil a.sends));
        };
        noted = Notes_append old.port mid new.port (polled (stream client bytes) ∷ []) a.sends noted a.noted;
        leads = a.leads;
        ready = w.ready;
        partial = partial;
        parts = parts_with client a.rest old.streams w.partial parts;
        kinds_are = refl;
        fed = omega arith;
      })

  -- the client can't be held
  stream_refused : (Ready : X → Type 0) (port : PortSeen) → IsPartialFrame kinds old.feed.left → AreParts old.streams → Ready old.now → ¬ (MayHold client old.streams) → Notes mid port (stream_closed client ∷ [])
      → Deals kinds Ready Reached old (station port old.feed old.streams old.now)
  stream_refused Ready port partial parts ready full close = record {
    frames = [];
    replies = [];
    notes = polled (stream client bytes) ∷ stream_closed client ∷ [];
    deals = record { got = stream client bytes; shut = the_stream client ∷ []; sends = []; brings = refused client bytes full; replied = none; notes_are = refl };
    noted = Notes_append old.port mid port (polled (stream client bytes) ∷ []) (stream_closed client ∷ []) noted close;
    leads = leads_nowhere Reached old.now;
    ready = ready;
    partial = partial;
    parts = parts;
    kinds_are = refl;
    fed = omega arith;
  }

  pub stream_deals : {Ready : X → Type 0} (new : Counter X) → Ready old.now → IsPartialFrame kinds old.feed.left → AreParts old.streams → TakesPiece Ready Reached client bytes (counter mid old.streams old.now) new
      → Deals kinds Ready Reached old (station new.port old.feed new.streams new.now)
  stream_deals new ready partial parts (takes may_hold w) = stream_takes new partial parts may_hold w
  stream_deals {Ready = Ready} new ready partial parts (lets_go g) =
      subst (λ (ss : List Stream). Deals kinds Ready Reached old (station new.port old.feed ss new.now)) (sym g.streams_are)
      (subst (λ (x : X). Deals kinds Ready Reached old (station new.port old.feed old.streams x)) (sym g.now_is) (stream_refused Ready new.port partial parts ready g.full g.noted))

  pub stream_breaks : {Broken : Start → List Frame → List Reply → X → Type 0} (new : Counter X) → BreaksIn Reached Broken client bytes (counter mid old.streams old.now) new
      → Breaks kinds Reached Broken old (station new.port old.feed new.streams new.now)
  stream_breaks new b =
      let a = b.first.answered in
      record {
        frames = stream_queries a.messages;
        replies = a.replies;
        notes = polled (stream client bytes) ∷ a.sends;
        breaks = record {
          got = stream client bytes;
          sends = a.sends;
          brings = first_from_stream client bytes a.messages a.rest b.may_hold a.split;
          some = subst (λ (n : ℕ). 0 < n) (sym (length-map a.messages stream_query_of)) b.first.some;
          replied = a.replied;
          notes_are = refl;
        };
        noted = Notes_append old.port mid new.port (polled (stream client bytes) ∷ []) a.sends noted a.noted;
        leads = a.leads;
      }

-- ---- whatever came of it

pub query_dealt : {Start X A E : Type 0} (kinds : ℕ) (Ready : X → Type 0) (Reached Broken : Start → List Frame → List Reply → X → Type 0) (old : Station X) (asked : Asked) (port : PortSeen) (now : X) (result : Result A E)
    → Notes old.port asked.port (polled (datagram asked.client asked.message) ∷ []) → IsPartialFrame kinds old.feed.left → AreParts old.streams
    → Answers Ready Reached Broken (to_client asked.client) (query_of asked.message) (held asked.port old.now) (held port now) result → AnswersPoll kinds Ready Reached Broken old (station port old.feed old.streams now) result
query_dealt kinds Ready Reached Broken old asked port now (Ok done) noted partial parts goes = query_deals asked.client asked.message noted goes partial parts
query_dealt kinds Ready Reached Broken old asked port now (Err over) noted partial parts answer = query_breaks asked.client asked.message noted answer

pub piece_dealt : {Start X A E : Type 0} (kinds : ℕ) (Ready : X → Type 0) (Reached Broken : Start → List Frame → List Reply → X → Type 0) (old : Station X) (bytes : List ℕ) (mid : Beside) (new : Desk PortSeen X) (result : Result A E)
    → Feeds (beside old) bytes mid → AreParts old.streams → AnswersPiece kinds Ready Reached Broken (desk mid.port mid.feed old.now) new result → AnswersPoll kinds Ready Reached Broken old (at_streams old new) result
piece_dealt kinds Ready Reached Broken old bytes mid new (Ok done) f parts goes =
    goes_through old mid.port bytes new f.noted f.within parts (subst (λ (q : Feed). GoesThrough kinds Ready Reached (desk mid.port q old.now) new) f.grown goes)
piece_dealt kinds Ready Reached Broken old bytes mid new (Err over) f parts e =
    broken_off old mid.port bytes new f.noted (subst (λ (q : Feed). HaltsBehind kinds SendsToFeed SendsToFeed Reached Broken (desk mid.port q old.now) new) f.grown e)

pub stream_dealt : {Start X A E : Type 0} (kinds : ℕ) (Ready : X → Type 0) (Reached Broken : Start → List Frame → List Reply → X → Type 0) (old : Station X) (asked : Asked) (new : Counter X) (result : Result A E)
    → Notes old.port asked.port (polled (stream asked.client asked.message) ∷ []) → WaitsAt kinds Ready old
    → AnswersStream Ready Reached Broken asked.client asked.message (counter asked.port old.streams old.now) new result → AnswersPoll kinds Ready Reached Broken old (station new.port old.feed new.streams new.now) result
stream_dealt kinds Ready Reached Broken old asked new (Ok done) noted w goes = stream_deals old asked.client asked.message asked.port noted new w.ready w.partial w.parts goes
stream_dealt kinds Ready Reached Broken old asked new (Err over) noted w b = stream_breaks old asked.client asked.message asked.port noted new b
