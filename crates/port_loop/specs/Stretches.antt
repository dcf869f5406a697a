-- What a reader may check of clients' streams in a transcript.
use Rattle.std.specs.Prelude.{◌≡◌, ℕ, Bool, false, ◌==◌, ◌&&◌, if◌then◌else◌, cond, map, List, [], ◌∷◌, ◌++◌, length}
use Rattle.std.specs.List.{flat_map, AllByRecursion}
use Rattle.byte_io.specs.Port.{Note, polled, replied, stream_replied, stream_closed, fed_back, closed, Got, datagram, stream, stream_end, piece, feed_end, nothing, fault}
use Rattle.dns_tcp.specs.Messages.{message_text, Messages, IsPartialMessage}
use Rattle.dns_tcp.specs.Streams.{Stream, may_hold}
use Rattle.feed_frames.specs.Frames.{Frame}
use Rattle.feed_frames.specs.Replies.{Reply}
use Rattle.port_loop.specs.Polls.{Parts, stream_queries}
use Rattle.port_loop.specs.Sends.{closings}
use Rattle.port_loop.specs.Transcript.{BreaksOff, DealsWithAll, none_yet, one_more, PollTranscript}
use Rattle.port_loop.specs.declared.attending.Ending.{Ending}
use Rattle.port_loop.specs.declared.attending.Ending.TheVariants.{Done, Ended}
use Rattle.port_loop.specs.declared.sending.TheConstants.{DROPPED}

-- ---- the polls of a transcript

-- what a poll brought, the frames that it completed, a reply to each, and what the port was asked before the next poll
pub record Exchange : Type 0 where
  pub got : Got
  pub frames : List Frame
  pub replies : List Reply
  pub asked : List Note

abbrev pub exchange : Got → List Frame → List Reply → List Note → Exchange
exchange got frames replies asked = record { got = got; frames = frames; replies = replies; asked = asked }

-- the polls, from the first
abbrev pub exchanges_of : {kinds polls : ℕ} {part : Parts} {frames : List Frame} {replies : List Reply} {notes : List Note} → DealsWithAll kinds polls part frames replies notes → List Exchange
exchanges_of none_yet = []
exchanges_of (one_more polls part after {more = more} {answers = answers} before d) = exchanges_of before ++ exchange d.got more answers (d.sends ++ closings d.shut) ∷ []

-- ---- what the port was asked for a client's stream

-- what was handed to this client's stream
abbrev pub handed_by : ℕ → Note → List (List ℕ)
handed_by client (polled got) = []
handed_by client (replied other bytes is_sent) = []
handed_by client (stream_replied other bytes is_sent) = if other == client then bytes ∷ [] else []
handed_by client (stream_closed other) = []
handed_by client (fed_back bytes is_sent) = []
handed_by client closed = []

abbrev pub handed_to : ℕ → List Note → List (List ℕ)
handed_to client = flat_map (handed_by client)

-- the clients whose streams were closed
abbrev pub closed_by : Note → List ℕ
closed_by (polled got) = []
closed_by (replied other bytes is_sent) = []
closed_by (stream_replied other bytes is_sent) = []
closed_by (stream_closed client) = client ∷ []
closed_by (fed_back bytes is_sent) = []
closed_by closed = []

abbrev pub closed_in : List Note → List ℕ
closed_in = flat_map closed_by

-- ---- stretches of streams

-- a stretch of a client's stream, from the piece with which the client came to be held: all its bytes, the frames and replies of the polls
-- that brought them, and what was handed back over the stream
pub record Stretch : Type 0 where
  pub client : ℕ
  pub bytes : List ℕ
  pub frames : List Frame
  pub replies : List Reply
  pub handed : List (List ℕ)

abbrev pub new_stretch : ℕ → Stretch
new_stretch client = record { client = client; bytes = []; frames = []; replies = []; handed = [] }

abbrev pub lengthened : List ℕ → Exchange → Stretch → Stretch
lengthened bytes poll stretch = record {
  client = stretch.client;
  bytes = stretch.bytes ++ bytes;
  frames = stretch.frames ++ poll.frames;
  replies = stretch.replies ++ poll.replies;
  handed = stretch.handed ++ handed_to stretch.client poll.asked;
}

-- a piece joins the client's stretch, or begins one
abbrev pub with_piece : ℕ → List ℕ → Exchange → List Stretch → List Stretch
with_piece client bytes poll [] = lengthened bytes poll (new_stretch client) ∷ []
with_piece client bytes poll (stretch ∷ stretches) =
    cond (stretch.client == client) (lengthened bytes poll stretch ∷ stretches) (stretch ∷ with_piece client bytes poll stretches)

-- the client's stretch has ended
abbrev pub without_stretch : ℕ → List Stretch → List Stretch
without_stretch client [] = []
without_stretch client (stretch ∷ stretches) = cond (stretch.client == client) stretches (stretch ∷ without_stretch client stretches)

-- a stretch as a stream of which all is left
abbrev pub whole_stream : Stretch → Stream
whole_stream stretch = record { client = stretch.client; left = stretch.bytes }

-- the client has a stretch, or there is room for one more
abbrev pub has_room : ℕ → List Stretch → Bool
has_room client stretches = may_hold client (map whole_stream stretches)

-- the stretches that go on behind a poll
abbrev pub behind_got : Got → Exchange → List Stretch → List Stretch
behind_got (datagram client message) poll stretches = stretches
behind_got (stream client bytes) poll stretches = if has_room client stretches then with_piece client bytes poll stretches else stretches
behind_got (stream_end client) poll stretches = without_stretch client stretches
behind_got (piece bytes) poll stretches = stretches
behind_got feed_end poll stretches = stretches
behind_got nothing poll stretches = stretches
behind_got fault poll stretches = stretches

abbrev pub behind_poll : Exchange → List Stretch → List Stretch
behind_poll poll stretches = behind_got poll.got poll stretches

abbrev pub behind_polls : List Exchange → List Stretch → List Stretch
behind_polls [] stretches = stretches
behind_polls (poll ∷ polls) stretches = behind_polls polls (behind_poll poll stretches)

-- ---- what holds of them

-- what is handed over a stream for a reply
abbrev pub handed_for : Reply → List (List ℕ)
handed_for reply = if reply.code == DROPPED then [] else (message_text reply.payload ∷ [])

-- its bytes are the texts of these messages and a rest; the messages are its frames, in order; each has one reply; and what was handed
-- back are the replies with their lengths, in order, but those of dropped queries
pub record AnswersFront (stretch : Stretch) (messages : List (List ℕ)) (rest : List ℕ) : Type 0 where
  pub split : Messages stretch.bytes messages rest
  pub frames_are : stretch.frames ≡ stream_queries messages
  pub one_each : length stretch.replies ≡ length messages
  pub handed_are : stretch.handed ≡ flat_map handed_for stretch.replies

-- the same of all its messages
pub record IsAnswered (stretch : Stretch) : Type 0 where
  pub messages : List (List ℕ)
  pub rest : List ℕ
  pub front : AnswersFront stretch messages rest
  pub partial : IsPartialMessage rest

-- the same of its first messages
pub record IsBegun (stretch : Stretch) : Type 0 where
  pub messages : List (List ℕ)
  pub rest : List ℕ
  pub front : AnswersFront stretch messages rest

-- the poll brought a piece of this client's stream that joined or began its stretch
abbrev pub takes_piece : ℕ → Got → List Stretch → Bool
takes_piece client (datagram other message) stretches = false
takes_piece client (stream other bytes) stretches = (other == client) && has_room other stretches
takes_piece client (stream_end other) stretches = false
takes_piece client (piece bytes) stretches = false
takes_piece client feed_end stretches = false
takes_piece client nothing stretches = false
takes_piece client fault stretches = false

-- the client of a piece that was refused
abbrev pub refused_by : Got → List Stretch → List ℕ
refused_by (datagram client message) stretches = []
refused_by (stream client bytes) stretches = if has_room client stretches then [] else (client ∷ [])
refused_by (stream_end client) stretches = []
refused_by (piece bytes) stretches = []
refused_by feed_end stretches = []
refused_by nothing stretches = []
refused_by fault stretches = []

-- behind the poll all stretches are answered. Where it brought no piece that a client's stretch took, nothing was handed to this client's
-- stream; and a stream was closed exactly where its piece was refused, once
pub record IsKept (stretches : List Stretch) (poll : Exchange) : Type 0 where
  pub answered : AllByRecursion IsAnswered (behind_poll poll stretches)
  pub elsewhere : (client : ℕ) → takes_piece client poll.got stretches ≡ false → handed_to client poll.asked ≡ []
  pub closed_are : closed_in poll.asked ≡ refused_by poll.got stretches

-- it is so at each poll, with the stretches before it
abbrev pub AreKept : List Stretch → List Exchange → Type 0
AreKept stretches [] = Unit {0}
AreKept stretches (poll ∷ polls) = IsKept stretches poll × AreKept (behind_poll poll stretches) polls

abbrev pub noted_by : Exchange → List Note
noted_by poll = polled poll.got ∷ poll.asked

-- the polls tell all frames, replies and notes of a transcript
pub record TellAll (polls : List Exchange) (frames : List Frame) (replies : List Reply) (notes : List Note) : Type 0 where
  pub frames_are : flat_map (λ (poll : Exchange). poll.frames) polls ≡ frames
  pub replies_are : flat_map (λ (poll : Exchange). poll.replies) polls ≡ replies
  pub notes_are : flat_map noted_by polls ≡ notes

-- behind the poll in which the run ended: its client's messages are answered up to the one whose reply ended the run, and no stream was closed
pub record IsCutShort (stretches : List Stretch) (poll : Exchange) : Type 0 where
  pub begun : AllByRecursion IsBegun (behind_poll poll stretches)
  pub elsewhere : (client : ℕ) → takes_piece client poll.got stretches ≡ false → handed_to client poll.asked ≡ []
  pub closed_are : closed_in poll.asked ≡ []

-- ---- all of it

-- of the polls that were dealt with
pub record KeepsStreams {kinds polls : ℕ} {part : Parts} {frames : List Frame} {replies : List Reply} {notes : List Note} (all : DealsWithAll kinds polls part frames replies notes) : Type 0 where
  pub told : TellAll (exchanges_of all) frames replies notes
  pub kept : AreKept [] (exchanges_of all)

-- the same, and of the poll in which the run ended
pub record BreaksStreams {kinds polls : ℕ} {part : Parts} {frames last_frames : List Frame} {replies last_replies : List Reply} {notes last_notes : List Note}
    (all : DealsWithAll kinds polls part frames replies notes) (last : BreaksOff kinds part last_frames last_replies last_notes) : Type 0 where
  pub before : KeepsStreams all
  pub cut : IsCutShort (behind_polls (exchanges_of all) []) (exchange last.got last_frames last_replies last.sends)

-- what a run of polls did over its clients' streams
abbrev pub AnswersStreams : {Start X : Type 0} (kinds : ℕ) (Reached Broken : Start → List Frame → List Reply → X → Type 0) (turns : ℕ) (notes : List Note) (first : X) (how : Ending) (now : X)
    → PollTranscript kinds Reached Broken turns notes first how now → Type 0
AnswersStreams kinds Reached Broken turns notes first Done now done = KeepsStreams done.dealt
AnswersStreams kinds Reached Broken turns notes first Ended now ended = BreaksStreams ended.dealt ended.last
