-- What a reader may check of a transcript.
use Rattle.std.specs.Prelude.{◌≡◌, ℕ, suc, List, [], ◌∷◌}
use Rattle.byte_io.specs.Port.{Note, polled, replied, stream_replied, stream_closed, fed_back, closed, Got, datagram, stream, stream_end, piece, feed_end, nothing, fault}
use Rattle.feed_frames.specs.Frames.{Frame}
use Rattle.port_loop.specs.Polls.{Parts, Closing}

-- what two readings of a poll bring is the same
pub record BringsSame (frames others : List Frame) (after behind : Parts) (shut others_shut : List Closing) : Type 0 where
  pub frames_are : frames ≡ others
  pub after_is : after ≡ behind
  pub shut_are : shut ≡ others_shut

-- the poll brought a datagram of this client
abbrev pub IsOf : ℕ → Got → Type 0
IsOf client (datagram sender message) = client ≡ sender
IsOf client (stream sender bytes) = ⊥
IsOf client (stream_end sender) = ⊥
IsOf client (piece bytes) = ⊥
IsOf client feed_end = ⊥
IsOf client nothing = ⊥
IsOf client fault = ⊥

-- the poll brought a piece of this client's stream
abbrev pub IsOfStream : ℕ → Got → Type 0
IsOfStream client (datagram sender message) = ⊥
IsOfStream client (stream sender bytes) = client ≡ sender
IsOfStream client (stream_end sender) = ⊥
IsOfStream client (piece bytes) = ⊥
IsOfStream client feed_end = ⊥
IsOfStream client nothing = ⊥
IsOfStream client fault = ⊥

-- the poll brought a piece of the feed
abbrev pub IsPiece : Got → Type 0
IsPiece (datagram sender message) = ⊥
IsPiece (stream sender bytes) = ⊥
IsPiece (stream_end sender) = ⊥
IsPiece (piece bytes) = Unit {0}
IsPiece feed_end = ⊥
IsPiece nothing = ⊥
IsPiece fault = ⊥

-- with this poll made last: a reply to a client stands behind a poll that brought a datagram of this client, a reply over a client's
-- stream and the closing of the stream behind one that brought a piece of it, and a reply to the feed and the closing of the feed behind
-- one that brought a piece of the feed, without another poll between them
abbrev pub IsInItsPlace : Got → List Note → Type 0
IsInItsPlace last [] = Unit {0}
IsInItsPlace last (polled got ∷ notes) = IsInItsPlace got notes
IsInItsPlace last (replied client bytes is_sent ∷ notes) = IsOf client last × IsInItsPlace last notes
IsInItsPlace last (stream_replied client bytes is_sent ∷ notes) = IsOfStream client last × IsInItsPlace last notes
IsInItsPlace last (stream_closed client ∷ notes) = IsOfStream client last × IsInItsPlace last notes
IsInItsPlace last (fed_back bytes is_sent ∷ notes) = IsPiece last × IsInItsPlace last notes
IsInItsPlace last (closed ∷ notes) = IsPiece last × IsInItsPlace last notes

-- how many polls were made
abbrev pub polls_in : List Note → ℕ
polls_in [] = 0
polls_in (polled got ∷ notes) = suc (polls_in notes)
polls_in (replied client bytes is_sent ∷ notes) = polls_in notes
polls_in (stream_replied client bytes is_sent ∷ notes) = polls_in notes
polls_in (stream_closed client ∷ notes) = polls_in notes
polls_in (fed_back bytes is_sent ∷ notes) = polls_in notes
polls_in (closed ∷ notes) = polls_in notes
