-- What was fed to a reader of frames, and what it gave, in any order.
use Rattle.std.specs.Prelude.{ℕ, ◌<◌, ◌^◌, List, [], ◌∷◌, ◌++◌, slice_index_or}
use Rattle.std.specs.List.{flat_map}
use Rattle.feed_frames.specs.Frames.{Frame, Splits, IsRest}
use Rattle.feed_frames.specs.Feed.{Feed, fresh_feed, after_piece, Takes}

-- since it was made or reset these pieces were fed, and these frames given
pub data Came (kinds : ℕ) : List (List ℕ) → List Frame → Feed → Type 0 where
  nothing_yet : Came kinds [] [] (fresh_feed kinds)
  fed : (pieces : List (List ℕ)) (frames : List Frame) (feed : Feed) (piece : List ℕ)
      → Came kinds pieces frames feed → Came kinds (pieces ++ piece ∷ []) frames (after_piece feed piece)
  gave : (pieces : List (List ℕ)) (frames : List Frame) (old : Feed) (frame : Frame) (new : Feed)
      → Came kinds pieces frames old → Takes old frame new → Came kinds pieces (frames ++ frame ∷ []) new

-- the pieces as one
abbrev pub joined : List (List ℕ) → List ℕ
joined pieces = flat_map (λ piece. piece) pieces

-- each is a number of 8 bits
abbrev pub AreBytes : List ℕ → Type 0
AreBytes bytes = (i : ℕ) → slice_index_or bytes i 0 < 2 ^ 8

-- the bytes are whole frames, and a rest that is none
pub record HasSplitting (kinds : ℕ) (bytes : List ℕ) : Type 0 where
  pub frames : List Frame
  pub rest : List ℕ
  pub splits : Splits kinds bytes frames rest
  pub is_rest : IsRest kinds rest
