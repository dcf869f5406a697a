-- What a reader of frames holds, and what its next frame is.
use Rattle.std.specs.Prelude.{◌≡◌, ℕ, ◌+◌, List, [], ◌++◌, length, Option, Some, None, Result, Ok, Err}
use Rattle.feed_frames.specs.Frames as frames
use Rattle.feed_frames.specs.Frames.{frame_text, IsFramed, IsBadFrame, IsPartialFrame}
use Rattle.feed_frames.specs.Front.{frame_of}
use Rattle.feed_frames.specs.declared.frame.Frame.{Frame}
use Rattle.feed_frames.specs.declared.reader.BadFrame.{BadFrame}

-- the kinds that are read, the bytes fed and not given as frames, and how many bytes were fed before them
pub record Feed : Type 0 where
  pub kinds : ℕ
  pub offset : ℕ
  pub left : List ℕ

abbrev pub fresh_feed : ℕ → Feed
fresh_feed kinds = record { kinds = kinds; offset = 0; left = [] }

abbrev pub after_piece : Feed → List ℕ → Feed
after_piece feed piece = record { kinds = feed.kinds; offset = feed.offset; left = feed.left ++ piece }

-- the frame stood at the front, and what stood behind it is left
pub record Takes (old : Feed) (frame : frames.Frame) (new : Feed) : Type 0 where
  pub whole : old.left ≡ frame_text frame ++ new.left
  pub framed : IsFramed old.kinds frame
  pub kinds_are : new.kinds ≡ old.kinds
  pub offset : new.offset ≡ old.offset + length (frame_text frame)

-- what is left is a part of a frame, or nothing
pub record Waits (old new : Feed) : Type 0 where
  pub same : new ≡ old
  pub partial : IsPartialFrame old.kinds old.left

-- what is left begins no frame
pub record Sticks (old new : Feed) (offset : ℕ) : Type 0 where
  pub same : new ≡ old
  pub bad : IsBadFrame old.kinds old.left
  pub offset_is : offset ≡ old.offset

abbrev pub Gives : Feed → Feed → Result (Option Frame) BadFrame → Type 0
Gives old new (Ok (Some frame)) = Takes old (frame_of frame) new
Gives old new (Ok None) = Waits old new
Gives old new (Err stuck) = Sticks old new stuck.offset
