-- What of a frame of the feed was read, and what is read next.
use Rattle.std.specs.Prelude.{◌≡◌, ◌⊎◌, ℕ, List, [], ◌++◌, take, length}
use Rattle.system_io.specs.Layout.{IsPart, IsWhole}
use Rattle.system_io.specs.declared.frame_end.FrameEnd.{FrameEnd}

-- these bytes were read since the last frame's end
pub record Stands (frame : FrameEnd) (bytes : List ℕ) : Type 0 where
  pub size : length bytes ≡ frame.count
  pub head : take 5 bytes ≡ take frame.count frame.head

-- they are a part of a frame, or a whole one, behind which another begins
abbrev pub EndsWithin : FrameEnd → List ℕ → Type 0
EndsWithin frame bytes = (IsPart bytes × Stands frame bytes) ⊎ (IsWhole bytes × Stands frame [])

-- The bytes of the piece are of one frame: with those that were read of it they are no more than it.
abbrev pub GoesOn : FrameEnd → List ℕ → FrameEnd → Type 0
GoesOn old piece new = (before : List ℕ) → Stands old before → EndsWithin new (before ++ piece)
