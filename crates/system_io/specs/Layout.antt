-- The layout of a frame of the feed: a byte of kind, four bytes of the payload's length, the lowest one first, and the payload.
use Rattle.std.specs.Prelude.{◌≡◌, ◌⊎◌, ℕ, ◌+◌, ◌<◌, ◌≤◌, List, take, drop, length}
use Rattle.std.specs.Int.{w32, from_le_bytes}

-- how long the frame is that begins with these bytes, five at least
abbrev pub frame_size : List ℕ → ℕ
frame_size bytes = 5 + from_le_bytes w32 (drop 1 (take 5 bytes))

-- the frame that begins with these bytes ends behind them
abbrev pub IsPart : List ℕ → Type 0
IsPart bytes = (length bytes < 5) ⊎ (length bytes < frame_size bytes)

-- it ends with the last of them
pub record IsWhole (bytes : List ℕ) : Type 0 where
  pub head : 5 ≤ length bytes
  pub ends : length bytes ≡ frame_size bytes
