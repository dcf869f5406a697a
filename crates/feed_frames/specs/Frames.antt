-- Frames: a kind byte, a length of 4 bytes, low byte first, and the payload. Whoever reads them says which kinds it reads.
use Rattle.std.specs.Prelude.{◌≡◌, ℕ, ◌<◌, ◌^◌, List, [], ◌∷◌, ◌++◌, length}
use Rattle.std.specs.List.{flat_map, AllByRecursion}
use Rattle.std.specs.Int.{w32, to_le_bytes}
use Rattle.feed_frames.specs.Kinds.{IsKind, IsLength}

pub record Frame : Type 0 where
  pub kind : ℕ
  pub payload : List ℕ

abbrev pub frame_text : Frame → List ℕ
frame_text frame = frame.kind ∷ (to_le_bytes w32 (length frame.payload) ++ frame.payload)

abbrev pub frames_text : List Frame → List ℕ
frames_text frames = flat_map frame_text frames

-- the frame is of a kind that is read, and its payload has a length that the kind allows
abbrev pub IsFramed : ℕ → Frame → Type 0
IsFramed kinds frame = IsLength kinds frame.kind (length frame.payload)

-- the first byte is no kind, or a kind and a length that it can't have stand there
pub data IsBadFrame (kinds : ℕ) (bytes : List ℕ) : Type 0 where
  unknown_kind : (kind : ℕ) (rest : List ℕ) → bytes ≡ kind ∷ rest → ¬ (IsKind kinds kind) → IsBadFrame kinds bytes
  wrong_length : (kind n : ℕ) (rest : List ℕ) → bytes ≡ kind ∷ (to_le_bytes w32 n ++ rest) → n < 2 ^ 32
      → IsKind kinds kind → ¬ (IsLength kinds kind n) → IsBadFrame kinds bytes

-- less than a whole frame: nothing, a kind with a part of the length, or a part of the payload
pub data IsPartialFrame (kinds : ℕ) (bytes : List ℕ) : Type 0 where
  nothing : bytes ≡ [] → IsPartialFrame kinds bytes
  header_cut : (kind : ℕ) (rest : List ℕ) → bytes ≡ kind ∷ rest → IsKind kinds kind → length rest < 4 → IsPartialFrame kinds bytes
  payload_cut : (kind n : ℕ) (payload : List ℕ) → bytes ≡ kind ∷ (to_le_bytes w32 n ++ payload)
      → IsKind kinds kind → IsLength kinds kind n → length payload < n → IsPartialFrame kinds bytes

-- whole frames, one after the other, and what is left
pub record Splits (kinds : ℕ) (bytes : List ℕ) (frames : List Frame) (rest : List ℕ) : Type 0 where
  pub whole : bytes ≡ frames_text frames ++ rest
  pub framed : AllByRecursion (IsFramed kinds) frames

-- what is left is no whole frame
pub data IsRest (kinds : ℕ) (bytes : List ℕ) : Type 0 where
  bad : IsBadFrame kinds bytes → IsRest kinds bytes
  partial : IsPartialFrame kinds bytes → IsRest kinds bytes
