-- The text of a reply: a code byte, a length of 4 bytes, low byte first, and the payload.
use Rattle.std.specs.Prelude.{ℕ, List, ◌∷◌, ◌++◌, length}
use Rattle.std.specs.List.{flat_map}
use Rattle.std.specs.Int.{w32, to_le_bytes}

pub record Reply : Type 0 where
  pub code : ℕ
  pub payload : List ℕ

abbrev pub reply_text : Reply → List ℕ
reply_text reply = reply.code ∷ (to_le_bytes w32 (length reply.payload) ++ reply.payload)

abbrev pub replies_text : List Reply → List ℕ
replies_text replies = flat_map reply_text replies
