-- The room that a reply stands in.
use Rattle.std.specs.Prelude.{◌≡◌, ℕ, ◌≤◌, List, ◌∷◌, length, take}
use Rattle.std.specs.Int.{w32, to_le_bytes}
use Rattle.frame_loop.specs.declared.reply.TheConstants.{LONGEST_REPLY, REPLY_HEAD, REPLY_ROOM}

-- At the front stand the code and how many bytes of payload follow. Behind these may stand anything.
pub record IsReplyIn (code size : ℕ) (text : List ℕ) : Type 0 where
  pub room : length text ≡ REPLY_ROOM
  pub short : size ≤ LONGEST_REPLY
  pub head : take REPLY_HEAD text ≡ code ∷ to_le_bytes w32 size
