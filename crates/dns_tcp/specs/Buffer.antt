-- The bytes of one client.
use Rattle.std.specs.Prelude.{◌≡◌, ℕ, List, ◌++◌, length, Option, Some, None}
use Rattle.dns_tcp.specs.Messages.{IsMessage, message_text, IsPartialMessage}

-- what was given of them, as far back as it is kept, and what is left
pub record Bytes : Type 0 where
  pub given : List ℕ
  pub left : List ℕ

-- a message of so many bytes is given
pub record Turns (old : Bytes) (count : ℕ) (new : Bytes) : Type 0 where
  pub message : List ℕ
  pub is_message : IsMessage message
  pub count_is : count ≡ length message
  pub left : old.left ≡ message_text message ++ new.left
  pub given : new.given ≡ old.given ++ message_text message

-- no whole message is left
pub record Stays (old new : Bytes) : Type 0 where
  pub same : new ≡ old
  pub partial : IsPartialMessage old.left

abbrev pub Steps : Bytes → Bytes → Option ℕ → Type 0
Steps old new (Some count) = Turns old count new
Steps old new None = Stays old new
