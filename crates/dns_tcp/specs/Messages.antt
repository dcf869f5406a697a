-- Messages over a stream: each is preceded by its length in two bytes, high byte first (RFC 1035, 4.2.2; RFC 7766, 8).
use Rattle.std.specs.Prelude.{◌≡◌, ℕ, ◌<◌, ◌^◌, List, ◌++◌, length, slice_index_or, Option, Some, None}
use Rattle.std.specs.List.{flat_map, AllByRecursion}
use Rattle.std.specs.Int.{w16, to_be_bytes}

-- two bytes can tell its length
abbrev pub IsMessage : List ℕ → Type 0
IsMessage message = length message < 2 ^ 16

-- a message behind its length
abbrev pub message_text : List ℕ → List ℕ
message_text message = to_be_bytes w16 (length message) ++ message

abbrev pub messages_text : List (List ℕ) → List ℕ
messages_text messages = flat_map message_text messages

-- whole messages, one after the other, and what is left
pub record Messages (bytes : List ℕ) (messages : List (List ℕ)) (rest : List ℕ) : Type 0 where
  pub whole : bytes ≡ messages_text messages ++ rest
  pub are_messages : AllByRecursion IsMessage messages

-- less than a whole message, or nothing: a message's text that misses its end
pub record IsPartialMessage (bytes : List ℕ) : Type 0 where
  pub message : List ℕ
  pub missing : List ℕ
  pub is_message : IsMessage message
  pub whole : message_text message ≡ bytes ++ missing
  pub cut : 0 < length missing

-- the bytes begin with this message
pub record BeginsWith (bytes message : List ℕ) : Type 0 where
  pub rest : List ℕ
  pub is_message : IsMessage message
  pub whole : bytes ≡ message_text message ++ rest

-- each is a number of 8 bits
abbrev pub AreBytes : List ℕ → Type 0
AreBytes bytes = (i : ℕ) → slice_index_or bytes i 0 < 2 ^ 8

-- the bytes are whole messages, and a part of one or nothing
pub record HasSplitting (bytes : List ℕ) : Type 0 where
  pub messages : List (List ℕ)
  pub rest : List ℕ
  pub splits : Messages bytes messages rest
  pub is_partial : IsPartialMessage rest

-- the bytes begin with a message of so many bytes
pub record BeginsWithBytes (bytes : List ℕ) (count : ℕ) : Type 0 where
  pub message : List ℕ
  pub count_is : count ≡ length message
  pub begins : BeginsWith bytes message

abbrev pub IsFront : List ℕ → Option ℕ → Type 0
IsFront bytes (Some count) = BeginsWithBytes bytes count
IsFront bytes None = IsPartialMessage bytes
