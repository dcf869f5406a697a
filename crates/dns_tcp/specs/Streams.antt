-- The streams of clients, in the order in which they came to be held.
use Rattle.std.specs.Prelude.{◌≡◌, ℕ, ◌≤◌, Bool, ◌==◌, ◌||◌, cond, nat_lt, IsTrue, List, [], ◌∷◌, ◌++◌, length, Option, Some, None, unwrap_or, is_some, IfSome}
use Rattle.std.specs.Borrow.{Bor}
use Rattle.dns_tcp.specs.Messages.{IsMessage, message_text, IsPartialMessage}
use Rattle.dns_tcp.specs.declared.streams.TheConstants.{CLIENTS}

-- a client, and what is left of its bytes: those that were fed and not given as messages
pub record Stream : Type 0 where
  pub client : ℕ
  pub left : List ℕ

-- what is left of a client, if it is held
abbrev pub left_of : ℕ → List Stream → Option (List ℕ)
left_of client [] = None
left_of client (stream ∷ streams) = cond (stream.client == client) (Some stream.left) (left_of client streams)

abbrev pub left_or_nothing : ℕ → List Stream → List ℕ
left_or_nothing client streams = unwrap_or (left_of client streams) []

-- this is left of the client now; one that wasn't held comes last
abbrev pub with_left : ℕ → List ℕ → List Stream → List Stream
with_left client left [] = record { client = client; left = left } ∷ []
with_left client left (stream ∷ streams) =
    cond (stream.client == client) (record { client = client; left = left } ∷ streams) (stream ∷ with_left client left streams)

-- the client isn't held now
abbrev pub without : ℕ → List Stream → List Stream
without client [] = []
without client (stream ∷ streams) = cond (stream.client == client) streams (stream ∷ without client streams)

-- the client that came to be held first
abbrev pub first_client : List Stream → Option ℕ
first_client [] = None
first_client (stream ∷ streams) = Some stream.client

abbrev pub is_held : ℕ → List Stream → Bool
is_held client streams = is_some (left_of client streams)

-- the client is held, or there is room for one more
abbrev pub may_hold : ℕ → List Stream → Bool
may_hold client streams = is_held client streams || nat_lt (length streams) CLIENTS

abbrev pub MayHold : ℕ → List Stream → Type 0
MayHold client streams = IsTrue (may_hold client streams)

-- no whole message of the client is left
abbrev pub IsWaiting : ℕ → List Stream → Type 0
IsWaiting client streams = IfSome (left_of client streams) IsPartialMessage

-- no client is held twice
abbrev pub AreDistinct : List Stream → Type 0
AreDistinct [] = Unit {0}
AreDistinct (stream ∷ streams) = (left_of stream.client streams ≡ None) × AreDistinct streams

-- streams as they are held
pub record AreStreams (streams : List Stream) : Type 0 where
  pub distinct : AreDistinct streams
  pub at_most : length streams ≤ CLIENTS

-- ---- the next message of a client

-- the message stood at the front of what was left of the client, and what stood behind it is left
pub record Takes (client : ℕ) (old : List Stream) (message : List ℕ) (new : List Stream) : Type 0 where
  pub rest : List ℕ
  pub is_message : IsMessage message
  pub left : left_of client old ≡ Some (message_text message ++ rest)
  pub now : new ≡ with_left client rest old

-- no whole message of the client is left, or it isn't held
pub record Waits (client : ℕ) (old new : List Stream) : Type 0 where
  pub same : new ≡ old
  pub waiting : IsWaiting client old

abbrev pub Gives : ℕ → List Stream → List Stream → Option (Bor (List ℕ)) → Type 0
Gives client old new (Some message) = Takes client old message.now new
Gives client old new None = Waits client old new
