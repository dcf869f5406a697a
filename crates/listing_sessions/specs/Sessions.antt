-- Listing sessions: each pages through the listing of the chain that it was opened on, whatever becomes of the chain.
use Rattle.std.specs.Prelude.{◌≡◌, ◌≢◌, ℕ, ◌+◌, ◌<◌, List, [], length, take, drop, Option, Some, None, nat_eq}
use Rattle.std.specs.Int.{w32, to_le_bytes}
use Rattle.chain_names.specs.Points.{changed}
use Rattle.chain_commands.specs.Chain.{Chain}
use Rattle.chain_commands.specs.Reply.{no_memory_reply}
use Rattle.feed_frames.specs.Replies.{Reply}
use Rattle.listing_sessions.specs.Listing.{IsListing, is_served, page_text}
use Rattle.pin_views.specs.declared.rows.Row.{Row}

-- the chain that it was opened on, and how many rows of that chain's listing were given
pub record Session : Type 0 where
  pub chain : Chain
  pub position : ℕ

abbrev pub session : Chain → ℕ → Session
session chain position = record { chain = chain; position = position }

-- the open sessions, by their numbers
abbrev pub Sessions : Type 0
Sessions = ℕ → Option Session

abbrev pub none_open : Sessions
none_open = λ number. None

-- so many are open at once, at most
abbrev pub most_sessions : ℕ
most_sessions = 8

-- what has this number is so now
abbrev pub with_session : Sessions → ℕ → Option Session → Sessions
with_session sessions number now = changed nat_eq sessions number now

-- ---- replies

abbrev pub opened_reply : ℕ → Reply
opened_reply number = record { code = 0; payload = to_le_bytes w32 number }

abbrev pub too_many_reply : Reply
too_many_reply = record { code = 31; payload = [] }

abbrev pub no_session_reply : Reply
no_session_reply = record { code = 32; payload = [] }

abbrev pub page_reply : Chain → ℕ → List (List ℕ × Row) → Reply
page_reply chain size left = record { code = 0; payload = page_text (is_served chain) size left }

abbrev pub closed_reply : Reply
closed_reply = record { code = 0; payload = [] }

-- ---- what is asked of sessions

-- the least number that isn't open
pub record IsLeastFree (sessions : Sessions) (number : ℕ) : Type 0 where
  pub below : number < most_sessions
  pub free : sessions number ≡ None
  pub least : (other : ℕ) → other < number → sessions other ≢ None

abbrev pub AreAllOpen : Sessions → Type 0
AreAllOpen sessions = (number : ℕ) → number < most_sessions → sessions number ≢ None

-- A session is opened on the chain, and its number told; or as many are open as may be; or memory is wanting.
pub data Opens (chain : Chain) (old : Sessions) (reply : Reply) (new : Sessions) : Type 0 where
  opens : (number : ℕ) → IsLeastFree old number → reply ≡ opened_reply number → new ≡ with_session old number (Some (session chain 0))
      → Opens chain old reply new
  too_many : AreAllOpen old → reply ≡ too_many_reply → new ≡ old → Opens chain old reply new
  lacks_memory : (number : ℕ) → IsLeastFree old number → reply ≡ no_memory_reply → new ≡ old → Opens chain old reply new

-- the session's next page, of so many rows at most, is given, and its position moves behind it
pub record Turns (size number : ℕ) (now : Session) (old : Sessions) (reply : Reply) (new : Sessions) : Type 0 where
  pub is_open : old number ≡ Some now
  pub rows : List (List ℕ × Row)
  pub listing : IsListing now.chain rows
  pub told : reply ≡ page_reply now.chain size (drop now.position rows)
  pub moved : new ≡ with_session old number (Some (session now.chain (now.position + length (take size (drop now.position rows)))))

-- no session of this number is open
pub record IsNotOpen (number : ℕ) (old : Sessions) (reply : Reply) (new : Sessions) : Type 0 where
  pub closed : old number ≡ None
  pub told : reply ≡ no_session_reply
  pub same : new ≡ old

pub data Pages (size number : ℕ) (old : Sessions) (reply : Reply) (new : Sessions) : Type 0 where
  gives_page : (now : Session) → Turns size number now old reply new → Pages size number old reply new
  not_open : IsNotOpen number old reply new → Pages size number old reply new

-- the session is closed
pub record IsClosed (number : ℕ) (old : Sessions) (reply : Reply) (new : Sessions) : Type 0 where
  pub was_open : old number ≢ None
  pub told : reply ≡ closed_reply
  pub gone : new ≡ with_session old number None

pub data Closes (number : ℕ) (old : Sessions) (reply : Reply) (new : Sessions) : Type 0 where
  closes : IsClosed number old reply new → Closes number old reply new
  not_open : IsNotOpen number old reply new → Closes number old reply new
