-- What one listing session gives through a whole run, whatever comes between its pages.
use Rattle.std.specs.Prelude.{◌≢◌, ℕ, zero, suc, List, [], ◌∷◌, drop, nat_eq, if◌then◌else◌}
use Rattle.chain_commands.specs.Chain.{Chain}
use Rattle.feed_frames.specs.Replies.{Reply}
use Rattle.listing_sessions.specs.Sessions.{page_reply}
use Rattle.pin_views.specs.declared.rows.Row.{Row}
use Rattle.name_lister.specs.Event.{ListEvent, Plain, Open, Page, Close, Begin, Slice}

-- the replies to the pages of this number
abbrev pub pages_told : ℕ → List ListEvent → List Reply → List Reply
pages_told number [] replies = []
pages_told number (event ∷ events) [] = []
pages_told number (Plain event ∷ events) (reply ∷ replies) = pages_told number events replies
pages_told number (Open ∷ events) (reply ∷ replies) = pages_told number events replies
pages_told number (Page other ∷ events) (reply ∷ replies) = if nat_eq other number then reply ∷ pages_told number events replies else pages_told number events replies
pages_told number (Close other ∷ events) (reply ∷ replies) = pages_told number events replies
pages_told number (Begin ∷ events) (reply ∷ replies) = pages_told number events replies
pages_told number (Slice asked ∷ events) (reply ∷ replies) = pages_told number events replies

-- none of the events closes the session of this number
abbrev pub StaysOpen : ℕ → List ListEvent → Type 0
StaysOpen number [] = Unit {0}
StaysOpen number (Plain event ∷ events) = StaysOpen number events
StaysOpen number (Open ∷ events) = StaysOpen number events
StaysOpen number (Page other ∷ events) = StaysOpen number events
StaysOpen number (Close other ∷ events) = (other ≢ number) × StaysOpen number events
StaysOpen number (Begin ∷ events) = StaysOpen number events
StaysOpen number (Slice asked ∷ events) = StaysOpen number events

-- so many pages of the rows that are left, one after the other
abbrev pub pages_of : Chain → ℕ → List (List ℕ × Row) → ℕ → List Reply
pages_of chain size left zero = []
pages_of chain size left (suc count) = page_reply chain size left ∷ pages_of chain size (drop size left) count
