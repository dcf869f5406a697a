-- A page as it is written, row by row, by the profile and the height of the tip.
use Rattle.std.specs.Prelude.{◌≡◌, ℕ, Bool, ◌+◌, List, length, not, take, drop}
use Rattle.nmc_base.specs.Expiry.{is_expired}
use Rattle.nmc_base.specs.declared.chain_ends.Profile.{Profile}
use Rattle.listing_sessions.specs.Listing.{page_text}
use Rattle.pin_views.specs.declared.rows.Row.{Row}

-- a listing that is paged through: the rows of a chain's names, the chain's profile and the height of its tip, and how many rows were given
pub record Pinned : Type 0 where
  pub rows : List (List ℕ × Row)
  pub profile : Profile
  pub height : ℕ
  pub position : ℕ

abbrev pub pinned : List (List ℕ × Row) → Profile → ℕ → ℕ → Pinned
pinned rows profile height position = record { rows = rows; profile = profile; height = height; position = position }

-- whether a row's value isn't expired at the height
abbrev pub is_live : Profile → ℕ → List ℕ × Row → Bool
is_live profile height row = not (is_expired profile row.1.height height)

-- the rows that weren't given yet
abbrev pub left_of : Pinned → List (List ℕ × Row)
left_of listing = drop listing.position listing.rows

-- no page is longer: its head, and fifty rows of 8 bytes with a name of 255 and a value of 1,023
abbrev pub longest_row : ℕ
longest_row = 1286

-- so many rows were given
abbrev pub advanced : Pinned → ℕ → Pinned
advanced listing count = pinned listing.rows listing.profile listing.height (listing.position + count)

-- the next page was written, and the listing moved behind it
pub record GivesPage (size : ℕ) (old : Pinned) (text : List ℕ) (new : Pinned) : Type 0 where
  pub text_is : text ≡ page_text (is_live old.profile old.height) size (left_of old)
  pub moved : new ≡ advanced old (length (take size (left_of old)))
