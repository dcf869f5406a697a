-- What the program keeps of listing sessions, and which sessions that stands for.
use Rattle.std.specs.Prelude.{◌≡◌, ◌≢◌, ℕ, ◌<◌, Bool, true, false, List, length, slice_set, Option, Some, None}
use Rattle.nmc_base.specs.declared.chain_ends.Profile.{Profile}
use Rattle.chain_commands.specs.Chain.{Chain, height_of}
use Rattle.feed_frames.specs.Replies.{Reply}
use Rattle.std.specs.List.{slice_get}
use Rattle.listing_sessions.specs.Listing.{IsListing}
use Rattle.listing_sessions.specs.Sessions.{Session, Sessions}
use Rattle.listing_sessions.specs.Pages.{Pinned, GivesPage}
use Rattle.pin_views.specs.declared.rows.Row.{Row}
use Rattle.sliced_save.specs.Mirror.{Mirrored, MirrorsChain}

-- what stands at a place, if anything
abbrev pub held_at : Option (Option Pinned) → Option Pinned
held_at None = None
held_at (Some held) = held

-- the listing of a number
abbrev pub listing_at : List (Option Pinned) → ℕ → Option Pinned
listing_at held number = held_at (slice_get held number)

-- a listing is held under the number
pub record IsHeldAt (held : List (Option Pinned)) (number : ℕ) : Type 0 where
  pub within : number < length held
  pub listing : Pinned
  pub is : listing_at held number ≡ Some listing

-- the next page was written of the listing under the number
pub record GivesPageAt (size : ℕ) (old : List (Option Pinned)) (number : ℕ) (text : List ℕ) (new : List (Option Pinned)) : Type 0 where
  pub was : IsHeldAt old number
  pub now : Pinned
  pub page : GivesPage size was.listing text now
  pub new_is : new ≡ slice_set old number (Some now)

-- or there is none
abbrev pub TurnsAt : ℕ → List (Option Pinned) → ℕ → List ℕ → Bool → List (Option Pinned) → Type 0
TurnsAt size old number text true new = GivesPageAt size old number text new
TurnsAt size old number text false new = (listing_at old number ≡ None) × (new ≡ old)

-- the least number of which nothing is held, if there is one
abbrev pub IsLeastEmpty : List (Option Pinned) → Option ℕ → Type 0
IsLeastEmpty held None = (number : ℕ) → number < length held → listing_at held number ≢ None
IsLeastEmpty held (Some number) = (number < length held) × (listing_at held number ≡ None) × ((other : ℕ) → other < number → listing_at held other ≢ None)

-- the rows, the profile and the height are the chain's
pub record IsTakenFrom (chain : Chain) (rows : List (List ℕ × Row)) (profile : Profile) (height : ℕ) : Type 0 where
  pub listing : IsListing chain rows
  pub profile_is : profile ≡ chain.base.profile
  pub height_is : height ≡ height_of chain

-- it pages through the listing of the session's chain, and stands where the session stands
pub record IsPinnedTo (held : Pinned) (now : Session) : Type 0 where
  pub taken : IsTakenFrom now.chain held.rows held.profile held.height
  pub position : held.position ≡ now.position

abbrev pub StandsForOne : Option Pinned → Option Session → Type 0
StandsForOne None None = Unit {0}
StandsForOne None (Some now) = ⊥
StandsForOne (Some held) None = ⊥
StandsForOne (Some held) (Some now) = IsPinnedTo held now

-- number by number
abbrev pub StandFor : List (Option Pinned) → Sessions → Type 0
StandFor held sessions = (number : ℕ) → StandsForOne (listing_at held number) (sessions number)

-- a step of the sessions gives the reply, and what is held stands for what it leaves
pub record Moves (Step : Sessions → Reply → Sessions → Type 0) (old : Sessions) (reply : Reply) (held : List (Option Pinned)) : Type 0 where
  pub new : Sessions
  pub step : Step old reply new
  pub stands : StandFor held new

-- of all sessions that were stood for
abbrev pub MakesStep : (Sessions → Reply → Sessions → Type 0) → List (Option Pinned) → Reply → List (Option Pinned) → Type 0
MakesStep Step old reply new = (sessions : Sessions) → StandFor old sessions → Moves Step sessions reply new

-- ---- what a session is opened on

-- the mirror is that of the chain's index, where it is there at all
abbrev pub IsMirrorOn : Chain → Option Mirrored → Type 0
IsMirrorOn chain None = Unit {0}
IsMirrorOn chain (Some mirror) = MirrorsChain chain.base chain.start chain.blocks mirror

-- the mirror, the profile and the height are the chain's
pub record AreTakenFrom (chain : Chain) (mirror : Option Mirrored) (profile : Profile) (height : ℕ) : Type 0 where
  pub mirror_is : IsMirrorOn chain mirror
  pub profile_is : profile ≡ chain.base.profile
  pub height_is : height ≡ height_of chain

-- there is a mirror, and the rows are the listing of each chain that it is on
abbrev pub ArePinnedBy : Option Mirrored → List (List ℕ × Row) → Type 0
ArePinnedBy None rows = ⊥
ArePinnedBy (Some mirror) rows = (chain : Chain) → IsMirrorOn chain (Some mirror) → IsListing chain rows
