use Rattle.listing_sessions.proofs.ListingLemmas.{one_listing}
use Rattle.listing_sessions.proofs.laws.one_listing.Goals as goal

pub returns : goal.returns
returns c = one_listing
