use Rattle.listing_sessions.proofs.SessionLemmas.{pinned_by}
use Rattle.listing_sessions.proofs.sessions.pinned_now.Goals as goal

pub returns-in-Some : goal.returns-in-Some
returns-in-Some c = rw c.in-Some.is (pinned_by c.in-Some.mirror.now c.pin_rows.result c.pin_rows.ensures.chain)
