use Rattle.std.proofs.Common.{List, Option, subst}
use Rattle.listing_sessions.specs.Pages.{Pinned}
use Rattle.listing_sessions.specs.Pinned.{IsHeldAt}
use Rattle.listing_sessions.proofs.SessionLemmas.{turned}
use Rattle.listing_sessions.proofs.sessions.turn_at.Goals as goal

pub returns-clause-turns : goal.returns-clause-turns
returns-clause-turns g c =
    let held : List (Option Pinned) = c.args.held.now.items in
    let at : IsHeldAt held c.args.number = subst (λ (h : List (Option Pinned)). IsHeldAt h c.args.number) c.deref.ensures.value c.if-not-is_held.ensures in
    turned c.args.size c.args.number held c.take_at.new.held.items c.put_at.new.held.items c.in-Some.listing c.turn.new.self c.turn.new.text.items at.within c.in-Some.ensures.was c.in-Some.ensures.gone c.turn.ensures.page c.put_at.ensures
