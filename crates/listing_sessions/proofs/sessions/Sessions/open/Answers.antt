use Rattle.std.proofs.Common.{List, Option, Some, None, set, sym, ap, subst, ◌∙◌}
use Rattle.listing_sessions.specs.Pages.{Pinned}
use Rattle.listing_sessions.specs.Pinned.{IsLeastEmpty, StandFor, Moves}
use Rattle.listing_sessions.specs.Sessions.{Opens}
use Rattle.listing_sessions.proofs.SessionLemmas.{opened_now, opened_none, opened_too_many, pinned_from}
use Rattle.listing_sessions.proofs.sessions.Sessions.open.Goals as goal

pub returns-in-None : goal.returns-in-None
returns-in-None c = λ chain taken sessions stand.
    let held : List (Option Pinned) = c.self.inside.held.items in
    subst (λ (h : List (Option Pinned)). Moves (Opens chain) sessions c.refuse_more.new.reply h) c.self.view_is
    (opened_too_many held sessions (subst (λ (h : List (Option Pinned)). StandFor h sessions) (sym c.self.view_is) stand) c.refuse_more.new.reply chain c.self.invariant.0
    (subst (λ (h : List (Option Pinned)). IsLeastEmpty h None) c.deref.ensures.value c.in-None.ensures) c.refuse_more.ensures)

pub returns-in-Err : goal.returns-in-Err
returns-in-Err c = λ chain taken sessions stand.
    let held : List (Option Pinned) = c.self.inside.held.items in
    subst (λ (h : List (Option Pinned)). Moves (Opens chain) sessions c.lack_memory.new.reply h) c.self.view_is
    (opened_none held sessions (subst (λ (h : List (Option Pinned)). StandFor h sessions) (sym c.self.view_is) stand) c.lack_memory.new.reply chain c.in-Some.number c.self.invariant.0
    (subst (λ (h : List (Option Pinned)). IsLeastEmpty h (Some c.in-Some.number)) c.deref.ensures.value c.in-Some.ensures) c.lack_memory.ensures)

pub returns-in-Ok : goal.returns-in-Ok
returns-in-Ok c = λ chain taken sessions stand.
    let held : List (Option Pinned) = c.self.inside.held.items in
    opened_now held sessions (subst (λ (h : List (Option Pinned)). StandFor h sessions) (sym c.self.view_is) stand) c.tell_number.new.reply chain c.in-Some.number c.in-Ok.rows c.args.profile c.args.height
    c.put_at.new.held.items c.self.invariant.0 (subst (λ (h : List (Option Pinned)). IsLeastEmpty h (Some c.in-Some.number)) c.deref.ensures.value c.in-Some.ensures)
    (pinned_from chain _ c.in-Ok.rows c.args.profile c.args.height taken c.in-Ok.ensures) c.tell_number.ensures
    (c.put_at.ensures ∙ ap (λ (l : Pinned). set held c.in-Some.number (Some l)) c.new-listing.ensures)
