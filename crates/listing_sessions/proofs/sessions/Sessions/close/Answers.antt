use Rattle.std.proofs.Common.{◌≡◌, List, Option, None, sym, ap, subst, ◌∙◌}
use Rattle.std.specs.Option.{option_map}
use Rattle.listing_sessions.specs.Pages.{Pinned}
use Rattle.listing_sessions.specs.Pinned.{IsHeldAt, StandFor, Moves, held_at, listing_at}
use Rattle.listing_sessions.specs.Sessions.{Closes}
use Rattle.listing_sessions.proofs.SessionLemmas.{closed_now, closed_none}
use Rattle.listing_sessions.proofs.sessions.Sessions.close.Goals as goal

pub returns-then-is_held-clause-step : goal.returns-then-is_held-clause-step
returns-then-is_held-clause-step c = λ sessions stand.
    let held : List (Option Pinned) = c.self.inside.held.items in
    closed_now held sessions (subst (λ (h : List (Option Pinned)). StandFor h sessions) (sym c.self.view_is) stand) c.tell_closed.new.reply c.args.number c.take_at-was.new.held.items
    (subst (λ (h : List (Option Pinned)). IsHeldAt h c.args.number) c.deref.ensures.value c.if-is_held.ensures) c.tell_closed.ensures c.take_at-was.ensures.gone

pub returns-else-is_held-clause-step : goal.returns-else-is_held-clause-step
returns-else-is_held-clause-step c = λ sessions stand.
    let held : List (Option Pinned) = c.self.inside.held.items in
    subst (λ (h : List (Option Pinned)). Moves (Closes c.args.number) sessions c.refuse_number.new.reply h) c.self.view_is
    (closed_none held sessions (subst (λ (h : List (Option Pinned)). StandFor h sessions) (sym c.self.view_is) stand) c.refuse_number.new.reply c.args.number
    (subst (λ (h : List (Option Pinned)). listing_at h c.args.number ≡ None) c.deref.ensures.value c.if-is_held.ensures) c.refuse_number.ensures)

pub returns-then-is_held-clause-rows : goal.returns-then-is_held-clause-rows
returns-then-is_held-clause-rows c =
    c.rows_of.ensures ∙ ap (λ (o : Option (Option Pinned)). option_map (λ l. l.rows) (held_at o)) c.take_at-was.ensures.was
    ∙ ap (λ (h : List (Option Pinned)). option_map (λ l. l.rows) (listing_at h c.args.number)) c.self.view_is

pub returns-else-is_held-clause-rows : goal.returns-else-is_held-clause-rows
returns-else-is_held-clause-rows c =
    sym (ap (option_map (λ l. l.rows)) (subst (λ (h : List (Option Pinned)). listing_at h c.args.number ≡ None) (c.deref.ensures.value ∙ c.self.view_is) c.if-is_held.ensures))
