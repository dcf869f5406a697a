use Rattle.std.proofs.Common.{ℕ, Bool, false, List, Option, sym, ap, subst, ◌∙◌}
use Rattle.listing_sessions.specs.Pages.{Pinned}
use Rattle.listing_sessions.specs.Pinned.{StandFor, Moves, TurnsAt}
use Rattle.listing_sessions.specs.Sessions.{Pages}
use Rattle.listing_sessions.proofs.SessionLemmas.{paged_now, paged_none}
use Rattle.listing_sessions.proofs.sessions.Sessions.page.Goals as goal
use Rattle.listing_sessions.proofs.sessions.Sessions.page.Goals.{then-turn_at, else-turn_at}

pub returns-clause-step : goal.returns-clause-step
returns-clause-step g c = λ sessions stand.
    let held : List (Option Pinned) = c.self.inside.held.items in
    let new : List (Option Pinned) = c.turn_at.new.held.items in
    let text = c.turn_at.new.text.items in
    let stands = subst (λ (h : List (Option Pinned)). StandFor h sessions) (sym c.self.view_is) stand in
    elim c.if-turn_at.branch [
      | then-turn_at w ↦
          paged_now held sessions stands c.if-turn_at.reply c.args.size c.args.number text new (subst (λ (b : Bool). TurnsAt c.args.size held c.args.number text b new) w.if-turn_at.true c.turn_at.ensures.turns)
          (w.reply-is ∙ w.tell_page.ensures ∙ ap (λ (t : List ℕ). record { code = 0; payload = t }) w.deref.ensures.value)
      | else-turn_at w ↦
          let turns : TurnsAt c.args.size held c.args.number text false new = subst (λ (b : Bool). TurnsAt c.args.size held c.args.number text b new) w.if-turn_at.false c.turn_at.ensures.turns in
          subst (λ (h : List (Option Pinned)). Moves (Pages c.args.size c.args.number) sessions c.if-turn_at.reply h) (sym turns.1)
          (paged_none held sessions stands c.if-turn_at.reply c.args.size c.args.number turns.0 (w.reply-is ∙ w.refuse_number.ensures))
    ]
