-- What is held of sessions, place by place.
use Rattle.std.proofs.Common.{◌≡◌, inl, inr, ℕ, zero, suc, ◌+◌, ◌<◌, ◌≤◌, arith, true, false, List, [], ◌∷◌, length, set, take, drop, Option, Some, None, refl, sym, ap, subst, ◌∙◌}
use Rattle.std.specs.Prelude.{◌≢◌, ◌⊎◌, IfOk, Result, Ok, Err, nat_eq}
use Rattle.std.specs.List.{AllByRecursion, slice_get}
use Rattle.std.proofs.lemmas.Bool.{cases_Bool, eqb-true, eqb-false}
use Rattle.nmc_base.specs.declared.chain_ends.Base.{Base}
use Rattle.chain_names.specs.Coins.{history_of}
use Rattle.chain_names.specs.Log.{Log, log_of}
use Rattle.feed_frames.specs.Replies.{Reply}
use Rattle.chain_commands.specs.Chain.{Chain}
use Rattle.chain_commands.specs.Reply.{no_memory_reply}
use Rattle.pin_views.specs.declared.rows.Row.{Row}
use Rattle.sliced_save.specs.Mirror.{Mirrored, MirrorsChain}
use Rattle.sliced_save.specs.Rows.{AreRowsOf}
use Rattle.nmc_base.specs.declared.chain_ends.Profile.{Profile}
use Rattle.listing_sessions.specs.Listing.{is_served, page_text}
use Rattle.listing_sessions.specs.Pages.{Pinned, pinned, is_live, GivesPage}
use Rattle.listing_sessions.specs.Pinned.{held_at, listing_at, IsHeldAt, IsLeastEmpty, IsPinnedTo, IsTakenFrom, AreTakenFrom, ArePinnedBy, GivesPageAt, StandsForOne, StandFor, Moves}
use Rattle.listing_sessions.specs.Sessions.{Session, session, Sessions, most_sessions, none_open, with_session, opened_reply, too_many_reply, no_session_reply, closed_reply, IsLeastFree, AreAllOpen, Opens, opens, too_many, lacks_memory, Pages, gives_page, Closes, closes}
use Rattle.listing_sessions.specs.Sessions as steps
use Rattle.listing_sessions.proofs.PageLemmas.{pages_alike}

-- ---- places

get_set_same : {X : Type 0} (xs : List X) (i : ℕ) (x : X) → i < length xs → slice_get (set xs i x) i ≡ Some x
get_set_same [] i x within = absurd (omega (arith, within))
get_set_same (y ∷ xs) zero x within = refl
get_set_same (y ∷ xs) (suc i) x within = get_set_same xs i x (omega (arith, within))

get_set_other : {X : Type 0} (xs : List X) (i j : ℕ) (x : X) → i ≢ j → slice_get (set xs i x) j ≡ slice_get xs j
get_set_other [] i j x other = refl
get_set_other (y ∷ xs) zero zero x other = absurd (other refl)
get_set_other (y ∷ xs) zero (suc j) x other = refl
get_set_other (y ∷ xs) (suc i) zero x other = refl
get_set_other (y ∷ xs) (suc i) (suc j) x other = get_set_other xs i j x (λ e. other (ap suc e))

none_at : (held : List (Option Pinned)) (number : ℕ) → AllByRecursion (λ h. h ≡ None) held → listing_at held number ≡ None
none_at [] number empty = refl
none_at (h ∷ held) zero empty = ap (λ z. held_at (Some z)) empty.0
none_at (h ∷ held) (suc number) empty = none_at held number empty.1

pub none_stand : (held : List (Option Pinned)) → AllByRecursion (λ h. h ≡ None) held → StandFor held none_open
none_stand held empty = λ number. subst (λ (h : Option Pinned). StandsForOne h None) (sym (none_at held number empty)) tt

pub past_held : (held : List (Option Pinned)) (number : ℕ) → length held ≤ number → listing_at held number ≡ None
past_held [] number past = refl
past_held (h ∷ held) zero past = absurd (omega (arith, past))
past_held (h ∷ held) (suc number) past = past_held held number (omega (arith, past))

-- ---- what stands where

none_for : (h : Option Pinned) (s : Option Session) → StandsForOne h s → h ≡ None → s ≡ None
none_for None None stands e = refl
none_for None (Some now) stands e = absurd stands
none_for (Some held) s stands e = absurd (cc e)

some_for : (h : Option Pinned) (s : Option Session) → StandsForOne h s → h ≢ None → s ≢ None
some_for None s stands some = absurd (some refl)
some_for (Some held) None stands some = absurd stands
some_for (Some held) (Some now) stands some = λ e. cc e

-- the session that a listing stands for
pub record HasSession (held : Pinned) (s : Option Session) : Type 0 where
  pub now : Session
  pub is_now : s ≡ Some now
  pub pinned_to : IsPinnedTo held now

session_for : (held : Pinned) (s : Option Session) → StandsForOne (Some held) s → HasSession held s
session_for held None stands = absurd stands
session_for held (Some now) stands = record { now = now; is_now = refl; pinned_to = stands }

is_some_then : {X : Type 0} (o : Option X) (x : X) → o ≡ Some x → o ≢ None
is_some_then o x e none = let clash : Some x ≡ None = sym e ∙ none in absurd (cc clash)

module _ (held : List (Option Pinned)) (sessions : Sessions) (stand : StandFor held sessions) (number : ℕ) where
  pub closed_for : listing_at held number ≡ None → sessions number ≡ None
  closed_for none = none_for (listing_at held number) (sessions number) (stand number) none

  pub open_for : listing_at held number ≢ None → sessions number ≢ None
  open_for some = some_for (listing_at held number) (sessions number) (stand number) some

  pub session_at : (h : IsHeldAt held number) → HasSession h.listing (sessions number)
  session_at h = session_for h.listing (sessions number) (subst (λ (o : Option Pinned). StandsForOne o (sessions number)) h.is (stand number))

  -- something else is held, and stands for something else
  pub stand_put : (h : Option Pinned) (s : Option Session) → number < length held → StandsForOne h s → StandFor (set held number h) (with_session sessions number s)
  stand_put h s within stands = λ other. by other (cases_Bool (nat_eq number other)) where
    by : (other : ℕ) → (nat_eq number other ≡ true) ⊎ (nat_eq number other ≡ false) → StandsForOne (listing_at (set held number h) other) (with_session sessions number s other)
    by other (inl same) =
        let here : number ≡ other = eqb-true number other same in
        let at : listing_at (set held number h) other ≡ h = ap (λ (n : ℕ). listing_at (set held number h) n) (sym here) ∙ ap held_at (get_set_same held number h within) in
        rw same (subst (λ (o : Option Pinned). StandsForOne o s) (sym at) stands)
    by other (inr differs) =
        rw differs (subst (λ (o : Option Pinned). StandsForOne o (sessions other)) (sym (ap held_at (get_set_other held number other h (eqb-false number other differs)))) (stand other))

-- ---- the steps

module _ (held : List (Option Pinned)) (sessions : Sessions) (stand : StandFor held sessions) (reply : Reply) where
  least_free : (number : ℕ) → length held ≡ 8 → IsLeastEmpty held (Some number) → IsLeastFree sessions number
  least_free number eight least = record {
    below = omega (arith, least.0, eight);
    free = closed_for held sessions stand number least.1;
    least = λ other below. open_for held sessions stand other (least.2 other below);
  }

  pub opened_now : (chain : Chain) (number : ℕ) (rows : List (List ℕ × Row)) (profile : Profile) (height : ℕ) (new : List (Option Pinned)) → length held ≡ 8
      → IsLeastEmpty held (Some number) → IsTakenFrom chain rows profile height → reply ≡ opened_reply number → new ≡ set held number (Some (pinned rows profile height 0))
      → Moves (Opens chain) sessions reply new
  opened_now chain number rows profile height new eight least taken told is = record {
    new = with_session sessions number (Some (session chain 0));
    step = opens number (least_free number eight least) told refl;
    stands = subst (λ (h : List (Option Pinned)). StandFor h (with_session sessions number (Some (session chain 0)))) (sym is)
        (stand_put held sessions stand number (Some (pinned rows profile height 0)) (Some (session chain 0)) least.0 (record { taken = taken; position = refl }));
  }

  pub opened_none : (chain : Chain) (number : ℕ) → length held ≡ 8 → IsLeastEmpty held (Some number) → reply ≡ no_memory_reply → Moves (Opens chain) sessions reply held
  opened_none chain number eight least told = record { new = sessions; step = lacks_memory number (least_free number eight least) told refl; stands = stand }

  pub opened_too_many : (chain : Chain) → length held ≡ 8 → IsLeastEmpty held None → reply ≡ too_many_reply → Moves (Opens chain) sessions reply held
  opened_too_many chain eight none told = record {
    new = sessions;
    step = too_many (λ number below. open_for held sessions stand number (none number (omega (arith, eight, below)))) told refl;
    stands = stand;
  }

  -- no session has this number
  not_open_now : (number : ℕ) → listing_at held number ≡ None → reply ≡ no_session_reply → steps.IsNotOpen number sessions reply sessions
  not_open_now number none told = record { closed = closed_for held sessions stand number none; told = told; same = refl }

  pub paged_none : (size number : ℕ) → listing_at held number ≡ None → reply ≡ no_session_reply → Moves (Pages size number) sessions reply held
  paged_none size number none told = record { new = sessions; step = steps.Pages.not_open (not_open_now number none told); stands = stand }

  pub closed_none : (number : ℕ) → listing_at held number ≡ None → reply ≡ no_session_reply → Moves (Closes number) sessions reply held
  closed_none number none told = record { new = sessions; step = steps.Closes.not_open (not_open_now number none told); stands = stand }

  pub closed_now : (number : ℕ) (new : List (Option Pinned)) → IsHeldAt held number → reply ≡ closed_reply → new ≡ set held number None → Moves (Closes number) sessions reply new
  closed_now number new h told is = record {
    new = with_session sessions number None;
    step = closes (record { was_open = open_for held sessions stand number (is_some_then (listing_at held number) h.listing h.is); told = told; gone = refl });
    stands = subst (λ (x : List (Option Pinned)). StandFor x (with_session sessions number None)) (sym is) (stand_put held sessions stand number None None h.within tt);
  }

  -- the next page of a session was given
  module _ (size number : ℕ) (text : List ℕ) (new : List (Option Pinned)) (p : GivesPageAt size held number text new) where
    s : HasSession p.was.listing (sessions number)
    s = session_at held sessions stand number p.was

    taken : IsTakenFrom s.now.chain p.was.listing.rows p.was.listing.profile p.was.listing.height
    taken = s.pinned_to.taken

    abbrev behind : Session
    behind = session s.now.chain (s.now.position + length (take size (drop s.now.position p.was.listing.rows)))

    told_is : text ≡ page_text (is_served s.now.chain) size (drop s.now.position p.was.listing.rows)
    told_is =
        p.page.text_is
        ∙ ap (λ (n : ℕ). page_text (is_live p.was.listing.profile p.was.listing.height) size (drop n p.was.listing.rows)) s.pinned_to.position
        ∙ ap (λ (q : Profile). page_text (is_live q p.was.listing.height) size (drop s.now.position p.was.listing.rows)) taken.profile_is
        ∙ ap (λ (h : ℕ). page_text (is_live s.now.chain.base.profile h) size (drop s.now.position p.was.listing.rows)) taken.height_is
        ∙ pages_alike s.now.chain p.was.listing.rows size s.now.position taken.listing

    pinned_behind : IsPinnedTo p.now behind
    pinned_behind = subst (λ (l : Pinned). IsPinnedTo l behind) (sym p.page.moved) (record {
      taken = taken;
      position = ap (λ (n : ℕ). n + length (take size (drop n p.was.listing.rows))) s.pinned_to.position;
    })

    pub paged_now : reply ≡ record { code = 0; payload = text } → Moves (Pages size number) sessions reply new
    paged_now told = record {
      new = with_session sessions number (Some behind);
      step = gives_page s.now (record {
        is_open = s.is_now;
        rows = p.was.listing.rows;
        listing = taken.listing;
        told = told ∙ ap (λ (t : List ℕ). record { code = 0; payload = t }) told_is;
        moved = refl;
      });
      stands = subst (λ (x : List (Option Pinned)). StandFor x (with_session sessions number (Some behind))) (sym p.new_is)
          (stand_put held sessions stand number (Some p.now) (Some behind) p.was.within pinned_behind);
    }

-- ---- what a session is opened on

pub pinned_from : (chain : Chain) (mirror : Option Mirrored) (rows : List (List ℕ × Row)) (profile : Profile) (height : ℕ) → AreTakenFrom chain mirror profile height → ArePinnedBy mirror rows
    → IsTakenFrom chain rows profile height
pinned_from chain None rows profile height are by = absurd by
pinned_from chain (Some mirror) rows profile height are by = record { listing = by chain are.mirror_is; profile_is = are.profile_is; height_is = are.height_is }

pub pinned_by : {E : Type 0} (mirror : Mirrored) (result : Result (List (List ℕ × Row)) E)
    → IfOk result (λ rows. (base : Base) (start : Log) (blocks : List (List ℕ)) → MirrorsChain base start blocks mirror → AreRowsOf (history_of (log_of start base.height blocks)) rows)
    → IfOk result (ArePinnedBy (Some mirror))
pinned_by mirror (Ok rows) are = λ chain is. are chain.base chain.start chain.blocks is
pinned_by mirror (Err fault) are = tt

-- ---- a listing that is taken out and put back

set_set : {X : Type 0} (xs : List X) (i : ℕ) (x y : X) → set (set xs i x) i y ≡ set xs i y
set_set [] i x y = refl
set_set (z ∷ xs) zero x y = refl
set_set {X = X} (z ∷ xs) (suc i) x y = ap (λ (zs : List X). z ∷ zs) (set_set xs i x y)

pub turned : (size number : ℕ) (old mid new : List (Option Pinned)) (was now : Pinned) (text : List ℕ) → number < length old → Some (Some was) ≡ slice_get old number
    → mid ≡ set old number None → GivesPage size was text now → new ≡ set mid number (Some now) → GivesPageAt size old number text new
turned size number old mid new was now text within here gone page is = record {
  was = record { within = within; listing = was; is = ap held_at (sym here) };
  now = now;
  page = page;
  new_is = is ∙ ap (λ (h : List (Option Pinned)). set h number (Some now)) gone ∙ set_set old number None (Some now);
}
