-- A session through a run, page by page.
use Rattle.std.proofs.Common.{◌≡◌, inl, inr, ℕ, zero, suc, ◌+◌, true, false, List, [], ◌∷◌, length, take, drop, Option, Some, None, refl, sym, ap, subst, ◌∙◌, arith}
use Rattle.std.specs.Prelude.{◌⊎◌, nat_eq}
use Rattle.std.proofs.lemmas.Bool.{cases_Bool, eqb-true, eq-eqb, both_ways}
use Rattle.chain_commands.specs.Chain.{Chain}
use Rattle.chain_commands.specs.RunState.{chain_of}
use Rattle.feed_frames.specs.Replies.{Reply}
use Rattle.listing_sessions.specs.Listing.{IsListing}
use Rattle.listing_sessions.specs.Sessions.{Session, Sessions, session, with_session, page_reply, Opens, opens, too_many, lacks_memory, Pages, gives_page, Closes, closes, Turns}
use Rattle.listing_sessions.specs.Sessions as sessions
use Rattle.listing_sessions.proofs.ListingLemmas.{one_listing}
use Rattle.pin_views.specs.declared.rows.Row.{Row}
use Rattle.name_lister.specs.Event.{ListEvent, Plain, Open, Page, Close, Begin, Slice}
use Rattle.name_lister.specs.Pinning.{StaysOpen, pages_of, pages_told}
use Rattle.name_lister.specs.Step.{ListState, ListRun}

-- ---- lists

drop_past : {X : Type 0} (n : ℕ) (xs : List X) → drop (length (take n xs)) xs ≡ drop n xs
drop_past zero xs = refl
drop_past (suc n) [] = refl
drop_past (suc n) (x ∷ xs) = drop_past n xs

drop_none : {X : Type 0} (n : ℕ) → drop {A = X} n [] ≡ []
drop_none zero = refl
drop_none (suc n) = refl

drop_drop : {X : Type 0} (n m : ℕ) (xs : List X) → drop (n + m) xs ≡ drop m (drop n xs)
drop_drop zero m xs = ap (λ (k : ℕ). drop k xs) (omega arith)
drop_drop (suc n) m [] = drop_none (suc n + m) ∙ sym (drop_none m)
drop_drop (suc n) m (x ∷ xs) = ap (λ (k : ℕ). drop k (x ∷ xs)) {x = suc n + m} {y = suc (n + m)} (omega arith) ∙ drop_drop n m xs

-- ---- one step

none_some : {X : Type 0} (o : Option X) (x : X) → o ≡ None → o ≡ Some x → ⊥
none_some o x none some = let clash : None ≡ Some x = sym none ∙ some in absurd (cc clash)

-- what another number has now changes nothing of this one
module _ (number : ℕ) (now : Session) (old : Sessions) (at : old number ≡ Some now) where
  beside : (other : ℕ) (s : Option Session) → (other ≡ number → ⊥) → with_session old other s number ≡ Some now
  beside other s differs = by (cases_Bool (nat_eq other number)) where
    by : (nat_eq other number ≡ true) ⊎ (nat_eq other number ≡ false) → with_session old other s number ≡ Some now
    by (inl same) = absurd (differs (eqb-true other number same))
    by (inr other_is) = rw other_is at

  behind_opening : (chain : Chain) (reply : Reply) (new : Sessions) → Opens chain old reply new → new number ≡ Some now
  behind_opening chain reply new (opens free least told is) =
      ap (λ (s : Sessions). s number) is ∙ beside free (Some (session chain 0)) (λ same. none_some (old number) now (subst (λ (n : ℕ). old n ≡ None) same least.free) at)
  behind_opening chain reply new (too_many all told is) = ap (λ (s : Sessions). s number) is ∙ at
  behind_opening chain reply new (lacks_memory free least told is) = ap (λ (s : Sessions). s number) is ∙ at

  behind_other_page : (size other : ℕ) (reply : Reply) (new : Sessions) → (other ≡ number → ⊥) → Pages size other old reply new → new number ≡ Some now
  behind_other_page size other reply new differs (gives_page there t) = ap (λ (s : Sessions). s number) t.moved ∙ beside other _ differs
  behind_other_page size other reply new differs (sessions.Pages.not_open n) = ap (λ (s : Sessions). s number) n.same ∙ at

  behind_close : (other : ℕ) (reply : Reply) (new : Sessions) → (other ≡ number → ⊥) → Closes other old reply new → new number ≡ Some now
  behind_close other reply new differs (closes c) = ap (λ (s : Sessions). s number) c.gone ∙ beside other None differs
  behind_close other reply new differs (sessions.Closes.not_open n) = ap (λ (s : Sessions). s number) n.same ∙ at

module _ (size number : ℕ) (chain : Chain) (rows : List (List ℕ × Row)) (listing : IsListing chain rows) where
  -- what the page of the session itself leaves
  record Turned (position : ℕ) (reply : Reply) (new : Sessions) : Type 0 where
    pub told : reply ≡ page_reply chain size (drop position rows)
    pub at : new number ≡ Some (session chain (position + length (take size (drop position rows))))

  turned : (position : ℕ) (old new : Sessions) (reply : Reply) → old number ≡ Some (session chain position) → Pages size number old reply new → Turned position reply new
  turned position old new reply at (gives_page now t) =
      let same : now ≡ session chain position = cc (t.is_open, at) in
      let rows_are : t.rows ≡ rows = one_listing chain t.rows rows (subst (λ (s : Session). IsListing s.chain t.rows) same t.listing) listing in
      let here : nat_eq number number ≡ true = eq-eqb number number refl in
      record {
        told = t.told ∙ ap (λ (s : Session). page_reply s.chain size (drop s.position t.rows)) same ∙ ap (λ (r : List (List ℕ × Row)). page_reply chain size (drop position r)) rows_are;
        at = ap (λ (s : Sessions). s number) t.moved
            ∙ rw here (ap (λ (s : Session). Some (session s.chain (s.position + length (take size (drop s.position t.rows))))) same
            ∙ ap (λ (r : List (List ℕ × Row)). Some (session chain (position + length (take size (drop position r))))) rows_are);
      }
  turned position old new reply at (sessions.Pages.not_open n) = absurd (none_some (old number) (session chain position) n.closed at)

  left_behind : (position : ℕ) → drop (position + length (take size (drop position rows))) rows ≡ drop size (drop position rows)
  left_behind position = drop_drop position (length (take size (drop position rows))) rows ∙ drop_past size (drop position rows)

  -- a page of this session or of another, and what comes behind it
  paged : (position other : ℕ) (old mid : Sessions) (events : List ListEvent) (replies : List Reply) (reply : Reply)
      → ((next : ℕ) → mid number ≡ Some (session chain next) → pages_told number events replies ≡ pages_of chain size (drop next rows) (length (pages_told number events replies)))
      → old number ≡ Some (session chain position) → Pages size other old reply mid → (nat_eq other number ≡ true) ⊎ (nat_eq other number ≡ false)
      → pages_told number (Page other ∷ events) (reply ∷ replies) ≡ pages_of chain size (drop position rows) (length (pages_told number (Page other ∷ events) (reply ∷ replies)))
  paged position other old mid events replies reply rest at pages (inl same) =
      let t = turned position old mid reply at (subst (λ (n : ℕ). Pages size n old reply mid) (eqb-true other number same) pages) in
      rw same (
      ap (λ (r : Reply). r ∷ pages_told number events replies) t.told
      ∙ ap (λ (rs : List Reply). page_reply chain size (drop position rows) ∷ rs)
      (rest (position + length (take size (drop position rows))) t.at
      ∙ ap (λ (left : List (List ℕ × Row)). pages_of chain size left (length (pages_told number events replies))) (left_behind position))
      )
  paged position other old mid events replies reply rest at pages (inr differs) =
      let elsewhere : other ≡ number → ⊥ = λ is. both_ways (nat_eq other number) differs (eq-eqb other number is) in
      rw differs (rest position (behind_other_page number (session chain position) old at size other reply mid elsewhere pages))

  pub pinned : (position : ℕ) (old new : ListState) (events : List ListEvent) (replies : List Reply) → old.sessions number ≡ Some (session chain position)
      → StaysOpen number events → ListRun size old events replies new
      → pages_told number events replies ≡ pages_of chain size (drop position rows) (length (pages_told number events replies))
  pinned position old new [] replies at stays run = refl
  pinned position old new (event ∷ events) [] at stays run = refl
  pinned position old new (Plain event ∷ events) (reply ∷ replies) at stays run =
      pinned position run.0 new events replies (ap (λ (s : Sessions). s number) run.1.sessions ∙ at) stays run.2
  pinned position old new (Open ∷ events) (reply ∷ replies) at stays run =
      pinned position run.0 new events replies (behind_opening number (session chain position) old.sessions at (chain_of old.run) reply run.0.sessions run.1.sessions) stays run.2
  pinned position old new (Begin ∷ events) (reply ∷ replies) at stays run =
      pinned position run.0 new events replies (ap (λ (s : Sessions). s number) run.1.sessions ∙ at) stays run.2
  pinned position old new (Slice asked ∷ events) (reply ∷ replies) at stays run =
      pinned position run.0 new events replies (ap (λ (s : Sessions). s number) run.1.sessions ∙ at) stays run.2
  pinned position old new (Close other ∷ events) (reply ∷ replies) at stays run =
      pinned position run.0 new events replies (behind_close number (session chain position) old.sessions at other reply run.0.sessions stays.0 run.1.sessions) stays.1 run.2
  pinned position old new (Page other ∷ events) (reply ∷ replies) at stays run =
      paged position other old.sessions run.0.sessions events replies reply (λ next there. pinned next run.0 new events replies there stays run.2) at run.1.sessions (cases_Bool (nat_eq other number))
