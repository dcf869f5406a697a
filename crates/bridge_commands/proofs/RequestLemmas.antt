-- Commands and saves that were accepted, one after the other: what is counted of them, and what they leave of the answers that are kept.
use Rattle.std.proofs.Common.{◌≡◌, ℕ, suc, ◌+◌, ◌<◌, ◌≤◌, ◌==◌, nat_lt, if◌then◌else◌, Bool, true, false, List, [], ◌∷◌, ◌++◌, length, Contains, refl, sym, ap, subst, ◌∙◌, arith}
use Rattle.std.proofs.lemmas.Bool.Decides.{nat_tests}
use Rattle.disk_model.specs.DiskSeen.{DiskSeen}
use Rattle.feed_frames.specs.Replies.{Reply}
use Rattle.answer_cache.specs.Cached.{Cached}
use Rattle.answer_cache.specs.declared.cache_key.CacheKey.{CacheKey}
use Rattle.kept_answers.specs.Answering.{Answering, last_count, outdated}
use Rattle.chain_commands.specs.Event.{Command, Event, Do, Ask, Save}
use Rattle.chain_commands.specs.RunState.{RunState}
use Rattle.generated_chain.specs.Events.{joined_again, saved}
use Rattle.generated_chain.specs.declared.run.Round.{Round}
use Rattle.bridge_core.specs.Leaving.{accepted_saves}
use Rattle.bridge_core.specs.Bridge.{AnswersEvent}
use Rattle.bridge_core.specs.Bridged.{Bridged, StandsFor}
use Rattle.bridge_core.specs.declared.bridge.Turned.TheVariants.{On}
use Rattle.bridge_commands.specs.Playing.{AnswersEach, AreTaken, IsTaken, answers_in, counted_if, requests_of}

-- ---- commands and saves alone

abbrev pub AreRequests : List Event → Type 0
AreRequests [] = Unit {0}
AreRequests (Do command ∷ events) = AreRequests events
AreRequests (Ask carrier message ∷ events) = ⊥
AreRequests (Save ∷ events) = AreRequests events

-- they get no answer
pub no_answers : (events : List Event) (replies : List Reply) → AreRequests events → answers_in events replies ≡ 0
no_answers [] replies are = refl
no_answers (event ∷ events) [] are = refl
no_answers (Do command ∷ events) (r ∷ replies) are = no_answers events replies are
no_answers (Ask carrier message ∷ events) (r ∷ replies) are = absurd are
no_answers (Save ∷ events) (r ∷ replies) are = no_answers events replies are

-- how many of them are saves
abbrev pub saves_among : List Event → ℕ
saves_among [] = 0
saves_among (Do command ∷ events) = saves_among events
saves_among (Ask carrier message ∷ events) = saves_among events
saves_among (Save ∷ events) = suc (saves_among events)

-- all of which were made
pub saves_taken : (events : List Event) (replies : List Reply) → length events ≡ length replies → AreTaken events replies → accepted_saves events replies ≡ saves_among events
saves_taken [] replies same t = refl
saves_taken (event ∷ events) [] same t = absurd (omega (arith, same))
saves_taken (Do command ∷ events) (r ∷ replies) same t = saves_taken events replies (omega (arith, same)) t.1
saves_taken (Ask carrier message ∷ events) (r ∷ replies) same t = saves_taken events replies (omega (arith, same)) t.1
saves_taken (Save ∷ events) (r ∷ replies) same t =
    ap (λ (code : ℕ). counted_if (code == 0) (accepted_saves events replies)) t.0 ∙ ap suc (saves_taken events replies (omega (arith, same)) t.1)

-- ---- those of a round

requests_by : (again saves : Bool) (block hash : List ℕ) → AreRequests (joined_again again block hash ++ saved saves)
requests_by true true block hash = tt
requests_by true false block hash = tt
requests_by false true block hash = tt
requests_by false false block hash = tt

pub are_requests : (round : Round) → AreRequests (requests_of round)
are_requests round = requests_by round.reconnects round.saves round.block round.hash.0

saves_by : (again saves : Bool) (block hash : List ℕ) → saves_among (joined_again again block hash ++ saved saves) ≡ counted_if saves 0
saves_by true true block hash = refl
saves_by true false block hash = refl
saves_by false true block hash = refl
saves_by false false block hash = refl

pub saves_of : (round : Round) → saves_among (requests_of round) ≡ counted_if round.saves 0
saves_of round = saves_by round.reconnects round.saves round.block round.hash.0

few_by : (again saves : Bool) (block hash : List ℕ) → length (joined_again again block hash ++ saved saves) ≤ 3
few_by true true block hash = omega arith
few_by true false block hash = omega arith
few_by false true block hash = omega arith
few_by false false block hash = omega arith

-- they are four at most
pub few_requests : (round : Round) → length (requests_of round) ≤ 4
few_requests round = let few = few_by round.reconnects round.saves round.block round.hash.0 in omega (arith, few)

-- ---- the answers that are kept

-- they are the same, and so many commands more are counted at most
pub record Aged (most : ℕ) (old new : Answering) : Type 0 where
  pub cache : new.cache ≡ old.cache
  pub no_fewer : old.accepted ≤ new.accepted
  pub no_more : new.accepted ≤ old.accepted + most

-- one more is counted, while the count goes on
next_by : (count : ℕ) (is_less : Bool) → nat_lt count last_count ≡ is_less → count < last_count → (if is_less then suc count else count) ≡ suc count
next_by count true e less = refl
next_by count false e less = let least : last_count ≤ count = grind (arith, nat_tests, e) in absurd (omega arith)

next_count : (answers : Answering) → answers.accepted < last_count → (outdated answers).accepted ≡ suc answers.accepted
next_count answers less = next_by answers.accepted (nat_lt answers.accepted last_count) refl less

aged_once : (old new : Answering) → old.accepted < last_count → new ≡ outdated old → Aged 1 old new
aged_once old new less is =
    let count = ap (λ (answers : Answering). answers.accepted) is ∙ next_count old less in
    record { cache = ap (λ (answers : Answering). answers.cache) is; no_fewer = omega (arith, count); no_more = omega (arith, count) }

same_aged : (old new : Answering) → new ≡ old → Aged 1 old new
same_aged old new is =
    let count = ap (λ (answers : Answering). answers.accepted) is in
    record { cache = ap (λ (answers : Answering). answers.cache) is; no_fewer = omega (arith, count); no_more = omega (arith, count) }

module _ {D : Type 0} (tells : Bool) (seen : D → DiskSeen) where
  aged_by : (old new : Bridged × D) (event : Event) (reply : Reply) → AreRequests (event ∷ []) → IsTaken event reply → old.0.answers.accepted < last_count
      → AnswersEvent tells seen old.0 old.1 event reply (On new.0) new.1 → Aged 1 old.0.answers new.0.answers
  aged_by old new (Do command) reply is taken less a = aged_once old.0.answers new.0.answers less (a.answers.0 taken)
  aged_by old new (Ask carrier message) reply is taken less a = absurd is
  aged_by old new Save reply is taken less a = same_aged old.0.answers new.0.answers a.answers

  -- where they lead, and what they leave
  pub record Behind (most : ℕ) (old new : Bridged × D) : Type 0 where
    pub run : RunState
    pub stands : StandsFor new.0 run
    pub aged : Aged most old.0.answers new.0.answers

  first_request : (event : Event) (events : List Event) → AreRequests (event ∷ events) → AreRequests (event ∷ []) × AreRequests events
  first_request (Do command) events are = (tt, are)
  first_request (Ask carrier message) events are = absurd are
  first_request Save events are = (tt, are)

  pub behind_requests : (old new : Bridged × D) (events : List Event) (replies : List Reply) → AreRequests events → AnswersEach tells seen old events replies new → AreTaken events replies
      → (run : RunState) → StandsFor old.0 run → old.0.answers.accepted + length events ≤ last_count → Behind (length events) old new
  behind_requests old new [] [] are e t run s low =
      subst (λ (at : Bridged × D). Behind 0 old at) (sym e) (record { run = run; stands = s; aged = record { cache = refl; no_fewer = omega arith; no_more = omega arith } })
  behind_requests old new [] (r ∷ replies) are e t run s low = absurd e
  behind_requests old new (event ∷ events) [] are e t run s low = absurd e
  behind_requests old new (event ∷ events) (r ∷ replies) are e t run s low =
      let parts = first_request event events are in
      let once = aged_by old e.0 event r parts.0 t.0 (omega (arith, low)) e.1 in
      let moved = e.1.step run s in
      let rest = behind_requests e.0 new events replies parts.1 e.2 t.1 moved.new moved.stands (omega (arith, low, once.no_more)) in
      record {
        run = rest.run;
        stands = rest.stands;
        aged = record { cache = rest.aged.cache ∙ once.cache; no_fewer = omega (arith, once.no_fewer, rest.aged.no_fewer); no_more = omega (arith, once.no_more, rest.aged.no_more) };
      }

  -- none that is kept was kept behind the newest command
  pub fresh_behind : (old new : Bridged × D) (command : Command) (events : List Event) (replies : List Reply) → AreRequests events
      → AnswersEach tells seen old (Do command ∷ events) replies new → AreTaken (Do command ∷ events) replies → (run : RunState) → StandsFor old.0 run
      → old.0.answers.accepted + suc (length events) ≤ last_count
      → (kept : CacheKey × List ℕ) → Contains new.0.answers.cache.entries kept → kept.0.accepted < new.0.answers.accepted
  fresh_behind old new command events [] are e t run s low = absurd e
  fresh_behind old new command events (r ∷ replies) are e t run s low = λ kept is.
      let first : e.0.0.answers ≡ outdated old.0.answers = e.1.answers.0 t.0 in
      let count = ap (λ (answers : Answering). answers.accepted) first ∙ next_count old.0.answers (omega (arith, low)) in
      let moved = e.1.step run s in
      let rest = behind_requests e.0 new events replies are e.2 t.1 moved.new moved.stands (omega (arith, low, count)) in
      let there = subst (λ (cache : Cached). Contains cache.entries kept) (rest.aged.cache ∙ ap (λ (answers : Answering). answers.cache) first) is in
      omega (arith, (s.right kept there).0, count, rest.aged.no_fewer)
