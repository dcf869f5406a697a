-- Why an event of a run was refused.
use Rattle.std.proofs.Common.{◌≡◌, ℕ, zero, suc, ◌+◌, ◌*◌, ◌<◌, ◌≤◌, Bool, true, false, List, [], ◌∷◌, ◌++◌, length, refl, sym, ap, subst, ◌∙◌, length-append, arith, inl, inr}
use Rattle.feed_frames.specs.Replies.{Reply}
use Rattle.chain_commands.specs.Chain.{Chain}
use Rattle.chain_commands.specs.Event.{Command, Connect, Disconnect, Event, Do, Ask, Save}
use Rattle.chain_commands.specs.RunState.{RunState, IsFull, accepted, area_of, chain_of, record_length}
use Rattle.chain_commands.specs.Connecting.{Connects}
use Rattle.chain_commands.specs.Saving.{HasLongText, longest_image, most_selections}
use Rattle.chain_commands.proofs.SavingLemmas.{saved_leaves}
use Rattle.bridge_core.specs.Step.{Run, Step}
use Rattle.bridge_core.proofs.MachineLemmas.{step_leaves}
use Rattle.generated_chain.specs.Blocks.{run_base, run_host}
use Rattle.generated_chain.specs.Events as made
use Rattle.generated_chain.specs.Events.{events_of, generated_events, joined_again, round_at, saved}
use Rattle.generated_chain.specs.declared.run.Round.{Round}
use Rattle.generated_validity.specs.Carried.{HaveOneTxid}
use Rattle.generated_validity.specs.Blocks.{block_behind, blocks_behind}
use Rattle.generated_validity.specs.Causes.{HasCause, Leads, chain_behind, full, long}
use Rattle.generated_validity.specs.Lengths.{longest_behind, longest_record, most_requests}
use Rattle.generated_validity.proofs.Areas.{AreShortBlocks, blocks_short, not_full, room_next, saved_room}
use Rattle.generated_validity.proofs.Chains.{later_txid}
use Rattle.generated_validity.proofs.Images.{no_long_text}
use Rattle.generated_validity.proofs.Refusals.{connect_cause, disconnect_cause, later_cause, one_cause, one_less, one_more, save_cause}
use Rattle.generated_validity.proofs.Rounds.{leads_apart, leads_low, leads_round, leads_rounds, leads_then}
use Rattle.name_store.specs.Stands.{begun_on}
use Rattle.bridge_core.specs.Bridge.{MakesStepFor, TellsFault}
use Rattle.bridge_core.specs.declared.bridge.Turned.{Turned}
use Rattle.bridge_core.specs.declared.bridge.Turned.TheVariants.{On, Ended}
use Rattle.bridge_commands.specs.Playing.{AreTaken, IsRefusal, IsRefused}

-- a run state whose chain is that of so many of a run's blocks, and which so many requests at most led to: its saves, and its area's records
record IsAt (seed blocks requests : ℕ) (run : RunState) : Type 0 where
  chain : chain_of run ≡ chain_behind seed blocks
  few : run.selections ≤ requests
  room : area_of run ≤ longest_behind requests

record Place (seed : ℕ) : Type 0 where
  run : RunState
  blocks : ℕ
  requests : ℕ
  at : IsAt seed blocks requests run

-- a place with other numbers of blocks and requests, in a run state that is told
abbrev place_of : (seed blocks requests : ℕ) (run old : RunState) → run ≡ old → IsAt seed blocks requests old → Place seed
place_of seed blocks requests run old is at = record { run = run; blocks = blocks; requests = requests; at = subst (IsAt seed blocks requests) (sym is) at }

at_more : (seed blocks requests more : ℕ) (run : RunState) → requests ≤ more → IsAt seed blocks requests run → IsAt seed blocks more run
at_more seed blocks requests more run le at = record { chain = at.chain; few = omega (arith, at.few, le); room = omega (arith, at.room, le) }

-- ---- events that were taken lead on

module _ (seed most : ℕ) (short : AreShortBlocks seed most) where
  record_short : (from : ℕ) → from < most → record_length (Connect (block_behind seed from)) ≤ longest_record
  record_short from low = omega (arith, short from low)

  -- where the run state has one command more
  taken_at : (from : Place seed) (blocks : ℕ) (command : Command) → chain_of (accepted from.run command) ≡ chain_behind seed blocks → record_length command ≤ longest_record
      → IsAt seed blocks (suc from.requests) (accepted from.run command)
  taken_at from blocks command chain fits = record {
    chain = chain;
    few = omega (arith, from.at.few);
    room = room_next from.run command from.requests from.at.room fits;
  }

  leads_on : (from : Place seed) (to : ℕ) (new : RunState) (events : List Event) (replies : List Reply) → Run from.run events replies new → AreTaken events replies
      → Leads seed most from.blocks events to → IsAt seed to (from.requests + length events) new
  leads_on from to new [] [] run taken leads =
      subst (λ (b : ℕ). IsAt seed b (from.requests + 0) new) leads
      (subst (IsAt seed from.blocks (from.requests + 0)) (sym run) (at_more seed from.blocks from.requests (from.requests + 0) from.run (omega arith) from.at))
  leads_on from to new [] (r ∷ replies) run taken leads = absurd run
  leads_on from to new (event ∷ events) [] run taken leads = absurd run
  leads_on from to new (Do (Connect block) ∷ events) (r ∷ replies) run taken leads =
      let done = (step_leaves from.run run.0 (Do (Connect block)) r run.1).done taken.0 in
      let joined = ap (λ (bytes : List ℕ). accepted from.run (Connect bytes)) leads.1 in
      let at = taken_at from (suc from.blocks) (Connect (block_behind seed from.blocks)) (one_more seed from.blocks from.run from.at.chain) (record_short from.blocks leads.0) in
      let next = place_of seed (suc from.blocks) (suc from.requests) run.0 _ (done ∙ joined) at in
      at_more seed to (suc from.requests + length events) (from.requests + suc (length events)) new (omega arith) (leads_on next to new events replies run.2 taken.1 leads.2)
  leads_on from to new (Do (Disconnect hash) ∷ events) (r ∷ replies) run taken leads =
      let done = (step_leaves from.run run.0 (Do (Disconnect hash)) r run.1).done taken.0 in
      let less = one_less seed leads.0 from.run run.0 hash r (from.at.chain ∙ ap (chain_behind seed) leads.1) leads.2 in
      let next = place_of seed leads.0 (suc from.requests) run.0 _ done (taken_at from leads.0 (Disconnect hash) less (omega arith)) in
      at_more seed to (suc from.requests + length events) (from.requests + suc (length events)) new (omega arith) (leads_on next to new events replies run.2 taken.1 leads.3)
  leads_on from to new (Ask carrier message ∷ events) (r ∷ replies) run taken leads =
      let next = place_of seed from.blocks from.requests run.0 from.run run.1.unchanged from.at in
      at_more seed to (from.requests + length events) (from.requests + suc (length events)) new (omega arith) (leads_on next to new events replies run.2 taken.1 leads)
  leads_on from to new (Save ∷ events) (r ∷ replies) run taken leads =
      let done = (step_leaves from.run run.0 Save r run.1).done taken.0 in
      let next : Place seed = record {
        run = run.0;
        blocks = from.blocks;
        requests = suc from.requests;
        at = record {
          chain = ap chain_of done.state_is ∙ saved_leaves from.run done.text ∙ from.at.chain;
          few = omega (arith, ap (λ (s : RunState). s.selections) done.state_is, from.at.few);
          room = omega (arith, saved_room from.run run.0 r taken.0 run.1);
        };
      } in
      at_more seed to (suc from.requests + length events) (from.requests + suc (length events)) new (omega arith) (leads_on next to new events replies run.2 taken.1 leads)

-- ---- the event that was refused

-- the next event of a run
record IsNext (seed most blocks : ℕ) (event : Event) : Type 0 where
  more : List Event
  to : ℕ
  leads : Leads seed most blocks (event ∷ more) to

-- a step, as the bridge goes on
record Steps (old : RunState) (event : Event) (reply : Reply) : Type 0 where
  new : RunState
  step : Step old event reply new

module _ (seed most : ℕ) (low : most < 65536) where
  cause_of : (from : Place seed) (event : Event) (reply : Reply) → from.requests < most_selections → IsNext seed most from.blocks event → IsRefused event reply → Steps from.run event reply
      → HasCause seed most from.run event
  cause_of from (Do (Connect block)) reply few next refused s =
      let own = connect_cause seed from.blocks from.run s.new reply (omega (arith, next.leads.0, low)) from.at.chain (record { not_done = refused.not_done; had_memory = refused.had_memory })
      (subst (λ (bytes : List ℕ). Connects from.run bytes reply s.new) next.leads.1 s.step) in
      subst (λ (bytes : List ℕ). HasCause seed most from.run (Do (Connect bytes))) (sym next.leads.1)
      (later_cause seed (suc from.blocks) most from.run (Do (Connect (block_behind seed from.blocks))) (omega (arith, next.leads.0)) own)
  cause_of from (Do (Disconnect hash)) reply few next refused s =
      full (Disconnect hash) (disconnect_cause seed next.leads.0 from.run s.new hash reply (from.at.chain ∙ ap (chain_behind seed) next.leads.1) next.leads.2
      (record { not_done = refused.not_done; had_memory = refused.had_memory }) s.step)
  cause_of from (Ask carrier message) reply few next refused s = absurd refused
  cause_of from Save reply few next refused s =
      long (save_cause from.run s.new reply (omega (arith, from.at.few, few)) (record { not_done = refused.not_done; had_memory = refused.had_memory }) s.step)

-- ---- where a run begins, and how many events it has

begun_at : (seed : ℕ) → IsAt seed 0 0 (begun_on run_base run_host)
unfolding blocks_behind
begun_at seed = record { chain = refl; few = omega arith; room = omega arith }

few_events : (seed n : ℕ) → length (events_of (round_at seed n)) ≤ 6
few_events seed n = by round.reconnects round.saves
  where
    round : Round
    round = round_at seed n

    by : (again saves : Bool) → suc (length (joined_again again round.block round.hash.0 ++ (saved saves ++ made.asked_twice round.query))) ≤ 6
    by true true = omega arith
    by true false = omega arith
    by false true = omega arith
    by false false = omega arith

few_in_all : (seed n : ℕ) → length (generated_events n seed) ≤ 6 * n
few_in_all seed zero = omega arith
few_in_all seed (suc n) = omega (arith, few_in_all seed n, few_events seed n, length-append (generated_events n seed) (events_of (round_at seed n)))

-- ---- a reply that is a refusal isn't that of a fault

refusal_of : (event : Event) (reply : Reply) → IsRefused event reply → IsRefusal reply
refusal_of (Do command) reply is = is
refusal_of (Ask carrier message) reply is = absurd is
refusal_of Save reply is = is

stepped : (old : RunState) (event : Event) (reply : Reply) (turned : Turned) → TellsFault reply turned → IsRefused event reply → MakesStepFor old event reply turned → Steps old event reply
stepped old event reply (On bridge) told refused made = record { new = made.new; step = made.step }
stepped old event reply Ended told refused made = absurd ((refusal_of event reply refused).no_fault (ap (λ (r : Reply). r.code) told))

-- ---- an event of the round behind so many

-- A front of the round's events was taken, which led to this run state, and the next one was refused.
pub record StopsAt (seed rounds : ℕ) (mid : RunState) (event : Event) : Type 0 where
  pub front : List Event
  pub more : List Event
  pub split : events_of (round_at seed rounds) ≡ front ++ event ∷ more
  pub replies : List Reply
  pub runs : Run (begun_on run_base run_host) (generated_events rounds seed ++ front) replies mid
  pub taken : AreTaken (generated_events rounds seed ++ front) replies
  pub reply : Reply
  pub turned : Turned
  pub told : TellsFault reply turned
  pub refused : IsRefused event reply
  pub makes : MakesStepFor mid event reply turned

-- the place that the events before it led to, and where it leads from there
record Reached (seed rounds : ℕ) (mid : RunState) (event : Event) : Type 0 where
  blocks : ℕ
  requests : ℕ
  at : IsAt seed blocks requests mid
  few : requests < most_requests
  low : blocks ≤ suc rounds
  next : IsNext seed (suc rounds) blocks event

module _ (seed rounds : ℕ) (mid : RunState) (event : Event) (low : rounds < 10000) (short : AreShortBlocks seed (suc rounds)) where
  reached : StopsAt seed rounds mid event → Reached seed rounds mid event
  reached s =
      let own = leads_apart seed (suc rounds) rounds (suc rounds) s.front (event ∷ s.more)
      (subst (λ (es : List Event). Leads seed (suc rounds) rounds es (suc rounds)) s.split (leads_round seed (suc rounds) rounds (omega arith))) in
      let all = leads_then seed (suc rounds) 0 rounds own.0 (generated_events rounds seed) s.front (leads_rounds seed (suc rounds) rounds (omega arith)) own.1 in
      let begun : Place seed = record { run = begun_on run_base run_host; blocks = 0; requests = 0; at = begun_at seed } in
      let events = generated_events rounds seed ++ s.front in
      record {
        blocks = own.0;
        requests = 0 + length events;
        at = leads_on seed (suc rounds) short begun own.0 mid events s.replies s.runs s.taken all;
        few = omega (
          arith,
          few_in_all seed rounds,
          few_events seed rounds,
          ap (λ (es : List Event). length es) s.split,
          length-append s.front (event ∷ s.more),
          length-append (generated_events rounds seed) s.front,
          low,
        );
        low = leads_low seed (suc rounds) 0 own.0 events (omega arith) all;
        next = record { more = s.more; to = suc rounds; leads = own.2 };
      }

  -- the area has room for the event
  has_room : (r : Reached seed rounds mid event) (command : Command) → event ≡ Do command → ¬ (IsFull mid command)
  has_room r command is = not_full mid command r.requests r.few r.at.room (by command (subst (IsNext seed (suc rounds) r.blocks) is r.next))
    where
      by : (command : Command) → IsNext seed (suc rounds) r.blocks (Do command) → record_length command ≤ longest_record
      by (Connect block) next = subst (λ (bytes : List ℕ). record_length (Connect bytes) ≤ longest_record) (sym next.leads.1) (record_short seed (suc rounds) short r.blocks next.leads.0)
      by (Disconnect hash) next = omega arith

  left_cause : (s : StopsAt seed rounds mid event) → HaveOneTxid seed (suc rounds)
  left_cause s =
      let r = reached s in
      let from : Place seed = record { run = mid; blocks = r.blocks; requests = r.requests; at = r.at } in
      let cause = cause_of seed (suc rounds) (omega (arith, low)) from event s.reply (omega (arith, r.few)) r.next s.refused (stepped mid event s.reply s.turned s.told s.refused s.makes) in
      elim (no_long_text seed r.blocks (omega (arith, r.low, low))) [
        | inl same ↦ later_txid seed r.blocks (suc rounds) r.low same
        | inr fits ↦ one_cause seed (suc rounds) mid event (has_room r) (subst (λ (c : Chain). ¬ (HasLongText longest_image c)) (sym r.at.chain) fits) cause
      ]

pub refused_cause : (seed rounds : ℕ) (mid : RunState) (event : Event) → rounds < 10000 → StopsAt seed rounds mid event → HaveOneTxid seed (suc rounds)
refused_cause seed rounds mid event low s =
    elim (blocks_short seed (suc rounds) (omega (arith, low))) [
      | inl same ↦ same
      | inr short ↦ left_cause seed rounds mid event low short s
    ]
