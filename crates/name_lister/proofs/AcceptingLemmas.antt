-- What a listing run accepts, and what a save in slices saves of it.
use Rattle.std.proofs.Common.{◌≡◌, ℕ, ◌+◌, List, [], ◌∷◌, ◌++◌, length, length-append, append_assoc, drop, Option, Some, None, refl, sym, ap, subst, ◌∙◌, inl, inr, arith}
use Rattle.std.specs.Prelude.{◌≢◌, ◌⊎◌}
use Rattle.std.proofs.lemmas.Bool.{cases_eq, eq-eqb, ne_eqb}
use Rattle.std.proofs.lemmas.List.{drop_at}
use Rattle.chain_commands.specs.Event.{Command, Event, Do, Ask, Save}
use Rattle.chain_commands.specs.RunState.{RunState}
use Rattle.feed_frames.specs.Replies.{Reply}
use Rattle.bridge_core.specs.Step as machine
use Rattle.bridge_core.proofs.MachineLemmas.{step_leaves}
use Rattle.name_lister.specs.Accepting.{joined_plain, joined, with_accepted, GoesOnAt, GoesOn}
use Rattle.name_lister.specs.Event.{ListEvent, Plain, Open, Page, Close, Begin, Slice}
use Rattle.name_lister.specs.Saver.{Saver, Begins, runs_already, no_more_saves, lacks_memory, too_long, begins, Slices, no_save, writes, selects, gives_up, Selects, slice_size, begun_reply, more_reply, selected_reply}
use Rattle.name_lister.specs.Step.{ListState, ListStep, ListRun, PlainStep}

-- all that a state accepted, the newest first
abbrev all_of : RunState → List Command
all_of run = run.since ++ run.saved

-- ---- one step

plain_by : (old new : RunState) (command : Command) (reply : Reply) → machine.Step old (Do command) reply new → (reply.code ≡ 0) ⊎ (reply.code ≢ 0)
    → all_of new ≡ joined_plain (Do command) reply (all_of old)
plain_by old new command reply step (inl is_zero) = rw (eq-eqb reply.code 0 is_zero) (ap all_of ((step_leaves old new (Do command) reply step).done is_zero))
plain_by old new command reply step (inr other) = rw (ne_eqb reply.code 0 other) (ap all_of ((step_leaves old new (Do command) reply step).undone other))

save_by : (old new : RunState) (reply : Reply) → machine.Step old Save reply new → (reply.code ≡ 0) ⊎ (reply.code ≢ 0) → all_of new ≡ all_of old
save_by old new reply step (inl is_zero) = ap all_of ((step_leaves old new Save reply step).done is_zero).state_is
save_by old new reply step (inr other) = ap all_of ((step_leaves old new Save reply step).undone other)

machine_step : (old new : RunState) (event : Event) (reply : Reply) → machine.Step old event reply new → all_of new ≡ joined_plain event reply (all_of old)
machine_step old new (Do command) reply step = plain_by old new command reply step (cases_eq reply.code 0)
machine_step old new (Ask carrier message) reply step = ap all_of step.unchanged
machine_step old new Save reply step = save_by old new reply step (cases_eq reply.code 0)

plain_step : (saver : Option Saver) (old new : RunState) (event : Event) (reply : Reply) → PlainStep saver old event reply new → all_of new ≡ joined_plain event reply (all_of old)
plain_step None old new event reply step = machine_step old new event reply step
plain_step (Some saver) old new (Do command) reply step = machine_step old new (Do command) reply step
plain_step (Some saver) old new (Ask carrier message) reply step = machine_step old new (Ask carrier message) reply step
plain_step (Some saver) old new Save reply step = ap all_of step.1

selected_all : (most : ℕ) (old : RunState) (saver : Saver) (new : RunState) → Selects most old saver new → all_of new ≡ all_of old
selected_all most old saver new s =
    ap all_of s.state_is ∙ sym (append_assoc s.newer s.older old.saved) ∙ ap (λ (commands : List Command). commands ++ old.saved) (sym s.split.since_is)

slice_step : (most : ℕ) (old : RunState) (was : Option Saver) (reply : Reply) (new : RunState) (now : Option Saver) → Slices most old was reply new now → all_of new ≡ all_of old
slice_step most old was reply new now (no_save none told same gone) = ap all_of same
slice_step most old was reply new now (writes saver is w) = ap all_of w.same
slice_step most old was reply new now (selects saver is s told gone) = selected_all most old saver new s
slice_step most old was reply new now (gives_up saver is long told same gone) = ap all_of same

module _ (size : ℕ) where
  one_step : (old new : ListState) (event : ListEvent) (reply : Reply) → ListStep size old event reply new → all_of new.run ≡ joined event reply (all_of old.run)
  one_step old new (Plain event) reply step = plain_step old.saver old.run new.run event reply step.moves.0
  one_step old new Open reply step = ap all_of step.moves.0
  one_step old new (Page number) reply step = ap all_of step.moves.0
  one_step old new (Close number) reply step = ap all_of step.moves.0
  one_step old new Begin reply step = ap all_of step.moves.0
  one_step old new (Slice asked) reply step = slice_step (slice_size asked) old.run old.saver reply new.run new.saver step.moves

  -- ---- a run

  pub accepted_by : (old new : ListState) (events : List ListEvent) (replies : List Reply) → ListRun size old events replies new
      → all_of new.run ≡ with_accepted (all_of old.run) events replies
  accepted_by old new [] [] run = ap (λ (state : ListState). all_of state.run) run
  accepted_by old new [] (reply ∷ replies) run = absurd run
  accepted_by old new (event ∷ events) [] run = absurd run
  accepted_by old new (event ∷ events) (reply ∷ replies) run =
      accepted_by run.0 new events replies run.2 ∙ ap (λ (commands : List Command). with_accepted commands events replies) (one_step old run.0 event reply run.1)

-- ---- a save in slices

-- the first byte of a payload
abbrev first_of : List ℕ → ℕ
first_of [] = 0
first_of (byte ∷ bytes) = byte

-- a save runs that was begun behind these commands, and none of them was lost since
record RunsSince (begun : List Command) (state : ListState) : Type 0 where
  pub saver : Saver
  pub saver_is : state.saver ≡ Some saver
  pub commands_are : saver.commands ≡ length begun
  pub front : List Command
  pub all_are : all_of state.run ≡ front ++ begun

some_none : {X : Type 0} (o : Option X) (x : X) → o ≡ Some x → o ≡ None → ⊥
some_none o x some none = let clash : Some x ≡ None = sym some ∙ none in absurd (cc clash)

same_one : {X : Type 0} (o : Option X) (x y : X) → o ≡ Some x → o ≡ Some y → x ≡ y
same_one o x y one other = cc (one, other)

same_backs : {X : Type 0} (a b c d : List X) → a ++ b ≡ c ++ d → length b ≡ length d → b ≡ d
same_backs a b c d e same =
    sym (drop_at a b (length a) refl) ∙ ap (drop (length a)) e ∙ drop_at c d (length a) (omega (arith, ap length e, length-append a b, length-append c d, same))

-- the front with an accepted command before it
record Joined (begun commands : List Command) : Type 0 where
  pub front : List Command
  pub is : commands ≡ front ++ begun

joined_front : (event : Event) (reply : Reply) (front begun : List Command) → (reply.code ≡ 0) ⊎ (reply.code ≢ 0) → Joined begun (joined_plain event reply (front ++ begun))
joined_front (Do command) reply front begun (inl is_zero) = rw (eq-eqb reply.code 0 is_zero) (record { front = command ∷ front; is = refl })
joined_front (Do command) reply front begun (inr other) = rw (ne_eqb reply.code 0 other) (record { front = front; is = refl })
joined_front (Ask carrier message) reply front begun either = record { front = front; is = refl }
joined_front Save reply front begun either = record { front = front; is = refl }

-- a slice that is the last tells another thing than one behind which bytes are left
abbrev one_of : Reply → ℕ
one_of reply = first_of reply.payload

one_told : (number : ℕ) → one_of (selected_reply number) ≡ 1
one_told number = refl

other_told : (number : ℕ) (reply : Reply) → reply ≡ selected_reply number → reply ≡ more_reply → ⊥
other_told number reply e f = omega (arith, one_told number, ap one_of e, ap one_of f)

module _ (begun : List Command) where
  -- nothing of it changes
  stays_so : (old new : ListState) → new.run ≡ old.run → new.saver ≡ old.saver → RunsSince begun old → RunsSince begun new
  stays_so old new run saver r = record {
    saver = r.saver;
    saver_is = saver ∙ r.saver_is;
    commands_are = r.commands_are;
    front = r.front;
    all_are = ap all_of run ∙ r.all_are;
  }

  plain_so : (old new : ListState) (event : Event) (reply : Reply) → PlainStep old.saver old.run event reply new.run → new.saver ≡ old.saver → RunsSince begun old → RunsSince begun new
  plain_so old new event reply step saver r =
      let more = joined_front event reply r.front begun (cases_eq reply.code 0) in
      record {
        saver = r.saver;
        saver_is = saver ∙ r.saver_is;
        commands_are = r.commands_are;
        front = more.front;
        all_are = plain_step old.saver old.run new.run event reply step ∙ ap (joined_plain event reply) r.all_are ∙ more.is;
      }

  begin_so : (old new : ListState) (reply : Reply) → new.run ≡ old.run → Begins old.run old.saver reply new.saver → RunsSince begun old → RunsSince begun new
  begin_so old new reply run (runs_already saver is told now) r = stays_so old new run now r
  begin_so old new reply run (no_more_saves none many told now) r = absurd (some_none old.saver r.saver r.saver_is none)
  begin_so old new reply run (lacks_memory none few told now) r = absurd (some_none old.saver r.saver r.saver_is none)
  begin_so old new reply run (too_long none few long told now) r = absurd (some_none old.saver r.saver r.saver_is none)
  begin_so old new reply run (begins saver none few is told now) r = absurd (some_none old.saver r.saver r.saver_is none)

  slice_so : (most : ℕ) (old new : ListState) (reply : Reply) → reply ≡ more_reply → Slices most old.run old.saver reply new.run new.saver → RunsSince begun old → RunsSince begun new
  slice_so most old new reply is (no_save none told same gone) r = absurd (some_none old.saver r.saver r.saver_is none)
  slice_so most old new reply is (writes saver at w) r =
      record {
        saver = record saver { written = saver.written + most };
        saver_is = w.moves;
        commands_are = ap (λ (s : Saver). s.commands) (same_one old.saver saver r.saver at r.saver_is) ∙ r.commands_are;
        front = r.front;
        all_are = ap all_of w.same ∙ r.all_are;
      }
  slice_so most old new reply is (selects saver at s told gone) r = absurd (other_told new.run.selections reply told is)
  slice_so most old new reply is (gives_up saver at long told same gone) r = absurd (omega (arith, ap (λ (x : Reply). x.code) (sym told ∙ is)))

  step_so : (size : ℕ) (old new : ListState) (event : ListEvent) (reply : Reply) → GoesOnAt event reply → ListStep size old event reply new → RunsSince begun old → RunsSince begun new
  step_so size old new (Plain event) reply on step r = plain_so old new event reply step.moves.0 step.moves.1 r
  step_so size old new Open reply on step r = stays_so old new step.moves.0 step.moves.1 r
  step_so size old new (Page number) reply on step r = stays_so old new step.moves.0 step.moves.1 r
  step_so size old new (Close number) reply on step r = stays_so old new step.moves.0 step.moves.1 r
  step_so size old new Begin reply on step r = begin_so old new reply step.moves.0 step.moves.1 r
  step_so size old new (Slice asked) reply on step r = slice_so (slice_size asked) old new reply on step.moves r

  run_so : (size : ℕ) (old new : ListState) (events : List ListEvent) (replies : List Reply) → GoesOn events replies → ListRun size old events replies new → RunsSince begun old → RunsSince begun new
  run_so size old new [] [] on run r = subst (RunsSince begun) (sym run) r
  run_so size old new [] (reply ∷ replies) on run r = absurd run
  run_so size old new (event ∷ events) [] on run r = absurd run
  run_so size old new (event ∷ events) (reply ∷ replies) on run r = run_so size run.0 new events replies on.1 run.2 (step_so size old run.0 event reply on.0 run.1 r)

  -- the last slice saves what it was begun behind
  saved_so : (most number : ℕ) (old new : ListState) → Slices most old.run old.saver (selected_reply number) new.run new.saver → RunsSince begun old → new.run.saved ≡ begun
  saved_so most number old new (no_save none told same gone) r = absurd (some_none old.saver r.saver r.saver_is none)
  saved_so most number old new (writes saver at w) r = absurd (other_told number (selected_reply number) refl w.told)
  saved_so most number old new (gives_up saver at long told same gone) r = absurd (omega (arith, ap (λ (x : Reply). x.code) told))
  saved_so most number old new (selects saver at s told gone) r =
      let count : saver.commands ≡ length begun = ap (λ (x : Saver). x.commands) (same_one old.saver saver r.saver at r.saver_is) ∙ r.commands_are in
      let parts : s.newer ++ (s.older ++ old.run.saved) ≡ r.front ++ begun =
      sym (append_assoc s.newer s.older old.run.saved) ∙ ap (λ (commands : List Command). commands ++ old.run.saved) (sym s.split.since_is) ∙ r.all_are in
      ap (λ (run : RunState). run.saved) s.state_is
      ∙ same_backs s.newer (s.older ++ old.run.saved) r.front begun parts (omega (arith, length-append s.older old.run.saved, s.split.count_is, count))

-- a save was begun
begun_so : (old new : ListState) → new.run ≡ old.run → Begins old.run old.saver begun_reply new.saver → RunsSince (all_of old.run) new
begun_so old new run (runs_already saver is told now) = absurd (omega (arith, ap (λ (x : Reply). x.code) told))
begun_so old new run (no_more_saves none many told now) = absurd (omega (arith, ap (λ (x : Reply). x.code) told))
begun_so old new run (lacks_memory none few told now) = absurd (omega (arith, ap (λ (x : Reply). x.code) told))
begun_so old new run (too_long none few long told now) = absurd (omega (arith, ap (λ (x : Reply). x.code) told))
begun_so old new run (begins saver none few is told now) = record { saver = saver; saver_is = now; commands_are = is.commands_are; front = []; all_are = ap all_of run }

module _ (size asked number : ℕ) (old begun mid new : ListState) (events : List ListEvent) (replies : List Reply) where
  pub saves_in_slices : ListStep size old Begin begun_reply begun → ListRun size begun events replies mid → GoesOn events replies → ListStep size mid (Slice asked) (selected_reply number) new
      → (new.run.saved ≡ all_of old.run) × (all_of new.run ≡ with_accepted (all_of old.run) events replies)
  saves_in_slices first run on last = (
    saved_so (all_of old.run) (slice_size asked) number mid new last.moves (run_so (all_of old.run) size begun mid events replies on run (begun_so old begun first.moves.0 first.moves.1)),
    one_step size mid new (Slice asked) (selected_reply number) last ∙ accepted_by size begun mid events replies run
        ∙ ap (λ (commands : List Command). with_accepted commands events replies) (ap all_of first.moves.0),
  )
