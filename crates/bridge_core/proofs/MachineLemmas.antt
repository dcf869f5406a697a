-- Runs go on by one step, and what they leave is the surviving chain of the accepted commands.
use Rattle.std.proofs.Common.{◌≡◌, ◌==◌, if◌then◌else◌, ℕ, zero, suc, List, [], ◌∷◌, ◌++◌, refl, sym, ap, subst, ◌∙◌, arith}
use Rattle.std.proofs.lemmas.Bool.{eq-eqb, ne_eqb}
use Rattle.block_grammar.specs.Block.{block_hash}
use Rattle.chain_commands.specs.Chain.{Chain, with_block}
use Rattle.chain_commands.specs.Event.{Command, Connect, Disconnect, Event, Do, Ask, Save}
use Rattle.chain_commands.specs.RunState.{RunState, saved_chain, chain_of, IsFull, accepted, all_accepted, after_command}
use Rattle.feed_frames.specs.Replies.{Reply}
use Rattle.chain_commands.specs.Refusals.{Refusals, HasNoneBelow, Answers, accepts, declines, lacks_memory, LeavesDone}
use Rattle.chain_commands.specs.Connecting.{IsValid, Holds, order_of, connects}
use Rattle.chain_commands.specs.Disconnecting as back
use Rattle.chain_commands.specs.Disconnecting.{BackRefusal, AtBase, NotTip, HoldsBack, back_order, disconnects}
use Rattle.undo_records.specs.declared.version.Version.TheVariants.{Two}
use Rattle.chain_commands.specs.Saving.{IsTextOf, HoldsSave, save_order, saves, saved_by, IsSaved, LeavesSaved, HasSaved}
use Rattle.bridge_core.specs.Step.{Step, Run}
use Rattle.bridge_core.specs.Leaving.{Leaves, accepted_saves, IsBehind}
use Rattle.chain_commands.specs.Surviving.{is_done, stays, SurvivesCommand, Surviving, accepted_of}
use Rattle.chain_commands.proofs.RefusalLemmas.{DoesOne, code_of, lacking_code, decided, command_does, survives_once, fewer_none}
use Rattle.chain_commands.proofs.CommandLemmas.{without_journal, placed, coded, without_journal_back, placed_back, coded_back}
use Rattle.chain_commands.proofs.SavingLemmas.{chain_of_all, coded_save, save_does, save_leaves_chain, command_keeps, save_keeps}

-- the step after a run
pub record NextStep (mid : RunState) : Type 0 where
  pub event : Event
  pub reply : Reply
  pub next : RunState
  pub step : Step mid event reply next

pub run_push : (old : RunState) (events : List Event) (replies : List Reply) (mid : RunState) (s : NextStep mid)
    → Run old events replies mid → Run old (events ++ s.event ∷ []) (replies ++ s.reply ∷ []) s.next
run_push old [] [] mid s run = (s.next, subst (λ (r : RunState). Step r s.event s.reply s.next) run s.step, refl)
run_push old [] (r ∷ replies) mid s run = absurd run
run_push old (e ∷ events) [] mid s run = absurd run
run_push old (e ∷ events) (r ∷ replies) mid s run = (run.0, run.1, run_push run.0 events replies mid s run.2)

-- a reply to the event, and the state after the step
abbrev pub Stepped : RunState → Event → Type 0
Stepped old event = (reply : Reply) × (new : RunState) × Step old event reply new

pub decided_step : (old : RunState) (event : Event) (one two : Stepped old event) → one.0.code ≡ two.0.code → one.1 ≡ two.1
decided_step old (Do (Connect block)) one two e =
    decided connects (Holds (IsFull old (Connect block)) (chain_of old) block) (LeavesDone old (Connect block)) old (command_does old (Connect block)) coded one two e
decided_step old (Do (Disconnect hash)) one two e =
    decided disconnects (HoldsBack (IsFull old (Disconnect hash)) (chain_of old) hash) (LeavesDone old (Disconnect hash)) old (command_does old (Disconnect hash)) coded_back one two e
decided_step old (Ask carrier message) (reply, new, one) (answer, other, two) e = one.unchanged ∙ sym two.unchanged
decided_step old Save one two e = decided saves (HoldsSave old) (LeavesSaved old) old (save_does old) coded_save one two e

-- ---- the surviving chain

command_survives_once : (old new other : Chain) (command : Command) → SurvivesCommand old command new → SurvivesCommand old command other → new ≡ other
command_survives_once old new other (Connect block) first second = survives_once connects (Holds ⊥ old block) old (after_command old (Connect block)) placed (new, first) (other, second)
command_survives_once old new other (Disconnect hash) first second = survives_once disconnects (HoldsBack ⊥ old hash) old (after_command old (Disconnect hash)) placed_back (new, first) (other, second)

pub one_surviving : (old new other : Chain) (commands : List Command) → Surviving old commands new → Surviving old commands other → new ≡ other
one_surviving old new other [] first second = first ∙ sym second
one_surviving old new other (command ∷ commands) (mid, one, more) (end, two, others) =
    let same = command_survives_once old mid end command one two in
    one_surviving end new other commands (subst (λ (c : Chain). Surviving c commands new) same more) others

-- ---- what a step leaves

-- something is done, with code 0, or the state stays, with another code
data Comes (Done : Type 0) (old : RunState) (reply : Reply) (new : RunState) : Type 0 where
  does : reply.code ≡ 0 → Done → Comes Done old reply new
  remains : (reply.code ≡ 0 → ⊥) → new ≡ old → Comes Done old reply new

comes_weaker : (A B : Type 0) (old : RunState) (reply : Reply) (new : RunState) → (A → B) → Comes A old reply new → Comes B old reply new
comes_weaker A B old reply new f (does is_zero done) = does is_zero (f done)
comes_weaker A B old reply new f (remains other same) = remains other same

answers_come : {R : Type 0} (refusals : Refusals R) (Holds : R → Type 0) (Does : Reply → RunState → Type 0) (old : RunState) → DoesOne Does → ((r : R) → (refusals.reply_of r).code ≡ 0 → ⊥)
    → (reply : Reply) (new : RunState) → Answers refusals Holds Does old reply new → Comes (HasNoneBelow Holds refusals.order refusals.places × Does reply new) old reply new
answers_come refusals Holds Does old d coded reply new (accepts none done) = does (d.code_is reply new done) (none, done)
answers_come refusals Holds Does old d coded reply new (declines refusal first new-is told) = remains (λ is_zero. coded refusal (sym (code_of _ _ told) ∙ is_zero)) new-is
answers_come refusals Holds Does old d coded reply new (lacks_memory none new-is told) = remains (λ is_zero. lacking_code (sym (code_of _ _ told) ∙ is_zero)) new-is

-- the command joins the state
record Joins (old : RunState) (command : Command) (new : RunState) : Type 0 where
  state_is : new ≡ accepted old command
  survives : SurvivesCommand (chain_of old) command (chain_of new)

connect_comes : (old new : RunState) (block : List ℕ) (reply : Reply) → Step old (Do (Connect block)) reply new → Comes (Joins old (Connect block) new) old reply new
connect_comes old new block reply step =
    let full = IsFull old (Connect block) in
    let with_journal = Holds full (chain_of old) block in
    comes_weaker (HasNoneBelow with_journal order_of 6 × LeavesDone old (Connect block) reply new) _ old reply new
    (λ done. record {
      state_is = done.1.state_is;
      survives = is_done (fewer_none (Holds ⊥ (chain_of old) block) with_journal order_of 6 (without_journal full (chain_of old) block) done.0) (ap chain_of done.1.state_is);
    })
    (answers_come connects with_journal (LeavesDone old (Connect block)) old (command_does old (Connect block)) coded reply new step)

disconnect_comes : (old new : RunState) (hash : List ℕ) (reply : Reply) → Step old (Do (Disconnect hash)) reply new → Comes (Joins old (Disconnect hash) new) old reply new
disconnect_comes old new hash reply step =
    let full = IsFull old (Disconnect hash) in
    let with_journal = HoldsBack full (chain_of old) hash in
    comes_weaker (HasNoneBelow with_journal back_order 3 × LeavesDone old (Disconnect hash) reply new) _ old reply new
    (λ done. record {
      state_is = done.1.state_is;
      survives = is_done (fewer_none (HoldsBack ⊥ (chain_of old) hash) with_journal back_order 3 (without_journal_back full (chain_of old) hash) done.0) (ap chain_of done.1.state_is);
    })
    (answers_come disconnects with_journal (LeavesDone old (Disconnect hash)) old (command_does old (Disconnect hash)) coded_back reply new step)

command_comes : (old new : RunState) (command : Command) (reply : Reply) → Step old (Do command) reply new → Comes (Joins old command new) old reply new
command_comes old new (Connect block) reply step = connect_comes old new block reply step
command_comes old new (Disconnect hash) reply step = disconnect_comes old new hash reply step

save_comes : (old new : RunState) (reply : Reply) → Step old Save reply new → Comes (IsSaved old new) old reply new
save_comes old new reply step =
    comes_weaker (HasNoneBelow (HoldsSave old) save_order 2 × LeavesSaved old reply new) (IsSaved old new) old reply new (λ done. done.1.is_saved)
    (answers_come saves (HoldsSave old) (LeavesSaved old) old (save_does old) coded_save reply new step)

-- so of each event
code_zero : {A : Type 0} {old : RunState} {reply : Reply} {new : RunState} (D : RunState → Type 0) → Comes A old reply new → (A → D new) → reply.code ≡ 0 → D new
code_zero D (does is_zero done) f is = f done
code_zero D (remains other same) f is = absurd (other is)

code_other : {A : Type 0} {old : RunState} {reply : Reply} {new : RunState} → Comes A old reply new → (reply.code ≡ 0 → ⊥) → new ≡ old
code_other (does is_zero done) other = absurd (other is_zero)
code_other (remains not same) other = same

pub step_leaves : (old new : RunState) (event : Event) (reply : Reply) → Step old event reply new → Leaves old event reply new
step_leaves old new (Do command) reply step =
    let comes = command_comes old new command reply step in
    record { done = code_zero (λ (r : RunState). r ≡ accepted old command) comes (λ joins. joins.state_is); undone = code_other comes }
step_leaves old new (Ask carrier message) reply step = record { done = λ is_zero. step.unchanged; undone = λ other. step.unchanged }
step_leaves old new Save reply step =
    let comes = save_comes old new reply step in
    record { done = code_zero (IsSaved old) comes (λ saved. saved); undone = code_other comes }

-- ---- what a run leaves

-- the accepted ones of a command and those after it
abbrev accepted_first : Command → Reply → List Command → List Command
accepted_first command reply later = if reply.code == 0 then command ∷ later else later

-- the accepted ones of a save and those after it
abbrev saved_first : Reply → ℕ → ℕ
saved_first reply later = if reply.code == 0 then suc later else later

joined_behind : (old new : RunState) (command : Command) (later : List Command) (count : ℕ) → IsBehind (accepted old command) later count new → IsBehind old (command ∷ later) count new
joined_behind old new command later count more = record {
  base_is = more.base_is;
  host_is = more.host_is;
  start_is = more.start_is;
  commands_are = more.commands_are;
  selections_are = more.selections_are;
  unsaved = more.unsaved;
  text_is = more.text_is;
}

behind_command : (old mid new : RunState) (command : Command) (reply : Reply) (later : List Command) (count : ℕ) → Comes (Joins old command mid) old reply mid
    → IsBehind mid later count new → IsBehind old (accepted_first command reply later) count new
behind_command old mid new command reply later count (does is_zero joins) more = rw (eq-eqb reply.code 0 is_zero) (joined_behind old new command later count (subst (λ (r : RunState). IsBehind r later count new) joins.state_is more))
behind_command old mid new command reply later count (remains other mid-is) more = rw (ne_eqb reply.code 0 other) (subst (λ (r : RunState). IsBehind r later count new) mid-is more)

-- commands join what is since
since_behind : (a b : RunState) (commands saved also : List Command) → a.since ++ saved ≡ b.since ++ also → (all_accepted a commands).since ++ saved ≡ (all_accepted b commands).since ++ also
since_behind a b [] saved also same = same
since_behind a b (command ∷ commands) saved also same = since_behind (accepted a command) (accepted b command) commands saved also (ap (λ (l : List Command). command ∷ l) same)

-- and leave what is saved
text_behind : (run : RunState) (commands : List Command) → IsTextOf Two (saved_chain run) run.text → IsTextOf Two (saved_chain (all_accepted run commands)) (all_accepted run commands).text
text_behind run [] is_text = is_text
text_behind run (command ∷ commands) is_text = text_behind (accepted run command) commands is_text

abbrev HasText : RunState → Type 0
HasText run = IsTextOf Two (saved_chain run) run.text

text_now : (old new : RunState) (text : List ℕ) (later : List Command) (count : ℕ) → HasText (saved_by old text) → IsBehind (saved_by old text) later count new → HasText new
text_now old new text later zero is_text more = subst HasText (sym (more.unsaved refl)) (text_behind (saved_by old text) later is_text)
text_now old new text later (suc count) is_text more = more.text_is (omega arith)

saved_behind : (old new : RunState) (text : List ℕ) (later : List Command) (count : ℕ) → IsTextOf Two (chain_of old) text → IsBehind (saved_by old text) later count new → IsBehind old later (suc count) new
saved_behind old new text later count is_text more = record {
  base_is = more.base_is;
  host_is = more.host_is;
  start_is = more.start_is;
  commands_are = more.commands_are ∙ since_behind (saved_by old text) old later (old.since ++ old.saved) old.saved refl;
  selections_are = omega (arith, more.selections_are);
  unsaved = λ none. absurd (omega (arith, none));
  text_is = λ some. text_now old new text later count (subst (λ (chain : Chain). IsTextOf Two chain text) (chain_of_all old) is_text) more;
}

behind_save : (old mid new : RunState) (reply : Reply) (later : List Command) (count : ℕ) → Comes (IsSaved old mid) old reply mid → IsBehind mid later count new → IsBehind old later (saved_first reply count) new
behind_save old mid new reply later count (does is_zero saved) more =
    rw (eq-eqb reply.code 0 is_zero) (saved_behind old new saved.text later count saved.is_text (subst (λ (r : RunState). IsBehind r later count new) saved.state_is more))
behind_save old mid new reply later count (remains other mid-is) more = rw (ne_eqb reply.code 0 other) (subst (λ (r : RunState). IsBehind r later count new) mid-is more)

nothing_behind : (old new : RunState) → new ≡ old → IsBehind old [] 0 new
nothing_behind old new same = subst (IsBehind old [] 0) (sym same) (record {
  base_is = refl;
  host_is = refl;
  start_is = refl;
  commands_are = refl;
  selections_are = omega arith;
  unsaved = λ none. refl;
  text_is = λ some. absurd (omega (arith, some));
})

pub run_state : (old new : RunState) (events : List Event) (replies : List Reply) → Run old events replies new → IsBehind old (accepted_of events replies) (accepted_saves events replies) new
run_state old new [] [] run = nothing_behind old new run
run_state old new [] (r ∷ replies) run = absurd run
run_state old new (e ∷ events) [] run = absurd run
run_state old new (Do command ∷ events) (r ∷ replies) (mid, step, more) =
    behind_command old mid new command r (accepted_of events replies) (accepted_saves events replies) (command_comes old mid command r step) (run_state mid new events replies more)
run_state old new (Ask carrier message ∷ events) (r ∷ replies) (mid, step, more) =
    subst (λ (run : RunState). IsBehind run (accepted_of events replies) (accepted_saves events replies) new) step.unchanged (run_state mid new events replies more)
run_state old new (Save ∷ events) (r ∷ replies) (mid, step, more) =
    behind_save old mid new r (accepted_of events replies) (accepted_saves events replies) (save_comes old mid r step) (run_state mid new events replies more)

chain_after : (old mid new : RunState) (command : Command) (reply : Reply) (later : List Command) → Comes (Joins old command mid) old reply mid
    → Surviving (chain_of mid) later (chain_of new) → Surviving (chain_of old) (accepted_first command reply later) (chain_of new)
chain_after old mid new command reply later (does is_zero joins) more = rw (eq-eqb reply.code 0 is_zero) (chain_of mid, joins.survives, more)
chain_after old mid new command reply later (remains other mid-is) more = rw (ne_eqb reply.code 0 other) (subst (λ (r : RunState). Surviving (chain_of r) later (chain_of new)) mid-is more)

pub run_survives : (old new : RunState) (events : List Event) (replies : List Reply) → Run old events replies new → Surviving (chain_of old) (accepted_of events replies) (chain_of new)
run_survives old new [] [] run = ap chain_of run
run_survives old new [] (r ∷ replies) run = absurd run
run_survives old new (e ∷ events) [] run = absurd run
run_survives old new (Do command ∷ events) (r ∷ replies) (mid, step, more) =
    chain_after old mid new command r (accepted_of events replies) (command_comes old mid command r step) (run_survives mid new events replies more)
run_survives old new (Ask carrier message ∷ events) (r ∷ replies) (mid, step, more) =
    subst (λ (run : RunState). Surviving (chain_of run) (accepted_of events replies) (chain_of new)) step.unchanged (run_survives mid new events replies more)
run_survives old new (Save ∷ events) (r ∷ replies) (mid, step, more) =
    subst (λ (chain : Chain). Surviving chain (accepted_of events replies) (chain_of new)) (save_leaves_chain old mid r step) (run_survives mid new events replies more)

-- ---- what is saved stays

step_keeps : (old new : RunState) (event : Event) (reply : Reply) → Step old event reply new → HasSaved old → HasSaved new
step_keeps old new (Do command) reply step has = by (command_comes old new command reply step)
  where
    by : Comes (Joins old command new) old reply new → HasSaved new
    by (does is_zero joins) = subst HasSaved (sym joins.state_is) (command_keeps old command has)
    by (remains other same) = subst HasSaved (sym same) has
step_keeps old new (Ask carrier message) reply step has = subst HasSaved (sym step.unchanged) has
step_keeps old new Save reply step has = save_keeps old new reply step has

pub run_keeps : (old new : RunState) (events : List Event) (replies : List Reply) → Run old events replies new → HasSaved old → HasSaved new
run_keeps old new [] [] run has = subst HasSaved (sym run) has
run_keeps old new [] (r ∷ replies) run has = absurd run
run_keeps old new (e ∷ events) [] run has = absurd run
run_keeps old new (e ∷ events) (r ∷ replies) (mid, step, more) has = run_keeps mid new events replies more (step_keeps old mid e r step has)

-- ---- disconnecting is forgetting

-- a valid connect joins its block
joined : (old mid : Chain) (block : List ℕ) → IsValid ⊥ old block → SurvivesCommand old (Connect block) mid → mid ≡ with_block old block
joined old mid block valid (is_done none same) = same
joined old mid block valid (stays refusal h same) = absurd (valid.none refusal (placed refusal) h.holds)

some_block : {A : Type 0} (x : A) (xs : List A) → x ∷ xs ≡ [] → ⊥
some_block x xs e = cc

-- the newest block is disconnected by its hash
never_refused : (old : Chain) (block : List ℕ) (refusal : BackRefusal) → HoldsBack ⊥ (with_block old block) (block_hash block) refusal → ⊥
never_refused old block AtBase h = some_block block old.blocks h
never_refused old block (NotTip tip) h = h.0 refl
never_refused old block back.JournalFull h = h

dropped : (old mid : Chain) (block : List ℕ) → SurvivesCommand (with_block old block) (Disconnect (block_hash block)) mid → mid ≡ old
dropped old mid block (is_done none same) = same
dropped old mid block (stays refusal h same) = absurd (never_refused old block refusal h.holds)

pub forgets : (old new : Chain) (block : List ℕ) (commands : List Command) → IsValid ⊥ old block
    → Surviving old (Connect block ∷ (Disconnect (block_hash block) ∷ commands)) new → Surviving old commands new
forgets old new block commands valid (mid, first, (last, second, more)) =
    let same = joined old mid block valid first in
    let gone = dropped old last block (subst (λ (c : Chain). SurvivesCommand c (Disconnect (block_hash block)) last) same second) in
    subst (λ (c : Chain). Surviving c commands new) gone more
