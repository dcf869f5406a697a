-- Saves: when the index is not saved, and what a save leaves.
use Rattle.std.specs.Prelude.{◌≡◌, ◌≢◌, ℕ, ◌+◌, ◌-◌, ◌<◌, ◌≤◌, ◌^◌, List, [], ◌++◌, length}
use Rattle.std.specs.Int.{w64, to_le_bytes}
use Rattle.chain_names.specs.Index.{index_maps}
use Rattle.chain_names.specs.Undo.{UndoRecord}
use Rattle.chain_names.specs.UndoOf.{AreUndos}
use Rattle.undo_records.specs.declared.version.Version.{Version}
use Rattle.undo_records.specs.declared.version.Version.TheVariants.{Two}
use Rattle.image_grammar.specs.Text.{IsStateText}
use Rattle.feed_frames.specs.Replies.{Reply}
use Rattle.chain_commands.specs.Chain.{Chain}
use Rattle.chain_commands.specs.Event.{Command}
use Rattle.chain_commands.specs.RunState.{RunState, chain_of, saved_chain}
use Rattle.chain_commands.specs.Refusals.{Refusals, Answers}

-- ---- the text of an index

-- The text of the index of a chain: its base, what undoes each of its blocks, and the coins and names that its log says.
pub record IsTextOf (version : Version) (chain : Chain) (text : List ℕ) : Type 0 where
  pub undos : List UndoRecord
  pub are_undos : AreUndos chain.base.profile chain.start chain.base.height chain.blocks undos
  pub is_text : IsStateText version chain.base undos (index_maps chain.base.profile chain.start chain.base.height chain.blocks) text

-- no image is longer
abbrev pub longest_image : ℕ
longest_image = 2 ^ 37

-- no more saves are selected
abbrev pub most_selections : ℕ
most_selections = 2 ^ 32 - 1

-- ---- refusals

pub data SaveRefusal : Type 0 where
  -- as many saves were selected as may be
  CheckpointLimit : SaveRefusal
  -- the text of the index is longer than an image may be
  ImageLimit : SaveRefusal

-- a text of the chain's index is longer than this
pub record HasLongText (most : ℕ) (chain : Chain) : Type 0 where
  pub text : List ℕ
  pub is_text : IsTextOf Two chain text
  pub long : most < length text

-- the condition of a refusal alone
abbrev pub HoldsSave : RunState → SaveRefusal → Type 0
HoldsSave run CheckpointLimit = most_selections ≤ run.selections
HoldsSave run ImageLimit = HasLongText longest_image (chain_of run)

abbrev pub save_order : SaveRefusal → ℕ
save_order CheckpointLimit = 0
save_order ImageLimit = 1

abbrev pub save_refusal_reply : SaveRefusal → Reply
save_refusal_reply CheckpointLimit = record { code = 29; payload = [] }
save_refusal_reply ImageLimit = record { code = 30; payload = [] }

-- the number of saves is looked at before any memory is taken
abbrev pub saves : Refusals SaveRefusal
saves = record { order = save_order; places = 2; before_memory = 1; reply_of = save_refusal_reply }

-- ---- what a save leaves

-- all that was accepted is saved, by this text
abbrev pub saved_by : RunState → List ℕ → RunState
saved_by run text = record {
  base = run.base;
  host = run.host;
  start = run.start;
  saved = run.since ++ run.saved;
  since = [];
  selections = run.selections + 1;
  text = text;
}

-- The commands but for the newest ones are saved, by this text, and those are kept behind it.
abbrev pub saved_before : RunState → (newer older : List Command) → List ℕ → RunState
saved_before run newer older text = record {
  base = run.base;
  host = run.host;
  start = run.start;
  saved = older ++ run.saved;
  since = newer;
  selections = run.selections + 1;
  text = text;
}

-- the text of the state's index is saved, in version 2
pub record IsSaved (old new : RunState) : Type 0 where
  pub text : List ℕ
  pub is_text : IsTextOf Two (chain_of old) text
  pub state_is : new ≡ saved_by old text

-- and the number of the save is told
pub record LeavesSaved (old : RunState) (reply : Reply) (new : RunState) : Type 0 where
  pub is_saved : IsSaved old new
  pub told : reply ≡ record { code = 0; payload = to_le_bytes w64 new.selections }

-- from the old state the machine may give this reply to a save and go on to the new state
abbrev pub Saves : RunState → Reply → RunState → Type 0
Saves old reply new = Answers saves (HoldsSave old) (LeavesSaved old) old reply new

-- ---- what is saved

-- Nothing was saved yet: the text is that of the start list's index, and empty where this list is. Or it is that of the saved chain's
-- index. A text is in either version.
pub data IsSavedText (run : RunState) : Type 0 where
  none_yet : run.selections ≡ 0 → run.saved ≡ [] → run.start ≡ [] → run.text ≡ [] → IsSavedText run
  of_start : (version : Version) → run.selections ≡ 0 → run.saved ≡ [] → run.start ≢ [] → IsTextOf version (saved_chain run) run.text → IsSavedText run
  of_chain : (version : Version) → 0 < run.selections → IsTextOf version (saved_chain run) run.text → IsSavedText run

-- what a run state says of its saves, where it has room for what is saved
pub record HasSaved (run : RunState) : Type 0 where
  pub text_is : IsSavedText run
  pub short : length run.text ≤ longest_image
  pub few : run.selections ≤ most_selections
