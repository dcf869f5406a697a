-- A save in slices: the image of the index as it is at the begin is written piece by piece between the events, then the records of the
-- commands that were accepted meanwhile, and the area with both is selected.
use Rattle.std.specs.Prelude.{◌≡◌, ℕ, ◌+◌, ◌-◌, ◌<◌, ◌≤◌, max, min, List, [], ◌∷◌, ◌++◌, length, Option, Some, None}
use Rattle.std.specs.Int.{w64, to_le_bytes}
use Rattle.undo_records.specs.declared.version.Version.TheVariants.{Two}
use Rattle.chain_commands.specs.Event.{Command}
use Rattle.chain_commands.specs.RunState.{RunState, chain_of, grown_by, longest_area}
use Rattle.chain_commands.specs.Reply.{no_memory_reply}
use Rattle.chain_commands.specs.Saving.{IsTextOf, HasLongText, CheckpointLimit, ImageLimit, save_refusal_reply, saved_before, longest_image, most_selections}
use Rattle.feed_frames.specs.Replies.{Reply}

-- How many commands had been accepted when the save was begun, the text of the index as it was then, and how many bytes were written of
-- that text and of the records behind it.
pub record Saver : Type 0 where
  pub commands : ℕ
  pub text : List ℕ
  pub written : ℕ

-- ---- replies

-- a sliced save runs already
abbrev pub running_reply : Reply
running_reply = record { code = 33; payload = [] }

-- no sliced save runs
abbrev pub no_save_reply : Reply
no_save_reply = record { code = 34; payload = [] }

-- the image with the records since is longer than an area may be
abbrev pub area_limit_reply : Reply
area_limit_reply = record { code = 35; payload = [] }

abbrev pub begun_reply : Reply
begun_reply = record { code = 0; payload = [] }

-- bytes are left
abbrev pub more_reply : Reply
more_reply = record { code = 0; payload = 0 ∷ [] }

-- the area was selected: so many selections were made
abbrev pub selected_reply : ℕ → Reply
selected_reply number = record { code = 0; payload = 1 ∷ to_le_bytes w64 number }

-- ---- sizes

-- a slice has one byte at least, and 65,536 at most
abbrev pub slice_size : ℕ → ℕ
slice_size asked = min (max asked 1) 65536

-- The newer commands were accepted since the save was begun; the older ones aren't saved otherwise.
pub record IsSplit (saver : Saver) (run : RunState) (newer older : List Command) : Type 0 where
  pub since_is : run.since ≡ newer ++ older
  pub count_is : saver.commands ≡ length older + length run.saved

-- what is left to write: the rest of the text, and the records of the newer commands
abbrev pub left_of : Saver → List Command → ℕ
left_of saver newer = grown_by newer (length saver.text) - saver.written

-- the area that is drafted, with its image, the records and a closed gate
abbrev pub drafted_area : Saver → List Command → ℕ
drafted_area saver newer = grown_by newer (9 + length saver.text)

-- ---- the begin

-- the text of the index as it is, which is short enough
pub record IsBegun (run : RunState) (saver : Saver) : Type 0 where
  pub is_text : IsTextOf Two (chain_of run) saver.text
  pub short : length saver.text ≤ longest_image
  pub commands_are : saver.commands ≡ length (run.since ++ run.saved)
  pub none_yet : saver.written ≡ 0

-- A begin is refused where a sliced save runs, then where no more saves are selected, and then where the text is too long; want of memory
-- may come in the place of what stands behind the second.
pub data Begins (run : RunState) (was : Option Saver) (reply : Reply) (now : Option Saver) : Type 0 where
  runs_already : (saver : Saver) → was ≡ Some saver → reply ≡ running_reply → now ≡ was → Begins run was reply now
  no_more_saves : was ≡ None → most_selections ≤ run.selections → reply ≡ save_refusal_reply CheckpointLimit → now ≡ None → Begins run was reply now
  lacks_memory : was ≡ None → run.selections < most_selections → reply ≡ no_memory_reply → now ≡ None → Begins run was reply now
  too_long : was ≡ None → run.selections < most_selections → HasLongText longest_image (chain_of run) → reply ≡ save_refusal_reply ImageLimit → now ≡ None
      → Begins run was reply now
  begins : (saver : Saver) → was ≡ None → run.selections < most_selections → IsBegun run saver → reply ≡ begun_reply → now ≡ Some saver → Begins run was reply now

-- ---- a slice

-- More is left than the slice has room for: so much of it is written.
pub record Writes (most : ℕ) (old : RunState) (saver : Saver) (reply : Reply) (new : RunState) (now : Option Saver) : Type 0 where
  pub newer : List Command
  pub older : List Command
  pub split : IsSplit saver old newer older
  pub more : most < left_of saver newer
  pub told : reply ≡ more_reply
  pub same : new ≡ old
  pub moves : now ≡ Some (record saver { written = saver.written + most })

-- No more is left than that, and the area with it is no longer than may be: what was accepted up to the begin is saved, what came since
-- stands behind it, and the number of the selection is told.
pub record Selects (most : ℕ) (old : RunState) (saver : Saver) (new : RunState) : Type 0 where
  pub newer : List Command
  pub older : List Command
  pub split : IsSplit saver old newer older
  pub last : left_of saver newer ≤ most
  pub fits : drafted_area saver newer ≤ longest_area
  pub state_is : new ≡ saved_before old newer older saver.text

-- No more is left, but the area would be longer: the save is given up.
pub record IsTooLong (most : ℕ) (old : RunState) (saver : Saver) : Type 0 where
  pub newer : List Command
  pub older : List Command
  pub split : IsSplit saver old newer older
  pub last : left_of saver newer ≤ most
  pub over : longest_area < drafted_area saver newer

pub data Slices (most : ℕ) (old : RunState) (was : Option Saver) (reply : Reply) (new : RunState) (now : Option Saver) : Type 0 where
  no_save : was ≡ None → reply ≡ no_save_reply → new ≡ old → now ≡ None → Slices most old was reply new now
  writes : (saver : Saver) → was ≡ Some saver → Writes most old saver reply new now → Slices most old was reply new now
  selects : (saver : Saver) → was ≡ Some saver → Selects most old saver new → reply ≡ selected_reply new.selections → now ≡ None → Slices most old was reply new now
  gives_up : (saver : Saver) → was ≡ Some saver → IsTooLong most old saver → reply ≡ area_limit_reply → new ≡ old → now ≡ None → Slices most old was reply new now
