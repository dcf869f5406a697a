-- What the bytes of the three files stand for.
use Rattle.std.specs.Prelude.{◌⊎◌, ℕ, ◌≤◌, List, []}
use Rattle.nmc_base.specs.declared.chain_ends.Base.{Base}
use Rattle.chain_names.specs.Log.{Log}
use Rattle.disk_model.specs.Moments.{Files, IsImage}
use Rattle.gate_journal.specs.Records.{IsArea}
use Rattle.chain_state.specs.Standing.{AreValid}
use Rattle.chain_commands.specs.RunState.{RunState, on_base, saved_chain, area_of, longest_area}
use Rattle.chain_commands.specs.Saving.{HasSaved}
use Rattle.saved_widths.specs.Wide.{HaveWidePoints}
use Rattle.image_slots.specs.Selections.{HasSelections, selected_by}
use Rattle.index_commands.specs.Records.{records_of}
use Rattle.index_commands.specs.Allowed.{AreAllowed}
use Rattle.name_store.specs.Header.{IsBegun, header_text}

-- the bytes of each file
abbrev pub Bytes : Type 0
Bytes = ℕ → List ℕ

-- A run state that files have: it begins on a base, with a start list whose outpoints are as wide as their fields, and its saves are
-- right; each command was allowed at its turn, and the area is no longer than the longest.
pub record IsRunState (run : RunState) : Type 0 where
  pub begun : IsBegun run.base run.host
  pub wide : HaveWidePoints run.start
  pub has_saved : HasSaved run
  pub valid : AreValid (saved_chain run).base (saved_chain run).start (saved_chain run).blocks
  pub allowed_before : AreAllowed (on_base run.base run.start) run.saved
  pub allowed : AreAllowed (saved_chain run) run.since
  pub fits : area_of run ≤ longest_area

-- File 0 begins with the header, so many selections and a closed gate; and the selected file with the length of the saved text,
-- this text, the records of the commands since, and a closed gate.
pub record Stands (files : Bytes) (run : RunState) : Type 0 where
  pub selections : HasSelections (header_text run.base run.host) run.selections (files 0)
  pub area : IsArea run.text (records_of run.since) (files (selected_by run.selections))
  pub is_state : IsRunState run

-- whatever a crash now leaves stands for the run state
abbrev pub EachStands : Files → RunState → Type 0
EachStands files run = (image : Bytes) → IsImage files image → Stands image run

-- it stands for one of two
abbrev pub EachStandsForEither : RunState → RunState → Files → Type 0
EachStandsForEither before after files = (image : Bytes) → IsImage files image → Stands image before ⊎ Stands image after

-- a base with its host and a start list, before any command; and the text of the start list's index
abbrev pub begun_from : Base → List ℕ → Log → List ℕ → RunState
begun_from base host start text = record { base = base; host = host; start = start; saved = []; since = []; selections = 0; text = text }

-- the same without a start list
abbrev pub begun_on : Base → List ℕ → RunState
begun_on base host = begun_from base host [] []
