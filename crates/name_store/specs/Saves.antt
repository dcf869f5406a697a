-- What a save answers, by the index and of every run state that the store stands for.
use Rattle.std.specs.Prelude.{◌≡◌, ℕ, ◌+◌, ◌<◌, List, length}
use Rattle.disk_model.specs.Moments.{Files}
use Rattle.chain_commands.specs.RunState.{RunState}
use Rattle.chain_commands.specs.Saving as machine
use Rattle.chain_commands.specs.Saving.{IsSaved, HoldsSave, saves, longest_image, most_selections}
use Rattle.image_slots.specs.Slotted.{with_one_more}
use Rattle.image_files.specs.SavingIndex.{IsTextOfIndex, HasLongText}
use Rattle.name_store.specs.declared.store.Outcome.{Outcome}
use Rattle.name_store.specs.declared.store.Outcome.TheVariants.{Done, Refused, NoMemory, Faulted}
use Rattle.name_store.specs.declared.saving.SaveRefusal.{SaveRefusal}
use Rattle.name_store.specs.declared.saving.SaveRefusal.TheVariants.{CheckpointLimit, ImageLimit}
use Rattle.name_store.specs.Outcomes.{AnswersFor}
use Rattle.name_store.specs.Stored.{Stored, StandsFor, area_file}

-- the refusal in the words of the machine
abbrev pub save_refusal_of : SaveRefusal → machine.SaveRefusal
save_refusal_of CheckpointLimit = machine.CheckpointLimit
save_refusal_of ImageLimit = machine.ImageLimit

-- ---- of a run state

-- all that was accepted is saved: the store stands for that, and the number of the save is told
pub record IsSavedAs (run : RunState) (store : Stored) (number : ℕ) : Type 0 where
  pub next : RunState
  pub is_saved : IsSaved run next
  pub stands : StandsFor store next
  pub number_is : number ≡ next.selections

abbrev pub SavesFor : RunState → Outcome ℕ SaveRefusal → Type 0
SavesFor run = AnswersFor saves (HoldsSave run) save_refusal_of (IsSavedAs run) run

abbrev pub Saves : Stored → Outcome ℕ SaveRefusal → Type 0
Saves old outcome = (run : RunState) → StandsFor old run → SavesFor run outcome

-- ---- by the index

-- the store has the old one's index and host, one selection more, and an area with a text of the index alone
pub record IsSavedStore (old new : Stored) (number : ℕ) : Type 0 where
  pub index : new.index ≡ old.index
  pub host : new.host ≡ old.host
  pub slots : new.slots ≡ with_one_more old.slots
  pub text : List ℕ
  pub is_text : IsTextOfIndex old.index text
  pub area : new.area ≡ 9 + length text
  pub number_is : number ≡ old.slots.count + 1

abbrev pub SavesOn : Stored → Outcome ℕ SaveRefusal → Type 0
SavesOn old (Done store number) = (old.slots.count < most_selections) × IsSavedStore old store number
SavesOn old (Refused store CheckpointLimit) = (store ≡ old) × (old.slots.count ≡ most_selections)
SavesOn old (Refused store ImageLimit) = (store ≡ old) × (old.slots.count < most_selections) × HasLongText longest_image old.index
SavesOn old (NoMemory store) = (store ≡ old) × (old.slots.count < most_selections)
SavesOn old Faulted = old.slots.count < most_selections

-- ---- the disk

-- a save leaves the selected area as it was
abbrev pub SparesSelected : Stored → (old new : Files) → Type 0
SparesSelected store old new = new (area_file store) ≡ old (area_file store)
