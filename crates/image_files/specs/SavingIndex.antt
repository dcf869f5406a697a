-- A save of an index: the text that is written, and why there is none.
use Rattle.std.specs.Prelude.{◌≡◌, ℕ, ◌<◌, Bool, List, length, Result, Ok, Err, OnErr}
use Rattle.disk_model.specs.DiskSeen.{DiskSeen, EndsWith}
use Rattle.disk_model.specs.declared.disk.Failed.{Failed}
use Rattle.undo_records.specs.declared.version.Version.TheVariants.{Two}
use Rattle.name_tables.specs.Tables.{maps_by}
use Rattle.chain_state.specs.Chain.{Indexed}
use Rattle.image_grammar.specs.Text.{IsStateText}
use Rattle.image_writer.specs.Whole.{IsReadAgain}
use Rattle.image_slots.specs.Slotted.{Slotted}
use Rattle.image_slots.specs.Answers.{HasRoom}
use Rattle.image_files.specs.Saving.{WritesImage}
use Rattle.image_files.specs.declared.saved.Saved.{Saved}
use Rattle.image_files.specs.declared.saved.SaveFault.{SaveFault}
use Rattle.image_files.specs.declared.saved.SaveFault.TheVariants.{CheckpointLimit, ImageLimit, DiskFault, NoMemory}

-- The text of the index, in version 2. Its image is one that is read again, where it isn't longer than 2^37 bytes.
pub record IsTextOfIndex (index : Indexed) (text : List ℕ) : Type 0 where
  pub is_text : IsStateText Two index.base index.undos (maps_by index.tables) text
  pub again : IsReadAgain index.base index.undos (maps_by index.tables) text

-- the index has a text that is longer than this
pub record HasLongText (most : ℕ) (index : Indexed) : Type 0 where
  pub text : List ℕ
  pub is_text : IsTextOfIndex index text
  pub long : most < length text

-- there is room for this text of the index, of so many bytes
pub record HasRoomFor (index : Indexed) (slots : Slotted) (text : List ℕ) (image : ℕ) : Type 0 where
  pub is_text : IsTextOfIndex index text
  pub room : HasRoom slots.limits slots.count image
  pub image_is : image ≡ length text

-- Why no text of the index is written: the limit of selections comes before want of memory, and that of images behind it.
abbrev pub RefusesIndex : Indexed → Slotted → SaveFault → Type 0
RefusesIndex index slots CheckpointLimit = slots.count ≡ slots.limits.selections
RefusesIndex index slots NoMemory = slots.count < slots.limits.selections
RefusesIndex index slots ImageLimit = (slots.count < slots.limits.selections) × HasLongText slots.limits.image index
RefusesIndex index slots DiskFault = ⊥

abbrev pub TextAnswer : Indexed → Slotted → Result (List ℕ × ℕ) SaveFault → Type 0
TextAnswer index slots (Ok (text, image)) = HasRoomFor index slots text image
TextAnswer index slots (Err fault) = RefusesIndex index slots fault

-- A text of the index, of so many bytes, was written as an image.
pub record WritesIndex (tells : Bool) (index : Indexed) (old new : Slotted) (image : ℕ) (before after : DiskSeen) (result : Result ℕ Failed) : Type 0 where
  pub text : List ℕ
  pub room : HasRoomFor index old text image
  pub writes : WritesImage tells old new text before after result

-- The answers exclude one another but for want of memory, which may stand in the place of those behind it.
abbrev pub SaveAnswer : Bool → Indexed → Slotted → Slotted → DiskSeen → DiskSeen → Result Saved SaveFault → Type 0
SaveAnswer tells index old new before after (Ok saved) = WritesIndex tells index old new saved.image before after (Ok saved.number)
SaveAnswer tells index old new before after (Err DiskFault) = (image : ℕ) × WritesIndex tells index old new image before after (Err (record {}))
SaveAnswer tells index old new before after (Err fault) = RefusesIndex index old fault

-- The index was saved, or the slots stay as they were.
pub record SavesIndex (tells : Bool) (index : Indexed) (old new : Slotted) (before after : DiskSeen) (result : Result Saved SaveFault) : Type 0 where
  pub answer : SaveAnswer tells index old new before after result
  pub err : OnErr result (new ≡ old)
  pub ends : EndsWith DiskFault before after result
