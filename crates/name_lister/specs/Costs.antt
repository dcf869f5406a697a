-- What the turn of a lister costs, in steps on the tables, and in steps for the mirror.
use Rattle.std.specs.Prelude.{◌≡◌, ℕ, ◌+◌, ◌*◌, ◌≤◌, List, [], reverse, Option, Some, None}
use Rattle.chain_names.specs.Undo.{UndoRecord}
use Rattle.chain_commands.specs.Event.{Command, Connect, Disconnect, Do, Ask, Save}
use Rattle.chain_state.specs.Chain.{Indexed}
use Rattle.feed_frames.specs.Replies.{Reply}
use Rattle.index_commands.specs.Costs.{IsCheap}
use Rattle.sliced_save.specs.Costs.{back_cost, forth_cost, making_cost}
use Rattle.sliced_save.specs.Mirror.{Mirrored}
use Rattle.name_lister.specs.Event.{ListEvent, Plain, Open, Page, Close, Begin, Slice}
use Rattle.name_lister.specs.Lister.{Listed}
use Rattle.name_lister.specs.Saver.{slice_size}
use Rattle.name_lister.specs.declared.lister.ListTurned.{ListTurned}
use Rattle.name_lister.specs.declared.lister.ListTurned.TheVariants.{On, Ended}

-- of an opening: the mirror is made
abbrev pub opening_cost : Indexed → ℕ
opening_cost index = making_cost index

-- no step more than without listings
pub record IsCheapListed (old : Indexed) (command : Command) (new : Indexed) (before after : ℕ) : Type 0 where
  pub cheap : IsCheap old command new before after

abbrev pub IsCheapOn : Listed → Command → ListTurned → ℕ → ℕ → Type 0
IsCheapOn old command (On lister) before after = IsCheapListed old.bridge.store.index command lister.bridge.store.index before after
IsCheapOn old command Ended before after = Unit {0}

-- a command that is accepted; and sessions and saves in slices take no step
abbrev pub IsCheapTurn : Listed → ListEvent → Reply → ListTurned → ℕ → ℕ → Type 0
IsCheapTurn old (Plain (Do command)) reply turned before after = reply.code ≡ 0 → IsCheapOn old command turned before after
IsCheapTurn old (Plain (Ask carrier message)) reply turned before after = after ≡ before
IsCheapTurn old (Plain Save) reply turned before after = after ≡ before
IsCheapTurn old Open reply turned before after = after ≡ before
IsCheapTurn old (Page number) reply turned before after = after ≡ before
IsCheapTurn old (Close number) reply turned before after = after ≡ before
IsCheapTurn old Begin reply turned before after = after ≡ before
IsCheapTurn old (Slice asked) reply turned before after = after ≡ before

-- ---- for the mirror: what is done to it, and what is looked up in the tables for it

-- the records that the mirror keeps of its blocks, the newest first; none where it isn't there
abbrev pub mirror_undos : Option Mirrored → List UndoRecord
mirror_undos None = []
mirror_undos (Some m) = reverse m.undos

-- a block that joins takes as many steps as its record says, and so does one that leaves; behind a fault of the disk nothing is done
abbrev pub IsCheapMirrored : Listed → Command → ListTurned → ℕ → ℕ → Type 0
IsCheapMirrored old (Connect bytes) (On lister) before after = after ≤ before + forth_cost lister.bridge.store.index.undos
IsCheapMirrored old (Connect bytes) Ended before after = after ≡ before
IsCheapMirrored old (Disconnect hash) (On lister) before after = after ≤ before + back_cost (mirror_undos old.mirror)
IsCheapMirrored old (Disconnect hash) Ended before after = after ≡ before

-- a page takes one step for each row that it may have, and a slice two for each byte, and two
abbrev pub IsCheapForMirror : Listed → ListEvent → ListTurned → ℕ → ℕ → Type 0
IsCheapForMirror old (Plain (Do command)) turned before after = IsCheapMirrored old command turned before after
IsCheapForMirror old (Plain (Ask carrier message)) turned before after = after ≡ before
IsCheapForMirror old (Plain Save) turned before after = after ≡ before
IsCheapForMirror old Open turned before after = after ≡ before
IsCheapForMirror old (Page number) turned before after = after ≤ before + old.page
IsCheapForMirror old (Close number) turned before after = after ≡ before
IsCheapForMirror old Begin turned before after = after ≡ before
IsCheapForMirror old (Slice asked) turned before after = after ≤ before + 2 * (slice_size asked + 1)
