-- The block that bytes are, and the fault where they are none.
use Rattle.std.specs.Prelude.{◌≡◌, ℕ, ◌≤◌, ◌↔◌, List, length, drop, Result, Ok, Err, IsTrue}
use Rattle.block_grammar.specs.declared.kinds.BlockKind.{BlockKind}
use Rattle.block_grammar.specs.Kinds.{is_cut_block}
use Rattle.block_grammar.specs.Block.{Block, IsBlock}
use Rattle.block_grammar.specs.Fault.{IsFaultPlace}
use Rattle.block_grammar.specs.BlockRows.{BlockFaultRow}
use Rattle.block_grammar.specs.Reading.{block_from}
use Rattle.block_reader.specs.declared.parts.Stop.{Stop}
use Rattle.block_reader.specs.declared.block.BlockFault.{BlockFault}

-- The fault by the table of places, by the grammar alone: the part in which the place stands and the row that the bytes
-- before it and from it on are in; the place is that of the first byte that no block can have there; and a kind that says
-- Cut comes exactly where the bytes end before there is one.
pub record IsFault (bytes : List ℕ) (kind : BlockKind) (place : ℕ) : Type 0 where
  pub row : BlockFaultRow kind bytes place
  pub first : IsFaultPlace bytes place
  pub cut : IsTrue (is_cut_block kind) ↔ (place ≡ length bytes)

abbrev pub IsRead : List ℕ → Result Block BlockFault → Type 0
IsRead bytes (Ok b) = IsBlock bytes b
IsRead bytes (Err fault) = IsFault bytes fault.kind fault.at

-- the same by the reader on lists
abbrev pub GivesBlock : List ℕ → Result Block BlockFault → Type 0
GivesBlock bytes (Ok b) = block_from bytes ≡ Ok b
GivesBlock bytes (Err fault) = (block_from bytes ≡ Err (fault.kind, drop fault.at bytes)) × (fault.at ≤ length bytes)

abbrev pub told : Result Block Stop → Result Block (BlockKind × List ℕ)
told (Ok b) = Ok b
told (Err stop) = Err (stop.kind, stop.rest.now)
