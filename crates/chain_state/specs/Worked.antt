-- What came of a block's work.
use Rattle.std.specs.Prelude.{◌≡◌, ℕ, ◌+◌, ◌*◌, ◌≤◌, List, length, Some}
use Rattle.block_grammar.specs.Transaction.{Transaction}
use Rattle.nmc_base.specs.declared.chain_ends.Profile.{Profile}
use Rattle.chain_names.specs.Changes.{first_refused}
use Rattle.chain_names.specs.Tables.{coins_in, queued_in, queue_of}
use Rattle.name_tables.specs.Tables.{AreFilled}
use Rattle.name_tables.specs.Tables.{maps_by}
use Rattle.chain_state.specs.Block.{AppliedAll}
use Rattle.chain_state.specs.Cost.{all_touched}
use Rattle.chain_state.specs.Whole.{Finishes}
use Rattle.name_tables.specs.declared.tables.Tables.{Tables}
use Rattle.chain_state.specs.declared.work.Work.{Work}
use Rattle.chain_state.specs.declared.whole.Whole.{Whole as BlockWork}
use Rattle.chain_state.specs.declared.worked.Worked.{Worked}
use Rattle.chain_state.specs.declared.worked.Worked.TheVariants.{Whole, Refused, NoMemory}

-- the transactions were accepted, and then the coins went that are expired in the next block
pub record WorksOut (profile : Profile) (old : Work) (ts : List Transaction) (w : BlockWork) : Type 0 where
  pub done : Work
  pub applied : AppliedAll profile old done ts
  pub finishes : Finishes profile done w

-- the tables hold what they held before the work, and each place holds something
pub record HandsBack (old : Work) (t : Tables) : Type 0 where
  pub maps : maps_by t ≡ maps_by old.tables
  pub queue : queued_in t.queue ≡ queue_of (coins_in t.coins)
  pub filled : AreFilled t

abbrev pub WorksOn : Profile → Work → List Transaction → Worked → Type 0
WorksOn profile old ts (Whole w) = WorksOut profile old ts w
WorksOn profile old ts (Refused t tx refusal) = HandsBack old t × (first_refused profile old.height 1 ts (maps_by old.tables) ≡ Some (tx, refusal))
WorksOn profile old ts (NoMemory t) = HandsBack old t

-- where the work is whole, with the steps of its commit
abbrev pub IsPaid : List Transaction → Worked → ℕ → ℕ → Type 0
IsPaid ts (Whole w) before after =
    after + (2 * length w.work.ops.items + 2 * length w.expired.items) ≤ before + 8 * (all_touched ts + length w.expired.items) + 8
IsPaid ts (Refused t tx refusal) before after = Unit {0}
IsPaid ts (NoMemory t) before after = Unit {0}
