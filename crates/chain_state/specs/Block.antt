-- What the transactions of a block did to the tables.
use Rattle.std.specs.Prelude.{◌≡◌, ◌≢◌, ℕ, ◌≤◌, ◌^◌, List, [], ◌++◌, length, Option, Some, None, Result, Ok, Err}
use Rattle.block_grammar.specs.Transaction.{Transaction, txid_of}
use Rattle.nmc_base.specs.declared.chain_ends.Profile.{Profile}
use Rattle.nmc_base.specs.Heights.{highest}
use Rattle.nmc_base.specs.declared.no_memory.NoMemory.{NoMemory}
use Rattle.chain_names.specs.declared.refusal.RuleRefusal.{RuleRefusal}
use Rattle.chain_names.specs.Verdict.{refused, verdict}
use Rattle.chain_names.specs.Changes.{undo_of_verdict, after_transaction, after_all, undo_ops, first_refused, back_ops}
use Rattle.chain_names.specs.State.{Stands}
use Rattle.name_tables.specs.Tables.{maps_by}
use Rattle.chain_state.specs.Work.{IsWork, Halts}
use Rattle.chain_state.specs.declared.work.Work.{Work}

-- work that goes on: the tables stand at the block's height, but for the places of what was spent
pub record IsReady (profile : Profile) (w : Work) : Type 0 where
  pub work : IsWork w
  pub none_empty : w.empty.items ≡ []
  pub low : w.height ≤ highest
  pub standing : Stands profile w.height w.height (maps_by w.tables)

abbrev pub HasFewOutputs : Transaction → Type 0
HasFewOutputs t = length t.outputs ≤ 2 ^ 32

-- a transaction was accepted
pub record Applied (profile : Profile) (old new : Work) (t : Transaction) : Type 0 where
  pub accepted : (refusal : RuleRefusal) → verdict profile (maps_by old.tables) old.height t ≢ refused refusal
  pub maps : maps_by new.tables ≡ after_transaction profile old.height t (maps_by old.tables)
  pub ops : new.ops.items ≡ old.ops.items ++ undo_of_verdict (maps_by old.tables) (txid_of t) (verdict profile (maps_by old.tables) old.height t)
  pub height : new.height ≡ old.height
  pub ready : IsReady profile new

-- a transaction was refused
pub record Declined (profile : Profile) (old new : Work) (t : Transaction) (refusal : RuleRefusal) : Type 0 where
  pub refusal_is : verdict profile (maps_by old.tables) old.height t ≡ refused refusal
  pub halts : Halts old new

abbrev pub Applies : Profile → Work → Work → Transaction → Result (Option RuleRefusal) NoMemory → Type 0
Applies profile old new t (Ok None) = Applied profile old new t
Applies profile old new t (Ok (Some refusal)) = Declined profile old new t refusal
Applies profile old new t (Err e) = Halts old new

-- all transactions were accepted
pub record AppliedAll (profile : Profile) (old new : Work) (ts : List Transaction) : Type 0 where
  pub accepted : first_refused profile old.height 1 ts (maps_by old.tables) ≡ None
  pub maps : maps_by new.tables ≡ after_all profile old.height ts (maps_by old.tables)
  pub ops : new.ops.items ≡ undo_ops profile old.height ts (maps_by old.tables)
  pub height : new.height ≡ old.height
  pub ready : IsReady profile new

-- what was done can be undone
pub record Stopped (old new : Work) : Type 0 where
  pub before : back_ops new.ops.items (maps_by new.tables) ≡ maps_by old.tables
  pub height : new.height ≡ old.height
  pub work : IsWork new

pub record DeclinedAll (profile : Profile) (old new : Work) (ts : List Transaction) (first : ℕ × RuleRefusal) : Type 0 where
  pub refusal_is : first_refused profile old.height 1 ts (maps_by old.tables) ≡ Some first
  pub stopped : Stopped old new

abbrev pub AppliesAll : Profile → Work → Work → List Transaction → Result (Option (ℕ × RuleRefusal)) NoMemory → Type 0
AppliesAll profile old new ts (Ok None) = AppliedAll profile old new ts
AppliesAll profile old new ts (Ok (Some first)) = DeclinedAll profile old new ts first
AppliesAll profile old new ts (Err e) = Stopped old new
