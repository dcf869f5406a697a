-- What `init` comes to, by what came of making the files.
use Rattle.std.proofs.Common.{Bool, List, ℕ, Result, Ok, Err, OnOk, refl}
use Rattle.std.specs.Prelude.{IsTrue, IsErrOf}
use Rattle.nmc_base.specs.declared.chain_ends.Base.{Base}
use Rattle.disk_model.specs.Changes.{LeavesFrom}
use Rattle.disk_model.specs.Moments.{EachMoment}
use Rattle.disk_model.specs.DiskSeen.{DiskSeen, EndsWith, file_in, bytes_in}
use Rattle.name_store.specs.Making.{CreateAnswer, IsEmpty, EachIsBegun, OnlyReads}
use Rattle.name_store.specs.Stands.{EachStands, begun_on}
use Rattle.name_store.specs.declared.faults.CreateFault.{CreateFault}
use Rattle.name_store.specs.declared.faults.CreateFault.TheVariants as faults
use Rattle.bridge_commands.specs.Making.{Inits, status_of_making, made, stays, failed}
use Rattle.bridge_commands.proofs.StatusLemmas.{initialised_not_done, fault_not_done}

module _ (tells : Bool) (base : Base) (host : List ℕ) (old new : DiskSeen) where
  -- what making the files says
  pub record Creates (result : Result (Unit {0}) CreateFault) : Type 0 where
    pub answer : IsTrue tells → CreateAnswer (bytes_in old) result
    pub spared : IsErrOf result faults.Initialised → OnlyReads tells old new
    pub made : IsTrue tells → OnOk result (EachStands new.moments.now (begun_on base host))
    pub from_empty : IsTrue tells → IsEmpty (file_in old 0) → EachMoment (EachIsBegun (begun_on base host)) old.moments new.moments
    pub others : IsTrue tells → EachMoment (LeavesFrom 2 old.moments.now) old.moments new.moments
    pub ends : EndsWith faults.DiskFault old new result

  pub inits : (result : Result (Unit {0}) CreateFault) → Creates result → Inits tells base host old new (status_of_making result)
  inits (Ok done) c = record { ending = made c.answer; made = λ told is. c.made told; from_empty = c.from_empty; others = c.others; later = c.ends.later }
  inits (Err faults.Initialised) c = record { ending = stays c.answer (c.spared refl); made = λ told is. initialised_not_done is; from_empty = c.from_empty; others = c.others; later = c.ends.later }
  inits (Err faults.DiskFault) c = record { ending = failed (c.ends.failed refl); made = λ told is. fault_not_done is; from_empty = c.from_empty; others = c.others; later = c.ends.later }
