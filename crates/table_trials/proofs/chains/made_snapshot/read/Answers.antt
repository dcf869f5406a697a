use Rattle.std.proofs.Common.{◌≡◌, ℕ, List, Result, Ok, Err, IfOk, subst, ◌∙◌}
use Rattle.nmc_base.specs.declared.chain_ends.Base.{Base}
use Rattle.name_tables.specs.declared.parts.Parts.{Parts}
use Rattle.name_snapshot.specs.Answers.{HasStart, IsSnapshotAnswer}
use Rattle.name_snapshot.specs.declared.fault.SnapshotFault.{SnapshotFault}
use Rattle.table_trials.specs.declared.chains.made_snapshot.TheConstants.{BASE}
use Rattle.table_trials.proofs.chains.made_snapshot.read.Goals as goal

has_start : (base : Base) (text : List ℕ) (read : Result Parts SnapshotFault) → base ≡ BASE → IsSnapshotAnswer base text read
    → IfOk read (λ parts. (some : List ℕ) × HasStart BASE some parts)
has_start base text (Ok parts) same has = (text, subst (λ (b : Base). HasStart b text parts) same has)
has_start base text (Err fault) same has = tt

pub returns-in-Ok : goal.returns-in-Ok
returns-in-Ok c =
    let has = c.in-Ok.ensures.read in
    has_start c.feed.new.snapshot.base has.0 c.finish.result (c.feed.ensures.base ∙ c.in_ok-snapshot.ensures.base) (c.finish.ensures.whole has.0 has.1)
