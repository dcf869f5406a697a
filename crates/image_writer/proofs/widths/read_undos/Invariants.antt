use Rattle.std.proofs.Common.{length}
use Rattle.std.specs.List.{AllByRecursion}
use Rattle.image_writer.specs.Whole.{IsWide}
use Rattle.image_writer.proofs.widths.read_undos.Given as goal

-- all are measured where the rest is
abbrev pub invariant-loop-rest : goal.invariant-loop-rest
invariant-loop-rest l = AllByRecursion IsWide l.rest → AllByRecursion IsWide l.undos

abbrev pub decreases-loop-rest : goal.decreases-loop-rest
decreases-loop-rest l = length l.rest
