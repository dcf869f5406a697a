use Rattle.name_table.proofs.ByBytesLemmas.{IsDistinct-by_bytes}
use Rattle.name_table.proofs.table.Table.new.Goals as goal

pub invariant_of-result : goal.invariant_of-result
invariant_of-result c = (rw c.new.ensures.empty (λ name. tt), IsDistinct-by_bytes _ c.new.ensures.unique)
