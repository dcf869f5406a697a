use Rattle.std.proofs.Common.{List, ℕ, subst}
use Rattle.index_commands.specs.Keeping.{Keeps}
use Rattle.index_commands.specs.Views.{command_of}
use Rattle.index_commands.proofs.SizeLemmas.{record_parts}
use Rattle.index_commands.proofs.keeping.keep.Goals as goal

pub returns : goal.returns
returns g c =
    let same = record_parts (command_of c.args.command) c.head.result c.body.result.now c.head.ensures c.body.ensures.body in
    subst (λ (l : List ℕ). Keeps g.D.Disk.tells c.args.file c.args.area l (g.D.Disk.seen c.args.disk.now) (g.D.Disk.seen c.keep_record.new.disk) c.keep_record.result) same c.keep_record.ensures
