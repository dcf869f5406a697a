use Rattle.std.proofs.Common.{rules, arith}
use Rattle.system_io.proofs.FilesLemmas.{HasRead-start, HasRead-none, HasRead-more, HasRead-end}
use Rattle.system_io.proofs.on_files.read_on.Goals as goal
use Rattle.system_io.proofs.on_files.read_on.Goals.{in-Ok, in-Err}

pub loop-init : goal.loop-init
loop-init g c = HasRead-start g.F.Files.tells c.args.file c.args.at c.args.buf.now (g.F.Files.moments c.args.files.now)

pub returns-in-Ok-eq0-clause-bytes : goal.returns-in-Ok-eq0-clause-bytes
returns-in-Ok-eq0-clause-bytes g c told =
    HasRead-end g.F.Files.tells c.args.file c.args.at c.loop.count c.in_ok-from.from c.loop.buf c.read_part.new.buf _ _ _ c.loop.invariant c.read_part.result c.read_part.ensures c.in_ok-from.ensures
    c.in-Ok-eq0.field-0 _ c.in-Ok-eq0.is (search rules) (omega arith) (search rules) (search rules) told

pub returns-in-Ok-eq0-clause-time : goal.returns-in-Ok-eq0-clause-time
returns-in-Ok-eq0-clause-time g c = (HasRead-none g.F.Files.tells c.args.file c.args.at c.loop.count c.in_ok-from.from c.loop.buf c.read_part.new.buf _ _ _ c.loop.invariant c.read_part.ensures.time).time

pub returns-in-Err-2-clause-time : goal.returns-in-Err-2-clause-time
returns-in-Err-2-clause-time g c = (HasRead-none g.F.Files.tells c.args.file c.args.at c.loop.count c.in_ok-from.from c.loop.buf c.read_part.new.buf _ _ _ c.loop.invariant c.read_part.ensures.time).time

pub loop-preserved : goal.loop-preserved
loop-preserved g c = elim c.match-read_part.branch [
  | in-Ok w ↦ rw w.count-is (HasRead-more g.F.Files.tells c.args.file c.args.at c.loop.count c.in_ok-from.from c.loop.buf c.read_part.new.buf _ _ _ c.loop.invariant c.read_part.result c.read_part.ensures c.in_ok-from.ensures w.in-Ok.more w.in-Ok.is)
  | in-Err w ↦ rw w.count-is (HasRead-none g.F.Files.tells c.args.file c.args.at c.loop.count c.in_ok-from.from c.loop.buf c.read_part.new.buf _ _ _ c.loop.invariant c.read_part.ensures.time)
]
