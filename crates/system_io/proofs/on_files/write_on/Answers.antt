use Rattle.std.proofs.Common.{◌+◌, ◌≤◌, refl, ◌∙◌, rules, arith}
use Rattle.system_io.proofs.FilesLemmas.{rest_is, HasWritten-start, HasWritten-more, HasWritten-interrupted, HasWritten-time}
use Rattle.system_io.proofs.on_files.write_on.Goals as goal
use Rattle.system_io.proofs.on_files.write_on.Goals.{in-Ok, in-Err}

pub loop-init : goal.loop-init
loop-init g c = record {
  has = HasWritten-start g.F.Files.tells c.args.file c.args.at c.args.bytes.now (g.F.Files.moments c.args.files.now);
  limit_is = refl;
  below = λ some. omega arith;
}

pub returns-in-Ok-eq0-clause-time : goal.returns-in-Ok-eq0-clause-time
returns-in-Ok-eq0-clause-time g c = HasWritten-time g.F.Files.tells c.args.file c.args.at c.loop.count c.in_ok-from.from c.args.bytes.now _ _ _ _ c.loop.invariant.has c.requires.inside c.write_part.result c.write_part.ensures.part c.in_ok-from.ensures.place (rest_is c.loop.count c.args.bytes.now)

pub returns-in-Err-2-clause-time : goal.returns-in-Err-2-clause-time
returns-in-Err-2-clause-time g c = HasWritten-time g.F.Files.tells c.args.file c.args.at c.loop.count c.in_ok-from.from c.args.bytes.now _ _ _ _ c.loop.invariant.has c.requires.inside c.write_part.result c.write_part.ensures.part c.in_ok-from.ensures.place (rest_is c.loop.count c.args.bytes.now)

pub loop-preserved : goal.loop-preserved
loop-preserved g c = elim c.match-write_part.branch [
  | in-Ok w ↦ rw w.count-is (record {
    has = HasWritten-more g.F.Files.tells c.args.file c.args.at c.loop.count c.in_ok-from.from c.args.bytes.now _ _ _ _ c.loop.invariant.has c.requires.inside c.write_part.result c.write_part.ensures.part c.in_ok-from.ensures.place (rest_is c.loop.count c.args.bytes.now) w.in-Ok.more w.in-Ok.is;
    limit_is = c.write_part.ensures.limit ∙ c.loop.invariant.limit_is;
    below = λ some.
        let low : c.in_ok-from.from + w.in-Ok.more ≤ g.F.Files.limit c.loop.files = rw w.in-Ok.is at c.write_part.ensures.below in
        omega (arith, c.in_ok-from.ensures.place, c.loop.invariant.limit_is);
  })
  | in-Err w ↦ rw w.count-is (record {
    has = HasWritten-interrupted g.F.Files.tells c.args.file c.args.at c.loop.count c.in_ok-from.from c.args.bytes.now _ _ _ _ c.loop.invariant.has c.requires.inside c.write_part.result c.write_part.ensures.part c.in_ok-from.ensures.place (rest_is c.loop.count c.args.bytes.now) w.in-Err.error w.in-Err.is (search rules);
    limit_is = c.write_part.ensures.limit ∙ c.loop.invariant.limit_is;
    below = c.loop.invariant.below;
  })
]
