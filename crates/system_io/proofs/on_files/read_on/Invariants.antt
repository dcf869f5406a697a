use Rattle.system_io.specs.Files.{HasRead}
use Rattle.system_io.proofs.on_files.read_on.Given as goal

abbrev pub invariant-loop : goal.invariant-loop
invariant-loop g l = HasRead g.F.Files.tells l.file l.at l.count l.buf (g.F.Files.moments l.initial.files) (g.F.Files.moments l.files)
