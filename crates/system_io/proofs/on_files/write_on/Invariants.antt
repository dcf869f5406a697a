use Rattle.system_io.specs.Files.{WritesOn}
use Rattle.system_io.proofs.on_files.write_on.Given as goal

abbrev pub invariant-loop : goal.invariant-loop
invariant-loop g l = WritesOn g.F.Files.tells l.file l.at l.count l.bytes (g.F.Files.moments l.initial.files) (g.F.Files.moments l.files) (g.F.Files.limit l.initial.files) (g.F.Files.limit l.files)
