-- The files were asked to write the front of the bytes.
use Rattle.std.proofs.Common.{ℕ, List, subst}
use Rattle.system_io.specs.Files.{WritesPart}
use Rattle.stream_trials.proofs.PartLemmas.{written_in_part}
use Rattle.stream_trials.proofs.parts.InPartsFiles.write_part.Goals as goal

pub returns-clause-part : goal.returns-clause-part
returns-clause-part g c =
    let moments = g.F.Files.moments in
    let Writes : List ℕ → Type 0 = λ (part : List ℕ). WritesPart g.F.Files.tells c.args.file c.args.at part (moments c.args.self.now.files) (moments c.write_part.new.self) c.write_part.result in
    written_in_part g.F.Files.tells c.args.file c.args.at c.args.self.now.most c.args.bytes.now _ _ c.write_part.result (subst Writes c.front.ensures c.write_part.ensures.part)
