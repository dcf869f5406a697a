use Rattle.std.proofs.Common.{refl, arith}
use Rattle.name_snapshot.proofs.TurnLemmas.{head_goes}
use Rattle.name_snapshot.proofs.reading.Reading.read_head.Goals as goal

pub returns-in-Ok-clause-steps : goal.returns-in-Ok-clause-steps
returns-in-Ok-clause-steps c = λ below is.
    head_goes c.args.self.now c.requires.next c.args.bytes.now (λ i. omega (arith, c.type_inv.bytes i)) c.in-Ok.makes c.in-Ok.rest.now c.in-Ok.ensures below is _ refl refl refl refl
