use Rattle.std.proofs.Common.{ap, arith}
use Rattle.nmc_base.specs.declared.chain_ends.Tip.{Tip}
use Rattle.name_lister.proofs.TurnLemmas.{tip_low}
use Rattle.name_lister.proofs.lister.height_of.Goals as goal

pub returns-clause-low : goal.returns-clause-low
returns-clause-low c = omega (arith, tip_low c.args.chain.now c.parts-parts.ensures.sound, ap (λ (tip : Tip). tip.height) c.tip.ensures)
