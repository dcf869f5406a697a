use Rattle.std.proofs.Common.{◌+◌, ◌≤◌, length, arith}
use Rattle.nmc_base.specs.Heights.{highest}
use Rattle.chain_names.proofs.SoundLemmas.{sound_state}
use Rattle.chain_state.proofs.chain.Chain.from_parts.Goals as goal

pub overflow_cast-tip : goal.overflow_cast-tip
overflow_cast-tip c =
    let low : c.args.base.height + length c.args.parts.undos.items ≤ highest = (sound_state _ _ _ _ _ c.requires.sound).tip_height in
    grind (arith, low, c.len.ensures)

pub overflow_add-tip : goal.overflow_add-tip
overflow_add-tip c =
    let low : c.args.base.height + length c.args.parts.undos.items ≤ highest = (sound_state _ _ _ _ _ c.requires.sound).tip_height in
    grind (arith, low, c.len.ensures)
