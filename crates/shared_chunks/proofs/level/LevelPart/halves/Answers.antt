use Rattle.shared_chunks.proofs.Parts.{halves_is}
use Rattle.std.proofs.Common.{◌∙◌}
use Rattle.shared_chunks.proofs.level.LevelPart.halves.Goals as goal

pub returns : goal.returns
returns g c =
    halves_is c.args.self.now.subs.items c.in_ok-front.front.items c.in_ok-back.back.items c.as_slice.result.now _ (c.in_ok-front.ensures ∙ c.split_at.ensures.front) (c.in_ok-back.ensures ∙ c.split_at.ensures.back) c.as_slice.ensures.value
