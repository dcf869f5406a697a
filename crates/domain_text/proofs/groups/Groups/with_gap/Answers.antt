use Rattle.std.proofs.Common.{◌∙◌, arith, length, ap}
use Rattle.std.proofs.lemmas.List.{length-take-le}
use Rattle.domain_text.proofs.GroupLists.{with_gap-put}
use Rattle.domain_text.proofs.groups.Groups.with_gap.Goals as goal

pub returns : goal.returns
returns c =
    with_gap-put c.self.inside.len c.right.inside.len c.copy_from_slice.new.self c.copy_from_slice-2.new.self c.args.self.now c.args.right.now
    (c.copy_from_slice.ensures.after ∙ c.self.view_is) (c.copy_from_slice-2.ensures.after ∙ c.right.view_is)
    (ap length c.copy_from_slice.ensures.after ∙ length-take-le c.self.inside.len c.self.inside.values (omega arith))
    (ap length c.copy_from_slice-2.ensures.after ∙ length-take-le c.right.inside.len c.right.inside.values (omega arith))
    (omega arith)
