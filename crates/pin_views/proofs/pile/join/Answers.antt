use Rattle.std.proofs.Common.{ℕ, ◌+◌, ◌*◌, ◌^◌, ◌≤◌, length, subst, arith}
use Rattle.pin_views.proofs.Placed.{level_by}
use Rattle.pin_views.proofs.pile.join.Goals as goal

pub invariant_of-result : goal.invariant_of-result
invariant_of-result g c =
    let filled : 2 ^ c.args.right.depth ≤ 2 * length c.args.right.items + 1 = subst (λ (n : ℕ). 2 ^ c.args.right.depth ≤ 2 * n + 1) c.len.ensures.count c.len.ensures.filled in
    rw c.in_ok-node.ensures.ok (record {
      before = c.len-before.ensures.count;
      size = omega arith;
      full = c.requires.full;
      fewer = c.requires.fewer;
      level = level_by c.args.left.depth c.args.right.depth (length c.args.left.items) (length c.args.right.items) c.requires.full filled c.requires.fewer;
    })
