use Rattle.std.proofs.Common.{ℕ, List, ◌++◌, refl, ap, ◌∙◌}
use Rattle.block_maker.specs.Seen.{making_at}
use Rattle.block_maker.proofs.Holding.{two_held}
use Rattle.block_maker.proofs.contents.coinbase_and_name.Goals as goal

pub returns : goal.returns
returns c =
    two_held (record { count = 2; text = c.extend.new.self; root = c.joined-root.result }) c.args.height (making_at c.args.height c.args.op.now) c.in_ok-text.text c.in_ok-name.name
    c.in_ok-text.ensures c.in_ok-name.ensures.text c.in_ok-name.ensures.name refl
    (c.in_ok-extend.ensures.ok ∙ ap (λ (x : List ℕ). c.in_ok-text.text ++ x) c.as_slice-3.ensures)
    (c.joined-root.ensures ∙ rw (c.hash_of.ensures, c.hash_of-2.ensures, c.as_slice.ensures, c.as_slice-2.ensures) refl)
