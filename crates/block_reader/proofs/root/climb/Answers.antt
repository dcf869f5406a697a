use Rattle.std.proofs.Common.{◌≡◌, ◌<◌, List, ◌∷◌, length, drop, arith, subst, ◌∙◌}
use Rattle.std.proofs.lemmas.List.{length-set}
use Rattle.nmc_base.specs.declared.hashes.Hash32.{Hash32}
use Rattle.block_grammar.specs.Merkle.{paired_row}
use Rattle.block_reader.specs.Rows.{seen_row}
use Rattle.block_reader.proofs.RowsAbove.{pair_placed}
use Rattle.block_reader.proofs.root.climb.Goals as goal

pub loop-next-preserved : goal.loop-next-preserved
loop-next-preserved c =
    let row = c.loop-next.row.items in
    let h = c.first_above-above.result in
    let inside : c.loop-next.next < length row = omega (arith, c.loop-next-test.true, c.len.ensures) in
    let rest : c.split_at.result.1.now ≡ drop c.loop-next.next row = rw c.deref.ensures.value at c.split_at.ensures.back in
    let pair = subst (λ (r : List Hash32). paired_row (seen_row r) ≡ h.0 ∷ paired_row (seen_row (drop 2 r))) rest c.first_above-above.ensures in (
      omega (arith, c.loop-next.invariant.0),
      length-set row c.loop-next.made h ∙ c.loop-next.invariant.1,
      pair_placed row c.loop-next.made c.loop-next.next h _ c.loop-next.invariant.0 inside pair c.loop-next.invariant.2,
    )
