use Rattle.std.proofs.Common.{◌∙◌, Some, sym, ap, drop, arith}
use Rattle.std.specs.List.{slice_get}
use Rattle.shared_chunks.specs.Pairs.{with_pair}
use Rattle.shared_chunks.proofs.Parts.{head_is}
use Rattle.shared_chunks.proofs.sub.Sub.set.Goals as goal

pub invariant_of-self : goal.invariant_of-self
invariant_of-self g c = (
  omega (arith, c.grown-self-inside.ensures, c.in-Ok.ensures.count, c.self.invariant.0),
  ap (λ z. slice_get z 0) c.in-Ok.ensures.ok
      ∙ ap (λ z. slice_get (with_pair g.K.Ord.cmp z c.args.entry.now.0 c.args.entry.now.1) 0) (head_is (g.T.Part.pairs c.self.inside.part.value) c.self.inside.low c.self.invariant.1)
      ∙ c.in_ok-low.ensures (drop 1 (g.T.Part.pairs c.self.inside.part.value))
      ∙ ap Some (sym c.put_low.ensures),
)
