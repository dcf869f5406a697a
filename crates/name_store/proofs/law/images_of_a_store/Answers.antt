use Rattle.std.proofs.Common.{inl, inr}
use Rattle.name_store.proofs.law.images_of_a_store.Goals as goal

pub returns : goal.returns
returns c = λ old new time image each left. elim (c.images_of_moments.ensures.nothing_else old new time image each left) [
  | inl before ↦ inl before
  | inr since ↦ inr (λ run stands. since.1 run stands image since.2)
]
