use Rattle.std.proofs.Common.{ℕ, List, ◌++◌, length, take, drop, refl, ◌∙◌, ap}
use Rattle.nmc_base.proofs.byte_list.Bytes.as_mut_slice.Goals as goal

pub returns : goal.returns
returns c =
    let items = c.self.inside.held.items in (
      (
        refl,
        λ w. ap (λ (n : ℕ). take n (w ++ drop (length w) items)) c.self.inside.held.ok.0
            ∙ ap (λ (l : List ℕ). take (length l) (w ++ drop (length w) l)) c.self.view_is,
      ),
      record { lends = tt; value = c.as_mut_slice.ensures.value ∙ c.self.view_is },
    )
