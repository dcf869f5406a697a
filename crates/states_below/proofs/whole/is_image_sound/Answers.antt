use Rattle.std.proofs.Common.{ℕ, List, sym, ap, subst}
use Rattle.std.specs.List.{AllByRecursion}
use Rattle.chain_names.specs.declared.coin.Item.{Item}
use Rattle.chain_names.specs.Coins.{Maps}
use Rattle.chain_names.specs.State.{FitsItem}
use Rattle.states_below.proofs.whole.is_image_sound.Goals as goal

pub is_sound-requires-clause-lengths : goal.is_sound-requires-clause-lengths
is_sound-requires-clause-lengths c =
    subst (λ (names : List ℕ → List Item). (name : List ℕ) → AllByRecursion (FitsItem name) (names name)) (sym (ap (λ (m : Maps). m.names) c.new-below.ensures.maps)) c.requires.lengths
