-- A sound state is the only one of which version 1 tells what it tells.
use Rattle.std.proofs.Common.{◌≡◌, List, sym, ◌∙◌}
use Rattle.chain_names.specs.Coins.{Maps}
use Rattle.chain_names.specs.Undo.{UndoRecord}
use Rattle.registrations.specs.Told.{Histories, TellSame}
use Rattle.registrations.specs.Filling.{names_filled, undos_filled}
use Rattle.registrations.proofs.SoundLemmas.{AreFollowing}
use Rattle.registrations.proofs.ToldLemmas.{follow_same}

-- it is what follows from what is told
pub told_once : (us others : List UndoRecord) (names other : Histories) → AreFollowing us names → TellSame names other us others
    → (names ≡ names_filled others other) × (us ≡ undos_filled others other)
told_once us others names other following same =
    let from = follow_same us names in
    let to = follow_same others other in (
      sym following.names_are ∙ sym from.names_are ∙ (λ i. names_filled (same.undos_told i) (same.names_told i)) ∙ to.names_are,
      sym following.undos_are ∙ sym from.undos_are ∙ (λ i. undos_filled (same.undos_told i) (same.names_told i)) ∙ to.undos_are,
    )

pub same_sound : (maps other : Maps) (us others : List UndoRecord) → AreFollowing us maps.names → AreFollowing others other.names → maps.coins ≡ other.coins
    → TellSame maps.names other.names us others → (maps ≡ other) × (us ≡ others)
same_sound maps other us others following others_follow coins same =
    let once = told_once us others maps.names other.names following same in
    let names = once.0 ∙ others_follow.names_are in (
      λ i. record { coins = coins i; names = names i },
      once.1 ∙ others_follow.undos_are,
    )
