-- What filled tables and records are.
use Rattle.std.proofs.Common.{◌≡◌, ℕ, List, map, sym, ap, ◌∙◌}
use Rattle.std.specs.Map.{keys_of}
use Rattle.nmc_base.specs.declared.chain_ends.Profile.{Profile}
use Rattle.chain_names.specs.Coins.{Maps}
use Rattle.chain_names.specs.Sound.{IsSound}
use Rattle.chain_names.specs.Tables.{NameSlots, names_in}
use Rattle.chain_names.specs.Undo.{UndoRecord}
use Rattle.undo_records.specs.Versions.{without_heights}
use Rattle.registrations.specs.Told.{names_without, TellSame}
use Rattle.registrations.specs.Taking.{TakenUndo, names_at_base, undos_taken}
use Rattle.registrations.specs.Filling.{AreDone, AreFilledBy, all_begun, names_with, undos_with, names_filled}
use Rattle.registrations.proofs.NameLemmas.{places_by_keys}
use Rattle.registrations.proofs.OnlyLemmas.{told_once}
use Rattle.registrations.proofs.PlaceLemmas.{places_same}
use Rattle.registrations.proofs.SoundLemmas.{sound_following}
use Rattle.registrations.proofs.ToldLemmas.{filled_told}

-- all was taken back, each item that was left begins its registration, and all was done again
pub record IsWholeWay (first base last : NameSlots) (us after : List UndoRecord) (back : List TakenUndo) : Type 0 where
  pub keys_kept : keys_of base ≡ keys_of first
  pub names_begun : names_in base ≡ all_begun (names_at_base us (names_in first))
  pub back_is : back ≡ undos_taken us (names_in first)
  pub done : AreDone base last back after

pub filled_so : (first base last : NameSlots) (us after : List UndoRecord) (back : List TakenUndo) → IsWholeWay first base last us after back → AreFilledBy first last us after
filled_so first base last us after back way =
    let names : names_in last ≡ names_filled us (names_in first) = way.done.names_are ∙ (λ i. names_with (way.back_is i) (way.names_begun i)) in
    record {
      names_are = names;
      undos_are = way.done.undos_are ∙ (λ i. undos_with (way.back_is i) (way.names_begun i));
      places =
          places_same first base last (places_by_keys first base way.keys_kept) way.done.places
          (ap names_without names ∙ (filled_told us (names_in first)).names_told);
    }

pub told_as_before : (old new : NameSlots) (us after : List UndoRecord) → AreFilledBy old new us after → TellSame (names_in new) (names_in old) after us
told_as_before old new us after filled =
    let told = filled_told us (names_in old) in
    record { names_told = ap names_without filled.names_are ∙ told.names_told; undos_told = ap (map without_heights) filled.undos_are ∙ told.undos_told }

pub only_sound : (old new : NameSlots) (before after : List UndoRecord) → AreFilledBy old new before after
    → (profile : Profile) (base tip : ℕ) (maps : Maps) (us : List UndoRecord) → IsSound profile base tip maps us → TellSame maps.names (names_in old) us before
    → (maps.names ≡ names_in new) × (us ≡ after)
only_sound old new before after filled profile base tip maps us sound same =
    let once = told_once us before maps.names (names_in old) (sound_following profile base tip maps us sound) same in
    (once.0 ∙ sym filled.names_are, once.1 ∙ sym filled.undos_are)
