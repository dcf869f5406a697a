-- The next piece of the text that is given out into a draft, and what is pinned at a begin.
use Rattle.std.proofs.Common.{◌≡◌, ℕ, ◌+◌, ◌-◌, List, length, length-take, take, drop, Ok, Err, Some, None, inl, inr, sym, ap, ◌∙◌, arith}
use Rattle.std.specs.Prelude.{min, Result, IfOk, Option}
use Rattle.std.proofs.lemmas.Bool.{cases_lt}
use Rattle.std.proofs.lemmas.List.{drop_all}
use Rattle.nmc_base.specs.declared.no_memory.NoMemory.{NoMemory}
use Rattle.chain_state.specs.Chain.{Indexed, IsIndexed}
use Rattle.image_grammar.specs.Text.{IsStateText}
use Rattle.image_writer.specs.Whole.{IsReadAgain}
use Rattle.name_tables.specs.Tables.{maps_by}
use Rattle.undo_records.specs.declared.version.Version.TheVariants.{Two}
use Rattle.name_store.specs.Drafting.{Drafting, IsNextOf, with_written}
use Rattle.name_store.specs.Slicing.{SliceAnswer}
use Rattle.name_store.specs.Stored.{Stored}
use Rattle.bridge_core.specs.Slicing.{slice_of}
use Rattle.bridge_core.specs.declared.slicing.SliceTurned.{SliceTurned}
use Rattle.bridge_core.specs.declared.slicing.SliceTurned.TheVariants.{Written, Selected, AreaLimit, Ended}
use Rattle.sliced_save.specs.Mirror.{Mirrored, MirrorsIndex}
use Rattle.sliced_save.specs.Sliced.{Sliced}
use Rattle.name_lister.specs.Saving.{IsGiven, IsPinnedOf, IsPinnedBy, StaysGiven}
use Rattle.name_lister.specs.declared.saving.Saving.{Saving}

-- ---- a piece

module _ (saving : Saving) (g : IsGiven saving) (now : List ℕ) (count most : ℕ) (size : length now ≡ most) (count_is : count ≡ min most (length saving.slices.text - saving.slices.given)) where
  abbrev text : List ℕ
  text = saving.slices.text

  abbrev written : ℕ
  written = saving.draft.draft.written

  counted : length (take count now) ≡ count
  counted = omega (arith, length-take count now, size, count_is)

  pub piece_size : length (take count now) ≡ min most (saving.draft.draft.image - written)
  piece_size = omega (arith, counted, count_is, g.given, g.image)

  same_rest : drop saving.slices.given text ≡ drop written text
  same_rest = elim (cases_lt (length text) written) [
    | inl over ↦ drop_all saving.slices.given text (omega (arith, g.given, over)) ∙ sym (drop_all written text (omega (arith, over)))
    | inr within ↦ (let same : saving.slices.given ≡ written = omega (arith, g.given, within) in ap (λ (n : ℕ). drop n text) same)
  ]

  pub piece_next : take count now ≡ take count (drop saving.slices.given text) → IsNextOf saving.draft text (take count now)
  piece_next bytes = bytes ∙ ap (take count) same_rest ∙ ap (λ (n : ℕ). take n (drop written text)) (sym counted)

  module _ (rest : Sliced) (rest_is : rest ≡ record saving.slices { given = saving.slices.given + count }) where
    given_next : (drafting : Drafting) → drafting ≡ with_written saving.draft most → IsGiven (record { draft = drafting; slices = rest })
    given_next drafting is =
        let same : length rest.text ≡ length text = ap (λ (s : Sliced). length s.text) rest_is in
        record {
          given = omega (arith, ap (λ (s : Sliced). s.given) rest_is, ap (λ (d : Drafting). d.draft.written) is, count_is, g.given, same);
          image = ap (λ (d : Drafting). d.draft.image) is ∙ g.image ∙ sym same;
        }

    pub stays_given : (store : Stored) (turned : SliceTurned) → SliceAnswer store saving.draft most (slice_of turned) → StaysGiven turned rest
    stays_given store (Written bridge drafting) answer = given_next drafting answer.drafting_is
    stays_given store (Selected bridge number) answer = tt
    stays_given store (AreaLimit bridge) answer = tt
    stays_given store Ended answer = tt

-- ---- what is pinned

pub pinned_of : (mirror : Mirrored) (result : Result Sliced NoMemory) → IfOk result (λ s. s.given ≡ 0)
    → IfOk result (λ s. (index : Indexed) → MirrorsIndex index mirror → IsStateText Two index.base index.undos (maps_by index.tables) s.text)
    → IfOk result (λ s. (index : Indexed) → IsIndexed index → MirrorsIndex index mirror → IsReadAgain index.base index.undos (maps_by index.tables) s.text)
    → IfOk result (IsPinnedOf mirror)
pinned_of mirror (Ok slices) given is_text again =
    record { given = given; is_text = λ index indexed mirrors. record { is_text = is_text index mirrors; again = again index indexed mirrors } }
pinned_of mirror (Err e) given is_text again = tt

-- nothing was given of it
pub pinned_size : (mirror : Option Mirrored) (slices : Sliced) → IsPinnedBy mirror slices → length slices.text - slices.given ≡ length slices.text
pinned_size None slices pinned = absurd pinned
pinned_size (Some mirror) slices pinned = omega (arith, pinned.given)
