-- Damaged files stand for no run state, and are damaged at one place first.
use Rattle.std.proofs.Common.{◌≡◌, ℕ, ◌<◌, List, refl, sym, ◌∙◌, ap, subst, arith}
use Rattle.nmc_base.specs.declared.chain_ends.Base.{Base}
use Rattle.gate_journal.specs.Gate.{IsClosed}
use Rattle.gate_journal.specs.Records.{IsArea, image_front}
use Rattle.gate_journal.proofs.GateLemmas.{ended_to}
use Rattle.chain_state.specs.Chain.{Indexed, SameIndex}
use Rattle.chain_commands.specs.RunState.{RunState, saved_chain, longest_area}
use Rattle.chain_commands.specs.Saving.{most_selections}
use Rattle.image_slots.specs.Selections.{HasSelections, selected_by}
use Rattle.image_slots.specs.Damage as slots
use Rattle.image_slots.proofs.DamageLaws as slot_laws
use Rattle.image_files.specs.Fronts.{image_at}
use Rattle.image_files.specs.Indexes.{BeginsWith, HasBadImage}
use Rattle.image_files.proofs.AreaLaws as image_laws
use Rattle.index_commands.specs.Records.{records_of}
use Rattle.index_commands.specs.Standing.{StandsFor}
use Rattle.index_commands.proofs.LeadLemmas.{allowed_taken}
use Rattle.index_commands.specs.Commands.{Origin, HasCommands, gate_behind}
use Rattle.index_commands.specs.Damage.{HasBadRecord}
use Rattle.index_commands.proofs.RecordLaws.{ended_well, one_record, bad_alike}
use Rattle.name_store.specs.Header.{HasHeader, HasFields, IsInitialised, header_text, base_at, selections_at}
use Rattle.name_store.specs.Damage as damage
use Rattle.name_store.specs.Damage.{HasBadField, HasSelected, BeginsAt, IsDamaged}
use Rattle.name_store.specs.Stands.{Bytes, Stands}
use Rattle.name_store.proofs.RunLemmas.{standing_base, standing_selected, one_count}
use Rattle.name_store.proofs.StateLemmas.{area_is}
use Rattle.name_store.proofs.SavedLemmas.{saved_stands, saved_image, saved_not_bad}

-- a header whose fields are in order has no bad one
no_bad_field : (file : List ℕ) (at : ℕ) → HasFields file → HasBadField file at → ⊥
no_bad_field file at has (damage.bad_magic is not) = not has.magic_is
no_bad_field file at has (damage.bad_profile is magic not) = not has.profile_is
no_bad_field file at has (damage.bad_height is magic profile high) = omega (arith, high, has.low)
no_bad_field file at has (damage.bad_host is magic profile low not) = not has.host

no_bad_selection : (file : List ℕ) (count at : ℕ) → HasSelected file count → slots.IsDamaged (selections_at file) most_selections file at → ⊥
no_bad_selection file count at has bad = slot_laws.no_place (selections_at file) most_selections file count at has.selections has.few bad

-- ---- where the commands of an area begin

-- two origins of an area have one front and the same index
front_same : (base : Base) (area : List ℕ) (a b : Origin) → BeginsAt base area a → BeginsAt base area b → a.front ≡ b.front
front_same base area a b is also = is.front_is ∙ sym also.front_is

index_same : (base : Base) (area : List ℕ) (a b : Origin) → BeginsAt base area a → BeginsAt base area b → SameIndex a.index b.index
index_same base area a b is also = image_laws.one_index base (image_at area) a.index b.index is.is_index also.is_index

-- a bad record behind the one is one behind the other
pub bad_behind : (base : Base) (area : List ℕ) (a b : Origin) (at : ℕ) → BeginsAt base area a → BeginsAt base area b → HasBadRecord a longest_area area at → HasBadRecord b longest_area area at
bad_behind base area a b at is also bad =
    bad_alike b.front a.index b.index (index_same base area a b is also) longest_area area at
    (subst (λ (front : List ℕ). HasBadRecord (record { front = front; index = a.index }) longest_area area at) (front_same base area a b is also) bad)

-- an area where commands begin has no bad image
pub begun_not_bad : (base : Base) (area : List ℕ) (first : Origin) (at : ℕ) → BeginsAt base area first → HasBadImage base area at → ⊥
begun_not_bad base area first at is bad = image_laws.none_begun base area first.index at is.front is.is_index bad

-- ---- uninitialised, damaged, or neither

pub damaged_initialised : (files : Bytes) (file at : ℕ) → IsDamaged files file at → IsInitialised (files 0)
damaged_initialised files file at (damage.field is begun bad) = begun
damaged_initialised files file at (damage.selection is has bad) = has.initialised
damaged_initialised files file at (damage.image count has is bad) = has.header.initialised
damaged_initialised files file at (damage.command count has is first begins bad) = has.header.initialised

-- files whose header and selections are in order, and the image and the commands of the selected area
pub record IsInOrder (files : Bytes) (count : ℕ) : Type 0 where
  pub has : HasSelected (files 0) count
  pub no_bad_image : (at : ℕ) → HasBadImage (base_at (files 0)) (files (selected_by count)) at → ⊥
  pub no_bad_record : (at : ℕ) (first : Origin) → BeginsAt (base_at (files 0)) (files (selected_by count)) first → HasBadRecord first longest_area (files (selected_by count)) at → ⊥

pub undamaged : (files : Bytes) (count : ℕ) → IsInOrder files count → (file at : ℕ) → IsDamaged files file at → ⊥
undamaged files count order file at (damage.field is begun bad) = no_bad_field (files 0) at order.has.header.fields bad
undamaged files count order file at (damage.selection is has bad) = no_bad_selection (files 0) count at order.has bad
undamaged files count order file at (damage.image other has is bad) =
    let same : file ≡ selected_by count = is ∙ ap selected_by (one_count (files 0) other count has order.has) in
    order.no_bad_image at (subst (λ (f : ℕ). HasBadImage (base_at (files 0)) (files f) at) same bad)
undamaged files count order file at (damage.command other has is first begins bad) =
    let same : file ≡ selected_by count = is ∙ ap selected_by (one_count (files 0) other count has order.has) in
    order.no_bad_record at first (subst (λ (f : ℕ). BeginsAt (base_at (files 0)) (files f) first) same begins) (subst (λ (f : ℕ). HasBadRecord first longest_area (files f) at) same bad)

-- files that stand for a run state
module _ (files : Bytes) (run : RunState) (stands : Stands files run) where
  abbrev area : List ℕ
  area = files (selected_by run.selections)

  standing_not_bad : (at : ℕ) → HasBadImage (base_at (files 0)) area at → ⊥
  standing_not_bad at bad =
      saved_not_bad run stands.is_state (records_of run.since) area stands.area at (subst (λ (b : Base). HasBadImage b area at) (standing_base files run stands) bad)

  module _ (first : Origin) (begins : BeginsAt (base_at (files 0)) area first) where
    pub standing_front : first.front ≡ image_front run.text
    standing_front = begins.front_is ∙ ap image_front (saved_image run stands.is_state (records_of run.since) area stands.area)

    pub standing_first : (P : Indexed → Type 0) → ((index : Indexed) → BeginsWith run.base run.text index → P index) → P first.index
    standing_first P holds =
        holds first.index (subst (λ (b : Base). BeginsWith b run.text first.index) (standing_base files run stands)
        (subst (λ (l : List ℕ). BeginsWith (base_at (files 0)) l first.index) (saved_image run stands.is_state (records_of run.since) area stands.area) begins.is_index))

    standing_has : HasCommands first.front longest_area area run.since
    standing_has = subst (λ (front : List ℕ). HasCommands front longest_area area run.since) (sym standing_front) (record {
      records = ended_to (image_front run.text) (records_of run.since) area stands.area;
      within = omega (arith, area_is run stands.is_state, stands.is_state.fits);
    })

    standing_no_bad : (at : ℕ) → HasBadRecord first longest_area area at → ⊥
    standing_no_bad at bad =
        let closed = subst (λ (front : List ℕ). IsClosed area (gate_behind front run.since)) (sym standing_front) stands.area.closed.closed in
        ended_well first longest_area area run.since standing_has
        (allowed_taken first.index (saved_chain run) (standing_first (λ index. StandsFor index (saved_chain run)) (saved_stands run stands.is_state)) run.since stands.is_state.allowed) closed at bad

  pub standing_undamaged : (file at : ℕ) → IsDamaged files file at → ⊥
  standing_undamaged = undamaged files run.selections (record {
    has = standing_selected files run stands;
    no_bad_image = standing_not_bad;
    no_bad_record = λ at first begins bad. standing_no_bad first begins at bad;
  })

-- ---- one damage is the first

one_field : (file : List ℕ) (a b : ℕ) → HasBadField file a → HasBadField file b → a ≡ b
one_field file a b (damage.bad_magic is not) (damage.bad_magic also not_) = is ∙ sym also
one_field file a b (damage.bad_magic is not) (damage.bad_profile also magic_ not_) = absurd (not magic_)
one_field file a b (damage.bad_magic is not) (damage.bad_height also magic_ profile_ high_) = absurd (not magic_)
one_field file a b (damage.bad_magic is not) (damage.bad_host also magic_ profile_ low_ not_) = absurd (not magic_)
one_field file a b (damage.bad_profile is magic not) (damage.bad_magic also not_) = absurd (not_ magic)
one_field file a b (damage.bad_profile is magic not) (damage.bad_profile also magic_ not_) = is ∙ sym also
one_field file a b (damage.bad_profile is magic not) (damage.bad_height also magic_ profile_ high_) = absurd (not profile_)
one_field file a b (damage.bad_profile is magic not) (damage.bad_host also magic_ profile_ low_ not_) = absurd (not profile_)
one_field file a b (damage.bad_height is magic profile high) (damage.bad_magic also not_) = absurd (not_ magic)
one_field file a b (damage.bad_height is magic profile high) (damage.bad_profile also magic_ not_) = absurd (not_ profile)
one_field file a b (damage.bad_height is magic profile high) (damage.bad_height also magic_ profile_ high_) = is ∙ sym also
one_field file a b (damage.bad_height is magic profile high) (damage.bad_host also magic_ profile_ low_ not_) = absurd (omega (arith, high, low_))
one_field file a b (damage.bad_host is magic profile low not) (damage.bad_magic also not_) = absurd (not_ magic)
one_field file a b (damage.bad_host is magic profile low not) (damage.bad_profile also magic_ not_) = absurd (not_ profile)
one_field file a b (damage.bad_host is magic profile low not) (damage.bad_height also magic_ profile_ high_) = absurd (omega (arith, low, high_))
one_field file a b (damage.bad_host is magic profile low not) (damage.bad_host also magic_ profile_ low_ not_) = is ∙ sym also

-- of two areas that the selections name
module _ (files : Bytes) (file other at place count most : ℕ) (has : HasSelected (files 0) count) (also : HasSelected (files 0) most) where
  file_same : file ≡ selected_by count → other ≡ selected_by most → file ≡ other
  file_same is is_other = is ∙ ap selected_by (one_count (files 0) count most has also) ∙ sym is_other

  image_first : file ≡ selected_by count → other ≡ selected_by most → HasBadImage (base_at (files 0)) (files file) at → HasBadImage (base_at (files 0)) (files other) place
      → (file ≡ other) × (at ≡ place)
  image_first is is_other bad bad_too =
      let same = file_same is is_other in
      (same, image_laws.one_place (base_at (files 0)) (files other) at place (subst (λ (f : ℕ). HasBadImage (base_at (files 0)) (files f) at) same bad) bad_too)

  image_or_command : file ≡ selected_by count → other ≡ selected_by most → HasBadImage (base_at (files 0)) (files file) at → (first : Origin) → BeginsAt (base_at (files 0)) (files other) first → ⊥
  image_or_command is is_other bad first begins =
      begun_not_bad (base_at (files 0)) (files other) first at begins (subst (λ (f : ℕ). HasBadImage (base_at (files 0)) (files f) at) (file_same is is_other) bad)

  command_first : file ≡ selected_by count → other ≡ selected_by most → (a b : Origin) → BeginsAt (base_at (files 0)) (files file) a → BeginsAt (base_at (files 0)) (files other) b
      → HasBadRecord a longest_area (files file) at → HasBadRecord b longest_area (files other) place → (file ≡ other) × (at ≡ place)
  command_first is is_other a b begins begins_too bad bad_too =
      let same = file_same is is_other in
      let base = base_at (files 0) in (
        same,
        one_record b longest_area (files other) at place (bad_behind base (files other) a b at (subst (λ (f : ℕ). BeginsAt base (files f) a) same begins) begins_too
            (subst (λ (f : ℕ). HasBadRecord a longest_area (files f) at) same bad)) bad_too,
      )

pub one_first : (files : Bytes) (file at other place : ℕ) → IsDamaged files file at → IsDamaged files other place → (file ≡ other) × (at ≡ place)
one_first files file at other place (damage.field is begun bad) (damage.field also begun_ bad_) = (is ∙ sym also, one_field (files 0) at place bad bad_)
one_first files file at other place (damage.field is begun bad) (damage.selection also has_ bad_) = absurd (no_bad_field (files 0) at has_.fields bad)
one_first files file at other place (damage.field is begun bad) (damage.image count_ has_ is_ bad_) = absurd (no_bad_field (files 0) at has_.header.fields bad)
one_first files file at other place (damage.field is begun bad) (damage.command count_ has_ is_ first_ begins_ bad_) = absurd (no_bad_field (files 0) at has_.header.fields bad)
one_first files file at other place (damage.selection is has bad) (damage.field also begun_ bad_) = absurd (no_bad_field (files 0) place has.fields bad_)
one_first files file at other place (damage.selection is has bad) (damage.selection also has_ bad_) =
    (is ∙ sym also, slot_laws.one_place (selections_at (files 0)) most_selections (files 0) at place bad bad_)
one_first files file at other place (damage.selection is has bad) (damage.image count_ has_ is_ bad_) = absurd (no_bad_selection (files 0) count_ at has_ bad)
one_first files file at other place (damage.selection is has bad) (damage.command count_ has_ is_ first_ begins_ bad_) = absurd (no_bad_selection (files 0) count_ at has_ bad)
one_first files file at other place (damage.image count has is bad) (damage.field also begun_ bad_) = absurd (no_bad_field (files 0) place has.header.fields bad_)
one_first files file at other place (damage.image count has is bad) (damage.selection also has_ bad_) = absurd (no_bad_selection (files 0) count place has bad_)
one_first files file at other place (damage.image count has is bad) (damage.image count_ has_ is_ bad_) = image_first files file other at place count count_ has has_ is is_ bad bad_
one_first files file at other place (damage.image count has is bad) (damage.command count_ has_ is_ first_ begins_ bad_) =
    absurd (image_or_command files file other at place count count_ has has_ is is_ bad first_ begins_)
one_first files file at other place (damage.command count has is first begins bad) (damage.field also begun_ bad_) = absurd (no_bad_field (files 0) place has.header.fields bad_)
one_first files file at other place (damage.command count has is first begins bad) (damage.selection also has_ bad_) = absurd (no_bad_selection (files 0) count place has bad_)
one_first files file at other place (damage.command count has is first begins bad) (damage.image count_ has_ is_ bad_) =
    absurd (image_or_command files other file place at count_ count has_ has is_ is bad_ first begins)
one_first files file at other place (damage.command count has is first begins bad) (damage.command count_ has_ is_ first_ begins_ bad_) =
    command_first files file other at place count count_ has has_ is is_ first first_ begins begins_ bad bad_

-- ---- files that read alike

module _ (old new : Bytes) (alike : (file : ℕ) → file < 3 → new file ≡ old file) where
  header_alike : new 0 ≡ old 0
  header_alike = alike 0 (omega arith)

  area_alike : (file count : ℕ) → file ≡ selected_by count → new file ≡ old file
  area_alike file count is = alike file (omega (arith, is))

  -- of the header, and of an area that the selections name
  at_header : (P : List ℕ → Type 0) → P (old 0) → P (new 0)
  at_header P p = subst P (sym header_alike) p

  at_area : (file count : ℕ) → file ≡ selected_by count → (P : Base → List ℕ → Type 0) → P (base_at (old 0)) (old file) → P (base_at (new 0)) (new file)
  at_area file count is P p = subst (λ (l : List ℕ). P (base_at l) (new file)) (sym header_alike) (subst (P (base_at (old 0))) (sym (area_alike file count is)) p)

  -- damage is that of the three files alone
  pub damage_moved : (file at : ℕ) → IsDamaged old file at → IsDamaged new file at
  damage_moved file at (damage.field is begun bad) = damage.field is (at_header IsInitialised begun) (at_header (λ l. HasBadField l at) bad)
  damage_moved file at (damage.selection is has bad) = damage.selection is (at_header HasHeader has) (at_header (λ l. slots.IsDamaged (selections_at l) most_selections l at) bad)
  damage_moved file at (damage.image count has is bad) = damage.image count (at_header (λ l. HasSelected l count) has) is (at_area file count is (λ base l. HasBadImage base l at) bad)
  damage_moved file at (damage.command count has is first begins bad) =
      damage.command count (at_header (λ l. HasSelected l count) has) is first (at_area file count is (λ base l. BeginsAt base l first) begins)
      (at_area file count is (λ base l. HasBadRecord first longest_area l at) bad)

  -- and so is what they stand for
  pub stands_moved : (run : RunState) → Stands old run → Stands new run
  stands_moved run stands = record {
    selections = at_header (HasSelections (header_text run.base run.host) run.selections) stands.selections;
    area = at_area (selected_by run.selections) run.selections refl (λ base l. IsArea run.text (records_of run.since) l) stands.area;
    is_state = stands.is_state;
  }
