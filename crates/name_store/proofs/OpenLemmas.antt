-- What an opened store stands for.
use Rattle.std.proofs.Common.{◌≡◌, inl, inr, ℕ, zero, suc, ◌+◌, ◌<◌, ◌≤◌, Bool, true, List, [], ◌∷◌, ◌++◌, length, take, drop, Ok, Err, refl, sym, ◌∙◌, ap, subst, arith, length-take, length-drop, append_assoc}
use Rattle.std.specs.Prelude.{IsTrue, Result, slice_index}
use Rattle.std.specs.Int.{w32, to_le_bytes}
use Rattle.std.proofs.Math.Seq.{drop-cons, take-add}
use Rattle.nmc_base.specs.declared.chain_ends.Base.{Base}
use Rattle.disk_model.specs.FileState.{FileState, IsSettled}
use Rattle.disk_model.specs.Moments.{Files}
use Rattle.disk_model.specs.Changes.{Changes, AfterSync}
use Rattle.disk_model.specs.DiskSeen.{DiskSeen, file_in, bytes_in}
use Rattle.chain_state.specs.Chain.{Indexed}
use Rattle.gate_journal.specs.Gate.{IsClosed}
use Rattle.gate_journal.specs.Records.{HasRecords, IsArea, image_front}
use Rattle.gate_journal.proofs.RecordLemmas.{area_unique}
use Rattle.chain_commands.specs.Event.{Command}
use Rattle.chain_commands.specs.RunState.{RunState, saved_chain, after_commands, grown_by, longest_area}
use Rattle.chain_commands.specs.Saving.{most_selections}
use Rattle.image_slots.specs.Selections.{HasSelections, selected_by}
use Rattle.image_slots.specs.Slotted.{Slotted, AreOn}
use Rattle.image_slots.specs.declared.faults.SlotFault.{SlotFault}
use Rattle.image_slots.specs.declared.faults.SlotFault.TheVariants as slot_faults
use Rattle.image_slots.specs.Answers.{FaultAnswer}
use Rattle.image_slots.specs.Damage as slot_damage
use Rattle.image_files.specs.Fronts.{image_at, image_length_at}
use Rattle.image_files.specs.Indexes.{BeginsWith, HasBadImage}
use Rattle.image_files.specs.Reading.{IsReadFrom, ReadAnswer}
use Rattle.image_files.specs.declared.fault.ReadFault.{ReadFault}
use Rattle.image_files.specs.declared.fault.ReadFault.TheVariants as read_faults
use Rattle.gate_journal.specs.declared.faults.JournalFault.{JournalFault}
use Rattle.gate_journal.specs.declared.faults.JournalFault.TheVariants as journal_faults
use Rattle.index_commands.specs.Standing as chains
use Rattle.index_commands.specs.Records.{records_of}
use Rattle.index_commands.proofs.SizeLemmas.{led_sizes, commands_told}
use Rattle.index_commands.proofs.LeadLemmas.{led_base, led_taken, led_stands}
use Rattle.index_commands.specs.Commands.{Origin, gate_behind}
use Rattle.index_commands.specs.Damage.{HasBadRecord}
use Rattle.index_commands.specs.Reading.{IsFrontOf, FollowedAnswer}
use Rattle.index_commands.specs.declared.areas.Followed.{Followed}
use Rattle.index_commands.proofs.AreaLemmas.{area_size, all_read}
use Rattle.index_commands.proofs.ReadingLemmas.{followed_all_same}
use Rattle.index_commands.proofs.RecordLaws.{ended_well}
use Rattle.name_store.specs.declared.faults.OpenFault.{OpenFault}
use Rattle.name_store.specs.declared.faults.OpenFault.TheVariants as faults
use Rattle.name_store.specs.declared.header.Header.{Header}
use Rattle.name_store.specs.Faults.{of_journal, of_slots, of_image}
use Rattle.name_store.specs.Damage as damage
use Rattle.name_store.specs.Damage.{HasSelected, BeginsAt, IsDamaged}
use Rattle.name_store.specs.Header.{HasHeader, IsInitialised, magic, profile_byte, header_text, base_at, host_at, hash_at, host_length_at, height_at, selections_at}
use Rattle.name_store.specs.HeaderAnswers.{IsHeaderOf, HeaderAnswer}
use Rattle.name_store.specs.Host.{IsHostOf}
use Rattle.name_store.specs.Opening.{IsSynced, IsFollowed, IsOpened, OpenAnswer, AreaAnswer}
use Rattle.name_store.specs.Stands.{Bytes, Stands}
use Rattle.name_store.specs.Stored.{Stored, StandsFor, IsOn, area_file}
use Rattle.name_store.proofs.DamageLaws.{undamaged, bad_behind, begun_not_bad, damage_moved, stands_moved, standing_front, standing_first}
use Rattle.name_store.proofs.RunLemmas.{one_count, standing_host, standing_selected}
use Rattle.name_store.proofs.SavedLemmas.{saved_stands, short_text}
use Rattle.name_store.proofs.StateLemmas.{front_size}

-- ---- syncs

-- one file was synced
pub record WasSynced (file : ℕ) (old new : DiskSeen) : Type 0 where
  pub done : Changes file AfterSync old.moments.now new.moments.now
  pub settled : IsSettled (file_in new file)
  pub same : bytes_in new file ≡ bytes_in old file

-- each of the three was
pub all_synced : (d0 d1 d2 d3 : DiskSeen) → WasSynced 0 d0 d1 → WasSynced 1 d1 d2 → WasSynced 2 d2 d3 → IsSynced d0 d3
all_synced d0 d1 d2 d3 first second third = record { settled = λ file low. settled file low; alike = λ file low. alike file low }
  where
    settled : (file : ℕ) → file < 3 → IsSettled (file_in d3 file)
    settled zero low = subst IsSettled (sym (third.done.others 0 (λ e. omega (arith, e)) ∙ second.done.others 0 (λ e. omega (arith, e)))) first.settled
    settled (suc zero) low = subst IsSettled (sym (third.done.others 1 (λ e. omega (arith, e)))) second.settled
    settled (suc (suc zero)) low = third.settled
    settled (suc (suc (suc n))) low = absurd (omega (arith, low))

    alike : (file : ℕ) → file < 3 → bytes_in d3 file ≡ bytes_in d0 file
    alike zero low = ap (λ (s : FileState). s.bytes) (third.done.others 0 (λ e. omega (arith, e)) ∙ second.done.others 0 (λ e. omega (arith, e))) ∙ first.same
    alike (suc zero) low = ap (λ (s : FileState). s.bytes) (third.done.others 1 (λ e. omega (arith, e))) ∙ second.same ∙ ap (λ (s : FileState). s.bytes) (first.done.others 1 (λ e. omega (arith, e)))
    alike (suc (suc zero)) low = third.same ∙ ap (λ (s : FileState). s.bytes) (second.done.others 2 (λ e. omega (arith, e)) ∙ first.done.others 2 (λ e. omega (arith, e)))
    alike (suc (suc (suc n))) low = absurd (omega (arith, low))

-- the files are those of a disk that was synced
pub still_synced : (old mid new : DiskSeen) → IsSynced old mid → new.moments.now ≡ mid.moments.now → IsSynced old new
still_synced old mid new synced same = record {
  settled = λ file low. subst (λ (files : Files). IsSettled (files file)) (sym same) (synced.settled file low);
  alike = λ file low. ap (λ (files : Files). (files file).bytes) same ∙ synced.alike file low;
}

-- ---- the header of a file as its text

one_more : (file : List ℕ) (k : ℕ) → k < length file → take (k + 1) file ≡ take k file ++ slice_index file k ∷ []
one_more file k low = take-add k 1 file ∙ ap (λ (l : List ℕ). take k file ++ take 1 l) (drop-cons file k 0 low)

module _ (file : List ℕ) (has : HasHeader file) (height_is : to_le_bytes w32 (height_at file) ≡ take 4 (drop 10 file)) where
  long : 50 ≤ length file
  long = has.initialised.long

  before_height : take 10 file ≡ 1 ∷ (magic ++ profile_byte (base_at file).profile ∷ [])
  before_height =
      let gate : take 1 file ≡ 1 ∷ [] = ap (take 1) (drop-cons file 0 0 (omega (arith, long))) ∙ ap (λ (n : ℕ). n ∷ []) has.initialised.is_open in
      one_more file 9 (omega (arith, long)) ∙ (λ i. (take-add 1 8 file ∙ (λ j. gate j ++ has.fields.magic_is j)) i ++ has.fields.profile_is i ∷ [])

  before_host : take 47 file ≡ (((1 ∷ (magic ++ profile_byte (base_at file).profile ∷ [])) ++ to_le_bytes w32 (height_at file)) ++ hash_at file) ++ host_length_at file ∷ []
  before_host = one_more file 46 (omega (arith, long)) ∙ (λ i. (take-add 14 32 file ∙ (λ j. (take-add 10 4 file ∙ (λ k. before_height k ++ (sym height_is) k)) j ++ hash_at file)) i ++ host_length_at file ∷ [])

  host_size : length (host_at file) ≡ host_length_at file
  host_size = omega (arith, length-take (host_length_at file) (drop 47 file), length-drop 47 file, has.fields.host.inside)

  spelled : take (selections_at file) file ≡ header_text (base_at file) (host_at file)
  spelled =
      let front = 1 ∷ (magic ++ profile_byte (base_at file).profile ∷ []) in
      let n = host_length_at file in
      take-add 47 n file ∙ ap (λ (l : List ℕ). l ++ host_at file) before_host
      ∙ ap (λ (l : List ℕ). front ++ (to_le_bytes w32 (height_at file) ++ l)) (append_assoc (hash_at file) (n ∷ []) (host_at file))
      ∙ ap (λ (q : ℕ). front ++ (to_le_bytes w32 (height_at file) ++ (hash_at file ++ (q ∷ host_at file)))) (sym host_size)

-- the first index is that of the base
begins_base : (base : Base) (text : List ℕ) (index : Indexed) → BeginsWith base text index → index.base ≡ base
begins_base base [] index begins = begins.base_is
begins_base base (byte ∷ text) index begins = begins.is_index.base_is

-- ---- the store behind the commands

-- what the opened store is made of
abbrev pub opened_store : Header → Slotted → Followed → Stored
opened_store header slots followed = record { index = followed.index; host = header.host; slots = slots; area = followed.length }

-- Over files that the disk tells, the header was read, its selections, and all commands of the selected area from the index of its image on.
pub record HasOpened (tells : Bool) (files : Files) (header : Header) (slots : Slotted) (followed : Followed) : Type 0 where
  pub told : IsTrue tells
  pub has : HasHeader (files 0).bytes
  pub is : IsHeaderOf (files 0).bytes header
  pub few : slots.count ≤ most_selections
  pub slots_on : AreOn (take header.selections (files 0).bytes) slots (files 0)
  pub area : IsFollowed tells header.base (files (selected_by slots.count)).bytes followed
  pub settled : IsSettled (files (selected_by slots.count))

module _ (tells : Bool) (files : Files) (header : Header) (slots : Slotted) (followed : Followed) (o : HasOpened tells files header slots followed) where
  abbrev bytes : Bytes
  bytes = λ file. (files file).bytes

  abbrev base : Base
  base = base_at (bytes 0)

  abbrev store : Stored
  store = opened_store header slots followed

  abbrev area : List ℕ
  area = bytes (selected_by slots.count)

  abbrev first : Origin
  first = o.area.first

  abbrev commands : List Command
  commands = o.area.all.some.commands

  begins : BeginsAt base area first
  begins = subst (λ (b : Base). BeginsAt b area first) o.is.base_is o.area.begins

  size : followed.length ≡ gate_behind first.front commands + 1
  size = o.area.all.some.reached_is ∙ area_size first.front commands (led_sizes first.index followed.index commands o.area.all.some.leads)

  closed : IsClosed area (gate_behind first.front commands)
  closed = subst (IsClosed area) (omega (arith, size)) (o.area.all.shut o.told).closed

  is_area : IsArea (image_at area) (records_of commands) area
  is_area = subst (λ (front : List ℕ). HasRecords front (records_of commands) area) begins.front_is (all_read first.front longest_area area commands (o.area.all.some.read o.told) closed)

  selections_on : AreOn (header_text base (host_at (bytes 0))) slots (files 0)
  selections_on = subst (λ (l : List ℕ). AreOn l slots (files 0)) (ap (λ (n : ℕ). take n (bytes 0)) o.is.selections_is ∙ spelled (bytes 0) o.has o.is.height_is) o.slots_on

  -- it is on the disk
  opened_on : IsOn store files
  opened_on = record {
    text = host_at (bytes 0);
    host = o.is.host_is;
    slots = subst (λ (b : Base). AreOn (header_text b (host_at (bytes 0))) slots (files 0))
        (sym (led_base first.index followed.index commands o.area.all.some.leads ∙ begins_base base (image_at area) first.index begins.is_index)) selections_on;
    image = image_at area;
    records = records_of commands;
    holds = record { is_area = is_area; length_is = size ∙ ap (λ (front : List ℕ). gate_behind front commands + 1) begins.front_is };
    settled_area = o.settled;
  }

  has_selected : HasSelected (bytes 0) slots.count
  has_selected = record {
    header = o.has;
    selections = subst (λ (n : ℕ). HasSelections (take n (bytes 0)) slots.count (bytes 0)) o.is.selections_is o.slots_on.has;
    few = o.few;
  }

  -- the files are in order
  no_bad : (at : ℕ) (other : Origin) → BeginsAt base area other → HasBadRecord other longest_area area at → ⊥
  no_bad at other other_begins bad =
      ended_well first longest_area area commands (o.area.all.some.read o.told) (led_taken first.index followed.index commands o.area.all.some.leads) closed at
      (bad_behind base area other first at other_begins begins bad)

  opened_undamaged : (file at : ℕ) → IsDamaged bytes file at → ⊥
  opened_undamaged = undamaged bytes slots.count (record { has = has_selected; no_bad_image = λ at bad. begun_not_bad base area first at begins bad; no_bad_record = no_bad })

  -- the commands were followed, of a disk that tells its files
  told_followed : IsFollowed true base area (record { index = followed.index; length = followed.length })
  told_followed = record {
    first = first;
    begins = begins;
    all = record {
      some = record {
        commands = commands;
        leads = o.area.all.some.leads;
        reached_is = o.area.all.some.reached_is;
        read = λ told. o.area.all.some.read o.told;
      };
      shut = λ told. o.area.all.shut o.told;
    };
  }

  -- of a run state that they stand for
  module _ (run : RunState) (stands : Stands bytes run) where
    count_is : slots.count ≡ run.selections
    count_is = one_count (bytes 0) slots.count run.selections has_selected (standing_selected bytes run stands)

    begins_run : BeginsAt base (bytes (selected_by run.selections)) first
    begins_run = subst (λ (n : ℕ). BeginsAt base (bytes (selected_by n)) first) count_is begins

    commands_are : commands ≡ run.since
    commands_are =
        let both = area_unique area (image_at area) run.text (records_of commands) (records_of run.since)
        (record { fits = omega (arith, begins.front.short, length-take (image_length_at area) (drop 8 area)); area = is_area })
        (record { fits = omega (arith, short_text run stands.is_state); area = subst (λ (n : ℕ). IsArea run.text (records_of run.since) (bytes (selected_by n))) (sym count_is) stands.area }) in
        commands_told commands run.since both.1

    stands_so : StandsFor store run
    stands_so = record {
      index = subst (λ (l : List Command). chains.StandsFor followed.index (after_commands (saved_chain run) l)) commands_are
          (led_stands first.index (saved_chain run) (standing_first bytes run stands first begins_run (λ index. chains.StandsFor index (saved_chain run)) (saved_stands run stands.is_state))
          followed.index commands o.area.all.some.leads);
      host = subst (λ (l : List ℕ). IsHostOf l header.host) (standing_host bytes run stands) o.is.host_is;
      selections = count_is;
      area = o.area.all.some.reached_is ∙ (λ i. grown_by (commands_are i) (length (standing_front bytes run stands first begins_run i) + 1)) ∙ ap (grown_by run.since) (omega (arith, front_size run.text));
      is_state = stands.is_state;
    }

  -- the store was opened over files that read alike before
  pub opened_store_is : IsOpened bytes files store
  opened_store_is = record {
    on_disk = opened_on;
    initialised = o.has.initialised;
    undamaged = opened_undamaged;
    selected = has_selected;
    followed = told_followed;
    follows = stands_so;
  }

-- ---- the selected area

-- its image was not read
pub image_unread : (tells : Bool) (base : Base) (file : ℕ) (area : List ℕ) (fault : ReadFault) → ReadAnswer base area (Err fault) → AreaAnswer tells base file area (Err (of_image file fault))
image_unread tells on file l (read_faults.Damaged at) is = (refl, inl is)
image_unread tells on file l read_faults.DiskFault is = tt
image_unread tells on file l read_faults.NoMemory is = tt

-- its image was read, and then its commands in a file that is the same still
module _ (tells : Bool) (told : IsTrue tells) (base : Base) (file : ℕ) (area mid : List ℕ) (same : mid ≡ area) (index : Indexed) (gate : ℕ) (r : IsReadFrom base area index gate) where
  abbrev origin : Origin
  origin = record { front = image_front (image_at area); index = index }

  origin_begins : BeginsAt base area origin
  origin_begins = record { front = r.front; front_is = refl; is_index = r.is_index }

  pub front_stands : IsFrontOf (image_front (image_at area)) mid
  front_stands = subst (IsFrontOf (image_front (image_at area))) (sym same) (record {
    begins = ap (λ (n : ℕ). take n area) (sym r.gate_is) ∙ r.begins;
    inside = subst (λ (n : ℕ). n < length area) r.gate_is r.inside;
  })

  pub area_followed : (followed : Followed) → FollowedAnswer tells longest_area origin mid (Ok followed) → IsFollowed tells base area followed
  area_followed followed is = record { first = origin; begins = origin_begins; all = followed_all_same tells longest_area origin mid area (λ told. same) followed.index followed.length is }

  pub area_unfollowed : (fault : JournalFault) → FollowedAnswer tells longest_area origin mid (Err fault) → AreaAnswer tells base file area (Err (of_journal file fault))
  area_unfollowed (journal_faults.Damaged at) is = (
    refl,
    inr (record { first = origin; begins = origin_begins; bad = subst (λ (l : List ℕ). HasBadRecord origin longest_area l at) same (is told) }),
  )
  area_unfollowed journal_faults.DiskFault is = tt
  area_unfollowed journal_faults.NoMemory is = tt

-- ---- damage behind a header that is in order

-- of the header
pub header_bad : (old : Bytes) (new : Files) (fault : OpenFault) → HeaderAnswer (old 0) (Err fault) → OpenAnswer old new (Err fault)
header_bad old new faults.Uninitialised is = is
header_bad old new (faults.Damaged number at) is = damage.field is.0 is.1 is.2
header_bad old new faults.DiskFault is = tt
header_bad old new faults.NoMemory is = tt

-- of the selections
pub slots_bad : (old : Bytes) (new : Files) (header : Header) (fault : SlotFault) → HasHeader (old 0) → IsHeaderOf (old 0) header → FaultAnswer header.selections most_selections (old 0) fault
    → OpenAnswer old new (Err (of_slots fault))
slots_bad old new header (slot_faults.Damaged at) has is bad = damage.selection refl has (subst (λ (n : ℕ). slot_damage.IsDamaged n most_selections (old 0) at) is.selections_is bad)
slots_bad old new header slot_faults.DiskFault has is bad = tt
slots_bad old new header slot_faults.NoMemory has is bad = tt

-- of the selected area
pub area_bad : (tells : Bool) (old : Bytes) (new : Files) (count : ℕ) (fault : OpenFault) → HasSelected (old 0) count
    → AreaAnswer tells (base_at (old 0)) (selected_by count) (old (selected_by count)) (Err fault) → OpenAnswer old new (Err fault)
area_bad tells old new count faults.Uninitialised has is = absurd is
area_bad tells old new count (faults.Damaged number at) has is = elim is.1 [
  | inl bad ↦ damage.image count has is.0 (subst (λ (f : ℕ). HasBadImage (base_at (old 0)) (old f) at) (sym is.0) bad)
  | inr bad ↦ damage.command count has is.0 bad.first (subst (λ (f : ℕ). BeginsAt (base_at (old 0)) (old f) bad.first) (sym is.0) bad.begins)
      (subst (λ (f : ℕ). HasBadRecord bad.first longest_area (old f) at) (sym is.0) bad.bad)
]
area_bad tells old new count faults.DiskFault has is = tt
area_bad tells old new count faults.NoMemory has is = tt

-- ---- files that were read alike before

pub opened_before : (old mid : Bytes) (new : Files) (result : Result Stored OpenFault) → ((file : ℕ) → file < 3 → mid file ≡ old file) → OpenAnswer mid new result → OpenAnswer old new result
opened_before old mid new (Ok store) alike is = record {
  on_disk = is.on_disk;
  initialised = subst IsInitialised (alike 0 (omega arith)) is.initialised;
  undamaged = λ file at bad. is.undamaged file at (damage_moved old mid alike file at bad);
  selected = subst (λ (l : List ℕ). HasSelected l store.slots.count) (alike 0 (omega arith)) is.selected;
  followed = subst (λ (l : List ℕ). IsFollowed true (base_at (old 0)) l (record { index = store.index; length = store.area })) (alike (area_file store) (omega arith))
      (subst (λ (l : List ℕ). IsFollowed true (base_at l) (mid (area_file store)) (record { index = store.index; length = store.area })) (alike 0 (omega arith)) is.followed);
  follows = λ run stands. is.follows run (stands_moved old mid alike run stands);
}
opened_before old mid new (Err faults.Uninitialised) alike is = λ has. is (subst IsInitialised (sym (alike 0 (omega arith))) has)
opened_before old mid new (Err (faults.Damaged file at)) alike is = damage_moved mid old (λ number low. sym (alike number low)) file at is
opened_before old mid new (Err faults.DiskFault) alike is = tt
opened_before old mid new (Err faults.NoMemory) alike is = tt
