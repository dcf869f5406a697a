-- The index of parts that were loaded, and that with which an area begins.
use Rattle.std.proofs.Common.{◌≡◌, ◌≢◌, inl, inr, ℕ, ◌+◌, ◌<◌, ◌^◌, List, [], ◌∷◌, length, map, reverse, refl, sym, ◌∙◌, ap, subst, arith}
use Rattle.std.specs.Prelude.{Result, Ok, Err, IfOk, IfErr}
use Rattle.std.proofs.lemmas.List.{length-map, length-reverse}
use Rattle.nmc_base.specs.declared.chain_ends.Base.{Base}
use Rattle.chain_names.specs.Seen.{seen_undo}
use Rattle.chain_names.specs.Undo.{UndoRecord}
use Rattle.name_tables.specs.Parts.{newest_first}
use Rattle.name_tables.specs.declared.parts.Parts.{Parts}
use Rattle.image_grammar.specs.Image.{Image}
use Rattle.state_image.specs.Answers.{IsImageOfParts, AreSoundParts, IsLoaded, IsImageAnswer}
use Rattle.state_image.specs.declared.fault.ImageFault.{ImageFault}
use Rattle.state_image.specs.declared.fault.ImageFault.TheVariants as image
use Rattle.chain_state.specs.Chain.{Indexed, IsAtBase, indexed_of, kept_tip, newest_hash}
use Rattle.image_files.specs.declared.fault.ReadFault.{ReadFault}
use Rattle.image_files.specs.declared.fault.ReadFault.TheVariants.{Damaged, DiskFault, NoMemory}
use Rattle.image_files.specs.Faults.{of_image}
use Rattle.image_files.specs.Fronts.{HasLength, image_at, behind_length}
use Rattle.image_files.specs.Indexes.{IsIndexBy, IsIndexOf, BeginsWith, IsDamagedAt, IsOfAnotherBase, no_front, damaged, other_base}
use Rattle.image_files.specs.Reading.{LengthAnswer, FedAnswer, IsChainOn, IndexAnswer, BeginAnswer, IsReadFrom, ReadAnswer}
use Rattle.image_files.proofs.FrontLemmas.{image_is, lies_inside, image_size, front_begins}

-- ---- of parts

undo_count : (image : Image) (parts : Parts) → newest_first parts.undos.items ≡ reverse image.undos → length parts.undos.items ≡ length image.undos
undo_count image parts same =
    sym (length-map parts.undos.items seen_undo) ∙ sym (length-reverse (map seen_undo parts.undos.items)) ∙ ap (λ (l : List UndoRecord). length l) same ∙ length-reverse image.undos

index_by : (image : Image) (base : Base) (parts : Parts) → IsImageOfParts image base parts → AreSoundParts base parts → IsIndexBy base image (indexed_of base (kept_tip base parts) parts)
index_by image base parts is are = record {
  base_is = refl;
  height = ap (λ (n : ℕ). base.height + n) (undo_count image parts is.undos_are);
  hash = ap (λ (l : List UndoRecord). newest_hash base l) is.undos_are;
  maps = is.maps_are;
  queue = are.queue;
  undos = is.undos_are;
  filled = are.filled;
}

pub loaded_index : (base : Base) (text : List ℕ) (read : Base) (parts : Parts) (result : Result Indexed ReadFault) → IsLoaded text read parts → IsChainOn read parts base result → IndexAnswer base text result
loaded_index base text read parts (Ok index) is on = record {
  version = is.version;
  image = is.image;
  is_text = is.is_text;
  on_base = sym is.is_image.base_is ∙ on.0;
  is_index = subst (λ (b : Base). IsIndexBy b is.image index) on.0 (subst (λ (i : Indexed). IsIndexBy read is.image i) (sym on.1) (index_by is.image read parts is.is_image is.parts_are));
}
loaded_index base text read parts (Err (Damaged at)) is on =
    inr (record { version = is.version; image = is.image; is_text = is.is_text; other = λ same. on.0 (is.is_image.base_is ∙ same); at_is = on.1 })
loaded_index base text read parts (Err DiskFault) is on = tt
loaded_index base text read parts (Err NoMemory) is on = tt

pub no_disk_fault : (base : Base) (read : Base) (parts : Parts) (result : Result Indexed ReadFault) → IsChainOn read parts base result → result ≡ Err DiskFault → ⊥
no_disk_fault base read parts (Ok index) on same = cc
no_disk_fault base read parts (Err (Damaged at)) on same = cc
no_disk_fault base read parts (Err DiskFault) on same = on
no_disk_fault base read parts (Err NoMemory) on same = cc

-- ---- of a loader

pub ended_fault : (base : Base) (text : List ℕ) (fault : ImageFault) → IsImageAnswer text (Err fault) → IndexAnswer base text (Err (of_image fault))
ended_fault base text (image.Damaged at) bad = inl (record { place = at; damaged = bad; at_is = refl })
ended_fault base text image.NoMemory none = tt

pub not_of_disk : (fault : ImageFault) → of_image fault ≡ DiskFault → ⊥
not_of_disk (image.Damaged at) same = cc
not_of_disk image.NoMemory same = cc

pub fed_fault_index : (T : Type 0) (base : Base) (text : List ℕ) (fault : ReadFault) → FedAnswer text {T = T} (Err fault) → IndexAnswer base text (Err fault)
fed_fault_index T base text (Damaged at) bad = inl bad
fed_fault_index T base text DiskFault none = tt
fed_fault_index T base text NoMemory none = tt

pub of_some_text : (base : Base) (text : List ℕ) (result : Result Indexed ReadFault) → IndexAnswer base text result → IfOk result (λ index. (text : List ℕ) × IsIndexOf base text index)
of_some_text base text (Ok index) is = (text, is)
of_some_text base text (Err fault) is = tt

-- ---- of an area

-- a text isn't empty
pub begins_text : (base : Base) (text : List ℕ) (index : Indexed) → IsIndexOf base text index → BeginsWith base text index
begins_text base [] index is = absurd (let none = is.is_text.text_is in cc)
begins_text base (byte ∷ text) index is = is

some_image : (file : List ℕ) (image : ℕ) → HasLength file image → 0 < image → image_at file ≢ []
some_image file image has some none = omega (arith, some, image_size file image has, ap (λ (l : List ℕ). length l) none)

module _ (base : Base) (file : List ℕ) (image : ℕ) (has : HasLength file image) where
  pub begins_loaded : (result : Result Indexed ReadFault) → 0 < image → IndexAnswer base (behind_length image file) result → BeginAnswer base file result
  begins_loaded (Ok index) some is = begins_text base (image_at file) index (subst (λ (text : List ℕ). IsIndexOf base text index) (image_is file image has) is)
  begins_loaded (Err (Damaged at)) some (inl bad) = damaged has.front (some_image file image has some) (subst (λ (text : List ℕ). IsDamagedAt text at) (image_is file image has) bad)
  begins_loaded (Err (Damaged at)) some (inr other) = other_base has.front (some_image file image has some) (subst (λ (text : List ℕ). IsOfAnotherBase base text at) (image_is file image has) other)
  begins_loaded (Err DiskFault) some is = tt
  begins_loaded (Err NoMemory) some is = tt

  pub begins_at_base : (result : Result Indexed ReadFault) → image ≡ 0 → IfOk result (λ index. IsAtBase base index) → IfErr result (λ fault. fault ≡ NoMemory) → BeginAnswer base file result
  begins_at_base (Ok index) none at memory =
      subst (λ (text : List ℕ). BeginsWith base text index) (ap (λ (k : ℕ). behind_length k file) (sym none) ∙ image_is file image has) at
  begins_at_base (Err fault) none at memory = subst (λ (f : ReadFault). BeginAnswer base file (Err f)) (sym memory) tt

pub at_base_some : (base : Base) (result : Result Indexed ReadFault) → IfOk result (λ index. IsAtBase base index) → IfOk result (λ index. (text : List ℕ) × BeginsWith base text index)
at_base_some base (Ok index) at = ([], at)
at_base_some base (Err fault) at = tt

pub loaded_some : (base : Base) (result : Result Indexed ReadFault) → IfOk result (λ index. (text : List ℕ) × IsIndexOf base text index) → IfOk result (λ index. (text : List ℕ) × BeginsWith base text index)
loaded_some base (Ok index) is = (is.0, begins_text base is.0 index is.1)
loaded_some base (Err fault) is = tt

pub memory_not_disk : (result : Result Indexed ReadFault) → IfErr result (λ fault. fault ≡ NoMemory) → result ≡ Err DiskFault → ⊥
memory_not_disk (Ok index) memory same = cc
memory_not_disk (Err fault) memory same = cc

-- ---- the whole

pub read_from : (base : Base) (file : List ℕ) (image : ℕ) (index : Indexed) → HasLength file image → BeginsWith base (image_at file) index → IsReadFrom base file index (8 + image)
read_from base file image index has is = record {
  front = has.front;
  begins = front_begins file image has;
  gate_is = omega (arith, image_size file image has);
  inside = omega (arith, lies_inside file image has);
  is_index = is;
}

pub begin_fault : (base : Base) (file : List ℕ) (fault : ReadFault) → BeginAnswer base file (Err fault) → ReadAnswer base file (Err fault)
begin_fault base file (Damaged at) bad = bad
begin_fault base file DiskFault none = tt
begin_fault base file NoMemory none = tt

pub length_fault : (base : Base) (file : List ℕ) (fault : ReadFault) → LengthAnswer (2 ^ 37) file (Err fault) → ReadAnswer base file (Err fault)
length_fault base file (Damaged at) bad = no_front bad.0 bad.1
length_fault base file DiskFault none = tt
length_fault base file NoMemory none = tt
