-- An area begins with one index, or has one place of damage.
use Rattle.std.proofs.Common.{◌≡◌, ◌≢◌, ℕ, ◌+◌, ◌≤◌, ◌^◌, List, [], ◌∷◌, ◌++◌, length, take, drop, refl, sym, ◌∙◌, ap, subst, arith, length-append, reverse}
use Rattle.std.specs.Int.{w64, to_le_bytes, from_le_bytes}
use Rattle.std.proofs.lemmas.List.{take_at, drop_at, take-take, drop-take}
use Rattle.std.proofs.lemmas.Nat.{from_le_bytes-to_le_bytes_8}
use Rattle.nmc_base.specs.declared.chain_ends.Base.{Base}
use Rattle.nmc_base.specs.declared.chain_ends.Tip.{Tip}
use Rattle.chain_names.specs.Coins.{Maps}
use Rattle.chain_names.specs.Tables.{queue_of}
use Rattle.chain_names.specs.Undo.{UndoRecord}
use Rattle.undo_records.specs.declared.version.Version.{Version}
use Rattle.gate_journal.specs.Records.{IsArea, image_front, records_text}
use Rattle.gate_journal.proofs.RecordLemmas.{begins_with}
use Rattle.image_grammar.specs.Image.{Image}
use Rattle.image_grammar.specs.Text.{image_text}
use Rattle.state_image.specs.Answers.{IsSoundText}
use Rattle.chain_state.specs.Chain.{Indexed, IsAtBase, SameIndex, newest_hash}
use Rattle.image_files.specs.Fronts.{LiesInside, HasFront, image_length_at, image_at}
use Rattle.image_files.specs.Indexes.{IsIndexBy, IsIndexOf, BeginsWith, HasBadImage, no_front, damaged, other_base}
use Rattle.image_files.specs.SavedTexts.{IsSavedText}
use Rattle.image_files.proofs.StateLaws.{SameState, one_state, saved_sound}

-- ---- one place of damage

pub one_place : (base : Base) (file : List ℕ) (at other : ℕ) → HasBadImage base file at → HasBadImage base file other → at ≡ other
one_place base file at other (no_front here none) (no_front there none_too) = here ∙ sym there
one_place base file at other (no_front here none) (damaged front some bad) = absurd (none front)
one_place base file at other (no_front here none) (other_base front some bad) = absurd (none front)
one_place base file at other (damaged front some bad) (no_front there none) = absurd (none front)
one_place base file at other (damaged front some bad) (damaged front_too some_too bad_too) = omega (arith, bad.at_is, bad_too.at_is, bad.damaged.at_is, bad_too.damaged.at_is)
one_place base file at other (damaged front some bad) (other_base front_too some_too is) = absurd (bad.damaged.none is.version is.image is.is_text)
one_place base file at other (other_base front some is) (no_front there none) = absurd (none front)
one_place base file at other (other_base front some is) (damaged front_too some_too bad) = absurd (bad.damaged.none is.version is.image is.is_text)
one_place base file at other (other_base front some is) (other_base front_too some_too is_too) = is.at_is ∙ sym is_too.at_is

-- the text of a sound state on this base is no damage
pub none_bad : (base : Base) (file text : List ℕ) (at : ℕ) (version : Version) (image : Image) → HasFront file → image_at file ≡ text → IsSoundText text version image → image.base ≡ base → HasBadImage base file at → ⊥
none_bad base file text at version image front begins is on (no_front here none) = none front
none_bad base file text at version image front begins is on (damaged front_too some bad) = bad.damaged.none version image (subst (λ (l : List ℕ). IsSoundText l version image) (sym begins) is)
none_bad base file text at version image front begins is on (other_base front_too some other) =
    other.other (sym (one_state text version other.version image other.image is (subst (λ (l : List ℕ). IsSoundText l other.version other.image) begins other.is_text)).base_same ∙ on)

-- a text isn't empty
text_some : (text : List ℕ) (version : Version) (image : Image) → IsSoundText text version image → text ≢ []
text_some text version image is none = let same : image_text version image ≡ [] = sym is.text_is ∙ none in cc

begun_text : (base : Base) (text : List ℕ) (index : Indexed) → text ≢ [] → BeginsWith base text index → IsIndexOf base text index
begun_text base [] index some is = absurd (some refl)
begun_text base (byte ∷ text) index some is = is

pub none_begun : (base : Base) (file : List ℕ) (index : Indexed) (at : ℕ) → HasFront file → BeginsWith base (image_at file) index → HasBadImage base file at → ⊥
none_begun base file index at front begins bad = by bad
  where
    begun : image_at file ≢ [] → HasBadImage base file at → ⊥
    begun some bad =
        let is = begun_text base (image_at file) index some begins in none_bad base file (image_at file) at is.version is.image front refl is.is_text is.on_base bad

    by : HasBadImage base file at → ⊥
    by (no_front here none) = none front
    by (damaged front_too some is) = begun some (damaged front_too some is)
    by (other_base front_too some is) = begun some (other_base front_too some is)

-- ---- one index

same_tip : (a b : Tip) → a.height ≡ b.height → a.hash ≡ b.hash → a ≡ b
same_tip a b height hash = λ i. record { height = height i; hash = hash i }

at_base_alike : (base : Base) (a b : Indexed) → IsAtBase base a → IsAtBase base b → SameIndex a b
at_base_alike base a b is also =
    let maps = is.maps ∙ sym also.maps in
    record {
      base = is.base_is ∙ sym also.base_is;
      tip = same_tip a.tip b.tip (is.height ∙ sym also.height) (is.hash ∙ sym also.hash);
      maps = maps;
      queue = is.queue ∙ ap (λ (m : Maps). queue_of m.coins) maps ∙ sym also.queue;
      undos = is.undos ∙ sym also.undos;
    }

-- of the same state
pub index_of_same : (base : Base) (image other : Image) (index : Indexed) → SameState image other → IsIndexBy base image index → IsIndexBy base other index
index_of_same base image other index same is = record {
  base_is = is.base_is;
  height = is.height ∙ ap (λ (l : List UndoRecord). base.height + length l) same.undos_same;
  hash = is.hash ∙ ap (λ (l : List UndoRecord). newest_hash base (reverse l)) same.undos_same;
  maps = is.maps ∙ same.maps_same;
  queue = is.queue;
  undos = is.undos ∙ ap (λ (l : List UndoRecord). reverse l) same.undos_same;
  filled = is.filled;
}

alike : (base : Base) (image : Image) (a b : Indexed) → IsIndexBy base image a → IsIndexBy base image b → SameIndex a b
alike base image a b is also =
    let maps = is.maps ∙ sym also.maps in
    record {
      base = is.base_is ∙ sym also.base_is;
      tip = same_tip a.tip b.tip (is.height ∙ sym also.height) (is.hash ∙ sym also.hash);
      maps = maps;
      queue = is.queue ∙ ap (λ (m : Maps). queue_of m.coins) maps ∙ sym also.queue;
      undos = is.undos ∙ sym also.undos;
    }

pub one_index : (base : Base) (text : List ℕ) (a b : Indexed) → BeginsWith base text a → BeginsWith base text b → SameIndex a b
one_index base [] a b is also = at_base_alike base a b is also
one_index base (byte ∷ text) a b is also =
    alike base also.image a b (index_of_same base is.image also.image a (one_state (byte ∷ text) is.version also.version is.image also.image is.is_text also.is_text) is.is_index) also.is_index

-- ---- a saved state

module _ (version : Version) (base : Base) (undos : List UndoRecord) (maps : Maps) (text : List ℕ) where
  pub saved_undamaged : (file : List ℕ) (at : ℕ) → IsSavedText version base undos maps text → HasFront file → image_at file ≡ text → HasBadImage base file at → ⊥
  saved_undamaged file at saved front begins bad =
      none_bad base file text at version saved.is_text.image front begins (saved_sound version base undos maps text saved) saved.is_text.image_is.base_is bad

  pub saved_index : (index : Indexed) (saved : IsSavedText version base undos maps text) → BeginsWith base text index → IsIndexBy base saved.is_text.image index
  saved_index index saved begins =
      let sound = saved_sound version base undos maps text saved in
      let is = begun_text base text index (text_some text version saved.is_text.image sound) begins in
      index_of_same base is.image saved.is_text.image index (one_state text is.version version is.image saved.is_text.image is.is_text sound) is.is_index

-- ---- the text of an area

module _ (image : List ℕ) (records : List (List ℕ)) (file : List ℕ) (short : length image ≤ 2 ^ 37) (is : IsArea image records file) where
  abbrev size : List ℕ
  size = to_le_bytes w64 (length image)

  begins : take (8 + length image) file ≡ size ++ image
  begins =
      ap (λ (k : ℕ). take k file) (sym (length-append size image)) ∙ begins_with (image_front image) (records_text records) file is.closed

  size_at : take 8 file ≡ size
  size_at = sym (take-take 8 (8 + length image) file (omega arith)) ∙ ap (λ (l : List ℕ). take 8 l) begins ∙ take_at size image 8 refl

  length_at : image_length_at file ≡ length image
  length_at = ap (λ (l : List ℕ). from_le_bytes w64 l) size_at ∙ from_le_bytes-to_le_bytes_8 (length image) (omega (arith, short))

  pub area_front : HasFront file
  area_front =
      let long : 9 + length image ≤ length file = omega (arith, is.closed.inside, length-append (image_front image) (records_text records)) in
      subst (λ (k : ℕ). LiesInside (2 ^ 37) k (length file)) (sym length_at) (record { long = omega (arith, long); short = short; inside = long })

  pub area_image : image_at file ≡ image
  area_image =
      ap (λ (k : ℕ). take k (drop 8 file)) length_at ∙ sym (drop-take 8 (length image) file) ∙ ap (λ (l : List ℕ). drop 8 l) begins ∙ drop_at size image 8 refl
