-- The whole text of an image is read again.
use Rattle.std.proofs.Common.{◌≡◌, ℕ, ◌<◌, ◌^◌, List, [], ◌∷◌, ◌++◌, length, map, refl, sym, ap, subst, ◌∙◌, append_assoc, append-nil, arith}
use Rattle.std.proofs.lemmas.List.{length-map}
use Rattle.std.specs.Prelude.{Option, None, Ok}
use Rattle.std.specs.Int.{w32, to_le_bytes}
use Rattle.std.specs.List.{flat_map, AllByRecursion}
use Rattle.std.specs.List.Sorted.{IsStrictlySortedBy}
use Rattle.std.specs.Cmp.Lexicographic.{slice_cmp}
use Rattle.std.specs.Ordering.{nat_cmp}
use Rattle.block_grammar.specs.Combinators.{◌>>=◌}
use Rattle.nmc_base.specs.declared.chain_ends.Base.{Base}
use Rattle.nmc_base.specs.declared.chain_ends.Profile.{Profile}
use Rattle.nmc_base.specs.declared.chain_ends.Profile.TheVariants.{Regtest, Main}
use Rattle.undo_records.specs.declared.version.Version.{Version}
use Rattle.undo_records.specs.declared.version.Version.TheVariants.{One, Two}
use Rattle.undo_records.specs.Text.{held_text, undo_text}
use Rattle.undo_records.specs.Versions.{told}
use Rattle.undo_records.proofs.FieldLaws.{piece_core, core32}
use Rattle.image_grammar.specs.Answers.{IsWhole}
use Rattle.image_grammar.specs.Image.{Image, History, HasText, names_of, history_told, image_told}
use Rattle.image_grammar.specs.Text.{magic, version_byte, profile_byte, history_text, image_text}
use Rattle.image_grammar.specs.Reading.{Head, version_from, profile_from, head_from}
use Rattle.image_grammar.specs.Resuming.{Answer}
use Rattle.image_grammar.specs.Stages.{Gathered, nothing_of, with_entry, coins_then, names_then, undos_then, opening_from, image_from}
use Rattle.image_grammar.proofs.AgainLaws.{IsRecordIn, IsHistoryIn, NamesAscend, names_ascend, entries, entries_fit, none_before, coins_again, names_again, undos_again}
use Rattle.image_grammar.proofs.FoldLaws.{AllFit}
use Rattle.image_grammar.proofs.GatheredLaws.{before_coins, before_names, gathered_of, coins_gathered, undos_name, holds_image}
use Rattle.image_grammar.proofs.VersionLaws.{image_told_text, records_in, histories_in}

-- ---- the head

version_again : (version : Version) (rest : List ℕ) → version_from (version_byte version ∷ rest) ≡ Ok (version, rest)
version_again One rest = refl
version_again Two rest = refl

profile_again : (profile : Profile) (rest : List ℕ) → profile_from (profile_byte profile ∷ rest) ≡ Ok (profile, rest)
profile_again Regtest rest = refl
profile_again Main rest = refl

-- the text of a head, and what is behind it
abbrev pub head_before : Version → Base → List ℕ → List ℕ
head_before version base rest = magic ++ (version_byte version ∷ profile_byte base.profile ∷ (to_le_bytes w32 base.height ++ (base.hash.0 ++ rest)))

pub head_again : (version : Version) (base : Base) (rest : List ℕ) → base.height < 2 ^ 32 → length base.hash.0 ≡ 32 → head_from (head_before version base rest) ≡ Ok ((version, base), rest)
head_again version base rest low len =
    let hash : List ℕ = base.hash.0 ++ rest in
    let height : List ℕ = to_le_bytes w32 base.height ++ hash in
    rw (
      (piece_core 4).again magic (version_byte version ∷ profile_byte base.profile ∷ height) refl,
      version_again version (profile_byte base.profile ∷ height),
      profile_again base.profile height,
      core32.again base.height hash low,
      (piece_core 32).again base.hash.0 rest len,
    ) refl

opening_again : (version : Version) (base : Base) (n : ℕ) (rest : List ℕ) → base.height < 2 ^ 32 → length base.hash.0 ≡ 32 → n < 2 ^ 32
    → opening_from (head_before version base (to_le_bytes w32 n ++ rest)) ≡ Ok (((version, base), n), rest)
opening_again version base n rest low len few = rw (head_again version base (to_le_bytes w32 n ++ rest) low len, core32.again n rest few) refl

-- ---- the whole

-- an image that the version tells whole
pub record IsImageIn (version : Version) (image : Image) : Type 0 where
  pub height : image.base.height < 2 ^ 32
  pub hash : length image.base.hash.0 ≡ 32
  pub undo_count : length image.undos < 2 ^ 32
  pub undos : AllByRecursion (IsRecordIn version) image.undos
  pub coin_count : length image.coins < 2 ^ 32
  pub coins : AllFit with_entry entries.Fits (before_coins image) image.coins
  pub name_count : length image.names < 2 ^ 32
  pub names : AllByRecursion (IsHistoryIn version) image.names
  pub names_up : NamesAscend None image.names

pub lists_apart : (LU U LC C LN N : List ℕ) → (LU ++ U) ++ ((LC ++ C) ++ (LN ++ N)) ≡ LU ++ (U ++ (LC ++ (C ++ (LN ++ (N ++ [])))))
lists_apart LU U LC C LN N =
    append_assoc LU U ((LC ++ C) ++ (LN ++ N))
    ∙ ap (λ (t : List ℕ). LU ++ (U ++ t)) (append_assoc LC C (LN ++ N) ∙ ap (λ (t : List ℕ). LC ++ (C ++ (LN ++ t))) (sym (append-nil N)))

pub image_again : (version : Version) (image : Image) → IsImageIn version image → image_from (image_text version image) ≡ Ok (gathered_of image, [])
image_again version image fit =
    let U : List ℕ = flat_map (undo_text version) image.undos in
    let C : List ℕ = flat_map held_text image.coins in
    let N : List ℕ = flat_map (history_text version) image.names in
    let LU : List ℕ = to_le_bytes w32 (length image.undos) in
    let LC : List ℕ = to_le_bytes w32 (length image.coins) in
    let LN : List ℕ = to_le_bytes w32 (length image.names) in
    let H : List ℕ = to_le_bytes w32 image.base.height in
    let R : List ℕ = (LU ++ U) ++ ((LC ++ C) ++ (LN ++ N)) in
    let up : NamesAscend (before_names image).name image.names =
    subst (λ (last : Option (List ℕ)). NamesAscend last image.names) (sym (ap (λ (g : Gathered). g.name) (coins_gathered (before_coins image) image.coins) ∙ undos_name (nothing_of image.base) image.undos)) fit.names_up in
    ap (λ (t : List ℕ). image_from (magic ++ (version_byte version ∷ profile_byte image.base.profile ∷ t)))
    (append_assoc H image.base.hash.0 R ∙ ap (λ (t : List ℕ). H ++ (image.base.hash.0 ++ t)) (lists_apart LU U LC C LN N))
    ∙ ap (λ (r : Answer (Head × ℕ)). r >>= λ x. undos_then x.0.0.0 x.0.1 (nothing_of x.0.0.1) x.1)
    (opening_again version image.base (length image.undos) (U ++ (LC ++ (C ++ (LN ++ (N ++ []))))) fit.height fit.hash fit.undo_count)
    ∙ undos_again version (nothing_of image.base) image.undos (LC ++ (C ++ (LN ++ (N ++ [])))) fit.undos
    ∙ ap (λ (r : Answer ℕ). r >>= λ x. coins_then version x.0 (before_coins image) x.1) (core32.again (length image.coins) (C ++ (LN ++ (N ++ []))) fit.coin_count)
    ∙ coins_again version (before_coins image) image.coins (LN ++ (N ++ [])) fit.coins
    ∙ ap (λ (r : Answer ℕ). r >>= λ x. names_then version x.0 (before_names image) x.1) (core32.again (length image.names) (N ++ []) fit.name_count)
    ∙ names_again version (before_names image) image.names [] fit.names up

-- ---- what a version tells

names_told : (version : Version) (hs : List History) → names_of (map (history_told version) hs) ≡ names_of hs
names_told version [] = refl
names_told version (h ∷ hs) = ap (λ (ns : List (List ℕ)). h.name ∷ ns) (names_told version hs)

told_sorted : (version : Version) (image : Image) → HasText image → IsStrictlySortedBy (slice_cmp nat_cmp) (names_of (image_told version image).names)
told_sorted version image has = subst (λ (ns : List (List ℕ)). IsStrictlySortedBy (slice_cmp nat_cmp) ns) (sym (names_told version image.names)) has.names_sorted

told_in : (version : Version) (image : Image) → HasText image → IsImageIn version (image_told version image)
told_in version image has = record {
  height = has.height;
  hash = has.hash;
  undo_count = omega (arith, has.undo_count, length-map image.undos (told version));
  undos = records_in version image.undos has.undos;
  coin_count = has.coin_count;
  coins = entries_fit (before_coins (image_told version image)) image.coins has.coins has.coins_sorted (none_before image.coins);
  name_count = omega (arith, has.name_count, length-map image.names (history_told version));
  names = histories_in version image.names has.names;
  names_up = names_ascend (map (history_told version) image.names) (told_sorted version image has);
}

pub text_again : (version : Version) (image : Image) → HasText image → IsWhole (image_told version image) (image_from (image_text version image))
text_again version image has =
    subst (IsWhole (image_told version image)) (sym (ap image_from (sym (image_told_text version image)) ∙ image_again version (image_told version image) (told_in version image has)))
    (holds_image (image_told version image) has.coins_sorted (told_sorted version image has), refl)
