-- Bytes are the text of one image at most, as a version tells it.
use Rattle.std.proofs.Common.{◌≡◌, ℕ, ◌<◌, ◌^◌, List, [], ◌∷◌, ◌++◌, length, map, refl, sym, ap, ◌∙◌, append_assoc, append-nil, arith}
use Rattle.std.specs.Prelude.{Ok, None, slice_index}
use Rattle.std.specs.Int.{w32, to_le_bytes}
use Rattle.std.specs.List.{flat_map, AllByRecursion}
use Rattle.block_grammar.proofs.ReaderLaws.{ok_is}
use Rattle.nmc_base.specs.declared.chain_ends.Base.{Base}
use Rattle.chain_names.specs.declared.coin.HeldCoin.{HeldCoin}
use Rattle.chain_names.specs.declared.coin.Item.{Item}
use Rattle.chain_names.specs.Undo.{UndoRecord}
use Rattle.chain_names.specs.Writable.{IsWritableName, IsWritableItem, IsWritable}
use Rattle.undo_records.specs.declared.version.Version.{Version}
use Rattle.undo_records.specs.declared.version.Version.TheVariants.{One, Two}
use Rattle.undo_records.specs.Reading.{Reads, number_from, name_from, item_from}
use Rattle.undo_records.specs.Text.{name_text, held_text, item_text, undo_text}
use Rattle.undo_records.specs.Versions.{told}
use Rattle.undo_records.proofs.FieldLaws.{core32, name_core}
use Rattle.undo_records.proofs.PartLaws.{item_core}
use Rattle.undo_records.proofs.ToldLaws.{one_record}
use Rattle.image_grammar.specs.Image.{Image, History, IsWritableEntry, IsWritableHistory, HasText, item_told, history_told, image_told}
use Rattle.image_grammar.specs.Reading.{Head, entry_from, head_from}
use Rattle.image_grammar.specs.Text.{magic, version_byte, profile_byte, counted_text, head_text, history_text, image_text}
use Rattle.image_grammar.proofs.AgainLaws.{entry_again}
use Rattle.image_grammar.proofs.VersionLaws.{item_told_text, item_in}
use Rattle.image_grammar.proofs.WholeLaws.{head_again}

-- Values with a text. Two whose texts stand at the front of the same bytes are told as one.
record Told (A B : Type 0) : Type 1 where
  text : A → List ℕ
  Fits : A → Type 0
  tell : A → B
  one : (x y : A) (r s : List ℕ) → Fits x → Fits y → text x ++ r ≡ text y ++ s → (tell x ≡ tell y) × (r ≡ s)

-- values of which what is told is read again, whatever follows their text
record ReadAgain (A B : Type 0) : Type 1 where
  text : A → List ℕ
  Fits : A → Type 0
  tell : A → B
  read : Reads B
  again : (x : A) (rest : List ℕ) → Fits x → read (text x ++ rest) ≡ Ok (tell x, rest)

module _ {A B : Type 0} (v : ReadAgain A B) where
  read_one : (x y : A) (r s : List ℕ) → v.Fits x → v.Fits y → v.text x ++ r ≡ v.text y ++ s → (v.tell x ≡ v.tell y) × (r ≡ s)
  read_one x y r s fx fy e =
      let same : (v.tell x, r) ≡ (v.tell y, s) = ok_is (v.tell x, r) (v.tell y, s) (sym (v.again x r fx) ∙ ap v.read e ∙ v.again y s fy) in
      (ap (λ (z : B × List ℕ). z.0) same, ap (λ (z : B × List ℕ). z.1) same)

  abbrev read_told : Told A B
  read_told = record { text = v.text; Fits = v.Fits; tell = v.tell; one = read_one }

-- ---- lists

abbrev numbers : Told ℕ ℕ
numbers = read_told (record { text = to_le_bytes w32; Fits = λ n. n < 2 ^ 32; tell = λ n. n; read = number_from w32; again = core32.again })

module _ {A B : Type 0} (t : Told A B) where
  all_one : (xs ys : List A) (r s : List ℕ) → length xs ≡ length ys → AllByRecursion t.Fits xs → AllByRecursion t.Fits ys → flat_map t.text xs ++ r ≡ flat_map t.text ys ++ s
      → (map t.tell xs ≡ map t.tell ys) × (r ≡ s)
  all_one [] [] r s count fx fy e = (refl, e)
  all_one [] (y ∷ ys) r s count fx fy e = absurd (omega (arith, count))
  all_one (x ∷ xs) [] r s count fx fy e = absurd (omega (arith, count))
  all_one (x ∷ xs) (y ∷ ys) r s count fx fy e =
      let first = t.one x y (flat_map t.text xs ++ r) (flat_map t.text ys ++ s) fx.0 fy.0 (sym (append_assoc (t.text x) (flat_map t.text xs) r) ∙ e ∙ append_assoc (t.text y) (flat_map t.text ys) s) in
      let rest = all_one xs ys r s (omega (arith, count)) fx.1 fy.1 first.1 in
      ((λ i. first.0 i ∷ rest.0 i), rest.1)

  abbrev FitAll : List A → Type 0
  FitAll xs = (length xs < 2 ^ 32) × AllByRecursion t.Fits xs

  counted_one : (xs ys : List A) (r s : List ℕ) → FitAll xs → FitAll ys → counted_text t.text xs ++ r ≡ counted_text t.text ys ++ s → (map t.tell xs ≡ map t.tell ys) × (r ≡ s)
  counted_one xs ys r s fx fy e =
      let count = numbers.one (length xs) (length ys) (flat_map t.text xs ++ r) (flat_map t.text ys ++ s) fx.0 fy.0
      (sym (append_assoc (to_le_bytes w32 (length xs)) (flat_map t.text xs) r) ∙ e ∙ append_assoc (to_le_bytes w32 (length ys)) (flat_map t.text ys) s) in
      all_one xs ys r s count.0 fx.1 fy.1 count.1

map_itself : {A : Type 0} (xs : List A) → map (λ x. x) xs ≡ xs
map_itself [] = refl
map_itself (x ∷ xs) = ap (λ ys. x ∷ ys) (map_itself xs)

-- ---- coins and names

abbrev helds : Told HeldCoin HeldCoin
helds = read_told (record { text = held_text; Fits = IsWritableEntry; tell = λ held. held; read = entry_from None; again = λ held rest fits. entry_again None held rest fits refl })

abbrev plain_names : Told (List ℕ) (List ℕ)
plain_names = read_told (record { text = name_text; Fits = IsWritableName; tell = λ name. name; read = name_from; again = name_core.again })

module _ (version : Version) where
  item_again : (item : Item) (rest : List ℕ) → IsWritableItem item → item_from version (item_text version item ++ rest) ≡ Ok (item_told version item, rest)
  item_again item rest fits = ap (λ (l : List ℕ). item_from version (l ++ rest)) (sym (item_told_text version item)) ∙ (item_core version).again (item_told version item) rest (item_in version item fits)

  abbrev items : Told Item Item
  items = read_told (record { text = item_text version; Fits = IsWritableItem; tell = item_told version; read = item_from version; again = item_again })

  history_one : (x y : History) (r s : List ℕ) → IsWritableHistory x → IsWritableHistory y → history_text version x ++ r ≡ history_text version y ++ s
      → (history_told version x ≡ history_told version y) × (r ≡ s)
  history_one x y r s fx fy e =
      let own : List ℕ = counted_text (item_text version) x.items in
      let others : List ℕ = counted_text (item_text version) y.items in
      let name = plain_names.one x.name y.name (own ++ r) (others ++ s) fx.name fy.name (sym (append_assoc (name_text x.name) own r) ∙ e ∙ append_assoc (name_text y.name) others s) in
      let rest = counted_one items x.items y.items r s (fx.count, fx.items) (fy.count, fy.items) name.1 in
      ((λ i. record { name = name.0 i; items = rest.0 i }), rest.1)

  abbrev histories : Told History History
  histories = record { text = history_text version; Fits = IsWritableHistory; tell = history_told version; one = history_one }

  abbrev records : Told UndoRecord UndoRecord
  records = record { text = undo_text version; Fits = IsWritable; tell = told version; one = one_record version }

  -- ---- the head

  abbrev HasShortBase : Base → Type 0
  HasShortBase base = (base.height < 2 ^ 32) × (length base.hash.0 ≡ 32)

  abbrev headed : Base → Head
  headed base = (version, base)

  base_again : (base : Base) (rest : List ℕ) → HasShortBase base → head_from (head_text version base ++ rest) ≡ Ok (headed base, rest)
  base_again base rest fits =
      ap (λ (t : List ℕ). head_from (magic ++ (version_byte version ∷ profile_byte base.profile ∷ t))) (append_assoc (to_le_bytes w32 base.height) base.hash.0 rest)
      ∙ head_again version base rest fits.0 fits.1

  abbrev bases : Told Base Head
  bases = read_told (record { text = head_text version; Fits = HasShortBase; tell = headed; read = head_from; again = base_again })

  -- ---- the whole

  pub image_one : (image other : Image) → HasText image → HasText other → image_text version image ≡ image_text version other → image_told version image ≡ image_told version other
  image_one image other has has' e =
      let names : List ℕ = counted_text (history_text version) image.names in
      let names' : List ℕ = counted_text (history_text version) other.names in
      let coins : List ℕ = counted_text held_text image.coins ++ names in
      let coins' : List ℕ = counted_text held_text other.coins ++ names' in
      let undos : List ℕ = counted_text (undo_text version) image.undos ++ coins in
      let undos' : List ℕ = counted_text (undo_text version) other.undos ++ coins' in
      let base = bases.one image.base other.base undos undos' (has.height, has.hash) (has'.height, has'.hash) e in
      let us = counted_one records image.undos other.undos coins coins' (has.undo_count, has.undos) (has'.undo_count, has'.undos) base.1 in
      let cs = counted_one helds image.coins other.coins names names' (has.coin_count, has.coins) (has'.coin_count, has'.coins) us.1 in
      let ns = counted_one histories image.names other.names [] [] (has.name_count, has.names) (has'.name_count, has'.names) (append-nil names ∙ cs.1 ∙ sym (append-nil names')) in
      let same_base : image.base ≡ other.base = ap (λ (h : Head). h.1) base.0 in
      let same_coins : image.coins ≡ other.coins = sym (map_itself image.coins) ∙ cs.0 ∙ map_itself other.coins in
      λ i. record { base = same_base i; undos = us.0 i; coins = same_coins i; names = ns.0 i }

-- ---- versions

bytes_one : (version other : Version) → version_byte version ≡ version_byte other → version ≡ other
bytes_one One One e = refl
bytes_one One Two e = absurd (omega (arith, e))
bytes_one Two One e = absurd (omega (arith, e))
bytes_one Two Two e = refl

pub version_one : (version other_version : Version) (image other : Image) → image_text version image ≡ image_text other_version other → version ≡ other_version
version_one version other_version image other e = bytes_one version other_version (ap (λ (l : List ℕ). slice_index l 4) e)
