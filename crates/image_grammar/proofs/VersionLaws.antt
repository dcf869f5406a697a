-- What a text of a version tells of an image has the same text, and that tells it whole.
use Rattle.std.proofs.Common.{◌≡◌, ◌≢◌, ℕ, List, [], ◌∷◌, ◌++◌, map, Option, Some, None, refl, ap, ◌∙◌, arith}
use Rattle.std.proofs.lemmas.List.{length-map}
use Rattle.std.specs.List.{flat_map, AllByRecursion}
use Rattle.chain_names.specs.declared.coin.Item.{Item}
use Rattle.chain_names.specs.declared.undo.UndoOp.{UndoOp}
use Rattle.chain_names.specs.declared.undo.UndoOp.TheVariants.{New, First, Update}
use Rattle.chain_names.specs.Undo.{UndoRecord}
use Rattle.chain_names.specs.Writable.{IsWritableItem, IsWritableBefore, IsWritableOp, IsWritable}
use Rattle.undo_records.specs.declared.version.Version.{Version}
use Rattle.undo_records.specs.declared.version.Version.TheVariants.{One, Two}
use Rattle.undo_records.specs.Text.{name_text, held_text, item_text, undo_text}
use Rattle.undo_records.specs.Versions.{op_without, told, IsItemIn, IsOpIn, IsToldBefore, IsToldOp}
use Rattle.undo_records.proofs.ToldLaws.{item_without_text, ops_without_text, item_fits, ops_fit, told_fits}
use Rattle.image_grammar.specs.Image.{Image, History, IsWritableHistory, item_told, history_told, image_told}
use Rattle.image_grammar.specs.Text.{counted_text, head_text, history_text, image_text}
use Rattle.image_grammar.proofs.AgainLaws.{IsRecordIn, IsHistoryIn}

-- ---- texts

-- values behind their number, each seen as one with the same text
counted_same : {A : Type 0} (text : A → List ℕ) (f : A → A) → ((x : A) → text (f x) ≡ text x) → (xs : List A) → counted_text text (map f xs) ≡ counted_text text xs
counted_same {A = A} text f same xs = rw (length-map xs f, all xs) refl
  where
    all : (xs : List A) → flat_map text (map f xs) ≡ flat_map text xs
    all [] = refl
    all (x ∷ xs) = ap (λ (l : List ℕ). l ++ flat_map text (map f xs)) (same x) ∙ ap (λ (l : List ℕ). text x ++ l) (all xs)

pub item_told_text : (version : Version) (item : Item) → item_text version (item_told version item) ≡ item_text version item
item_told_text One item = item_without_text item
item_told_text Two item = refl

history_told_text : (version : Version) (h : History) → history_text version (history_told version h) ≡ history_text version h
history_told_text version h = ap (λ (l : List ℕ). name_text h.name ++ l) (counted_same (item_text version) (item_told version) (item_told_text version) h.items)

undo_told_text : (version : Version) (u : UndoRecord) → undo_text version (told version u) ≡ undo_text version u
unfolding undo_text
undo_told_text One u = rw (ops_without_text u.ops, length-map u.ops op_without) refl
undo_told_text Two u = refl

pub image_told_text : (version : Version) (image : Image) → image_text version (image_told version image) ≡ image_text version image
image_told_text version image =
    ap (λ (l : List ℕ). head_text version image.base ++ (l ++ (counted_text held_text image.coins ++ counted_text (history_text version) (map (history_told version) image.names))))
    (counted_same (undo_text version) (told version) (undo_told_text version) image.undos)
    ∙ ap (λ (l : List ℕ). head_text version image.base ++ (counted_text (undo_text version) image.undos ++ (counted_text held_text image.coins ++ l)))
    (counted_same (history_text version) (history_told version) (history_told_text version) image.names)

-- ---- and each part is told whole

two_before : (before : Option Item) → IsWritableBefore before → IsToldBefore Two before
two_before None fits = tt
two_before (Some item) fits = fits.registered

two_op : (op : UndoOp) → IsWritableOp op → IsToldOp Two op
two_op (New made) fits = tt
two_op (First made spent coin name before) fits = two_before before fits.before
two_op (Update made spent coin name before) fits = two_before before fits.before

two_ops : (ops : List UndoOp) → AllByRecursion IsWritableOp ops → AllByRecursion (IsOpIn Two) ops
two_ops [] fits = tt
two_ops (op ∷ ops) fits = ((fits.0, two_op op fits.0), two_ops ops fits.1)

record_in : (version : Version) (u : UndoRecord) → IsWritable u → IsRecordIn version (told version u)
record_in One u fits = record { writable = (told_fits One u fits).0; ops = ops_fit u.ops fits.fits.ops }
record_in Two u fits = record { writable = fits; ops = two_ops u.ops fits.fits.ops }

pub records_in : (version : Version) (us : List UndoRecord) → AllByRecursion IsWritable us → AllByRecursion (IsRecordIn version) (map (told version) us)
records_in version [] fits = tt
records_in version (u ∷ us) fits = (record_in version u fits.0, records_in version us fits.1)

pub item_in : (version : Version) (item : Item) → IsWritableItem item → IsItemIn version (item_told version item)
item_in One item fits = item_fits item fits
item_in Two item fits = (fits, fits.registered)

items_in : (version : Version) (items : List Item) → AllByRecursion IsWritableItem items → AllByRecursion (IsItemIn version) (map (item_told version) items)
items_in version [] fits = tt
items_in version (item ∷ items) fits = (item_in version item fits.0, items_in version items fits.1)

still_some : {A : Type 0} (f : A → A) (xs : List A) → xs ≢ [] → map f xs ≢ []
still_some f [] some e = some refl
still_some f (x ∷ xs) some e = absurd cc

history_in : (version : Version) (h : History) → IsWritableHistory h → IsHistoryIn version (history_told version h)
history_in version h fits = record {
  name = fits.name;
  some = still_some (item_told version) h.items fits.some;
  count = omega (arith, fits.count, length-map h.items (item_told version));
  items = items_in version h.items fits.items;
}

pub histories_in : (version : Version) (hs : List History) → AllByRecursion IsWritableHistory hs → AllByRecursion (IsHistoryIn version) (map (history_told version) hs)
histories_in version [] fits = tt
histories_in version (h ∷ hs) fits = (history_in version h fits.0, histories_in version hs fits.1)
