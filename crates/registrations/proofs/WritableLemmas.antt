-- What follows from items and records with a text has a text.
use Rattle.std.proofs.Common.{◌≡◌, ℕ, suc, ◌-◌, ◌<◌, ◌^◌, Bool, true, false, cond, List, [], ◌∷◌, ◌++◌, length, map, refl, sym, ap, subst, ◌∙◌}
use Rattle.std.specs.Prelude.{Option, Some, None}
use Rattle.std.specs.List.{AllByRecursion}
use Rattle.std.specs.Str.{bytes_eq}
use Rattle.nmc_base.proofs.ListLemmas.{all-more}
use Rattle.chain_names.specs.declared.coin.Coin.{Coin}
use Rattle.chain_names.specs.declared.coin.Item.{Item}
use Rattle.chain_names.specs.declared.undo.UndoOp.{UndoOp}
use Rattle.chain_names.specs.declared.undo.UndoOp.TheVariants.{New, First, Update}
use Rattle.chain_names.specs.Coins.{entry_of}
use Rattle.chain_names.specs.Points.{changed}
use Rattle.chain_names.specs.Undo.{UndoRecord}
use Rattle.chain_names.specs.Writable.{Change, change_of, IsWritableItem, IsWritableBefore, IsWritableChange, IsWritableOp, IsWritable}
use Rattle.chain_names.proofs.HistoryLemmas.{entry_has}
use Rattle.sound_states.proofs.HistoryLemmas.{all-take}
use Rattle.registrations.specs.declared.taking.Taken.{Taken}
use Rattle.registrations.specs.Told.{Histories}
use Rattle.registrations.specs.Taking.{name_of, last_at, names_before, before_all, taken}
use Rattle.registrations.specs.Filling.{since, begun, going_on, going_on_if, registered_in, registered_at, goes_on_with, op_with, with_last, with_made, with_all, ops_with, names_filled, undos_filled}
use Rattle.registrations.specs.Images.{AreWritable}

abbrev pub HaveText : Histories → Type 0
HaveText names = (name : List ℕ) → AllByRecursion IsWritableItem (names name)

abbrev IsSmall : Option ℕ → Type 0
IsSmall None = Unit {0}
IsSmall (Some registered) = registered < 2 ^ 32

-- ---- items

since_fits : (registered : ℕ) (item : Item) → registered < 2 ^ 32 → IsWritableItem item → IsWritableItem (since registered item)
since_fits registered item small fits = record { height = fits.height; registered = small; at = fits.at; value = fits.value }

going_fits : (registered : Option ℕ) (item : Option Item) → IsSmall registered → IsWritableBefore item → IsWritableBefore (going_on_if registered item)
going_fits registered None small fits = tt
going_fits None (Some item) small fits = since_fits item.height item fits.height fits
going_fits (Some registered) (Some item) small fits = since_fits registered item small fits

small_in : (item : Option Item) → IsWritableBefore item → IsSmall (registered_in item)
small_in None fits = tt
small_in (Some item) fits = fits.registered

goal_small : (op : UndoOp) (registered : Option ℕ) → IsSmall registered → IsSmall (goes_on_with op registered)
goal_small (New made) registered small = tt
goal_small (First made spent coin name before) registered small = tt
goal_small (Update made spent coin name before) registered small = small

-- ---- histories

entry_fits : (items : List Item) (last : Option Item) → entry_of items ≡ last → AllByRecursion IsWritableItem items → IsWritableBefore last
entry_fits items None e all = tt
entry_fits items (Some item) e all = entry_has IsWritableItem items item all e

last_fits : (name : Option (List ℕ)) (names : Histories) → HaveText names → IsWritableBefore (last_at name names)
last_fits None names all = tt
last_fits (Some name) names all = entry_fits (names name) (entry_of (names name)) refl (all name)

changed_fits : (names : Histories) (name : List ℕ) (items : List Item) → HaveText names → AllByRecursion IsWritableItem items → HaveText (changed bytes_eq names name items)
changed_fits names name items all here other = by (bytes_eq name other)
  where
    by : (b : Bool) → AllByRecursion IsWritableItem (cond b items (names other))
    by true = here
    by false = all other

before_fits : (name : Option (List ℕ)) (names : Histories) → HaveText names → HaveText (names_before name names)
before_fits None names all = all
before_fits (Some name) names all = changed_fits names name _ all (all-take IsWritableItem (length (names name) - 1) (names name) (all name))

with_last_fits : (name : Option (List ℕ)) (item : Option Item) (names : Histories) → HaveText names → IsWritableBefore item → HaveText (with_last name item names)
with_last_fits None item names all fits = all
with_last_fits (Some name) None names all fits = all
with_last_fits (Some name) (Some item) names all fits = changed_fits names name (names name ++ item ∷ []) all (all-more IsWritableItem (names name) item (all name) fits)

all_before_fits : (ops : List UndoOp) (names : Histories) → HaveText names → HaveText (before_all ops names)
all_before_fits [] names all = all
all_before_fits (op ∷ ops) names all = before_fits (name_of op) (before_all ops names) (all_before_fits ops names all)

-- ---- operations

abbrev TakenFits : Taken → Type 0
TakenFits t = IsWritableOp t.op × IsWritableBefore t.item

taken_fits : (ops : List UndoOp) (names : Histories) → HaveText names → AllByRecursion IsWritableOp ops → AllByRecursion TakenFits (taken ops names)
taken_fits [] names all fits = tt
taken_fits (op ∷ ops) names all fits = ((fits.0, last_fits (name_of op) (before_all ops names) (all_before_fits ops names all)), taken_fits ops names all fits.1)

made_fits : (t : Taken) (names : Histories) → TakenFits t → HaveText names → HaveText (with_made t names)
made_fits t names fits all =
    with_last_fits (name_of t.op) _ names all
    (going_fits (goes_on_with t.op (registered_at (name_of t.op) names)) t.item
    (goal_small t.op (registered_at (name_of t.op) names) (small_in (last_at (name_of t.op) names) (last_fits (name_of t.op) names all))) fits.1)

change_fits : (FitsCoin : Coin → Type 0) (c : Change) (before : Option Item) → IsWritableChange FitsCoin c → IsWritableBefore before
    → IsWritableChange FitsCoin (change_of c.made c.spent c.coin c.name before)
change_fits FitsCoin c before fits here = record { made = fits.made; spent = fits.spent; coin = fits.coin; name = fits.name; before = here }

op_fits : (op : UndoOp) (names : Histories) → IsWritableOp op → HaveText names → IsWritableOp (op_with op names)
op_fits (New made) names fits all = fits
op_fits (First made spent coin name before) names fits all =
    change_fits _ (change_of made spent coin name before) _ fits
    (going_fits (registered_at (Some name) names) before (small_in (last_at (Some name) names) (last_fits (Some name) names all)) fits.before)
op_fits (Update made spent coin name before) names fits all =
    change_fits _ (change_of made spent coin name before) _ fits
    (going_fits (registered_at (Some name) names) before (small_in (last_at (Some name) names) (last_fits (Some name) names all)) fits.before)

with_all_fits : (ts : List Taken) (names : Histories) → AllByRecursion TakenFits ts → HaveText names → HaveText (with_all ts names)
with_all_fits [] names fits all = all
with_all_fits (t ∷ ts) names fits all = with_all_fits ts (with_made t names) fits.1 (made_fits t names fits.0 all)

ops_fit : (ts : List Taken) (names : Histories) → AllByRecursion TakenFits ts → HaveText names → AllByRecursion IsWritableOp (ops_with ts names)
ops_fit [] names fits all = tt
ops_fit (t ∷ ts) names fits all = (op_fits t.op names fits.0.0 all, ops_fit ts (with_made t names) fits.1 (made_fits t names fits.0 all))

as_many : (ops : List UndoOp) (names filled : Histories) → length (ops_with (taken ops names) filled) ≡ length ops
as_many [] names filled = refl
as_many (op ∷ ops) names filled = ap suc (as_many ops names (with_made (record { op = op; item = last_at (name_of op) (before_all ops names) }) filled))

-- ---- records

begun_fits : (items : List Item) → AllByRecursion IsWritableItem items → AllByRecursion IsWritableItem (map begun items)
begun_fits [] all = tt
begun_fits (item ∷ items) all = (since_fits item.height item all.0.height all.0, begun_fits items all.1)

undo_fits : (u : UndoRecord) (names filled : Histories) → IsWritable u → HaveText names → HaveText filled
    → IsWritable (record { block = u.block; ops = ops_with (taken u.ops names) filled; expired = u.expired })
undo_fits u names filled fits all done = record {
  fits = record {
    block = fits.fits.block;
    op_count = subst (λ n. n < 2 ^ 32) (sym (as_many u.ops names filled)) fits.fits.op_count;
    ops = ops_fit (taken u.ops names) filled (taken_fits u.ops names all fits.fits.ops) done;
    expired_count = fits.fits.expired_count;
    expired = fits.fits.expired;
  };
  in_order = fits.in_order;
}

pub filled_writable : (us : List UndoRecord) (names : Histories) → AreWritable names us → AreWritable (names_filled us names) (undos_filled us names)
filled_writable [] names fits = record { items = λ name. begun_fits (names name) (fits.items name); undos = tt }
filled_writable (u ∷ us) names fits =
    let below = filled_writable us (before_all u.ops names) (record { items = all_before_fits u.ops names fits.items; undos = fits.undos.1 }) in
    record {
      items = with_all_fits (taken u.ops names) (names_filled us (before_all u.ops names)) (taken_fits u.ops names fits.items fits.undos.0.fits.ops) below.items;
      undos = (undo_fits u names (names_filled us (before_all u.ops names)) fits.undos.0 fits.items below.items, below.undos);
    }
