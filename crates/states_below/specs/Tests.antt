-- Whether operations fit, as tests.
use Rattle.std.specs.Prelude.{ℕ, Bool, true, false, ◌&&◌, ◌==◌, List, [], ◌∷◌, Option, Some, None}
use Rattle.std.specs.Option.{is_none}
use Rattle.std.specs.Str.{bytes_eq}
use Rattle.nmc_base.specs.declared.hashes.OutPoint.{OutPoint}
use Rattle.chain_names.specs.declared.coin.Coin.{Coin}
use Rattle.chain_names.specs.declared.coin.Coin.TheVariants.{New, Named}
use Rattle.chain_names.specs.declared.coin.Item.{Item}
use Rattle.chain_names.specs.declared.undo.UndoOp.{UndoOp}
use Rattle.chain_names.specs.declared.undo.UndoOp.TheVariants.{New as undo_new, First as undo_first, Update as undo_update}
use Rattle.chain_names.specs.Points.{same_point}
use Rattle.chain_names.specs.Coins.{Maps, entry_of}
use Rattle.chain_names.specs.Changes.{without_entry, back_ops}
use Rattle.chain_names.specs.Tables.{is_named_at}

-- a commitment of this height
abbrev pub is_new_at : ℕ → Option Coin → Bool
is_new_at tip None = false
is_new_at tip (Some (New hash height)) = height == tip
is_new_at tip (Some (Named name height)) = false

abbrev pub same_item : Item → Item → Bool
same_item a b = (a.height == b.height) && ((a.registered == b.registered) && (same_point a.at b.at && bytes_eq a.value b.value))

abbrev pub same_entry : Option Item → Option Item → Bool
same_entry None None = true
same_entry None (Some b) = false
same_entry (Some a) None = false
same_entry (Some a) (Some b) = same_item a b

abbrev pub is_item_at : ℕ → OutPoint → Option Item → Bool
is_item_at tip made None = false
is_item_at tip made (Some item) = (item.height == tip) && same_point item.at made

-- an item of this height and outpoint, whose registration began at this height
abbrev pub is_made_item : ℕ → ℕ → OutPoint → Option Item → Bool
is_made_item tip registered made None = false
is_made_item tip registered made (Some item) = (item.height == tip) && ((item.registered == registered) && same_point item.at made)

-- the last item is the one made, and the one before it is this
abbrev pub ends_so : ℕ → ℕ → OutPoint → Option Item → List Item → Bool
ends_so tip registered made before items = is_made_item tip registered made (entry_of items) && same_entry (entry_of (without_entry items)) before

abbrev pub fits_move : ℕ → ℕ → OutPoint → OutPoint → List ℕ → Option Item → Maps → Bool
fits_move tip registered made spent name before maps = is_named_at tip (maps.coins made) && (is_none (maps.coins spent) && ends_so tip registered made before (maps.names name))

-- an update has an item before, and goes on with its registration
abbrev pub fits_update : ℕ → OutPoint → OutPoint → List ℕ → Option Item → Maps → Bool
fits_update tip made spent name None maps = false
fits_update tip made spent name (Some before) maps = fits_move tip before.registered made spent name (Some before) maps

abbrev pub fits_op : ℕ → UndoOp → Maps → Bool
fits_op tip (undo_new made) maps = is_new_at tip (maps.coins made)
fits_op tip (undo_first made spent coin name before) maps = fits_move tip tip made spent name before maps
fits_op tip (undo_update made spent coin name before) maps = fits_update tip made spent name before maps

-- from the last to the first
abbrev pub fits_ops : ℕ → List UndoOp → Maps → Bool
fits_ops tip [] maps = true
fits_ops tip (op ∷ ops) maps = fits_ops tip ops maps && fits_op tip op (back_ops ops maps)
