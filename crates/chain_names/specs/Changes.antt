-- What a transaction and a block do to the maps, and what takes it back.
use Rattle.std.specs.Prelude.{ℕ, suc, List, [], ◌∷◌, ◌++◌, length, take, ◌-◌, Option, Some, None, if◌then◌else◌}
use Rattle.std.specs.Str.{bytes_eq}
use Rattle.block_grammar.specs.Transaction.{Transaction, txid_of}
use Rattle.nmc_base.specs.declared.hashes.OutPoint.{OutPoint}
use Rattle.nmc_base.specs.declared.chain_ends.Profile.{Profile}
use Rattle.chain_names.specs.declared.coin.Coin.{Coin}
use Rattle.chain_names.specs.declared.coin.Coin.TheVariants.{New, Named}
use Rattle.chain_names.specs.declared.coin.HeldCoin.{HeldCoin}
use Rattle.chain_names.specs.declared.coin.Item.{Item}
use Rattle.chain_names.specs.declared.undo.UndoOp.{UndoOp}
use Rattle.chain_names.specs.declared.undo.UndoOp.TheVariants.{New as undo_new, First as undo_first, Update as undo_update}
use Rattle.chain_names.specs.declared.refusal.RuleRefusal.{RuleRefusal}
use Rattle.chain_names.specs.Points.{same_point, point_at, changed}
use Rattle.chain_names.specs.Coins.{Maps, entry_of, opened, updated, with_value, unless_expired}
use Rattle.chain_names.specs.Tables.{is_named_at}
use Rattle.chain_names.specs.Verdict.{Verdict, plain, commits, opens, updates, refused, verdict}

-- ---- one operation

-- a name moves from the outpoint spent to that of its new value
abbrev pub moved : Maps → OutPoint → List ℕ → Item → Maps
moved maps spent name item = record {
  coins = changed same_point (changed same_point maps.coins spent None) item.at (Some (Named name item.height));
  names = with_value maps.names name item;
}

-- the maps after a transaction with this verdict
abbrev pub after_verdict : Maps → ℕ → List ℕ → Verdict → Maps
after_verdict maps height txid plain = maps
after_verdict maps height txid (commits hash place) =
    record { coins = changed same_point maps.coins (point_at txid place) (Some (New (record { 0 = hash }) height)); names = maps.names }
after_verdict maps height txid (opens name value place spent) = moved maps spent name (opened height (point_at txid place) value)
after_verdict maps height txid (updates name value place spent) = moved maps spent name (updated (entry_of (maps.names name)) height (point_at txid place) value)
after_verdict maps height txid (refused refusal) = maps

abbrev pub with_spent : (Coin → UndoOp) → Option Coin → List UndoOp
with_spent undo None = []
with_spent undo (Some coin) = undo coin ∷ []

-- what undoes it: the maps are those before it
abbrev pub undo_of_verdict : Maps → List ℕ → Verdict → List UndoOp
undo_of_verdict maps txid plain = []
undo_of_verdict maps txid (commits hash place) = undo_new (point_at txid place) ∷ []
undo_of_verdict maps txid (opens name value place spent) =
    with_spent (λ coin. undo_first (point_at txid place) spent coin name (entry_of (maps.names name))) (maps.coins spent)
undo_of_verdict maps txid (updates name value place spent) =
    with_spent (λ coin. undo_update (point_at txid place) spent coin name (entry_of (maps.names name))) (maps.coins spent)
undo_of_verdict maps txid (refused refusal) = []

-- a history without its last value
abbrev pub without_entry : List Item → List Item
without_entry items = take (length items - 1) items

abbrev pub moved_back : Maps → OutPoint → OutPoint → Coin → List ℕ → Maps
moved_back maps point spent coin name = record {
  coins = changed same_point (changed same_point maps.coins point None) spent (Some coin);
  names = changed bytes_eq maps.names name (without_entry (maps.names name));
}

-- the maps before an operation, of those after it
abbrev pub back_op : UndoOp → Maps → Maps
back_op (undo_new point) maps = record { coins = changed same_point maps.coins point None; names = maps.names }
back_op (undo_first point spent coin name before) maps = moved_back maps point spent coin name
back_op (undo_update point spent coin name before) maps = moved_back maps point spent coin name

-- the operations are undone from the last to the first
abbrev pub back_ops : List UndoOp → Maps → Maps
back_ops [] maps = maps
back_ops (op ∷ ops) maps = back_op op (back_ops ops maps)

-- ---- the transactions of a block at a height

abbrev pub after_transaction : Profile → ℕ → Transaction → Maps → Maps
after_transaction profile height t maps = after_verdict maps height (txid_of t) (verdict profile maps height t)

abbrev pub after_all : Profile → ℕ → List Transaction → Maps → Maps
after_all profile height [] maps = maps
after_all profile height (t ∷ ts) maps = after_all profile height ts (after_transaction profile height t maps)

-- the undo operations of the transactions, in order
abbrev pub undo_ops : Profile → ℕ → List Transaction → Maps → List UndoOp
undo_ops profile height [] maps = []
undo_ops profile height (t ∷ ts) maps =
    undo_of_verdict maps (txid_of t) (verdict profile maps height t) ++ undo_ops profile height ts (after_transaction profile height t maps)

-- a refusal, and the index in its block of the transaction that has it; the coinbase has the index 0
abbrev pub Refused : Type 0
Refused = ℕ × RuleRefusal

abbrev pub refused_or : ℕ → Verdict → Option Refused → Option Refused
refused_or index plain later = later
refused_or index (commits hash place) later = later
refused_or index (opens name value place spent) later = later
refused_or index (updates name value place spent) later = later
refused_or index (refused refusal) later = Some (index, refusal)

-- the first refusal of the transactions from an index on, where each verdict before it changed the maps
abbrev pub first_refused : Profile → ℕ → ℕ → List Transaction → Maps → Option Refused
first_refused profile height index [] maps = None
first_refused profile height index (t ∷ ts) maps =
    refused_or index (verdict profile maps height t) (first_refused profile height (suc index) ts (after_transaction profile height t maps))

-- ---- expiry

-- the coins that are expired at a height are gone
abbrev pub without_expired : Profile → ℕ → Maps → Maps
without_expired profile height maps = record { coins = λ point. unless_expired profile height (maps.coins point); names = maps.names }

-- the maps after a block at a height: its transactions, and then the coins that are expired in the next block
abbrev pub after_block : Profile → ℕ → List Transaction → Maps → Maps
after_block profile height transactions maps = without_expired profile (suc height) (after_all profile height transactions maps)

-- the coins are back
abbrev pub restored : List HeldCoin → (OutPoint → Option Coin) → OutPoint → Option Coin
restored [] coins = coins
restored (held ∷ helds) coins = changed same_point (restored helds coins) held.at (Some held.coin)

-- the maps before a block, of those after it
abbrev pub undone : List UndoOp → List HeldCoin → Maps → Maps
undone ops expired maps = back_ops ops (record { coins = restored expired maps.coins; names = maps.names })

-- the coins without those of a row's outpoints that were given a value at the row's height
abbrev pub unless_named_at : ℕ → Option Coin → Option Coin
unless_named_at height coin = if is_named_at height coin then None else coin

abbrev pub cleared : ℕ → List OutPoint → (OutPoint → Option Coin) → OutPoint → Option Coin
cleared height [] coins = coins
cleared height (point ∷ points) coins = cleared height points (changed same_point coins point (unless_named_at height (coins point)))
