-- The index of a chain: what its log says of coins and names, and which refusal a block's transactions have.
use Rattle.std.specs.Prelude.{ℕ, suc, ◌+◌, List, [], ◌∷◌, length, Option, Some, None, if◌then◌else◌}
use Rattle.block_grammar.specs.Transaction.{Transaction}
use Rattle.nmc_base.specs.declared.chain_ends.Profile.{Profile}
use Rattle.nmc_base.specs.Expiry.{is_expired}
use Rattle.chain_names.specs.declared.coin.Item.{Item}
use Rattle.chain_names.specs.Log.{Log, touches, log_of}
use Rattle.chain_names.specs.Coins.{Maps, maps_of, entry_of}
use Rattle.chain_names.specs.Verdict.{verdict}
use Rattle.chain_names.specs.Changes.{Refused, refused_or}

-- The first refusal of the transactions of a block at a height, from an index on. The log is that up to the transaction
-- before: it is searched anew for each.
abbrev pub refused_in : Profile → ℕ → ℕ → List Transaction → Log → Option Refused
refused_in profile height index [] log = None
refused_in profile height index (t ∷ ts) log =
    refused_or index (verdict profile (maps_of profile log height) height t) (refused_in profile height (suc index) ts (touches height t log))

-- the height after the blocks on a base of this height, in which the next block stands
abbrev pub next_height : ℕ → List (List ℕ) → ℕ
next_height base blocks = suc (base + length blocks)

-- the coins that the next block may spend, and the histories
abbrev pub index_maps : Profile → Log → ℕ → List (List ℕ) → Maps
index_maps profile start base blocks = maps_of profile (log_of start base blocks) (next_height base blocks)

abbrev pub value_of : Option Item → Option (List ℕ)
value_of None = None
value_of (Some item) = Some item.value

abbrev pub served_item : Profile → ℕ → Option Item → Option Item
served_item profile tip None = None
served_item profile tip (Some item) = if is_expired profile item.height tip then None else Some item

-- the served value of a name at a tip: that of its entry, while it isn't expired
abbrev pub served_value : Profile → (List ℕ → List Item) → ℕ → List ℕ → Option (List ℕ)
served_value profile names tip name = value_of (served_item profile tip (entry_of (names name)))
