-- Reading an image value by value. Between two values the reading may stop: a stage says what is left.
use Rattle.std.specs.Prelude.{ℕ, zero, suc, List, [], ◌∷◌, ◌++◌, Option, Some, None, Ok, Err}
use Rattle.std.specs.Int.{w32}
use Rattle.std.specs.Str.{bytes_eq}
use Rattle.block_grammar.specs.Combinators.{◌>>=◌, then_from, map_from}
use Rattle.nmc_base.specs.declared.chain_ends.Base.{Base}
use Rattle.nmc_base.specs.declared.hashes.OutPoint.{OutPoint}
use Rattle.chain_names.specs.declared.coin.HeldCoin.{HeldCoin}
use Rattle.chain_names.specs.declared.coin.Item.{Item}
use Rattle.chain_names.specs.declared.undo.UndoOp.{UndoOp}
use Rattle.chain_names.specs.Coins.{Maps}
use Rattle.chain_names.specs.Points.{same_point, changed}
use Rattle.chain_names.specs.Undo.{UndoRecord}
use Rattle.undo_records.specs.declared.fault.FaultKind.TheVariants.{BadTag}
use Rattle.undo_records.specs.declared.version.Version.{Version}
use Rattle.undo_records.specs.Reading.{Reads, number_from, op_from, item_from, held_from}
use Rattle.image_grammar.specs.Reading.{Head, head_from, entry_from, history_head_from, undo_head_from}
use Rattle.image_grammar.specs.Resuming.{fold_then}

-- ---- what was gathered

pub record Gathered : Type 0 where
  pub base : Base
  -- whole records, the newest first; and the one that is being read
  pub undos : List UndoRecord
  pub undo : UndoRecord
  -- the last outpoint of the list of coins that is being read, and the last name
  pub last : Option OutPoint
  pub name : Option (List ℕ)
  pub maps : Maps

abbrev pub nothing_of : Base → Gathered
nothing_of base = record {
  base = base;
  undos = [];
  undo = record { block = base.hash; ops = []; expired = [] };
  last = None;
  name = None;
  maps = record { coins = λ point. None; names = λ name. [] };
}

abbrev pub begun : Gathered → List ℕ → Gathered
begun g hash = record g { undo = record { block = record { 0 = hash }; ops = []; expired = [] }; last = None }

abbrev pub with_op : Gathered → UndoOp → Gathered
with_op g op = record g { undo = record g.undo { ops = g.undo.ops ++ op ∷ [] } }

abbrev pub with_expired : Gathered → HeldCoin → Gathered
with_expired g held = record g { undo = record g.undo { expired = g.undo.expired ++ held ∷ [] }; last = Some held.at }

abbrev pub closed : Gathered → Gathered
closed g = record g { undos = g.undo ∷ g.undos }

-- before the list of coins
abbrev pub without_last : Gathered → Gathered
without_last g = record g { last = None }

abbrev pub with_entry : Gathered → HeldCoin → Gathered
with_entry g held = record g { maps = record g.maps { coins = changed same_point g.maps.coins held.at (Some held.coin) }; last = Some held.at }

abbrev pub named : Gathered → List ℕ → Gathered
named g name = record g { name = Some name }

abbrev pub item_added : (List ℕ → List Item) → Option (List ℕ) → Item → List ℕ → List Item
item_added names None item = names
item_added names (Some name) item = changed bytes_eq names name (names name ++ item ∷ [])

abbrev pub with_item : Gathered → Item → Gathered
with_item g item = record g { maps = record g.maps { names = item_added g.maps.names g.name item } }

-- ---- the stages, the last first

-- a byte behind the last name is a fault
abbrev pub end_from : Gathered → Reads Gathered
end_from g [] = Ok (g, [])
end_from g (first ∷ rest) = Err (BadTag, first ∷ rest)

module _ (version : Version) where
  -- so many items of the name, and so many names behind it
  abbrev pub items_then : ℕ → Gathered → (Gathered → Reads Gathered) → Reads Gathered
  items_then left g after = fold_then (λ _. item_from version) with_item left g after

  abbrev pub names_then : ℕ → Gathered → Reads Gathered
  names_then zero g = end_from g
  names_then (suc n) g = λ bytes. history_head_from g.name bytes >>= λ x. items_then x.0.1 (named g x.0.0) (names_then n) x.1

  abbrev pub name_count_then : Gathered → Reads Gathered
  name_count_then g bytes = number_from w32 bytes >>= λ x. names_then x.0 g x.1

  abbrev pub coins_then : ℕ → Gathered → Reads Gathered
  coins_then left g = fold_then (λ g. entry_from g.last) with_entry left g name_count_then

  abbrev pub coin_count_then : Gathered → Reads Gathered
  coin_count_then g bytes = number_from w32 bytes >>= λ x. coins_then x.0 (without_last g) x.1

  abbrev pub expired_then : ℕ → Gathered → (Gathered → Reads Gathered) → Reads Gathered
  expired_then left g after = fold_then (λ g. held_from g.last) with_expired left g (λ g. after (closed g))

  abbrev pub expired_count_then : Gathered → (Gathered → Reads Gathered) → Reads Gathered
  expired_count_then g after bytes = number_from w32 bytes >>= λ x. expired_then x.0 g after x.1

  abbrev pub ops_then : ℕ → Gathered → (Gathered → Reads Gathered) → Reads Gathered
  ops_then left g after = fold_then (λ _. op_from version) with_op left g (λ g. expired_count_then g after)

  abbrev pub undos_then : ℕ → Gathered → Reads Gathered
  undos_then zero g = coin_count_then g
  undos_then (suc n) g = λ bytes. undo_head_from bytes >>= λ x. ops_then x.0.1 (begun g x.0.0) (undos_then n) x.1

-- the head, and the number of records
abbrev pub opening_from : Reads (Head × ℕ)
opening_from = then_from head_from (λ _. number_from w32)

-- The whole image. The version byte decides which items are read.
abbrev pub image_from : Reads Gathered
image_from bytes = opening_from bytes >>= λ x. undos_then x.0.0.0 x.0.1 (nothing_of x.0.0.1) x.1

-- ---- where a reading stands

pub data Stage : Type 0 where
  head : Stage
  in_undos : (undos : ℕ) → Stage
  in_ops : (ops undos : ℕ) → Stage
  at_expired : (undos : ℕ) → Stage
  in_expired : (expired undos : ℕ) → Stage
  at_coins : Stage
  in_coins : (coins : ℕ) → Stage
  at_names : Stage
  in_names : (names : ℕ) → Stage
  in_items : (items names : ℕ) → Stage

-- the version is known behind the head
pub record Standing : Type 0 where
  pub version : Version
  pub stage : Stage
  pub gathered : Gathered

abbrev pub stands : Version → Stage → Gathered → Standing
stands version stage g = record { version = version; stage = stage; gathered = g }

-- what is left to be read from there on
abbrev pub rest_at : Version → Stage → Gathered → Reads Gathered
rest_at version head g = image_from
rest_at version (in_undos undos) g = undos_then version undos g
rest_at version (in_ops ops undos) g = ops_then version ops g (undos_then version undos)
rest_at version (at_expired undos) g = expired_count_then version g (undos_then version undos)
rest_at version (in_expired expired undos) g = expired_then version expired g (undos_then version undos)
rest_at version at_coins g = coin_count_then version g
rest_at version (in_coins coins) g = coins_then version coins g
rest_at version at_names g = name_count_then version g
rest_at version (in_names names) g = names_then version names g
rest_at version (in_items items names) g = items_then version items g (names_then version names)

abbrev pub rest_from : Standing → Reads Gathered
rest_from s = rest_at s.version s.stage s.gathered

-- ---- one step: the next value, and where the reading stands behind it

abbrev pub passes_to : Standing → Reads Standing
passes_to s bytes = Ok (s, bytes)

-- Where no value is left in a list, the step reads none. Behind the last name it does nothing.
abbrev pub step_at : Version → Stage → Gathered → Reads Standing
step_at version head g = map_from (λ x. stands x.0.0 (in_undos x.1) (nothing_of x.0.1)) opening_from
step_at version (in_undos zero) g = passes_to (stands version at_coins g)
step_at version (in_undos (suc n)) g = map_from (λ x. stands version (in_ops x.1 n) (begun g x.0)) undo_head_from
step_at version (in_ops zero undos) g = passes_to (stands version (at_expired undos) g)
step_at version (in_ops (suc n) undos) g = map_from (λ op. stands version (in_ops n undos) (with_op g op)) (op_from version)
step_at version (at_expired undos) g = map_from (λ n. stands version (in_expired n undos) g) (number_from w32)
step_at version (in_expired zero undos) g = passes_to (stands version (in_undos undos) (closed g))
step_at version (in_expired (suc n) undos) g = map_from (λ held. stands version (in_expired n undos) (with_expired g held)) (held_from g.last)
step_at version at_coins g = map_from (λ n. stands version (in_coins n) (without_last g)) (number_from w32)
step_at version (in_coins zero) g = passes_to (stands version at_names g)
step_at version (in_coins (suc n)) g = map_from (λ held. stands version (in_coins n) (with_entry g held)) (entry_from g.last)
step_at version at_names g = map_from (λ n. stands version (in_names n) g) (number_from w32)
step_at version (in_names zero) g = passes_to (stands version (in_names zero) g)
step_at version (in_names (suc n)) g = map_from (λ x. stands version (in_items x.1 n) (named g x.0)) (history_head_from g.name)
step_at version (in_items zero names) g = passes_to (stands version (in_names names) g)
step_at version (in_items (suc n) names) g = map_from (λ item. stands version (in_items n names) (with_item g item)) (item_from version)

abbrev pub step_from : Standing → Reads Standing
step_from s = step_at s.version s.stage s.gathered

-- one step, and then the rest
abbrev pub step_then : Standing → Reads Gathered
step_then s bytes = step_from s bytes >>= λ x. rest_from x.0 x.1
