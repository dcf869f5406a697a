-- The mirror of an index: made of its parts, with its newest block and without it.
use Rattle.std.proofs.Common.{◌≡◌, ℕ, ◌+◌, ◌-◌, ◌≤◌, arith, List, [], ◌∷◌, ◌++◌, length, map, reverse, take, drop, Some, None, refl, sym, ap, subst, ◌∙◌, length-append}
use Rattle.std.proofs.lemmas.List.{reverse-append, reverse-reverse}
use Rattle.std.specs.List.{AllByRecursion}
use Rattle.nmc_base.specs.Heights.{highest}
use Rattle.nmc_base.specs.declared.chain_ends.Base.{Base}
use Rattle.nmc_base.specs.declared.hashes.OutPoint.{OutPoint}
use Rattle.chain_names.proofs.IndexLemmas.{index_undone}
use Rattle.chain_names.proofs.OneRecordLemmas.{one_undo-chain}
use Rattle.chain_names.proofs.SoundLemmas.{sound_state}
use Rattle.chain_names.specs.Changes.{undone}
use Rattle.chain_names.specs.Coins.{Maps}
use Rattle.chain_names.specs.Limits.{IsWithinLimits}
use Rattle.chain_names.specs.Log.{Log}
use Rattle.chain_names.specs.Seen.{seen_undo}
use Rattle.chain_names.specs.State.{FitsItem, IsState, IsUpTo}
use Rattle.chain_names.specs.Tables.{coins_in, names_in}
use Rattle.chain_names.specs.Undo.{UndoRecord}
use Rattle.chain_names.specs.UndoOf.{AreUndos}
use Rattle.chain_names.specs.Writable.{HasShortName}
use Rattle.chain_names.specs.declared.coin.Coin.{Coin}
use Rattle.chain_names.specs.declared.coin.Coin.TheVariants.{New, Named}
use Rattle.chain_names.specs.declared.coin.Item.{Item}
use Rattle.chain_names.specs.declared.undo.Undo.{Undo}
use Rattle.chain_state.specs.Chain.{ArePartsOf, Indexed, IsIndexed}
use Rattle.chain_state.specs.StageBack.{newest_work}
use Rattle.chain_state.specs.Standing.{StandsForChain, chain_maps}
use Rattle.image_grammar.proofs.WrittenLaws.{all_reversed, short_name}
use Rattle.image_writer.proofs.WholeLemmas.{oldest_first}
use Rattle.name_tables.specs.Parts.{newest_first, tables_of}
use Rattle.name_tables.specs.declared.parts.Parts.{Parts}
use Rattle.name_tables.specs.Tables.{maps_by}
use Rattle.name_tables.specs.declared.tables.Tables.{Tables}
use Rattle.sliced_save.specs.Changes.{AreFitNames, AreShortCoins, grown_ops, refreshed_helds, refreshed_ops}
use Rattle.sliced_save.specs.Mirror.{CoinPairs, IsMirrorOf, Mirrored, MirrorsBefore, MirrorsChain, MirrorsIndex, NamePairs, coin_at, items_at, maps_below, maps_in, undos_below}
use Rattle.sliced_save.specs.Rows.{HasFitRow}
use Rattle.sliced_save.specs.Steps.{IsBack, IsForth, newest_of}
use Rattle.sliced_save.proofs.ForthLemmas.{coins_forth, names_forth}
use Rattle.sliced_save.proofs.UndoLemmas.{work_newest}

-- ---- what the tables of an index hold fits

state_of : (c : Indexed) → IsIndexed c → IsState c.base.profile c.tip.height (maps_by c.tables)
state_of c indexed = sound_state c.base.profile c.base.height c.tip.height (maps_by c.tables) c.undos indexed.sound

short_coin : (c : Indexed) → IsIndexed c → (point : OutPoint) (coin : Coin) → coins_in c.tables.coins point ≡ Some coin → HasShortName coin
short_coin c indexed point (New hash height) here = tt
short_coin c indexed point (Named name height) here =
    let state = state_of c indexed in
    short_name name (names_in c.tables.names name) _ (state.lengths name) (state.named_coins point name height here).is_last.last

pub coins_short : (c : Indexed) (tables : Tables) → IsIndexed c → tables ≡ c.tables → AreShortCoins (coins_in tables.coins)
coins_short c tables indexed is = rw is (short_coin c indexed)

fit_rows : (name : List ℕ) (tip : ℕ) (items : List Item) → tip ≤ highest → AllByRecursion (FitsItem name) items → AllByRecursion (IsUpTo tip) items → AllByRecursion (HasFitRow name) items
fit_rows name tip [] low lengths heights = tt
fit_rows name tip (item ∷ items) low lengths heights =
    (record { lengths = lengths.0; low = omega (arith, low, heights.0) }, fit_rows name tip items low lengths.1 heights.1)

pub names_fit : (c : Indexed) (tables : Tables) → IsIndexed c → tables ≡ c.tables → AreFitNames (names_in tables.names)
names_fit c tables indexed is =
    let state = state_of c indexed in
    rw is (λ name. fit_rows name c.tip.height (names_in c.tables.names name) state.tip_height (state.lengths name) (state.item_heights name))

pub undos_fit : (undos : List Undo) → AllByRecursion IsWithinLimits (newest_first undos) → AllByRecursion IsWithinLimits (map seen_undo undos)
undos_fit undos limits = subst (AllByRecursion IsWithinLimits) (oldest_first undos) (all_reversed IsWithinLimits (newest_first undos) limits)

pub newest_fits : (undos : List UndoRecord) (undo : UndoRecord) → newest_of undos ≡ Some undo → AllByRecursion IsWithinLimits undos → IsWithinLimits undo
newest_fits [] undo e limits = absurd (cc e)
newest_fits (first ∷ undos) undo e limits =
    let same : first ≡ undo = cc e in
    subst IsWithinLimits same limits.0

-- ---- the whole

pub maps_are : (coins : CoinPairs) (names : NamePairs) (maps : Maps) → coin_at coins ≡ maps.coins → items_at names ≡ maps.names → record { coins = coin_at coins; names = items_at names } ≡ maps
maps_are coins names maps e f = λ i. record { coins = e i; names = f i }

-- ---- the newest block

newest_behind : (undo : UndoRecord) (undos : List UndoRecord) → reverse (undo ∷ undos) ≡ reverse undos ++ undo ∷ []
newest_behind undo undos = reverse-append (undo ∷ []) undos

take_front : {X : Type 0} (xs : List X) (x : X) → take (length xs) (xs ++ x ∷ []) ≡ xs
take_front [] x = refl
take_front (y ∷ xs) x = ap (λ (l : List _). y ∷ l) (take_front xs x)

less_one : {X : Type 0} (xs ys : List X) (x : X) → ys ≡ xs ++ x ∷ [] → take (length ys - 1) ys ≡ xs
less_one xs ys x is =
    let many : length ys - 1 ≡ length xs = omega (arith, ap length is, length-append xs (x ∷ [])) in
    ap (λ n. take n ys) many ∙ ap (take (length xs)) is ∙ take_front xs x

-- it has joined
joined : (base : Base) (tables : Tables) (undos : List UndoRecord) (undo : UndoRecord) (old new : Mirrored) → newest_of undos ≡ Some undo → IsForth old tables.coins tables.names undo new
    → IsMirrorOf base (undos_below undos) (maps_below undos (maps_by tables)) old → IsMirrorOf base undos (maps_by tables) new
joined base tables [] undo old new e forth mirror = absurd (cc e)
joined base tables (first ∷ undos) undo old new e forth mirror =
    let same : undo ≡ first = cc e in
    let maps = maps_by tables in
    let before : maps_in old ≡ undone undo.ops undo.expired maps = mirror.maps_are ∙ ap (λ (u : UndoRecord). undone u.ops u.expired maps) (sym same) in
    record {
      base_is = forth.base ∙ mirror.base_is;
      undos_are = forth.undos ∙ ap (λ (l : List UndoRecord). l ++ undo ∷ []) mirror.undos_are ∙ ap (λ (u : UndoRecord). reverse undos ++ u ∷ []) same ∙ sym (newest_behind first undos);
      maps_are =
          maps_are new.coins new.names maps
          (forth.coins_are ∙ ap (λ (m : Maps). refreshed_helds tables.coins undo.expired (refreshed_ops tables.coins undo.ops m.coins)) before ∙ coins_forth tables.coins undo.ops undo.expired maps refl)
          (forth.names_are ∙ ap (λ (m : Maps). grown_ops tables.names undo.ops m.names) before ∙ names_forth tables.names undo.ops _ refl);
    }

-- it leaves
less_newest : (undos olds : List UndoRecord) → olds ≡ reverse undos → take (length olds - 1) olds ≡ reverse (undos_below undos)
less_newest [] olds is = rw is refl
less_newest (first ∷ undos) olds is = less_one (reverse undos) olds first (is ∙ newest_behind first undos)

pub index_left : (c : Indexed) (old new : Mirrored) → IsBack old new → MirrorsIndex c old → MirrorsBefore c new
index_left c old new back mirror = record {
  base_is = back.base ∙ mirror.base_is;
  undos_are = back.undos ∙ less_newest c.undos old.undos mirror.undos_are;
  maps_are =
      back.maps ∙ ap (λ (l : List UndoRecord). maps_below l (maps_in old)) (ap reverse mirror.undos_are ∙ reverse-reverse c.undos) ∙ ap (maps_below c.undos) mirror.maps_are;
}

-- there is none
pub none_joined : (base : Base) (maps : Maps) (undos : List UndoRecord) (m : Mirrored) → newest_of undos ≡ None → IsMirrorOf base (undos_below undos) (maps_below undos maps) m → IsMirrorOf base undos maps m
none_joined base maps [] m e mirror = mirror
none_joined base maps (undo ∷ undos) m e mirror = absurd (cc e)

-- ---- chains

mirror_alike : (m : Mirrored) (base base' : Base) (undos undos' : List UndoRecord) (maps maps' : Maps) → base ≡ base' → undos ≡ undos' → maps ≡ maps' → IsMirrorOf base undos maps m → IsMirrorOf base' undos' maps' m
mirror_alike m base base' undos undos' maps maps' e f g mirror =
    record { base_is = mirror.base_is ∙ e; undos_are = mirror.undos_are ∙ ap reverse f; maps_are = mirror.maps_are ∙ g }

module _ (base : Base) (start : Log) (blocks : List (List ℕ)) (c : Indexed) (m : Mirrored) where
  pub chain_now : StandsForChain base start blocks c → MirrorsIndex c m → MirrorsChain base start blocks m
  chain_now s mirror = record {
    undos = c.undos;
    are_undos = s.undos;
    is = mirror_alike m c.base base c.undos c.undos (maps_by c.tables) (chain_maps base start blocks) s.base_is refl s.maps mirror;
  }

  pub index_now : StandsForChain base start blocks c → MirrorsChain base start blocks m → MirrorsIndex c m
  index_now s chain =
      mirror_alike m base c.base chain.undos c.undos (chain_maps base start blocks) (maps_by c.tables) (sym s.base_is)
      (one_undo-chain base.profile start base.height blocks chain.undos c.undos chain.are_undos s.undos) (sym s.maps) chain.is

module _ (base : Base) (start : Log) (block : List ℕ) (blocks : List (List ℕ)) (c : Indexed) (m : Mirrored) (s : StandsForChain base start (block ∷ blocks) c) where
  below_are : (undos : List UndoRecord) → AreUndos base.profile start base.height (block ∷ blocks) undos → AreUndos base.profile start base.height blocks (undos_below undos)
  below_are [] are = absurd are
  below_are (undo ∷ undos) are = are.1

  maps_before : (undos : List UndoRecord) → AreUndos base.profile start base.height (block ∷ blocks) undos → maps_below undos (maps_by c.tables) ≡ chain_maps base start blocks
  maps_before [] are = absurd are
  maps_before (undo ∷ undos) are =
      ap (undone undo.ops undo.expired) s.maps ∙ index_undone base.profile start base.height block blocks undo s.valid.0.unrefused are.0

  chain_before : MirrorsBefore c m → MirrorsChain base start blocks m
  chain_before mirror = record {
    undos = undos_below c.undos;
    are_undos = below_are c.undos s.undos;
    is =
        mirror_alike m c.base base (undos_below c.undos) (undos_below c.undos) (maps_below c.undos (maps_by c.tables)) (chain_maps base start blocks) s.base_is refl (maps_before c.undos s.undos) mirror;
  }

  index_before : MirrorsChain base start blocks m → MirrorsBefore c m
  index_before chain =
      mirror_alike m base c.base chain.undos (undos_below c.undos) (chain_maps base start blocks) (maps_below c.undos (maps_by c.tables)) (sym s.base_is)
      (one_undo-chain base.profile start base.height blocks chain.undos (undos_below c.undos) chain.are_undos (below_are c.undos s.undos)) (sym (maps_before c.undos s.undos)) chain.is

nothing_below : (base : Base) (start : Log) (maps : Maps) (undos : List UndoRecord) (m : Mirrored) → AreUndos base.profile start base.height [] undos → (undos_below undos ≡ undos) × (maps_below undos maps ≡ maps)
nothing_below base start maps [] m are = (refl, refl)
nothing_below base start maps (undo ∷ undos) m are = absurd are

-- before its newest block, if there is one
pub chain_without : (base : Base) (start : Log) (blocks : List (List ℕ)) (c : Indexed) (m : Mirrored) → StandsForChain base start blocks c → MirrorsBefore c m → MirrorsChain base start (drop 1 blocks) m
chain_without base start [] c m s mirror =
    let maps = maps_by c.tables in
    let same = nothing_below base start maps c.undos m s.undos in
    chain_now base start [] c m s (mirror_alike m c.base c.base (undos_below c.undos) c.undos (maps_below c.undos maps) maps refl same.0 same.1 mirror)
chain_without base start (block ∷ blocks) c m s mirror = chain_before base start block blocks c m s mirror

pub index_without : (base : Base) (start : Log) (blocks : List (List ℕ)) (c : Indexed) (m : Mirrored) → StandsForChain base start blocks c → MirrorsChain base start (drop 1 blocks) m → MirrorsBefore c m
index_without base start [] c m s chain =
    let maps = maps_by c.tables in
    let same = nothing_below base start maps c.undos m s.undos in
    mirror_alike m c.base c.base c.undos (undos_below c.undos) maps (maps_below c.undos maps) refl (sym same.0) (sym same.1) (index_now base start [] c m s chain)
index_without base start (block ∷ blocks) c m s chain = index_before base start block blocks c m s chain

-- ---- the records as the code keeps them

newest_is : (c : Indexed) (parts : Parts) (kept : List Undo) (undo : UndoRecord) → ArePartsOf c parts → kept ≡ parts.undos.items → Some undo ≡ newest_of (newest_first kept) → newest_of c.undos ≡ Some undo
newest_is c parts kept undo are is newest = sym (newest ∙ ap (λ (l : List Undo). newest_of (newest_first l)) is ∙ ap newest_of are.undos)

-- what the index's newest block touched
pub index_work : (c : Indexed) (parts : Parts) (kept : List Undo) (undo : UndoRecord) → ArePartsOf c parts → kept ≡ parts.undos.items → Some undo ≡ newest_of (newest_first kept)
    → newest_work c.undos ≡ length undo.ops + length undo.expired
index_work c parts kept undo are is newest = work_newest c.undos undo (sym (newest_is c parts kept undo are is newest))

pub index_joined : (c : Indexed) (parts : Parts) (kept : List Undo) (undo : UndoRecord) (old new : Mirrored) → ArePartsOf c parts → kept ≡ parts.undos.items → Some undo ≡ newest_of (newest_first kept)
    → IsForth old parts.coins parts.names undo new → MirrorsBefore c old → MirrorsIndex c new
index_joined c parts kept undo old new are is newest forth =
    subst (λ (t : Tables). IsMirrorOf c.base (undos_below c.undos) (maps_below c.undos (maps_by t)) old → IsMirrorOf c.base c.undos (maps_by t) new) are.tables
    (joined c.base (tables_of parts) c.undos undo old new (newest_is c parts kept undo are is newest) forth)
