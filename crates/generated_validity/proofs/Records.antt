-- The log of a run's blocks is short, and so are the records that undo them.
use Rattle.std.proofs.Common.{◌≡◌, ℕ, zero, suc, ◌*◌, ◌≤◌, ◌⊎◌, true, List, [], ◌∷◌, ◌++◌, length, Option, Some, None, refl, sym, ap, subst, ◌∙◌, arith, inl, inr, length-append, Result, Ok, Err}
use Rattle.std.specs.List.{flat_map, AllByRecursion, list_any}
use Rattle.sha2.proofs.Facts256.{length-sha256}
use Rattle.block_grammar.specs.Block.{Block}
use Rattle.block_grammar.specs.Header.{header_hash}
use Rattle.block_grammar.specs.Reading.{block_from}
use Rattle.block_grammar.specs.Transaction.{Transaction, txid_of}
use Rattle.name_script.specs.NameScript.{NameOperation}
use Rattle.nmc_base.specs.declared.hashes.OutPoint.{OutPoint}
use Rattle.nmc_base.specs.declared.chain_ends.Profile.TheVariants.{Regtest}
use Rattle.nmc_base.proofs.ListLemmas.{all-weaker}
use Rattle.chain_names.specs.declared.coin.Coin.{Coin}
use Rattle.chain_names.specs.declared.coin.HeldCoin.{HeldCoin}
use Rattle.chain_names.specs.declared.coin.Item.{Item}
use Rattle.chain_names.specs.declared.undo.UndoOp.{UndoOp}
use Rattle.chain_names.specs.declared.undo.UndoOp.TheVariants.{New as op_new, First, Update}
use Rattle.chain_names.specs.Changes.{undo_of_verdict, with_spent}
use Rattle.chain_names.specs.Coins.{Maps, entry_of, live_coin, maps_of}
use Rattle.chain_names.specs.Expired.{IsGone, IsSortedByPoint}
use Rattle.chain_names.specs.Index.{next_height}
use Rattle.chain_names.specs.Log.{Log, Make, Spend, all_touches, made, behind_coinbase, log_of, transactions_in}
use Rattle.chain_names.specs.Meaning.{Means}
use Rattle.chain_names.specs.Points.{point_at, same_point}
use Rattle.chain_names.specs.Undo.{UndoRecord}
use Rattle.chain_names.specs.UndoOf.{AreUndos, IsUndoOf, hash_read, undo_ops_in}
use Rattle.chain_names.specs.Verdict.{Verdict, plain, commits, opens, updates, refused, verdict}
use Rattle.chain_names.specs.Writable.{change_of}
use Rattle.chain_names.proofs.HistoryLemmas.{entry_has}
use Rattle.chain_names.proofs.Meanings.{verdict_means}
use Rattle.chain_names.proofs.OrderLemmas.{sorted_few}
use Rattle.chain_names.proofs.PointLemmas.{all-points}
use Rattle.undo_records.specs.declared.version.Version.TheVariants.{Two}
use Rattle.undo_records.specs.Text.{held_text, op_text, undo_text}
use Rattle.block_maker.specs.Script.{HasShortPushes}
use Rattle.block_maker.specs.Generated.{Making, generated_transactions, name_transaction}
use Rattle.block_maker.proofs.Scripts.{script_read}
use Rattle.generated_validity.specs.Carried.{HaveOneTxid, making_behind}
use Rattle.generated_validity.specs.Agreeing.{Fits}
use Rattle.generated_validity.specs.Blocks.{block_behind, blocks_behind}
use Rattle.generated_validity.proofs.Blocks.{transactions_there}
use Rattle.generated_validity.proofs.Chains.{goes_or, later_txid}
use Rattle.generated_validity.proofs.Deeds.{output_length}
use Rattle.generated_validity.proofs.Logs.{AreShort, IsSmall, history_short, live_short, points_made, small_later, small_more}
use Rattle.generated_validity.proofs.Makings.{IsOwn, making_own}
use Rattle.generated_validity.proofs.Parts.{IsShortBefore, IsShortChange, IsShortItem, IsShortOp, held_length, op_length, texts_length, undo_length}

-- ---- coins of a short log

-- so many coins in order, each of which is live at the height
pub helds_length : (most height : ℕ) (log : Log) (helds : List HeldCoin) → IsSmall most log → AllByRecursion (λ held. live_coin Regtest log height held.at ≡ Some held.coin) helds → IsSortedByPoint helds
    → (length helds ≤ most) × (length (flat_map held_text helds) ≤ length helds * 297)
helds_length most height log helds small live sorted =
    let Live = λ (held : HeldCoin). live_coin Regtest log height held.at ≡ Some held.coin in
    let at = λ (held : HeldCoin) (e : Live held). live_short log height small.short held.at held.coin e in
    let listed = all-weaker Live (λ held. list_any (same_point held.at) (points_made log) ≡ true) helds (λ held e. (at held e).listed) live in
    let few = sorted_few helds (points_made log) sorted (all-points (λ point. list_any (same_point point) (points_made log) ≡ true) helds listed) in
    let short = all-weaker Live (λ held. length (held_text held) ≤ 297) helds (λ held e. held_length held (at held e).at (at held e).coin_is) live in
    (omega (arith, few, small.points), texts_length held_text 297 helds short)

-- ---- what undoes the transactions of a block

entry_short : (items : List Item) (entry : Option Item) → AllByRecursion IsShortItem items → entry_of items ≡ entry → IsShortBefore entry
entry_short items None short e = tt
entry_short items (Some item) short e = entry_has IsShortItem items item short e

one_length : (op : UndoOp) → IsShortOp op → length (flat_map (op_text Two) (op ∷ [])) ≤ 1660
one_length op short = omega (arith, op_length op short, length-append (op_text Two op) [])

spent_length : (undo : Coin → UndoOp) (spent : Option Coin) → ((coin : Coin) → spent ≡ Some coin → IsShortOp (undo coin)) → length (flat_map (op_text Two) (with_spent undo spent ++ [])) ≤ 1660
spent_length undo None short = omega arith
spent_length undo (Some coin) short = one_length (undo coin) (short coin refl)

module _ (height : ℕ) (log : Log) (short : AreShort log) (t : Transaction) (txid : length (txid_of t) ≤ 32) where
  abbrev maps : Maps
  maps = maps_of Regtest log height

  change_short : (name : List ℕ) (place : ℕ) (spent : OutPoint) (coin : Coin) → length name ≤ 255 → maps.coins spent ≡ Some coin
      → IsShortChange (change_of (point_at (txid_of t) place) spent coin name (entry_of (maps.names name)))
  change_short name place spent coin fits held =
      let at = live_short log height short spent coin held in
      record {
        made = txid;
        spent = at.at;
        coin = at.coin_is;
        name = fits;
        before = entry_short (maps.names name) (entry_of (maps.names name)) (history_short log short name).items_are refl;
      }

  verdict_length : (v : Verdict) → Means Regtest maps height t v → length (flat_map (op_text Two) (undo_of_verdict maps (txid_of t) v ++ [])) ≤ 1660
  verdict_length plain means = omega arith
  verdict_length (refused refusal) means = omega arith
  verdict_length (commits hash place) means = one_length (op_new (point_at (txid_of t) place)) txid
  verdict_length (opens name value place spent) means =
      spent_length (λ coin. First (point_at (txid_of t) place) spent coin name (entry_of (maps.names name))) (maps.coins spent)
      (λ coin held. change_short name place spent coin means.fits.name_length held)
  verdict_length (updates name value place spent) means =
      spent_length (λ coin. Update (point_at (txid_of t) place) spent coin name (entry_of (maps.names name))) (maps.coins spent)
      (λ coin held. change_short name place spent coin means.fits.name_length held)

txid_short : (making : Making) → length (txid_of (name_transaction making)) ≤ 32
txid_short making = omega (arith, output_length making)

ops_length : (height at : ℕ) (log : Log) (making : Option Making) → AreShort log → length (flat_map (op_text Two) (undo_ops_in Regtest height (behind_coinbase (generated_transactions at making)) log)) ≤ 1660
ops_length height at log None short = omega arith
ops_length height at log (Some making) short =
    let t = name_transaction making in
    verdict_length height log short t (txid_short making) (verdict Regtest (maps_of Regtest log height) height t) (verdict_means Regtest (maps_of Regtest log height) height t)

-- ---- the log behind one block more

name_touches : (height : ℕ) (making : Making) (log : Log) → HasShortPushes making.operation
    → all_touches height (name_transaction making ∷ []) log ≡ Make (point_at (txid_of (name_transaction making)) 0) making.operation height ∷ Spend making.spent ∷ log
unfolding name_transaction
name_touches height making log short =
    ap (λ (operation : Option NameOperation). made (point_at (txid_of (name_transaction making)) 0) height operation (Spend making.spent ∷ log)) (script_read making.operation short)

carries_small : (most height at : ℕ) (log : Log) (making : Option Making) → ((m : Making) → making ≡ Some m → IsOwn at m) → IsSmall most log
    → IsSmall (suc most) (all_touches height (behind_coinbase (generated_transactions at making)) log)
carries_small most height at log None own small = small_later most log small
carries_small most height at log (Some making) own small =
    let is = own making refl in
    let spent : IsSmall most (Spend making.spent ∷ log) = record { short = small.short; points = small.points; names = small.names } in
    subst (IsSmall (suc most)) (sym (name_touches height making log is.short))
    (small_more most (Spend making.spent ∷ log) (point_at (txid_of (name_transaction making)) 0) making.operation height spent (txid_short making) is.texts)

-- ---- the chain

abbrev pub log_behind : (seed n : ℕ) → Log
log_behind seed n = log_of [] 0 (blocks_behind seed n)

hash_short : {E : Type 0} (read : Result Block E) → length (hash_read read) ≤ 32
unfolding header_hash
hash_short (Ok block) =
    let whole : length (header_hash block.header) ≡ 32 = length-sha256 _ in
    omega (arith, whole)
hash_short (Err e) = omega arith

abbrev pub IsShortRecord : UndoRecord → Type 0
IsShortRecord u = length (undo_text Two u) ≤ 2971700

-- the log behind so many blocks is small, and the records that undo these are short
pub record IsShortChain (seed n : ℕ) : Type 0 where
  pub small : IsSmall n (log_behind seed n)
  pub undos : (us : List UndoRecord) → AreUndos Regtest [] 0 (blocks_behind seed n) us → (length us ≤ n) × AllByRecursion IsShortRecord us

module _ (seed n : ℕ) (low : suc n ≤ 10000) (chain : IsShortChain seed n) (fits : Fits (making_behind seed n)) where
  there : transactions_in (block_behind seed n) ≡ generated_transactions (suc n) (making_behind seed n)
  there = transactions_there seed n fits (omega (arith, low))

  small_next : IsSmall (suc n) (log_of [] 0 (block_behind seed n ∷ blocks_behind seed n))
  small_next =
      subst (λ (ts : List Transaction). IsSmall (suc n) (all_touches (next_height 0 (blocks_behind seed n)) (behind_coinbase ts) (log_behind seed n))) (sym there)
      (carries_small n (next_height 0 (blocks_behind seed n)) (suc n) (log_behind seed n) (making_behind seed n) (making_own seed n) chain.small)

  record_short : (u : UndoRecord) → IsUndoOf Regtest [] 0 (block_behind seed n) (blocks_behind seed n) u → IsShortRecord u
  record_short u is =
      let height = next_height 0 (blocks_behind seed n) in
      let log = log_of [] 0 (block_behind seed n ∷ blocks_behind seed n) in
      let ops : u.ops ≡ undo_ops_in Regtest height (behind_coinbase (generated_transactions (suc n) (making_behind seed n))) (log_behind seed n) =
      is.ops ∙ ap (λ (ts : List Transaction). undo_ops_in Regtest height (behind_coinbase ts) (log_behind seed n)) there in
      let live = all-weaker (IsGone (live_coin Regtest log height) (live_coin Regtest log (suc height))) (λ held. live_coin Regtest log height held.at ≡ Some held.coin) u.expired (λ held gone. gone.now_is) is.due.each in
      let helds = helds_length (suc n) height log u.expired small_next live is.sorted in
      undo_length u (omega (arith, ap (λ (bytes : List ℕ). length bytes) is.hash, hash_short (block_from (block_behind seed n))))
      (subst (λ (os : List UndoOp). length (flat_map (op_text Two) os) ≤ 1660) (sym ops) (ops_length height (suc n) (log_behind seed n) (making_behind seed n) chain.small.short))
      (omega (arith, helds.0, helds.1, low))

  undos_next : (us : List UndoRecord) → AreUndos Regtest [] 0 (block_behind seed n ∷ blocks_behind seed n) us → (length us ≤ suc n) × AllByRecursion IsShortRecord us
  undos_next [] are = absurd are
  undos_next (u ∷ us) are = let below = chain.undos us are.1 in (omega (arith, below.0), (record_short u are.0, below.1))

  chain_next : IsShortChain seed (suc n)
  unfolding blocks_behind
  chain_next = record { small = small_next; undos = undos_next }

no_blocks : (seed : ℕ) → IsShortChain seed 0
unfolding blocks_behind
no_blocks seed = record { small = record { short = tt; points = omega arith; names = omega arith }; undos = none }
  where
    none : (us : List UndoRecord) → AreUndos Regtest [] 0 [] us → (length us ≤ 0) × AllByRecursion IsShortRecord us
    none [] are = (omega arith, tt)
    none (u ∷ us) are = absurd are

pub short_chain : (seed n : ℕ) → n ≤ 10000 → HaveOneTxid seed n ⊎ IsShortChain seed n
short_chain seed zero low = inr (no_blocks seed)
short_chain seed (suc n) low =
    elim (goes_or seed n (omega (arith, low))) [
      | inl same ↦ inl same
      | inr g ↦ elim (short_chain seed n (omega (arith, low))) [
        | inl same ↦ inl (later_txid seed n (suc n) (omega arith) same)
        | inr chain ↦ inr (chain_next seed n low chain g.fits)
      ]
    ]
