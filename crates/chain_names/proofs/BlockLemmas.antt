-- The maps follow the blocks of a chain.
use Rattle.std.proofs.Common.{◌≡◌, ℕ, suc, ◌+◌, Bool, true, false, cond, List, [], ◌∷◌, length, refl, sym, ap, ◌∙◌, arith}
use Rattle.std.proofs.Math.Path.{fun_ext}
use Rattle.std.specs.Prelude.{Option, Some, None}
use Rattle.block_grammar.specs.Transaction.{Transaction, txid_of}
use Rattle.nmc_base.specs.declared.chain_ends.Profile.{Profile}
use Rattle.nmc_base.specs.Expiry.{is_expired}
use Rattle.chain_names.specs.declared.coin.Coin.{Coin}
use Rattle.chain_names.specs.declared.coin.Coin.TheVariants.{New, Named}
use Rattle.chain_names.specs.Log.{Log, touches, all_touches, behind_coinbase, transactions_in, log_of}
use Rattle.chain_names.specs.Coins.{Maps, coin_now, unless_expired, maps_of, history_of}
use Rattle.chain_names.specs.Verdict.{Verdict, plain, commits, opens, updates, refused, verdict}
use Rattle.chain_names.specs.Changes.{Refused, refused_or, after_transaction, after_all, first_refused, without_expired, after_block, undo_of_verdict, undo_ops, back_ops}
use Rattle.chain_names.specs.Index.{refused_in, next_height, index_maps}
use Rattle.chain_names.proofs.Shown.{is_refused}
use Rattle.chain_names.proofs.LogLemmas.{transaction_follows, stays_expired}
use Rattle.chain_names.proofs.UndoLemmas.{transaction_back, back_ops-append}

-- ---- refusals

pub no_refusal : (index : ℕ) (v : Verdict) (later : Option Refused) → refused_or index v later ≡ None → (is_refused v ≡ false) × (later ≡ None)
no_refusal index plain later e = (refl, e)
no_refusal index (commits hash place) later e = (refl, e)
no_refusal index (opens name value place spent) later e = (refl, e)
no_refusal index (updates name value place spent) later e = (refl, e)
no_refusal index (refused refusal) later e = absurd cc

same_refusal : (index : ℕ) (v : Verdict) (a b : Option Refused) → (is_refused v ≡ false → a ≡ b) → refused_or index v a ≡ refused_or index v b
same_refusal index plain a b e = e refl
same_refusal index (commits hash place) a b e = e refl
same_refusal index (opens name value place spent) a b e = e refl
same_refusal index (updates name value place spent) a b e = e refl
same_refusal index (refused refusal) a b e = refl

-- the refusal by the log is the one by the maps
pub refused_in-maps : (profile : Profile) (height index : ℕ) (ts : List Transaction) (log : Log)
    → refused_in profile height index ts log ≡ first_refused profile height index ts (maps_of profile log height)
refused_in-maps profile height index [] log = refl
refused_in-maps profile height index (t ∷ ts) log =
    same_refusal index (verdict profile (maps_of profile log height) height t) _ _
    (λ kept. refused_in-maps profile height (suc index) ts (touches height t log)
    ∙ ap (first_refused profile height (suc index) ts) (transaction_follows profile height t log kept))

-- ---- the transactions of a block

pub all_follow : (profile : Profile) (height index : ℕ) (ts : List Transaction) (log : Log) → first_refused profile height index ts (maps_of profile log height) ≡ None
    → maps_of profile (all_touches height ts log) height ≡ after_all profile height ts (maps_of profile log height)
all_follow profile height index [] log e = refl
all_follow profile height index (t ∷ ts) log e =
    let maps = maps_of profile log height in
    let h = no_refusal index (verdict profile maps height t) (first_refused profile height (suc index) ts (after_transaction profile height t maps)) e in
    let same = transaction_follows profile height t log h.0 in
    all_follow profile height (suc index) ts (touches height t log) (ap (first_refused profile height (suc index) ts) same ∙ h.1) ∙ ap (after_all profile height ts) same

-- undoing them gives the maps before them
pub all_back : (profile : Profile) (height index : ℕ) (ts : List Transaction) (maps : Maps) → first_refused profile height index ts maps ≡ None
    → back_ops (undo_ops profile height ts maps) (after_all profile height ts maps) ≡ maps
all_back profile height index [] maps e = refl
all_back profile height index (t ∷ ts) maps e =
    let v = verdict profile maps height t in
    let next = after_transaction profile height t maps in
    let h = no_refusal index v (first_refused profile height (suc index) ts next) e in
    back_ops-append (undo_of_verdict maps (txid_of t) v) (undo_ops profile height ts next) (after_all profile height ts next)
    ∙ ap (back_ops (undo_of_verdict maps (txid_of t) v)) (all_back profile height (suc index) ts next h.1)
    ∙ transaction_back profile height t maps h.0

-- ---- expiry

later_named : (profile : Profile) (height made : ℕ) (coin : Option Coin) (b : Bool) → is_expired profile made height ≡ b
    → (name : List ℕ) → unless_expired profile (suc height) (Some (Named name made)) ≡ unless_expired profile (suc height) (cond b None (Some (Named name made)))
later_named profile height made coin true is name = rw (stays_expired profile made height is) refl
later_named profile height made coin false is name = refl

later : (profile : Profile) (height : ℕ) (coin : Option Coin) → unless_expired profile (suc height) coin ≡ unless_expired profile (suc height) (unless_expired profile height coin)
later profile height None = refl
later profile height (Some (New hash made)) = refl
later profile height (Some (Named name made)) = later_named profile height made None (is_expired profile made height) refl name

-- the live coins of the next block are those of this one that aren't expired there
pub maps_of-next : (profile : Profile) (log : Log) (height : ℕ) → maps_of profile log (suc height) ≡ without_expired profile (suc height) (maps_of profile log height)
maps_of-next profile log height = λ i. record { coins = fun_ext (λ point. later profile height (coin_now log point)) i; names = history_of log }

-- ---- blocks

-- the index follows the chain: a block without a refusal changes the maps as the log says
pub index_maps-next : (profile : Profile) (start : Log) (base : ℕ) (block : List ℕ) (blocks : List (List ℕ))
    → refused_in profile (next_height base blocks) 1 (behind_coinbase (transactions_in block)) (log_of start base blocks) ≡ None
    → index_maps profile start base (block ∷ blocks)
    ≡ after_block profile (next_height base blocks) (behind_coinbase (transactions_in block)) (index_maps profile start base blocks)
index_maps-next profile start base block blocks e =
    let height = next_height base blocks in
    let ts = behind_coinbase (transactions_in block) in
    let log = log_of start base blocks in
    ap (λ n. maps_of profile (all_touches height ts log) (suc n)) (next_above base blocks block)
    ∙ maps_of-next profile (all_touches height ts log) height
    ∙ ap (without_expired profile (suc height)) (all_follow profile height 1 ts log (sym (refused_in-maps profile height 1 ts log) ∙ e))
  where
    next_above : (base : ℕ) (blocks : List (List ℕ)) (block : List ℕ) → base + length (block ∷ blocks) ≡ next_height base blocks
    next_above base blocks block = omega arith
