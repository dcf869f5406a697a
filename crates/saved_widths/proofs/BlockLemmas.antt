-- A block leaves what is as wide as its fields, and so is its record.
use Rattle.std.proofs.Common.{◌≡◌, ℕ, suc, ◌<◌, ◌^◌, List, ◌∷◌, length, sym, ap, subst, ◌∙◌}
use Rattle.std.specs.Prelude.{Option}
use Rattle.std.specs.List.{AllByRecursion}
use Rattle.block_grammar.specs.Block.{Block, IsBlock}
use Rattle.block_grammar.specs.Header.{Header, header_hash}
use Rattle.block_grammar.specs.PureHeader.{pure_header_text}
use Rattle.block_grammar.proofs.BlockLaws.{block_again}
use Rattle.nmc_base.specs.declared.chain_ends.Profile.{Profile}
use Rattle.nmc_base.specs.declared.hashes.OutPoint.{OutPoint}
use Rattle.nmc_base.proofs.ListLemmas.{all-weaker}
use Rattle.sha2.specs.Sha256.{sha256}
use Rattle.sha2.proofs.Facts256.{length-sha256}
use Rattle.chain_names.specs.declared.coin.Coin.{Coin}
use Rattle.chain_names.specs.declared.coin.HeldCoin.{HeldCoin}
use Rattle.chain_names.specs.Changes.{without_expired, after_all, after_block}
use Rattle.chain_names.specs.Coins.{Maps}
use Rattle.chain_names.specs.Expired.{IsGone}
use Rattle.chain_names.specs.Index.{next_height, index_maps}
use Rattle.chain_names.specs.Log.{Log, behind_coinbase, transactions_in}
use Rattle.chain_names.specs.Measured.{AreCoinsMeasured, AreMeasured}
use Rattle.chain_names.specs.Sound.{IsAccepted}
use Rattle.chain_names.specs.Undo.{UndoRecord}
use Rattle.chain_names.specs.UndoOf.{hash_read, hash_in, IsUndoOf}
use Rattle.chain_names.proofs.BlockLemmas.{index_maps-next}
use Rattle.chain_names.proofs.IndexLemmas.{undo_by_log}
use Rattle.chain_names.proofs.OutputLemmas.{accepted_few}
use Rattle.undo_records.specs.Measured.{IsMeasuredOp, IsMeasuredHeld, IsMeasured}
use Rattle.saved_widths.proofs.StartLemmas.{left_there}
use Rattle.saved_widths.proofs.VerdictLemmas.{LeavesWidths, all_measured}

-- what isn't expired was there
left_measured : (profile : Profile) (height : ℕ) (maps : Maps) → AreMeasured maps → AreMeasured (without_expired profile height maps)
left_measured profile height maps measured = record {
  coins = λ point coin e. measured.coins point coin (left_there profile height (maps.coins point) coin e);
  items = measured.items;
}

-- what expires was there
expired_measured : (now next : OutPoint → Option Coin) (expired : List HeldCoin) → AreCoinsMeasured now → AllByRecursion (IsGone now next) expired
    → AllByRecursion IsMeasuredHeld expired
expired_measured now next expired measured all = all-weaker (IsGone now next) IsMeasuredHeld expired (λ held gone. measured held.at held.coin gone.now_is) all

header_length : (h : Header) → length (header_hash h) ≡ 32
unfolding header_hash
header_length h = length-sha256 (sha256 (pure_header_text h.fields))

hash_length : (bytes : List ℕ) (block : Block) → IsBlock bytes block → length (hash_in bytes) ≡ 32
hash_length bytes block is = ap (λ r. length (hash_read r)) (block_again bytes block is) ∙ header_length block.header

module _ (profile : Profile) (start : Log) (base : ℕ) (block : List ℕ) (blocks : List (List ℕ)) (accepted : IsAccepted profile start base block blocks)
    (low : next_height base blocks < 2 ^ 32) (measured : AreMeasured (index_maps profile start base blocks)) where
  leaves : LeavesWidths profile (next_height base blocks) (behind_coinbase (transactions_in block)) (index_maps profile start base blocks)
  leaves =
      all_measured profile (next_height base blocks) (behind_coinbase (transactions_in block)) (index_maps profile start base blocks) low measured
      (accepted_few profile start base block blocks accepted)

  pub block_measured : AreMeasured (index_maps profile start base (block ∷ blocks))
  block_measured =
      let before = index_maps profile start base blocks in
      let ts = behind_coinbase (transactions_in block) in
      subst AreMeasured (sym (index_maps-next profile start base block blocks accepted.unrefused))
      (left_measured profile (suc (next_height base blocks)) (after_all profile (next_height base blocks) ts before) leaves.measured)

  pub record_measured : (u : UndoRecord) → IsUndoOf profile start base block blocks u → IsMeasured u
  record_measured u undo =
      let before = index_maps profile start base blocks in
      let ts = behind_coinbase (transactions_in block) in
      let by_maps = undo_by_log profile start base block blocks accepted.unrefused u undo in
      record {
        block = ap length undo.hash ∙ hash_length block accepted.content accepted.is_block;
        ops = subst (AllByRecursion IsMeasuredOp) (sym by_maps.ops) leaves.ops;
        expired = expired_measured (after_all profile (next_height base blocks) ts before).coins (after_block profile (next_height base blocks) ts before).coins u.expired
            leaves.measured.coins by_maps.due.each;
      }
