-- A block leaves a state.
use Rattle.std.proofs.Common.{ℕ, suc, ◌<◌, ◌≤◌, ◌^◌, List, arith}
use Rattle.block_grammar.specs.Transaction.{Transaction}
use Rattle.nmc_base.specs.declared.chain_ends.Profile.{Profile}
use Rattle.chain_names.specs.Coins.{Maps}
use Rattle.chain_names.specs.Changes.{after_all, after_block}
use Rattle.nmc_base.specs.Heights.{highest}
use Rattle.chain_names.specs.State.{IsState, HasFewNames, Stands}
use Rattle.block_grammar.specs.Block.{count_outputs}
use Rattle.chain_names.proofs.StandLemmas.{state_stands, standing_state, stands-higher}
use Rattle.chain_names.proofs.UndoneBlockLemmas.{all_stand, block_stands}
use Rattle.chain_names.proofs.CountLemmas.{few_after, few_left, few_operations}

-- the maps after the transactions stand at the block's height
pub transactions_stand : (profile : Profile) (tip : ℕ) (ts : List Transaction) (maps : Maps) → IsState profile tip maps
    → Stands profile (suc tip) (suc tip) (after_all profile (suc tip) ts maps)
transactions_stand profile tip ts maps state =
    all_stand profile (suc tip) ts maps (stands-higher profile (suc tip) tip (suc tip) maps (omega arith) (state_stands profile tip maps state))

pub transactions_few : (profile : Profile) (tip : ℕ) (ts : List Transaction) (maps : Maps) → IsState profile tip maps → count_outputs ts < 2 ^ 32
    → (row : ℕ) → HasFewNames (after_all profile (suc tip) ts maps).coins row
transactions_few profile tip ts maps state few =
    few_after profile tip ts maps state.few_names state.coin_heights (few_operations profile (suc tip) ts maps few)

pub block_state : (profile : Profile) (tip : ℕ) (ts : List Transaction) (maps : Maps) → IsState profile tip maps → suc tip ≤ highest → count_outputs ts < 2 ^ 32
    → IsState profile (suc tip) (after_block profile (suc tip) ts maps)
block_state profile tip ts maps state low few =
    standing_state profile (suc tip) (after_block profile (suc tip) ts maps) low
    (λ row. few_left profile (suc (suc tip)) (after_all profile (suc tip) ts maps) row (transactions_few profile tip ts maps state few row))
    (block_stands profile (suc tip) (suc tip) (after_all profile (suc tip) ts maps) (transactions_stand profile tip ts maps state))
