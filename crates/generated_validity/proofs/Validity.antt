-- Each block of a run is valid on those before it, or two txids are one.
use Rattle.std.proofs.Common.{◌≡◌, ℕ, zero, suc, ◌<◌, ◌⊎◌, List, [], refl, ap, ◌∙◌, arith, inl, inr}
use Rattle.block_grammar.specs.Transaction.{Transaction}
use Rattle.nmc_base.specs.declared.chain_ends.Profile.TheVariants.{Regtest}
use Rattle.chain_names.specs.Index.{next_height, refused_in}
use Rattle.chain_names.specs.Log.{behind_coinbase, log_of}
use Rattle.chain_commands.specs.Chain.{newest_hash}
use Rattle.chain_commands.specs.Connecting.{IsValid}
use Rattle.chain_commands.proofs.ConnectRefusals.{IsUnbroken, is_valid}
use Rattle.block_maker.specs.Generated.{generated_block}
use Rattle.block_maker.proofs.Whole.{generated_root}
use Rattle.generated_chain.specs.Blocks.{run_base, tip_at}
use Rattle.generated_validity.specs.Carried.{HaveOneTxid, making_behind}
use Rattle.generated_validity.specs.Agreeing.{Goes}
use Rattle.generated_validity.specs.Blocks.{block_behind, blocks_behind, maps_behind}
use Rattle.generated_validity.specs.Causes.{chain_behind}
use Rattle.generated_validity.proofs.Blocks.{block_is, carried_there, content}
use Rattle.generated_validity.proofs.Chains.{count_is, goes_or, none_refused}

-- the run's tip is the chain's
tip_is : (seed n : ℕ) → (tip_at seed n).hash.0 ≡ newest_hash run_base (blocks_behind seed n)
unfolding tip_at blocks_behind
tip_is seed zero = refl
tip_is seed (suc n) = refl

previous_is : (seed n : ℕ) → (content seed n).header.fields.previous ≡ (tip_at seed n).hash.0
unfolding generated_block
previous_is seed n = refl

module _ (seed n : ℕ) (low : suc n < 65536) (g : Goes seed n (maps_behind seed n) (making_behind seed n)) where
  unbroken : IsUnbroken (chain_behind seed n) (block_behind seed n) (content seed n)
  unbroken = record {
    rooted = record {
      on = record {
        there = record { is_block = block_is seed n g.fits (omega (arith, low)); on_tip = previous_is seed n ∙ tip_is seed n };
        low = omega (arith, count_is seed n, low);
      };
      root = generated_root (tip_at seed n) (making_behind seed n);
    };
    none =
        ap (λ (all : List Transaction). refused_in Regtest (next_height 0 (blocks_behind seed n)) 1 (behind_coinbase all) (log_of [] 0 (blocks_behind seed n)))
        (carried_there seed n g.fits (omega (arith, low))) ∙ none_refused seed n low g;
  }

pub valid_or : (seed n : ℕ) → suc n < 65536 → HaveOneTxid seed (suc n) ⊎ IsValid ⊥ (chain_behind seed n) (block_behind seed n)
valid_or seed n low =
    elim (goes_or seed n low) [
      | inl same ↦ inl same
      | inr g ↦ inr (is_valid ⊥ (chain_behind seed n) (block_behind seed n) (content seed n) (unbroken seed n low g) (λ no. no))
    ]
