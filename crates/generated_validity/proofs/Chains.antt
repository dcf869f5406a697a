-- Behind so many blocks of a run what it knows agrees with its chain, or two txids are one.
use Rattle.std.proofs.Common.{◌≡◌, ℕ, zero, suc, ◌<◌, ◌≤◌, ◌^◌, ◌⊎◌, List, [], length, Option, Some, None, refl, sym, ap, subst, ◌∙◌, arith, inl, inr}
use Rattle.block_grammar.specs.Block.{count_outputs}
use Rattle.block_grammar.specs.Transaction.{Transaction}
use Rattle.nmc_base.specs.declared.chain_ends.Profile.TheVariants.{Regtest}
use Rattle.chain_names.specs.Coins.{Maps, maps_of}
use Rattle.chain_names.specs.Changes.{after_block, first_refused}
use Rattle.chain_names.specs.Index.{next_height, refused_in}
use Rattle.chain_names.specs.Log.{behind_coinbase, log_of, transactions_in}
use Rattle.chain_names.specs.State.{IsState}
use Rattle.chain_names.proofs.BlockLemmas.{index_maps-next, refused_in-maps}
use Rattle.chain_names.proofs.SoundLemmas.{sound_state}
use Rattle.chain_names.proofs.StartLemmas.{base_sound}
use Rattle.chain_names.proofs.StateLemmas.{block_state}
use Rattle.block_maker.specs.Generated.{Making, generated_transactions, name_transaction}
use Rattle.generated_chain.specs.Blocks.{stand_at}
use Rattle.generated_validity.specs.Carried.{HaveOneTxid, making_behind}
use Rattle.generated_validity.specs.Agreeing.{Agrees, Goes, StandsSo}
use Rattle.generated_validity.specs.Blocks.{Reaches, block_behind, blocks_behind, maps_behind}
use Rattle.generated_validity.proofs.Blocks.{transactions_there}
use Rattle.generated_validity.proofs.Deeds.{goes}

-- ---- before the first block

abbrev no_maps : Maps
no_maps = maps_of Regtest [] 1

fresh_stand : (seed number : ℕ) → StandsSo seed 0 number no_maps (stand_at seed number 0)
unfolding stand_at
fresh_stand seed number = record { waits = tt; ends = refl }

fresh : (seed : ℕ) → Reaches seed 0
unfolding blocks_behind
fresh seed = record {
  state = sound_state Regtest 0 0 no_maps [] (base_sound Regtest [] 0 (omega arith) (record { makes = tt; few = omega arith }));
  agrees = record { coins = λ point coin e. absurd cc; stands = λ number low. fresh_stand seed number };
}

-- ---- one block more

pub count_is : (seed n : ℕ) → length (blocks_behind seed n) ≡ n
unfolding blocks_behind
count_is seed zero = refl
count_is seed (suc n) = ap suc (count_is seed n)

pub next_is : (seed n : ℕ) → next_height 0 (blocks_behind seed n) ≡ suc n
next_is seed n = omega (arith, count_is seed n)

few_outputs : (height : ℕ) (making : Option Making) → count_outputs (behind_coinbase (generated_transactions height making)) < 2 ^ 32
unfolding name_transaction
few_outputs height None = omega arith
few_outputs height (Some making) = omega arith

module _ (seed n : ℕ) (low : suc n < 65536) (g : Goes seed n (maps_behind seed n) (making_behind seed n)) where
  abbrev ts : List Transaction
  ts = behind_coinbase (generated_transactions (suc n) (making_behind seed n))

  pub none_refused : refused_in Regtest (next_height 0 (blocks_behind seed n)) 1 ts (log_of [] 0 (blocks_behind seed n)) ≡ None
  none_refused =
      refused_in-maps Regtest (next_height 0 (blocks_behind seed n)) 1 ts (log_of [] 0 (blocks_behind seed n))
      ∙ ap (λ (height : ℕ). first_refused Regtest height 1 ts (maps_behind seed n)) (next_is seed n) ∙ g.unrefused

  there : transactions_in (block_behind seed n) ≡ generated_transactions (suc n) (making_behind seed n)
  there = transactions_there seed n g.fits (omega (arith, low))

  block_unrefused : refused_in Regtest (next_height 0 (blocks_behind seed n)) 1 (behind_coinbase (transactions_in (block_behind seed n))) (log_of [] 0 (blocks_behind seed n)) ≡ None
  block_unrefused =
      ap (λ (all : List Transaction). refused_in Regtest (next_height 0 (blocks_behind seed n)) 1 (behind_coinbase all) (log_of [] 0 (blocks_behind seed n))) there ∙ none_refused

  maps_next : maps_behind seed (suc n) ≡ after_block Regtest (suc n) ts (maps_behind seed n)
  unfolding blocks_behind
  maps_next =
      index_maps-next Regtest [] 0 (block_behind seed n) (blocks_behind seed n) block_unrefused
      ∙ ap (λ (height : ℕ). after_block Regtest height (behind_coinbase (transactions_in (block_behind seed n))) (maps_behind seed n)) (next_is seed n)
      ∙ ap (λ (all : List Transaction). after_block Regtest (suc n) (behind_coinbase all) (maps_behind seed n)) there

  next : Reaches seed n → Reaches seed (suc n)
  next r = record {
    state = subst (IsState Regtest (suc n)) (sym maps_next) (block_state Regtest n ts (maps_behind seed n) r.state (omega (arith, low)) (few_outputs (suc n) (making_behind seed n)));
    agrees = subst (Agrees seed (suc n)) (sym maps_next) g.agrees;
  }

pub later_txid : (seed n m : ℕ) → n ≤ m → HaveOneTxid seed n → HaveOneTxid seed m
later_txid seed n m le same = record {
  first = same.first;
  second = same.second;
  in_order = same.in_order;
  within = omega (arith, same.within, le);
  one = same.one;
  other = same.other;
  one_is = same.one_is;
  other_is = same.other_is;
  differ = same.differ;
  same = same.same;
}

pub reaches : (seed n : ℕ) → n < 65536 → HaveOneTxid seed n ⊎ Reaches seed n
reaches seed zero low = inr (fresh seed)
reaches seed (suc n) low =
    elim (reaches seed n (omega (arith, low))) [
      | inl same ↦ inl (later_txid seed n (suc n) (omega arith) same)
      | inr r ↦ elim (goes seed n low (maps_behind seed n) r.agrees r.state) [
        | inl same ↦ inl same
        | inr g ↦ inr (next seed n low g r)
      ]
    ]

-- the next block goes on behind them, or two txids are one
pub goes_or : (seed n : ℕ) → suc n < 65536 → HaveOneTxid seed (suc n) ⊎ Goes seed n (maps_behind seed n) (making_behind seed n)
goes_or seed n low =
    elim (reaches seed n (omega (arith, low))) [
      | inl same ↦ inl (later_txid seed n (suc n) (omega arith) same)
      | inr r ↦ goes seed n low (maps_behind seed n) r.agrees r.state
    ]
