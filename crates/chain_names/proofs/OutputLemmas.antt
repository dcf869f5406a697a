-- An accepted block has fewer than 2^32 outputs.
use Rattle.std.proofs.Common.{ℕ, ◌<◌, ◌≤◌, ◌^◌, List, [], ◌∷◌, length, sym, ap, subst, arith}
use Rattle.block_grammar.specs.Block.{count_outputs}
use Rattle.block_grammar.specs.Transaction.{Transaction}
use Rattle.block_grammar.proofs.BlockLaws.{block_again}
use Rattle.block_grammar.proofs.Lengths.{outputs-bytes}
use Rattle.nmc_base.specs.declared.chain_ends.Profile.{Profile}
use Rattle.chain_names.specs.Log.{Log, behind_coinbase, transactions_in, transactions_read}
use Rattle.chain_names.specs.Sound.{IsAccepted}

pub fewer_behind : (ts : List Transaction) → count_outputs (behind_coinbase ts) ≤ count_outputs ts
fewer_behind [] = omega arith
fewer_behind (t ∷ ts) = omega arith

-- it has no more outputs than bytes
pub accepted_few : (profile : Profile) (start : Log) (base : ℕ) (block : List ℕ) (blocks : List (List ℕ)) → IsAccepted profile start base block blocks
    → count_outputs (behind_coinbase (transactions_in block)) < 2 ^ 32
accepted_few profile start base block blocks accepted =
    let short : length block ≤ 8388608 = accepted.short in
    let few : count_outputs accepted.content.transactions ≤ length block = outputs-bytes block accepted.content accepted.is_block in
    let behind : count_outputs (behind_coinbase accepted.content.transactions) ≤ count_outputs accepted.content.transactions = fewer_behind accepted.content.transactions in
    subst (λ ts. count_outputs (behind_coinbase ts) < 2 ^ 32) (sym (ap transactions_read (block_again block accepted.content accepted.is_block))) (omega arith)
