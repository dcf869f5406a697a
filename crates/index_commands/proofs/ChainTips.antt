-- The tip of a chain and the rule that a block breaks on it, in the words of the index and of the machine.
use Rattle.std.proofs.Common.{◌≡◌, ℕ, List, [], ◌∷◌, ◌++◌, length, take, refl, sym, ap, ◌∙◌, append_assoc, length-append, arith}
use Rattle.std.proofs.lemmas.List.{take_at}
use Rattle.block_grammar.specs.CompactSize.{counted_list}
use Rattle.block_grammar.specs.Hashes.{double_sha256}
use Rattle.block_grammar.specs.Block.{block_hash, Block, IsBlock, block_text}
use Rattle.block_grammar.specs.PureHeader as plain
use Rattle.block_grammar.specs.Transaction.{Transaction, transaction_text}
use Rattle.block_grammar.specs.Header.{header_text, header_hash, merged_text}
use Rattle.block_grammar.proofs.BlockLaws.{block_again}
use Rattle.nmc_base.specs.declared.chain_ends.Base.{Base}
use Rattle.chain_names.specs.UndoOf.{hash_in, hash_read}
use Rattle.chain_names.specs.Log.{Log, behind_coinbase, transactions_read, transactions_in, log_of}
use Rattle.chain_names.specs.Index.{next_height, refused_in}
use Rattle.chain_state.specs.Chain.{Indexed}
use Rattle.chain_state.specs.Standing.{hash_of, AreValid}
use Rattle.chain_commands.specs.Chain.{Chain, newest_hash, tip_hash}
use Rattle.chain_commands.specs.Connecting.{refused_on}
use Rattle.index_commands.specs.Standing.{StandsFor}

-- ---- the hash of the tip

length-fields : (h : plain.PureHeader) → plain.FitsPureHeader h → length (plain.pure_header_text h) ≡ 80
unfolding plain.pure_header_text
length-fields h fits = simp length-append (omega (arith, fits.previous, fits.root))

hash_of_bytes : (bytes : List ℕ) (b : Block) → IsBlock bytes b → header_hash b.header ≡ block_hash bytes
unfolding header_hash block_text header_text
hash_of_bytes bytes b is =
    let fields = plain.pure_header_text b.header.fields in
    let rest = merged_text b.header.merged ++ counted_list transaction_text b.transactions in
    let text : bytes ≡ fields ++ rest = is.text ∙ append_assoc fields (merged_text b.header.merged) (counted_list transaction_text b.transactions) in
    ap double_sha256 (sym (ap (take 80) text ∙ take_at fields rest 80 (length-fields b.header.fields is.fits.header.fields)))

hash_in_bytes : (bytes : List ℕ) (b : Block) → IsBlock bytes b → hash_in bytes ≡ block_hash bytes
hash_in_bytes bytes b is = ap hash_read (block_again bytes b is) ∙ hash_of_bytes bytes b is

newest_alike : (base : Base) (start : Log) (blocks : List (List ℕ)) → AreValid base start blocks → hash_of base blocks ≡ newest_hash base blocks
newest_alike base start [] valid = refl
newest_alike base start (block ∷ blocks) valid = hash_in_bytes block valid.0.block valid.0.is_block

pub chain_tip : (c : Indexed) (chain : Chain) → StandsFor c chain → hash_of chain.base chain.blocks ≡ tip_hash chain
chain_tip c chain s = newest_alike chain.base chain.start chain.blocks s.valid

pub index_tip : (c : Indexed) (chain : Chain) → StandsFor c chain → c.tip.hash.0 ≡ tip_hash chain
index_tip c chain s = s.hash ∙ chain_tip c chain s

-- ---- the rule that is broken

-- the bytes are read as the block that they are
pub rule_of_bytes : (chain : Chain) (bytes : List ℕ) (b : Block) → IsBlock bytes b
    → refused_in chain.base.profile (next_height chain.base.height chain.blocks) 1 (behind_coinbase (transactions_in bytes)) (log_of chain.start chain.base.height chain.blocks)
    ≡ refused_on chain b
rule_of_bytes chain bytes b is =
    ap (λ (ts : List Transaction). refused_in chain.base.profile (next_height chain.base.height chain.blocks) 1 (behind_coinbase ts) (log_of chain.start chain.base.height chain.blocks))
    (ap transactions_read (block_again bytes b is))
