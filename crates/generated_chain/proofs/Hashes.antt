-- The hash of a block, and what is read behind it.
use Rattle.std.proofs.Common.{◌≡◌, ℕ, ◌+◌, List, ◌++◌, length, take, refl, sym, ap, subst, ◌∙◌, append_assoc, length-append, arith}
use Rattle.std.specs.Prelude.{Option, Some, None}
use Rattle.std.specs.Option.{option_map}
use Rattle.std.proofs.lemmas.List.{take_at}
use Rattle.block_grammar.specs.CompactSize.{counted_list}
use Rattle.block_grammar.specs.Hashes.{double_sha256}
use Rattle.block_grammar.specs.Block.{block_hash, Block, IsBlock, block_text}
use Rattle.block_grammar.specs.PureHeader as plain
use Rattle.block_grammar.specs.Transaction.{transaction_text}
use Rattle.block_grammar.specs.Header.{header_text, header_hash, merged_text}
use Rattle.nmc_base.specs.declared.chain_ends.Tip.{Tip}
use Rattle.nmc_base.specs.declared.hashes.OutPoint.{OutPoint}
use Rattle.block_maker.specs.Generated.{Making, generated_block, generated_transactions}
use Rattle.generated_chain.specs.Reading.{second_output}
use Rattle.generated_chain.specs.Stands.{output_of}

length-fields : (h : plain.PureHeader) → plain.FitsPureHeader h → length (plain.pure_header_text h) ≡ 80
unfolding plain.pure_header_text
length-fields h fits = simp length-append (omega (arith, fits.previous, fits.root))

pub hash_of_bytes : (bytes : List ℕ) (b : Block) → IsBlock bytes b → header_hash b.header ≡ block_hash bytes
unfolding header_hash block_text header_text
hash_of_bytes bytes b is =
    let fields = plain.pure_header_text b.header.fields in
    let rest = merged_text b.header.merged ++ counted_list transaction_text b.transactions in
    let text : bytes ≡ fields ++ rest = is.text ∙ append_assoc fields (merged_text b.header.merged) (counted_list transaction_text b.transactions) in
    ap double_sha256 (sym (ap (take 80) text ∙ take_at fields rest 80 (length-fields b.header.fields is.fits.header.fields)))

output_behind : (height : ℕ) (making : Option Making) → second_output (generated_transactions height making) ≡ option_map output_of making
output_behind height None = refl
output_behind height (Some making) = refl

-- what is read of a block is the output of its name transaction
pub read_output : (bytes text : List ℕ) (tip : Tip) (making : Option Making) (output : Option OutPoint)
    → ((b : Block) → IsBlock bytes b → output ≡ second_output b.transactions) → bytes ≡ text → IsBlock text (generated_block tip making)
    → output ≡ option_map output_of making
unfolding generated_block
read_output bytes text tip making output reads same is =
    reads (generated_block tip making) (subst (λ (x : List ℕ). IsBlock x (generated_block tip making)) (sym same) is)
    ∙ output_behind (tip.height + 1) making
