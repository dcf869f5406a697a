-- Header and transactions together are the generated block.
use Rattle.std.proofs.Common.{◌≡◌, ℕ, ◌+◌, ◌<◌, ◌≤◌, List, [], ◌∷◌, ◌++◌, length, take, drop, map, replicate, Option, Some, None, refl, sym, ap, subst, ◌∙◌, append-nil, append_assoc, arith}
use Rattle.std.specs.Prelude.{Ok, slice_range}
use Rattle.std.specs.List.{flat_map}
use Rattle.std.specs.Int.{w32, to_le_bytes}
use Rattle.std.proofs.lemmas.Bool.{lt-ltb}
use Rattle.std.proofs.lemmas.List.{length-append, drop_at}
use Rattle.nmc_base.specs.Heights.{highest}
use Rattle.nmc_base.specs.declared.chain_ends.Tip.{Tip}
use Rattle.block_grammar.specs.CompactSize.{compact_size}
use Rattle.block_grammar.specs.Transaction.{input_text, output_text, Transaction, transaction_text, txid_of}
use Rattle.block_grammar.specs.PureHeader as plain
use Rattle.block_grammar.specs.Header as full
use Rattle.block_grammar.specs.Block.{Block, block_text, IsBlock}
use Rattle.block_grammar.specs.Merkle.{merkle_root_of, block_root}
use Rattle.block_grammar.specs.Reading.{block_from}
use Rattle.block_grammar.proofs.ReaderLaws.{ok_is}
use Rattle.block_grammar.proofs.BlockLaws.{block_again}
use Rattle.block_grammar.proofs.Sizes.{size_of_one}
use Rattle.block_maker.specs.declared.contents.Contents.{Contents}
use Rattle.block_maker.specs.Generated.{Making, no_output, height_script, coinbase_at, name_transaction, generated_transactions, generated_header, generated_block}
use Rattle.block_maker.proofs.Texts.{single_output, single_text}
use Rattle.block_maker.specs.Carried.{IsMade}
use Rattle.block_maker.specs.Pieces.{Holds, IsPutTogether}

pub generated_root : (previous : Tip) (making : Option Making) → (generated_block previous making).header.fields.root ≡ block_root (generated_block previous making)
unfolding generated_block block_root
generated_root previous making = refl

-- the text of a block with a plain header and few transactions
plain_block_text : (fields : plain.PureHeader) (transactions : List Transaction) (count : ℕ) → length transactions ≡ count → count < 0xFD
    → block_text (record { header = record { fields = fields; merged = None }; transactions = transactions }) ≡ plain.pure_header_text fields ++ (count ∷ flat_map transaction_text transactions)
unfolding block_text full.header_text
plain_block_text fields transactions count is lt = rw (append-nil (plain.pure_header_text fields), is, size_of_one count lt) refl

header_fits : (previous : Tip) (root : List ℕ) → previous.height < highest → length previous.hash.0 ≡ 32 → length root ≡ 32
    → full.FitsHeader (record { fields = generated_header previous root; merged = None })
header_fits previous root height hash len = record {
  fields = record { version = omega arith; previous = hash; root = len; time = omega (arith, height); bits = omega arith; nonce = omega arith };
  merged = λ set. set refl;
}

pub whole_is : (bytes : List ℕ) (previous : Tip) (making : Option Making) (contents : Contents) → previous.height < highest → Holds contents (previous.height + 1) making → IsPutTogether bytes previous contents
    → IsBlock bytes (generated_block previous making)
unfolding generated_block
whole_is bytes previous making contents height holds put =
    let transactions = generated_transactions (previous.height + 1) making in
    let root = merkle_root_of (map txid_of transactions) in
    let len : length root ≡ 32 = ap length (sym holds.root) ∙ holds.root_length in
    let text : plain.pure_header_text (generated_header previous contents.root.0) ++ (contents.count ∷ contents.text) ≡ plain.pure_header_text (generated_header previous root) ++ (contents.count ∷ flat_map transaction_text transactions) =
    rw (holds.root, holds.text) refl in
    record {
      fits = record {
        header = header_fits previous root height put.previous_length len;
        some_transaction = omega (arith, holds.count, holds.some);
        transaction_count = omega (arith, holds.count, holds.few);
        transactions = holds.fit;
      };
      text = put.text ∙ text ∙ sym (plain_block_text (generated_header previous root) transactions contents.count (sym holds.count) (omega (arith, holds.few)));
    }

pub whole_again : (bytes : List ℕ) (previous : Tip) (making : Option Making) (contents : Contents) → previous.height < highest → Holds contents (previous.height + 1) making → IsPutTogether bytes previous contents
    → block_from bytes ≡ Ok (generated_block previous making)
whole_again bytes previous making contents height holds put = block_again bytes (generated_block previous making) (whole_is bytes previous making contents height holds put)

header_length : (previous : Tip) (root : List ℕ) → length previous.hash.0 ≡ 32 → length root ≡ 32 → length (plain.pure_header_text (generated_header previous root)) ≡ 80
unfolding plain.pure_header_text
header_length previous root hash len =
    let time = to_le_bytes w32 (previous.height + 1) in
    let behind : List ℕ = time ++ (to_le_bytes w32 0x207F_FFFF ++ to_le_bytes w32 0) in
    omega (arith, hash, len, length-append time (to_le_bytes w32 0x207F_FFFF ++ to_le_bytes w32 0), length-append root behind, length-append previous.hash.0 (root ++ behind), length-append (to_le_bytes w32 4) (previous.hash.0 ++ (root ++ behind)))

pub whole_short : (bytes : List ℕ) (previous : Tip) (making : Option Making) (contents : Contents) → Holds contents (previous.height + 1) making → IsPutTogether bytes previous contents → length bytes ≤ 8388608
whole_short bytes previous making contents holds put =
    omega (arith, ap length put.text, length-append (plain.pure_header_text (generated_header previous contents.root.0)) (contents.count ∷ contents.text), header_length previous contents.root.0 put.previous_length holds.root_length, holds.short)

generated_made : (previous : Tip) (making : Option Making) (contents : Contents) → Holds contents (previous.height + 1) making → IsMade (generated_block previous making) previous making
unfolding generated_block block_root
generated_made previous making contents holds = record { previous_hash = refl; root = refl; carry = holds.carry }

-- the bytes are no other block
pub whole_made : (bytes : List ℕ) (previous : Tip) (making : Option Making) (contents : Contents) → previous.height < highest → Holds contents (previous.height + 1) making → IsPutTogether bytes previous contents
    → (b : Block) → IsBlock bytes b → IsMade b previous making
whole_made bytes previous making contents height holds put b is =
    let same : generated_block previous making ≡ b = ok_is (generated_block previous making) b (sym (whole_again bytes previous making contents height holds put) ∙ block_again bytes b is) in
    subst (λ (x : Block). IsMade x previous making) same (generated_made previous making contents holds)

-- ---- the place of the height

-- five bytes behind 123
height_at : (bytes front more : List ℕ) (height : ℕ) → bytes ≡ front ++ (height_script height ++ more) → length front ≡ 123 → slice_range bytes 123 128 ≡ height_script height
height_at bytes front more height text len =
    let behind : drop 123 bytes ≡ height_script height ++ more = ap (drop 123) text ∙ drop_at front (height_script height ++ more) 123 len in
    ap (take 5) behind

-- the coinbase up to its script, and what follows
record HeightStands (text : List ℕ) (height : ℕ) : Type 0 where
  front : List ℕ
  long : length front ≡ 42
  more : List ℕ
  parts : text ≡ front ++ (height_script height ++ more)

coinbase_parts : (height : ℕ) → HeightStands (transaction_text (coinbase_at height)) height
unfolding coinbase_at input_text compact_size
coinbase_parts height =
    let output = output_text (single_output 0 (0x51 ∷ [])) in
    record {
      front = to_le_bytes w32 1 ++ (1 ∷ (replicate 32 0 ++ (to_le_bytes w32 0xFFFF_FFFF ++ (5 ∷ []))));
      long = refl;
      more = to_le_bytes w32 0xFFFF_FFFF ++ (1 ∷ (output ++ (0 ∷ 0 ∷ 0 ∷ 0 ∷ [])));
      parts = single_text 1 no_output (height_script height) 0 (0x51 ∷ []) ∙ refl;
    }

-- the coinbase stands first
first_text : (height : ℕ) (making : Option Making) → HeightStands (flat_map transaction_text (generated_transactions height making)) height
first_text height None =
    let h = coinbase_parts height in
    record { front = h.front; long = h.long; more = h.more; parts = append-nil (transaction_text (coinbase_at height)) ∙ h.parts }
first_text height (Some making) =
    let h = coinbase_parts height in
    let behind = flat_map transaction_text (name_transaction making ∷ []) in
    record {
      front = h.front;
      long = h.long;
      more = h.more ++ behind;
      parts = ap (λ (x : List ℕ). x ++ behind) h.parts ∙ append_assoc h.front (height_script height ++ h.more) behind;
    }

pub whole_height : (bytes : List ℕ) (previous : Tip) (making : Option Making) (contents : Contents) → Holds contents (previous.height + 1) making → IsPutTogether bytes previous contents
    → slice_range bytes 123 128 ≡ height_script (previous.height + 1)
whole_height bytes previous making contents holds put =
    let height = previous.height + 1 in
    let header = plain.pure_header_text (generated_header previous contents.root.0) in
    let h = first_text height making in
    let front : List ℕ = header ++ (contents.count ∷ h.front) in
    let parts : bytes ≡ front ++ (height_script height ++ h.more) =
    put.text ∙ ap (λ (x : List ℕ). header ++ (contents.count ∷ x)) (holds.text ∙ h.parts) ∙ sym (append_assoc header (contents.count ∷ h.front) (height_script height ++ h.more)) in
    height_at bytes front h.more height parts (omega (arith, length-append header (contents.count ∷ h.front), header_length previous contents.root.0 put.previous_length holds.root_length, h.long))
