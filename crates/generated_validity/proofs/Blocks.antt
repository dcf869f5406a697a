-- The bytes of a generated block are the block, and they are few.
use Rattle.std.proofs.Common.{◌≡◌, ℕ, zero, suc, ◌+◌, ◌<◌, ◌≤◌, List, [], ◌∷◌, ◌++◌, length, Option, Some, None, refl, sym, ap, subst, ◌∙◌, arith, add-one, length-append}
use Rattle.std.specs.Int.{w32, to_le_bytes}
use Rattle.sha2.proofs.Facts256.{length-sha256}
use Rattle.nmc_base.specs.Heights.{highest}
use Rattle.nmc_base.specs.declared.limits.TheConstants.{NAME_VERSION}
use Rattle.nmc_base.specs.declared.chain_ends.Tip.{Tip}
use Rattle.nmc_base.specs.declared.hashes.OutPoint.{OutPoint}
use Rattle.block_grammar.specs.Hashes.{double_sha256}
use Rattle.block_grammar.specs.PureHeader as plain
use Rattle.block_grammar.specs.Transaction.{input_text, output_text}
use Rattle.block_grammar.specs.Block.{Block, IsBlock, block_text}
use Rattle.block_grammar.proofs.BlockLaws.{block_again}
use Rattle.name_script.specs.NameScript.{NameOperation, name_new, name_firstupdate, name_update, pushdata4}
use Rattle.chain_names.specs.Log.{transactions_in, transactions_read}
use Rattle.block_maker.specs.Script.{HasShortPushes, script_of, shortest_push}
use Rattle.block_maker.specs.Generated.{Making, coinbase_at, generated_block, generated_header, generated_transactions, height_script, name_transaction, no_output}
use Rattle.block_maker.specs.Carried.{IsNameTransaction}
use Rattle.block_maker.specs.Pieces.{IsShortTransaction}
use Rattle.block_maker.proofs.Scripts.{script_is, shortest}
use Rattle.block_maker.proofs.Texts.{single_input, single_output, single_is}
use Rattle.block_maker.proofs.Holding.{one_held, two_held}
use Rattle.block_maker.proofs.Whole.{whole_is, whole_short}
use Rattle.generated_chain.specs.Stands.{deed_at, making_by}
use Rattle.generated_chain.specs.Blocks.{drawn_stand, making_on, number_at, tip_at}
use Rattle.generated_validity.specs.Carried.{making_behind}
use Rattle.generated_validity.specs.Agreeing.{Fits, FitsMaking}
use Rattle.generated_validity.specs.Blocks.{block_behind}

-- ---- scripts

push_length : (value : List ℕ) → length value ≤ 65535 → length (shortest_push value) ≤ length value + 5
push_length value short =
    let push : List ℕ = 0x4E ∷ (to_le_bytes w32 (length value) ++ value) in
    omega (arith, shortest value push (pushdata4 (omega (arith, short)) refl), length-append (to_le_bytes w32 (length value)) value)

script_length : (operation : NameOperation) → HasShortPushes operation → length (script_of operation) ≤ 200000
unfolding script_of
script_length (name_new hash) short =
    omega (arith, short.0, push_length hash short.0, length-append (shortest_push hash) [], length-append (shortest_push hash ++ []) (0x6D ∷ 0x51 ∷ []))
script_length (name_firstupdate name rand value) short =
    let last : List ℕ = shortest_push value ++ [] in
    let behind : List ℕ = shortest_push rand ++ last in
    omega (
      arith,
      short.0,
      short.1.0,
      short.1.1.0,
      push_length name short.0,
      push_length rand short.1.0,
      push_length value short.1.1.0,
      length-append (shortest_push value) [],
      length-append (shortest_push rand) last,
      length-append (shortest_push name) behind,
      length-append (shortest_push name ++ behind) (0x6D ∷ 0x51 ∷ []),
    )
script_length (name_update name value) short =
    let last : List ℕ = shortest_push value ++ [] in
    omega (
      arith,
      short.0,
      short.1.0,
      push_length name short.0,
      push_length value short.1.0,
      length-append (shortest_push value) [],
      length-append (shortest_push name) last,
      length-append (shortest_push name ++ last) (0x6D ∷ 0x51 ∷ []),
    )

-- ---- transactions

abbrev parts_of : ℕ → OutPoint → List ℕ → ℕ → List ℕ → List ℕ
parts_of version spent unlocking amount locking =
    to_le_bytes w32 version ++ (1 ∷ (input_text (single_input spent unlocking) ++ (1 ∷ (output_text (single_output amount locking) ++ (0 ∷ 0 ∷ 0 ∷ 0 ∷ [])))))

abbrev coinbase_text : ℕ → List ℕ
coinbase_text height = parts_of 1 no_output (height_script height) 0 (0x51 ∷ [])

abbrev name_text : Making → List ℕ
name_text making = parts_of NAME_VERSION making.spent [] 1000000 (script_of making.operation)

coinbase_short : (height : ℕ) → IsShortTransaction (coinbase_text height) (coinbase_at height)
unfolding coinbase_at
coinbase_short height =
    single_is (coinbase_text height) 1 no_output (height_script height) 0 (0x51 ∷ []) (omega arith) refl (omega arith) (omega arith) (omega arith) (omega arith) refl

name_short : (making : Making) → FitsMaking making → IsShortTransaction (name_text making) (name_transaction making)
unfolding name_transaction
name_short making fits =
    single_is (name_text making) NAME_VERSION making.spent [] 1000000 (script_of making.operation) (omega arith) fits.txid fits.index (omega arith) (omega arith)
    (script_length making.operation fits.pushes) refl

carries : (making : Making) → FitsMaking making → IsNameTransaction (name_transaction making) making
unfolding name_transaction
carries making fits = record {
  version = refl;
  input = single_input making.spent [];
  one_input = refl;
  txid = refl;
  index = refl;
  output = single_output 1000000 (script_of making.operation);
  one_output = refl;
  script = script_is making.operation fits.pushes;
}

-- ---- blocks

-- some bytes are the block, and they are few
record HasText (previous : Tip) (making : Option Making) : Type 0 where
  bytes : List ℕ
  is_block : IsBlock bytes (generated_block previous making)
  short : length bytes ≤ 8388608

has_text : (previous : Tip) (making : Option Making) → Fits making → previous.height < highest → length previous.hash.0 ≡ 32 → HasText previous making
has_text previous None fits low len =
    let height = previous.height + 1 in
    let text = coinbase_text height in
    let held = one_held (record { count = 1; text = text; root = record { 0 = double_sha256 text } }) height (coinbase_short height) refl refl in
    let bytes : List ℕ = plain.pure_header_text (generated_header previous (double_sha256 text)) ++ (1 ∷ text) in
    record {
      bytes = bytes;
      is_block = whole_is bytes previous None _ low held (record { text = refl; previous_length = len });
      short = whole_short bytes previous None _ held (record { text = refl; previous_length = len });
    }
has_text previous (Some making) fits low len =
    let height = previous.height + 1 in
    let first = coinbase_text height in
    let second = name_text making in
    let root = double_sha256 (double_sha256 first ++ double_sha256 second) in
    let held = two_held (record { count = 2; text = first ++ second; root = record { 0 = root } }) height making first second (coinbase_short height) (name_short making fits) (carries making fits) refl refl refl in
    let bytes : List ℕ = plain.pure_header_text (generated_header previous root) ++ (2 ∷ (first ++ second)) in
    record {
      bytes = bytes;
      is_block = whole_is bytes previous (Some making) _ low held (record { text = refl; previous_length = len });
      short = whole_short bytes previous (Some making) _ held (record { text = refl; previous_length = len });
    }

text_is : (previous : Tip) (making : Option Making) → HasText previous making → (IsBlock (block_text (generated_block previous making)) (generated_block previous making)) × (length (block_text (generated_block previous making)) ≤ 8388608)
text_is previous making has = (
  record { fits = has.is_block.fits; text = refl },
  subst (λ (bytes : List ℕ). length bytes ≤ 8388608) has.is_block.text has.short,
)

-- ---- the blocks of a run

pub tip_height : (seed n : ℕ) → (tip_at seed n).height ≡ n
unfolding tip_at
tip_height seed zero = refl
tip_height seed (suc n) = ap (λ (h : ℕ). h + 1) (tip_height seed n) ∙ add-one n

tip_length : (seed n : ℕ) → length (tip_at seed n).hash.0 ≡ 32
unfolding tip_at
tip_length seed zero = refl
tip_length seed (suc n) = length-sha256 _

-- the height of the block
pub height_above : (seed n : ℕ) → (tip_at seed n).height + 1 ≡ suc n
height_above seed n = ap (λ (h : ℕ). h + 1) (tip_height seed n) ∙ add-one n

module _ (seed n : ℕ) where
  making_is : making_on (tip_at seed n) (number_at seed n) (drawn_stand seed n) ≡ making_behind seed n
  making_is = ap (λ (height : ℕ). making_by height (number_at seed n) (deed_at height (drawn_stand seed n))) (height_above seed n)

  -- the block that the bytes are
  abbrev pub content : Block
  content = generated_block (tip_at seed n) (making_behind seed n)

  bytes_are : block_text content ≡ block_behind seed n
  bytes_are = ap (λ (making : Option Making). block_text (generated_block (tip_at seed n) making)) (sym making_is)

  module _ (fits : Fits (making_behind seed n)) (low : n < 65536) where
    texts : (IsBlock (block_text content) content) × (length (block_text content) ≤ 8388608)
    texts = text_is (tip_at seed n) (making_behind seed n) (has_text (tip_at seed n) (making_behind seed n) fits (omega (arith, tip_height seed n, low)) (tip_length seed n))

    pub block_is : IsBlock (block_behind seed n) content
    block_is = subst (λ (bytes : List ℕ). IsBlock bytes content) bytes_are texts.0

    pub block_short : length (block_behind seed n) ≤ 8388608
    block_short = subst (λ (bytes : List ℕ). length bytes ≤ 8388608) bytes_are texts.1

    pub carried_there : content.transactions ≡ generated_transactions (suc n) (making_behind seed n)
    unfolding generated_block
    carried_there = ap (λ (height : ℕ). generated_transactions height (making_behind seed n)) (height_above seed n)

    pub transactions_there : transactions_in (block_behind seed n) ≡ generated_transactions (suc n) (making_behind seed n)
    transactions_there = ap transactions_read (block_again (block_behind seed n) content block_is) ∙ carried_there
