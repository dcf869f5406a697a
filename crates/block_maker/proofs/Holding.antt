-- The transactions of a block, together.
use Rattle.std.proofs.Common.{◌≡◌, ℕ, List, [], ◌∷◌, ◌++◌, length, Some, None, refl, sym, ap, ◌∙◌, append-nil, arith}
use Rattle.std.proofs.lemmas.List.{length-append}
use Rattle.sha2.specs.Sha256.{sha256}
use Rattle.sha2.proofs.Facts256.{length-sha256}
use Rattle.block_grammar.specs.Hashes.{double_sha256}
use Rattle.block_grammar.specs.Transaction.{Transaction, transaction_text, txid_of}
use Rattle.block_grammar.specs.Merkle.{merkle_root_of}
use Rattle.block_grammar.proofs.MerkleLaws.{one_root}
use Rattle.block_grammar.proofs.Statements.{plain_stripped}
use Rattle.block_maker.specs.declared.contents.Contents.{Contents}
use Rattle.block_maker.specs.Generated.{Making, coinbase_at, name_transaction}
use Rattle.block_maker.specs.Carried.{IsNameTransaction}
use Rattle.block_maker.specs.Pieces.{IsShortTransaction, Holds}

plain_txid : (bytes : List ℕ) (t : Transaction) → t.witness ≡ None → bytes ≡ transaction_text t → txid_of t ≡ double_sha256 bytes
unfolding txid_of
plain_txid bytes t none text = ap double_sha256 (plain_stripped t none ∙ sym text)

coinbase_plain : (height : ℕ) → (coinbase_at height).witness ≡ None
unfolding coinbase_at
coinbase_plain height = refl

name_plain : (making : Making) → (name_transaction making).witness ≡ None
unfolding name_transaction
name_plain making = refl

two_root : (left right : List ℕ) → merkle_root_of (left ∷ right ∷ []) ≡ double_sha256 (left ++ right)
unfolding merkle_root_of
two_root left right = refl

pub one_held : (contents : Contents) (height : ℕ) → IsShortTransaction contents.text (coinbase_at height) → contents.count ≡ 1 → contents.root.0 ≡ double_sha256 contents.text
    → Holds contents height None
one_held contents height is count root =
    let t = coinbase_at height in
    record {
      count = count;
      some = omega (arith, count);
      few = omega (arith, count);
      fit = (is.transaction.fits, tt);
      text = is.transaction.text ∙ sym (append-nil (transaction_text t));
      root = root ∙ sym (plain_txid contents.text t (coinbase_plain height) is.transaction.text) ∙ sym (one_root (txid_of t));
      root_length = ap length root ∙ length-sha256 (sha256 contents.text);
      short = omega (arith, is.short);
      carry = (t, refl);
    }

pub two_held : (contents : Contents) (height : ℕ) (making : Making) (first second : List ℕ) → IsShortTransaction first (coinbase_at height) → IsShortTransaction second (name_transaction making)
    → IsNameTransaction (name_transaction making) making
    → contents.count ≡ 2 → contents.text ≡ first ++ second → contents.root.0 ≡ double_sha256 (double_sha256 first ++ double_sha256 second)
    → Holds contents height (Some making)
two_held contents height making first second is is' carried count text root =
    let t = coinbase_at height in
    let u = name_transaction making in
    record {
      count = count;
      some = omega (arith, count);
      few = omega (arith, count);
      fit = (is.transaction.fits, (is'.transaction.fits, tt));
      text = text ∙ ap (λ (x : List ℕ). x ++ second) is.transaction.text ∙ ap (λ (x : List ℕ). transaction_text t ++ x) (is'.transaction.text ∙ sym (append-nil (transaction_text u)));
      root = root ∙ sym (ap (λ (x : List ℕ). double_sha256 (x ++ double_sha256 second)) (plain_txid first t (coinbase_plain height) is.transaction.text))
          ∙ sym (ap (λ (x : List ℕ). double_sha256 (txid_of t ++ x)) (plain_txid second u (name_plain making) is'.transaction.text)) ∙ sym (two_root (txid_of t) (txid_of u));
      root_length = ap length root ∙ length-sha256 (sha256 (double_sha256 first ++ double_sha256 second));
      short = omega (arith, ap length text, length-append first second, is.short, is'.short);
      carry = record { coinbase = t; name = u; two = refl; is_name = carried };
    }
