-- The laws, as the public functions state them.
use Rattle.std.proofs.Common.{◌≡◌, ℕ, ◌-◌, ◌↔◌, List, ◌++◌, length, None, sym, ap, ◌∙◌}
use Rattle.std.specs.Prelude.{Ok, Err}
use Rattle.std.specs.Int.{w32, to_le_bytes}
use Rattle.block_grammar.proofs.Readers.{IsBytes}
use Rattle.block_grammar.specs.declared.kinds.TxKind.{TxKind}
use Rattle.block_grammar.specs.declared.kinds.BlockKind.{BlockKind}
use Rattle.block_grammar.specs.Kinds.{is_cut}
use Rattle.block_grammar.specs.Transaction.{Transaction, body_text, stripped_text, transaction_text, IsTransaction}
use Rattle.block_grammar.specs.Header.{Header, IsHeader}
use Rattle.block_grammar.specs.Block.{Block, IsBlock}
use Rattle.block_grammar.specs.Fault.{IsFaultPlace, IsFrontPlace}
use Rattle.block_grammar.specs.Combinators.{Reader}
use Rattle.block_grammar.specs.Reading.{transaction_from, header_from, block_from}
use Rattle.block_grammar.proofs.ReaderLaws.{Reads, ok_is}
use Rattle.block_grammar.proofs.PlaceLaws.{first_fault, none_at_front}
use Rattle.block_grammar.proofs.BodyLaws.{transaction_laws}
use Rattle.block_grammar.proofs.HeaderLaws.{header_laws}
use Rattle.block_grammar.proofs.BlockLaws.{block_again, block_takes, block_place, no_block}

pub transaction_again : (front rest : List ℕ) (t : Transaction) → IsTransaction front t → transaction_from (front ++ rest) ≡ Ok (t, rest)
transaction_again front rest t is = ap (λ (x : List ℕ). transaction_from (x ++ rest)) is.text ∙ transaction_laws.again t rest is.fits

-- the front that the first of these values has is the front of the second
pub one_front : (front rest other more : List ℕ) (t u : Transaction) → IsTransaction front t → IsTransaction other u → front ++ rest ≡ other ++ more → (front ≡ other) × (t ≡ u)
one_front front rest other more t u is is' e =
    let read = transaction_again front rest t is in
    let read' = ap transaction_from e ∙ transaction_again other more u is' in
    let same : t ≡ u = ap (λ (x : Transaction × List ℕ). x.0) (ok_is (t, rest) (u, more) (sym read ∙ read')) in
    (is.text ∙ ap transaction_text same ∙ sym is'.text, same)

-- where a reader stops, the place is that of the first fault
pub front_place : {A : Type 0} (text : A → List ℕ) (Fits : A → Type 0) (read : Reader TxKind A) → Reads is_cut text Fits read → (bytes : List ℕ) (kind : TxKind) (rest : List ℕ) → IsBytes bytes
    → read bytes ≡ Err (kind, rest) → IsFrontPlace text Fits bytes (length bytes - length rest)
front_place text Fits read laws bytes kind rest fits e = record {
  none = λ x n is. none_at_front is_cut text Fits read laws bytes (kind, rest) e x n is.fits is.text_is;
  first = first_fault is_cut text Fits read laws bytes (kind, rest) fits e;
}

pub plain_stripped : (t : Transaction) → t.witness ≡ None → stripped_text t ≡ transaction_text t
unfolding stripped_text transaction_text
plain_stripped t e = sym (ap (λ w. to_le_bytes w32 t.version ++ body_text t.inputs t.outputs w t.lock_time) e)

pub header_again : (front rest : List ℕ) (h : Header) → IsHeader front h → header_from (front ++ rest) ≡ Ok (h, rest)
header_again front rest h is = ap (λ (x : List ℕ). header_from (x ++ rest)) is.text ∙ header_laws.again h rest is.fits

pub block_read : (bytes : List ℕ) (b : Block) → IsBytes bytes → (block_from bytes ≡ Ok b) ↔ IsBlock bytes b
block_read bytes b fits = (block_takes bytes b fits, block_again bytes b)

pub same_block : (bytes : List ℕ) (b c : Block) → IsBlock bytes b → IsBlock bytes c → b ≡ c
same_block bytes b c is is' = ok_is b c (sym (block_again bytes b is) ∙ block_again bytes c is')

pub fault_place : (bytes : List ℕ) (kind : BlockKind) (rest : List ℕ) → IsBytes bytes → block_from bytes ≡ Err (kind, rest) → IsFaultPlace bytes (length bytes - length rest)
fault_place bytes kind rest fits e = record { no_block = no_block bytes (kind, rest) e; first = block_place bytes (kind, rest) fits e }
