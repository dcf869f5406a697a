-- Branches, and the 80 bytes.
use Rattle.std.proofs.Common.{◌≡◌, ℕ, ◌-◌, ◌≤◌, List, [], length, take, refl, sym, arith}
use Rattle.std.specs.Prelude.{Result, Ok, Err}
use Rattle.block_grammar.specs.PureHeader as plain
use Rattle.block_grammar.proofs.Readers.{IsBytes}
use Rattle.block_grammar.specs.Combinators.{then_from, map_from, many_from}
use Rattle.block_grammar.specs.Reading.{size_from, piece_from, fields_from, branch_from}
use Rattle.block_grammar.proofs.HeaderLaws.{fields_laws}
use Rattle.block_grammar.proofs.PlaceLaws.{is_place}
use Rattle.wire_read.specs.Seen.{rest_read}
use Rattle.block_grammar.specs.declared.kinds.TxKind.{TxKind}

abbrev Spot : Type 0
Spot = TxKind × List ℕ

-- only the bytes after a list are kept
list_rest : {A : Type 0} (n : ℕ) (r : Result (List A × List ℕ) Spot) → rest_read (map_from (λ (z : ℕ × List A). z.1) (then_from (λ (b : List ℕ). Ok (n, b)) (λ _ b. r)) []) ≡ rest_read r
list_rest n (Ok xs) = refl
list_rest n (Err e) = refl

pub branch_counted : (n : ℕ) (bytes behind : List ℕ) → Ok (n, behind) ≡ size_from bytes → rest_read (branch_from bytes) ≡ rest_read (many_from (piece_from 32) n behind)
unfolding branch_from
branch_counted n bytes behind e = rw (← e) (list_rest n (many_from (piece_from 32) n behind))

pub branch_uncounted : (bytes : List ℕ) (e : Spot) → Err e ≡ size_from bytes → Err e ≡ rest_read (branch_from bytes)
unfolding branch_from
branch_uncounted bytes e h = rw (← h) refl

-- the 80 bytes
pub record IsFront (bytes behind : List ℕ) (h : plain.PureHeader) : Type 0 where
  pub shorter : length behind ≤ length bytes
  pub text : take (length bytes - length behind) bytes ≡ plain.pure_header_text h

pub is_front : (bytes behind : List ℕ) (h : plain.PureHeader) → IsBytes bytes → Ok (h, behind) ≡ fields_from bytes → IsFront bytes behind h
is_front bytes behind h fits e =
    let t = fields_laws.takes bytes (h, behind) fits (sym e) in
    let p = is_place bytes (plain.pure_header_text h) behind t.parts in
    record { shorter = omega (arith, p.count); text = p.taken }
