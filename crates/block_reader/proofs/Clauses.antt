-- The block that bytes are, by the relation and by the reader on lists.
use Rattle.std.proofs.Common.{◌≡◌, ℕ, ◌+◌, ◌-◌, ◌≤◌, List, [], ◌∷◌, ◌++◌, length, drop, refl, sym, ap, subst, ◌∙◌, arith}
use Rattle.std.specs.Prelude.{Result, Ok, Err}
use Rattle.std.proofs.lemmas.List.{drop_at, length-append}
use Rattle.block_grammar.proofs.Readers.{IsBytes}
use Rattle.block_grammar.specs.declared.kinds.BlockKind.{BlockKind}
use Rattle.block_grammar.specs.declared.kinds.BlockKind.TheVariants.{Trailing}
use Rattle.block_grammar.specs.Block.{Block, block_text, IsBlock}
use Rattle.block_grammar.specs.Fault.{IsFaultPlace}
use Rattle.block_grammar.specs.Reading.{block_front_from, ended, block_from}
use Rattle.block_grammar.proofs.ReaderLaws.{ok_is, err_is}
use Rattle.block_grammar.proofs.BlockLaws.{BlockSpot, block_front_laws, block_again, block_cut, no_block}
use Rattle.block_grammar.proofs.Statements.{fault_place}
use Rattle.block_grammar.proofs.BlockRowLaws.{block_told}
use Rattle.block_reader.specs.Whole.{IsFault}

-- the bytes end with those from the place on
pub record Ends (bytes rest : List ℕ) : Type 0 where
  pub front : List ℕ
  pub parts : bytes ≡ front ++ rest

by_front : (bytes : List ℕ) (r : Result (Block × List ℕ) BlockSpot) (kind : BlockKind) (rest : List ℕ) → IsBytes bytes → block_front_from bytes ≡ r → Err (kind, rest) ≡ ended r → Ends bytes rest
by_front bytes (Ok (b, [])) kind rest fits e h = absurd cc
by_front bytes (Ok (b, byte ∷ more)) kind rest fits e h =
    let t = block_front_laws.takes bytes (b, byte ∷ more) fits e in
    let mine : BlockSpot = (kind, rest) in
    let spot = err_is mine (Trailing, byte ∷ more) h in
    record { front = block_text b; parts = t.parts ∙ ap (λ (s : BlockSpot). block_text b ++ s.1) (sym spot) }
by_front bytes (Err w) kind rest fits e h =
    let s = block_front_laws.stops bytes w fits e in
    let mine : BlockSpot = (kind, rest) in
    let spot = err_is mine w h in
    record { front = s.front; parts = s.parts ∙ ap (λ (v : BlockSpot). s.front ++ v.1) (sym spot) }

pub ends : (bytes : List ℕ) (kind : BlockKind) (rest : List ℕ) → IsBytes bytes → Err (kind, rest) ≡ block_from bytes → Ends bytes rest
unfolding block_from
ends bytes kind rest fits e = by_front bytes (block_front_from bytes) kind rest fits refl e

pub shorter : (bytes : List ℕ) (kind : BlockKind) (rest : List ℕ) → IsBytes bytes → Err (kind, rest) ≡ block_from bytes → length rest ≤ length bytes
shorter bytes kind rest fits e = let s = ends bytes kind rest fits e in omega (arith, ap length s.parts, length-append s.front rest)

pub stopped : (bytes : List ℕ) (kind kind' : BlockKind) (place : ℕ) (rest : List ℕ) → IsBytes bytes → Err (kind, rest) ≡ block_from bytes → kind' ≡ kind → place + length rest ≡ length bytes
    → (block_from bytes ≡ Err (kind', drop place bytes)) × (place ≤ length bytes)
stopped bytes kind kind' place rest fits e same count =
    let s = ends bytes kind rest fits e in
    let len : length s.front ≡ place = omega (arith, ap length s.parts, length-append s.front rest, count) in
    let left : drop place bytes ≡ rest = ap (drop place) s.parts ∙ drop_at s.front rest place len in
    (sym e ∙ ap (λ (r : List ℕ). Err (kind, r)) (sym left) ∙ ap (λ (k : BlockKind). Err (k, drop place bytes)) (sym same), omega (arith, count))

pub is_fault : (bytes : List ℕ) (kind kind' : BlockKind) (place : ℕ) (rest : List ℕ) → IsBytes bytes → Err (kind, rest) ≡ block_from bytes → kind' ≡ kind → place + length rest ≡ length bytes
    → IsFault bytes kind' place
is_fault bytes kind kind' place rest fits e same count =
    let at : length bytes - length rest ≡ place = omega (arith, count) in
    let cut = block_cut bytes (kind, rest) fits (sym e) in
    let there = stopped bytes kind kind place rest fits e refl count in
    let row = block_told bytes kind place fits there.1 there.0 in
    subst (λ (k : BlockKind). IsFault bytes k place) (sym same)
    (record {
      row = row;
      first = subst (IsFaultPlace bytes) at (fault_place bytes kind rest fits (sym e));
      cut = ((λ k. sym at ∙ cut.0 k), λ p. cut.1 (at ∙ p));
    })

pub only_block : (bytes : List ℕ) (b c : Block) → Ok b ≡ block_from bytes → IsBlock bytes c → b ≡ c
only_block bytes b c e is = ok_is b c (e ∙ block_again bytes c is)

pub fault_no_block : (bytes : List ℕ) (kind : BlockKind) (rest : List ℕ) (b : Block) → Err (kind, rest) ≡ block_from bytes → IsBlock bytes b → ⊥
fault_no_block bytes kind rest b e is = no_block bytes (kind, rest) (sym e) b is
