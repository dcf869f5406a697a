-- The laws of blocks.
use Rattle.std.proofs.Common.{◌≡◌, ℕ, ◌-◌, ◌^◌, ◌↔◌, ◌⊎◌, true, false, List, [], ◌∷◌, ◌++◌, length, refl, sym, ap, subst, ◌∙◌, append_assoc, append-nil, arith, inl, inr}
use Rattle.std.specs.Prelude.{Result, Ok, Err}
use Rattle.std.specs.List.{flat_map}
use Rattle.block_grammar.specs.CompactSize.{compact_size}
use Rattle.block_grammar.proofs.Readers.{IsBytes}
use Rattle.block_grammar.specs.declared.kinds.BlockKind.{BlockKind}
use Rattle.block_grammar.specs.declared.kinds.BlockKind.TheVariants.{Header as in_header, Count as in_count, NoTransaction, Transaction as in_transaction, Trailing}
use Rattle.block_grammar.specs.Kinds.{is_cut, is_cut_block}
use Rattle.block_grammar.specs.Fault.{IsFront, IsFirstFault}
use Rattle.block_grammar.specs.Transaction.{Transaction, transaction_text, FitsTransaction}
use Rattle.block_grammar.specs.Header.{Header, header_text, FitsHeader}
use Rattle.block_grammar.specs.Block.{Block, block_text, FitsBlock, IsBlock}
use Rattle.block_grammar.specs.Combinators.{Reader, then_from, many_from, within}
use Rattle.block_grammar.specs.Reading.{size_from, transaction_from, header_from, count_from, block_front_from, ended, block_from}
use Rattle.block_grammar.proofs.ReaderLaws.{Reads, Nonzero, ok_is, err_is, ok_err, pair_text, PairFits, ManyFit, then_reads, map_reads, many_reads, within_reads, nonzero_reads}
use Rattle.block_grammar.proofs.FieldLaws.{IsBelow, IsCount, size_laws, size_nonzero}
use Rattle.block_grammar.proofs.BodyLaws.{transaction_laws}
use Rattle.block_grammar.proofs.HeaderLaws.{header_laws}
use Rattle.block_grammar.proofs.PlaceLaws.{is_place, one_further, first_fault, cut_place}

abbrev pub BlockSpot : Type 0
BlockSpot = BlockKind × List ℕ

count_nonzero : Nonzero {K = BlockKind} compact_size (IsBelow (2 ^ 64)) IsCount (within in_count size_from)
unfolding size_from
count_nonzero = record { fits = size_nonzero.fits; first_byte = size_nonzero.first_byte; still = size_nonzero.still; empty = λ x e. cc; sample = size_nonzero.sample; sample_fits = size_nonzero.sample_fits }

pub count_laws : Reads is_cut_block compact_size IsCount count_from
unfolding count_from
count_laws =
    nonzero_reads is_cut_block NoTransaction compact_size (IsBelow (2 ^ 64)) IsCount (within in_count size_from) refl count_nonzero
    (within_reads is_cut is_cut_block in_count compact_size (IsBelow (2 ^ 64)) size_from (λ k. refl) size_laws)

abbrev pub headed : Reader BlockKind Header
headed = within in_header header_from

abbrev pub carried : Reader BlockKind Transaction
carried = within in_transaction transaction_from

pub headed_laws : Reads is_cut_block header_text FitsHeader headed
headed_laws = within_reads is_cut is_cut_block in_header header_text FitsHeader header_from (λ k. refl) header_laws

pub carried_laws : Reads is_cut_block transaction_text FitsTransaction carried
carried_laws = within_reads is_cut is_cut_block in_transaction transaction_text FitsTransaction transaction_from (λ k. refl) transaction_laws

pub block_front_laws : Reads is_cut_block block_text FitsBlock block_front_from
unfolding block_front_from block_text
block_front_laws =
    map_reads is_cut_block (λ (x : Header × (ℕ × List Transaction)). record { header = x.0; transactions = x.1.1 }) (λ (b : Block). (b.header, (length b.transactions, b.transactions)))
    (pair_text header_text (λ _. pair_text compact_size (λ _. flat_map transaction_text))) (PairFits FitsHeader (λ _. PairFits IsCount (ManyFit FitsTransaction))) (then_from headed (λ _. then_from count_from (many_from carried))) block_text FitsBlock
    (λ b fits. refl) (λ x fits. rw fits.1.1.0 refl) to from
    (then_reads is_cut_block header_text FitsHeader headed (λ _. pair_text compact_size (λ _. flat_map transaction_text)) (λ _. PairFits IsCount (ManyFit FitsTransaction)) (λ _. then_from count_from (many_from carried))
    headed_laws (λ _ _.
    then_reads is_cut_block compact_size IsCount count_from (λ _. flat_map transaction_text) (ManyFit FitsTransaction) (many_from carried) count_laws (λ n _.
    many_reads is_cut_block transaction_text FitsTransaction carried carried_laws n)))
  where
    to : (x : Header × (ℕ × List Transaction)) → PairFits FitsHeader (λ _. PairFits IsCount (ManyFit FitsTransaction)) x → FitsBlock (record { header = x.0; transactions = x.1.1 })
    to x fits = record {
      header = fits.0;
      some_transaction = omega (arith, fits.1.0.0, fits.1.1.0);
      transaction_count = omega (arith, fits.1.0.1, fits.1.1.0);
      transactions = fits.1.1.1;
    }

    from : (b : Block) → FitsBlock b → PairFits FitsHeader (λ _. PairFits IsCount (ManyFit FitsTransaction)) (b.header, (length b.transactions, b.transactions))
    from b fits = (fits.header, ((fits.some_transaction, fits.transaction_count), (refl, fits.transactions)))

-- ---- all bytes are the block

pub block_again : (bytes : List ℕ) (b : Block) → IsBlock bytes b → block_from bytes ≡ Ok b
unfolding block_from
block_again bytes b is =
    let read : block_front_from bytes ≡ Ok (b, []) = ap block_front_from (is.text ∙ sym (append-nil (block_text b))) ∙ block_front_laws.again b [] is.fits in
    rw read refl

-- what led to the end, and what stopped before it
ended_ok : (r : Result (Block × List ℕ) BlockSpot) (b : Block) → ended r ≡ Ok b → r ≡ Ok (b, [])
ended_ok (Ok (c, [])) b e = let same : c ≡ b = cc in ap (λ (x : Block). Ok (x, [])) same
ended_ok (Ok (c, byte ∷ rest)) b e = absurd cc
ended_ok (Err w) b e = absurd cc

pub ended_err : (r : Result (Block × List ℕ) BlockSpot) (e : BlockSpot) → ended r ≡ Err e → (r ≡ Err e) ⊎ ((b : Block) × (byte : ℕ) × (rest : List ℕ) × (r ≡ Ok (b, byte ∷ rest)) × ((Trailing, byte ∷ rest) ≡ e))
ended_err (Ok (c, [])) e h = absurd cc
ended_err (Ok (c, byte ∷ rest)) e h = inr (c, byte, rest, refl, err_is (Trailing, byte ∷ rest) e h)
ended_err (Err w) e h = inl (ap (λ (v : BlockSpot). Err v) (err_is w e h))

pub block_takes : (bytes : List ℕ) (b : Block) → IsBytes bytes → block_from bytes ≡ Ok b → IsBlock bytes b
unfolding block_from
block_takes bytes b fits e =
    let t = block_front_laws.takes bytes (b, []) fits (ended_ok (block_front_from bytes) b e) in
    record { fits = t.fits; text = t.parts ∙ append-nil (block_text b) }

-- where bytes stand behind the block, the first of them is the fault
trailing_fault : (bytes : List ℕ) (b : Block) (byte : ℕ) (rest : List ℕ) → IsBytes bytes → block_front_from bytes ≡ Ok (b, byte ∷ rest)
    → IsFirstFault block_text FitsBlock bytes (length bytes - length (byte ∷ rest))
trailing_fault bytes b byte rest fits e =
    let t = block_front_laws.takes bytes (b, byte ∷ rest) fits e in
    let p = is_place bytes (block_text b) (byte ∷ rest) t.parts in
    let place = length bytes - length (byte ∷ rest) in
    record {
      inside = omega arith;
      front = record { value = b; fits = t.fits; more = []; text_is = sym (append-nil (block_text b)) ∙ ap (λ (x : List ℕ). x ++ []) (sym p.taken) };
      no_further = inr (λ f. clash (subst (IsFront block_text FitsBlock) (one_further bytes (block_text b) byte rest place t.parts p.place) f));
    }
  where
    clash : IsFront block_text FitsBlock (block_text b ++ byte ∷ []) → ⊥
    clash f =
        let t = block_front_laws.takes bytes (b, byte ∷ rest) fits e in
        let whole = block_front_laws.again f.value [] f.fits in
        let part = block_front_laws.again b (byte ∷ f.more) t.fits in
        let same : block_text f.value ++ [] ≡ block_text b ++ (byte ∷ f.more) = append-nil (block_text f.value) ∙ f.text_is ∙ append_assoc (block_text b) (byte ∷ []) f.more in
        let pair = ok_is (f.value, []) (b, byte ∷ f.more) (sym whole ∙ ap block_front_from same ∙ part) in
        let ends : [] ≡ byte ∷ f.more = ap (λ (x : Block × List ℕ). x.1) pair in
        cc

pub block_place : (bytes : List ℕ) (e : BlockSpot) → IsBytes bytes → block_from bytes ≡ Err e → IsFirstFault block_text FitsBlock bytes (length bytes - length e.1)
unfolding block_from
block_place bytes e fits h =
    elim (ended_err (block_front_from bytes) e h) [
      | inl w ↦ first_fault is_cut_block block_text FitsBlock block_front_from block_front_laws bytes e fits w
      | inr t ↦ subst (λ (v : BlockSpot). IsFirstFault block_text FitsBlock bytes (length bytes - length v.1)) t.4 (trailing_fault bytes t.0 t.1 t.2 fits t.3)
    ]

pub block_cut : (bytes : List ℕ) (e : BlockSpot) → IsBytes bytes → block_from bytes ≡ Err e → (is_cut_block e.0 ≡ true) ↔ (length bytes - length e.1 ≡ length bytes)
unfolding block_from
block_cut bytes e fits h =
    elim (ended_err (block_front_from bytes) e h) [
      | inl w ↦ cut_place is_cut_block block_text FitsBlock block_front_from block_front_laws bytes e fits w
      | inr t ↦ subst (λ (v : BlockSpot). (is_cut_block v.0 ≡ true) ↔ (length bytes - length v.1 ≡ length bytes)) t.4 (trailing t.0 t.1 t.2 t.3)
    ]
  where
    trailing : (b : Block) (byte : ℕ) (rest : List ℕ) → block_front_from bytes ≡ Ok (b, byte ∷ rest) → (false ≡ true) ↔ (length bytes - length (byte ∷ rest) ≡ length bytes)
    trailing b byte rest e' =
        let t = block_front_laws.takes bytes (b, byte ∷ rest) fits e' in
        let p = is_place bytes (block_text b) (byte ∷ rest) t.parts in
        ((λ w. absurd cc), λ place. absurd (omega (arith, place, p.count)))

-- no block is bytes that have a fault
pub no_block : (bytes : List ℕ) (e : BlockSpot) → block_from bytes ≡ Err e → (b : Block) → IsBlock bytes b → ⊥
no_block bytes e h b is = ok_err (block_from bytes) b e (block_again bytes b is) h
