-- Reading transactions one after the other, as a loop does that keeps only the bytes after them.
use Rattle.std.proofs.Common.{◌≡◌, ℕ, zero, suc, ◌-◌, ◌+◌, ◌≤◌, ◌<◌, List, [], ◌∷◌, length, refl, sym, ap, ◌∙◌, arith}
use Rattle.std.specs.Prelude.{Result, Ok, Err}
use Rattle.std.proofs.lemmas.List.{length-append}
use Rattle.block_grammar.proofs.Readers.{IsBytes}
use Rattle.block_grammar.specs.declared.kinds.TxKind.{TxKind}
use Rattle.block_grammar.specs.declared.kinds.BlockKind.{BlockKind}
use Rattle.block_grammar.specs.declared.kinds.BlockKind.TheVariants.{Header as in_header, Transaction as in_transaction}
use Rattle.block_grammar.specs.Transaction.{Transaction}
use Rattle.block_grammar.specs.Header.{Header}
use Rattle.block_grammar.specs.Block.{Block, block_text, count_outputs}
use Rattle.block_grammar.specs.Combinators.{◌>>=◌, Reader, then_from, many_from, retold, within}
use Rattle.block_grammar.specs.Reading.{transaction_from, header_from, count_from, block_front_from}
use Rattle.block_grammar.proofs.ReaderLaws.{bind_ok, ok_is}
use Rattle.block_grammar.proofs.BlockLaws.{BlockSpot, block_front_laws}
use Rattle.block_grammar.proofs.Lengths.{transactions_short, outputs_short}
use Rattle.wire_read.specs.Seen.{rest_read, values_read, AreRead}
use Rattle.wire_read.proofs.ManyLaws.{rest_found, found_values, one_more}

-- a loop over transactions keeps only the bytes after each
pub one_behind : {A : Type 0} (read : Reader BlockKind A) (count i : ℕ) (bytes after : List ℕ) (total : Result (List ℕ) BlockSpot) → i < count → Ok after ≡ rest_read (read bytes)
    → rest_read (many_from read (count - i) bytes) ≡ total → rest_read (many_from read (count - (i + 1)) after) ≡ total
one_behind read count i bytes after total lt e so_far =
    let f = rest_found (read bytes) after e in
    one_more read count i bytes f.0 after total lt f.1 so_far

-- ---- the transactions by themselves

told_ok : {A : Type 0} (f : TxKind → BlockKind) (r : Result (A × List ℕ) (TxKind × List ℕ)) (x : A × List ℕ) → retold f r ≡ Ok x → r ≡ Ok x
told_ok f (Ok y) x e = ap (λ (z : _ × List ℕ). Ok z) (ok_is y x e)
told_ok f (Err w) x e = absurd cc

many_known : {A : Type 0} (read : Reader TxKind A) (n : ℕ) (bytes : List ℕ) (x : A × List ℕ) (xs : List A × List ℕ) → read bytes ≡ Ok x → many_from read n x.1 ≡ Ok xs
    → many_from read (suc n) bytes ≡ Ok (x.0 ∷ xs.0, xs.1)
many_known read n bytes x xs e e' = rw (e, e') refl

many_told : {A : Type 0} (f : TxKind → BlockKind) (read : Reader TxKind A) (n : ℕ) (bytes : List ℕ) (z : List A × List ℕ) → many_from (within f read) n bytes ≡ Ok z → (many_from read n bytes ≡ Ok z) × (length z.0 ≡ n)
many_told {A = A} f read zero bytes z e =
    let nothing : List A × List ℕ = ([], bytes) in
    let same = ok_is nothing z e in
    (ap (λ (y : List A × List ℕ). Ok y) same, ap (λ (y : List A × List ℕ). length y.0) (sym same))
many_told {A = A} f read (suc n) bytes z e =
    let p = bind_ok (then_from (within f read) (λ _. many_from (within f read) n) bytes) (λ (q : (A × List A) × List ℕ). Ok (q.0.0 ∷ q.0.1, q.1)) z e in
    let x = bind_ok (within f read bytes) (λ (y : A × List ℕ). many_from (within f read) n y.1 >>= λ (ys : List A × List ℕ). Ok ((y.0, ys.0), ys.1)) p.0 p.1 in
    let ys = bind_ok (many_from (within f read) n x.0.1) (λ (ys : List A × List ℕ). Ok ((x.0.0, ys.0), ys.1)) p.0 x.2 in
    let rec = many_told f read n x.0.1 ys.0 ys.1 in
    let made : (A × List A) × List ℕ = ((x.0.0, ys.0.0), ys.0.1) in
    let pair : made ≡ p.0 = ok_is made p.0 ys.2 in
    let whole : List A × List ℕ = (p.0.0.0 ∷ p.0.0.1, p.0.1) in
    let out : whole ≡ z = ok_is whole z p.2 in
    let mine : List A × List ℕ = (x.0.0 ∷ ys.0.0, ys.0.1) in
    let same : mine ≡ z = ap (λ (q : (A × List A) × List ℕ). (q.0.0 ∷ q.0.1, q.1)) pair ∙ out in
    (many_known read n bytes x.0 ys.0 (told_ok f (read bytes) x.0 x.1) rec.0 ∙ ap (λ (y : List A × List ℕ). Ok y) same, ap (λ (y : List A × List ℕ). length y.0) (sym same) ∙ ap suc rec.1)

-- ---- what a block is made of

front_known : (bytes rest behind after : List ℕ) (h : Header) (count : ℕ) (ts : List Transaction) → within in_header header_from bytes ≡ Ok (h, rest) → count_from rest ≡ Ok (count, behind)
    → many_from (within in_transaction transaction_from) count behind ≡ Ok (ts, after) → block_front_from bytes ≡ Ok (record { header = h; transactions = ts }, after)
unfolding block_front_from
front_known bytes rest behind after h count ts e e' e'' = rw (e, e', e'') refl

pub record Front (bytes behind after : List ℕ) (h : Header) (count : ℕ) : Type 0 where
  pub transactions : List Transaction
  pub whole : block_front_from bytes ≡ Ok (record { header = h; transactions = transactions }, after)
  pub found : AreRead (many_from transaction_from count behind)
  pub values : values_read (many_from transaction_from count behind) ≡ transactions
  pub len : length transactions ≡ count
  pub below : count ≤ length bytes
  pub some : 1 ≤ length transactions
  pub few_outputs : count_outputs transactions ≤ length bytes

pub is_front : (bytes rest behind after : List ℕ) (h : Header) (count : ℕ) → IsBytes bytes → Ok (h, rest) ≡ within in_header header_from bytes → Ok (count, behind) ≡ count_from rest
    → Ok after ≡ rest_read (many_from (within in_transaction transaction_from) count behind) → Front bytes behind after h count
is_front bytes rest behind after h count fits e e' e'' =
    let f = rest_found (many_from (within in_transaction transaction_from) count behind) after e'' in
    let b : Block = record { header = h; transactions = f.0 } in
    let whole : block_front_from bytes ≡ Ok (b, after) = front_known bytes rest behind after h count f.0 (sym e) (sym e') f.1 in
    let t = block_front_laws.takes bytes (b, after) fits whole in
    let m = many_told in_transaction transaction_from count behind (f.0, after) f.1 in
    let v = found_values (many_from transaction_from count behind) (f.0, after) m.0 in
    record {
      transactions = f.0;
      whole = whole;
      found = v.0;
      values = v.1;
      len = m.1;
      some = t.fits.some_transaction;
      below = omega (arith, m.1, transactions_short b, ap length t.parts, length-append (block_text b) after);
      few_outputs = omega (arith, outputs_short b, ap length t.parts, length-append (block_text b) after);
    }
