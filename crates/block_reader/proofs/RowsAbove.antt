-- Rows of a Merkle tree, as loops make them.
use Rattle.std.proofs.Common.{◌≡◌, ℕ, suc, ◌+◌, ◌≤◌, ◌<◌, List, [], ◌∷◌, ◌++◌, length, map, take, drop, set, get_or, refl, sym, ap, ◌∙◌, append_assoc, append-nil, arith}
use Rattle.std.proofs.lemmas.List.{take_more_set, drop-set-lt, drop-drop}
use Rattle.std.proofs.Math.ListN.{drop_of_length-le}
use Rattle.nmc_base.specs.declared.hashes.Hash32.{Hash32}
use Rattle.block_grammar.specs.Transaction.{Transaction, txid_of}
use Rattle.block_grammar.specs.Merkle.{paired_row, merkle_root_of}
use Rattle.block_grammar.proofs.MerkleLaws.{one_root, next_root, row_shorter}
use Rattle.block_reader.specs.Rows.{seen_row}

seen_more : (row : List Hash32) (h : Hash32) → seen_row (row ++ h ∷ []) ≡ seen_row row ++ h.0 ∷ []
seen_more [] h = refl
seen_more (x ∷ xs) h = ap (λ (r : List (List ℕ)). x.0 ∷ r) (seen_more xs h)

seen_length : (row : List Hash32) → length (seen_row row) ≡ length row
seen_length [] = refl
seen_length (x ∷ xs) = ap suc (seen_length xs)

-- ---- ids

pub one_more_id : (row row' : List Hash32) (h : Hash32) (t : Transaction) (left : List Transaction) (total : List (List ℕ)) → row' ≡ row ++ h ∷ [] → h.0 ≡ txid_of t
    → seen_row row ++ map txid_of (t ∷ left) ≡ total → seen_row row' ++ map txid_of left ≡ total
one_more_id row row' h t left total pushed is so_far =
    ap (λ (r : List Hash32). seen_row r ++ map txid_of left) pushed
    ∙ ap (λ (r : List (List ℕ)). r ++ map txid_of left) (seen_more row h)
    ∙ append_assoc (seen_row row) (h.0 ∷ []) (map txid_of left)
    ∙ ap (λ (x : List ℕ). seen_row row ++ (x ∷ map txid_of left)) is
    ∙ so_far

-- ---- rows

pair_head : (left right x : List ℕ) (more : List (List ℕ)) → paired_row (left ∷ right ∷ []) ≡ x ∷ [] → paired_row (left ∷ right ∷ more) ≡ x ∷ paired_row more
pair_head left right x more e = let head = ap (λ (r : List (List ℕ)). first_of r) e in ap (λ (h : List ℕ). h ∷ paired_row more) head
  where
    first_of : List (List ℕ) → List ℕ
    first_of [] = []
    first_of (y ∷ ys) = y

pub one_more_pair : (above above' : List Hash32) (left right joined : Hash32) (more : List Hash32) (total : List (List ℕ)) → above' ≡ above ++ joined ∷ [] → paired_row (left.0 ∷ right.0 ∷ []) ≡ joined.0 ∷ []
    → seen_row above ++ paired_row (seen_row (left ∷ right ∷ more)) ≡ total → seen_row above' ++ paired_row (seen_row more) ≡ total
one_more_pair above above' left right joined more total pushed is so_far =
    ap (λ (r : List Hash32). seen_row r ++ paired_row (seen_row more)) pushed
    ∙ ap (λ (r : List (List ℕ)). r ++ paired_row (seen_row more)) (seen_more above joined)
    ∙ append_assoc (seen_row above) (joined.0 ∷ []) (paired_row (seen_row more))
    ∙ ap (λ (r : List (List ℕ)). seen_row above ++ r) (sym (pair_head left.0 right.0 joined.0 (seen_row more) is))
    ∙ so_far

pub last_pair : (above above' : List Hash32) (last joined : Hash32) (total : List (List ℕ)) → above' ≡ above ++ joined ∷ [] → paired_row (last.0 ∷ last.0 ∷ []) ≡ joined.0 ∷ []
    → seen_row above ++ paired_row (seen_row (last ∷ [])) ≡ total → seen_row above' ≡ total
last_pair above above' last joined total pushed is so_far =
    ap seen_row pushed ∙ seen_more above joined ∙ ap (λ (r : List (List ℕ)). seen_row above ++ r) (sym is) ∙ so_far

pub no_pair : (above : List Hash32) (total : List (List ℕ)) → seen_row above ++ paired_row (seen_row []) ≡ total → seen_row above ≡ total
no_pair above total so_far = sym (append-nil (seen_row above)) ∙ so_far

-- the next pair, put behind those that stand in the row that they are made of
pub pair_placed : (row : List Hash32) (made next : ℕ) (h : Hash32) (total : List (List ℕ)) → made ≤ next → next < length row
    → paired_row (seen_row (drop next row)) ≡ h.0 ∷ paired_row (seen_row (drop 2 (drop next row))) → seen_row (take made row) ++ paired_row (seen_row (drop next row)) ≡ total
    → seen_row (take (made + 1) (set row made h)) ++ paired_row (seen_row (drop (next + 2) (set row made h))) ≡ total
pair_placed row made next h total behind inside pair so_far =
    let front : seen_row (take (made + 1) (set row made h)) ≡ seen_row (take made row) ++ h.0 ∷ [] = ap seen_row (take_more_set row made h (omega arith)) ∙ seen_more (take made row) h in
    let rest : drop (next + 2) (set row made h) ≡ drop 2 (drop next row) = drop-set-lt (next + 2) row made h (omega arith) ∙ sym (drop-drop 2 next row) in
    let above = paired_row (seen_row (drop 2 (drop next row))) in
    ap (λ (r : List Hash32). seen_row (take (made + 1) (set row made h)) ++ paired_row (seen_row r)) rest
    ∙ ap (λ (f : List (List ℕ)). f ++ above) front
    ∙ append_assoc (seen_row (take made row)) (h.0 ∷ []) above
    ∙ ap (λ (r : List (List ℕ)). seen_row (take made row) ++ r) (sym pair)
    ∙ so_far

-- no pair is left
pub pairs_end : (row : List Hash32) (made next : ℕ) (total : List (List ℕ)) → length row ≤ next → seen_row (take made row) ++ paired_row (seen_row (drop next row)) ≡ total → seen_row (take made row) ≡ total
pairs_end row made next total le so_far =
    let none : drop next row ≡ [] = drop_of_length-le row le in
    sym (ap (λ (r : List Hash32). seen_row (take made row) ++ paired_row (seen_row r)) none ∙ append-nil (seen_row (take made row))) ∙ so_far

-- ---- up to the root

-- the row above more than one hash
pub record RowAbove (row above : List Hash32) : Type 0 where
  pub shorter : length above < length row
  pub some : 1 ≤ length above
  pub root : merkle_root_of (seen_row above) ≡ merkle_root_of (seen_row row)

pub row_above_root : (row above : List Hash32) → 1 < length row → seen_row above ≡ paired_row (seen_row row) → RowAbove row above
row_above_root [] above more e = absurd (omega (arith, more))
row_above_root (x ∷ []) above more e = absurd (omega (arith, more))
row_above_root (x ∷ y ∷ row) above more e = record {
  shorter = omega (arith, row_shorter (seen_row row), ap length e, seen_length above, seen_length row);
  some = omega (arith, ap length e, seen_length above);
  root = ap merkle_root_of e ∙ sym (next_root x.0 y.0 (seen_row row));
}

pub ids_some : (row : List Hash32) (ts : List Transaction) → seen_row row ≡ map txid_of ts → 1 ≤ length ts → 1 ≤ length row
ids_some [] [] e some = some
ids_some [] (t ∷ ts) e some = absurd cc
ids_some (h ∷ row) ts e some = omega arith

-- the root of one hash
pub one_left : (row : List Hash32) (d : Hash32) → 1 ≤ length row → length row < 2 → (get_or row 0 d).0 ≡ merkle_root_of (seen_row row)
one_left [] d some few = absurd (omega (arith, some))
one_left (x ∷ []) d some few = sym (one_root x.0)
one_left (x ∷ y ∷ row) d some few = absurd (omega (arith, few))

pub root_left : (row : List Hash32) (root : Hash32) (total : List ℕ) → 1 ≤ length row → length row ≤ 1 → root ≡ get_or row 0 root → merkle_root_of (seen_row row) ≡ total → root.0 ≡ total
root_left [] root total some one e so_far = absurd (omega (arith, some))
root_left (x ∷ []) root total some one e so_far = ap (λ (h : Hash32). h.0) e ∙ sym (one_root x.0) ∙ so_far
root_left (x ∷ y ∷ row) root total some one e so_far = absurd (omega (arith, one))
