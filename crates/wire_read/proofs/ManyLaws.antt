-- Reading values one after the other up to the first fault, as a loop does that keeps only the bytes after them.
use Rattle.std.proofs.Common.{◌≡◌, ℕ, zero, suc, ◌-◌, ◌+◌, ◌≤◌, ◌<◌, List, [], ◌∷◌, length, refl, sym, ap, ◌∙◌, arith}
use Rattle.std.specs.Prelude.{Result, Ok, Err}
use Rattle.block_grammar.specs.Combinators.{◌>>=◌, Reader, then_from, map_from, many_from}
use Rattle.block_grammar.proofs.ReaderLaws.{bind_ok, ok_is}
use Rattle.wire_read.specs.Seen.{rest_read, values_read, AreRead}

-- ---- what led to the bytes that are left

pub rest_found : {K A : Type 0} (r : Result (A × List ℕ) (K × List ℕ)) (rest : List ℕ) → Ok rest ≡ rest_read r → (x : A) × (r ≡ Ok (x, rest))
rest_found (Ok x) rest e = let same : x.1 ≡ rest = cc in (x.0, ap (λ (t : List ℕ). Ok (x.0, t)) same)
rest_found (Err w) rest e = absurd cc

pub rest_failed : {K A : Type 0} (r : Result (A × List ℕ) (K × List ℕ)) (e : K × List ℕ) → Err e ≡ rest_read r → r ≡ Err e
rest_failed (Ok x) e h = absurd cc
rest_failed {K = K} (Err w) e h = let same : w ≡ e = cc in ap (λ (v : K × List ℕ). Err v) same

pub found_values : {A E : Type 0} (r : Result (List A × List ℕ) E) (x : List A × List ℕ) → r ≡ Ok x → AreRead r × (values_read r ≡ x.0)
found_values (Ok y) x e = (tt, ap (λ (z : _ × List ℕ). z.0) (ok_is y x e))
found_values (Err w) x e = absurd cc

-- ---- one value more

one_behind : {K A : Type 0} (x : A) (r : Result (List A × List ℕ) (K × List ℕ)) → rest_read (map_from (λ (z : A × List A). z.0 ∷ z.1) (then_from (λ (b : List ℕ). Ok (x, b)) (λ _ b. r)) []) ≡ rest_read r
one_behind x (Ok xs) = refl
one_behind x (Err e) = refl

pub one_more : {K A : Type 0} (read : Reader K A) (count i : ℕ) (bytes : List ℕ) (x : A) (after : List ℕ) (total : Result (List ℕ) (K × List ℕ)) → i < count → read bytes ≡ Ok (x, after)
    → rest_read (many_from read (count - i) bytes) ≡ total → rest_read (many_from read (count - (i + 1)) after) ≡ total
one_more read count i bytes x after total lt found so_far =
    let k : count - i ≡ suc (count - (i + 1)) = omega arith in
    let one : rest_read (many_from read (count - i) bytes) ≡ rest_read (many_from read (count - (i + 1)) after) = rw (k, found) (one_behind x (many_from read (count - (i + 1)) after)) in
    sym one ∙ so_far

pub stops : {K A : Type 0} (read : Reader K A) (count i : ℕ) (bytes : List ℕ) (e : K × List ℕ) (total : Result (List ℕ) (K × List ℕ)) → i < count → read bytes ≡ Err e
    → rest_read (many_from read (count - i) bytes) ≡ total → Err e ≡ total
stops read count i bytes e total lt found so_far =
    let k : count - i ≡ suc (count - (i + 1)) = omega arith in
    let fault : rest_read (many_from read (count - i) bytes) ≡ Err e = rw (k, found) refl in
    sym fault ∙ so_far

pub ends : {K A : Type 0} (read : Reader K A) (count i : ℕ) (bytes : List ℕ) (total : Result (List ℕ) (K × List ℕ)) → count ≤ i
    → rest_read (many_from read (count - i) bytes) ≡ total → Ok bytes ≡ total
ends read count i bytes total le so_far =
    let k : count - i ≡ 0 = omega arith in
    let done : rest_read (many_from read (count - i) bytes) ≡ Ok bytes = rw k refl in
    sym done ∙ so_far

-- ---- how many there are

pub many_length : {K A : Type 0} (read : Reader K A) (n : ℕ) (bytes : List ℕ) (xs : List A) (rest : List ℕ) → many_from read n bytes ≡ Ok (xs, rest) → length xs ≡ n
many_length {A = A} read zero bytes xs rest e =
    let none : List A × List ℕ = ([], bytes) in
    ap (λ (z : List A × List ℕ). length z.0) (sym (ok_is none (xs, rest) e))
many_length {A = A} read (suc n) bytes xs rest e =
    let p = bind_ok (then_from read (λ _. many_from read n) bytes) (λ (z : (A × List A) × List ℕ). Ok (z.0.0 ∷ z.0.1, z.1)) (xs, rest) e in
    let x = bind_ok (read bytes) (λ (y : A × List ℕ). many_from read n y.1 >>= λ (ys : List A × List ℕ). Ok ((y.0, ys.0), ys.1)) p.0 p.1 in
    let ys = bind_ok (many_from read n x.0.1) (λ (ys : List A × List ℕ). Ok ((x.0.0, ys.0), ys.1)) p.0 x.2 in
    let rec = many_length read n x.0.1 ys.0.0 ys.0.1 ys.1 in
    let made : (A × List A) × List ℕ = ((x.0.0, ys.0.0), ys.0.1) in
    let pair : made ≡ p.0 = ok_is made p.0 ys.2 in
    let whole : List A × List ℕ = (p.0.0.0 ∷ p.0.0.1, p.0.1) in
    let out : whole ≡ (xs, rest) = ok_is whole (xs, rest) p.2 in
    ap (λ (z : List A × List ℕ). length z.0) (sym out) ∙ ap (λ (z : (A × List A) × List ℕ). suc (length z.0.1)) (sym pair) ∙ ap suc rec

pub values_count : {K A : Type 0} (read : Reader K A) (n : ℕ) (bytes : List ℕ) → AreRead (many_from read n bytes) → length (values_read (many_from read n bytes)) ≡ n
values_count {K = K} {A = A} read n bytes some = by_case (many_from read n bytes) some (λ z e. many_length read n bytes z.0 z.1 e)
  where
    by_case : (r : Result (List A × List ℕ) (K × List ℕ)) → AreRead r → ((z : List A × List ℕ) → r ≡ Ok z → length z.0 ≡ n) → length (values_read r) ≡ n
    by_case (Ok z) some count = count z refl
    by_case (Err e) some count = absurd some

-- ---- a list, by its number and its values

pub list_known : {K A : Type 0} (count_from : Reader K ℕ) (read : Reader K A) (n : ℕ) (bytes behind : List ℕ) (xs : List A) (rest : List ℕ) → count_from bytes ≡ Ok (n, behind)
    → many_from read n behind ≡ Ok (xs, rest) → map_from (λ x. x.1) (then_from count_from (many_from read)) bytes ≡ Ok (xs, rest)
list_known count_from read n bytes behind xs rest e found = rw (e, found) refl

pub list_failed : {K A : Type 0} (count_from : Reader K ℕ) (read : Reader K A) (n : ℕ) (bytes behind : List ℕ) (w : K × List ℕ) → count_from bytes ≡ Ok (n, behind)
    → many_from read n behind ≡ Err w → map_from (λ x. x.1) (then_from count_from (many_from read)) bytes ≡ Err w
list_failed count_from read n bytes behind w e failed = rw (e, failed) refl

pub list_uncounted : {K A : Type 0} (count_from : Reader K ℕ) (read : Reader K A) (bytes : List ℕ) (w : K × List ℕ) → count_from bytes ≡ Err w
    → map_from (λ x. x.1) (then_from count_from (many_from read)) bytes ≡ Err w
list_uncounted count_from read bytes w e = rw e refl

-- what a loop keeps of a list
pub record IsListed {K A : Type 0} (count_from : Reader K ℕ) (read : Reader K A) (n : ℕ) (bytes behind rest : List ℕ) : Type 0 where
  pub some : AreRead (many_from read n behind)
  pub listed : Ok (values_read (many_from read n behind), rest) ≡ map_from (λ x. x.1) (then_from count_from (many_from read)) bytes

pub is_listed : {K A : Type 0} (count_from : Reader K ℕ) (read : Reader K A) (n : ℕ) (bytes behind rest : List ℕ) → Ok (n, behind) ≡ count_from bytes → Ok rest ≡ rest_read (many_from read n behind)
    → IsListed count_from read n bytes behind rest
is_listed {A = A} count_from read n bytes behind rest e found =
    let f = rest_found (many_from read n behind) rest found in
    let v = found_values (many_from read n behind) (f.0, rest) f.1 in
    record { some = v.0; listed = ap (λ (xs : List A). Ok (xs, rest)) v.1 ∙ sym (list_known count_from read n bytes behind f.0 rest (sym e) f.1) }
