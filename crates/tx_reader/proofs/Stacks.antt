-- The lists of a witness, one after the other.
use Rattle.std.proofs.Common.{◌≡◌, ℕ, suc, ◌-◌, ◌+◌, ◌≤◌, ◌<◌, Bool, false, not, ◌||◌, eqb, List, [], ◌∷◌, length, refl, sym, ap, ◌∙◌, arith}
use Rattle.std.specs.Prelude.{Result, Ok, Err}
use Rattle.std.proofs.lemmas.Bool.{ne_eqb}
use Rattle.block_grammar.specs.declared.kinds.TxKind.{TxKind}
use Rattle.block_grammar.specs.Witness.{has_item}
use Rattle.block_grammar.specs.Combinators.{then_from, map_from, many_from}
use Rattle.block_grammar.specs.Reading.{size_from, counted_from, stack_from, last_stack_from, stacks_from}
use Rattle.block_grammar.proofs.ReaderLaws.{ok_is}
use Rattle.wire_read.specs.Seen.{rest_read, values_read}
use Rattle.wire_read.proofs.ManyLaws.{rest_found, rest_failed, many_length, list_known, list_failed, list_uncounted}

abbrev Spot : Type 0
Spot = TxKind × List ℕ

item_there : (stack : List (List ℕ)) → has_item stack ≡ not (eqb (length stack) 0)
item_there [] = refl
item_there (item ∷ items) = let some : eqb (length (item ∷ items)) 0 ≡ false = ne_eqb (length (item ∷ items)) 0 (λ e. omega arith) in rw some refl

-- ---- one list

has_known : (bytes : List ℕ) (stack : List (List ℕ)) (rest : List ℕ) → stack_from bytes ≡ Ok (stack, rest) → map_from has_item stack_from bytes ≡ Ok (has_item stack, rest)
has_known bytes stack rest e = rw e refl

has_failed : (bytes : List ℕ) (w : Spot) → stack_from bytes ≡ Err w → map_from has_item stack_from bytes ≡ Err w
has_failed bytes w e = rw e refl

pub stack_ok : (count : ℕ) (bytes behind rest : List ℕ) → Ok (count, behind) ≡ size_from bytes → Ok rest ≡ rest_read (many_from counted_from count behind)
    → Ok (not (eqb count 0), rest) ≡ map_from has_item stack_from bytes
unfolding stack_from
stack_ok count bytes behind rest e found =
    let f = rest_found (many_from counted_from count behind) rest found in
    let stack : stack_from bytes ≡ Ok (f.0, rest) = list_known size_from counted_from count bytes behind f.0 rest (sym e) f.1 in
    let len = many_length counted_from count behind f.0 rest f.1 in
    let is : has_item f.0 ≡ not (eqb count 0) = item_there f.0 ∙ ap (λ (n : ℕ). not (eqb n 0)) len in
    ap (λ (b : Bool). Ok (b, rest)) (sym is) ∙ sym (has_known bytes f.0 rest stack)

pub stack_uncounted : (bytes : List ℕ) (e : Spot) → Err e ≡ size_from bytes → Err e ≡ map_from has_item stack_from bytes
unfolding stack_from
stack_uncounted bytes e h = sym (has_failed bytes e (list_uncounted size_from counted_from bytes e (sym h)))

pub stack_unread : (count : ℕ) (bytes behind : List ℕ) (e : Spot) → Ok (count, behind) ≡ size_from bytes → Err e ≡ rest_read (many_from counted_from count behind) → Err e ≡ map_from has_item stack_from bytes
unfolding stack_from
stack_unread count bytes behind e h failed = sym (has_failed bytes e (list_failed size_from counted_from count bytes behind e (sym h) (rest_failed (many_from counted_from count behind) e failed)))

-- what led to knowing whether a list has an item
has_ok : (r : Result (List (List ℕ) × List ℕ) Spot) (has : Bool) (after : List ℕ) → Ok (has, after) ≡ map_from has_item (λ _. r) [] → (x : List (List ℕ)) × (r ≡ Ok (x, after)) × (has_item x ≡ has)
has_ok (Ok x) has after e =
    let same : Bool × List ℕ = (has, after) in
    let pair = ok_is same (has_item x.0, x.1) e in
    (x.0, ap (λ (z : Bool × List ℕ). Ok (x.0, z.1)) (sym pair), ap (λ (z : Bool × List ℕ). z.0) (sym pair))
has_ok (Err w) has after e = absurd cc

has_err : (r : Result (List (List ℕ) × List ℕ) Spot) (e : Spot) → Err e ≡ map_from has_item (λ _. r) [] → r ≡ Err e
has_err (Ok x) e h = absurd cc
has_err (Err w) e h = let same : w ≡ e = cc in ap (λ (v : Spot). Err v) same

pub behind_ok : (bytes : List ℕ) (has : Bool) (rest : List ℕ) → Ok (has, rest) ≡ map_from has_item stack_from bytes → Ok rest ≡ rest_read (stack_from bytes)
behind_ok bytes has rest e = let f = has_ok (stack_from bytes) has rest e in rw f.1 refl

pub behind_err : (bytes : List ℕ) (e : Spot) → Err e ≡ map_from has_item stack_from bytes → Err e ≡ rest_read (stack_from bytes)
behind_err bytes e h = let f = has_err (stack_from bytes) e h in rw f refl

-- ---- several

abbrev Stacks : Type 0
Stacks = List (List (List ℕ))

cons_rest : (x : List (List ℕ)) (r : Result (Stacks × List ℕ) Spot) → rest_read (map_from (λ (z : List (List ℕ) × Stacks). z.0 ∷ z.1) (then_from (λ (b : List ℕ). Ok (x, b)) (λ _ b. r)) []) ≡ rest_read r
cons_rest x (Ok xs) = refl
cons_rest x (Err e) = refl

single_rest : (r : Result (List (List ℕ) × List ℕ) Spot) → rest_read (map_from (λ (x : List (List ℕ)). x ∷ []) (λ b. r) []) ≡ rest_read r
single_rest (Ok x) = refl
single_rest (Err e) = refl

stacks_known : (some : Bool) (n : ℕ) (bytes : List ℕ) (x : List (List ℕ)) (after : List ℕ) → stack_from bytes ≡ Ok (x, after)
    → rest_read (stacks_from some (suc n) bytes) ≡ rest_read (stacks_from (some || has_item x) n after)
unfolding stacks_from
stacks_known some n bytes x after e = rw e (cons_rest x (stacks_from (some || has_item x) n after))

pub one_more_stack : (some has : Bool) (more i : ℕ) (bytes after : List ℕ) (total : Result (List ℕ) Spot) → i < more → Ok (has, after) ≡ map_from has_item stack_from bytes
    → rest_read (stacks_from some (more - i) bytes) ≡ total → rest_read (stacks_from (some || has) (more - (i + 1)) after) ≡ total
unfolding stacks_from
one_more_stack some has more i bytes after total lt e so_far =
    let k : more - i ≡ suc (more - (i + 1)) = omega arith in
    let f = has_ok (stack_from bytes) has after e in
    let one : rest_read (stacks_from some (more - i) bytes) ≡ rest_read (stacks_from (some || has_item f.0) (more - (i + 1)) after) =
    ap (λ (n : ℕ). rest_read (stacks_from some n bytes)) k ∙ stacks_known some (more - (i + 1)) bytes f.0 after f.1 in
    ap (λ (b : Bool). rest_read (stacks_from (some || b) (more - (i + 1)) after)) (sym f.2) ∙ sym one ∙ so_far

pub stack_stops : (some : Bool) (more i : ℕ) (bytes : List ℕ) (e : Spot) (total : Result (List ℕ) Spot) → i < more → Err e ≡ map_from has_item stack_from bytes
    → rest_read (stacks_from some (more - i) bytes) ≡ total → Err e ≡ total
unfolding stacks_from
stack_stops some more i bytes e total lt h so_far =
    let k : more - i ≡ suc (more - (i + 1)) = omega arith in
    let f = has_err (stack_from bytes) e h in
    let fault : rest_read (stacks_from some (more - i) bytes) ≡ Err e = ap (λ (n : ℕ). rest_read (stacks_from some n bytes)) k ∙ rw f refl in
    sym fault ∙ so_far

pub stacks_end : (some : Bool) (more i : ℕ) (bytes : List ℕ) (answer total : Result (List ℕ) Spot) → more ≤ i → answer ≡ rest_read (last_stack_from some bytes)
    → rest_read (stacks_from some (more - i) bytes) ≡ total → answer ≡ total
unfolding stacks_from
stacks_end some more i bytes answer total le e so_far =
    let k : more - i ≡ 0 = omega arith in
    let last : rest_read (stacks_from some (more - i) bytes) ≡ rest_read (last_stack_from some bytes) = ap (λ (n : ℕ). rest_read (stacks_from some n bytes)) k ∙ single_rest (last_stack_from some bytes) in
    e ∙ sym last ∙ so_far

-- what is kept of a witness
kept_value : (r : Result (Stacks × List ℕ) Spot) (after : List ℕ) → Ok after ≡ rest_read r → Ok (values_read r, after) ≡ r
kept_value (Ok x) after e = let same : after ≡ x.1 = cc in ap (λ (t : List ℕ). Ok (x.0, t)) same
kept_value (Err w) after e = absurd cc

pub witness_kept : (n : ℕ) (bytes after : List ℕ) → Ok after ≡ rest_read (stacks_from false n bytes) → Ok (values_read (stacks_from false n bytes), after) ≡ stacks_from false n bytes
witness_kept n bytes after e = kept_value (stacks_from false n bytes) after e

pub witness_failed : (n : ℕ) (bytes : List ℕ) (e : Spot) → Err e ≡ rest_read (stacks_from false n bytes) → Err e ≡ stacks_from false n bytes
witness_failed n bytes e h = sym (rest_failed (stacks_from false n bytes) e h)
