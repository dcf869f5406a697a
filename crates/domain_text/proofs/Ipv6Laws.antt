-- A text is read as an IPv6 address exactly where it spells one.
use Rattle.std.proofs.Common.{◌≡◌, ℕ, ◌+◌, ◌<◌, ◌≤◌, ◌==◌, List, [], ◌∷◌, ◌++◌, length, drop, Option, Some, None, Bool, true, false, refl, sym, ap, ap₂, ◌∙◌, arith, nat_lt, nat_le, if◌then◌else◌, append_assoc, ◌&&◌, All, option_map}
use Rattle.std.proofs.lemmas.List.{append-nil}
use Rattle.std.proofs.lemmas.List.Splits.{slice_split_at, slice_split_none, join_with_byte-slice_split}
use Rattle.std.proofs.lemmas.List.Elements.{All-nil, All-cons}
use Rattle.std.proofs.lemmas.Bool.{and_parts}
use Rattle.std.proofs.lemmas.Bool.Decides.{nat_tests}
use Rattle.std.specs.Option.{option_and_then}
use Rattle.std.specs.List.{list_all, join_with_byte, slice_split}
use Rattle.std.specs.Char.{is_digit}
use Rattle.domain_text.specs.Ipv6.{group_of, hex_value, AreEach, AreGroups, IsIpv6, address_bytes, filled, groups_in, between, groups_of, begins_colon, gap_of, if_eight, with_gap, by_gap, ipv6_of, if_few}
use Rattle.domain_text.specs.Ipv6.IsIpv6.{whole, gap}
use Rattle.domain_text.proofs.Exactly.{and_then-found, and_then-step}

-- finding the gap
map-found : {X Y : Type 0} (f : X → Y) (o : Option X) (y : Y) → option_map f o ≡ Some y → (x : X) × (o ≡ Some x) × (f x ≡ y)
map-found f None y e = absurd (cc)
map-found f (Some x) y e = (x, refl, cc)

starts_colon : (xs : List ℕ) → begins_colon xs ≡ true → xs ≡ 58 ∷ drop 1 xs
starts_colon [] e = absurd (cc)
starts_colon (b ∷ rest) e = let is : b ≡ 58 = grind (arith, nat_tests) in ap (λ c. c ∷ rest) is

is_colon : (b : ℕ) → (b == 58) ≡ true → b ≡ 58
is_colon b e = grind (arith, nat_tests)

gap_by : (b : ℕ) (rest : List ℕ) (p : List ℕ × List ℕ) (t : Bool) → (b == 58 && begins_colon rest) ≡ t → ((q : List ℕ × List ℕ) → gap_of rest ≡ Some q → rest ≡ q.0 ++ (58 ∷ 58 ∷ q.1))
    → (if t then Some ([], drop 1 rest) else option_map (λ p. (b ∷ p.0, p.1)) (gap_of rest)) ≡ Some p → b ∷ rest ≡ p.0 ++ (58 ∷ 58 ∷ p.1)
gap_by b rest p true t more e =
    let both = and_parts (b == 58) (begins_colon rest) t in
    let s : ([], drop 1 rest) ≡ p = cc in
    ap₂ (λ x y. x ∷ y) (is_colon b both.0) (starts_colon rest both.1) ∙ ap (λ p. p.0 ++ (58 ∷ 58 ∷ p.1)) s
gap_by b rest p false t more e =
    let q = map-found (λ p. (b ∷ p.0, p.1)) (gap_of rest) p e in
    ap (λ w. b ∷ w) (more q.0 q.1) ∙ ap (λ p. p.0 ++ (58 ∷ 58 ∷ p.1)) q.2

gap_found : (text : List ℕ) (p : List ℕ × List ℕ) → gap_of text ≡ Some p → text ≡ p.0 ++ (58 ∷ 58 ∷ p.1)
gap_found [] p e = absurd (cc)
gap_found (b ∷ rest) p e = gap_by b rest p _ refl (λ q h. gap_found rest q h) e

and_false : (b : Bool) → (b && false) ≡ false
and_false true = refl
and_false false = refl

pub no_gap_in_one : (xs : List ℕ) → length xs ≤ 1 → gap_of xs ≡ None
no_gap_in_one [] h = refl
no_gap_in_one (b ∷ []) h = ap (λ t. if t then Some ([], []) else None) (and_false (b == 58))
no_gap_in_one (b ∷ c ∷ rest) h = absurd (omega arith)

-- texts of groups are digits
group_by : (text : List ℕ) (g : ℕ) (t : Bool) → (nat_le 1 (length text) && nat_le (length text) 4 && list_all (λ c. is_digit c 16) text) ≡ t → (if t then Some (hex_value text) else None) ≡ Some g
    → (1 ≤ length text) × (list_all (λ c. is_digit c 16) text ≡ true)
group_by text g true t e =
    let p = and_parts (nat_le 1 (length text) && nat_le (length text) 4) (list_all (λ c. is_digit c 16) text) t in
    let q = and_parts (nat_le 1 (length text)) (nat_le (length text) 4) p.0 in
    (at_least q.0, p.1)
  where
    at_least : nat_le 1 (length text) ≡ true → 1 ≤ length text
    at_least h = grind (arith, nat_tests)
group_by text g false t e = absurd (cc)

group_digits : (text : List ℕ) (g : ℕ) → group_of text ≡ Some g → (1 ≤ length text) × (list_all (λ c. is_digit c 16) text ≡ true)
group_digits text g e = group_by text g _ refl e

digit_no_colon : (b : ℕ) → is_digit b 16 ≡ true → (b == 58) ≡ false
digit_no_colon b h = go (b == 58) refl
  where
    go : (t : Bool) → (b == 58) ≡ t → (b == 58) ≡ false
    go false e = e
    go true e = let same : is_digit 58 16 ≡ true = ap (λ c. is_digit c 16) (sym (is_colon b e)) ∙ h in absurd (cc)

no_colons : (text : List ℕ) → list_all (λ c. is_digit c 16) text ≡ true → All (λ b. (b == 58) ≡ false) text
no_colons [] h = All-nil (λ b. (b == 58) ≡ false)
no_colons (b ∷ text) h = let p = and_parts (is_digit b 16) (list_all (λ c. is_digit c 16) text) h in All-cons (λ b. (b == 58) ≡ false) b text (digit_no_colon b p.0) (no_colons text p.1)

-- what was found, behind this front
abbrev onto : List ℕ → Option (List ℕ × List ℕ) → Option (List ℕ × List ℕ)
onto front o = option_map (λ p. (front ++ p.0, p.1)) o

-- the gap behind texts of groups
gap_past : (b : ℕ) (rest : List ℕ) → (b == 58 && begins_colon rest) ≡ false → gap_of (b ∷ rest) ≡ onto (b ∷ []) (gap_of rest)
gap_past b rest e = ap (λ t. if t then Some ([], drop 1 rest) else onto (b ∷ []) (gap_of rest)) e

and_first : (x y : Bool) → x ≡ false → (x && y) ≡ false
and_first x y e = ap (λ b. b && y) e

onto-onto : (xs ys : List ℕ) (o : Option (List ℕ × List ℕ)) → onto xs (onto ys o) ≡ onto (xs ++ ys) o
onto-onto xs ys None = refl
onto-onto xs ys (Some p) = ap (λ w. Some (w, p.1)) (sym (append_assoc xs ys p.0))

onto-nil : (o : Option (List ℕ × List ℕ)) → o ≡ onto [] o
onto-nil None = refl
onto-nil (Some p) = refl

gap_text : (text w : List ℕ) → list_all (λ c. is_digit c 16) text ≡ true → gap_of (text ++ w) ≡ onto text (gap_of w)
gap_text [] w h = onto-nil (gap_of w)
gap_text (b ∷ text) w h =
    let p = and_parts (is_digit b 16) (list_all (λ c. is_digit c 16) text) h in
    gap_past b (text ++ w) (and_first (b == 58) (begins_colon (text ++ w)) (digit_no_colon b p.0)) ∙ ap (onto (b ∷ [])) (gap_text text w p.1)
    ∙ onto-onto (b ∷ []) text (gap_of w)

starts_digit : (text w : List ℕ) → 1 ≤ length text → list_all (λ c. is_digit c 16) text ≡ true → begins_colon (text ++ w) ≡ false
starts_digit [] w some h = absurd (omega arith)
starts_digit (b ∷ text) w some h = digit_no_colon b (and_parts (is_digit b 16) (list_all (λ c. is_digit c 16) text) h).0

joined_starts : (text : List ℕ) (texts : List (List ℕ)) (w : List ℕ) → 1 ≤ length text → list_all (λ c. is_digit c 16) text ≡ true → begins_colon (join_with_byte 58 (text ∷ texts) ++ w) ≡ false
joined_starts text [] w some h = starts_digit text w some h
joined_starts text (m ∷ texts) w some h = ap begins_colon (append_assoc text (58 ∷ join_with_byte 58 (m ∷ texts)) w) ∙ starts_digit text _ some h

gap_joined : (texts : List (List ℕ)) (groups w : List ℕ) → AreEach texts groups → gap_of (join_with_byte 58 texts ++ w) ≡ onto (join_with_byte 58 texts) (gap_of w)
gap_joined [] groups w are = onto-nil (gap_of w)
gap_joined (text ∷ texts) [] w are = absurd are
gap_joined (text ∷ []) (g ∷ groups) w are = gap_text text w (group_digits text g are.0).1
gap_joined (text ∷ m ∷ texts) (g ∷ []) w are = absurd are.1
gap_joined (text ∷ m ∷ texts) (g ∷ k ∷ groups) w are =
    let here = group_digits text g are.0 in
    let next = group_digits m k are.1.0 in
    let rest : List ℕ = join_with_byte 58 (m ∷ texts) in
    ap gap_of (append_assoc text (58 ∷ rest) w) ∙ gap_text text (58 ∷ (rest ++ w)) here.1
    ∙ ap (onto text) (gap_past 58 (rest ++ w) (joined_starts m texts w next.0 next.1) ∙ ap (onto (58 ∷ [])) (gap_joined (m ∷ texts) (k ∷ groups) w are.1) ∙ onto-onto (58 ∷ []) rest (gap_of w))
    ∙ onto-onto text (58 ∷ rest) (gap_of w)

-- reading groups
groups_in-found : (texts : List (List ℕ)) (groups : List ℕ) → groups_in texts ≡ Some groups → AreEach texts groups
groups_in-found [] [] e = tt
groups_in-found [] (g ∷ groups) e = absurd (cc)
groups_in-found (text ∷ texts) groups e =
    let a = and_then-found (λ group. option_map (λ gs. group ∷ gs) (groups_in texts)) (group_of text) groups e in
    let b = map-found (λ gs. a.0 ∷ gs) (groups_in texts) groups a.2 in
    rw (sym b.2) (a.1, groups_in-found texts b.0 b.1)

groups_in-only : (texts : List (List ℕ)) (groups : List ℕ) → AreEach texts groups → groups_in texts ≡ Some groups
groups_in-only [] [] are = refl
groups_in-only [] (g ∷ groups) are = absurd are
groups_in-only (text ∷ texts) [] are = absurd are
groups_in-only (text ∷ texts) (g ∷ groups) are = and_then-step (λ group. option_map (λ gs. group ∷ gs) (groups_in texts)) (group_of text) g are.0 ∙ ap (option_map (λ gs. g ∷ gs)) (groups_in-only texts groups are.1)

joined_between : (text : List ℕ) → text ≡ join_with_byte 58 (between text)
joined_between [] = refl
joined_between (b ∷ rest) = sym (join_with_byte-slice_split 58 (b ∷ rest))

groups_found : (text groups : List ℕ) → groups_of text ≡ Some groups → AreGroups text groups
groups_found text groups e = record { texts = between text; are = groups_in-found (between text) groups e; spelled = joined_between text }

split_joined : (text : List ℕ) (texts : List (List ℕ)) (groups : List ℕ) → AreEach (text ∷ texts) groups → slice_split (λ c. c == 58) (join_with_byte 58 (text ∷ texts)) ≡ text ∷ texts
split_joined text texts [] are = absurd are
split_joined text [] (g ∷ groups) are = slice_split_none (λ c. c == 58) text (no_colons text (group_digits text g are.0).1)
split_joined text (m ∷ texts) (g ∷ groups) are =
    slice_split_at (λ c. c == 58) text 58 (join_with_byte 58 (m ∷ texts)) (no_colons text (group_digits text g are.0).1) refl
    ∙ ap (λ ts. text ∷ ts) (split_joined m texts groups are.1)

between_some : (xs : List ℕ) → 1 ≤ length xs → between xs ≡ slice_split (λ c. c == 58) xs
between_some [] h = absurd (omega arith)
between_some (b ∷ rest) h = refl

long_joined : (text : List ℕ) (texts : List (List ℕ)) → 1 ≤ length text → 1 ≤ length (join_with_byte 58 (text ∷ texts))
long_joined text [] h = h
long_joined [] (m ∷ texts) h = absurd (omega arith)
long_joined (b ∷ text) (m ∷ texts) h = omega arith

between_joined : (texts : List (List ℕ)) (groups : List ℕ) → AreEach texts groups → between (join_with_byte 58 texts) ≡ texts
between_joined [] groups are = refl
between_joined (text ∷ texts) [] are = absurd are
between_joined (text ∷ texts) (g ∷ groups) are = between_some _ (long_joined text texts (group_digits text g are.0).0) ∙ split_joined text texts (g ∷ groups) are

groups_only : (text groups : List ℕ) → AreGroups text groups → groups_of text ≡ Some groups
groups_only text groups is = ap groups_of is.spelled ∙ ap groups_in (between_joined is.texts groups is.are) ∙ groups_in-only is.texts groups is.are

-- the whole
eight_by : (groups g : List ℕ) (t : Bool) → (length groups == 8) ≡ t → (if t then Some groups else None) ≡ Some g → (groups ≡ g) × (length groups ≡ 8)
eight_by groups g true t e = ((cc), eight t)
  where
    eight : (length groups == 8) ≡ true → length groups ≡ 8
    eight h = grind (arith, nat_tests)
eight_by groups g false t e = absurd (cc)

gap_groups_by : (left right g : List ℕ) (t : Bool) → nat_lt (length left + length right) 8 ≡ t → (if t then Some (filled left right) else None) ≡ Some g → (filled left right ≡ g) × (length left + length right < 8)
gap_groups_by left right g true t e = ((cc), few t)
  where
    few : nat_lt (length left + length right) 8 ≡ true → length left + length right < 8
    few h = grind (arith, nat_tests)
gap_groups_by left right g false t e = absurd (cc)

by_gap_found : (text address : List ℕ) (o : Option (List ℕ × List ℕ)) → gap_of text ≡ o → (g : List ℕ) → by_gap text o ≡ Some g → address_bytes g ≡ address → IsIpv6 text address
by_gap_found text address None none g e is =
    let a = and_then-found if_eight (groups_of text) g e in
    let b = eight_by a.0 g _ refl a.2 in
    whole a.0 b.1 (groups_found text a.0 a.1) (sym is ∙ ap address_bytes (sym b.0))
by_gap_found text address (Some p) some g e is =
    let a = and_then-found (λ left. option_and_then (with_gap left) (groups_of p.1)) (groups_of p.0) g e in
    let b = and_then-found (with_gap a.0) (groups_of p.1) g a.2 in
    let c = gap_groups_by a.0 b.0 g _ refl b.2 in
    gap p.0 p.1 a.0 b.0 (gap_found text p some) (groups_found p.0 a.0 a.1) (groups_found p.1 b.0 b.1) c.1 (sym is ∙ ap address_bytes (sym c.0))

pub ipv6_found : (text address : List ℕ) → ipv6_of text ≡ Some address → IsIpv6 text address
unfolding ipv6_of
ipv6_found text address e = let a = map-found address_bytes (by_gap text (gap_of text)) address e in by_gap_found text address _ refl a.0 a.1 a.2

test_eight : (n : ℕ) → n ≡ 8 → (n == 8) ≡ true
test_eight n h = grind (arith, nat_tests)

test_few : (n : ℕ) → n < 8 → nat_lt n 8 ≡ true
test_few n h = grind (arith, nat_tests)

pub ipv6_only : (text address : List ℕ) → IsIpv6 text address → ipv6_of text ≡ Some address
unfolding ipv6_of
ipv6_only text address (whole groups eight is bytes) =
    let none : gap_of text ≡ None = ap gap_of (is.spelled ∙ sym (append-nil (join_with_byte 58 is.texts))) ∙ gap_joined is.texts groups [] is.are in
    let read : by_gap text None ≡ Some groups = and_then-step if_eight (groups_of text) groups (groups_only text groups is) ∙ ap (λ t. if t then Some groups else None) (test_eight (length groups) eight) in
    ap (option_map address_bytes) (ap (by_gap text) none ∙ read) ∙ ap Some (sym bytes)
ipv6_only text address (gap before behind left right spelled isl isr few bytes) =
    let at : gap_of text ≡ Some (before, behind) =
    ap gap_of (spelled ∙ ap (λ w. w ++ (58 ∷ 58 ∷ behind)) isl.spelled) ∙ gap_joined isl.texts left (58 ∷ 58 ∷ behind) isl.are
    ∙ ap (λ w. Some (w, behind)) (append-nil (join_with_byte 58 isl.texts) ∙ sym isl.spelled) in
    let read : by_gap text (Some (before, behind)) ≡ Some (filled left right) =
    and_then-step (λ left. option_and_then (with_gap left) (groups_of behind)) (groups_of before) left (groups_only before left isl)
    ∙ and_then-step (with_gap left) (groups_of behind) right (groups_only behind right isr) ∙ ap (λ t. if t then Some (filled left right) else None) (test_few (length left + length right) few) in
    ap (option_map address_bytes) (ap (by_gap text) at ∙ read) ∙ ap Some (sym bytes)

-- nothing more to read
pub all_few : (found : List ℕ) → length found ≤ 8 → Some found ≡ if_few (found ++ [])
all_few found few = let t : nat_le (length (found ++ [])) 8 ≡ true = at_most (length (found ++ [])) (omega (arith, ap length (append-nil found))) in sym (ap (λ b. if b then Some (found ++ []) else None) t ∙ ap Some (append-nil found))
  where
    at_most : (n : ℕ) → n ≤ 8 → nat_le n 8 ≡ true
    at_most n h = grind (arith, nat_tests)
