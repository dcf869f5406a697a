-- A text is read as an address exactly where it spells one.
use Rattle.std.proofs.Common.{◌≡◌, ℕ, zero, suc, ◌+◌, ◌-◌, ◌*◌, ◌/◌, ◌%◌, ◌<◌, ◌≤◌, ◌==◌, List, [], ◌∷◌, ◌++◌, Some, None, Bool, true, false, refl, sym, ap, ap₂, ◌∙◌, arith, nat_lt, if◌then◌else◌, append_assoc}
use Rattle.std.proofs.lemmas.List.{append-nil}
use Rattle.std.proofs.lemmas.Fmt.{decimal_digit, decimal_step}
use Rattle.std.proofs.lemmas.Bool.Decides.{nat_tests}
use Rattle.std.specs.Prelude.{decimal}
use Rattle.std.specs.Char.{is_ascii_digit}
use Rattle.domain_text.specs.Reading.{after}
use Rattle.domain_text.specs.Ipv4.{octet_at, digits_at, dotted_at, below_256, ipv4_of, IsIpv4, if_all}
use Rattle.domain_text.proofs.Exactly.{and_then-found, and_then-step}

-- the digits m and the bytes spell the number and what was left
pub record Reads (m : ℕ) (bytes : List ℕ) (p : ℕ × List ℕ) : Type 0 where
  pub small : p.0 < 256
  pub spelled : decimal m ++ bytes ≡ decimal p.0 ++ p.1

more_digit : (m d : ℕ) → 0 < m → m < 100 → is_ascii_digit d ≡ true → decimal (m * 10 + (d - 48)) ≡ decimal m ++ (d ∷ [])
more_digit m d pos small digit =
    let low : 48 ≤ d = grind (arith, nat_tests) in
    let high : d < 58 = grind (arith, nat_tests) in
    let q : (m * 10 + (d - 48)) / 10 ≡ m = omega arith in
    let r : 48 + (m * 10 + (d - 48)) % 10 ≡ d = omega arith in
    decimal_step (m * 10 + (d - 48)) (omega arith) (omega arith) ∙ ap (λ w. decimal w ++ ((48 + (m * 10 + (d - 48)) % 10) ∷ [])) q ∙ ap (λ w. decimal m ++ (w ∷ [])) r

below_by : (m : ℕ) (bytes : List ℕ) (p : ℕ × List ℕ) (b : Bool) → nat_lt m 256 ≡ b → (if b then Some (m, bytes) else None) ≡ Some p → Reads m bytes p
below_by m bytes p true t e = let s : (m, bytes) ≡ p = cc in record { small = rw (ap (λ x. x.0) (sym s)) (grind (arith, nat_tests)); spelled = ap (λ x. decimal x.0 ++ x.1) s }
below_by m bytes p false t e = absurd (cc)

below_found : (m : ℕ) (bytes : List ℕ) (p : ℕ × List ℕ) → below_256 m bytes ≡ Some p → Reads m bytes p
below_found m bytes p e = below_by m bytes p (nat_lt m 256) refl e

digit_by : (k m d : ℕ) (rest : List ℕ) (p : ℕ × List ℕ) (b : Bool) → 0 < m → m < 100 → is_ascii_digit d ≡ b
    → ((n : ℕ) → 0 < n → n < m * 10 + 10 → digits_at k n rest ≡ Some p → Reads n rest p)
    → (if b then digits_at k (m * 10 + (d - 48)) rest else below_256 m (d ∷ rest)) ≡ Some p → Reads m (d ∷ rest) p
digit_by k m d rest p true pos small t found e =
    let high : d < 58 = grind (arith, nat_tests) in
    let r = found (m * 10 + (d - 48)) (omega arith) (omega arith) e in
    record { small = r.small; spelled = sym (append_assoc (decimal m) (d ∷ []) rest) ∙ ap (λ w. w ++ rest) (sym (more_digit m d pos small t)) ∙ r.spelled }
digit_by k m d rest p false pos small t found e = below_found m (d ∷ rest) p e

digits_found0 : (m : ℕ) (bytes : List ℕ) (p : ℕ × List ℕ) → digits_at 0 m bytes ≡ Some p → Reads m bytes p
digits_found0 m bytes p e = below_found m bytes p e

digits_found1 : (m : ℕ) (bytes : List ℕ) (p : ℕ × List ℕ) → 0 < m → m < 100 → digits_at 1 m bytes ≡ Some p → Reads m bytes p
digits_found1 m [] p pos small e = below_found m [] p e
digits_found1 m (d ∷ rest) p pos small e = digit_by 0 m d rest p (is_ascii_digit d) pos small refl (λ n l h k. digits_found0 n rest p k) e

digits_found2 : (m : ℕ) (bytes : List ℕ) (p : ℕ × List ℕ) → 0 < m → m < 10 → digits_at 2 m bytes ≡ Some p → Reads m bytes p
digits_found2 m [] p pos small e = below_found m [] p e
digits_found2 m (d ∷ rest) p pos small e = digit_by 1 m d rest p (is_ascii_digit d) pos (omega arith) refl (λ n l h k. digits_found1 n rest p l (omega arith) k) e

pub record Octet (bytes : List ℕ) (p : ℕ × List ℕ) : Type 0 where
  pub small : p.0 < 256
  pub spelled : bytes ≡ decimal p.0 ++ p.1

first_by : (d : ℕ) (rest : List ℕ) (p : ℕ × List ℕ) (b z : Bool) → is_ascii_digit d ≡ b → (d == 48) ≡ z
    → (if b then (if z then Some (0, rest) else digits_at 2 (d - 48) rest) else None) ≡ Some p → Octet (d ∷ rest) p
first_by d rest p false z t u e = absurd (cc)
first_by d rest p true true t u e =
    let s : (0, rest) ≡ p = cc in
    let is : d ≡ 48 = grind (arith, nat_tests) in
    record { small = rw (ap (λ x. x.0) (sym s)) (omega arith); spelled = ap (λ w. w ∷ rest) is ∙ ap (λ w. w ++ rest) (sym (decimal_digit 0 (omega arith))) ∙ ap (λ x. decimal x.0 ++ x.1) s }
first_by d rest p true false t u e =
    let high : d < 58 = grind (arith, nat_tests) in
    let low : 48 < d = grind (arith, nat_tests) in
    let r = digits_found2 (d - 48) rest p (omega arith) (omega arith) e in
    let back : 48 + (d - 48) ≡ d = omega arith in
    record { small = r.small; spelled = ap (λ w. w ∷ rest) (sym back) ∙ ap (λ w. w ++ rest) (sym (decimal_digit (d - 48) (omega arith))) ∙ r.spelled }

pub octet_found : (bytes : List ℕ) (p : ℕ × List ℕ) → octet_at bytes ≡ Some p → Octet bytes p
octet_found [] p e = absurd (cc)
octet_found (d ∷ rest) p e = first_by d rest p (is_ascii_digit d) (d == 48) refl refl e

after_by : (c b : ℕ) (rest r : List ℕ) (t : Bool) → (b == c) ≡ t → (if t then Some rest else None) ≡ Some r → (b ∷ rest) ≡ (c ∷ r)
after_by c b rest r true t e = let s : rest ≡ r = cc in let is : b ≡ c = grind (arith, nat_tests) in ap₂ (λ x y. x ∷ y) is s
after_by c b rest r false t e = absurd (cc)

after_found : (c : ℕ) (bytes r : List ℕ) → after c bytes ≡ Some r → bytes ≡ c ∷ r
after_found c [] r e = absurd (cc)
after_found c (b ∷ rest) r e = after_by c b rest r (b == c) refl e

pub record Dotted (bytes : List ℕ) (p : ℕ × List ℕ) : Type 0 where
  pub small : p.0 < 256
  pub spelled : bytes ≡ 46 ∷ (decimal p.0 ++ p.1)

dotted_found : (bytes : List ℕ) (p : ℕ × List ℕ) → dotted_at bytes ≡ Some p → Dotted bytes p
dotted_found bytes p e =
    let a = and_then-found octet_at (after 46 bytes) p e in
    let o = octet_found a.0 p a.2 in
    record { small = o.small; spelled = after_found 46 bytes a.0 a.1 ∙ ap (λ w. 46 ∷ w) o.spelled }

all_found : (address rest a : List ℕ) → if_all address rest ≡ Some a → (address ≡ a) × (rest ≡ [])
all_found address [] a e = (cc, refl)
all_found address (b ∷ rest) a e = absurd (cc)

pub ipv4_found : (text address : List ℕ) → ipv4_of text ≡ Some address → IsIpv4 text address
unfolding ipv4_of
ipv4_found text address e =
    let a = and_then-found _ (octet_at text) address e in
    let b = and_then-found _ (dotted_at a.0.1) address a.2 in
    let c = and_then-found _ (dotted_at b.0.1) address b.2 in
    let d = and_then-found _ (dotted_at c.0.1) address c.2 in
    let all = all_found (a.0.0 ∷ b.0.0 ∷ c.0.0 ∷ d.0.0 ∷ []) d.0.1 address d.2 in
    let ra = octet_found text a.0 a.1 in
    let rb = dotted_found a.0.1 b.0 b.1 in
    let rc = dotted_found b.0.1 c.0 c.1 in
    let rd = dotted_found c.0.1 d.0 d.1 in
    rw (sym all.0) (record {
      four = refl;
      bytes = (ra.small, (rb.small, (rc.small, (rd.small, tt))));
      spelled = ra.spelled ∙ ap (λ w. decimal a.0.0 ++ w) (rb.spelled ∙ ap (λ w. 46 ∷ (decimal b.0.0 ++ w)) (rc.spelled ∙ ap (λ w. 46 ∷ (decimal c.0.0 ++ w)) (rd.spelled ∙ ap (λ w. 46 ∷ (decimal d.0.0 ++ w)) all.1 ∙ ap (λ w. 46 ∷ w) (append-nil (decimal d.0.0)))));
    })

-- what doesn't go on with a digit
abbrev pub begins_digit : List ℕ → Bool
begins_digit [] = false
begins_digit (d ∷ rest) = is_ascii_digit d

below_is : (m : ℕ) (rest : List ℕ) → m < 256 → below_256 m rest ≡ Some (m, rest)
below_is m rest h = let t : nat_lt m 256 ≡ true = grind (arith, nat_tests) in rw t refl

digits_stop : (k m : ℕ) (rest : List ℕ) → begins_digit rest ≡ false → digits_at k m rest ≡ below_256 m rest
digits_stop zero m rest e = refl
digits_stop (suc k) m [] e = refl
digits_stop (suc k) m (d ∷ rest) e = ap (λ b. if b then digits_at k (m * 10 + (d - 48)) rest else below_256 m (d ∷ rest)) e

digits_more : (k m d : ℕ) (rest : List ℕ) → is_ascii_digit d ≡ true → digits_at (suc k) m (d ∷ rest) ≡ digits_at k (m * 10 + (d - 48)) rest
digits_more k m d rest e = ap (λ b. if b then digits_at k (m * 10 + (d - 48)) rest else below_256 m (d ∷ rest)) e

octet_first : (d : ℕ) (rest : List ℕ) → is_ascii_digit d ≡ true → (d == 48) ≡ false → octet_at (d ∷ rest) ≡ digits_at 2 (d - 48) rest
octet_first d rest e z = ap₂ (λ b c. if b then (if c then Some (0, rest) else digits_at 2 (d - 48) rest) else None) e z

digit_code : (n : ℕ) → n < 10 → is_ascii_digit (48 + n) ≡ true
digit_code n h = grind (arith, nat_tests)

not_zero : (n : ℕ) → 0 < n → ((48 + n) == 48) ≡ false
not_zero n h = grind (arith, nat_tests)

one_digit : (n : ℕ) (rest : List ℕ) → n < 10 → begins_digit rest ≡ false → octet_at ((48 + n) ∷ rest) ≡ Some (n, rest)
one_digit zero rest h stop = refl
one_digit (suc n) rest h stop =
    let back : (48 + suc n) - 48 ≡ suc n = omega arith in
    octet_first (48 + suc n) rest (digit_code (suc n) h) (not_zero (suc n) (omega arith)) ∙ ap (λ m. digits_at 2 m rest) back ∙ digits_stop 2 (suc n) rest stop ∙ below_is (suc n) rest (omega arith)

two_digits : (x y : ℕ) (rest : List ℕ) → 0 < x → x < 10 → y < 10 → begins_digit rest ≡ false → octet_at ((48 + x) ∷ (48 + y) ∷ rest) ≡ Some (x * 10 + y, rest)
two_digits x y rest pos hx hy stop =
    let bx : (48 + x) - 48 ≡ x = omega arith in
    let by : x * 10 + ((48 + y) - 48) ≡ x * 10 + y = omega arith in
    octet_first (48 + x) ((48 + y) ∷ rest) (digit_code x hx) (not_zero x pos) ∙ ap (λ m. digits_at 2 m ((48 + y) ∷ rest)) bx
    ∙ digits_more 1 x (48 + y) rest (digit_code y hy) ∙ ap (λ m. digits_at 1 m rest) by ∙ digits_stop 1 (x * 10 + y) rest stop ∙ below_is (x * 10 + y) rest (omega arith)

three_digits : (x y z : ℕ) (rest : List ℕ) → 0 < x → x < 10 → y < 10 → z < 10 → (x * 10 + y) * 10 + z < 256 → begins_digit rest ≡ false
    → octet_at ((48 + x) ∷ (48 + y) ∷ (48 + z) ∷ rest) ≡ Some ((x * 10 + y) * 10 + z, rest)
three_digits x y z rest pos hx hy hz small stop =
    let bx : (48 + x) - 48 ≡ x = omega arith in
    let by : x * 10 + ((48 + y) - 48) ≡ x * 10 + y = omega arith in
    let bz : (x * 10 + y) * 10 + ((48 + z) - 48) ≡ (x * 10 + y) * 10 + z = omega arith in
    octet_first (48 + x) ((48 + y) ∷ (48 + z) ∷ rest) (digit_code x hx) (not_zero x pos) ∙ ap (λ m. digits_at 2 m ((48 + y) ∷ (48 + z) ∷ rest)) bx
    ∙ digits_more 1 x (48 + y) ((48 + z) ∷ rest) (digit_code y hy) ∙ ap (λ m. digits_at 1 m ((48 + z) ∷ rest)) by
    ∙ digits_more 0 (x * 10 + y) (48 + z) rest (digit_code z hz) ∙ ap (λ m. digits_at 0 m rest) bz ∙ below_is ((x * 10 + y) * 10 + z) rest small

decimal2 : (n : ℕ) → 10 ≤ n → n < 100 → decimal n ≡ (48 + n / 10) ∷ (48 + n % 10) ∷ []
decimal2 n low high = decimal_step n low (omega arith) ∙ ap (λ w. w ++ ((48 + n % 10) ∷ [])) (decimal_digit (n / 10) (omega arith))

decimal3 : (n : ℕ) → 100 ≤ n → n < 1000 → decimal n ≡ (48 + n / 10 / 10) ∷ (48 + (n / 10) % 10) ∷ (48 + n % 10) ∷ []
decimal3 n low high = decimal_step n (omega arith) (omega arith) ∙ ap (λ w. w ++ ((48 + n % 10) ∷ [])) (decimal2 (n / 10) (omega arith) (omega arith))

pub octet_only : (n : ℕ) (rest : List ℕ) → n < 256 → begins_digit rest ≡ false → octet_at (decimal n ++ rest) ≡ Some (n, rest)
octet_only n rest small stop = by_size n rest small stop (nat_lt n 10) (nat_lt n 100) refl refl
  where
    by_size : (n : ℕ) (rest : List ℕ) → n < 256 → begins_digit rest ≡ false → (a b : Bool) → nat_lt n 10 ≡ a → nat_lt n 100 ≡ b → octet_at (decimal n ++ rest) ≡ Some (n, rest)
    by_size n rest small stop true b ta tb = let h : n < 10 = grind (arith, nat_tests) in ap (λ w. octet_at (w ++ rest)) (decimal_digit n h) ∙ one_digit n rest h stop
    by_size n rest small stop false true ta tb =
        let low : 10 ≤ n = grind (arith, nat_tests) in
        let high : n < 100 = grind (arith, nat_tests) in
        ap (λ w. octet_at (w ++ rest)) (decimal2 n low high) ∙ two_digits (n / 10) (n % 10) rest (omega arith) (omega arith) (omega arith) stop ∙ ap (λ w. Some (w, rest)) (omega arith)
    by_size n rest small stop false false ta tb =
        let low : 100 ≤ n = grind (arith, nat_tests) in
        let is : (n / 10 / 10 * 10 + (n / 10) % 10) * 10 + n % 10 ≡ n = omega arith in
        ap (λ w. octet_at (w ++ rest)) (decimal3 n low (omega arith)) ∙ three_digits (n / 10 / 10) ((n / 10) % 10) (n % 10) rest (omega arith) (omega arith) (omega arith) (omega arith) (omega (arith, is)) stop
        ∙ ap (λ w. Some (w, rest)) is

dotted_only : (n : ℕ) (rest : List ℕ) → n < 256 → begins_digit rest ≡ false → dotted_at (46 ∷ (decimal n ++ rest)) ≡ Some (n, rest)
dotted_only n rest small stop = octet_only n rest small stop

pub ipv4_only : (text address : List ℕ) → IsIpv4 text address → ipv4_of text ≡ Some address
unfolding ipv4_of
ipv4_only text [] is = absurd (omega (arith, is.four))
ipv4_only text (a ∷ []) is = absurd (omega (arith, is.four))
ipv4_only text (a ∷ b ∷ []) is = absurd (omega (arith, is.four))
ipv4_only text (a ∷ b ∷ c ∷ []) is = absurd (omega (arith, is.four))
ipv4_only text (a ∷ b ∷ c ∷ d ∷ []) is =
    let spelled : text ≡ decimal a ++ (46 ∷ (decimal b ++ (46 ∷ (decimal c ++ (46 ∷ (decimal d ++ [])))))) =
    is.spelled ∙ ap (λ w. decimal a ++ (46 ∷ (decimal b ++ (46 ∷ (decimal c ++ (46 ∷ w)))))) (sym (append-nil (decimal d))) in
    ap ipv4_of spelled
    ∙ and_then-step _ _ (a, 46 ∷ (decimal b ++ (46 ∷ (decimal c ++ (46 ∷ (decimal d ++ [])))))) (octet_only a _ is.bytes.0 refl)
    ∙ and_then-step _ _ (b, 46 ∷ (decimal c ++ (46 ∷ (decimal d ++ [])))) (dotted_only b _ is.bytes.1.0 refl)
    ∙ and_then-step _ _ (c, 46 ∷ (decimal d ++ [])) (dotted_only c _ is.bytes.1.1.0 refl)
    ∙ and_then-step _ _ (d, []) (dotted_only d _ is.bytes.1.1.1.0 refl)
ipv4_only text (a ∷ b ∷ c ∷ d ∷ e ∷ rest) is = absurd (omega (arith, is.four))
