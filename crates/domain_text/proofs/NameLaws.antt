-- The labels that a length was counted over.
use Rattle.std.proofs.Common.{◌≡◌, ℕ, zero, suc, ◌+◌, ◌≤◌, ◌==◌, List, [], ◌∷◌, ◌++◌, length, take, Bool, true, false, refl, sym, ap, ◌∙◌, arith, nat_le, if◌then◌else◌, append_assoc, length-append, Option, Some, None, option_map}
use Prim.{tt}
use Rattle.std.proofs.Common.{nat_eq}
use Rattle.std.proofs.lemmas.Bool.Decides.{nat_tests}
use Rattle.std.proofs.Common.{take_all}
use Rattle.std.proofs.lemmas.List.{nil_from_length, append-nil}
use Rattle.domain_text.specs.declared.limits.TheConstants.{LONGEST_WIRE}
use Rattle.std.specs.List.{AllByRecursion}
use Rattle.domain_text.specs.Reading.{name_length}
use Rattle.domain_text.specs.Names.{IsName, IsWireLabel, wire_of}
use Rattle.domain_text.proofs.NameLengths.{label}

pub guard : {A : Type 0} (b : Bool) (x y z : A) → (if b then x else y) ≡ z → (x ≡ z → ⊥) → (b ≡ false) × (y ≡ z)
guard true x y z e bad = absurd (bad e)
guard false x y z e bad = (refl, e)

pub pass : {A : Type 0} (b : Bool) (x y z : A) → (if b then x else y) ≡ z → (y ≡ z → ⊥) → (b ≡ true) × (x ≡ z)
pass true x y z e bad = (refl, e)
pass false x y z e bad = absurd (bad e)

mapped : (x : Option ℕ) (n : ℕ) → option_map suc x ≡ Some n → (m : ℕ) × (x ≡ Some m) × (n ≡ suc m)
mapped None n e = absurd (cc)
mapped (Some m) n e = (m, refl, cc)

-- the rest of a label, and the labels behind it
pub record NameAt (left : ℕ) (bytes : List ℕ) (n : ℕ) : Type 0 where
  pub front : List ℕ
  pub labels : List (List ℕ)
  pub long : length front ≡ left
  pub are : AllByRecursion IsWireLabel labels
  pub text : take n bytes ≡ front ++ wire_of labels
  pub within : n ≤ length bytes

last : (b : ℕ) (rest : List ℕ) (n : ℕ) → b ≡ 0 → Some 1 ≡ Some n → NameAt 0 (b ∷ rest) n
last b rest n z e =
    let one : n ≡ 1 = cc in
    rw (one, z) (record { front = []; labels = []; long = refl; are = tt; text = refl; within = omega arith })

one_label : (b : ℕ) (rest : List ℕ) (n m : ℕ) → (b ≡ 0 → ⊥) → b ≤ 63 → n ≡ suc m → NameAt b rest m → NameAt 0 (b ∷ rest) n
one_label b rest n m some few e at =
    rw e (record {
      front = [];
      labels = at.front ∷ at.labels;
      long = refl;
      are = ((omega (arith, at.long, some), omega (arith, at.long)), at.are);
      text = ap (λ w. b ∷ w) at.text ∙ ap (λ k. k ∷ (at.front ++ wire_of at.labels)) (sym at.long);
      within = omega (arith, at.within);
    })

one_byte : (left b : ℕ) (rest : List ℕ) (n m : ℕ) → n ≡ suc m → NameAt left rest m → NameAt (suc left) (b ∷ rest) n
one_byte left b rest n m e at =
    rw e (record { front = b ∷ at.front; labels = at.labels; long = ap suc at.long; are = at.are; text = ap (λ w. b ∷ w) at.text; within = omega (arith, at.within) })

first_found : (b : ℕ) (rest : List ℕ) (n : ℕ) → ((m : ℕ) → name_length b rest ≡ Some m → NameAt b rest m) → (z : Bool) → (b == 0) ≡ z
    → (if z then Some 1 else if nat_le b 63 then option_map suc (name_length b rest) else None) ≡ Some n → NameAt 0 (b ∷ rest) n
first_found b rest n found true z e = last b rest n (grind arith) e
first_found b rest n found false z e =
    let p = pass (nat_le b 63) (option_map suc (name_length b rest)) None (Some n) e (λ w. absurd (cc)) in
    let m = mapped (name_length b rest) n p.1 in
    one_label b rest n m.0 (grind arith) (grind (arith, p.0)) m.2 (found m.0 m.1)

pub name_found : (left : ℕ) (bytes : List ℕ) (n : ℕ) → name_length left bytes ≡ Some n → NameAt left bytes n
name_found left [] n e = absurd (cc)
name_found zero (b ∷ rest) n e = first_found b rest n (λ m h. name_found b rest m h) (b == 0) refl e
name_found (suc left) (b ∷ rest) n e = let m = mapped (name_length left rest) n e in one_byte left b rest n m.0 m.2 (name_found left rest m.0 m.1)

through : (l bytes : List ℕ) (m : ℕ) → name_length 0 bytes ≡ Some m → name_length (length l) (l ++ bytes) ≡ Some (length l + m)
through [] bytes m e = e ∙ ap Some (omega arith)
through (x ∷ l) bytes m e = ap (option_map suc) (through l bytes m e) ∙ ap Some (omega arith)

pub name_only : (labels : List (List ℕ)) (rest : List ℕ) → AllByRecursion IsWireLabel labels → name_length 0 (wire_of labels ++ rest) ≡ Some (length (wire_of labels))
name_only [] rest are = refl
name_only (l ∷ labels) rest are =
    label (length l) ((l ++ wire_of labels) ++ rest) (λ z. omega (arith, are.0.0, z)) are.0.1
    ∙ ap (λ w. option_map suc (name_length (length l) w)) (append_assoc l (wire_of labels) rest)
    ∙ ap (option_map suc) (through l (wire_of labels ++ rest) (length (wire_of labels)) (name_only labels rest are.1))
    ∙ ap Some (let e = length-append l (wire_of labels) in omega (arith, e))

-- a list of bytes is a name exactly where its labels take it whole
pub is_name : (wire : List ℕ) → length wire ≤ LONGEST_WIRE → name_length 0 wire ≡ Some (length wire) → IsName wire
is_name wire few e =
    let at = name_found 0 wire (length wire) e in
    let none : at.front ≡ [] = nil_from_length at.front at.long in
    record {
      labels = at.labels;
      are = at.are;
      text = sym (take_all (length wire) wire (omega arith)) ∙ at.text ∙ ap (λ f. f ++ wire_of at.labels) none;
      fits = few;
    }

pub name_length-name : (wire : List ℕ) → IsName wire → name_length 0 wire ≡ Some (length wire)
name_length-name wire n = ap (name_length 0) (n.text ∙ sym (append-nil (wire_of n.labels))) ∙ name_only n.labels [] n.are ∙ ap (λ w. Some (length w)) (sym n.text)

pub same_length : (m n : ℕ) → nat_eq m n ≡ true → m ≡ n
same_length m n e = grind (arith, nat_tests)
