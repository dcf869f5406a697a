-- Labels and the names that they make.
use Rattle.std.proofs.Common.{◌≡◌, ℕ, zero, suc, ◌-◌, ◌<◌, ◌≤◌, ◌==◌, Option, subst, take_all, List, [], ◌∷◌, ◌++◌, length, take, drop, reverse, Bool, true, false, refl, sym, ap, ap₂, ◌∙◌, arith, nat_le, nat_lt, Some, None, length-append, append_assoc}
use Rattle.std.proofs.Math.Seq.{take-append_seam, drop-append_seam}
use Rattle.std.proofs.lemmas.List.{reverse-append, reverse-reverse, length-drop, length-map, map-append}
use Rattle.std.proofs.lemmas.Bool.Decides.{nat_tests}
use Rattle.std.specs.List.{AllByRecursion}
use Rattle.std.specs.Char.{to_ascii_lowercase}
use Rattle.std.specs.Str.{bytes_eq}
use Rattle.std.proofs.lemmas.Slice.Eq.{bytes_eq-Decides}
use Rattle.domain_text.specs.Names.{IsName, IsWireLabel, joined_to, wire_of, lower, if_fits}
use Rattle.domain_text.specs.declared.limits.TheConstants.{LONGEST_LABEL, LONGEST_WIRE}
use Rattle.domain_text.proofs.NameForms.{IsName-lower, joined_to-joined_to}
use Rattle.bit_resolver.specs.Places.{Below, Place, outside, below, next_of, by_next, labels_within, labels_of, bit, place_up, place_of, apex_name, own_of, top_of, IsBelow, IsPlace}

-- a label is read from the front of a wire form
next_of-label : (l w : List ℕ) → IsWireLabel l → next_of (length l ∷ (l ++ w)) ≡ Some (l, w)
next_of-label l w is =
    let some : (length l == 0) ≡ false = grind (arith, nat_tests, is.0) in
    let long : nat_lt (length (l ++ w)) (length l) ≡ false = grind (arith, nat_tests, length-append l w) in
    rw some (rw long (ap₂ (λ a b. Some (a, b)) (take-append_seam l w) (drop-append_seam l w)))

within : (n : ℕ) (ls : List (List ℕ)) → length ls ≤ n → AllByRecursion IsWireLabel ls → labels_within n (wire_of ls) ≡ ls
within zero [] h are = refl
within (suc n) [] h are = refl
within zero (l ∷ ls) h are = absurd (omega arith)
within (suc n) (l ∷ ls) h are = ap (by_next (labels_within n)) (next_of-label l (wire_of ls) are.0) ∙ ap (λ r. l ∷ r) (within n ls (omega arith) are.1)

long_enough : (ls : List (List ℕ)) → length ls ≤ length (wire_of ls)
long_enough [] = omega arith
long_enough (l ∷ ls) = let more = long_enough ls in let e = length-append l (wire_of ls) in omega (arith, more, e)

-- the labels of a name are those that it is made of
pub labels_of-wire_of : (ls : List (List ℕ)) → AllByRecursion IsWireLabel ls → labels_of (wire_of ls) ≡ ls
labels_of-wire_of ls are = within (length (wire_of ls)) ls (long_enough ls) are

pub are_both : (xs ys : List (List ℕ)) → AllByRecursion IsWireLabel xs → AllByRecursion IsWireLabel ys → AllByRecursion IsWireLabel (xs ++ ys)
are_both [] ys h k = k
are_both (x ∷ xs) ys h k = (h.0, are_both xs ys h.1 k)

-- labels below a name make a name, where they fit
pub fits_is_name : (labels : List (List ℕ)) (end : List ℕ) → AllByRecursion IsWireLabel labels → IsName end → length (joined_to labels end) ≤ LONGEST_WIRE → IsName (joined_to labels end)
fits_is_name labels end are n fits = record {
  labels = labels ++ n.labels;
  are = are_both labels n.labels are n.are;
  text = ap (joined_to labels) n.text ∙ joined_to-joined_to labels n.labels (0 ∷ []);
  fits = fits;
}

pub too_long : (w : List ℕ) → LONGEST_WIRE < length w → if_fits w ≡ None
too_long w h = let t : nat_le (length w) LONGEST_WIRE ≡ false = grind (arith, nat_tests) in rw t refl

pub short_enough : (w : List ℕ) → length w ≤ LONGEST_WIRE → if_fits w ≡ Some w
short_enough w h = let t : nat_le (length w) LONGEST_WIRE ≡ true = grind (arith, nat_tests) in rw t refl

-- a node above a name has no longer name
pub joined_to-drop : (k : ℕ) (labels : List (List ℕ)) (end : List ℕ) → length (joined_to (drop k labels) end) ≤ length (joined_to labels end)
joined_to-drop zero labels end = omega arith
joined_to-drop (suc k) [] end = omega arith
joined_to-drop (suc k) (l ∷ labels) end = let more = joined_to-drop k labels end in let e = length-append l (joined_to labels end) in omega (arith, more, e)

joined_to-end : (labels : List (List ℕ)) (end : List ℕ) → length end ≤ length (joined_to labels end)
joined_to-end [] end = omega arith
joined_to-end (l ∷ labels) end = let more = joined_to-end labels end in let e = length-append l (joined_to labels end) in omega (arith, more, e)

pub top_is_name : (b : Below) → IsBelow b → IsName (top_of b)
top_is_name b is = record {
  labels = b.x ∷ bit ∷ [];
  are = (is.x, ((omega arith, omega arith), tt));
  text = refl;
  fits = let e = joined_to-end b.path (top_of b) in let f = is.fits in omega (arith, e, f);
}

pub are_drop : (k : ℕ) (labels : List (List ℕ)) → AllByRecursion IsWireLabel labels → AllByRecursion IsWireLabel (drop k labels)
are_drop zero labels are = are
are_drop (suc k) [] are = tt
are_drop (suc k) (l ∷ labels) are = are_drop k labels are.1

pub are_take : (k : ℕ) (labels : List (List ℕ)) → AllByRecursion IsWireLabel labels → AllByRecursion IsWireLabel (take k labels)
are_take zero labels are = tt
are_take (suc k) [] are = tt
are_take (suc k) (l ∷ labels) are = (are.0, are_take k labels are.1)

pub own_fits : (b : Below) (k : ℕ) → IsBelow b → length (own_of b (drop k b.path)) ≤ LONGEST_WIRE
own_fits b k is = let e = joined_to-drop k b.path (top_of b) in let f = is.fits in omega (arith, e, f)

are_reversed : (xs : List (List ℕ)) → AllByRecursion IsWireLabel xs → AllByRecursion IsWireLabel (reverse xs)
are_reversed [] are = tt
are_reversed (x ∷ xs) are = rw (reverse-append (x ∷ []) xs) (are_both (reverse xs) (x ∷ []) (are_reversed xs are.1) (are.0, tt))

found_below : (b x : List ℕ) (up : List (List ℕ)) → b ≡ bit → AllByRecursion IsWireLabel (b ∷ x ∷ up) → length (wire_of (reverse (b ∷ x ∷ up))) ≤ LONGEST_WIRE → IsBelow (record { x = x; path = reverse up })
found_below b x up is are few =
    let whole : reverse (b ∷ x ∷ up) ≡ reverse up ++ (x ∷ b ∷ []) = reverse-append (b ∷ x ∷ []) up in
    let same : joined_to (reverse up) (wire_of (x ∷ b ∷ [])) ≡ wire_of (reverse (b ∷ x ∷ up)) = joined_to-joined_to (reverse up) (x ∷ b ∷ []) (0 ∷ []) ∙ ap wire_of (sym whole) in
    let named : joined_to (reverse up) (wire_of (x ∷ bit ∷ [])) ≡ wire_of (reverse (b ∷ x ∷ up)) = ap (λ l. joined_to (reverse up) (wire_of (x ∷ l ∷ []))) (sym is) ∙ same in
    let e = ap length named in
    record { x = are.1.0; path = are_reversed up are.1.1; fits = omega (arith, e, few) }

place_up-is : (rs : List (List ℕ)) → AllByRecursion IsWireLabel rs → length (wire_of (reverse rs)) ≤ LONGEST_WIRE → IsPlace (place_up rs)
place_up-is [] are few = tt
place_up-is (b ∷ []) are few = by_case (bytes_eq b bit) refl
  where
    by_case : (t : Bool) → bytes_eq b bit ≡ t → IsPlace (place_up (b ∷ []))
    by_case true e = rw e tt
    by_case false e = rw e tt
place_up-is (b ∷ x ∷ up) are few = by_case (bytes_eq b bit) refl
  where
    by_case : (t : Bool) → bytes_eq b bit ≡ t → IsPlace (place_up (b ∷ x ∷ up))
    by_case true e = rw e (found_below b x up ((bytes_eq-Decides b bit).0 e) are few)
    by_case false e = rw e tt

-- the domain name of a node above a name is a name
pub own_there : (b : Below) (k : ℕ) (top : List ℕ) → IsBelow b → top ≡ top_of b → if_fits (joined_to (drop k b.path) top) ≡ Some (own_of b (drop k b.path))
own_there b k top is e = ap (λ t. if_fits (joined_to (drop k b.path) t)) e ∙ short_enough (own_of b (drop k b.path)) (own_fits b k is)

joined_lists : (xs ys zs : List (List ℕ)) → xs ++ (ys ++ zs) ≡ (xs ++ ys) ++ zs
joined_lists xs ys zs = sym (simp append_assoc)

-- the first label of a name, and the name that stands behind it
record FirstLabel (rest label more : List ℕ) : Type 0 where
  is : IsWireLabel label
  named : IsName more
  labels : labels_of rest ≡ label ∷ labels_of more
  text : rest ≡ length label ∷ (label ++ more)

some_same : (p q : List ℕ × List ℕ) → Some p ≡ Some q → p ≡ q
some_same p q e = cc (e)

rest_fits : (l w rest : List ℕ) → rest ≡ length l ∷ (l ++ w) → length rest ≤ LONGEST_WIRE → length w ≤ LONGEST_WIRE
rest_fits l w rest text fits = let long = ap length text in let e = length-append l w in omega (arith, long, e, fits)

first_label : (rest label more : List ℕ) → IsName rest → next_of rest ≡ Some (label, more) → FirstLabel rest label more
first_label rest label more is next = by_labels is.labels is.are is.text
  where
    by_labels : (ls : List (List ℕ)) → AllByRecursion IsWireLabel ls → rest ≡ wire_of ls → FirstLabel rest label more
    by_labels [] are text = absurd (cc (text, next))
    by_labels (l ∷ ls) are text =
        let same = some_same (l, wire_of ls) (label, more) (sym (ap next_of text ∙ next_of-label l (wire_of ls) are.0) ∙ next) in
        let first : l ≡ label = ap (λ p. p.0) same in
        let behind : wire_of ls ≡ more = ap (λ p. p.1) same in
        record {
          is = subst IsWireLabel first are.0;
          named = record { labels = ls; are = are.1; text = sym behind; fits = subst (λ w. length w ≤ LONGEST_WIRE) behind (rest_fits l (wire_of ls) rest text is.fits) };
          labels = ap labels_of text ∙ labels_of-wire_of (l ∷ ls) are ∙ ap₂ (λ a b. a ∷ b) first (sym (ap labels_of (sym behind) ∙ labels_of-wire_of ls are.1));
          text = text ∙ ap₂ (λ a b. length a ∷ (a ++ b)) first behind;
        }

no_label : (rest : List ℕ) → IsName rest → next_of rest ≡ None → rest ≡ 0 ∷ []
no_label rest is next = by_labels is.labels is.are is.text
  where
    by_labels : (ls : List (List ℕ)) → AllByRecursion IsWireLabel ls → rest ≡ wire_of ls → rest ≡ 0 ∷ []
    by_labels [] are text = text
    by_labels (l ∷ ls) are text = absurd (cc (text, next_of-label l (wire_of ls) are.0, next))

-- no length of a label is a letter
low : (n : ℕ) → n ≤ 63 → to_ascii_lowercase n ≡ n
low n h = grind (arith, nat_tests)

-- the first label in lower case is that of the name in lower case
next_of-lower : (rest label more : List ℕ) → IsName rest → next_of rest ≡ Some (label, more) → next_of (lower rest) ≡ Some (lower label, lower more)
next_of-lower rest label more is next =
    let first = first_label rest label more is next in
    let long = length-map label to_ascii_lowercase in
    let text : lower rest ≡ length (lower label) ∷ (lower label ++ lower more) = ap lower first.text ∙ ap₂ (λ n w. n ∷ w) (low (length label) first.is.1 ∙ sym long) (map-append to_ascii_lowercase label more) in
    ap next_of text ∙ next_of-label (lower label) (lower more) (subst (λ n. (1 ≤ n) × (n ≤ LONGEST_LABEL)) (sym long) first.is)

no_label-lower : (rest : List ℕ) → IsName rest → next_of rest ≡ None → next_of (lower rest) ≡ None
no_label-lower rest is next = ap (λ w. next_of (lower w)) (no_label rest is next)

pub named_more : (rest label more : List ℕ) → IsName rest → next_of rest ≡ Some (label, more) → IsName more
named_more rest label more is next = (first_label rest label more is next).named

-- labels were read off a name, and what is left is another name than `bit.`
pub record OnLabels (whole path : List (List ℕ)) (rest : List ℕ) : Type 0 where
  pub named : IsName rest
  pub parts : path ++ labels_of rest ≡ whole
  pub further : rest ≡ apex_name → ⊥
  pub ends : rest ≡ 0 ∷ [] → place_up (reverse whole) ≡ outside

pub labels_start : (wire : List ℕ) (path : List (List ℕ)) → IsName wire → (lower wire ≡ apex_name → ⊥) → path ≡ [] → OnLabels (labels_of (lower wire)) path (lower wire)
labels_start wire path is further none = record {
  named = IsName-lower wire is;
  parts = ap (λ p. p ++ labels_of (lower wire)) none;
  further = further;
  ends = λ e. ap (λ w. place_up (reverse (labels_of w))) e;
}

pub labels_end : (whole path : List (List ℕ)) (rest : List ℕ) → IsName rest → OnLabels whole path (lower rest) → next_of rest ≡ None → place_up (reverse whole) ≡ outside
labels_end whole path rest is on next = on.ends (no_label (lower rest) on.named (no_label-lower rest is next))

up_outside : (l : List ℕ) (up : List (List ℕ)) → bytes_eq l bit ≡ false → place_up (l ∷ up) ≡ outside
up_outside l [] e = rw e refl
up_outside l (x ∷ up) e = rw e refl

at_below : (whole path : List (List ℕ)) (rest label more : List ℕ) → OnLabels whole path rest → next_of rest ≡ Some (label, more) → more ≡ apex_name
    → place_up (reverse whole) ≡ below (record { x = label; path = path })
at_below whole path rest label more on next apex =
    let first = first_label rest label more on.named next in
    let parts : whole ≡ path ++ (label ∷ bit ∷ []) = sym on.parts ∙ ap (λ ls. path ++ ls) (first.labels ∙ ap (λ w. label ∷ labels_of w) apex) in
    ap (λ ls. place_up (reverse ls)) parts ∙ ap place_up (reverse-append path (label ∷ bit ∷ [])) ∙ ap (λ up. below (record { x = label; path = up })) (reverse-reverse path)

at_more : (whole path after : List (List ℕ)) (rest label more : List ℕ) → OnLabels whole path rest → next_of rest ≡ Some (label, more) → (more ≡ apex_name → ⊥) → after ≡ path ++ label ∷ []
    → OnLabels whole after more
at_more whole path after rest label more on next further grown =
    let first = first_label rest label more on.named next in
    let parts : after ++ labels_of more ≡ whole = ap (λ ls. ls ++ labels_of more) grown ∙ sym (joined_lists path (label ∷ []) (labels_of more)) ∙ ap (λ ls. path ++ ls) (sym first.labels) ∙ on.parts in
    record {
      named = first.named;
      parts = parts;
      further = further;
      ends = λ e.
          let all : whole ≡ path ++ (label ∷ []) = sym on.parts ∙ ap (λ ls. path ++ ls) (first.labels ∙ ap (λ w. label ∷ labels_of w) e) in
          ap (λ ls. place_up (reverse ls)) all ∙ ap place_up (reverse-append path (label ∷ [])) ∙ by_case (bytes_eq label bit) refl (λ same. on.further (first.text ∙ ap₂ (λ a b. length a ∷ (a ++ b)) same e));
    }
  where
    by_case : (t : Bool) → bytes_eq label bit ≡ t → (label ≡ bit → ⊥) → place_up (label ∷ reverse path) ≡ outside
    by_case true e other = absurd (other ((bytes_eq-Decides label bit).0 e))
    by_case false e other = up_outside label (reverse path) e

pub label_below : (whole path : List (List ℕ)) (rest label more : List ℕ) → IsName rest → OnLabels whole path (lower rest) → next_of rest ≡ Some (label, more) → lower more ≡ apex_name
    → place_up (reverse whole) ≡ below (record { x = lower label; path = path })
label_below whole path rest label more is on next apex = at_below whole path (lower rest) (lower label) (lower more) on (next_of-lower rest label more is next) apex

pub label_more : (whole path after : List (List ℕ)) (rest label more : List ℕ) → IsName rest → OnLabels whole path (lower rest) → next_of rest ≡ Some (label, more) → (lower more ≡ apex_name → ⊥) → after ≡ path ++ lower label ∷ []
    → OnLabels whole after (lower more)
label_more whole path after rest label more is on next further grown = at_more whole path after (lower rest) (lower label) (lower more) on (next_of-lower rest label more is next) further grown

pub top_wire : (b : Below) (w l : List ℕ) → IsBelow b → l ≡ b.x → w ≡ length l ∷ (l ++ apex_name) → IsName w
top_wire b w l is x h = subst IsName (sym (h ∙ ap (λ y. length y ∷ (y ++ apex_name)) x)) (top_is_name b is)

pub own_is_there : (b : Below) (k : ℕ) (xs : List (List ℕ)) (top : List ℕ) (o : Option (List ℕ)) → IsBelow b → top ≡ top_of b → xs ≡ b.path → o ≡ None → o ≡ if_fits (joined_to (take (length xs - k) (drop k xs)) top) → ⊥
own_is_there b k xs top o is t e none h =
    let all : take (length xs - k) (drop k xs) ≡ drop k b.path = take_all (length xs - k) (drop k xs) (omega (arith, length-drop k xs)) ∙ ap (drop k) e in
    let some : o ≡ Some (own_of b (drop k b.path)) = h ∙ ap (λ l. if_fits (joined_to l top)) all ∙ own_there b k top is t in
    some_not_none (own_of b (drop k b.path)) (sym some ∙ none)
  where
    some_not_none : (w : List ℕ) → Some w ≡ None → ⊥
    some_not_none w e = cc

pub place_named : (wire : List ℕ) (p : Place) → IsName wire → p ≡ place_of wire → IsPlace p
place_named wire p is h =
    let n = IsName-lower wire is in
    let all : labels_of (lower wire) ≡ n.labels = ap labels_of n.text ∙ labels_of-wire_of n.labels n.are in
    let long = ap length (ap wire_of (reverse-reverse n.labels) ∙ sym n.text) in
    let few = n.fits in
    rw (h, all) (place_up-is (reverse n.labels) (are_reversed n.labels n.are) (omega (arith, long, few)))
