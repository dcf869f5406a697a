-- A text is read as a host exactly where it is one of the four forms.
use Rattle.std.proofs.Common.{◌≡◌, ◌≢◌, ℕ, ◌+◌, ◌-◌, ◌/◌, ◌%◌, ◌<◌, ◌≤◌, ◌==◌, List, [], ◌∷◌, ◌++◌, length, take, drop, Option, Some, None, Bool, true, false, refl, sym, ap, ap₂, subst, ◌∙◌, arith, nat_eq, if◌then◌else◌, append_assoc, length-append, take-append-drop, ◌&&◌, is_some, All, ◌⊎◌, inl, inr}
use Rattle.std.proofs.lemmas.List.{same_from_push, take_at, drop_at}
use Rattle.std.proofs.lemmas.List.Splits.{slice_split_at, slice_split_none, join_with_byte-slice_split, length-slice_split}
use Rattle.std.proofs.lemmas.List.Elements.{All-nil, All-cons}
use Rattle.std.proofs.lemmas.Fmt.{decimal_digit, decimal_step}
use Rattle.std.proofs.lemmas.Bool.{and_parts}
use Rattle.std.proofs.lemmas.Bool.Decides.{nat_tests}
use Rattle.std.specs.Cmp.Lexicographic.{pointwise, same_text, other_text}
use Rattle.std.specs.List.{list_all, join_with_byte}
use Rattle.std.specs.Prelude.{decimal, nat_lt, nat_le}
use Rattle.domain_text.specs.declared.host.Form.{Form}
use Rattle.domain_text.specs.declared.host.Form.TheVariants.{Absolute, AtTop, AtOwn}
use Rattle.domain_text.specs.Label.{is_label, is_label_byte}
use Rattle.domain_text.specs.Ipv4.{IsIpv4, ipv4_of}
use Rattle.domain_text.specs.Host.{HostText, IsHost, IsJoined, parts, before_end, is_top, labelled, by_end, host_of}
use Rattle.domain_text.specs.Host.IsHost.{absolute, empty, at_sign, below_top, below_own}
use Rattle.domain_text.specs.Host.{IsAbsoluteHost, absolute_of, absolute_name_of}
use Rattle.domain_text.specs.Names.{wire_of}
use Rattle.domain_text.specs.declared.limits.TheConstants.{LONGEST_WIRE}
use Rattle.domain_text.proofs.Exactly.{and_then-found, and_then-step}
use Rattle.domain_text.proofs.NameForms.{if_fits-Some, fits_so}
use Rattle.domain_text.proofs.Ipv4Laws.{ipv4_found, ipv4_only}

same_texts : (xs ys : List ℕ) (b : Bool) → pointwise nat_eq xs ys ≡ b → b ≡ true → xs ≡ ys
same_texts xs ys b e t = same_text xs ys (sym (e ∙ t))

differ : (xs ys : List ℕ) → pointwise nat_eq xs ys ≡ false → xs ≡ ys → ⊥
differ xs ys e = other_text xs ys (sym e)

before_by : (end text front : List ℕ) (b : Bool) → pointwise nat_eq (drop (length text - length end) text) end ≡ b
    → (if b then Some (take (length text - length end) text) else None) ≡ Some front → text ≡ front ++ end
before_by end text front true t e =
    let s : take (length text - length end) text ≡ front = cc in
    sym (take-append-drop (length text - length end) text) ∙ ap₂ (λ x y. x ++ y) s (same_texts _ _ true t refl)
before_by end text front false t e = absurd (cc)

pub before_found : (end text front : List ℕ) → before_end end text ≡ Some front → text ≡ front ++ end
before_found end text front e = before_by end text front _ refl e

at_end : (end front : List ℕ) (b : Bool) → pointwise nat_eq (drop (length (front ++ end) - length end) (front ++ end)) end ≡ b
    → (if b then Some (take (length (front ++ end) - length end) (front ++ end)) else None) ≡ Some front
at_end end front true t =
    let n : length front ≡ length (front ++ end) - length end = omega (arith, length-append front end) in
    ap Some (take_at front end _ n)
at_end end front false t =
    let n : length front ≡ length (front ++ end) - length end = omega (arith, length-append front end) in
    absurd (differ _ _ t (drop_at front end _ n))

pub before_only : (end text front : List ℕ) → text ≡ front ++ end → before_end end text ≡ Some front
before_only end text front e = rw e (at_end end front _ refl)

pub before_none : (end text : List ℕ) → ((front : List ℕ) → text ≡ front ++ end → ⊥) → before_end end text ≡ None
before_none end text none = go (before_end end text) refl
  where
    go : (o : Option (List ℕ)) → before_end end text ≡ o → before_end end text ≡ None
    go None e = e
    go (Some front) e = absurd (none front (before_found end text front e))

-- the parts of a text join to it
some_parts : (text : List ℕ) → parts text ≢ []
some_parts text e = omega (arith, length-slice_split (λ b. b == 46) text, ap length e)

labelled_by : (form : Form) (text : List ℕ) (host : HostText) (b : Bool) → list_all is_label (parts text) ≡ b
    → (if b then Some (record { form = form; labels = parts text }) else None) ≡ Some host → (host.form ≡ form) × IsJoined text host.labels
labelled_by form text host true t e =
    let s : record { form = form; labels = parts text } ≡ host = cc in
    (sym (ap (λ h. h.form) s), subst (λ labels. IsJoined text labels) (ap (λ h. h.labels) s) (record { some = some_parts text; are = t; spelled = sym (join_with_byte-slice_split 46 text) }))
labelled_by form text host false t e = absurd (cc)

pub labelled_found : (form : Form) (text : List ℕ) (host : HostText) → labelled form text ≡ Some host → (host.form ≡ form) × IsJoined text host.labels
labelled_found form text host e = labelled_by form text host _ refl e

label_byte_no_dot : (b : ℕ) → is_label_byte b ≡ true → (b == 46) ≡ false
label_byte_no_dot b h = grind (arith, nat_tests)

no_dots : (l : List ℕ) → list_all is_label_byte l ≡ true → All (λ b. (b == 46) ≡ false) l
no_dots [] h = All-nil (λ b. (b == 46) ≡ false)
no_dots (b ∷ l) h = let p = and_parts (is_label_byte b) (list_all is_label_byte l) h in All-cons (λ b. (b == 46) ≡ false) b l (label_byte_no_dot b p.0) (no_dots l p.1)

pub label_bytes : (l : List ℕ) → is_label l ≡ true → list_all is_label_byte l ≡ true
label_bytes l h = (and_parts (nat_le 1 (length l) && nat_le (length l) 63) (list_all is_label_byte l) h).1

label_some : (l : List ℕ) → is_label l ≡ true → 1 ≤ length l
label_some l h =
    let p = (and_parts (nat_le 1 (length l)) (nat_le (length l) 63) (and_parts (nat_le 1 (length l) && nat_le (length l) 63) (list_all is_label_byte l) h).0).0 in
    grind (arith, nat_tests)

parts_joined : (labels : List (List ℕ)) → labels ≢ [] → list_all is_label labels ≡ true → parts (join_with_byte 46 labels) ≡ labels
parts_joined [] some are = absurd (some refl)
parts_joined (l ∷ []) some are = slice_split_none (λ b. b == 46) l (no_dots l (label_bytes l (and_parts (is_label l) true are).0))
parts_joined (l ∷ m ∷ rest) some are =
    let p = and_parts (is_label l) (list_all is_label (m ∷ rest)) are in
    slice_split_at (λ b. b == 46) l 46 (join_with_byte 46 (m ∷ rest)) (no_dots l (label_bytes l p.0)) refl
    ∙ ap (λ ls. l ∷ ls) (parts_joined (m ∷ rest) (λ e. absurd (cc)) p.1)

pub labelled_only : (form : Form) (text : List ℕ) (labels : List (List ℕ)) → IsJoined text labels → labelled form text ≡ Some (record { form = form; labels = labels })
labelled_only form text labels j =
    let same : parts text ≡ labels = ap parts j.spelled ∙ parts_joined labels j.some j.are in
    rw same (rw j.are refl)

-- the last byte of a text
pub record EndsIn (text : List ℕ) (last : ℕ) : Type 0 where
  pub front : List ℕ
  pub whole : text ≡ front ++ (last ∷ [])

pub one_end : (text front : List ℕ) (last b : ℕ) → EndsIn text last → text ≡ front ++ (b ∷ []) → last ≡ b
one_end text front last b ends e = (same_from_push ends.front front last b (sym ends.whole ∙ e)).1

behind : (front text : List ℕ) (last : ℕ) → EndsIn text last → EndsIn (front ++ text) last
behind front text last ends = record { front = front ++ ends.front; whole = ap (λ w. front ++ w) ends.whole ∙ sym (append_assoc front ends.front (last ∷ [])) }

-- labels end in a byte of a label
record EndsInLabel (text : List ℕ) : Type 0 where
  last : ℕ
  byte : is_label_byte last ≡ true
  ends : EndsIn text last

label_ends : (l : List ℕ) → 1 ≤ length l → list_all is_label_byte l ≡ true → EndsInLabel l
label_ends [] some are = absurd (omega arith)
label_ends (b ∷ []) some are = record { last = b; byte = (and_parts (is_label_byte b) true are).0; ends = record { front = []; whole = refl } }
label_ends (b ∷ c ∷ l) some are =
    let r = label_ends (c ∷ l) (omega arith) (and_parts (is_label_byte b) (list_all is_label_byte (c ∷ l)) are).1 in
    record { last = r.last; byte = r.byte; ends = behind (b ∷ []) (c ∷ l) r.last r.ends }

joined_ends : (labels : List (List ℕ)) → labels ≢ [] → list_all is_label labels ≡ true → EndsInLabel (join_with_byte 46 labels)
joined_ends [] some are = absurd (some refl)
joined_ends (l ∷ []) some are = let h = (and_parts (is_label l) true are).0 in label_ends l (label_some l h) (label_bytes l h)
joined_ends (l ∷ m ∷ rest) some are =
    let r = joined_ends (m ∷ rest) (λ e. absurd (cc)) (and_parts (is_label l) (list_all is_label (m ∷ rest)) are).1 in
    record { last = r.last; byte = r.byte; ends = behind l (46 ∷ join_with_byte 46 (m ∷ rest)) r.last (behind (46 ∷ []) (join_with_byte 46 (m ∷ rest)) r.last r.ends) }

text_ends : (text : List ℕ) (labels : List (List ℕ)) → IsJoined text labels → EndsInLabel text
text_ends text labels j = subst EndsInLabel (sym j.spelled) (joined_ends labels j.some j.are)

not_label : (b : ℕ) → is_label_byte b ≡ true → (b ≡ 46 → ⊥) × (b ≡ 64 → ⊥)
not_label b h = ((λ e. grind (arith, nat_tests)), λ e. grind (arith, nat_tests))

-- an address ends in a digit
record EndsInDigit (text : List ℕ) : Type 0 where
  last : ℕ
  high : last < 58
  low : 48 ≤ last
  ends : EndsIn text last

decimal_ends : (n : ℕ) → n < 256 → EndsInDigit (decimal n)
decimal_ends n small = go (nat_lt n 10) refl
  where
    go : (b : Bool) → nat_lt n 10 ≡ b → EndsInDigit (decimal n)
    go true e = let h : n < 10 = grind (arith, nat_tests) in record { last = 48 + n; high = omega arith; low = omega arith; ends = record { front = []; whole = decimal_digit n h } }
    go false e = let h : 10 ≤ n = grind (arith, nat_tests) in record { last = 48 + n % 10; high = omega arith; low = omega arith; ends = record { front = decimal (n / 10); whole = decimal_step n h (omega arith) } }

address_ends : (text address : List ℕ) → IsIpv4 text address → EndsInDigit text
address_ends text [] is = absurd (omega (arith, is.four))
address_ends text (a ∷ []) is = absurd (omega (arith, is.four))
address_ends text (a ∷ b ∷ []) is = absurd (omega (arith, is.four))
address_ends text (a ∷ b ∷ c ∷ []) is = absurd (omega (arith, is.four))
address_ends text (a ∷ b ∷ c ∷ d ∷ []) is =
    let r = decimal_ends d is.bytes.1.1.1.0 in
    record { last = r.last; high = r.high; low = r.low; ends = rw is.spelled (behind (decimal a) _ r.last (behind (46 ∷ decimal b) _ r.last (behind (46 ∷ decimal c) _ r.last (behind (46 ∷ []) _ r.last r.ends)))) }
address_ends text (a ∷ b ∷ c ∷ d ∷ e ∷ rest) is = absurd (omega (arith, is.four))

no_address : (text : List ℕ) → ((address : List ℕ) → IsIpv4 text address → ⊥) → ipv4_of text ≡ None
no_address text none = go (ipv4_of text) refl
  where
    go : (o : Option (List ℕ)) → ipv4_of text ≡ o → ipv4_of text ≡ None
    go None e = e
    go (Some address) e = absurd (none address (ipv4_found text address e))

ends_so : (text front : List ℕ) (b : ℕ) → text ≡ front ++ (b ∷ []) → (b < 48) ⊎ (58 ≤ b) → ipv4_of text ≡ None
ends_so text front b e other = no_address text (λ address is. let r = address_ends text address is in let same : r.last ≡ b = one_end text front r.last b r.ends e in elim other [ inl l ↦ omega (arith, same, r.low) | inr h ↦ omega (arith, same, r.high) ])

-- the whole
not_top_by : (text : List ℕ) → (text ≢ []) → (text ≢ 64 ∷ []) → is_top text ≡ false
not_top_by [] some other = absurd (some refl)
not_top_by (b ∷ []) some other = let ne : b ≢ 64 = λ e. other (ap (λ x. x ∷ []) e) in grind (arith, nat_tests)
not_top_by (b ∷ c ∷ rest) some other = refl

top_by : (text : List ℕ) → is_top text ≡ true → (text ≡ []) ⊎ (text ≡ 64 ∷ [])
top_by [] e = inl refl
top_by (b ∷ []) e = let is : b ≡ 64 = grind (arith, nat_tests) in inr (ap (λ x. x ∷ []) is)
top_by (b ∷ c ∷ rest) e = absurd (cc)

by_end_found : (text : List ℕ) (host : HostText) (a d : Option (List ℕ)) → ipv4_of text ≡ None → before_end (46 ∷ 64 ∷ []) text ≡ a → before_end (46 ∷ []) text ≡ d
    → by_end text a d ≡ Some host → IsHost text host
by_end_found text host (Some front) d none ea ed e = let r = labelled_found AtTop front host e in below_top front r.0 (before_found _ _ _ ea) r.1
by_end_found text host None (Some front) none ea ed e = let r = labelled_found Absolute front host e in absolute front r.0 (before_found _ _ _ ed) r.1
by_end_found text host None None none ea ed e = let r = labelled_found AtOwn text host e in below_own r.0 r.1 (λ address is. let x = ipv4_only text address is in absurd (cc))

top_found : (text : List ℕ) (host : HostText) (b : Bool) → is_top text ≡ b → ipv4_of text ≡ None
    → (if b then Some (record { form = AtTop; labels = [] }) else by_end text (before_end (46 ∷ 64 ∷ []) text) (before_end (46 ∷ []) text)) ≡ Some host → IsHost text host
top_found text host true t none e = let is : host ≡ record { form = AtTop; labels = [] } = cc in elim (top_by text t) [ inl x ↦ empty is x | inr x ↦ at_sign is x ]
top_found text host false t none e = by_end_found text host _ _ none refl refl e

address_found : (text : List ℕ) (host : HostText) (o : Option (List ℕ)) → ipv4_of text ≡ o
    → (if is_some o then None else if is_top text then Some (record { form = AtTop; labels = [] }) else by_end text (before_end (46 ∷ 64 ∷ []) text) (before_end (46 ∷ []) text)) ≡ Some host → IsHost text host
address_found text host None none e = top_found text host _ refl none e
address_found text host (Some address) some e = absurd (cc)

pub host_found : (text : List ℕ) (host : HostText) → host_of text ≡ Some host → IsHost text host
unfolding host_of
host_found text host e = address_found text host _ refl e

host_by : (text : List ℕ) (a d : Option (List ℕ)) → ipv4_of text ≡ None → is_top text ≡ false → before_end (46 ∷ 64 ∷ []) text ≡ a → before_end (46 ∷ []) text ≡ d → host_of text ≡ by_end text a d
unfolding host_of
host_by text a d none other ea ed = rw none (rw other (ap₂ (λ x y. by_end text x y) ea ed))

top_host : (text : List ℕ) → ipv4_of text ≡ None → is_top text ≡ true → host_of text ≡ Some (record { form = AtTop; labels = [] })
unfolding host_of
top_host text none top = rw none (rw top refl)

seen : (host : HostText) (form : Form) → host.form ≡ form → record { form = form; labels = host.labels } ≡ host
seen host form e = ap (λ f. record { form = f; labels = host.labels }) (sym e)

some_front : (front : List ℕ) (labels : List (List ℕ)) → IsJoined front labels → 1 ≤ length front
some_front front labels j = let r = text_ends front labels j in omega (arith, length-append r.ends.front (r.last ∷ []), ap length r.ends.whole)

pub host_only : (text : List ℕ) (host : HostText) → IsHost text host → host_of text ≡ Some host
host_only text host (absolute front form whole j) =
    let r = text_ends front host.labels j in
    let long : 2 ≤ length text = omega (arith, ap length whole, length-append front (46 ∷ []), some_front front host.labels j) in
    let no_at : before_end (46 ∷ 64 ∷ []) text ≡ None =
    before_none _ text (λ f e. let same : 46 ≡ 64 = one_end text (f ++ (46 ∷ [])) 46 64 (record { front = front; whole = whole }) (e ∙ sym (append_assoc f (46 ∷ []) (64 ∷ []))) in omega (arith, same)) in
    host_by text None (Some front) (ends_so text front 46 whole (inl (omega arith))) (not_top_by text (λ e. omega (arith, ap length e, long)) (λ e. omega (arith, ap length e, long))) no_at (before_only _ text front whole)
    ∙ labelled_only Absolute front host.labels j ∙ ap Some (seen host Absolute form)
host_only text host (empty is e) = top_host text (no_address text (λ address a. let r = address_ends text address a in omega (arith, ap length e, ap length r.ends.whole, length-append r.ends.front (r.last ∷ [])))) (ap is_top e) ∙ ap Some (sym is)
host_only text host (at_sign is e) = top_host text (ends_so text [] 64 e (inr (omega arith))) (ap is_top e) ∙ ap Some (sym is)
host_only text host (below_top front form whole j) =
    let long : 3 ≤ length text = omega (arith, ap length whole, length-append front (46 ∷ 64 ∷ []), some_front front host.labels j) in
    host_by text (Some front) _ (ends_so text (front ++ (46 ∷ [])) 64 (whole ∙ sym (append_assoc front (46 ∷ []) (64 ∷ []))) (inr (omega arith)))
    (not_top_by text (λ e. omega (arith, ap length e, long)) (λ e. omega (arith, ap length e, long))) (before_only _ text front whole) refl
    ∙ labelled_only AtTop front host.labels j ∙ ap Some (seen host AtTop form)
host_only text host (below_own form j none) =
    let r = text_ends text host.labels j in
    let other = not_label r.last r.byte in
    let some = some_front text host.labels j in
    host_by text None None (no_address text none)
    (not_top_by text (λ e. omega (arith, ap length e, some)) (λ e. other.1 (one_end text [] r.last 64 r.ends e)))
    (before_none _ text (λ f e. other.1 (one_end text (f ++ (46 ∷ [])) r.last 64 r.ends (e ∙ sym (append_assoc f (46 ∷ []) (64 ∷ []))))))
    (before_none _ text (λ f e. other.0 (one_end text f r.last 46 r.ends e)))
    ∙ labelled_only AtOwn text host.labels j ∙ ap Some (seen host AtOwn form)

absolute_by : (text name : List ℕ) (form : Form) (labels : List (List ℕ)) → IsHost text (record { form = form; labels = labels }) → absolute_of form labels ≡ Some name → IsAbsoluteHost text name
absolute_by text name Absolute labels is e = let f = if_fits-Some (wire_of labels) name (sym e) in record { labels = labels; host = is; on_wire = f.0; fits = omega (arith, ap length f.0, f.1) }
absolute_by text name AtTop labels is e = absurd (cc)
absolute_by text name AtOwn labels is e = absurd (cc)

pub absolute_found : (text name : List ℕ) → absolute_name_of text ≡ Some name → IsAbsoluteHost text name
absolute_found text name e = let h = and_then-found _ (host_of text) name e in absolute_by text name h.0.form h.0.labels (host_found text h.0 h.1) h.2

pub absolute_only : (text name : List ℕ) → IsAbsoluteHost text name → absolute_name_of text ≡ Some name
absolute_only text name is =
    let fits : nat_le (length (wire_of is.labels)) LONGEST_WIRE ≡ true = fits_so _ (omega (arith, ap length is.on_wire, is.fits)) in
    and_then-step _ (host_of text) _ (host_only text _ is.host) ∙ ap (λ b. if b then Some (wire_of is.labels) else None) fits ∙ ap Some (sym is.on_wire)
