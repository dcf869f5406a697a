-- What the name of a host spells is its text.
use Rattle.std.proofs.Common.{◌≡◌, ◌≢◌, ℕ, zero, suc, ◌+◌, ◌-◌, ◌<◌, List, [], ◌∷◌, ◌++◌, length, take, drop, get_or, refl, sym, ◌∙◌, ap, subst, arith, append_assoc, drop-cons, add-one}
use Rattle.std.specs.List.{join_with_byte}
use Rattle.domain_text.specs.declared.host.Form.TheVariants.{Absolute, AtTop, AtOwn}
use Rattle.domain_text.specs.Host.{HostText, IsHost, absolute, empty, at_sign, below_top, below_own}
use Rattle.domain_text.specs.Names.{wire_of}
use Rattle.name_store.specs.Host.{IsHostOf}
use Rattle.name_store.specs.Spelling.{spelled_from, spelled}

-- a label is spelled as it is
label_spelled : (label rest : List ℕ) → spelled_from (length label) (label ++ rest) ≡ label ++ spelled_from 0 rest
label_spelled [] rest = refl
label_spelled (b ∷ label) rest = ap (λ (l : List ℕ). b ∷ l) (label_spelled label rest)

-- labels are joined by dots, with one more at the end
labels_spelled : (label : List ℕ) (labels : List (List ℕ)) → spelled_from (length label) (label ++ wire_of labels) ≡ join_with_byte 46 (label ∷ labels) ++ 46 ∷ []
labels_spelled label [] = label_spelled label (0 ∷ [])
labels_spelled label (next ∷ labels) = label_spelled label (wire_of (next ∷ labels))
    ∙ ap (λ (l : List ℕ). label ++ 46 ∷ l) (labels_spelled next labels)
    ∙ sym (append_assoc label (46 ∷ join_with_byte 46 (next ∷ labels)) (46 ∷ []))

joined_spelled : (labels : List (List ℕ)) → labels ≢ [] → spelled (wire_of labels) ≡ join_with_byte 46 labels ++ 46 ∷ []
joined_spelled [] some = absurd (some refl)
joined_spelled (label ∷ labels) some = labels_spelled label labels

absolute_spelled : (text : List ℕ) (host : HostText) → host.form ≡ Absolute → IsHost text host → spelled (wire_of host.labels) ≡ text
absolute_spelled text host form (absolute front same text_is joined) = joined_spelled host.labels joined.some ∙ ap (λ (l : List ℕ). l ++ 46 ∷ []) (sym joined.spelled) ∙ sym text_is
absolute_spelled text host form (empty same text_is) = absurd (other form (ap (λ (h : HostText). h.form) same))
  where
    other : host.form ≡ Absolute → host.form ≡ AtTop → ⊥
    other a b = cc
absolute_spelled text host form (at_sign same text_is) = absurd (other form (ap (λ (h : HostText). h.form) same))
  where
    other : host.form ≡ Absolute → host.form ≡ AtTop → ⊥
    other a b = cc
absolute_spelled text host form (below_top front same text_is joined) = absurd (other form same)
  where
    other : host.form ≡ Absolute → host.form ≡ AtTop → ⊥
    other a b = cc
absolute_spelled text host form (below_own same joined plain) = absurd (other form same)
  where
    other : host.form ≡ Absolute → host.form ≡ AtOwn → ⊥
    other a b = cc

-- the text of a base's host is what its name spells
pub host_spelled : (text name : List ℕ) → IsHostOf text name → spelled name ≡ text
host_spelled text name is =
    ap spelled is.absolute.on_wire ∙ absolute_spelled text (record { form = Absolute; labels = is.absolute.labels }) refl is.absolute.host

-- ---- a byte at a time

pub label_byte : (left i : ℕ) (out rest whole : List ℕ) → i < length rest → i < length out → (left ≡ 0 → ⊥) → take i out ++ spelled_from left (drop i rest) ≡ whole
    → (take i out ++ get_or rest i 0 ∷ []) ++ spelled_from (left - 1) (drop (i + 1) rest) ≡ whole
label_byte zero i out rest whole within room some h = absurd (some refl)
label_byte (suc left) i out rest whole within room some h =
    append_assoc (take i out) (get_or rest i 0 ∷ []) (spelled_from (suc left - 1) (drop (i + 1) rest))
    ∙ (λ k. take i out ++ get_or rest i 0 ∷ spelled_from (less k) (drop (add-one i k) rest))
    ∙ ap (λ (l : List ℕ). take i out ++ spelled_from (suc left) l) (sym (drop-cons rest i 0 within)) ∙ h
  where
    less : suc left - 1 ≡ left
    less = omega arith

pub length_byte : (left i : ℕ) (out rest whole : List ℕ) → i < length rest → i < length out → left ≡ 0 → take i out ++ spelled_from left (drop i rest) ≡ whole
    → (take i out ++ 46 ∷ []) ++ spelled_from (get_or rest i 0) (drop (i + 1) rest) ≡ whole
length_byte left i out rest whole within room none h =
    append_assoc (take i out) (46 ∷ []) (spelled_from (get_or rest i 0) (drop (i + 1) rest))
    ∙ ap (λ (n : ℕ). take i out ++ 46 ∷ spelled_from (get_or rest i 0) (drop n rest)) (add-one i)
    ∙ ap (λ (l : List ℕ). take i out ++ spelled_from 0 l) (sym (drop-cons rest i 0 within))
    ∙ subst (λ (n : ℕ). take i out ++ spelled_from n (drop i rest) ≡ whole) none h
