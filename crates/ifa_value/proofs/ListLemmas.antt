-- Lists of elements.
use Rattle.std.proofs.Common.{◌≡◌, ℕ, ◌-◌, ◌/◌, ◌<◌, List, [], ◌∷◌, ◌++◌, length, take, drop, suc, append_assoc, length-drop, Option, Some, None, refl, sym, ap, ◌∙◌, arith}
use Rattle.std.specs.List.{filter_map}
use Rattle.serde_json.specs.Data.{Data, null, boolean, number, string, array, object, Items}
use Rattle.serde_json.specs.Find.{as_array}
use Rattle.serde_json.specs.View.{view, items_view}
use Rattle.serde_json.specs.declared.value.Value.{Value}
use Rattle.ifa_value.specs.Shapes.{strings, cut_after, txt}
use Rattle.ifa_value.specs.Elements.{each, onto, one_or_list, list_only}

pub onto_step : {A B : Type 0} (f : B → Option A) (x : B) (xs : List B) (r : Option A) → f x ≡ r → filter_map f (x ∷ xs) ≡ onto r (filter_map f xs)
onto_step f x xs (Some a) e = rw e refl
onto_step f x xs None e = rw e refl

pub each-items_view : {A : Type 0} (f : Data → Option A) (vs : List Value) → each f (items_view vs) ≡ filter_map (λ v. f (view v)) vs
each-items_view f [] = refl
each-items_view f (v ∷ vs) = ap (onto (f (view v))) (each-items_view f vs) ∙ sym (onto_step (λ v. f (view v)) v vs (f (view v)) refl)

pub one_or_list-array : {A : Type 0} (f : Data → Option A) (d : Data) (ds : Items) → Some ds ≡ as_array d → one_or_list f d ≡ each f ds
one_or_list-array f null ds e = cc
one_or_list-array f (boolean b) ds e = cc
one_or_list-array f (number n) ds e = cc
one_or_list-array f (string s) ds e = cc
one_or_list-array f (array es) ds e = let same : es ≡ ds = cc in ap (each f) same
one_or_list-array f (object ms) ds e = cc

pub list_only-array : {A : Type 0} (f : Data → Option A) (d : Data) (ds : Items) → Some ds ≡ as_array d → list_only f d ≡ each f ds
list_only-array f null ds e = cc
list_only-array f (boolean b) ds e = cc
list_only-array f (number n) ds e = cc
list_only-array f (string s) ds e = cc
list_only-array f (array es) ds e = let same : es ≡ ds = cc in ap (each f) same
list_only-array f (object ms) ds e = cc

cut_step : (rest : List ℕ) → 255 < length rest → strings rest ≡ 255 ∷ (take 255 rest ++ strings (drop 255 rest))
cut_step rest h =
    let e : (length rest - 1) / 255 ≡ suc ((length (drop 255 rest) - 1) / 255) = omega (arith, length-drop 255 rest) in
    ap (λ n. cut_after n rest) e

pub strings_step : (out rest front more : List ℕ) → 255 < length rest → front ≡ take 255 rest → more ≡ drop 255 rest → ((out ++ 255 ∷ []) ++ front) ++ strings more ≡ out ++ strings rest
strings_step out rest front more h f m = rw (cut_step rest h, f, m) (simp append_assoc)

pub txt-array : (d : Data) (ds : Items) → Some ds ≡ as_array d → txt d ≡ txt (array ds)
txt-array null ds e = absurd (cc)
txt-array (boolean b) ds e = absurd (cc)
txt-array (number n) ds e = absurd (cc)
txt-array (string s) ds e = absurd (cc)
txt-array (array es) ds e = let same : es ≡ ds = cc in ap (λ xs. txt (array xs)) same
txt-array (object ms) ds e = absurd (cc)
