-- A map that is filled key by key.
use Rattle.std.proofs.Common.{◌≡◌, ℕ, ◌+◌, ◌≤◌, arith, Bool, true, false, cond, ◌||◌, List, [], ◌∷◌, ◌++◌, length, drop, take, Some, None, refl, sym, ap, ◌∙◌}
use Rattle.std.proofs.Math.Path.{fun_ext}
use Rattle.std.proofs.lemmas.List.{take_more, take_all}
use Rattle.std.proofs.lemmas.List.Folds.{list_any-append}
use Rattle.std.proofs.lemmas.Option.{slice_get_within, get_or_from_slice_get}
use Rattle.std.specs.Bool.{Decides}
use Rattle.std.specs.List.{list_any, slice_get}
use Rattle.std.specs.Map.{keys_of, lookup}
use Rattle.chain_names.specs.Points.{changed}
use Rattle.chain_names.specs.declared.coin.Item.{Item}
use Rattle.sliced_save.specs.Changes.{grown}
use Rattle.sliced_save.specs.Filling.{IsFilled}

module _ {K V : Type 0} (same : K → K → Bool) (decides : (a b : K) → Decides (same a b) (a ≡ b)) (there : K → V) (none : V) where
  one_more : (a b c : Bool) (x y z : V) → (a ≡ true → (b ≡ true) × (x ≡ y)) → (a ≡ false → b ≡ false) → cond a x (cond c y z) ≡ cond (c || (b || false)) y z
  one_more true b true x y z is isnt = (is refl).1
  one_more true true false x y z is isnt = (is refl).1
  one_more true false false x y z is isnt = absurd (cc (is refl).0)
  one_more false b true x y z is isnt = refl
  one_more false true false x y z is isnt = absurd (cc (isnt refl))
  one_more false false false x y z is isnt = refl

  turned : (a b : K) (x : Bool) → same a b ≡ x → same b a ≡ x
  turned a b true e = (decides b a).1 (sym ((decides a b).0 e))
  turned a b false e = by (same b a) refl
    where
      by : (y : Bool) → same b a ≡ y → y ≡ false
      by true f = sym ((decides a b).1 (sym ((decides b a).0 f))) ∙ e
      by false f = refl

  filled_more : (keys : List K) (here new : K → V) (key : K) → ((q : K) → here q ≡ cond (list_any (same q) keys) (there q) none) → new ≡ changed same here key (there key)
      → (q : K) → new q ≡ cond (list_any (same q) (keys ++ key ∷ [])) (there q) none
  filled_more keys here new key so_far is q =
      ap (λ (f : K → V). f q) is
      ∙ ap (cond (same key q) (there key)) (so_far q)
      ∙ one_more (same key q) (same q key) (list_any (same q) keys) (there key) (there q) none
      (λ e. (turned key q true e, ap there ((decides key q).0 e))) (turned key q false)
      ∙ ap (λ b. cond b (there q) none) (sym (list_any-append (same q) keys (key ∷ [])))

  pub filled_next : (keys : List K) (here new : K → V) (key : K) (i : ℕ) → IsFilled same there none keys here i → slice_get keys i ≡ Some key → new ≡ changed same here key (there key)
      → IsFilled same there none keys new (i + 1)
  filled_next keys here new key i so_far at is =
      let within = slice_get_within keys i key at in
      let found = get_or_from_slice_get keys i key key at in
      let e : take (i + 1) keys ≡ take i keys ++ key ∷ [] = take_more keys i key within ∙ ap (λ z. take i keys ++ z ∷ []) found in
      record {
        filled = λ q. filled_more (take i keys) here new key so_far.filled is q ∙ ap (λ (z : List K). cond (list_any (same q) z) (there q) none) (sym e);
        within = omega (arith, within);
      }

  at_any : (b : Bool) (x : V) → (b ≡ false → x ≡ none) → cond b x none ≡ x
  at_any true x isnt = refl
  at_any false x isnt = sym (isnt refl)

  pub filled_all : (keys : List K) (here : K → V) (i : ℕ) → IsFilled same there none keys here i → length keys ≤ i → ((q : K) → list_any (same q) keys ≡ false → there q ≡ none)
      → here ≡ there
  filled_all keys here i so_far past unlisted = fun_ext (λ q.
      so_far.filled q ∙ ap (λ (z : List K). cond (list_any (same q) z) (there q) none) (take_all i keys past) ∙ at_any (list_any (same q) keys) (there q) (unlisted q))

pub unlisted_none : {K V : Type 0} (test : K → Bool) (es : List (K × V)) → list_any test (keys_of es) ≡ false → lookup test es ≡ None
unlisted_none test [] e = refl
unlisted_none test (p ∷ es) e =
    elim (test p.0) as (λ b. (b || list_any test (keys_of es)) ≡ false → cond b (Some p.1) (lookup test es) ≡ None) [ true ↦ λ f. absurd (cc f) | false ↦ λ f. unlisted_none test es f ] e

-- ---- the items of a name

drop_whole : (items : List Item) → items ++ drop (length items) items ≡ items
drop_whole [] = refl
drop_whole (item ∷ items) = ap (λ (l : List Item). item ∷ l) (drop_whole items)

pub grown_whole : (items : List Item) → grown items items ≡ items
grown_whole items = drop_whole items

pub grown_filled : (b : Bool) (here items : List Item) → here ≡ cond b items [] → grown here items ≡ items
grown_filled true here items e = ap (λ (h : List Item). grown h items) e ∙ grown_whole items
grown_filled false here items e = ap (λ (h : List Item). grown h items) e
