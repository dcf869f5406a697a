-- Loops that change a state item by item, from the first to the last and from the last to the first.
use Rattle.std.proofs.Common.{◌≡◌, List, [], ◌∷◌, ◌++◌, sym, ap, ◌∙◌}

module _ {X S : Type 0} (all : List X → S → S) (one : X → S → S) where
  pub went_forth : ((x : X) (xs : List X) (s : S) → all (x ∷ xs) s ≡ all xs (one x s)) → (x : X) (rest more : List X) (start now new : S) → rest ≡ x ∷ more → new ≡ one x now
      → all rest now ≡ start → all more new ≡ start
  went_forth each x rest more start now new split is before = ap (all more) is ∙ sym (each x more now) ∙ ap (λ (l : List X). all l now) (sym split) ∙ before

  module _ (none : (s : S) → all [] s ≡ s) (each : (x : X) (xs : List X) (s : S) → all (x ∷ xs) s ≡ one x (all xs s)) where
    all_more : (xs : List X) (x : X) (s : S) → all (xs ++ x ∷ []) s ≡ all xs (one x s)
    all_more [] x s = each x [] s ∙ ap (one x) (none s) ∙ sym (none (one x s))
    all_more (y ∷ xs) x s = each y (xs ++ x ∷ []) s ∙ ap (one y) (all_more xs x s) ∙ sym (each y xs (one x s))

    pub went_back : (x : X) (rest fewer : List X) (start now new : S) → rest ≡ fewer ++ x ∷ [] → new ≡ one x now → all rest now ≡ start → all fewer new ≡ start
    went_back x rest fewer start now new split is before = ap (all fewer) is ∙ sym (all_more fewer x now) ∙ ap (λ (l : List X). all l now) (sym split) ∙ before
