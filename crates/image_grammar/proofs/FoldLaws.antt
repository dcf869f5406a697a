-- Values that are read one by one: what is written is read again.
use Rattle.std.proofs.Common.{◌≡◌, ℕ, List, [], ◌∷◌, ◌++◌, length, refl, ap, ◌∙◌, append_assoc}
use Rattle.std.specs.Prelude.{Ok}
use Rattle.std.specs.List.{flat_map}
use Rattle.block_grammar.specs.Combinators.{◌>>=◌}
use Rattle.undo_records.specs.Reading.{Reads}
use Rattle.image_grammar.specs.Resuming.{Answer, fold_then}

module _ {S A : Type 0} (add : S → A → S) where
  -- what is gathered of values
  abbrev pub gathered_all : S → List A → S
  gathered_all s [] = s
  gathered_all s (x ∷ xs) = gathered_all (add s x) xs

  -- each fits what was gathered before it
  abbrev pub AllFit : (S → A → Type 0) → S → List A → Type 0
  AllFit Fits s [] = Unit {0}
  AllFit Fits s (x ∷ xs) = Fits s x × AllFit Fits (add s x) xs

-- values with a text, read by what was gathered before them
pub record Folds (S A : Type 0) : Type 1 where
  pub text : A → List ℕ
  pub Fits : S → A → Type 0
  pub read : S → Reads A
  pub add : S → A → S
  pub again : (s : S) (x : A) (rest : List ℕ) → Fits s x → read s (text x ++ rest) ≡ Ok (x, rest)

pub fold_again : {S A R : Type 0} (f : Folds S A) (after : S → Reads R) (s : S) (xs : List A) (more : List ℕ) → AllFit f.add f.Fits s xs
    → fold_then f.read f.add (length xs) s after (flat_map f.text xs ++ more) ≡ after (gathered_all f.add s xs) more
fold_again f after s [] more fit = refl
fold_again {S = S} {A = A} f after s (x ∷ xs) more fit =
    ap (fold_then f.read f.add (length (x ∷ xs)) s after) (append_assoc (f.text x) (flat_map f.text xs) more)
    ∙ ap (λ (r : Answer A). r >>= λ y. fold_then f.read f.add (length xs) (f.add s y.0) after y.1) (f.again s x (flat_map f.text xs ++ more) fit.0)
    ∙ fold_again f after (f.add s x) xs more fit.1
