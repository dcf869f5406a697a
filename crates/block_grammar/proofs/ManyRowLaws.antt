-- Where reading many values stops: behind some of them, in the next.
use Rattle.std.proofs.Common.{◌≡◌, ℕ, zero, suc, ◌<◌, Bool, List, [], ◌∷◌, ◌++◌, length, refl, sym, ap, ◌∙◌, append_assoc, arith, inl, inr}
use Rattle.std.specs.Prelude.{Ok, Err}
use Rattle.std.specs.List.{flat_map, AllByRecursion}
use Rattle.block_grammar.specs.Combinators.{◌>>=◌, Reader, then_from, many_from}
use Rattle.block_grammar.proofs.Readers.{IsBytes}
use Rattle.block_grammar.proofs.ReaderLaws.{Reads, ok_err, bind_err, made_err}

pub record ManyStopped {K A : Type 0} (text : A → List ℕ) (Fits : A → Type 0) (read : Reader K A) (n : ℕ) (bytes : List ℕ) (e : K × List ℕ) : Type 0 where
  pub before : List A
  pub fewer : length before < n
  pub fit : AllByRecursion Fits before
  pub body : List ℕ
  pub parts : bytes ≡ flat_map text before ++ body
  pub body_bytes : IsBytes body
  pub stopped : read body ≡ Err e

pub many_stopped : {K A : Type 0} (is_cut : K → Bool) (text : A → List ℕ) (Fits : A → Type 0) (read : Reader K A) → Reads is_cut text Fits read → (n : ℕ) (bytes : List ℕ) (e : K × List ℕ) → IsBytes bytes
    → many_from read n bytes ≡ Err e → ManyStopped text Fits read n bytes e
many_stopped is_cut text Fits read r zero bytes e fits h = absurd (ok_err (many_from read 0 bytes) ([], bytes) e refl h)
many_stopped {A = A} is_cut text Fits read r (suc n) bytes e fits h =
    let inner = made_err (then_from read (λ _. many_from read n) bytes) (λ (x : (A × List A) × List ℕ). (x.0.0 ∷ x.0.1, x.1)) e h in
    elim (bind_err (read bytes) (λ (x : A × List ℕ). many_from read n x.1 >>= λ (y : List A × List ℕ). Ok ((x.0, y.0), y.1)) e inner) [
      | inl w ↦ record { before = []; fewer = omega arith; fit = tt; body = bytes; parts = refl; body_bytes = fits; stopped = w }
      | inr x ↦
          let t = r.takes bytes x.0 fits x.1 in
          let s = many_stopped is_cut text Fits read r n x.0.1 e t.rest_bytes (made_err (many_from read n x.0.1) (λ (y : List A × List ℕ). ((x.0.0, y.0), y.1)) e x.2) in
          record {
            before = x.0.0 ∷ s.before;
            fewer = omega (arith, s.fewer);
            fit = (t.fits, s.fit);
            body = s.body;
            parts = t.parts ∙ ap (λ (q : List ℕ). text x.0.0 ++ q) s.parts ∙ sym (append_assoc (text x.0.0) (flat_map text s.before) s.body);
            body_bytes = s.body_bytes;
            stopped = s.stopped;
          }
    ]

pub many_met : {K A : Type 0} (is_cut : K → Bool) (text : A → List ℕ) (Fits : A → Type 0) (read : Reader K A) → Reads is_cut text Fits read → (n : ℕ) (before : List A) (body : List ℕ) (e : K × List ℕ)
    → length before < n → AllByRecursion Fits before → read body ≡ Err e → many_from read n (flat_map text before ++ body) ≡ Err e
many_met is_cut text Fits read r zero before body e fewer fit h = absurd (omega (arith, fewer))
many_met is_cut text Fits read r (suc n) [] body e fewer fit h = rw h refl
many_met is_cut text Fits read r (suc n) (x ∷ xs) body e fewer fit h =
    rw (append_assoc (text x) (flat_map text xs) body, r.again x (flat_map text xs ++ body) fit.0, many_met is_cut text Fits read r n xs body e (omega (arith, fewer)) fit.1 h) refl
