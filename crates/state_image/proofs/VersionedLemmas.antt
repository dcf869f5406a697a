-- What is read with its version is what is read, and the version is that of the text.
use Rattle.std.proofs.Common.{◌≡◌, ℕ, List, ◌∷◌, ◌++◌, refl, sym, ap, ◌∙◌, append_assoc}
use Rattle.std.specs.Prelude.{Ok, Err}
use Rattle.std.specs.Int.{w32, to_le_bytes}
use Rattle.block_grammar.specs.Combinators.{◌>>=◌}
use Rattle.block_grammar.proofs.ReaderLaws.{bind_ok, ok_is}
use Rattle.undo_records.specs.declared.fault.FaultKind.{FaultKind}
use Rattle.undo_records.specs.declared.version.Version.{Version}
use Rattle.undo_records.specs.Reading.{number_from}
use Rattle.undo_records.specs.Text.{held_text, undo_text}
use Rattle.image_grammar.specs.Image.{Image, HasText}
use Rattle.image_grammar.specs.Reading.{Head, head_from}
use Rattle.image_grammar.specs.Resuming.{Answer}
use Rattle.image_grammar.specs.Stages.{Gathered, nothing_of, undos_then, opening_from, image_from}
use Rattle.image_grammar.specs.Text.{magic, version_byte, profile_byte, counted_text, history_text, image_text}
use Rattle.image_grammar.proofs.WholeLaws.{head_again}
use Rattle.state_image.specs.Versioned.{Versioned, in_version, read_from}

abbrev Opening : Type 0
Opening = Head × ℕ

abbrev behind : Opening × List ℕ → Answer Gathered
behind x = undos_then x.0.0.0 x.0.1 (nothing_of x.0.0.1) x.1

abbrev versioned : Opening × List ℕ → Answer Versioned
versioned x = in_version x.0.0.0 (undos_then x.0.0.0 x.0.1 (nothing_of x.0.0.1)) x.1

-- ---- what is read

abbrev unversioned : Answer Versioned → Answer Gathered
unversioned r = r >>= λ x. Ok (x.0.1, x.1)

same_read : (text : List ℕ) → unversioned (read_from text) ≡ image_from text
same_read text = by (opening_from text)
  where
    one : (version : Version) (r : Answer Gathered) → unversioned (r >>= λ x. Ok ((version, x.0), x.1)) ≡ r
    one version (Ok x) = refl
    one version (Err e) = refl

    by : (r : Answer Opening) → unversioned (r >>= versioned) ≡ (r >>= behind)
    by (Ok x) = one x.0.0.0 (behind x)
    by (Err e) = refl

pub image_read : (text : List ℕ) (version : Version) (g : Gathered) (rest : List ℕ) → read_from text ≡ Ok ((version, g), rest) → image_from text ≡ Ok (g, rest)
image_read text version g rest e = sym (same_read text) ∙ ap unversioned e

pub fault_read : (text : List ℕ) (kind : FaultKind) (rest : List ℕ) → read_from text ≡ Err (kind, rest) → image_from text ≡ Err (kind, rest)
fault_read text kind rest e = sym (same_read text) ∙ ap unversioned e

-- ---- the version

module _ (version : Version) (image : Image) (has : HasText image) where
  abbrev lists : List ℕ
  lists = counted_text (undo_text version) image.undos ++ (counted_text held_text image.coins ++ counted_text (history_text version) image.names)

  headed : head_from (image_text version image) ≡ Ok ((version, image.base), lists)
  headed =
      ap (λ (t : List ℕ). head_from (magic ++ (version_byte version ∷ profile_byte image.base.profile ∷ t))) (append_assoc (to_le_bytes w32 image.base.height) image.base.hash.0 lists)
      ∙ head_again version image.base lists has.height has.hash

  opened : (x : Opening × List ℕ) → opening_from (image_text version image) ≡ Ok x → x.0.0.0 ≡ version
  opened x e =
      let a = bind_ok (head_from (image_text version image)) (λ (h : Head × List ℕ). number_from w32 h.1 >>= λ (n : ℕ × List ℕ). Ok ((h.0, n.0), n.1)) x e in
      let b = bind_ok (number_from w32 a.0.1) (λ (n : ℕ × List ℕ). Ok ((a.0.0, n.0), n.1)) x a.2 in
      let same : a.0 ≡ ((version, image.base), lists) = ok_is a.0 ((version, image.base), lists) (sym a.1 ∙ headed) in
      ap (λ (y : Opening × List ℕ). y.0.0.0) (sym (ok_is ((a.0.0, b.0.0), b.0.1) x b.2)) ∙ ap (λ (h : Head × List ℕ). h.0.0) same

  -- the version that is read is that of the text
  pub version_read : (x : Versioned × List ℕ) → read_from (image_text version image) ≡ Ok x → x.0.0 ≡ version
  version_read x e =
      let a = bind_ok (opening_from (image_text version image)) versioned x e in
      let b = bind_ok (behind a.0) (λ (y : Gathered × List ℕ). Ok ((a.0.0.0.0, y.0), y.1)) x a.2 in
      ap (λ (y : Versioned × List ℕ). y.0.0) (sym (ok_is ((a.0.0.0.0, b.0.0), b.0.1) x b.2)) ∙ opened a.0 a.1
