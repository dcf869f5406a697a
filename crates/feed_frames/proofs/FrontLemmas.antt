-- What stands at the front of bytes, read off their first five.
use Rattle.std.proofs.Common.{◌≡◌, ℕ, zero, suc, ◌<◌, ◌≤◌, ◌^◌, List, [], ◌∷◌, ◌++◌, length, get_or, take, drop, refl, sym, ap, subst, ◌∙◌, arith}
use Rattle.std.specs.Int.{w32, from_le_bytes}
use Rattle.std.proofs.lemmas.Nat.{le_bytes_4}
use Rattle.std.proofs.lemmas.List.{take-append-drop, length-take}
use Rattle.feed_frames.specs.Kinds.{IsKind, IsLength}
use Rattle.feed_frames.specs.Frames.{Frame, frame_text, IsBadFrame, unknown_kind, wrong_length, IsPartialFrame, header_cut, payload_cut}
use Rattle.feed_frames.specs.Front.{BeginsWith}
use Rattle.feed_frames.proofs.SplittingLemmas.{head_and, frame_then}

four_fit : (k a b c d : ℕ) (rest : List ℕ) → ((i : ℕ) → get_or (k ∷ a ∷ b ∷ c ∷ d ∷ rest) i 0 < 256) → (i : ℕ) → get_or (a ∷ b ∷ c ∷ d ∷ []) i 0 < 256
four_fit k a b c d rest fits zero = fits 1
four_fit k a b c d rest fits (suc zero) = fits 2
four_fit k a b c d rest fits (suc (suc zero)) = fits 3
four_fit k a b c d rest fits (suc (suc (suc zero))) = fits 4
four_fit k a b c d rest fits (suc (suc (suc (suc i)))) = omega arith

abbrev pub length_field : List ℕ → List ℕ
length_field bytes = get_or bytes 1 0 ∷ get_or bytes 2 0 ∷ get_or bytes 3 0 ∷ get_or bytes 4 0 ∷ []

-- at least five bytes, of which four tell the length
pub record HasLength (bytes : List ℕ) (n : ℕ) : Type 0 where
  pub long : 5 ≤ length bytes
  pub fits : (i : ℕ) → get_or bytes i 0 < 256
  pub length_is : n ≡ from_le_bytes w32 (length_field bytes)

pub parted : (bytes : List ℕ) (n : ℕ) → 5 ≤ length bytes → ((i : ℕ) → get_or bytes i 0 < 256) → n ≡ from_le_bytes w32 (length_field bytes)
    → bytes ≡ head_and (get_or bytes 0 0) n (drop 5 bytes)
parted [] n long fits e = absurd (omega arith)
parted (k ∷ []) n long fits e = absurd (omega arith)
parted (k ∷ a ∷ []) n long fits e = absurd (omega arith)
parted (k ∷ a ∷ b ∷ []) n long fits e = absurd (omega arith)
parted (k ∷ a ∷ b ∷ c ∷ []) n long fits e = absurd (omega arith)
parted (k ∷ a ∷ b ∷ c ∷ d ∷ rest) n long fits e =
    ap (λ (q : List ℕ). k ∷ (q ++ rest)) (sym (le_bytes_4 (a ∷ b ∷ c ∷ d ∷ []) n refl (four_fit k a b c d rest fits) e))

framed_then : (kind n : ℕ) (frame : Frame) (more : List ℕ) → frame.kind ≡ kind → length frame.payload ≡ n → head_and kind n (frame.payload ++ more) ≡ frame_text frame ++ more
framed_then kind n frame more kind-is len =
    ap (λ (k : ℕ). head_and k n (frame.payload ++ more)) (sym kind-is) ∙ ap (λ (m : ℕ). head_and frame.kind m (frame.payload ++ more)) (sym len) ∙ sym (frame_then frame more)

module _ (kinds : ℕ) where
  pub unknown_front : (bytes : List ℕ) → 1 ≤ length bytes → (IsKind kinds (get_or bytes 0 0) → ⊥) → IsBadFrame kinds bytes
  unknown_front [] long odd = absurd (omega arith)
  unknown_front (kind ∷ rest) long odd = unknown_kind kind rest refl odd

  pub short_front : (bytes : List ℕ) → 1 ≤ length bytes → length bytes < 5 → IsKind kinds (get_or bytes 0 0) → IsPartialFrame kinds bytes
  short_front [] long cut is-kind = absurd (omega arith)
  short_front (kind ∷ rest) long cut is-kind = header_cut kind rest refl is-kind (omega arith)

  pub wrong_front : (bytes : List ℕ) (n : ℕ) → 5 ≤ length bytes → ((i : ℕ) → get_or bytes i 0 < 256) → n ≡ from_le_bytes w32 (length_field bytes) → n < 2 ^ 32
      → IsKind kinds (get_or bytes 0 0) → (IsLength kinds (get_or bytes 0 0) n → ⊥) → IsBadFrame kinds bytes
  wrong_front bytes n long fits e small is-kind odd = wrong_length (get_or bytes 0 0) n (drop 5 bytes) (parted bytes n long fits e) small is-kind odd

  pub cut_front : (bytes : List ℕ) (n : ℕ) → 5 ≤ length bytes → ((i : ℕ) → get_or bytes i 0 < 256) → n ≡ from_le_bytes w32 (length_field bytes)
      → IsKind kinds (get_or bytes 0 0) → IsLength kinds (get_or bytes 0 0) n → length (drop 5 bytes) < n → IsPartialFrame kinds bytes
  cut_front bytes n long fits e is-kind allowed cut = payload_cut (get_or bytes 0 0) n (drop 5 bytes) (parted bytes n long fits e) is-kind allowed cut

  pub whole_front : (bytes : List ℕ) (n : ℕ) (frame : Frame) → HasLength bytes n
      → IsLength kinds (get_or bytes 0 0) n → n ≤ length (drop 5 bytes) → frame.kind ≡ get_or bytes 0 0 → frame.payload ≡ take n (drop 5 bytes) → BeginsWith kinds bytes frame
  whole_front bytes n frame h allowed there kind payload =
      let k = get_or bytes 0 0 in
      let behind = drop 5 bytes in
      let more = drop n behind in
      let len : length frame.payload ≡ n = omega (arith, ap length payload, length-take n behind) in
      record {
        rest = more;
        whole = parted bytes n h.long h.fits h.length_is
            ∙ ap (head_and k n) (sym (take-append-drop n behind) ∙ ap (λ (q : List ℕ). q ++ more) (sym payload))
            ∙ framed_then k n frame more kind len;
        framed = subst (λ (j : ℕ). IsLength kinds j (length frame.payload)) (sym kind) (subst (IsLength kinds k) (sym len) allowed);
      }
