-- Bytes begin with a whole frame or they don't, and so they are whole frames and a rest.
use Rattle.std.proofs.Common.{◌≡◌, ◌⊎◌, inl, inr, ℕ, zero, suc, ◌+◌, ◌<◌, ◌≤◌, ◌^◌, true, false, List, [], ◌∷◌, ◌++◌, length, get_or, take, drop, refl, sym, ap, subst, ◌∙◌, append_assoc, length-append, arith}
use Rattle.std.specs.Int.{w32, from_le_bytes}
use Rattle.std.proofs.Math.Dec.{leb}
use Rattle.std.proofs.lemmas.Bool.Decides.{leb_tells}
use Rattle.std.proofs.lemmas.List.{get_or-drop, drop_at, nil_from_length}
use Rattle.feed_frames.specs.Kinds.{IsKind, IsLength}
use Rattle.feed_frames.specs.Frames.{Frame, frame_text, frames_text, unknown_kind, nothing, header_cut, IsRest, bad, partial}
use Rattle.feed_frames.specs.Front.{BeginsWith}
use Rattle.feed_frames.specs.Law.{AreBytes, HasSplitting}
use Rattle.feed_frames.proofs.KindLemmas.{kind_or_not, length_or_not}
use Rattle.feed_frames.proofs.FrontLemmas.{length_field, wrong_front, cut_front, whole_front}
use Rattle.feed_frames.proofs.SplittingLemmas.{length-frame_text}

four_bytes_fit : (a b c d : ℕ) → a < 256 → b < 256 → c < 256 → d < 256 → from_le_bytes w32 (a ∷ b ∷ c ∷ d ∷ []) < 2 ^ 32
four_bytes_fit a b c d fa fb fc fd = omega arith

bytes_behind : (front rest : List ℕ) → AreBytes (front ++ rest) → AreBytes rest
bytes_behind front rest fits i =
    let e : drop (length front) (front ++ rest) ≡ rest = drop_at front rest (length front) refl in
    let h : get_or (drop (length front) (front ++ rest)) i 0 < 256 = rw (get_or-drop (length front) (front ++ rest) i 0) (fits (length front + i)) in
    subst (λ (xs : List ℕ). get_or xs i 0 < 256) e h

module _ (kinds : ℕ) where
  data FirstFrame (bytes : List ℕ) : Type 0 where
    stands : (frame : Frame) → BeginsWith kinds bytes frame → FirstFrame bytes
    missing : IsRest kinds bytes → FirstFrame bytes

  -- a kind that is read and a length stand there
  with_payload : (bytes : List ℕ) (n : ℕ) → 5 ≤ length bytes → AreBytes bytes → n ≡ from_le_bytes w32 (length_field bytes) → IsLength kinds (get_or bytes 0 0) n → IsKind kinds (get_or bytes 0 0)
      → ((leb n (length (drop 5 bytes)) ≡ true) × (n ≤ length (drop 5 bytes))) ⊎ ((leb n (length (drop 5 bytes)) ≡ false) × (length (drop 5 bytes) < n)) → FirstFrame bytes
  with_payload bytes n long fits e allowed is-kind (inl h) =
      let frame : Frame = record { kind = get_or bytes 0 0; payload = take n (drop 5 bytes) } in
      stands frame (whole_front kinds bytes n frame (record { long = long; fits = fits; length_is = e }) allowed h.1 refl refl)
  with_payload bytes n long fits e allowed is-kind (inr h) = missing (partial (cut_front kinds bytes n long fits e is-kind allowed h.1))

  with_length : (bytes : List ℕ) (n : ℕ) → 5 ≤ length bytes → AreBytes bytes → n ≡ from_le_bytes w32 (length_field bytes) → n < 2 ^ 32 → IsKind kinds (get_or bytes 0 0)
      → IsLength kinds (get_or bytes 0 0) n ⊎ (IsLength kinds (get_or bytes 0 0) n → ⊥) → FirstFrame bytes
  with_length bytes n long fits e small is-kind (inl allowed) = with_payload bytes n long fits e allowed is-kind (leb_tells n (length (drop 5 bytes)))
  with_length bytes n long fits e small is-kind (inr odd) = missing (bad (wrong_front kinds bytes n long fits e small is-kind odd))

  with_kind : (kind : ℕ) (rest : List ℕ) → AreBytes (kind ∷ rest) → IsKind kinds kind ⊎ (IsKind kinds kind → ⊥) → FirstFrame (kind ∷ rest)
  with_kind kind rest fits (inr odd) = missing (bad (unknown_kind kind rest refl odd))
  with_kind kind [] fits (inl is-kind) = missing (partial (header_cut kind [] refl is-kind (omega arith)))
  with_kind kind (a ∷ []) fits (inl is-kind) = missing (partial (header_cut kind (a ∷ []) refl is-kind (omega arith)))
  with_kind kind (a ∷ b ∷ []) fits (inl is-kind) = missing (partial (header_cut kind (a ∷ b ∷ []) refl is-kind (omega arith)))
  with_kind kind (a ∷ b ∷ c ∷ []) fits (inl is-kind) = missing (partial (header_cut kind (a ∷ b ∷ c ∷ []) refl is-kind (omega arith)))
  with_kind kind (a ∷ b ∷ c ∷ d ∷ rest) fits (inl is-kind) =
      let n = from_le_bytes w32 (a ∷ b ∷ c ∷ d ∷ []) in
      with_length (kind ∷ a ∷ b ∷ c ∷ d ∷ rest) n (omega arith) fits refl (four_bytes_fit a b c d (fits 1) (fits 2) (fits 3) (fits 4)) is-kind (length_or_not kinds kind n)

  first_frame : (bytes : List ℕ) → AreBytes bytes → FirstFrame bytes
  first_frame [] fits = missing (partial (nothing refl))
  first_frame (kind ∷ rest) fits = with_kind kind rest fits (kind_or_not kinds kind)

  with_first : (bytes : List ℕ) (frame : Frame) → (b : BeginsWith kinds bytes frame) → HasSplitting kinds b.rest → HasSplitting kinds bytes
  with_first bytes frame b s = record {
    frames = frame ∷ s.frames;
    rest = s.rest;
    splits = record {
      whole = b.whole ∙ ap (λ (q : List ℕ). frame_text frame ++ q) s.splits.whole ∙ sym (append_assoc (frame_text frame) (frames_text s.frames) s.rest);
      framed = (b.framed, s.splits.framed);
    };
    is_rest = s.is_rest;
  }

  split_on : (most : ℕ) (bytes : List ℕ) → length bytes ≤ suc most → AreBytes bytes → ((rest : List ℕ) → length rest ≤ most → AreBytes rest → HasSplitting kinds rest) → FirstFrame bytes → HasSplitting kinds bytes
  split_on most bytes within fits on (missing r) = record { frames = []; rest = bytes; splits = record { whole = refl; framed = tt }; is_rest = r }
  split_on most bytes within fits on (stands frame b) =
      with_first bytes frame b (on b.rest (omega (arith, within, ap length b.whole, length-append (frame_text frame) b.rest, length-frame_text frame)) (bytes_behind (frame_text frame) b.rest (subst AreBytes b.whole fits)))

  split_within : (most : ℕ) (bytes : List ℕ) → length bytes ≤ most → AreBytes bytes → HasSplitting kinds bytes
  split_within zero bytes within fits =
      let empty : bytes ≡ [] = nil_from_length bytes (omega arith) in
      record { frames = []; rest = bytes; splits = record { whole = refl; framed = tt }; is_rest = partial (nothing empty) }
  split_within (suc most) bytes within fits = split_on most bytes within fits (split_within most) (first_frame bytes fits)

  -- any bytes are whole frames and a rest that is none
  pub has_splitting : (bytes : List ℕ) → AreBytes bytes → HasSplitting kinds bytes
  has_splitting bytes fits = split_within (length bytes) bytes (omega arith) fits
