-- Bytes are whole frames and a rest, in one way.
use Rattle.std.proofs.Common.{◌≡◌, ℕ, ◌+◌, ◌<◌, ◌^◌, List, [], ◌∷◌, ◌++◌, length, take, drop, refl, sym, ap, subst, ◌∙◌, append_assoc, length-append, arith}
use Rattle.std.specs.List.{AllByRecursion}
use Rattle.std.specs.Int.{w32, to_le_bytes, from_le_bytes}
use Rattle.std.proofs.lemmas.Nat.{from_le_bytes-to_le_bytes_4}
use Rattle.std.proofs.lemmas.List.{flat_map_more, append-nil, take_at, drop_at}
use Rattle.nmc_base.proofs.ListLemmas.{all-more}
use Rattle.feed_frames.specs.Kinds.{IsKind, IsLength}
use Rattle.feed_frames.specs.Frames.{Frame, frame_text, frames_text, IsFramed, IsBadFrame, unknown_kind, wrong_length, IsPartialFrame, nothing, header_cut, payload_cut, Splits, IsRest, bad, partial}
use Rattle.feed_frames.specs.Front.{BeginsWith}
use Rattle.feed_frames.specs.Law.{HasSplitting}
use Rattle.feed_frames.proofs.KindLemmas.{known, short}

-- ---- two lists that are each a front and a rest

pub record SameParts {A : Type 0} (a x b y : List A) : Type 0 where
  pub front : a ≡ b
  pub rest : x ≡ y

pub same_parts : {A : Type 0} (a x b y : List A) → length a ≡ length b → a ++ x ≡ b ++ y → SameParts a x b y
same_parts a x b y len e = record {
  front = sym (take_at a x (length b) len) ∙ ap (take (length b)) e ∙ take_at b y (length b) refl;
  rest = sym (drop_at a x (length b) len) ∙ ap (drop (length b)) e ∙ drop_at b y (length b) refl;
}

same_number : (m n : ℕ) → m < 2 ^ 32 → n < 2 ^ 32 → to_le_bytes w32 m ≡ to_le_bytes w32 n → m ≡ n
same_number m n fm fn e = sym (from_le_bytes-to_le_bytes_4 m fm) ∙ ap (from_le_bytes w32) e ∙ from_le_bytes-to_le_bytes_4 n fn

-- ---- a kind and a length, and what is behind them

abbrev pub head_and : ℕ → ℕ → List ℕ → List ℕ
head_and kind n after = kind ∷ (to_le_bytes w32 n ++ after)

record Headed : Type 0 where
  kind : ℕ
  size : ℕ
  after : List ℕ

abbrev headed : ℕ → ℕ → List ℕ → Headed
headed kind n after = record { kind = kind; size = n; after = after }

-- a kind and a length tell themselves and what is behind them
record SameHead (a b : Headed) : Type 0 where
  kind_is : a.kind ≡ b.kind
  length_is : a.size ≡ b.size
  after_is : a.after ≡ b.after

same_head : (a b : Headed) → a.size < 2 ^ 32 → b.size < 2 ^ 32 → head_and a.kind a.size a.after ≡ head_and b.kind b.size b.after → SameHead a b
same_head a b fa fb e =
    let head : a.kind ≡ b.kind = cc in
    let tail : to_le_bytes w32 a.size ++ a.after ≡ to_le_bytes w32 b.size ++ b.after = cc in
    let parts = same_parts (to_le_bytes w32 a.size) a.after (to_le_bytes w32 b.size) b.after refl tail in
    record { kind_is = head; length_is = same_number a.size b.size fa fb parts.front; after_is = parts.rest }

head_and_more : (kind n : ℕ) (after more : List ℕ) → head_and kind n after ++ more ≡ head_and kind n (after ++ more)
head_and_more kind n after more = ap (λ (q : List ℕ). kind ∷ q) (append_assoc (to_le_bytes w32 n) after more)

-- a frame and what follows it, as one list
pub frame_then : (frame : Frame) (more : List ℕ) → frame_text frame ++ more ≡ head_and frame.kind (length frame.payload) (frame.payload ++ more)
frame_then frame more = head_and_more frame.kind (length frame.payload) frame.payload more

pub length-frame_text : (frame : Frame) → length (frame_text frame) ≡ 5 + length frame.payload
length-frame_text frame = omega (arith, length-append (to_le_bytes w32 (length frame.payload)) frame.payload)

-- ---- a frame, and what follows it

record SameFrames (a : Frame) (x : List ℕ) (b : Frame) (y : List ℕ) : Type 0 where
  frame : a ≡ b
  rest : x ≡ y

abbrev with_parts : ℕ → List ℕ → Frame
with_parts kind payload = record { kind = kind; payload = payload }

same_frame : (a b : Frame) → a.kind ≡ b.kind → a.payload ≡ b.payload → a ≡ b
same_frame a b same payloads = ap (λ (k : ℕ). with_parts k a.payload) same ∙ ap (λ (p : List ℕ). with_parts b.kind p) payloads

pub record SameSplitting (es : List Frame) (r : List ℕ) (fs : List Frame) (s : List ℕ) : Type 0 where
  pub frames : es ≡ fs
  pub rest : r ≡ s

-- ---- a stream that grows, and a rest that loses its first frame

module _ (kinds : ℕ) where
  -- an allowed length fits the four bytes
  fits_four : (kind n : ℕ) → IsLength kinds kind n → n < 2 ^ 32
  fits_four kind n h = omega (arith, short kinds kind n h)

  pub bad_then : (p more : List ℕ) → IsBadFrame kinds p → IsBadFrame kinds (p ++ more)
  bad_then p more (unknown_kind kind rest p-is odd) = unknown_kind kind (rest ++ more) (ap (λ (q : List ℕ). q ++ more) p-is) odd
  bad_then p more (wrong_length kind n rest p-is fits is-kind odd) = wrong_length kind n (rest ++ more) (ap (λ (q : List ℕ). q ++ more) p-is ∙ head_and_more kind n rest more) fits is-kind odd

  -- a kind that is read and a length that it allows aren't bad
  not_bad : (p : List ℕ) (own m : ℕ) (behind : List ℕ) → IsBadFrame kinds p → IsLength kinds own m → p ≡ head_and own m behind → ⊥
  not_bad p own m behind (unknown_kind kind rest p-is odd) fits e =
      let same : kind ∷ rest ≡ head_and own m behind = sym p-is ∙ e in
      let head : own ≡ kind = cc in
      odd (subst (IsKind kinds) head (known kinds own m fits))
  not_bad p own m behind (wrong_length kind n rest p-is small is-kind odd) fits e =
      let f = same_head (headed kind n rest) (headed own m behind) small (fits_four own m fits) (sym p-is ∙ e) in
      odd (subst (λ (k : ℕ). IsLength kinds k n) (sym f.kind_is) (subst (IsLength kinds own) (sym f.length_is) fits))

  kind_is_read : (p : List ℕ) (kind : ℕ) (rest : List ℕ) → IsBadFrame kinds p → p ≡ kind ∷ rest → IsKind kinds kind → length rest < 4 → ⊥
  kind_is_read p kind rest (unknown_kind own behind p-is odd) e is-kind cut =
      let same : own ∷ behind ≡ kind ∷ rest = sym p-is ∙ e in
      let head : kind ≡ own = cc in
      odd (subst (IsKind kinds) head is-kind)
  kind_is_read p kind rest (wrong_length own n behind p-is small own-is odd) e is-kind cut =
      omega (arith, ap length (sym p-is ∙ e), length-append (to_le_bytes w32 n) behind)

  -- what is bad is no part of a frame
  pub bad_or_partial : (p : List ℕ) → IsBadFrame kinds p → IsPartialFrame kinds p → ⊥
  bad_or_partial p (unknown_kind kind rest p-is odd) (nothing e) = omega (arith, ap length (sym p-is ∙ e))
  bad_or_partial p (wrong_length kind n rest p-is small is-kind odd) (nothing e) = omega (arith, ap length (sym p-is ∙ e))
  bad_or_partial p b (header_cut kind rest e is-kind cut) = kind_is_read p kind rest b e is-kind cut
  bad_or_partial p b (payload_cut kind n part e is-kind allowed cut) = not_bad p kind n part b allowed e

  bad_begins_none : (p : List ℕ) (frame : Frame) (more : List ℕ) → IsBadFrame kinds p → IsFramed kinds frame → p ≡ frame_text frame ++ more → ⊥
  bad_begins_none p frame more b fits e = not_bad p frame.kind (length frame.payload) (frame.payload ++ more) b fits (e ∙ frame_then frame more)

  -- what is partial is shorter than the frame that it begins
  pub partial_is_shorter : (p x : List ℕ) (frame : Frame) (more : List ℕ) → IsPartialFrame kinds p → IsFramed kinds frame → p ++ x ≡ frame_text frame ++ more → length p < length (frame_text frame)
  partial_is_shorter p x frame more (nothing p-is) fits e = omega (arith, ap length p-is, length-frame_text frame)
  partial_is_shorter p x frame more (header_cut kind rest p-is is-kind cut) fits e = omega (arith, ap length p-is, length-frame_text frame)
  partial_is_shorter p x frame more (payload_cut kind n part p-is is-kind allowed cut) fits e =
      let same : head_and kind n (part ++ x) ≡ head_and frame.kind (length frame.payload) (frame.payload ++ more) =
      sym (head_and_more kind n part x) ∙ ap (λ (q : List ℕ). q ++ x) (sym p-is) ∙ e ∙ frame_then frame more in
      let f = same_head (headed kind n (part ++ x)) (headed frame.kind (length frame.payload) (frame.payload ++ more)) (fits_four kind n allowed) (fits_four frame.kind (length frame.payload) fits) same in
      omega (arith, ap length p-is, length-frame_text frame, length-append (to_le_bytes w32 n) part, f.length_is)

  pub rest_begins_none : (p : List ℕ) (frame : Frame) (more : List ℕ) → IsRest kinds p → IsFramed kinds frame → p ≡ frame_text frame ++ more → ⊥
  rest_begins_none p frame more (bad b) fits e = bad_begins_none p frame more b fits e
  rest_begins_none p frame more (partial h) fits e =
      let shorter = partial_is_shorter p [] frame more h fits (append-nil p ∙ e) in
      omega (arith, ap length e, length-append (frame_text frame) more)

  -- what begins with a frame is no part of one
  pub whole_or_partial : (p : List ℕ) (frame : Frame) → (b : BeginsWith kinds p frame) → IsPartialFrame kinds p → ⊥
  whole_or_partial p frame b h = rest_begins_none p frame b.rest (partial h) b.framed b.whole

  same_frames : (a : Frame) (x : List ℕ) (b : Frame) (y : List ℕ) → IsFramed kinds a → IsFramed kinds b → frame_text a ++ x ≡ frame_text b ++ y → SameFrames a x b y
  same_frames a x b y fits-a fits-b e =
      let f = same_head (headed a.kind (length a.payload) (a.payload ++ x)) (headed b.kind (length b.payload) (b.payload ++ y)) (fits_four a.kind (length a.payload) fits-a) (fits_four b.kind (length b.payload) fits-b) (sym (frame_then a x) ∙ e ∙ frame_then b y) in
      let parts = same_parts a.payload x b.payload y f.length_is f.after_is in
      record { frame = same_frame a b f.kind_is parts.front; rest = parts.rest }

  -- whole frames, and a rest that is none
  pub record AreParts (frames : List Frame) (rest : List ℕ) : Type 0 where
    pub framed : AllByRecursion (IsFramed kinds) frames
    pub is_rest : IsRest kinds rest

  abbrev pub are_parts : (frames : List Frame) (rest : List ℕ) → AllByRecursion (IsFramed kinds) frames → IsRest kinds rest → AreParts frames rest
  are_parts frames rest framed is_rest = record { framed = framed; is_rest = is_rest }

  pub same_splitting : (es : List Frame) (r : List ℕ) (fs : List Frame) (s : List ℕ) → AreParts es r → AreParts fs s → frames_text es ++ r ≡ frames_text fs ++ s → SameSplitting es r fs s
  same_splitting [] r [] s one two e = record { frames = refl; rest = e }
  same_splitting [] r (f ∷ fs) s one two e =
      absurd (rest_begins_none r f (frames_text fs ++ s) one.is_rest two.framed.0 (e ∙ append_assoc (frame_text f) (frames_text fs) s))
  same_splitting (x ∷ es) r [] s one two e =
      absurd (rest_begins_none s x (frames_text es ++ r) two.is_rest one.framed.0 (sym e ∙ append_assoc (frame_text x) (frames_text es) r))
  same_splitting (x ∷ es) r (f ∷ fs) s one two e =
      let first = same_frames x (frames_text es ++ r) f (frames_text fs ++ s) one.framed.0 two.framed.0 (sym (append_assoc (frame_text x) (frames_text es) r) ∙ e ∙ append_assoc (frame_text f) (frames_text fs) s) in
      let others = same_splitting es r fs s (are_parts es r one.framed.1 one.is_rest) (are_parts fs s two.framed.1 two.is_rest) first.rest in
      record { frames = cc (first.frame, others.frames); rest = others.rest }

  abbrev pub splitting : {bytes : List ℕ} (frames : List Frame) (rest : List ℕ) → Splits kinds bytes frames rest → IsRest kinds rest → HasSplitting kinds bytes
  splitting frames rest splits is_rest = record { frames = frames; rest = rest; splits = splits; is_rest = is_rest }

  pub one_splitting : (bytes : List ℕ) (s t : HasSplitting kinds bytes) → SameSplitting s.frames s.rest t.frames t.rest
  one_splitting bytes s t =
      same_splitting s.frames s.rest t.frames t.rest (are_parts s.frames s.rest s.splits.framed s.is_rest) (are_parts t.frames t.rest t.splits.framed t.is_rest) (sym s.splits.whole ∙ t.splits.whole)

  pub splits_nothing : Splits kinds [] [] []
  splits_nothing = record { whole = refl; framed = tt }

  pub splits_more : (bytes : List ℕ) (frames : List Frame) (rest piece : List ℕ) → Splits kinds bytes frames rest → Splits kinds (bytes ++ piece) frames (rest ++ piece)
  splits_more bytes frames rest piece s = record {
    whole = ap (λ (q : List ℕ). q ++ piece) s.whole ∙ append_assoc (frames_text frames) rest piece;
    framed = s.framed;
  }

  pub splits_push : (bytes : List ℕ) (frames : List Frame) (frame : Frame) (rest : List ℕ) → IsFramed kinds frame
      → Splits kinds bytes frames (frame_text frame ++ rest) → Splits kinds bytes (frames ++ frame ∷ []) rest
  splits_push bytes frames frame rest fits s = record {
    whole = s.whole ∙ sym (append_assoc (frames_text frames) (frame_text frame) rest) ∙ ap (λ (q : List ℕ). q ++ rest) (flat_map_more frame_text [] frames frame);
    framed = all-more (IsFramed kinds) frames frame s.framed fits;
  }
