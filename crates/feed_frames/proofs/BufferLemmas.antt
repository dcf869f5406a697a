-- The bytes between two places of a buffer.
use Rattle.std.proofs.Common.{◌≡◌, ℕ, ◌+◌, ◌-◌, ◌≤◌, List, ◌++◌, length, take, drop, refl, sym, ap, subst, ◌∙◌, length-append, arith}
use Rattle.std.proofs.Math.Seq.{take-add}
use Rattle.feed_frames.specs.Places.{between}
use Rattle.std.proofs.lemmas.List.{drop-take, drop-drop, length-take, drop_at}
use Rattle.feed_frames.specs.Frames.{Frame, frame_text}
use Rattle.feed_frames.specs.Front.{BeginsWith}
use Rattle.feed_frames.specs.Feed.{Takes}
use Rattle.feed_frames.proofs.SplittingLemmas.{length-frame_text}

-- without the first of them
pub dropped : (bytes : List ℕ) (start end count : ℕ) → start ≤ end → count ≤ length (take (end - start) (drop start bytes))
    → take (end - (start + count)) (drop (start + count) bytes) ≡ drop count (take (end - start) (drop start bytes))
dropped bytes start end count ordered within =
    let k : end - start ≡ count + (end - (start + count)) = omega (arith, length-take (end - start) (drop start bytes)) in
    rw k (sym (drop-take count (end - (start + count)) (drop start bytes) ∙ ap (take (end - (start + count))) (drop-drop count start bytes)))

before_end : (bytes after : List ℕ) (start end : ℕ) → start ≤ end → take end after ≡ take end bytes → take (end - start) (drop start after) ≡ take (end - start) (drop start bytes)
before_end bytes after start end ordered kept =
    let k : end ≡ start + (end - start) = omega arith in
    let e : take (start + (end - start)) after ≡ take (start + (end - start)) bytes = subst (λ (n : ℕ). take n after ≡ take n bytes) k kept in
    sym (drop-take start (end - start) after) ∙ ap (drop start) e ∙ drop-take start (end - start) bytes

-- with a piece behind them
pub grown : (bytes after : List ℕ) (start end n : ℕ) → start ≤ end → take end after ≡ take end bytes → between start (end + n) after ≡ between start end bytes ++ take n (drop end after)
grown bytes after start end n ordered kept =
    let m : end + n - start ≡ (end - start) + n = omega arith in
    let k : start + (end - start) ≡ end = omega arith in
    ap (λ (j : ℕ). take j (drop start after)) m ∙ take-add (end - start) n (drop start after)
    ∙ ap (λ (q : List ℕ). q ++ take n (drop (end - start) (drop start after))) (before_end bytes after start end ordered kept)
    ∙ ap (λ (q : List ℕ). take (end - start) (drop start bytes) ++ take n q) (drop-drop (end - start) start after ∙ ap (λ (j : ℕ). drop j after) k)

-- with a piece put behind them
pub put_behind : (bytes after : List ℕ) (start end : ℕ) (piece : List ℕ) → start ≤ end → take end after ≡ take end bytes → take (length piece) (drop end after) ≡ piece
    → between start (end + length piece) after ≡ between start end bytes ++ piece
put_behind bytes after start end piece ordered kept there =
    grown bytes after start end (length piece) ordered kept ∙ ap (λ (q : List ℕ). between start end bytes ++ q) there

-- without the frame at their front
pub taken : (kinds : ℕ) (bytes : List ℕ) (start end offset : ℕ) (frame : Frame) → start ≤ end → BeginsWith kinds (between start end bytes) frame
    → Takes (record { kinds = kinds; offset = offset; left = between start end bytes }) frame
    (record { kinds = kinds; offset = offset + (5 + length frame.payload); left = between (start + (5 + length frame.payload)) end bytes })
taken kinds bytes start end offset frame ordered b =
    let n = 5 + length frame.payload in
    let left = between start end bytes in
    let long : length (frame_text frame) ≡ n = length-frame_text frame in
    let within : n ≤ length left = omega (arith, ap length b.whole, length-append (frame_text frame) b.rest, length-frame_text frame) in
    let behind : between (start + n) end bytes ≡ b.rest =
    dropped bytes start end n ordered within ∙ ap (drop n) b.whole ∙ drop_at (frame_text frame) b.rest n long in
    record {
      whole = b.whole ∙ ap (λ (q : List ℕ). frame_text frame ++ q) (sym behind);
      framed = b.framed;
      kinds_are = refl;
      offset = ap (λ (k : ℕ). offset + k) (sym long);
    }
