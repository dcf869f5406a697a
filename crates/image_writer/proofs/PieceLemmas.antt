-- A text that is given out piece by piece.
use Rattle.std.proofs.Common.{◌≡◌, ℕ, ◌+◌, ◌≤◌, List, ◌++◌, length, take, drop, ap, sym, ◌∙◌, arith, length-drop}
use Rattle.std.proofs.Math.Seq.{take-add}
use Rattle.std.proofs.lemmas.List.{drop-drop}
use Rattle.image_writer.specs.Pieces.{Gives}

-- so many bytes of the text stand at the front of the buffer
pub record Given (text rest old new : List ℕ) (count : ℕ) : Type 0 where
  pub room : count ≤ length new
  pub there : count ≤ length text
  pub front : take count new ≡ take count text
  pub behind : drop count new ≡ drop count old
  pub left : rest ≡ drop count text

-- and one piece more
pub given_more : (text mid rest start old new : List ℕ) (filled count : ℕ) → length new ≡ length old → Given text mid start old filled → Gives mid rest old new filled count
    → Given text rest start new (filled + count)
given_more text mid rest start old new filled count same given gives = record {
  room = omega (arith, same, gives.room);
  there = omega (arith, given.there, gives.there, ap length given.left, length-drop filled text);
  front =
      gives.front
      ∙ ap (λ (l : List ℕ). l ++ take count mid) given.front
      ∙ ap (λ (l : List ℕ). take filled text ++ take count l) given.left
      ∙ sym (take-add filled count text);
  behind =
      gives.behind
      ∙ sym (drop-drop count filled old)
      ∙ ap (drop count) given.behind
      ∙ drop-drop count filled start;
  left = gives.left ∙ ap (drop count) given.left ∙ drop-drop count filled text;
}
