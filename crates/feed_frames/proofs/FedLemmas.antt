-- What was fed in pieces and what was given are the splitting of the joined pieces.
use Rattle.std.proofs.Common.{◌≡◌, ℕ, ◌+◌, List, [], ◌∷◌, ◌++◌, length, refl, sym, ap, subst, ◌∙◌, length-append}
use Rattle.std.proofs.lemmas.List.{flat_map_more}
use Rattle.feed_frames.specs.Frames.{Frame, IsFramed, frame_text, frames_text, Splits}
use Rattle.feed_frames.specs.Feed.{Feed}
use Rattle.feed_frames.specs.Law.{Came, nothing_yet, fed, gave, joined}
use Rattle.feed_frames.proofs.SplittingLemmas.{splits_nothing, splits_more, splits_push}

joined_more : (pieces : List (List ℕ)) (piece : List ℕ) → joined pieces ++ piece ≡ joined (pieces ++ piece ∷ [])
joined_more pieces piece = flat_map_more (λ (p : List ℕ). p) [] pieces piece

module _ (kinds : ℕ) where
  -- a reader keeps its kinds
  kinds_of : (pieces : List (List ℕ)) (frames : List Frame) (feed : Feed) → Came kinds pieces frames feed → feed.kinds ≡ kinds
  kinds_of _ _ _ nothing_yet = refl
  kinds_of _ _ _ (fed pieces frames feed piece c) = kinds_of pieces frames feed c
  kinds_of _ _ _ (gave pieces frames old frame new c t) = t.kinds_are ∙ kinds_of pieces frames old c

  pub split_of : (pieces : List (List ℕ)) (frames : List Frame) (feed : Feed) → Came kinds pieces frames feed → Splits kinds (joined pieces) frames feed.left
  split_of _ _ _ nothing_yet = splits_nothing kinds
  split_of _ _ _ (fed pieces frames feed piece c) =
      subst (λ (bytes : List ℕ). Splits kinds bytes frames (feed.left ++ piece)) (joined_more pieces piece) (splits_more kinds (joined pieces) frames feed.left piece (split_of pieces frames feed c))
  split_of _ _ _ (gave pieces frames old frame new c t) =
      splits_push kinds (joined pieces) frames frame new.left (subst (λ (k : ℕ). IsFramed k frame) (kinds_of pieces frames old c) t.framed) (subst (λ (left : List ℕ). Splits kinds (joined pieces) frames left) t.whole (split_of pieces frames old c))

  pub offset_of : (pieces : List (List ℕ)) (frames : List Frame) (feed : Feed) → Came kinds pieces frames feed → feed.offset ≡ length (frames_text frames)
  offset_of _ _ _ nothing_yet = refl
  offset_of _ _ _ (fed pieces frames feed piece c) = offset_of pieces frames feed c
  offset_of _ _ _ (gave pieces frames old frame new c t) =
      t.offset ∙ ap (λ (n : ℕ). n + length (frame_text frame)) (offset_of pieces frames old c) ∙ sym (length-append (frames_text frames) (frame_text frame))
      ∙ ap length (flat_map_more frame_text [] frames frame)
