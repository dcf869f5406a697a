use Rattle.feed_frames.specs.Law.{joined}
use Rattle.feed_frames.proofs.SplittingLemmas.{one_splitting}
use Rattle.feed_frames.proofs.FedLemmas.{split_of, offset_of}
use Rattle.feed_frames.proofs.law.any_pieces.Goals as goal

pub returns-clause-split : goal.returns-clause-split
returns-clause-split c = split_of

pub returns-clause-offset : goal.returns-clause-offset
returns-clause-offset c = offset_of

pub returns-clause-all_frames : goal.returns-clause-all_frames
returns-clause-all_frames c = λ kinds pieces frames others feed rest came is-rest s is-left.
    let same =
    one_splitting kinds (joined pieces) (record { frames = frames; rest = feed.left; splits = split_of kinds pieces frames feed came; is_rest = is-rest })
    (record { frames = others; rest = rest; splits = s; is_rest = is-left }) in
    (same.frames, same.rest)
