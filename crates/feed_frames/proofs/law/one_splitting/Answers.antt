use Rattle.feed_frames.proofs.SplittingLemmas.{one_splitting, bad_then, bad_or_partial}
use Rattle.feed_frames.proofs.FirstFrameLemmas.{has_splitting}
use Rattle.feed_frames.proofs.law.one_splitting.Goals as goal

pub returns-clause-one_at_most : goal.returns-clause-one_at_most
returns-clause-one_at_most c = λ kinds bytes frames others rest left s is-rest t is-left.
    let same = one_splitting kinds bytes (record { frames = frames; rest = rest; splits = s; is_rest = is-rest }) (record { frames = others; rest = left; splits = t; is_rest = is-left }) in
    (same.frames, same.rest)

pub returns-clause-one_at_least : goal.returns-clause-one_at_least
returns-clause-one_at_least c = has_splitting

pub returns-clause-bad_or_partial : goal.returns-clause-bad_or_partial
returns-clause-bad_or_partial c = bad_or_partial

pub returns-clause-bad_for_good : goal.returns-clause-bad_for_good
returns-clause-bad_for_good c = bad_then
