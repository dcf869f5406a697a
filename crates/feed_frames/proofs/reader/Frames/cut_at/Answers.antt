use Rattle.std.proofs.Common.{◌≡◌, ℕ, ap, subst, arith}
use Rattle.feed_frames.specs.Frames.{IsBadFrame, IsPartialFrame}
use Rattle.feed_frames.specs.Front.{BeginsWith, frame_of}
use Rattle.feed_frames.specs.Feed.{Feed}
use Rattle.feed_frames.proofs.SplittingLemmas.{whole_or_partial, bad_or_partial}
use Rattle.feed_frames.proofs.reader.Frames.cut_at.Goals as goal

pub returns-in-Whole : goal.returns-in-Whole
returns-in-Whole c =
    let frame = frame_of c.in-Whole.field-0 in
    let kinds : c.self.inside.kinds ≡ c.args.self.now.kinds = ap (λ (f : Feed). f.kinds) c.self.view_is in
    let whole = subst (λ (k : ℕ). BeginsWith k c.args.self.now.left frame) kinds (rw c.pending-left.ensures at c.in-Whole.ensures) in
    record { some = tt; found = λ partial some. absurd (whole_or_partial c.args.self.now.kinds c.args.self.now.left frame whole partial) }

pub returns-in-Bad : goal.returns-in-Bad
returns-in-Bad c =
    let kinds : c.self.inside.kinds ≡ c.args.self.now.kinds = ap (λ (f : Feed). f.kinds) c.self.view_is in
    let bad = subst (λ (k : ℕ). IsBadFrame k c.args.self.now.left) kinds (rw c.pending-left.ensures at c.in-Bad.ensures) in
    record { some = tt; found = λ partial some. absurd (bad_or_partial c.args.self.now.kinds c.args.self.now.left bad partial) }

pub returns-in-Partial-clause-some : goal.returns-in-Partial-clause-some
returns-in-Partial-clause-some c =
    let kinds : c.self.inside.kinds ≡ c.args.self.now.kinds = ap (λ (f : Feed). f.kinds) c.self.view_is in
    let offset_is : c.self.inside.offset ≡ c.args.self.now.offset = ap (λ (f : Feed). f.offset) c.self.view_is in
    (offset_is, subst (λ (k : ℕ). IsPartialFrame k c.args.self.now.left) kinds (rw c.pending-left.ensures at c.in-Partial.ensures), rw (← c.pending-left.ensures) (grind arith))
