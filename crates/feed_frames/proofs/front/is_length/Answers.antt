use Rattle.feed_frames.specs.Kinds.{Allows, allows}
use Rattle.feed_frames.specs.declared.kinds.TheConstants.{KINDS}
use Rattle.feed_frames.proofs.KindLemmas.{tests_allows, any_row}
use Rattle.feed_frames.proofs.front.is_length.Goals as goal

pub returns-then-kind-kinds : goal.returns-then-kind-kinds
returns-then-kind-kinds c =
    let found = any_row (allows c.args.kind c.args.length) (Allows c.args.kind c.args.length) KINDS (tests_allows c.args.kind c.args.length) in
    rw c.allows_length.ensures (λ is. (c.if-kind-kinds.true, found.0 is), λ is. found.1 is.1)
