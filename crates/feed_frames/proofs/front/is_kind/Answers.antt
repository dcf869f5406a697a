use Rattle.feed_frames.specs.Kinds.{IsOfKind, is_of_kind}
use Rattle.feed_frames.specs.declared.kinds.TheConstants.{KINDS}
use Rattle.feed_frames.proofs.KindLemmas.{tests_kind, any_row}
use Rattle.feed_frames.proofs.front.is_kind.Goals as goal

pub returns-then-kind-kinds : goal.returns-then-kind-kinds
returns-then-kind-kinds c =
    let found = any_row (is_of_kind c.args.kind) (IsOfKind c.args.kind) KINDS (tests_kind c.args.kind) in
    rw c.has_kind.ensures (λ is. (c.if-kind-kinds.true, found.0 is), λ is. found.1 is.1)
