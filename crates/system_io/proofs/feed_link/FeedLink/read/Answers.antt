use Rattle.std.proofs.Common.{rules, ◌≡◌, List, [], sym, subst}
use Rattle.byte_io.specs.Port.{Got}
use Rattle.system_io.specs.Net.{Hears, fetched}
use Rattle.system_io.proofs.NetLemmas.{Hears_moves}
use Rattle.system_io.proofs.feed_link.FeedLink.read.Goals as goal

pub returns-in_err-send_on-clause-told : goal.returns-in_err-send_on-clause-told
returns-in_err-send_on-clause-told g c =
    let none : fetched c.from_residual.result c.args.buffer.now ≡ [] = search rules in
    let held = g.N.Net.told c.args.net.now in
    let holds = g.N.Net.told c.send_on.new.net in
    subst (λ (gots : List Got). Hears held holds gots) (sym none) (Hears_moves held holds _ _ _ c.send_on.ensures.moved)

pub returns-then-is_behind-clause-told : goal.returns-then-is_behind-clause-told
returns-then-is_behind-clause-told g c = Hears_moves _ _ _ _ _ c.send_on.ensures.moved
