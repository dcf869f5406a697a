use Rattle.std.proofs.Common.{rules, ◌≡◌, List, [], sym, subst}
use Rattle.byte_io.specs.Port.{Got}
use Rattle.system_io.specs.declared.link.Peer.TheVariants.{Feed}
use Rattle.system_io.specs.Net.{Hears, handed_as}
use Rattle.system_io.proofs.NetLemmas.{Hears_sends}
use Rattle.system_io.proofs.feed.Feed.poll.Goals as goal

pub returns-in_err-receive-clause-told : goal.returns-in_err-receive-clause-told
returns-in_err-receive-clause-told g c =
    let none : handed_as c.from_residual.result c.args.buffer.now ≡ [] = search rules in
    let held = g.N.Net.told c.args.net.now in
    let holds = g.N.Net.told c.let_leave.new.net in
    subst (λ (gots : List Got). Hears held holds gots) (sym none) (Hears_sends held holds Feed c.let_leave.ensures)
