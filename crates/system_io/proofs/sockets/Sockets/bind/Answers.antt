use Rattle.std.proofs.Common.{[], ◌∷◌}
use Rattle.system_io.specs.Loopback.{loopback_bytes}
use Rattle.system_io.specs.Net.{asked}
use Rattle.system_io.proofs.NetLemmas.{Adds_append}
use Rattle.system_io.proofs.sockets.Sockets.bind.Goals as goal

pub returns-in_err-datagrams-clause-asked : goal.returns-in_err-datagrams-clause-asked
returns-in_err-datagrams-clause-asked g c = (1, c.bind_udp.ensures)

pub returns-in_err-streams-clause-asked : goal.returns-in_err-streams-clause-asked
returns-in_err-streams-clause-asked g c =
    let udp = asked (loopback_bytes c.args.udp) ∷ [] in
    (2, Adds_append _ _ _ udp udp c.bind_udp.ensures c.bind-bound.ensures)

pub returns-in_err-feed-clause-asked : goal.returns-in_err-feed-clause-asked
returns-in_err-feed-clause-asked g c =
    let udp = asked (loopback_bytes c.args.udp) ∷ [] in
    let two = Adds_append _ _ _ udp udp c.bind_udp.ensures c.bind-bound.ensures in
    (3, Adds_append _ _ _ (asked (loopback_bytes c.args.udp) ∷ udp) (asked (loopback_bytes c.args.feed) ∷ []) two c.bind-bound-2.ensures)

pub returns-clause-asked : goal.returns-clause-asked
returns-clause-asked g c =
    let udp = asked (loopback_bytes c.args.udp) ∷ [] in
    let two = Adds_append _ _ _ udp udp c.bind_udp.ensures c.bind-bound.ensures in
    (3, Adds_append _ _ _ (asked (loopback_bytes c.args.udp) ∷ udp) (asked (loopback_bytes c.args.feed) ∷ []) two c.bind-bound-2.ensures)

pub returns-clause-ok : goal.returns-clause-ok
returns-clause-ok g c =
    let udp = asked (loopback_bytes c.args.udp) ∷ [] in
    let two = Adds_append _ _ _ udp udp c.bind_udp.ensures c.bind-bound.ensures in
    Adds_append _ _ _ (asked (loopback_bytes c.args.udp) ∷ udp) (asked (loopback_bytes c.args.feed) ∷ []) two c.bind-bound-2.ensures
