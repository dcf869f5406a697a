use Rattle.std.proofs.Common.{rules, refl}
use Rattle.system_io.specs.Loopback.{port_addresses}
use Rattle.system_io.proofs.PortLemmas.{Binds_failed, Unnoted_asks}
use Rattle.system_io.proofs.socket_port.PortOfPort.bind.Goals as goal

pub returns-in_err-sockets : goal.returns-in_err-sockets
returns-in_err-sockets g c =
    Binds_failed _ _ c.args.udp c.args.feed c.from_residual.result (search rules) refl
    (Unnoted_asks (g.N.Net.told c.args.self.now.net) (g.N.Net.told c.bind-answer.new.net) (port_addresses c.args.udp c.args.feed) c.bind-answer.ensures.asked)
    c.in_err-sockets.ensures.cause.later c.in_err-sockets.ensures.cause.failed

pub returns : goal.returns
returns g c = record {
  bound = refl;
  added = Unnoted_asks (g.N.Net.told c.args.self.now.net) (g.N.Net.told c.bind-answer.new.net) (port_addresses c.args.udp c.args.feed) c.bind-answer.ensures.asked;
  later = c.count.ensures.cause.later;
}
