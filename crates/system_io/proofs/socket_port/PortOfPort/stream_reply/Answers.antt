use Rattle.std.proofs.Common.{rules, true}
use Rattle.fault_counts.proofs.FaultLemmas.{NeverFell_refl}
use Rattle.byte_io.specs.Port.{stream_replied}
use Rattle.system_io.specs.declared.link.Peer.TheVariants.{Client}
use Rattle.system_io.proofs.PortLemmas.{Noted_sends}
use Rattle.system_io.proofs.socket_port.PortOfPort.stream_reply.Goals as goal

pub returns-clause-sends : goal.returns-clause-sends
returns-clause-sends g c = record {
  bound = search rules;
  added = Noted_sends (g.N.Net.told c.args.self.now.net) (g.N.Net.told c.stream_reply.new.net) (g.N.Net.told c.note_send.new.self) (Client c.args.client) (stream_replied c.args.client c.args.bytes.now true)
      c.stream_reply.ensures.sends c.note_send.ensures;
  later = NeverFell_refl _;
}
