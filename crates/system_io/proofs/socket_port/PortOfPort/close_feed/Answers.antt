use Rattle.std.proofs.Common.{rules}
use Rattle.fault_counts.proofs.FaultLemmas.{NeverFell_refl}
use Rattle.byte_io.specs.Port.{closed}
use Rattle.system_io.specs.declared.link.Peer.TheVariants.{Feed}
use Rattle.system_io.proofs.PortLemmas.{Noted_sends}
use Rattle.system_io.proofs.socket_port.PortOfPort.close_feed.Goals as goal

pub returns : goal.returns
returns g c = record {
  bound = search rules;
  added = Noted_sends (g.N.Net.told c.args.self.now.net) (g.N.Net.told c.close_feed.new.net) (g.N.Net.told c.note_send.new.self) Feed closed c.close_feed.ensures c.note_send.ensures;
  later = NeverFell_refl _;
}
