use Rattle.std.proofs.Common.{◌≡◌}
use Rattle.system_io.specs.Streams.{clients_of}
use Rattle.system_io.specs.Waits.{LooksAtFirst}
use Rattle.system_io.proofs.streams.look_at_each.Given as goal

abbrev pub invariant-loop-at : goal.invariant-loop-at
invariant-loop-at l = record {
  clients : clients_of l.streams.items ≡ clients_of l.initial.streams.items;
  looked : LooksAtFirst l.initial.streams.items l.streams.items l.places l.now l.at;
}
