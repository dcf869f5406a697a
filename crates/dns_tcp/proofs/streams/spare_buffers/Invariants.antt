use Rattle.std.specs.Prelude.{◌≡◌, ◌≤◌, vec_len, vec_capacity}
use Rattle.dns_tcp.specs.declared.streams.TheConstants.{CLIENTS}
use Rattle.dns_tcp.proofs.streams.spare_buffers.Given as goal

abbrev pub invariant-loop : goal.invariant-loop
invariant-loop l = (vec_len l.spare ≡ l.counter) × (CLIENTS ≤ vec_capacity l.spare)
