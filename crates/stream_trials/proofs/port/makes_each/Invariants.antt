use Rattle.std.proofs.Common.{◌≡◌, length}
use Rattle.byte_io.specs.declared.port.TheConstants.{POLL_ROOM}
use Rattle.byte_io.specs.Port.{IsBound}
use Rattle.memory_io.specs.MemoryPort.{memory_seen}
use Rattle.stream_trials.proofs.port.makes_each.Given as goal

abbrev pub invariant-loop-call : goal.invariant-loop-call
invariant-loop-call g l = IsBound (memory_seen l.port) × (length l.buffer ≡ POLL_ROOM)
