use Rattle.std.proofs.Common.{◌≡◌, drop, map, slice_get}
use Rattle.memory_io.specs.Kept.{outgoing, seen_note}
use Rattle.memory_io.proofs.port_log.PortLog.sent.Given as goal

-- what is looked for stands among the notes that are left
abbrev pub invariant-loop-note : goal.invariant-loop-note
invariant-loop-note l = slice_get (outgoing (map seen_note (drop l.note-index l.note-items))) l.before ≡ slice_get (outgoing (map seen_note l.note-items)) l.number
