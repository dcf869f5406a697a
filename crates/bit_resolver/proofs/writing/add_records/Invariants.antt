use Rattle.std.proofs.Common.{◌≡◌, map, take}
use Rattle.dns_message.specs.Replies.{Contents}
use Rattle.dns_message.specs.Holding.{Holds, MayAdd, with_records}
use Rattle.bit_resolver.specs.Replies.{written}
use Rattle.bit_resolver.proofs.writing.add_records.Given as goal

-- the records so far are there
abbrev pub invariant-loop-record : goal.invariant-loop-record
invariant-loop-record l = record {
  each : (t : Contents) → Holds t l.initial.reply l.initial.buffer → MayAdd l.section t
      → Holds (with_records l.section (map written (take l.record-index l.records)) t) l.reply l.buffer;
  limit : l.reply.limit ≡ l.initial.reply.limit;
}
