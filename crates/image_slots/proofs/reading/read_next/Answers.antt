use Rattle.std.proofs.Common.{rules, ◌∙◌, arith}
use Rattle.disk_model.specs.DiskSeen.{bytes_in}
use Rattle.image_slots.proofs.CountLemmas.{fault_told, another_there}
use Rattle.image_slots.proofs.reading.read_next.Goals as goal

pub returns-then-not-is_next : goal.returns-then-not-is_next
returns-then-not-is_next g c = record {
  answer = λ tells.
      let there = another_there (bytes_in (g.D.Disk.seen c.args.disk.now)) c.args.journal.now c.next_record.new.self c.next_record.new.into c.args.count c.in-Ok.more c.if-not-more.false c.requires.file
      (c.in-Ok.ensures.answer tells) (λ same. cc (c.if-not-is_next.ensures.1 (c.as_slice.ensures ∙ same))) in (omega (arith, c.length-at.ensures), there.0, there.1);
  moved = tt;
  same = c.in-Ok.ensures.same;
  readable = λ tells. tt;
  unchanged = c.in-Ok.ensures.unchanged;
  ends = search rules;
  reads = c.in-Ok.ensures.reads;
}

pub returns-in-Err : goal.returns-in-Err
returns-in-Err g c = record {
  answer = λ tells.
      fault_told (bytes_in (g.D.Disk.seen c.args.disk.now)) c.args.journal.now c.next_record.new.self c.next_record.new.into c.args.count c.in-Err.fault c.from.result c.requires.file
      (c.in-Err.ensures.answer tells) c.from.ensures;
  moved = tt;
  same = c.in-Err.ensures.same;
  readable = λ tells. tt;
  unchanged = c.in-Err.ensures.unchanged;
  ends = search rules;
  reads = c.in-Err.ensures.reads;
}
