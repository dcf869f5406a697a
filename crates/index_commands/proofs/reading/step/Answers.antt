use Rattle.std.proofs.Common.{List, ℕ, Ok, Err, subst, arith}
use Rattle.disk_model.specs.DiskSeen.{bytes_in}
use Rattle.index_commands.specs.Following.{FollowsRecord}
use Rattle.index_commands.specs.declared.following.Unfollowed.{Unfollowed}
use Rattle.index_commands.specs.declared.following.Unfollowed.TheVariants.{Refused}
use Rattle.index_commands.proofs.ReadingLemmas.{fault_there, stepped_more, stepped_bad}
use Rattle.index_commands.proofs.reading.step.Goals as goal

pub returns-in-Ok-follow-clause-steps_on : goal.returns-in-Ok-follow-clause-steps_on
returns-in-Ok-follow-clause-steps_on g c = λ first some.
    stepped_more g.D.Disk.tells c.args.reading.journal.limit (bytes_in (g.D.Disk.seen c.args.disk.now)) first c.args.file (record { journal = c.args.reading.journal; in_area = c.requires.area; index = c.args.reading.chain; some = some })
    c.next_record.new.self c.next_record.new.into c.in-Ok.more c.if-not-more.false c.in-Ok.ensures.answer c.in-Ok-follow.chain c.in-Ok.ensures.moved
    (subst (λ (l : List ℕ). FollowsRecord c.args.reading.chain l (Ok c.in-Ok-follow.chain)) c.as_slice.ensures c.in-Ok-follow.ensures)

pub returns-in-Err-Refused-clause-steps_on : goal.returns-in-Err-Refused-clause-steps_on
returns-in-Err-Refused-clause-steps_on g c = λ first some.
    stepped_bad g.D.Disk.tells c.args.reading.journal.limit (bytes_in (g.D.Disk.seen c.args.disk.now)) first c.args.file (record { journal = c.args.reading.journal; in_area = c.requires.area; index = c.args.reading.chain; some = some })
    c.next_record.new.self c.next_record.new.into c.in-Ok.more c.if-not-more.false c.in-Ok.ensures.answer
    (subst (λ (l : List ℕ). FollowsRecord c.args.reading.chain l (Err Refused)) c.as_slice.ensures
    (subst (λ (e : Unfollowed). FollowsRecord c.args.reading.chain c.as_slice.result.now (Err e)) c.in-Err-Refused.field-0-is c.in-Err-Refused.ensures)) _ (omega (arith, c.length-at.ensures))

pub returns-clause-steps_on : goal.returns-clause-steps_on
returns-clause-steps_on g c = λ first some.
    fault_there g.D.Disk.tells c.args.reading.journal.limit (bytes_in (g.D.Disk.seen c.args.disk.now)) first c.args.file (record { journal = c.args.reading.journal; in_area = c.requires.area; index = c.args.reading.chain; some = some })
    c.next_record.new.self c.next_record.new.into c.in-Err.fault c.in-Err.ensures.answer
