use Rattle.std.proofs.Common.{rules, ◌+◌, ◌<◌, ◌^◌, [], ◌∷◌, length, Ok, Err, ap, subst, arith}
use Rattle.disk_model.specs.DiskSeen.{file_in}
use Rattle.disk_model.specs.Moments.{Files}
use Rattle.disk_model.specs.Changes.{LeavesOthers}
use Rattle.disk_model.proofs.MomentLemmas.{weaken}
use Rattle.gate_journal.specs.Calls.{Appends}
use Rattle.gate_journal.specs.Stand.{Stand}
use Rattle.index_commands.specs.Keeping.{KeepsOrAdds}
use Rattle.index_commands.proofs.KeepLemmas.{journal_at, added, either}
use Rattle.index_commands.proofs.keeping.keep_record.Goals as goal

pub returns-in-Ok : goal.returns-in-Ok
returns-in-Ok g c =
    let old = g.D.Disk.seen c.args.disk.now in
    let new = g.D.Disk.seen c.append.new.disk in
    let file = c.args.file in
    let record_is = c.args.head ∷ c.args.body.now in
    let next = c.args.area + 5 + 1 + length c.args.body.now in
    let on = subst (λ (s : Stand). Appends g.D.Disk.tells s c.append.new.self (c.args.head ∷ []) c.args.body.now old new (Ok c.in-Ok.field-0)) c.at_gate-journal.ensures c.in-Ok.ensures.appends in
    let did = subst (λ (s : Stand). Appends g.D.Disk.tells (journal_at c.args.longest c.args.file c.args.area) s (c.args.head ∷ []) c.args.body.now old new (Ok c.in-Ok.field-0)) on.ok on in
    let fits : length record_is < 2 ^ 32 = omega (arith, c.requires.short) in
    record {
      longer = omega (arith, c.length.ensures, ap (λ (s : Stand). s.length) on.ok);
      settled = λ tells. (did.at_gate tells).settled;
      added = λ tells image records holds.
          added c.args.longest file c.args.area (file_in old file) (record { settled = c.requires.settled tells; image = image; records = records; holds = holds }) record_is fits next (file_in new file) (omega arith) (did.at_gate tells) (did.text tells);
      any_moment = λ tells image records holds. weaken (KeepsOrAdds file image records record_is old.moments.now)
          (λ (files : Files) both. either c.args.longest file c.args.area (file_in old file) (record { settled = c.requires.settled tells; image = image; records = records; holds = holds }) record_is fits old.moments.now files both) (did.any_moment tells);
      others = λ tells. weaken (LeavesOthers file old.moments.now) (λ (files : Files) so. so.others) (did.any_moment tells);
      ends = search rules;
    }

pub returns-in-Err-DiskFault : goal.returns-in-Err-DiskFault
returns-in-Err-DiskFault g c =
    let old = g.D.Disk.seen c.args.disk.now in
    let new = g.D.Disk.seen c.append.new.disk in
    let file = c.args.file in
    let record_is = c.args.head ∷ c.args.body.now in
    let did = subst (λ (s : Stand). Appends g.D.Disk.tells s c.append.new.self (c.args.head ∷ []) c.args.body.now old new (Err c.in-Err-DiskFault.field-0)) c.at_gate-journal.ensures c.in-Err-DiskFault.ensures.appends in
    let fits : length record_is < 2 ^ 32 = omega (arith, c.requires.short) in
    record {
      longer = search rules;
      settled = search rules;
      added = search rules;
      any_moment = λ tells image records holds. weaken (KeepsOrAdds file image records record_is old.moments.now)
          (λ (files : Files) both. either c.args.longest file c.args.area (file_in old file) (record { settled = c.requires.settled tells; image = image; records = records; holds = holds }) record_is fits old.moments.now files both) (did.any_moment tells);
      others = λ tells. weaken (LeavesOthers file old.moments.now) (λ (files : Files) so. so.others) (did.any_moment tells);
      ends = search rules;
    }
