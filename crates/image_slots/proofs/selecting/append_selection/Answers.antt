use Rattle.std.proofs.Common.{rules, ◌≡◌, ◌+◌, ◌*◌, true, List, [], ◌∷◌, Ok, Err, sym, ◌∙◌, subst, arith}
use Rattle.std.specs.Prelude.{ℕ, IsTrue}
use Rattle.disk_model.specs.DiskSeen.{file_in}
use Rattle.disk_model.specs.Moments.{Files}
use Rattle.disk_model.proofs.MomentLemmas.{weaken}
use Rattle.gate_journal.specs.Calls.{Appends}
use Rattle.gate_journal.specs.Stand.{Stand, IsAtGate}
use Rattle.image_slots.specs.Selections.{selections_file, drafted_by}
use Rattle.image_slots.specs.Slotted.{Slotted, AreOn, KeepsOrSelects, with_one_more}
use Rattle.image_slots.proofs.AppendingLemmas.{journal_of, stands_at_gate, added, either, lasting}
use Rattle.image_slots.proofs.selecting.append_selection.Goals as goal

pub append-requires-clause-at_gate : goal.append-requires-clause-at_gate
append-requires-clause-at_gate g c = λ tells.
    let old = g.D.Disk.seen c.args.disk.now in
    let slots : Slotted = record { at = c.args.at; count = c.args.count; limits = c.args.limits } in
    let journal_is : c.at_gate-journal.result ≡ journal_of slots = c.at_gate-journal.ensures
    ∙ (λ i. record { file = 0; length = c.args.at + 6 * c.from.ensures i + 1; limit = c.selections_limit-limit.ensures i; reached = true }) in
    let on = c.requires.on_disk tells in
    subst (λ (s : Stand). IsAtGate s (file_in old s.file)) (sym journal_is) (stands_at_gate on.0 slots (file_in old selections_file) on.1)

pub returns-in-Ok : goal.returns-in-Ok
returns-in-Ok g c =
    let old = g.D.Disk.seen c.args.disk.now in
    let new = g.D.Disk.seen c.append.new.disk in
    let slots : Slotted = record { at = c.args.at; count = c.args.count; limits = c.args.limits } in
    let file = file_in old selections_file in
    let journal_is : c.at_gate-journal.result ≡ journal_of slots = c.at_gate-journal.ensures
    ∙ (λ i. record { file = 0; length = c.args.at + 6 * c.from.ensures i + 1; limit = c.selections_limit-limit.ensures i; reached = true }) in
    let next : Stand = record (journal_of slots) { length = c.args.at + 6 * c.args.count + 1 + 5 + 1 + 0 } in
    let done = subst (λ (s : Stand). Appends g.D.Disk.tells s c.append.new.self (drafted_by c.args.count ∷ []) [] old new (Ok c.in-Ok.field-0)) journal_is
    (subst (λ (n : ℕ). Appends g.D.Disk.tells c.at_gate-journal.result c.append.new.self (n ∷ []) [] old new (Ok c.in-Ok.field-0)) c.requires.drafted c.in-Ok.ensures.appends) in
    let did = subst (λ (s : Stand). Appends g.D.Disk.tells (journal_of slots) s (drafted_by c.args.count ∷ []) [] old new (Ok c.in-Ok.field-0)) done.ok done in
    let on_disk : (tells : IsTrue g.D.Disk.tells) → (front : List ℕ) → AreOn front slots file → AreOn front (with_one_more slots) (file_in new selections_file) = λ tells front on.
    added front slots file on next (file_in new selections_file) (omega arith) (did.at_gate tells) (did.text tells) in
    record {
      on_disk = on_disk;
      any_moment = λ tells front on. weaken (KeepsOrSelects front slots.count old.moments.now) (λ (files : Files) both. either front slots file on old.moments.now files both) (did.any_moment tells);
      durable = λ tells front on. lasting front (with_one_more slots) (file_in new selections_file) (on_disk tells front on);
      ends = search rules;
    }

pub returns-in-Err-DiskFault : goal.returns-in-Err-DiskFault
returns-in-Err-DiskFault g c =
    let old = g.D.Disk.seen c.args.disk.now in
    let new = g.D.Disk.seen c.append.new.disk in
    let slots : Slotted = record { at = c.args.at; count = c.args.count; limits = c.args.limits } in
    let journal_is : c.at_gate-journal.result ≡ journal_of slots = c.at_gate-journal.ensures
    ∙ (λ i. record { file = 0; length = c.args.at + 6 * c.from.ensures i + 1; limit = c.selections_limit-limit.ensures i; reached = true }) in
    let did = subst (λ (s : Stand). Appends g.D.Disk.tells s c.append.new.self (drafted_by c.args.count ∷ []) [] old new (Err c.in-Err-DiskFault.field-0)) journal_is
    (subst (λ (n : ℕ). Appends g.D.Disk.tells c.at_gate-journal.result c.append.new.self (n ∷ []) [] old new (Err c.in-Err-DiskFault.field-0)) c.requires.drafted c.in-Err-DiskFault.ensures.appends) in
    record {
      on_disk = search rules;
      any_moment = λ tells front on. weaken (KeepsOrSelects front slots.count old.moments.now)
          (λ (files : Files) both. either front slots (file_in old selections_file) on old.moments.now files both) (did.any_moment tells);
      durable = search rules;
      ends = search rules;
    }
