use Rattle.std.proofs.Common.{ℕ, Ok, Err, subst}
use Rattle.name_store.specs.Drafting.{Drafting}
use Rattle.name_store.specs.SliceSteps.{WritesNext}
use Rattle.name_store.proofs.SliceStepLemmas.{still_on, selects_last, selects_none}
use Rattle.name_store.proofs.slice_steps.write_last.Goals as goal

pub select_draft-requires-clause-on_disk : goal.select_draft-requires-clause-on_disk
select_draft-requires-clause-on_disk g c = λ tells.
    let before = g.D.Disk.seen c.args.disk.now in
    let mid = g.D.Disk.seen c.write_next.new.disk in
    let held = c.requires.on_disk tells in
    (held.0, still_on g.D.Disk.tells c.args.slots.now c.args.slots.now (record { draft = c.args.draft; from = c.args.from }) c.write_next.new.draft c.args.count c.args.piece.now before mid mid c.requires.drafted c.write_next.ensures.others tells held.0 held.1)

pub returns-in-Ok : goal.returns-in-Ok
returns-in-Ok g c =
    let before = g.D.Disk.seen c.args.disk.now in
    let mid = g.D.Disk.seen c.write_next.new.disk in
    let after = g.D.Disk.seen c.select_draft.new.disk in
    let drafting : Drafting = record { draft = c.args.draft; from = c.args.from } in
    let first = subst (λ (n : ℕ). WritesNext g.D.Disk.tells n drafting (record { draft = c.write_next.new.draft; from = c.args.from }) c.args.count c.args.piece.now before mid (Ok c.in-Ok.field-0)) c.selected.ensures c.in-Ok.ensures in
    selects_last g.D.Disk.tells c.args.slots.now c.select_draft.new.slots drafting c.write_next.new.draft c.args.count c.args.piece.now before mid after c.requires.drafted first c.requires.all c.select_draft.result c.select_draft.ensures

pub returns-in-Err : goal.returns-in-Err
returns-in-Err g c =
    let before = g.D.Disk.seen c.args.disk.now in
    let mid = g.D.Disk.seen c.write_next.new.disk in
    let drafting : Drafting = record { draft = c.args.draft; from = c.args.from } in
    let first = subst (λ (n : ℕ). WritesNext g.D.Disk.tells n drafting (record { draft = c.write_next.new.draft; from = c.args.from }) c.args.count c.args.piece.now before mid (Err c.in-Err.field-0)) c.selected.ensures c.in-Err.ensures in
    selects_none g.D.Disk.tells c.args.slots.now c.args.slots.now drafting c.write_next.new.draft c.args.count c.args.piece.now before mid mid c.requires.drafted _ (record {}) c.in-Err.field-0 first
