use Rattle.std.proofs.Common.{◌≡◌, ℕ, Ok, Err, sym, ◌∙◌, ap, subst, arith}
use Rattle.std.specs.Prelude.{IsTrue}
use Rattle.name_store.specs.Drafting.{Drafting, IsDraftOf}
use Rattle.name_store.specs.Slicing.{LeavesSlice, KeepsSliced}
use Rattle.name_store.specs.SliceSteps.{WritesNext}
use Rattle.name_store.specs.Stored.{Stored, area_file}
use Rattle.name_store.specs.declared.slicing.SliceOutcome.TheVariants.{Written, Faulted}
use Rattle.name_store.proofs.SliceLemmas.{written_leaves, written_keeps, unwritten_leaves, unwritten_keeps}
use Rattle.name_store.proofs.store.Store.write_slice.Goals as goal

pub returns-in-Ok-clause-leaves : goal.returns-in-Ok-clause-leaves
returns-in-Ok-clause-leaves g c =
    let before = g.D.Disk.seen c.args.disk.now in
    let after = g.D.Disk.seen c.write_next.new.disk in
    let old = c.args.self in
    let drafting : Drafting = record { draft = c.draft.inside.draft; from = c.draft.inside.from } in
    let wrote = c.write_next.new.draft in
    let is = subst (IsDraftOf old) (sym c.draft.view_is) c.requires.is_draft in
    let file_is : c.selected.result ≡ area_file old = c.selected.ensures ∙ ap (λ (x : Stored). area_file x) c.self.view_is in
    let did = subst (λ (n : ℕ). WritesNext g.D.Disk.tells n drafting (record { draft = wrote; from = drafting.from }) c.args.most c.args.piece.now before after (Ok c.in-Ok.field-0)) file_is c.in-Ok.ensures in
    subst (λ (d : Drafting). LeavesSlice g.D.Disk.tells old d c.args.piece.now before after (Written old (record { draft = wrote; from = drafting.from }))) c.draft.view_is
    (written_leaves g.D.Disk.tells old drafting is c.args.most c.args.piece.now before after c.requires.on_disk wrote did (omega (arith, c.requires.some)))

pub returns-in-Ok-clause-kept : goal.returns-in-Ok-clause-kept
returns-in-Ok-clause-kept g c =
    let before = g.D.Disk.seen c.args.disk.now in
    let after = g.D.Disk.seen c.write_next.new.disk in
    let old = c.args.self in
    let drafting : Drafting = record { draft = c.draft.inside.draft; from = c.draft.inside.from } in
    let wrote = c.write_next.new.draft in
    let is = subst (IsDraftOf old) (sym c.draft.view_is) c.requires.is_draft in
    let file_is : c.selected.result ≡ area_file old = c.selected.ensures ∙ ap (λ (x : Stored). area_file x) c.self.view_is in
    let did = subst (λ (n : ℕ). WritesNext g.D.Disk.tells n drafting (record { draft = wrote; from = drafting.from }) c.args.most c.args.piece.now before after (Ok c.in-Ok.field-0)) file_is c.in-Ok.ensures in
    subst (λ (d : Drafting). IsTrue g.D.Disk.tells → KeepsSliced old d c.args.piece.now c.args.most before after (Written old (record { draft = wrote; from = drafting.from }))) c.draft.view_is
    (written_keeps g.D.Disk.tells old drafting is c.args.most c.args.piece.now before after c.requires.on_disk wrote did)

pub returns-in-Err-clause-leaves : goal.returns-in-Err-clause-leaves
returns-in-Err-clause-leaves g c =
    let before = g.D.Disk.seen c.args.disk.now in
    let after = g.D.Disk.seen c.write_next.new.disk in
    let old = c.args.self in
    let drafting : Drafting = record { draft = c.draft.inside.draft; from = c.draft.inside.from } in
    let wrote = c.write_next.new.draft in
    let is = subst (IsDraftOf old) (sym c.draft.view_is) c.requires.is_draft in
    let file_is : c.selected.result ≡ area_file old = c.selected.ensures ∙ ap (λ (x : Stored). area_file x) c.self.view_is in
    let did = subst (λ (n : ℕ). WritesNext g.D.Disk.tells n drafting (record { draft = wrote; from = drafting.from }) c.args.most c.args.piece.now before after (Err c.in-Err.field-0)) file_is c.in-Err.ensures in
    subst (λ (d : Drafting). LeavesSlice g.D.Disk.tells old d c.args.piece.now before after (Faulted)) c.draft.view_is
    (unwritten_leaves g.D.Disk.tells old drafting is c.args.most c.args.piece.now before after c.requires.on_disk wrote c.in-Err.field-0 did)

pub returns-in-Err-clause-kept : goal.returns-in-Err-clause-kept
returns-in-Err-clause-kept g c =
    let before = g.D.Disk.seen c.args.disk.now in
    let after = g.D.Disk.seen c.write_next.new.disk in
    let old = c.args.self in
    let drafting : Drafting = record { draft = c.draft.inside.draft; from = c.draft.inside.from } in
    let wrote = c.write_next.new.draft in
    let is = subst (IsDraftOf old) (sym c.draft.view_is) c.requires.is_draft in
    let file_is : c.selected.result ≡ area_file old = c.selected.ensures ∙ ap (λ (x : Stored). area_file x) c.self.view_is in
    let did = subst (λ (n : ℕ). WritesNext g.D.Disk.tells n drafting (record { draft = wrote; from = drafting.from }) c.args.most c.args.piece.now before after (Err c.in-Err.field-0)) file_is c.in-Err.ensures in
    subst (λ (d : Drafting). IsTrue g.D.Disk.tells → KeepsSliced old d c.args.piece.now c.args.most before after (Faulted)) c.draft.view_is
    (unwritten_keeps g.D.Disk.tells old drafting is c.args.most c.args.piece.now before after c.requires.on_disk wrote c.in-Err.field-0 did)
