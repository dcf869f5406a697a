use Rattle.std.proofs.Common.{◌≡◌, ◌+◌, ◌-◌, ◌≤◌, sym, ◌∙◌, subst}
use Rattle.std.specs.Prelude.{IsTrue}
use Rattle.chain_commands.specs.RunState.{longest_area}
use Rattle.name_store.specs.Drafting.{Drafting, IsDraftOf, left_of, length_with}
use Rattle.name_store.specs.Slicing.{LeavesSlice, KeepsSliced, StandsBehind, HasNext}
use Rattle.name_store.specs.Stored.{Stored, IsOn}
use Rattle.name_store.specs.declared.slicing.SliceOutcome.TheVariants.{Selected, Faulted}
use Rattle.name_store.proofs.SliceLemmas.{selected_leaves, selected_stands, selected_keeps, unselected_leaves, unselected_keeps}
use Rattle.name_store.proofs.store.Store.end_slices.Goals as goal

pub returns-in-Ok-clause-leaves : goal.returns-in-Ok-clause-leaves
returns-in-Ok-clause-leaves g c =
    let before = g.D.Disk.seen c.args.disk.now in
    let after = g.D.Disk.seen c.write_last.new.disk in
    let old : Stored = record { index = c.self.inside.chain; host = c.self.inside.host; slots = c.self.inside.slots; area = c.self.inside.area } in
    let drafting : Drafting = record { draft = c.draft.inside.draft; from = c.draft.inside.from } in
    let on = λ (told : IsTrue g.D.Disk.tells). subst (λ (x : Stored). IsOn x before.moments.now) (sym c.self.view_is) (c.requires.on_disk told) in
    let here = λ (P : Stored → Drafting → Type 0) (p : P c.args.self c.args.draft). subst (P old) (sym c.draft.view_is) (subst (λ (x : Stored). P x c.args.draft) (sym c.self.view_is) p) in
    let is = here IsDraftOf c.requires.is_draft in
    let all = here (λ x d. c.args.count ≡ left_of x d) c.requires.all in
    let within = here (λ x d. length_with x d ≤ longest_area) c.requires.within in
    let next = λ (told : IsTrue g.D.Disk.tells). here (λ x d. HasNext x d c.args.piece.now before.moments.now) (c.requires.next told) in
    let new : Stored = record { index = c.self.inside.chain; host = c.self.inside.host; slots = c.write_last.new.slots; area = length_with old drafting } in
    let store_is : c.of-store.result ≡ new = c.of-store.ensures ∙ (λ i. record { index = c.self.inside.chain; host = c.self.inside.host; slots = c.write_last.new.slots; area = 9 + (c.image.ensures.value i + (c.self.inside.area - c.draft.inside.from)) }) in
    subst (λ (x : Stored). LeavesSlice g.D.Disk.tells x c.args.draft c.args.piece.now before after (Selected c.of-store.result c.from.result)) c.self.view_is (subst (λ (d : Drafting). LeavesSlice g.D.Disk.tells old d c.args.piece.now before after (Selected c.of-store.result c.from.result)) c.draft.view_is
    (subst (λ (y : Stored). LeavesSlice g.D.Disk.tells old drafting c.args.piece.now before after (Selected y c.from.result)) (sym store_is) (selected_leaves g.D.Disk.tells old drafting is c.args.count c.args.most c.args.piece.now before after on all c.requires.last c.write_last.new.slots within c.in-Ok.number c.in-Ok.ensures next c.from.result)))

pub returns-in-Ok-clause-stands : goal.returns-in-Ok-clause-stands
returns-in-Ok-clause-stands g c =
    let before = g.D.Disk.seen c.args.disk.now in
    let after = g.D.Disk.seen c.write_last.new.disk in
    let old : Stored = record { index = c.self.inside.chain; host = c.self.inside.host; slots = c.self.inside.slots; area = c.self.inside.area } in
    let drafting : Drafting = record { draft = c.draft.inside.draft; from = c.draft.inside.from } in
    let on = λ (told : IsTrue g.D.Disk.tells). subst (λ (x : Stored). IsOn x before.moments.now) (sym c.self.view_is) (c.requires.on_disk told) in
    let here = λ (P : Stored → Drafting → Type 0) (p : P c.args.self c.args.draft). subst (P old) (sym c.draft.view_is) (subst (λ (x : Stored). P x c.args.draft) (sym c.self.view_is) p) in
    let is = here IsDraftOf c.requires.is_draft in
    let all = here (λ x d. c.args.count ≡ left_of x d) c.requires.all in
    let within = here (λ x d. length_with x d ≤ longest_area) c.requires.within in
    let next = λ (told : IsTrue g.D.Disk.tells). here (λ x d. HasNext x d c.args.piece.now before.moments.now) (c.requires.next told) in
    let new : Stored = record { index = c.self.inside.chain; host = c.self.inside.host; slots = c.write_last.new.slots; area = length_with old drafting } in
    let store_is : c.of-store.result ≡ new = c.of-store.ensures ∙ (λ i. record { index = c.self.inside.chain; host = c.self.inside.host; slots = c.write_last.new.slots; area = 9 + (c.image.ensures.value i + (c.self.inside.area - c.draft.inside.from)) }) in
    subst (λ (x : Stored). StandsBehind x c.args.draft (Selected c.of-store.result c.from.result)) c.self.view_is (subst (λ (d : Drafting). StandsBehind old d (Selected c.of-store.result c.from.result)) c.draft.view_is
    (subst (λ (y : Stored). StandsBehind old drafting (Selected y c.from.result)) (sym store_is) (selected_stands g.D.Disk.tells old drafting is c.args.count c.args.most c.args.piece.now before after on all c.requires.last c.write_last.new.slots within c.in-Ok.number c.in-Ok.ensures c.from.result)))

pub returns-in-Ok-clause-kept : goal.returns-in-Ok-clause-kept
returns-in-Ok-clause-kept g c =
    let before = g.D.Disk.seen c.args.disk.now in
    let after = g.D.Disk.seen c.write_last.new.disk in
    let old : Stored = record { index = c.self.inside.chain; host = c.self.inside.host; slots = c.self.inside.slots; area = c.self.inside.area } in
    let drafting : Drafting = record { draft = c.draft.inside.draft; from = c.draft.inside.from } in
    let on = λ (told : IsTrue g.D.Disk.tells). subst (λ (x : Stored). IsOn x before.moments.now) (sym c.self.view_is) (c.requires.on_disk told) in
    let here = λ (P : Stored → Drafting → Type 0) (p : P c.args.self c.args.draft). subst (P old) (sym c.draft.view_is) (subst (λ (x : Stored). P x c.args.draft) (sym c.self.view_is) p) in
    let is = here IsDraftOf c.requires.is_draft in
    let all = here (λ x d. c.args.count ≡ left_of x d) c.requires.all in
    let within = here (λ x d. length_with x d ≤ longest_area) c.requires.within in
    let next = λ (told : IsTrue g.D.Disk.tells). here (λ x d. HasNext x d c.args.piece.now before.moments.now) (c.requires.next told) in
    let new : Stored = record { index = c.self.inside.chain; host = c.self.inside.host; slots = c.write_last.new.slots; area = length_with old drafting } in
    let store_is : c.of-store.result ≡ new = c.of-store.ensures ∙ (λ i. record { index = c.self.inside.chain; host = c.self.inside.host; slots = c.write_last.new.slots; area = 9 + (c.image.ensures.value i + (c.self.inside.area - c.draft.inside.from)) }) in
    subst (λ (x : Stored). (IsTrue g.D.Disk.tells → KeepsSliced x c.args.draft c.args.piece.now c.args.most before after (Selected c.of-store.result c.from.result))) c.self.view_is (subst (λ (d : Drafting). (IsTrue g.D.Disk.tells → KeepsSliced old d c.args.piece.now c.args.most before after (Selected c.of-store.result c.from.result))) c.draft.view_is
    (subst (λ (y : Stored). IsTrue g.D.Disk.tells → KeepsSliced old drafting c.args.piece.now c.args.most before after (Selected y c.from.result)) (sym store_is)
    (λ told. selected_keeps g.D.Disk.tells old drafting is c.args.count c.args.most c.args.piece.now before after on all c.requires.last c.write_last.new.slots within c.in-Ok.number c.in-Ok.ensures told next c.from.result)))

pub returns-in-Err-clause-leaves : goal.returns-in-Err-clause-leaves
returns-in-Err-clause-leaves g c =
    let before = g.D.Disk.seen c.args.disk.now in
    let after = g.D.Disk.seen c.write_last.new.disk in
    let old : Stored = record { index = c.self.inside.chain; host = c.self.inside.host; slots = c.self.inside.slots; area = c.self.inside.area } in
    let drafting : Drafting = record { draft = c.draft.inside.draft; from = c.draft.inside.from } in
    let on = λ (told : IsTrue g.D.Disk.tells). subst (λ (x : Stored). IsOn x before.moments.now) (sym c.self.view_is) (c.requires.on_disk told) in
    let here = λ (P : Stored → Drafting → Type 0) (p : P c.args.self c.args.draft). subst (P old) (sym c.draft.view_is) (subst (λ (x : Stored). P x c.args.draft) (sym c.self.view_is) p) in
    let is = here IsDraftOf c.requires.is_draft in
    let all = here (λ x d. c.args.count ≡ left_of x d) c.requires.all in
    let within = here (λ x d. length_with x d ≤ longest_area) c.requires.within in
    subst (λ (x : Stored). LeavesSlice g.D.Disk.tells x c.args.draft c.args.piece.now before after Faulted) c.self.view_is (subst (λ (d : Drafting). LeavesSlice g.D.Disk.tells old d c.args.piece.now before after Faulted) c.draft.view_is
    (unselected_leaves g.D.Disk.tells old drafting is c.args.count c.args.most c.args.piece.now before after on all c.requires.last c.write_last.new.slots within c.in-Err.field-0 c.in-Err.ensures))

pub returns-in-Err-clause-kept : goal.returns-in-Err-clause-kept
returns-in-Err-clause-kept g c =
    let before = g.D.Disk.seen c.args.disk.now in
    let after = g.D.Disk.seen c.write_last.new.disk in
    let old : Stored = record { index = c.self.inside.chain; host = c.self.inside.host; slots = c.self.inside.slots; area = c.self.inside.area } in
    let drafting : Drafting = record { draft = c.draft.inside.draft; from = c.draft.inside.from } in
    let on = λ (told : IsTrue g.D.Disk.tells). subst (λ (x : Stored). IsOn x before.moments.now) (sym c.self.view_is) (c.requires.on_disk told) in
    let here = λ (P : Stored → Drafting → Type 0) (p : P c.args.self c.args.draft). subst (P old) (sym c.draft.view_is) (subst (λ (x : Stored). P x c.args.draft) (sym c.self.view_is) p) in
    let is = here IsDraftOf c.requires.is_draft in
    let all = here (λ x d. c.args.count ≡ left_of x d) c.requires.all in
    let within = here (λ x d. length_with x d ≤ longest_area) c.requires.within in
    subst (λ (x : Stored). (IsTrue g.D.Disk.tells → KeepsSliced x c.args.draft c.args.piece.now c.args.most before after Faulted)) c.self.view_is (subst (λ (d : Drafting). (IsTrue g.D.Disk.tells → KeepsSliced old d c.args.piece.now c.args.most before after Faulted)) c.draft.view_is
    (unselected_keeps g.D.Disk.tells old drafting is c.args.count c.args.most c.args.piece.now before after on all c.requires.last c.write_last.new.slots within c.in-Err.field-0 c.in-Err.ensures))
