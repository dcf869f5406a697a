use Rattle.std.proofs.Common.{◌<◌, ◌≤◌, ap, arith}
use Rattle.name_store.specs.Drafting.{Drafting, left_of, length_with}
use Rattle.name_store.specs.Stored.{Stored}
use Rattle.name_store.proofs.SliceLemmas.{limit_leaves, limit_keeps, written_within, ended_within}
use Rattle.name_store.proofs.store.Store.slice_within.Goals as goal

pub returns-then-area-longest-clause-leaves : goal.returns-then-area-longest-clause-leaves
returns-then-area-longest-clause-leaves g c =
    limit_leaves g.D.Disk.tells c.args.self c.args.draft c.args.most c.args.piece.now (g.D.Disk.seen c.args.disk.now) c.requires.on_disk

pub returns-then-area-longest-clause-kept : goal.returns-then-area-longest-clause-kept
returns-then-area-longest-clause-kept g c =
    limit_keeps g.D.Disk.tells c.args.self c.args.draft c.args.most c.args.piece.now (g.D.Disk.seen c.args.disk.now) c.requires.on_disk

pub returns-then-most-left-clause-answer : goal.returns-then-most-left-clause-answer
returns-then-most-left-clause-answer g c =
    let more : c.args.most < left_of c.args.self c.args.draft = omega (
      arith,
      c.if-most-left.true,
      c.image.ensures.value,
      c.written.ensures.value,
      ap (λ (x : Stored). x.area) c.self.view_is,
      ap (λ (d : Drafting). d.from) c.draft.view_is,
      ap (λ (d : Drafting). d.draft.image) c.draft.view_is,
      ap (λ (d : Drafting). d.draft.written) c.draft.view_is,
    ) in
    written_within c.args.longest c.args.self c.args.draft c.args.most more c.write_slice.result c.write_slice.ensures.answer

pub returns-clause-answer : goal.returns-clause-answer
returns-clause-answer g c =
    let within : length_with c.args.self c.args.draft ≤ c.args.longest = omega (
      arith,
      c.if-area-longest.false,
      c.image.ensures.value,
      ap (λ (x : Stored). x.area) c.self.view_is,
      ap (λ (d : Drafting). d.from) c.draft.view_is,
      ap (λ (d : Drafting). d.draft.image) c.draft.view_is,
      ap (λ (d : Drafting). d.draft.written) c.draft.view_is,
    ) in
    ended_within c.args.longest c.args.self c.args.draft c.args.most within (omega (arith, within, c.requires.longest)) c.end_slices.result c.end_slices.ensures.answer
