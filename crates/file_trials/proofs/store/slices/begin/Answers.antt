use Rattle.std.proofs.Common.{◌≡◌, length, ap}
use Rattle.name_store.specs.Drafting.{Drafting}
use Rattle.file_trials.proofs.store.slices.begin.Goals as goal

pub returns-in-Begun : goal.returns-in-Begun
returns-in-Begun g c =
    let image = c.args.image.now in
    let answer = c.in-Begun.ensures.answer in
    let size : c.in-Begun.draft.draft.image ≡ length image = ap (λ (d : Drafting). d.draft.image) answer.drafting_is in
    record {
      is_draft = answer.is_draft;
      size = size;
      written_is = ap (λ (d : Drafting). d.draft.written) answer.drafting_is;
      on_disk = c.in-Begun.ensures.leaves.ends.2;
      drafted = λ told. c.in-Begun.ensures.leaves.begun told image size;
    }
