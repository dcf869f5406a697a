use Rattle.std.proofs.Common.{ℕ, length, take, drop, sym, ◌∙◌, ap, arith}
use Rattle.std.proofs.lemmas.List.{take_all}
use Rattle.file_trials.proofs.store.slices.whole_within.Goals as goal

-- nothing is written, so the whole image is next
pub slice_within-requires-clause-next : goal.slice_within-requires-clause-next
slice_within-requires-clause-next g c = λ told.
    let image = c.args.image.now in
    record {
      image = image;
      on = c.requires.going.drafted told;
      next = sym (take_all (length image) image (omega arith)) ∙ ap (λ (n : ℕ). take (length image) (drop n image)) (sym c.requires.going.written_is);
    }
