use Rattle.std.proofs.Common.{ℕ, ◌+◌, ◌≤◌, List, length, sym, ◌∙◌, subst, arith}
use Rattle.std.specs.Prelude.{Ok, Err}
use Rattle.disk_model.specs.DiskSeen.{bytes_in}
use Rattle.image_files.specs.Fronts.{HasLength}
use Rattle.image_files.specs.Reading.{BeginAnswer, ReadsImage}
use Rattle.image_files.proofs.FrontLemmas.{lies_inside}
use Rattle.image_files.proofs.LoadedLemmas.{read_from, begin_fault, length_fault}
use Rattle.image_files.proofs.OnlyLemmas.{as_fault, quiet_of, fault_then, only_fault, only_ok, bytes_same, quiet_then}
use Rattle.image_files.proofs.reading.read_image.Goals as goal

pub begin_index-requires-clause-inside : goal.begin_index-requires-clause-inside
begin_index-requires-clause-inside g c = λ told.
    let tells = g.D.Disk.tells in
    let old = g.D.Disk.seen c.args.disk.now in
    let mid = g.D.Disk.seen c.read_length.new.disk in
    let first = quiet_of tells old mid c.read_length.result c.read_length.ensures.only in
    subst (λ (l : List ℕ). 9 + c.in_ok-image.image ≤ length l) (bytes_same tells old mid mid first c.args.file told) (lies_inside (bytes_in old c.args.file) c.in_ok-image.image (c.in_ok-image.ensures.answer told))

pub returns-in_err-image : goal.returns-in_err-image
returns-in_err-image g c =
    let tells = g.D.Disk.tells in
    let old = g.D.Disk.seen c.args.disk.now in
    let new = g.D.Disk.seen c.read_length.new.disk in
    let fault = c.in_err-image.field-0.0 in
    as_fault (ReadsImage tells c.args.file c.args.base.now old new) c.from_residual.result fault c.from_residual.ensures.1 (record {
      answer = λ told. length_fault c.args.base.now (bytes_in old c.args.file) fault (c.in_err-image.ensures.answer told);
      some = tt;
      only = only_fault tells old new fault c.in_err-image.ensures.only;
    })

pub returns-in-Ok : goal.returns-in-Ok
returns-in-Ok g c =
    let tells = g.D.Disk.tells in
    let old = g.D.Disk.seen c.args.disk.now in
    let mid = g.D.Disk.seen c.read_length.new.disk in
    let new = g.D.Disk.seen c.begin_index.new.disk in
    let base = c.args.base.now in
    let first = quiet_of tells old mid c.read_length.result c.read_length.ensures.only in
    let both = quiet_then tells old mid new first (quiet_of tells mid new c.begin_index.result c.begin_index.ensures.only) in
    let image = c.in_ok-image.image in
    record {
      answer = λ told.
          let file = bytes_in old c.args.file in
          let has = c.in_ok-image.ensures.answer told in
          let same = bytes_same tells old mid new first c.args.file told in
          read_from base file image c.in-Ok.chain has
          (subst (λ (l : List ℕ). BeginAnswer base l (Ok c.in-Ok.chain)) (sym same) (c.in-Ok.ensures.answer told (subst (λ (l : List ℕ). HasLength l image) same has)));
      some = record { text = c.in-Ok.ensures.of_text.0; is_index = c.in-Ok.ensures.of_text.1; far = omega arith; near = omega (arith, c.in_ok-image.ensures.short) };
      only = only_ok tells old new both (c.in-Ok.chain, 8 + image) c.in-Ok.ensures.only.ends.worked (c.in-Ok.ensures.only.ends.none ∙ c.in_ok-image.ensures.only.ends.none);
    }

pub returns-in-Err : goal.returns-in-Err
returns-in-Err g c =
    let tells = g.D.Disk.tells in
    let old = g.D.Disk.seen c.args.disk.now in
    let mid = g.D.Disk.seen c.read_length.new.disk in
    let new = g.D.Disk.seen c.begin_index.new.disk in
    let base = c.args.base.now in
    let first = quiet_of tells old mid c.read_length.result c.read_length.ensures.only in
    let image = c.in_ok-image.image in
    let fault = c.in-Err.fault in
    record {
      answer = λ told.
          let same = bytes_same tells old mid new first c.args.file told in
          begin_fault base (bytes_in old c.args.file) fault
          (subst (λ (l : List ℕ). BeginAnswer base l (Err fault)) (sym same) (c.in-Err.ensures.answer told (subst (λ (l : List ℕ). HasLength l image) same (c.in_ok-image.ensures.answer told))));
      some = tt;
      only = only_fault tells old new fault (fault_then tells old mid new first fault c.in-Err.ensures.only);
    }
