use Rattle.std.proofs.Common.{ℕ, List, refl, sym, ◌∙◌, ap, subst, rules, arith}
use Rattle.disk_model.specs.Moments.{start}
use Rattle.disk_model.specs.DiskSeen.{bytes_in}
use Rattle.image_files.specs.Fronts.{behind_length}
use Rattle.image_files.specs.Reading.{IndexAnswer}
use Rattle.image_files.proofs.LoadedLemmas.{of_some_text, fed_fault_index}
use Rattle.image_files.proofs.OnlyLemmas.{quiet_of, only_since, only_fault}
use Rattle.image_files.proofs.loading.load_index.Goals as goal

pub returns-in_err-loader : goal.returns-in_err-loader
returns-in_err-loader g c = record {
  of_text = search rules;
  answer = search rules;
  only = record { unchanged = λ told. start refl; ends = search rules; reads = refl };
}

pub end_loading-requires : goal.end_loading-requires
end_loading-requires g c = let has = c.in-Ok.ensures.has_fed in record {
  all = c.in-Ok.ensures.all ∙ sym c.in-Ok.ensures.total;
  few = omega (arith, c.in-Ok.ensures.total, c.requires.few);
  read = (has.text, has.read);
}

pub returns-in-Ok : goal.returns-in-Ok
returns-in-Ok g c =
    let tells = g.D.Disk.tells in
    let old = g.D.Disk.seen c.args.disk.now in
    let new = g.D.Disk.seen c.feed_image.new.disk in
    let file = bytes_in old c.args.file in
    let has = c.in-Ok.ensures.has_fed in
    let answer = c.end_loading.ensures.answer has.text has.read in
    record {
      of_text = of_some_text c.args.base.now has.text c.end_loading.result answer;
      answer = λ told.
          subst (λ (text : List ℕ). IndexAnswer c.args.base.now text c.end_loading.result) (has.is_front told ∙ ap (λ (k : ℕ). behind_length k file) c.in-Ok.ensures.all) answer;
      only = only_since tells old new (quiet_of tells old new c.feed_image.result c.feed_image.ensures.only) c.end_loading.result c.in-Ok.ensures.only.ends.worked c.in-Ok.ensures.only.ends.none c.end_loading.ensures.no_disk;
    }

pub returns-in-Err : goal.returns-in-Err
returns-in-Err g c =
    let tells = g.D.Disk.tells in
    let old = g.D.Disk.seen c.args.disk.now in
    let new = g.D.Disk.seen c.feed_image.new.disk in
    let file = bytes_in old c.args.file in
    record {
      of_text = tt;
      answer = λ told. fed_fault_index (Unit {0}) c.args.base.now (behind_length c.args.image file) c.in-Err.fault (c.in-Err.ensures.answer told);
      only = only_fault tells old new c.in-Err.fault c.in-Err.ensures.only;
    }
