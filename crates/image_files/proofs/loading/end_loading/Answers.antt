use Rattle.std.proofs.Common.{◌≡◌, sym, subst, ◌∙◌, arith}
use Rattle.std.specs.Prelude.{Err}
use Rattle.image_files.specs.declared.fault.ReadFault.{ReadFault}
use Rattle.image_files.specs.declared.fault.ReadFault.TheVariants.{DiskFault}
use Rattle.image_files.specs.Reading.{IndexAnswer}
use Rattle.image_files.proofs.FeedLemmas.{end_place}
use Rattle.image_files.proofs.LoadedLemmas.{loaded_index, no_disk_fault, ended_fault, not_of_disk}
use Rattle.image_files.proofs.loading.end_loading.Goals as goal

pub chain_on-requires : goal.chain_on-requires
chain_on-requires c = let read = c.requires.read in (c.in-Ok.ensures.whole read.0 read.1).parts_are

pub returns-in-Ok : goal.returns-in-Ok
returns-in-Ok c = record {
  answer = λ text has. loaded_index c.args.base.now text c.in-Ok.read c.in-Ok.parts c.chain_on.result (c.in-Ok.ensures.whole text has) c.chain_on.ensures;
  no_disk = no_disk_fault c.args.base.now c.in-Ok.read c.in-Ok.parts c.chain_on.result c.chain_on.ensures;
}

pub of_image-requires : goal.of_image-requires
of_image-requires c =
    let read = c.requires.read in end_place read.0 c.in-Err.fault (omega (arith, read.1.fed, c.requires.all, c.requires.few)) (c.in-Err.ensures.whole read.0 read.1)

pub returns-in-Err : goal.returns-in-Err
returns-in-Err c = record {
  answer = λ text has.
      subst (λ (f : ReadFault). IndexAnswer c.args.base.now text (Err f)) (sym c.of_image.ensures) (ended_fault c.args.base.now text c.in-Err.fault (c.in-Err.ensures.whole text has));
  no_disk = λ same. let is : c.of_image.result ≡ DiskFault = cc in not_of_disk c.in-Err.fault (sym c.of_image.ensures ∙ is);
}
