use Rattle.std.proofs.Common.{◌≤◌, length, refl, arith}
use Rattle.disk_model.specs.Moments.{start}
use Rattle.chain_commands.specs.Saving.{longest_image}
use Rattle.name_store.specs.Starting.{IsStartImage}
use Rattle.name_store.proofs.StartLemmas.{start_has}
use Rattle.name_store.proofs.starting_area.make_start_image.Goals as goal

pub returns-in_err-text-clause-others : goal.returns-in_err-text-clause-others
returns-in_err-text-clause-others g c = λ tells. start (λ other differ. refl)

pub returns-clause-made : goal.returns-clause-made
returns-clause-made g c = λ tells start is.
    let image : IsStartImage c.args.base.now c.args.parts.now c.in_ok-text.text c.in_ok-text.size = c.in_ok-text.ensures in
    let has = c.in_ok-make_image.ensures.made tells in
    let short : length c.in_ok-text.text ≤ longest_image = omega (arith, image.short, image.size_is) in
    record {
      text = c.in_ok-text.text;
      has_text = start_has c.args.base.now start c.args.parts.now is c.requires.low c.requires.makes c.in_ok-text.text image.is_text short;
      area = record { settled = has.settled; are = has.bytes };
    }
