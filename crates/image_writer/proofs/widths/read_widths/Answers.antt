use Rattle.std.proofs.Common.{subst}
use Rattle.std.specs.List.{AllByRecursion}
use Rattle.image_writer.specs.Whole.{IsWide}
use Rattle.image_writer.proofs.WholeLemmas.{all_measured}
use Rattle.image_writer.proofs.widths.read_widths.Goals as goal

pub returns : goal.returns
returns c = record {
  hash = c.read_hash.ensures;
  undos_are = all_measured c.args.parts.now.undos.items (subst (AllByRecursion IsWide) c.as_slice.ensures c.read_undos.ensures);
  maps_are = record { coins = c.widths.ensures; items = c.widths-2.ensures };
}
