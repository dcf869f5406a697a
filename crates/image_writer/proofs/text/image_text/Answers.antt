use Rattle.std.proofs.Common.{◌++◌, ap, subst, sym, arith, ◌∙◌}
use Rattle.std.specs.List.{AllByRecursion}
use Rattle.image_grammar.specs.Text.{head_text}
use Rattle.undo_records.specs.declared.version.Version.TheVariants.{Two}
use Rattle.image_writer.specs.Left.{undos_left, IsWithin}
use Rattle.image_writer.proofs.WholeLemmas.{all_short, sound_within, is_text, is_read_again}
use Rattle.image_writer.proofs.text.image_text.Goals as goal

pub returns : goal.returns
returns c =
    let text = is_text c.args.base.now c.args.parts.now c.in_ok-listed.listed c.as_slice-undos.result.now c.put_head.new.page c.put_count.new.page c.in_ok-listed.ensures c.as_slice-undos.ensures
    (c.put_head.ensures.text ∙ ap (λ t. t ++ head_text Two c.args.base.now) c.new-page.ensures) c.put_count.ensures.text in
    record {
      text = text;
      again = is_read_again c.args.base.now c.requires.sound.0 c.args.parts.now (c.put_count.new.page ++ undos_left c.in_ok-listed.listed c.as_slice-undos.result.now) text c.read_widths.ensures c.requires.sound.1;
    }

pub invariant_of-result : goal.invariant_of-result
invariant_of-result c = (
  omega arith,
  all_short c.args.base.now c.requires.sound.0 c.args.parts.now c.in_ok-listed.listed c.requires.sound.1 c.in_ok-listed.ensures,
  subst (AllByRecursion IsWithin) (sym c.as_slice-undos.ensures) (sound_within c.args.base.now c.requires.sound.0 c.args.parts.now c.requires.sound.1),
)
