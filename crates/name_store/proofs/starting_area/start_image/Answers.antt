use Rattle.std.proofs.Common.{◌+◌, ◌≤◌, length, arith}
use Rattle.chain_commands.specs.Saving.{longest_image}
use Rattle.image_files.specs.SavingIndex.{IsTextOfIndex}
use Rattle.name_store.specs.Starting.{start_index}
use Rattle.name_store.proofs.StartLemmas.{index_sound, image_size}
use Rattle.name_store.proofs.starting_area.start_image.Goals as goal

pub image_text-requires-clause-sound : goal.image_text-requires-clause-sound
image_text-requires-clause-sound c = (c.args.base.now.height + 0, index_sound c.args.base.now c.requires.start.0 c.args.parts.now c.requires.start.1 c.requires.low)

pub returns : goal.returns
returns c =
    let base = c.args.base.now in
    let parts = c.args.parts.now in
    let is_text : IsTextOfIndex (start_index base parts) c.in_ok-text.text = record { is_text = c.in_ok-text.ensures.text; again = c.in_ok-text.ensures.again } in
    let short : length c.in_ok-text.text ≤ longest_image = image_size base c.requires.start.0 parts c.requires.start.1 c.requires.low c.requires.short c.in_ok-text.text is_text in
    record {
      is_text = is_text;
      size_is = omega (arith, short, c.image_len.ensures c.in_ok-text.text c.in_ok-text.ensures.text);
      short = omega (arith, short, c.image_len.ensures c.in_ok-text.text c.in_ok-text.ensures.text);
    }
