use Rattle.std.proofs.Common.{ap, ◌∙◌}
use Rattle.undo_records.specs.declared.version.Version.TheVariants.{Two}
use Rattle.image_grammar.specs.Text.{image_text}
use Rattle.name_tables.specs.Tables.{maps_by}
use Rattle.sliced_save.specs.Mirror.{Mirrored, mirror_image}
use Rattle.sliced_save.proofs.StateLemmas.{read_again, state_text}
use Rattle.sliced_save.proofs.mirror.Mirror.begin.Goals as goal

pub returns-clause-text : goal.returns-clause-text
returns-clause-text c index mirror =
    state_text c.args.self.now index.base index.undos (maps_by index.tables) c.of.result.text (c.of.ensures.text ∙ ap (λ (m : Mirrored). image_text Two (mirror_image m)) c.in_ok-mirror.ensures) c.keeps.ensures mirror

pub returns-clause-again : goal.returns-clause-again
returns-clause-again c index indexed mirror =
    read_again c.args.self.now index.base index.tip.height index.undos (maps_by index.tables) c.of.result.text
    (c.of.ensures.text ∙ ap (λ (m : Mirrored). image_text Two (mirror_image m)) c.in_ok-mirror.ensures) c.keeps.ensures mirror indexed.sound
