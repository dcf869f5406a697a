use Rattle.std.proofs.Common.{reverse, sym, ◌∙◌}
use Rattle.chain_names.specs.Seen.{seen_undo}
use Rattle.sliced_save.specs.Mirror.{maps_at}
use Rattle.sliced_save.proofs.UndoLemmas.{below_newest, below_none}
use Rattle.sliced_save.proofs.back.undo_newest.Goals as goal

pub returns-in_ok-undo_block-in-Some-clause-maps : goal.returns-in_ok-undo_block-in-Some-clause-maps
returns-in_ok-undo_block-in-Some-clause-maps g c =
    c.in_ok-undo_block-in-Some.ensures.maps ∙ sym (below_newest (reverse c.args.undos.now) (seen_undo c.in-Some.undo.now) (maps_at c.args.coins.now c.args.names.now) c.in-Some.ensures.undo)

pub returns-in-None-clause-maps : goal.returns-in-None-clause-maps
returns-in-None-clause-maps g c = sym (below_none (reverse c.args.undos.now) (maps_at c.args.coins.now c.args.names.now) c.in-None.ensures.undo)
