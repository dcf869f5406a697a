use Rattle.name_tables.specs.Tables.{maps_by}
use Rattle.sliced_save.proofs.StateLemmas.{state_length}
use Rattle.sliced_save.proofs.mirror.Mirror.text_len.Goals as goal

pub returns-clause-state : goal.returns-clause-state
returns-clause-state c index text mirror is = state_length c.args.self.now index.base index.undos (maps_by index.tables) text c.counted.result c.counted.ensures c.keeps.ensures mirror is
