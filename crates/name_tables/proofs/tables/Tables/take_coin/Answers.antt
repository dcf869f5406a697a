use Rattle.std.proofs.Common.{refl, sym}
use Rattle.name_tables.proofs.TableLemmas.{taken_none}
use Rattle.name_tables.proofs.tables.Tables.take_coin.Goals as goal

pub returns-in-None-clause-taken : goal.returns-in-None-clause-taken
returns-in-None-clause-taken g c =
    record { coins = c.take.ensures.coins; places = c.take.ensures.places; names = refl; queue = taken_none _ _ _ _ c.requires.queue (sym c.in-None.ensures.value) c.take.ensures.coins; rows = refl }
