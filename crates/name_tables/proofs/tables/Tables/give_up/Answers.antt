use Rattle.name_tables.proofs.ClearLemmas.{up_named}
use Rattle.name_tables.proofs.tables.Tables.give_up.Goals as goal

pub returns-in-Named-clause-up : goal.returns-in-Named-clause-up
returns-in-Named-clause-up g c =
    up_named c.args.self.now c.unplace.new.self c.unplace-in-Named.new.self c.args.at.now c.args.coin.now _ _ c.in-Named.is
    (record { same = c.unplace.ensures.coins; places = c.unplace.ensures.places })
    (record { same = c.unplace-in-Named.ensures.queued; places = c.unplace-in-Named.ensures.places })
