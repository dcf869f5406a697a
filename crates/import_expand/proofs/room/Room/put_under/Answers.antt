use Rattle.import_expand.proofs.RoomLemmas.{keeps_both, same_node}
use Rattle.import_expand.proofs.room.Room.put_under.Goals as goal

pub returns-clause-at : goal.returns-clause-at
returns-clause-at c ns shown = same_node c.put_below-2.new.self c.keep_alike.new.self c.in_ok-at.at ns c.in_ok-keep_alike.ensures.objects c.in_ok-keep_alike.ensures.nodes (c.in_ok-at.ensures.at ns shown)

pub returns-clause-keeps : goal.returns-clause-keeps
returns-clause-keeps c ns shown = keeps_both c.args.self.now c.put_below-2.new.self c.keep_alike.new.self (c.in_ok-at.ensures.keeps ns shown) c.in_ok-keep_alike.ensures.keeps
