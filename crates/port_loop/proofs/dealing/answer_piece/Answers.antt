use Rattle.byte_io.specs.Port.{IsBound}
use Rattle.frame_loop.proofs.DeskLemmas.{still_takes}
use Rattle.port_loop.specs.Attending.{waits, closes}
use Rattle.port_loop.specs.Sends.{bound_behind}
use Rattle.port_loop.proofs.dealing.answer_piece.Goals as goal

pub drop_feed-requires : goal.drop_feed-requires
drop_feed-requires g c = still_takes IsBound bound_behind c.in-Bad.ensures.answered.given c.requires.bound

pub returns-in-Partial : goal.returns-in-Partial
returns-in-Partial g c = waits c.in-Partial.ensures

pub returns-in-Bad : goal.returns-in-Bad
returns-in-Bad g c = closes (g.P.Port.seen c.answer_all.new.outlet) c.answer_all.new.frames c.in-Bad.field-0 c.in-Bad.ensures c.drop_feed.ensures.closed c.drop_feed.ensures.forgotten
