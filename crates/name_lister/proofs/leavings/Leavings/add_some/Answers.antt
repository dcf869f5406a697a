use Rattle.name_lister.proofs.LeavingLemmas.{total_grows}
use Rattle.name_lister.proofs.leavings.Leavings.add_some.Goals as goal

pub returns-in-Some : goal.returns-in-Some
returns-in-Some c = total_grows c.args.self.now c.add.new.self c.in-Some.leaving c.add.ensures.room c.add.ensures.full
