use Rattle.states_below.specs.Undoing.{maps_below}
use Rattle.states_below.proofs.DecideLemmas.{decided, undecided}
use Rattle.states_below.proofs.below.Below.is_walk.Goals as goal

pub returns : goal.returns
returns c =
    decided c.args.profile c.args.base c.args.tip c.args.undos.now (maps_below c.args.self.now) (maps_below c.walk_down.new.self) c.in_ok-walk_down.field-0 c.at_bottom.result
    c.in_ok-walk_down.ensures.walks c.if-not-branch.false c.at_bottom.ensures

pub returns-then-not-branch : goal.returns-then-not-branch
returns-then-not-branch c =
    undecided c.args.profile c.args.base c.args.tip c.args.undos.now (maps_below c.args.self.now) (maps_below c.walk_down.new.self) c.in_ok-walk_down.field-0
    c.in_ok-walk_down.ensures.walks c.if-not-branch.true
