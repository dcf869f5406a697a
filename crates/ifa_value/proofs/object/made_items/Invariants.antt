use Rattle.serde_json.specs.View.{view}
use Rattle.ifa_value.specs.Made.{AreMade}
use Rattle.ifa_value.specs.Values.{members_of}
use Rattle.ifa_value.proofs.object.made_items.Given as goal

abbrev pub invariant-loop-key : goal.invariant-loop-key
invariant-loop-key l = AreMade (members_of (view l.value)) l.made.items
