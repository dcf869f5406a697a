use Rattle.std.proofs.Common.{◌≡◌, ◌++◌, drop}
use Rattle.std.specs.Option.{option_map}
use Rattle.serde_json.specs.View.{items_view}
use Rattle.ifa_value.specs.Shapes.{texts}
use Rattle.ifa_value.proofs.text.texts.Given as goal

abbrev pub invariant-loop-value : goal.invariant-loop-value
invariant-loop-value l = option_map (λ more. l.out ++ more) (texts (items_view (drop l.value-index l.values))) ≡ texts (items_view l.values)
