use Rattle.std.proofs.Common.{◌≡◌, sym, subst}
use Rattle.std.proofs.lemmas.List.Elements.{All-push}
use Rattle.serde_json.specs.View.{view}
use Rattle.ifa_value.specs.Elements.{elements_of}
use Rattle.ifa_value.specs.Made.{AreMade}
use Rattle.ifa_value.specs.Values.{members_of}
use Rattle.ifa_value.specs.declared.made.MadeItem.{MadeItem}
use Rattle.ifa_value.proofs.object.add_made.Goals as goal

pub returns-in_ok-push : goal.returns-in_ok-push
returns-in_ok-push c are =
    let ms = members_of (view c.args.value.now) in
    let x : MadeItem = record { key = c.args.key; elements = c.in_ok-elements.elements } in
    subst (AreMade ms) (sym c.in_ok-push.ensures.items) (All-push (λ m. m.elements.items ≡ elements_of m.key ms) c.args.into.now.items x are c.in_ok-elements.ensures)
