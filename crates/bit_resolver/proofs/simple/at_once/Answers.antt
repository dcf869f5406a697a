use Rattle.std.proofs.Common.{◌≡◌, [], ap, ◌∙◌, Some, arith}
use Rattle.serde_json.specs.Data.{Members}
use Rattle.ifa_value.specs.Object.{members}
use Rattle.import_expand.specs.Books.{IsAt}
use Rattle.import_expand.specs.Rooms.{objects_in}
use Rattle.import_expand.specs.Sources.{Live}
use Rattle.bit_resolver.specs.Answers.{by_value, in_zone}
use Rattle.bit_resolver.specs.Nodes.{lone}
use Rattle.bit_resolver.specs.Ends.{seen_asked, seen_below}
use Rattle.bit_resolver.specs.declared.zone.Zone.{Zone}
use Rattle.bit_resolver.proofs.SimpleLemmas.{if_found, lone_answer, no_labels}
use Rattle.bit_resolver.proofs.simple.at_once.Goals as goal

pub returns-then-has : goal.returns-then-has
returns-then-has c =
    let b = seen_below c.args.name.now in
    let z = c.args.zone.now in
    let top : b.path ≡ [] = no_labels b.path (omega arith) in
    if_found (λ a. (y : Zone) → seen_asked a ≡ in_zone y (lone b (members c.in-Some.object.now)) c.args.kind)
    (λ a. (live : Live) (o : Members) → IsAt (objects_in c.args.room.now) c.args.at o → seen_asked a ≡ by_value live z b c.args.kind (Some o))
    c.by_alias.result
    (λ a p live o at. p z ∙ ap (λ m. in_zone z (lone b m) c.args.kind) (c.in-Some.ensures o at).0 ∙ lone_answer live z b c.args.kind o top (c.in-Some.ensures o at).1)
    c.by_alias.ensures

pub returns : goal.returns
returns c =
    let b = seen_below c.args.name.now in
    let z = c.args.zone.now in
    let top : b.path ≡ [] = no_labels b.path (omega arith) in
    if_found (λ a. seen_asked a ≡ in_zone z (lone b (members c.in-Some.object.now)) c.args.kind)
    (λ a. (live : Live) (o : Members) → IsAt (objects_in c.args.room.now) c.args.at o → seen_asked a ≡ by_value live z b c.args.kind (Some o))
    c.by_records.result
    (λ a p live o at. p ∙ ap (λ m. in_zone z (lone b m) c.args.kind) (c.in-Some.ensures o at).0 ∙ lone_answer live z b c.args.kind o top (c.in-Some.ensures o at).1)
    c.by_records.ensures
