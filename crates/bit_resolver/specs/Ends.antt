-- Values of the code as definitions see them.
use Rattle.std.specs.Prelude.{◌≡◌, ℕ, List, ◌≤◌, drop, length, Some, None, true, false}
use Rattle.serde_json.specs.Data.{Members}
use Rattle.import_expand.specs.Sources.{Live}
use Rattle.import_expand.specs.Rooms.{IsNode}
use Rattle.import_expand.specs.declared.room.Room.{Room}
use Rattle.bit_resolver.specs.Places.{Below, Place, outside, apex, below, top_of}
use Rattle.ifa_value.specs.declared.item.Key.TheVariants as key
use Rattle.bit_resolver.specs.Nodes.{Node, node_at, rdata_at, target_at, is_nil}
use Rattle.bit_resolver.specs.Way.{missing, cut, moved, stop_on_way}
use Rattle.bit_resolver.specs.Answers.{Answer, Found, done, renamed}
use Rattle.bit_resolver.specs.declared.place.Below.{Below as BelowIn}
use Rattle.bit_resolver.specs.declared.place.Place.{Place as PlaceIn}
use Rattle.bit_resolver.specs.declared.place.Place.TheVariants as place_in
use Rattle.bit_resolver.specs.declared.node.Node.{Node as NodeIn}
use Rattle.bit_resolver.specs.declared.way.Stop.{Stop}
use Rattle.bit_resolver.specs.declared.way.Stop.TheVariants.{Free, Cut as CutHere, Moved as MovedHere}
use Rattle.bit_resolver.specs.declared.way.Walk.{Walk}
use Rattle.bit_resolver.specs.declared.way.Walk.TheVariants.{Arrived, Missing, Cut, Moved}
use Rattle.bit_resolver.specs.declared.resource.Sections.{Sections}
use Rattle.bit_resolver.specs.declared.resource.Asked.{Asked}
use Rattle.bit_resolver.specs.declared.resource.Asked.TheVariants.{Done, Renamed}

abbrev pub seen_below : BelowIn → Below
seen_below b = record { x = b.x; path = b.path.items }

abbrev pub seen_place : PlaceIn → Place
seen_place place_in.Outside = outside
seen_place place_in.Apex = apex
seen_place (place_in.Below b) = below (seen_below b)

-- the node whose sources have this number in a room
pub record ShowsNode (r : Room) (n : NodeIn) (m : Node) : Type 0 where
  pub own : m.own ≡ n.own
  pub top : m.top ≡ n.top.now
  pub of : IsNode r n.of m.of

-- what ends a way at a node above the name
abbrev pub Stops : Room → Node → Stop → Type 0
Stops r m Free = (is_nil (rdata_at key.Ns m) ≡ true) × (target_at key.Translate m ≡ None)
Stops r m (CutHere n) = (is_nil (rdata_at key.Ns m) ≡ false) × ShowsNode r n m
Stops r m (MovedHere n target) = (is_nil (rdata_at key.Ns m) ≡ true) × (target_at key.Translate m ≡ Some target) × ShowsNode r n m

-- that node stands below this name at the top
abbrev pub IsStopBelow : List ℕ → Stop → Type 0
IsStopBelow top Free = Unit
IsStopBelow top (CutHere n) = n.top.now ≡ top
IsStopBelow top (MovedHere n target) = n.top.now ≡ top

-- how a walk down to a name ends
abbrev pub Ends : Live → Room → Below → Members → Walk → Type 0
Ends live r b o (Arrived n) = (stop_on_way live o b b.path ≡ None) × ShowsNode r n (node_at live o b b.path)
Ends live r b o Missing = stop_on_way live o b b.path ≡ Some missing
Ends live r b o (Cut n left) = (stop_on_way live o b b.path ≡ Some (cut (drop left b.path))) × ShowsNode r n (node_at live o b (drop left b.path)) × (left ≤ length b.path)
Ends live r b o (Moved n left target) = (stop_on_way live o b b.path ≡ Some (moved (drop left b.path) target)) × ShowsNode r n (node_at live o b (drop left b.path)) × (left ≤ length b.path)

-- a node on the way stands below the name at the top
abbrev pub IsTop : Below → Walk → Type 0
IsTop b (Arrived n) = n.top.now ≡ top_of b
IsTop b Missing = Unit
IsTop b (Cut n left) = n.top.now ≡ top_of b
IsTop b (Moved n left target) = (n.top.now ≡ top_of b) × (left ≤ length b.path)

abbrev pub seen_sections : Sections → Answer
seen_sections s = record { answer = s.answer.items; authority = s.authority.items; rcode = s.rcode; aa = s.aa }

abbrev pub seen_asked : Asked → Found
seen_asked (Done s) = done (seen_sections s)
seen_asked (Renamed rs target) = renamed rs.items target
