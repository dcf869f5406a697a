-- The way down to a name, label by label (RFC 1034, 4.3.2, step 3). Labels stand lowest first, as in a domain name.
use Rattle.std.specs.Prelude.{ℕ, if◌then◌else◌, List, [], ◌∷◌, Option, Some, None}
use Rattle.std.specs.Option.{option_map}
use Rattle.serde_json.specs.Data.{Members}
use Rattle.ifa_value.specs.declared.item.Key.TheVariants as key
use Rattle.import_expand.specs.Sources.{Live, node}
use Rattle.bit_resolver.specs.Places.{Below}
use Rattle.bit_resolver.specs.Nodes.{Node, node_at, rdata_at, target_at, is_nil}

-- What ends the way: there is no node (step 3c); a cut, where other servers have authority (step 3b); or a node with a DNAME
-- (RFC 6672, 3.2), with the name that it gives. The latter two tell the labels of the node.
pub data Stop : Type 0 where
  missing : Stop
  cut : List (List ℕ) → Stop
  moved : List (List ℕ) → List ℕ → Stop

-- what ends the way at a node, if more labels follow
abbrev pub stop_with : List (List ℕ) → Node → Option Stop
stop_with at n =
    if is_nil n.of then Some missing
    else if is_nil (rdata_at key.Ns n) then option_map (moved at) (target_at key.Translate n)
    else Some (cut at)

abbrev pub stop_here : Live → Members → Below → List (List ℕ) → Option Stop
stop_here live o b at = stop_with at (node_at live o b at)

abbrev pub or_else : {A : Type 0} → Option A → Option A → Option A
or_else (Some x) y = Some x
or_else None y = y

-- the first stop on the way down to this node, itself included
abbrev pub stop_above : Live → Members → Below → List (List ℕ) → Option Stop
stop_above live o b [] = stop_here live o b []
stop_above live o b (label ∷ above) = or_else (stop_above live o b above) (stop_here live o b (label ∷ above))

-- the first stop above this node
abbrev pub stop_before : Live → Members → Below → List (List ℕ) → Option Stop
stop_before live o b [] = None
stop_before live o b (label ∷ above) = stop_above live o b above

abbrev pub if_missing : List Members → Option Stop
if_missing of = if is_nil of then Some missing else None

-- what ends the way to a node: the first stop above it, or that it isn't there
abbrev pub stop_on_way : Live → Members → Below → List (List ℕ) → Option Stop
stop_on_way live o b at = or_else (stop_before live o b at) (if_missing (node live o at))
