-- Going down the way.
use Rattle.std.proofs.Common.{◌≡◌, ℕ, zero, suc, ◌+◌, ◌-◌, ◌<◌, ◌≤◌, List, [], ◌∷◌, ◌++◌, length, take, drop, get_or, Some, None, true, false, refl, sym, ap, ◌∙◌, arith, drop-cons}
use Rattle.std.specs.Option.{option_map}
use Rattle.std.proofs.lemmas.List.{take-append-drop, length-drop}
use Rattle.std.proofs.lemmas.Grind.{common_steps}
use Rattle.serde_json.specs.Data.{Members}
use Rattle.ifa_value.specs.declared.item.Key.TheVariants as key
use Rattle.import_expand.specs.Sources.{Live, node, child_of}
use Rattle.bit_resolver.specs.Places.{Below, own_of, top_of}
use Rattle.bit_resolver.specs.Nodes.{Node, node_at, rdata_at, target_at, is_nil}
use Rattle.bit_resolver.specs.Ends.{ShowsNode, Ends, Stops}
use Rattle.bit_resolver.specs.declared.way.Stop.{Stop as StopIn}
use Rattle.bit_resolver.specs.declared.way.Stop.TheVariants.{Free}
use Rattle.bit_resolver.specs.declared.way.Walk.{Walk}
use Rattle.import_expand.specs.Rooms.{IsNode, IsPlain}
use Rattle.import_expand.specs.declared.room.Room.{Room}
use Rattle.bit_resolver.specs.declared.node.Node.{Node as NodeIn}
use Rattle.bit_resolver.specs.Way.{Stop, missing, cut, moved, or_else, stop_with, stop_here, stop_above, stop_before, stop_on_way, if_missing}

stop_above-is : (live : Live) (o : Members) (b : Below) (at : List (List ℕ)) → stop_above live o b at ≡ or_else (stop_before live o b at) (stop_here live o b at)
stop_above-is live o b [] = refl
stop_above-is live o b (label ∷ above) = refl

-- a stop stays where more labels are put below
kept : (live : Live) (o : Members) (b : Below) (front at : List (List ℕ)) (s : Stop) → stop_above live o b at ≡ Some s → stop_above live o b (front ++ at) ≡ Some s
kept live o b [] at s h = h
kept live o b (label ∷ front) at s h = ap (λ r. or_else r (stop_here live o b (label ∷ (front ++ at)))) (kept live o b front at s h)

before_kept : (live : Live) (o : Members) (b : Below) (front at : List (List ℕ)) (s : Stop) → 0 < length front → stop_above live o b at ≡ Some s → stop_before live o b (front ++ at) ≡ Some s
before_kept live o b [] at s l h = absurd (omega arith)
before_kept live o b (label ∷ front) at s l h = kept live o b front at s h

-- the stop at a part of the way is the stop of the whole
whole : (live : Live) (o : Members) (b : Below) (labels : List (List ℕ)) (k : ℕ) (s : Stop) → 0 < k → k ≤ length labels → stop_before live o b (drop k labels) ≡ None → stop_here live o b (drop k labels) ≡ Some s → stop_on_way live o b labels ≡ Some s
whole live o b labels k s pos le none here =
    let at : stop_above live o b (drop k labels) ≡ Some s = stop_above-is live o b (drop k labels) ∙ ap (λ r. or_else r (stop_here live o b (drop k labels))) none ∙ here in
    let long : 0 < length (take k labels) = grind (arith, common_steps) in
    let joined : take k labels ++ drop k labels ≡ labels = take-append-drop k labels in
    ap (λ l. or_else (stop_before live o b l) (if_missing (node live o labels))) (sym joined)
    ∙ ap (λ r. or_else r (if_missing (node live o labels))) (before_kept live o b (take k labels) (drop k labels) s long at)

stop_cut : (at : List (List ℕ)) (n : Node) → is_nil n.of ≡ false → is_nil (rdata_at key.Ns n) ≡ false → stop_with at n ≡ Some (cut at)
stop_cut at n some servers = rw some (rw servers refl)

stop_moved : (at : List (List ℕ)) (n : Node) (t : List ℕ) → is_nil n.of ≡ false → is_nil (rdata_at key.Ns n) ≡ true → target_at key.Translate n ≡ Some t → stop_with at n ≡ Some (moved at t)
stop_moved at n t some servers target = rw some (rw servers (ap (option_map (moved at)) target))

stop_none : (at : List (List ℕ)) (n : Node) → is_nil n.of ≡ false → is_nil (rdata_at key.Ns n) ≡ true → target_at key.Translate n ≡ None → stop_with at n ≡ None
stop_none at n some servers target = rw some (rw servers (ap (option_map (moved at)) target))

not_missing : (of : List Members) → is_nil of ≡ false → if_missing of ≡ None
not_missing of n = rw n refl

-- the walk has come to the node of the labels from `left` on
pub record OnWay (live : Live) (o : Members) (b : Below) (left : ℕ) (here : Node) : Type 0 where
  pub within : left ≤ length b.path
  pub is_node : here ≡ node_at live o b (drop left b.path)
  pub exists : is_nil here.of ≡ false
  pub free : stop_before live o b (drop left b.path) ≡ None

pub ends_cut : (live : Live) (o : Members) (b : Below) (left : ℕ) (here : Node) → OnWay live o b left here → 0 < left → is_nil (rdata_at key.Ns here) ≡ false
    → stop_on_way live o b b.path ≡ Some (cut (drop left b.path))
ends_cut live o b left here on pos servers =
    whole live o b b.path left _ pos on.within on.free (ap (stop_with (drop left b.path)) (sym on.is_node) ∙ stop_cut (drop left b.path) here on.exists servers)

pub ends_moved : (live : Live) (o : Members) (b : Below) (left : ℕ) (here : Node) (t : List ℕ) → OnWay live o b left here → 0 < left → is_nil (rdata_at key.Ns here) ≡ true → target_at key.Translate here ≡ Some t
    → stop_on_way live o b b.path ≡ Some (moved (drop left b.path) t)
ends_moved live o b left here t on pos servers target =
    whole live o b b.path left _ pos on.within on.free (ap (stop_with (drop left b.path)) (sym on.is_node) ∙ stop_moved (drop left b.path) here t on.exists servers target)

-- one label further down
further : (live : Live) (o : Members) (b : Below) (left next : ℕ) (here below : Node) → OnWay live o b left here → next + 1 ≡ left → is_nil (rdata_at key.Ns here) ≡ true → target_at key.Translate here ≡ None
    → below ≡ record { own = own_of b (drop next b.path); top = here.top; of = child_of live here.of (get_or b.path next []) }
    → (stop_before live o b (drop next b.path) ≡ None) × (below ≡ node_at live o b (drop next b.path))
further live o b left next here below on step servers target is =
    let inside : next < length b.path = omega (arith, on.within) in
    let e : suc next ≡ left = omega arith in
    let front : drop next b.path ≡ get_or b.path next [] ∷ drop left b.path = drop-cons b.path next [] inside ∙ ap (λ k. get_or b.path next [] ∷ drop k b.path) e in
    let stays : stop_above live o b (drop left b.path) ≡ None = stop_above-is live o b (drop left b.path) ∙ ap (λ r. or_else r (stop_here live o b (drop left b.path))) on.free ∙ ap (stop_with (drop left b.path)) (sym on.is_node) ∙ stop_none (drop left b.path) here on.exists servers target in
    let of : child_of live here.of (get_or b.path next []) ≡ node live o (drop next b.path) = ap (λ n. child_of live n.of (get_or b.path next [])) on.is_node ∙ ap (node live o) (sym front) in (
      ap (stop_before live o b) front ∙ stays,
      is ∙ ap (λ n. record { own = own_of b (drop next b.path); top = n.top; of = child_of live here.of (get_or b.path next []) }) on.is_node ∙ ap (λ s. record { own = own_of b (drop next b.path); top = top_of b; of = s }) of,
    )

pub next_node : (live : Live) (o : Members) (b : Below) (left next : ℕ) (here below : Node) → OnWay live o b left here → next + 1 ≡ left → is_nil (rdata_at key.Ns here) ≡ true → target_at key.Translate here ≡ None
    → below ≡ record { own = own_of b (drop next b.path); top = here.top; of = child_of live here.of (get_or b.path next []) } → (length below.of ≡ 0 → ⊥) → OnWay live o b next below
next_node live o b left next here below on step servers target is some =
    let f = further live o b left next here below on step servers target is in
    record { within = omega (arith, on.within); is_node = f.1; exists = some_of_length below.of some; free = f.0 }
  where
    some_of_length : {A : Type 0} (xs : List A) → (length xs ≡ 0 → ⊥) → is_nil xs ≡ false
    some_of_length [] h = absurd (h refl)
    some_of_length (x ∷ xs) h = refl

nil_of_length : {A : Type 0} (xs : List A) → length xs ≡ 0 → xs ≡ []
nil_of_length [] h = refl
nil_of_length (x ∷ xs) h = absurd (omega arith)

ends_at : (live : Live) (o : Members) (b : Below) (next : ℕ) → next ≤ length b.path → stop_before live o b (drop next b.path) ≡ None → node live o (drop next b.path) ≡ [] → stop_on_way live o b b.path ≡ Some missing
ends_at live o b zero le none empty = ap (λ r. or_else r (if_missing (node live o b.path))) none ∙ ap if_missing empty
ends_at live o b (suc next) le none empty = whole live o b b.path (suc next) missing (omega arith) le none (ap (λ s. stop_with (drop (suc next) b.path) (record { own = own_of b (drop (suc next) b.path); top = top_of b; of = s })) empty)

pub ends_missing : (live : Live) (o : Members) (b : Below) (left next : ℕ) (here below : Node) → OnWay live o b left here → next + 1 ≡ left → is_nil (rdata_at key.Ns here) ≡ true → target_at key.Translate here ≡ None
    → below ≡ record { own = own_of b (drop next b.path); top = here.top; of = child_of live here.of (get_or b.path next []) } → length below.of ≡ 0 → stop_on_way live o b b.path ≡ Some missing
ends_missing live o b left next here below on step servers target is none =
    let f = further live o b left next here below on step servers target is in
    ends_at live o b next (omega (arith, on.within)) f.0 (ap (λ n. n.of) (sym f.1) ∙ nil_of_length below.of none)

pub at_top : (labels : List (List ℕ)) → drop (length labels) labels ≡ []
at_top [] = refl
at_top (label ∷ labels) = at_top labels

-- the walk begins at the name's node, which has the object itself as a source
pub starts : (live : Live) (o : Members) (b : Below) (left : ℕ) (here : Node) → here ≡ node_at live o b [] → left ≡ length b.path → OnWay live o b left here
starts live o b left here is all =
    let top : drop left b.path ≡ [] = ap (λ n. drop n b.path) all ∙ at_top b.path in
    record { within = omega arith; is_node = is ∙ sym (ap (node_at live o b) top); exists = ap (λ n. is_nil n.of) is; free = ap (stop_before live o b) top }

-- the walk has come to the name
pub ends_here : (live : Live) (o : Members) (b : Below) (left : ℕ) (here : Node) → OnWay live o b left here → left ≡ 0 → (stop_on_way live o b b.path ≡ None) × (here ≡ node_at live o b b.path)
ends_here live o b left here on none =
    let all : drop left b.path ≡ b.path = ap (λ n. drop n b.path) none in
    let is : here ≡ node_at live o b b.path = on.is_node ∙ ap (node_at live o b) all in
    let some : is_nil (node live o b.path) ≡ false = sym (ap (λ n. is_nil n.of) is) ∙ on.exists in
    (ap (λ r. or_else r (if_missing (node live o b.path))) (sym (ap (stop_before live o b) all) ∙ on.free) ∙ not_missing (node live o b.path) some, is)

-- how many labels stand below a node on the way
pub take-below : {A : Type 0} (xs : List A) (left : ℕ) → left ≤ length xs → take (length xs - length (drop left xs)) xs ≡ take left xs
take-below xs left le = ap (λ n. take n xs) (omega (arith, length-drop left xs))

-- the node of the labels from `left` on, by its own name
pub at_node : (live : Live) (o : Members) (b : Below) (left : ℕ) (here : Node) → OnWay live o b left here → OnWay live o b left (node_at live o b (drop left b.path))
at_node live o b left here on = record { within = on.within; is_node = refl; exists = sym (ap (λ n. is_nil n.of) on.is_node) ∙ on.exists; free = on.free }

pub shows_node : (r : Room) (n : NodeIn) (x y : Node) → x ≡ y → ShowsNode r n x → ShowsNode r n y
shows_node r n x y e h = rw (sym e) h

pub is_node_by : (r : Room) (k : ℕ) (x y : Node) → x ≡ y → IsNode r k x.of → IsNode r k y.of
is_node_by r k x y e h = rw (sym e) h

pub stops_is : (r : Room) (m : Node) (s t : StopIn) → s ≡ t → Stops r m s → Stops r m t
stops_is r m s t e h = rw (sym e) h

-- nothing ends a way at a node whose sources have no item that may
pub plain_is_free : (r : Room) (m : Node) → IsPlain m.of → Stops r m Free
plain_is_free r m plain = (rw plain.ns refl, rw plain.translate refl)

pub ends_is : (live : Live) (r : Room) (b : Below) (o : Members) (w v : Walk) → w ≡ v → Ends live r b o w → Ends live r b o v
ends_is live r b o w v e h = rw (sym e) h
