-- What a room remembers, where it grows.
use Rattle.std.proofs.Common.{◌≡◌, ℕ, ◌+◌, zero, suc, ◌<◌, ◌≤◌, List, [], ◌∷◌, ◌++◌, length, map, slice_get, get_or, Some, None, true, false, nat_lt, All, refl, sym, ap, subst, ◌∙◌, arith}
use Rattle.std.proofs.lemmas.List.{map-append}
use Rattle.std.proofs.lemmas.List.Elements.{All-push, All-weaker, All-get_or, All-from_recursion}
use borrow.Author.Tests.{ltb-true}
use Rattle.std.proofs.lemmas.Bool.{ltb-false}
use Rattle.std.proofs.lemmas.Option.{same_Some, slice_get_within}
use Rattle.serde_json.specs.Data.{Members}
use Rattle.import_expand.specs.Sources.{Live, sources_of, child_of}
use Rattle.import_expand.specs.Books as books
use Rattle.import_expand.specs.Books.{objects, IsAt, Shows, Grows}
use Rattle.import_expand.specs.Rooms.{objects_in, held, nodes_in, numbers_of, IsNodeAt, IsNode, GivesUp, GrowsBy, IsPlain, IsShown, IsChild, IsTop, IsSound, Keeps, LacksEntry, Later}
use Rattle.import_expand.specs.Rooms.IsFull.{by_book, by_asking}
use Rattle.import_expand.specs.declared.exhausted.Exhausted.{Exhausted}
use Rattle.import_expand.specs.declared.limits.TheConstants.{MOST_HELD}
use Rattle.import_expand.specs.declared.room.Room.{Room}
use Rattle.import_expand.specs.declared.room.Sources.{Sources}
use Rattle.import_expand.specs.declared.room.Child.{Child}
use Rattle.import_expand.specs.declared.room.Top.{Top}
use Rattle.import_expand.proofs.BookLemmas.{shows_later}
use Rattle.import_expand.proofs.AbsentLemmas.{child_of_any}
use Rattle.import_expand.proofs.ExpandLemmas.{shows_length}

pub node_later : (os later : List Members) (nodes more : List (List ℕ)) → Grows os later → GrowsBy nodes more → (k : ℕ) (ns : List Members) → IsNodeAt os nodes k ns → IsNodeAt later more k ns
node_later os later nodes more g h k ns n = record { numbers = n.numbers; is = h k n.numbers n.is; shown = shows_later os later g n.numbers ns n.shown }

shown_later : (os later : List Members) → Grows os later → (s : Sources) → IsShown os s → IsShown later s
shown_later os later g s h = record { of = h.of; shown = shows_later os later g s.numbers.items h.of h.shown; plain = h.plain }

child_later : (live : Live) (os later : List Members) (nodes more : List (List ℕ)) → Grows os later → GrowsBy nodes more → (c : Child) → IsChild live os nodes c → IsChild live later more c
child_later live os later nodes more g h c is = record { of = is.of; is_of = node_later os later nodes more g h c.of is.of is.is_of; is = node_later os later nodes more g h c.at (child_of live is.of c.label) is.is }

top_later : (live : Live) (os later : List Members) (nodes more : List (List ℕ)) → Grows os later → GrowsBy nodes more → (t : Top) → IsTop live os nodes t → IsTop live later more t
top_later live os later nodes more g h t is = record { of = is.of; is_of = g _ _ is.is_of; is = node_later os later nodes more g h t.at (sources_of live 0 is.of) is.is }

-- the same is remembered where objects and nodes joined
same_memory : (live : Live) (r later : Room) → Grows (objects_in r) (objects_in later) → GrowsBy (nodes_in r) (nodes_in later) → books.IsSound live later.book → All (IsShown (objects_in later)) later.nodes.items → later.children.items ≡ r.children.items → later.tops.items ≡ r.tops.items
    → IsSound live r → IsSound live later
same_memory live r later g h book n c t sound = record {
  book = book;
  nodes = n;
  children = rw c (All-weaker (IsChild live (objects_in r) (nodes_in r)) (IsChild live (objects_in later) (nodes_in later)) (child_later live _ _ _ _ g h) _ sound.children);
  tops = rw t (All-weaker (IsTop live (objects_in r) (nodes_in r)) (IsTop live (objects_in later) (nodes_in later)) (top_later live _ _ _ _ g h) _ sound.tops);
}

stays : (nodes : List (List ℕ)) → GrowsBy nodes nodes
stays nodes = λ k numbers h. h

same_nodes : (r later : Room) → later.nodes.items ≡ r.nodes.items → GrowsBy (nodes_in r) (nodes_in later)
same_nodes r later e = λ k numbers h. rw e h

all_shown : (live : Live) (r later : Room) → Grows (objects_in r) (objects_in later) → later.nodes.items ≡ r.nodes.items → IsSound live r → All (IsShown (objects_in later)) later.nodes.items
all_shown live r later g n sound = rw n (All-weaker (IsShown (objects_in r)) (IsShown (objects_in later)) (shown_later _ _ g) _ sound.nodes)

-- the book grew
pub book_later : (live : Live) (r later : Room) → books.Later live r.book later.book → later.nodes.items ≡ r.nodes.items → later.children.items ≡ r.children.items → later.tops.items ≡ r.tops.items → IsSound live r → Later live r later
book_later live r later b n c t sound = record { grows = b.grows; held = b.held; nodes = same_nodes r later n; sound = same_memory live r later b.grows (same_nodes r later n) b.sound (all_shown live r later b.grows n sound) c t sound }

same_held : (r later : Room) → later.book ≡ r.book → held r ≤ held later
same_held r later b = rw b (omega arith)

pub book_keeps : (r later : Room) → books.Keeps r.book later.book → later.nodes.items ≡ r.nodes.items → later.children.items ≡ r.children.items → later.tops.items ≡ r.tops.items → Keeps r later
book_keeps r later b n c t = record { grows = b.grows; held = b.held; nodes = same_nodes r later n; sound = λ live sound. same_memory live r later b.grows (same_nodes r later n) (b.sound live sound.book) (all_shown live r later b.grows n sound) c t sound }

at_left : {A : Type 0} (xs more : List A) (i : ℕ) (x : A) → slice_get xs i ≡ Some x → slice_get (xs ++ more) i ≡ Some x
at_left [] more i x h = absurd (cc)
at_left (y ∷ xs) more zero x h = h
at_left (y ∷ xs) more (suc i) x h = at_left xs more i x h

at_end : {A : Type 0} (xs : List A) (x : A) → slice_get (xs ++ x ∷ []) (length xs) ≡ Some x
at_end [] x = refl
at_end (y ∷ xs) x = at_end xs x

nodes_joined : (xs ys : List Sources) (x : Sources) → ys ≡ xs ++ x ∷ [] → map numbers_of ys ≡ map numbers_of xs ++ numbers_of x ∷ []
nodes_joined xs ys x e = ap (map numbers_of) e ∙ map-append numbers_of xs (x ∷ [])

length_map : (xs : List Sources) → length (map numbers_of xs) ≡ length xs
length_map [] = refl
length_map (x ∷ xs) = ap suc (length_map xs)

grown : (r later : Room) (s : Sources) → later.nodes.items ≡ r.nodes.items ++ s ∷ [] → GrowsBy (nodes_in r) (nodes_in later)
grown r later s e = λ k numbers h. rw (nodes_joined r.nodes.items later.nodes.items s e) (at_left (nodes_in r) (numbers_of s ∷ []) k numbers h)

pub put_keeps : (r later : Room) (s : Sources) → later.nodes.items ≡ r.nodes.items ++ s ∷ [] → later.book ≡ r.book → later.children.items ≡ r.children.items → later.tops.items ≡ r.tops.items → (ns : List Members) → Shows (objects_in r) s.numbers.items ns → (s.plain ≡ true → IsPlain ns) → Keeps r later
put_keeps r later s n b c t ns shown plain =
    let g : Grows (objects_in r) (objects_in later) = λ i o h. rw b h in
    record {
      grows = g;
      held = same_held r later b;
      nodes = grown r later s n;
      sound = λ live sound. same_memory live r later g (grown r later s n) (rw b sound.book)
          (rw n (All-push (IsShown (objects_in later)) _ _ (All-weaker (IsShown (objects_in r)) (IsShown (objects_in later)) (shown_later _ _ g) _ sound.nodes) (record { of = ns; shown = rw b shown; plain = plain }))) c t sound;
    }

pub put_at : (r later : Room) (s : Sources) (k : ℕ) (ns : List Members) → later.nodes.items ≡ r.nodes.items ++ s ∷ [] → later.book ≡ r.book → k ≡ length r.nodes.items → Shows (objects_in r) s.numbers.items ns → IsNode later k ns
put_at r later s k ns n b e shown = record {
  numbers = numbers_of s;
  is = rw (nodes_joined r.nodes.items later.nodes.items s n) (ap (slice_get (nodes_in r ++ numbers_of s ∷ [])) (e ∙ sym (length_map r.nodes.items)) ∙ at_end (nodes_in r) (numbers_of s));
  shown = rw b shown;
}

pub child_keeps : (live : Live) (r later : Room) (c : Child) → later.children.items ≡ r.children.items ++ c ∷ [] → later.book ≡ r.book → later.nodes.items ≡ r.nodes.items → later.tops.items ≡ r.tops.items
    → IsChild live (objects_in r) (nodes_in r) c → IsSound live r → Later live r later
child_keeps live r later c cs b n t is sound =
    let g : Grows (objects_in r) (objects_in later) = λ i o h. rw b h in
    let h : GrowsBy (nodes_in r) (nodes_in later) = same_nodes r later n in
    record {
      grows = g;
      held = same_held r later b;
      nodes = h;
      sound = record {
        book = rw b sound.book;
        nodes = all_shown live r later g n sound;
        children = rw cs (All-push (IsChild live (objects_in later) (nodes_in later)) _ _ (All-weaker (IsChild live (objects_in r) (nodes_in r)) (IsChild live (objects_in later) (nodes_in later)) (child_later live _ _ _ _ g h) _ sound.children)
            (child_later live (objects_in r) (objects_in later) (nodes_in r) (nodes_in later) g h c is));
        tops = rw t (All-weaker (IsTop live (objects_in r) (nodes_in r)) (IsTop live (objects_in later) (nodes_in later)) (top_later live _ _ _ _ g h) _ sound.tops);
      };
    }

pub top_keeps : (live : Live) (r later : Room) (t : Top) → later.tops.items ≡ r.tops.items ++ t ∷ [] → later.book ≡ r.book → later.nodes.items ≡ r.nodes.items → later.children.items ≡ r.children.items
    → IsTop live (objects_in r) (nodes_in r) t → IsSound live r → Later live r later
top_keeps live r later t ts b n c is sound =
    let g : Grows (objects_in r) (objects_in later) = λ i o h. rw b h in
    let h : GrowsBy (nodes_in r) (nodes_in later) = same_nodes r later n in
    record {
      grows = g;
      held = same_held r later b;
      nodes = h;
      sound = record {
        book = rw b sound.book;
        nodes = all_shown live r later g n sound;
        children = rw c (All-weaker (IsChild live (objects_in r) (nodes_in r)) (IsChild live (objects_in later) (nodes_in later)) (child_later live _ _ _ _ g h) _ sound.children);
        tops = rw ts (All-push (IsTop live (objects_in later) (nodes_in later)) _ _ (All-weaker (IsTop live (objects_in r) (nodes_in r)) (IsTop live (objects_in later) (nodes_in later)) (top_later live _ _ _ _ g h) _ sound.tops)
            (top_later live (objects_in r) (objects_in later) (nodes_in r) (nodes_in later) g h t is));
      };
    }

-- numbers show one list of objects
pub shows_one : (os : List Members) (is : List ℕ) (ms ns : List Members) → Shows os is ms → Shows os is ns → ms ≡ ns
shows_one os [] [] [] g h = refl
shows_one os (i ∷ is) (m ∷ ms) (n ∷ ns) g h = ap₂' (same_Some m n (sym g.0 ∙ h.0)) (shows_one os is ms ns g.1 h.1)
  where
    ap₂' : m ≡ n → ms ≡ ns → m ∷ ms ≡ n ∷ ns
    ap₂' e f = ap (λ x. x ∷ ms) e ∙ ap (λ xs. n ∷ xs) f
shows_one os [] [] (n ∷ ns) g h = absurd h
shows_one os [] (m ∷ ms) ns g h = absurd g
shows_one os (i ∷ is) [] ns g h = absurd g
shows_one os (i ∷ is) (m ∷ ms) [] g h = absurd h

pub node_one : (os : List Members) (nodes : List (List ℕ)) (k : ℕ) (ms ns : List Members) → IsNodeAt os nodes k ms → IsNodeAt os nodes k ns → ms ≡ ns
node_one os nodes k ms ns g h =
    let same : g.numbers ≡ h.numbers = same_Some g.numbers h.numbers (sym g.is ∙ h.is) in
    shows_one os h.numbers ms ns (rw same at g.shown) h.shown

-- a node's numbers are those that stand there
pub node_by : (r : Room) (k : ℕ) (s : Sources) (ns : List Members) → slice_get (nodes_in r) k ≡ Some (numbers_of s) → Shows (objects_in r) (numbers_of s) ns → IsNode r k ns
node_by r k s ns e shown = record { numbers = numbers_of s; is = e; shown = shown }

pub node_shown : (r : Room) (k : ℕ) (numbers : List ℕ) (ns : List Members) → slice_get (nodes_in r) k ≡ Some numbers → IsNode r k ns → Shows (objects_in r) numbers ns
node_shown r k numbers ns e n = rw (same_Some numbers n.numbers (sym e ∙ n.is)) n.shown

pub no_node : (r : Room) (k : ℕ) (ns : List Members) → slice_get (nodes_in r) k ≡ None → IsNode r k ns → ⊥
no_node r k ns e n = absurd (cc (sym e ∙ n.is))

-- what stands at an index is the node's
pub node_numbers : (xs : List Sources) (k : ℕ) (s : Sources) → k < length xs → s ≡ get_or xs k s → slice_get (map numbers_of xs) k ≡ Some (numbers_of s)
node_numbers [] k s l e = absurd (omega arith)
node_numbers (x ∷ xs) zero s l e = ap (λ y. Some (numbers_of y)) (sym e)
node_numbers (x ∷ xs) (suc k) s l e = node_numbers xs k s (omega arith) e

pub lookup_within : (k n : ℕ) → true ≡ nat_lt k n → k < n
lookup_within k n e = ltb-true k n (sym e)

pub empty_sound : (live : Live) (r : Room) → books.IsSound live r.book → r.nodes.items ≡ [] → r.children.items ≡ [] → r.tops.items ≡ [] → IsSound live r
empty_sound live r b n c t = record { book = b; nodes = rw n (All-from_recursion (IsShown (objects_in r)) [] tt); children = rw c (All-from_recursion (IsChild live (objects_in r) (nodes_in r)) [] tt); tops = rw t (All-from_recursion (IsTop live (objects_in r) (nodes_in r)) [] tt) }

-- a child that is remembered
pub child_known : (live : Live) (r : Room) (c : Child) (k : ℕ) (label : List ℕ) (ns : List Members) → IsSound live r → (k < length r.children.items) × (c ≡ get_or r.children.items k c) → c.label ≡ label → IsNode r c.of ns
    → IsNode r c.at (child_of live ns label)
child_known live r c k label ns sound there same node =
    let is : IsChild live (objects_in r) (nodes_in r) c = subst (IsChild live (objects_in r) (nodes_in r)) (sym there.1) (All-get_or (IsChild live (objects_in r) (nodes_in r)) r.children.items k c there.0 sound.children) in
    let one : is.of ≡ ns = node_one (objects_in r) (nodes_in r) c.of is.of ns is.is_of node in
    subst (λ (x : List Members). IsNodeAt (objects_in r) (nodes_in r) c.at (child_of live x label)) one
    (subst (λ (x : List ℕ). IsNodeAt (objects_in r) (nodes_in r) c.at (child_of live is.of x)) same is.is)

-- the objects of a node that there is
pub record NodeOf (r : Room) (k : ℕ) : Type 0 where
  pub of : List Members
  pub is : IsNode r k of

pub node_exists : (live : Live) (r : Room) (k : ℕ) (s : Sources) → IsSound live r → k < length r.nodes.items → s ≡ get_or r.nodes.items k s → NodeOf r k
node_exists live r k s sound within e =
    let shown : IsShown (objects_in r) s = subst (IsShown (objects_in r)) (sym e) (All-get_or (IsShown (objects_in r)) r.nodes.items k s within sound.nodes) in
    record { of = shown.of; is = node_by r k s shown.of (node_numbers r.nodes.items k s within e) shown.shown }

-- the sources of a node, of which it is remembered that none ends a way
pub node_plain : (live : Live) (r : Room) (k : ℕ) (s : Sources) (ns : List Members) → IsSound live r → k < length r.nodes.items → s ≡ get_or r.nodes.items k s → IsNode r k ns → s.plain ≡ true → IsPlain ns
node_plain live r k s ns sound within e node plain =
    let shown : IsShown (objects_in r) s = subst (IsShown (objects_in r)) (sym e) (All-get_or (IsShown (objects_in r)) r.nodes.items k s within sound.nodes) in
    let there : IsNode r k shown.of = node_by r k s shown.of (node_numbers r.nodes.items k s within e) shown.shown in
    subst IsPlain (node_one (objects_in r) (nodes_in r) k shown.of ns there node) (shown.plain plain)

pub later_both : (live : Live) (a b c : Room) → Later live a b → Later live b c → Later live a c
later_both live a b c k l = record { grows = λ i o h. l.grows i o (k.grows i o h); held = omega (arith, k.held, l.held); nodes = λ i n h. l.nodes i n (k.nodes i n h); sound = l.sound }

pub keeps_both : (a b c : Room) → Keeps a b → Keeps b c → Keeps a c
keeps_both a b c k l = record { grows = λ i o h. l.grows i o (k.grows i o h); held = omega (arith, k.held, l.held); nodes = λ i n h. l.nodes i n (k.nodes i n h); sound = λ live h. l.sound live (k.sound live h) }

-- a node of the same objects and nodes
pub same_node : (a b : Room) (k : ℕ) (ns : List Members) → objects_in b ≡ objects_in a → nodes_in b ≡ nodes_in a → IsNode a k ns → IsNode b k ns
same_node a b k ns o n h = record { numbers = h.numbers; is = ap (λ xs. slice_get xs k) n ∙ h.is; shown = subst (λ (os : List Members). Shows os h.numbers ns) (sym o) h.shown }

pub keeps_later : (live : Live) (b c : Room) → Keeps b c → IsSound live b → Later live b c
keeps_later live b c k h = record { grows = k.grows; held = k.held; nodes = k.nodes; sound = k.sound live h }

pub node_after : (live : Live) (a b : Room) (k : ℕ) (ns : List Members) → Later live a b → IsNode a k ns → IsNode b k ns
node_after live a b k ns l n = node_later (objects_in a) (objects_in b) (nodes_in a) (nodes_in b) l.grows l.nodes k ns n

-- a later room, in which a node has this number
pub record Placed (live : Live) (a d : Room) (at : ℕ) (ns : List Members) : Type 0 where
  pub later : Later live a d
  pub node : IsNode d at ns

-- a node that got its number just now
pub placed : (live : Live) (a b c : Room) (at : ℕ) (ns : List Members) → Later live a b → Keeps b c → IsNode c at ns → Placed live a c at ns
placed live a b c at ns l put node = record { later = later_both live a b c l (keeps_later live b c put l.sound); node = node }

-- a node's child that was found just now
pub child_new : (live : Live) (a c d : Room) (of at : ℕ) (label : List ℕ) (n : NodeOf a of) → Placed live a c at (child_of live n.of label)
    → ((other : Live) (ms : List Members) → IsNode c of ms → IsNode c at (child_of other ms label) → IsSound other c → Later other c d) → Placed live a d at (child_of live n.of label)
child_new live a c d of at label n new more =
    let last : Later live c d = more live n.of (node_after live a c of n.of new.later n.is) new.node new.later.sound in
    record { later = later_both live a c d new.later last; node = node_after live c d at (child_of live n.of label) last new.node }

-- a node's child under `*`, where no source has an entry under the label
pub child_any : (live : Live) (a c : Room) (of at : ℕ) (label : List ℕ) (lacks : LacksEntry a of label) → Placed live a c at (child_of live lacks.of (42 ∷ [])) → Placed live a c at (child_of live lacks.of label)
child_any live a c of at label lacks new = record { later = new.later; node = subst (λ (x : List Members). IsNodeAt (objects_in c) (nodes_in c) at x) (child_of_any live lacks.of label lacks.none) new.node }

-- the child of the sources that a node has
pub child_by : (live : Live) (a d : Room) (of at : ℕ) (label : List ℕ) (n : NodeOf a of) (ns : List Members) → IsNode a of ns → Placed live a d at (child_of live n.of label) → IsNode d at (child_of live ns label)
child_by live a d of at label n ns node new = subst (λ (x : List Members). IsNodeAt (objects_in d) (nodes_in d) at (child_of live x label)) (node_one (objects_in a) (nodes_in a) of n.of ns n.is node) new.node

-- a node at the top that was found just now
pub top_new : (live : Live) (a c d : Room) (of at : ℕ) (o : Members) → IsAt (objects_in a) of o → Placed live a c at (sources_of live 0 o)
    → ((other : Live) (p : Members) → IsAt (objects_in c) of p → IsNode c at (sources_of other 0 p) → IsSound other c → Later other c d) → Placed live a d at (sources_of live 0 o)
top_new live a c d of at o here new more =
    let last : Later live c d = more live o (new.later.grows of o here) new.node new.later.sound in
    record { later = later_both live a c d new.later last; node = node_after live c d at (sources_of live 0 o) last new.node }

-- what a look-up by an index found
pub found_at : {A : Type 0} (xs ys : List A) (k : ℕ) (x : A) → ys ≡ xs → true ≡ nat_lt k (length ys) → x ≡ get_or ys k x → (k < length xs) × (x ≡ get_or xs k x)
found_at xs ys k x e within is = (subst (λ zs. k < length zs) e (lookup_within k (length ys) within), subst (λ zs. x ≡ get_or zs k x) e is)

-- what the book gives up, the room does
pub given_up : (live : Live) (r : Room) (e : Exhausted) → books.GivesUp live r.book e → GivesUp live r e
given_up live r e up held = by_book (up held)

-- the sources of a node that there is are more than may be counted, behind a try that keeps objects and nodes
pub asks_too_many : (live : Live) (r later : Room) (k : ℕ) (s : Sources) (e : Exhausted) → IsSound live r → objects_in later ≡ objects_in r → nodes_in later ≡ nodes_in r → (k < length r.nodes.items) × (s ≡ get_or r.nodes.items k s)
    → MOST_HELD < held later + length (numbers_of s) → GivesUp live later e
asks_too_many live r later k s e sound os nodes there more = λ full.
    let n = node_exists live r k s sound there.0 there.1 in
    let many = shows_length (objects_in r) (numbers_of s) n.of (node_shown r k (numbers_of s) n.of (node_numbers r.nodes.items k s there.0 there.1) n.is) in
    by_asking k n.of (same_node r later k n.of os nodes n.is) (subst (λ (m : ℕ). MOST_HELD < held later + m) many more)

-- where a look-up by an index found nothing there is no node
pub no_node_there : (r : Room) (ys : List Sources) (k : ℕ) (ns : List Members) → ys ≡ r.nodes.items → false ≡ nat_lt k (length ys) → IsNode r k ns → ⊥
no_node_there r ys k ns e out n =
    let within = slice_get_within (nodes_in r) k n.numbers n.is in
    let past = ltb-false k (length ys) (sym out) in
    let same = length_map r.nodes.items in
    let items = ap length e in
    absurd (omega (arith, within, past, same, items))
