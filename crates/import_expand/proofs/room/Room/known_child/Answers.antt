use Rattle.std.proofs.Common.{sym, subst, ◌∙◌, ℕ}
use Rattle.std.specs.Cmp.Lexicographic.{same_text}
use Rattle.import_expand.specs.Rooms.{IsNode}
use Rattle.import_expand.proofs.RoomLemmas.{child_known, found_at}
use Rattle.import_expand.proofs.room.Room.known_child.Goals as goal

pub returns-then-eq : goal.returns-then-eq
returns-then-eq c live sound ns node =
    let w = found_at c.args.self.now.children.items c.deref.result.now c.loop-child.i c.in-Some.child.now c.deref.ensures.value c.in-Some.ensures.lookup.0 c.in-Some.ensures.lookup.1 in
    child_known live c.args.self.now c.in-Some.child.now c.loop-child.i c.args.label.now ns sound w
    (sym c.as_slice.ensures ∙ same_text c.as_slice.result.now c.args.label.now (sym c.if-eq.true ∙ c.eq.ensures))
    (subst (λ (k : ℕ). IsNode c.args.self.now k ns) (sym c.if-child-of.true) node)
