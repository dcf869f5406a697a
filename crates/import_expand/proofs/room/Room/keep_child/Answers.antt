use Rattle.std.proofs.Common.{refl, sym, subst, List, ℕ}
use Rattle.import_expand.specs.Sources.{child_of}
use Rattle.import_expand.specs.Rooms.{objects_in, nodes_in, IsNodeAt}
use Rattle.import_expand.proofs.RoomLemmas.{child_keeps}
use Rattle.import_expand.proofs.room.Room.keep_child.Goals as goal

pub returns-in-Some-clause-later : goal.returns-in-Some-clause-later
returns-in-Some-clause-later c live ns node at sound =
    child_keeps live c.args.self.now _ _ c.in_ok-push.ensures.items refl refl refl
    (record { of = ns; is_of = node; is = subst (λ (t : List ℕ). IsNodeAt (objects_in c.args.self.now) (nodes_in c.args.self.now) c.args.at (child_of live ns t)) (sym c.in_ok-label.ensures) at }) sound

pub returns-in_default-clause-later : goal.returns-in_default-clause-later
returns-in_default-clause-later c live ns node at sound =
    child_keeps live c.args.self.now _ _ c.in_ok-push.ensures.items refl refl refl
    (record { of = ns; is_of = node; is = subst (λ (t : List ℕ). IsNodeAt (objects_in c.args.self.now) (nodes_in c.args.self.now) c.args.at (child_of live ns t)) (sym c.in_ok-label.ensures) at }) sound
