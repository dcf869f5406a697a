use Rattle.import_expand.proofs.ShelfLemmas.{promoted_read}
use Rattle.import_expand.proofs.shelf.Shelf.find.Goals as goal

pub invariant_of-self : goal.invariant_of-self
invariant_of-self c = rw c.promote.ensures.entries (promoted_read c.args.text.now c.self.inside.kept.entries c.self.invariant)

pub invariant_of-self-2 : goal.invariant_of-self-2
invariant_of-self-2 c = rw c.promote.ensures.entries (promoted_read c.args.text.now c.self.inside.kept.entries c.self.invariant)
