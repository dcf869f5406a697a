use Rattle.std.proofs.Common.{sym, ap, ◌∙◌}
use Rattle.ifa_value.specs.Values.{object_of}
use Rattle.import_expand.proofs.ShelfLemmas.{put_read}
use Rattle.import_expand.proofs.shelf.Shelf.keep.Goals as goal

pub invariant_of-self-2 : goal.invariant_of-self-2
invariant_of-self-2 c = rw c.in_ok-push.ensures.entries (put_read c.self.inside.kept c.in_ok-text.text c.args.object (c.requires ∙ ap object_of (sym c.in_ok-text.ensures)) c.self.invariant)
