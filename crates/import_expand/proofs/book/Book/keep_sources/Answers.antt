use Rattle.std.proofs.Common.{refl}
use Rattle.import_expand.proofs.BookLemmas.{sources_kept}
use Rattle.import_expand.proofs.book.Book.keep_sources.Goals as goal

pub returns-in-Some : goal.returns-in-Some
returns-in-Some c live = sources_kept live c.args.self.now _ _ (record { objects = refl; names = refl; entries = refl; links = refl; expanded = c.in_ok-push.ensures.items; held = refl }) c.requires

pub returns-in_default : goal.returns-in_default
returns-in_default c live = sources_kept live c.args.self.now _ _ (record { objects = refl; names = refl; entries = refl; links = refl; expanded = c.in_ok-push.ensures.items; held = refl }) c.requires
