use Rattle.std.proofs.Common.{refl}
use Rattle.import_expand.proofs.BookLemmas.{shown_keeps}
use Rattle.import_expand.proofs.book.Book.keep_listed.Goals as goal

pub returns-in-Some-clause-keeps : goal.returns-in-Some-clause-keeps
returns-in-Some-clause-keeps c = shown_keeps c.args.self.now _ (record { objects = refl; names = refl; entries = refl; links = refl; expanded = refl; held = refl })

pub returns-in_default-clause-keeps : goal.returns-in_default-clause-keeps
returns-in_default-clause-keeps c = shown_keeps c.args.self.now _ (record { objects = refl; names = refl; entries = refl; links = refl; expanded = refl; held = refl })
