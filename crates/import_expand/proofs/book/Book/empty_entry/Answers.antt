use Rattle.std.proofs.Common.{[], refl}
use Rattle.ifa_value.specs.Values.{entry_of}
use Rattle.import_expand.specs.Books.{objects}
use Rattle.import_expand.proofs.BookLemmas.{finds_none}
use Rattle.import_expand.proofs.book.Book.empty_entry.Goals as goal

pub returns-then-lacks-clause-found : goal.returns-then-lacks-clause-found
returns-then-lacks-clause-found c live o sound here = finds_none (objects c.args.self.now) (entry_of [] o) (c.lacks.ensures c.if-lacks.true [] o refl here)
