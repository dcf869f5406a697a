use Rattle.std.proofs.Common.{sym}
use Rattle.ifa_value.specs.Values.{entry_of}
use Rattle.import_expand.specs.Books.{objects}
use Rattle.import_expand.proofs.BookLemmas.{finds_later, finds_none, keeps_both}
use Rattle.import_expand.proofs.book.Book.listed_entry.Goals as goal

pub returns-in_default-clause-found : goal.returns-in_default-clause-found
returns-in_default-clause-found c live o sound here = finds_none (objects c.args.self.now) (entry_of c.args.label.now o) (c.place.ensures c.in_default.is c.args.label.now o (sym c.requires) here)

pub returns-in_ok-found-in-None-clause-found : goal.returns-in_ok-found-in-None-clause-found
returns-in_ok-found-in-None-clause-found c live o sound here =
    finds_later (objects c.unplaced_entry.new.self) (objects c.keep_place.new.self) c.keep_place.ensures.keeps.grows c.in_ok-found-in-None.found (entry_of c.args.label.now o) (c.in_ok-found-in-None.ensures.found live o sound here)

pub returns-in_ok-found-in-None-clause-keeps : goal.returns-in_ok-found-in-None-clause-keeps
returns-in_ok-found-in-None-clause-keeps c = keeps_both c.args.self.now c.unplaced_entry.new.self c.keep_place.new.self c.in_ok-found-in-None.ensures.keeps c.keep_place.ensures.keeps
