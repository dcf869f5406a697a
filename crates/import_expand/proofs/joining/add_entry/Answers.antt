use Rattle.std.proofs.Common.{arith, Some}
use Rattle.ifa_value.specs.Values.{entry_of}
use Rattle.import_expand.specs.Sources.{under}
use Rattle.import_expand.specs.Books.{objects}
use Rattle.import_expand.proofs.BookLemmas.{passed_on, keeps_later, shows_later}
use Rattle.import_expand.proofs.ExpandLemmas.{finds_by, finds_is_some, shows_length, shows_same, under_some, under_none}
use Rattle.import_expand.proofs.ToldLemmas.{same_found}
use Rattle.import_expand.proofs.joining.add_entry.Goals as goal

pub returns-in_err-entry-clause-refused : goal.returns-in_err-entry-clause-refused
returns-in_err-entry-clause-refused g c = passed_on c.from_residual.result c.in_err-entry.field-0.0 _ c.from_residual.ensures.1 (c.in_err-entry.ensures.refused (g.N.Names.served c.args.names.now) c.requires.sound)

pub expand-requires-clause-sound : goal.expand-requires-clause-sound
expand-requires-clause-sound g c = c.in_ok-entry.ensures.keeps.sound (g.N.Names.served c.args.names.now) c.requires.sound

pub returns-in_ok-expand-in-Some-clause-added : goal.returns-in_ok-expand-in-Some-clause-added
returns-in_ok-expand-in-Some-clause-added g c o ms here shown =
    let live = g.N.Names.served c.args.names.now in
    let label = c.args.label.now in
    let os = objects c.ask.new.self in
    let f = finds_is_some os c.in-Some.entry (entry_of label o) (finds_by os c.in_ok-entry.field-0 (Some c.in-Some.entry) _ c.in-Some.is (c.in_ok-entry.ensures.found live o c.requires.sound here)) in
    under_some live (objects c.expand.new.book) label c.expand.new.found.items o f.object ms f.is
    (c.in_ok-expand-in-Some.ensures.added f.object ms f.at (shows_later (objects c.args.book.now) os c.in_ok-entry.ensures.keeps.grows c.args.joining.now.found.items ms shown))

pub returns-in-None-clause-later : goal.returns-in-None-clause-later
returns-in-None-clause-later g c = keeps_later (g.N.Names.served c.args.names.now) c.args.book.now c.ask.new.self c.in_ok-entry.ensures.keeps c.requires.sound

pub returns-in-None-clause-added : goal.returns-in-None-clause-added
returns-in-None-clause-added g c o ms here shown =
    let live = g.N.Names.served c.args.names.now in
    let label = c.args.label.now in
    let found = c.args.joining.now.found.items in
    let none = under_none live (objects c.ask.new.self) label c.in_ok-entry.field-0 o c.in-None.is (c.in_ok-entry.ensures.found live o c.requires.sound here) in
    let many = shows_length (objects c.args.book.now) found ms shown in
    shows_same (objects c.ask.new.self) found _ _ (same_found ms (under live label o) (omega (arith, many, c.args.joining.now.few)) none)
    (shows_later (objects c.args.book.now) (objects c.ask.new.self) c.in_ok-entry.ensures.keeps.grows found ms shown)
