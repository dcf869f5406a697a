use Rattle.import_expand.proofs.BookLemmas.{keeps_both, shown_keeps}
use Rattle.std.proofs.Common.{refl}
use Rattle.import_expand.specs.declared.book.Book.{Book}
use Rattle.import_expand.proofs.book.Book.list_labels_of.Goals as goal

pub returns-in_err-resize-clause-keeps : goal.returns-in_err-resize-clause-keeps
returns-in_err-resize-clause-keeps c = keeps_both c.args.self.now c.mark_labels_of.new.self _ c.in_ok-listed.ensures.keeps (shown_keeps c.mark_labels_of.new.self _ (record { objects = refl; names = refl; entries = refl; links = refl; expanded = refl; held = refl }))

pub returns-clause-keeps : goal.returns-clause-keeps
returns-clause-keeps c =
    let resized : Book = record c.mark_labels_of.new.self { places = c.resize.new.self } in
    keeps_both c.args.self.now resized c.keep_listed.new.self (keeps_both c.args.self.now c.mark_labels_of.new.self resized c.in_ok-listed.ensures.keeps (shown_keeps c.mark_labels_of.new.self resized (record { objects = refl; names = refl; entries = refl; links = refl; expanded = refl; held = refl }))) c.keep_listed.ensures.keeps
