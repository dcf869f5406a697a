use Rattle.import_expand.proofs.BookLemmas.{keeps_both, passed_on}
use Rattle.import_expand.proofs.book.Book.ask.Goals as goal

pub returns-clause-found : goal.returns-clause-found
returns-clause-found c live o sound here = c.in_ok-entry.ensures.found live o (c.list_labels_of.ensures.keeps.sound live sound) (c.list_labels_of.ensures.keeps.grows c.args.at o here)

pub returns-clause-keeps : goal.returns-clause-keeps
returns-clause-keeps c = keeps_both c.args.self.now c.list_labels_of.new.self c.listed_entry.new.self c.list_labels_of.ensures.keeps c.in_ok-entry.ensures.keeps

pub returns-in_err-entry-clause-refused : goal.returns-in_err-entry-clause-refused
returns-in_err-entry-clause-refused c =
    passed_on c.from_residual-in_err-entry.result c.in_err-entry.field-0.0 _ c.from_residual-in_err-entry.ensures.1 (λ live sound. c.in_err-entry.ensures.refused live (c.list_labels_of.ensures.keeps.sound live sound))
