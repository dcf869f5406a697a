use Rattle.undo_records.proofs.ToldLaws.{told_again, one_record, text_cut}
use Rattle.undo_records.proofs.law.text_laws.Goals as goal

pub returns-clause-again : goal.returns-clause-again
returns-clause-again c = told_again

pub returns-clause-one : goal.returns-clause-one
returns-clause-one c = one_record

pub returns-clause-short : goal.returns-clause-short
returns-clause-short c = text_cut
