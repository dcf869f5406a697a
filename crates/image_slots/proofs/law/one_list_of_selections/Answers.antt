use Rattle.gate_journal.specs.Records.{records_text}
use Rattle.gate_journal.proofs.RecordLemmas.{begins_with}
use Rattle.image_slots.specs.Selections.{selections}
use Rattle.image_slots.proofs.SelectionLemmas.{same_number}
use Rattle.image_slots.proofs.law.one_list_of_selections.Goals as goal

pub returns-clause-told_apart : goal.returns-clause-told_apart
returns-clause-told_apart c = λ front count other file a b. same_number front count other file a b

pub returns-clause-front : goal.returns-clause-front
returns-clause-front c = λ front count file has. begins_with front (records_text (selections count)) file has.closed
