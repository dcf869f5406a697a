use Rattle.gate_journal.proofs.GateLemmas.{gate_behind}
use Rattle.gate_journal.proofs.law.gate_behind_records.Goals as goal

pub returns : goal.returns
returns c = λ journal file front records settled has size. gate_behind journal file front records settled has size
