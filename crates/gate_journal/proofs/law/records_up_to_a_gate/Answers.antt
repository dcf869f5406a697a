use Rattle.gate_journal.proofs.GateLemmas.{none_to, next_to, all_to, place_of, ended_to, prefixes_to, among_to}
use Rattle.gate_journal.proofs.law.records_up_to_a_gate.Goals as goal

pub returns-clause-none : goal.returns-clause-none
returns-clause-none c = λ front file begins inside. none_to front file begins inside

pub returns-clause-next : goal.returns-clause-next
returns-clause-next c = λ gate limit front records record_is file has at. next_to gate limit front records record_is file has at

pub returns-clause-all : goal.returns-clause-all
returns-clause-all c = λ gate front records file has closed. all_to gate front records file has closed

pub returns-clause-place : goal.returns-clause-place
returns-clause-place c = λ gate front records file has. place_of gate front records file has

pub returns-clause-ended : goal.returns-clause-ended
returns-clause-ended c = λ front records file has. ended_to front records file has

pub returns-clause-prefixes : goal.returns-clause-prefixes
returns-clause-prefixes c = λ gate other front some others file a b. prefixes_to gate other front some others file a b

pub returns-clause-among : goal.returns-clause-among
returns-clause-among c = λ gate front some records file a all. among_to gate front some records file a all
