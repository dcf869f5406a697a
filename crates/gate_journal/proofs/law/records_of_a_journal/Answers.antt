use Rattle.std.proofs.Common.{◌⊎◌, ℕ, List, ◌++◌, subst}
use Rattle.gate_journal.specs.Gate.{ClosedAfter, record_text}
use Rattle.gate_journal.proofs.RecordLemmas.{told_apart, record_among, front-push, with_or_without, records_before}
use Rattle.gate_journal.proofs.law.records_of_a_journal.Goals as goal

pub returns-clause-told_apart : goal.returns-clause-told_apart
returns-clause-told_apart c = λ front file records others a b. told_apart front file records others a.closed b.closed a.fit b.fit

pub returns-clause-each : goal.returns-clause-each
returns-clause-each c = λ front before record_is after file limit has within. record_among front before record_is after file limit has within

pub returns-clause-end : goal.returns-clause-end
returns-clause-end c = λ front records file has. has.closed.closed

pub returns-clause-joined : goal.returns-clause-joined
returns-clause-joined c = λ front records record_is. front-push front records record_is

pub returns-clause-one_more : goal.returns-clause-one_more
returns-clause-one_more c = λ front records record_is before image is fit one either.
    with_or_without front records record_is image fit one (subst (λ (l : List ℕ). ClosedAfter l image ⊎ ClosedAfter (l ++ record_text record_is) image) is either)

pub returns-clause-at_gate : goal.returns-clause-at_gate
returns-clause-at_gate c = λ journal file front records some at_gate text fit. records_before journal file front records some at_gate text fit
