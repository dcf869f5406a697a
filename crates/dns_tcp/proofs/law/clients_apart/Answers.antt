use Rattle.std.proofs.Common.{arith}
use Rattle.dns_tcp.proofs.StreamLemmas.{left_of-with_left, left_of-with_other, left_of-without, left_of-without_other, are_streams-with_left, are_streams-without}
use Rattle.dns_tcp.proofs.law.clients_apart.Goals as goal

pub returns-clause-left : goal.returns-clause-left
returns-clause-left c = left_of-with_left

pub returns-clause-left_of_another : goal.returns-clause-left_of_another
returns-clause-left_of_another c = λ client other left streams differ. left_of-with_other client other differ left streams

pub returns-clause-ended : goal.returns-clause-ended
returns-clause-ended c = λ client streams are. left_of-without client streams are.distinct

pub returns-clause-ended_another : goal.returns-clause-ended_another
returns-clause-ended_another c = λ client other streams differ. left_of-without_other client other differ streams

pub returns-clause-none_held : goal.returns-clause-none_held
returns-clause-none_held c = record { distinct = tt; at_most = omega arith }

pub returns-clause-held : goal.returns-clause-held
returns-clause-held c = are_streams-with_left

pub returns-clause-fewer_held : goal.returns-clause-fewer_held
returns-clause-fewer_held c = are_streams-without
