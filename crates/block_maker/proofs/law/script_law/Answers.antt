use Rattle.block_maker.proofs.Scripts.{shortest_is, script_is, script_read, shortest}
use Rattle.block_maker.proofs.law.script_law.Goals as goal

pub returns-clause-is : goal.returns-clause-is
returns-clause-is c = script_is

pub returns-clause-read : goal.returns-clause-read
returns-clause-read c = script_read

pub returns-clause-push : goal.returns-clause-push
returns-clause-push c = shortest_is

pub returns-clause-shortest : goal.returns-clause-shortest
returns-clause-shortest c = shortest
