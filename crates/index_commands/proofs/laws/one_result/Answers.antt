use Rattle.std.proofs.Common.{ap}
use Rattle.nmc_base.specs.declared.hashes.Hash32.{Hash32}
use Rattle.index_commands.proofs.TakenLemmas.{staged_unrefused, staged_back_unrefused, taken, taken_alike}
use Rattle.index_commands.proofs.ResultLemmas as results
use Rattle.index_commands.proofs.laws.one_result.Goals as goal

pub returns-clause-one : goal.returns-clause-one
returns-clause-one c = λ a b x y command same. results.one_result a b x y same command

pub returns-clause-taken : goal.returns-clause-taken
returns-clause-taken c = taken

pub returns-clause-alike : goal.returns-clause-alike
returns-clause-alike c = λ a b command same. taken_alike a b same command

pub returns-clause-staged : goal.returns-clause-staged
returns-clause-staged c = λ index staged bytes short takes. (staged_unrefused index bytes staged takes, short)

pub returns-clause-staged_back : goal.returns-clause-staged_back
returns-clause-staged_back c = λ index staged hash long may. (staged_back_unrefused index hash.0 may.above (ap (λ (x : Hash32). x.0) may.hash_is), long)
