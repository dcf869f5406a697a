use Rattle.name_store.proofs.RunLemmas.{standing_header}
use Rattle.name_store.proofs.DamageLaws.{damaged_initialised, standing_undamaged}
use Rattle.name_store.proofs.law.one_kind_of_files.Goals as goal

pub returns-clause-uninitialised_or_standing : goal.returns-clause-uninitialised_or_standing
returns-clause-uninitialised_or_standing c = λ files run not stands. not (standing_header files run stands).initialised

pub returns-clause-uninitialised_or_damaged : goal.returns-clause-uninitialised_or_damaged
returns-clause-uninitialised_or_damaged c = λ files file at not damaged. not (damaged_initialised files file at damaged)

pub returns-clause-damaged_or_standing : goal.returns-clause-damaged_or_standing
returns-clause-damaged_or_standing c = λ files file at run damaged stands. standing_undamaged files run stands file at damaged
