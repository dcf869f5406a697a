use Rattle.image_slots.proofs.DamageLaws.{one_place, no_place}
use Rattle.image_slots.proofs.law.one_damage_of_selections.Goals as goal

pub returns-clause-one : goal.returns-clause-one
returns-clause-one c = λ at most file place other a b. one_place at most file place other a b

pub returns-clause-none : goal.returns-clause-none
returns-clause-none c = λ at most count file place has few damaged. no_place at most file count place has few damaged
