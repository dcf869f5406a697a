use Rattle.chain_names.specs.Tables.{names_in}
use Rattle.table_trials.proofs.ImageLemmas.{few_coins}
use Rattle.table_trials.proofs.images.is_sound.Goals as goal

pub is_image_sound-requires-clause-few : goal.is_image_sound-requires-clause-few
is_image_sound-requires-clause-few g c =
    few_coins c.in_ok-coins.coins (names_in c.in_ok-names.names) c.in_ok-record_of.field-0 c.in-None.ensures.item c.in_ok-record_of.ensures
