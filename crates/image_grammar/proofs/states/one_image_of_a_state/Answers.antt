use Rattle.image_grammar.proofs.StateLaws.{one_image-state, one_text-state}
use Rattle.image_grammar.proofs.states.one_image_of_a_state.Goals as goal

pub returns : goal.returns
returns c = record { image = one_image-state; text = one_text-state }
