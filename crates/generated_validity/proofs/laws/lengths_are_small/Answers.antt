use Rattle.std.proofs.Common.{arith}
use Rattle.generated_validity.proofs.Areas.{blocks_short, not_full, room_next, saved_room}
use Rattle.generated_validity.proofs.Images.{no_long_text}
use Rattle.generated_validity.proofs.laws.lengths_are_small.Goals as goal

pub returns-clause-image : goal.returns-clause-image
returns-clause-image c = no_long_text

pub returns-clause-blocks : goal.returns-clause-blocks
returns-clause-blocks c = λ seed blocks low. blocks_short seed blocks (omega (arith, low))

pub returns-clause-room : goal.returns-clause-room
returns-clause-room c = not_full

pub returns-clause-area : goal.returns-clause-area
returns-clause-area c = room_next

pub returns-clause-saved : goal.returns-clause-saved
returns-clause-saved c = saved_room
