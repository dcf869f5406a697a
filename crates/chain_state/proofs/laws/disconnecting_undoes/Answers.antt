use Rattle.chain_state.proofs.UndoLemmas.{forth_and_back}
use Rattle.chain_state.proofs.laws.disconnecting_undoes.Goals as goal

pub returns : goal.returns
returns c = λ old new back gone staged block hash indexed on connected off disconnected.
    forth_and_back old new gone indexed (record { block = block; staged = staged; on = on; connected = connected }) (record { staged = back; hash = hash; on = off; gone = disconnected })
