use Rattle.std.proofs.Common.{◌∷◌}
use Rattle.chain_state.proofs.StandingLemmas.{connects, disconnects}
use Rattle.chain_state.proofs.RefusalLemmas.{valid_unrefused, refuses_by_chain}
use Rattle.chain_state.proofs.UndoLemmas.{one_index}
use Rattle.chain_state.proofs.laws.connecting_again_redoes.Goals as goal

pub returns-clause-unrefused : goal.returns-clause-unrefused
returns-clause-unrefused c = λ base start bytes blocks old back gone block hash refusal s is off disconnected refused.
    let below = disconnects old gone (record { staged = back; hash = hash; on = off; gone = disconnected }) base start bytes blocks s in
    valid_unrefused base start blocks bytes block is s.valid.0 refusal (refuses_by_chain base start blocks gone below bytes block is refusal refused)

pub returns-clause-same : goal.returns-clause-same
returns-clause-same c = λ base start bytes blocks old back gone again staged block hash s is off disconnected on connected.
    let below = disconnects old gone (record { staged = back; hash = hash; on = off; gone = disconnected }) base start bytes blocks s in
    one_index base start (bytes ∷ blocks) again old
    (connects base start blocks bytes gone staged (record { stands = below; block = block; is_block = is; short = s.valid.0.short; on = on }) again connected) s
