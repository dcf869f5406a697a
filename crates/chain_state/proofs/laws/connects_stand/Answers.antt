use Rattle.chain_state.proofs.StandingLemmas.{connects, same_stands, abandoned_same}
use Rattle.chain_state.proofs.laws.connects_stand.Goals as goal

pub returns-clause-committed : goal.returns-clause-committed
returns-clause-committed c = λ base start blocks old new staged bytes block s is short on connected. connects base start blocks bytes old staged (record { stands = s; block = block; is_block = is; short = short; on = on }) new connected

pub returns-clause-abandoned : goal.returns-clause-abandoned
returns-clause-abandoned c = λ base start blocks old new staged block s on abandoned.
    same_stands base start blocks old new s (abandoned_same old new block staged on abandoned)
