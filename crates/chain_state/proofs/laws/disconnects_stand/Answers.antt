use Rattle.std.proofs.Common.{refl}
use Rattle.chain_state.proofs.StandingLemmas.{disconnects, same_stands, same_after}
use Rattle.chain_state.proofs.RefusalLemmas.{may_disconnect}
use Rattle.chain_state.proofs.laws.disconnects_stand.Goals as goal

pub returns-clause-some : goal.returns-clause-some
returns-clause-some c = λ base start old staged hash s on. (may_disconnect base start _ old s hash staged on).some refl

pub returns-clause-committed : goal.returns-clause-committed
returns-clause-committed c = λ base start bytes blocks old staged new hash s on gone. disconnects old new (record { staged = staged; hash = hash; on = on; gone = gone }) base start bytes blocks s

pub returns-clause-abandoned : goal.returns-clause-abandoned
returns-clause-abandoned c = λ base start blocks old staged new hash s on same. same_stands base start blocks old new s (same_after new staged old same on.same)
