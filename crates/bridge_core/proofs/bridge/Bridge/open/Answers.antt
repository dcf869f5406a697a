use Rattle.std.proofs.Common.{refl}
use Rattle.disk_model.specs.Moments.{start}
use Rattle.disk_model.proofs.ImageLemmas.{keeps_unchanged}
use Rattle.bridge_core.proofs.BridgedLemmas.{stands_first}
use Rattle.bridge_core.proofs.bridge.Bridge.open.Goals as goal

pub returns-in-Err-clause-time : goal.returns-in-Err-clause-time
returns-in-Err-clause-time g c = λ tells. keeps_unchanged (start refl)

-- the desk is new, so it keeps no answer
pub returns-in-Ok-open-clause-runs : goal.returns-in-Ok-open-clause-runs
returns-in-Ok-open-clause-runs g c = λ tells run stands. stands_first _ run c.in-Ok.ensures ((c.in-Ok-open.ensures.answer tells).follows run stands)
