use Rattle.std.proofs.lemmas.Result.{err_from_is_err_and}
use Rattle.bridge_commands.specs.SelfTest.{lacking}
use Rattle.bridge_commands.proofs.self_test.play_counted.Goals as goal

pub returns-in_err-reply : goal.returns-in_err-reply
returns-in_err-reply g c = let p = err_from_is_err_and c.from_residual.result c.from_residual.ensures.1 in rw (p.1, p.2) lacking

pub returns-in_err-disk : goal.returns-in_err-disk
returns-in_err-disk g c = let p = err_from_is_err_and c.from_residual-in_err-disk.result c.from_residual-in_err-disk.ensures.1 in rw (p.1, p.2) lacking

pub returns : goal.returns
returns g c = lacking
