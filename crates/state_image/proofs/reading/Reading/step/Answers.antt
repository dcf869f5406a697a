use Rattle.std.proofs.Common.{sym, true≢false}
use Rattle.state_image.proofs.TurnLemmas.{turn_step}
use Rattle.state_image.proofs.reading.Reading.step.Goals as goal

pub returns-clause-steps : goal.returns-clause-steps
returns-clause-steps c = turn_step c.args.self.now c.turn.new.self c.args.bytes.now c.turn.result (λ e. true≢false (sym (c.if-is_whole.ensures.1 e))) c.turn.ensures.turns
