use Rattle.std.proofs.Common.{List, ℕ, subst, refl}
use Rattle.bridge_commands.specs.Playing.{AsksTwice}
use Rattle.bridge_commands.proofs.playing.play_round.Goals as goal

pub returns-in-Ok : goal.returns-in-Ok
returns-in-Ok g c = record {
  mid = c.in_ok-bridge.bridge;
  requests = c.in_ok-bridge.ensures;
  answers = c.in-Ok.more;
  asks = subst (λ (message : List ℕ). AsksTwice c.in_ok-bridge.bridge message c.ask_twice.new.bridge c.in-Ok.more) c.as_slice.ensures c.in-Ok.ensures.asks;
  answers_are = refl;
  saves_are = c.counted_with.ensures;
}
