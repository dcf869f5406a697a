use Rattle.std.proofs.Common.{arith, ap, ◌∙◌, length-drop, sym, drop, option_map, ◌++◌, take}
use Rattle.domain_text.proofs.Ipv6Laws.{no_gap_in_one}
use Rattle.domain_text.proofs.ipv6.gap.Goals as goal

pub returns : goal.returns
returns c = ap (option_map (λ p. (take c.loop-at.at c.args.text.now ++ p.0, p.1))) (sym (no_gap_in_one (drop c.loop-at.at c.args.text.now) (omega (arith, length-drop c.loop-at.at c.args.text.now)))) ∙ c.loop-at.invariant.found
