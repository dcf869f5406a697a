use Rattle.std.proofs.Common.{refl, arith, sym, ap, ◌∙◌, ◌-◌}
use Rattle.bit_resolver.specs.Answers.{chase}
use Rattle.bit_resolver.specs.Ends.{seen_place, seen_asked}
use Rattle.bit_resolver.proofs.ChaseLemmas.{hop, last, stop, nothing_before, holds_first, holds_last}
use Rattle.bit_resolver.proofs.ChaseLemmas.HoldsSoFar.{begun, asked}
use Rattle.import_expand.specs.Rooms.{held}
use Rattle.bit_resolver.proofs.question.chase.Goals as goal

pub returns-in-Done-clause-answer : goal.returns-in-Done-clause-answer
returns-in-Done-clause-answer g c =
    rw (sym (last (g.N.Names.served c.args.names.now) c.args.zone.now c.args.kind c.loop-left.left (c.loop-left.left - 1) c.loop-left.before.items (seen_place c.loop-left.place) _ _ (omega arith) (sym c.in_ok-last.ensures.asked ∙ ap seen_asked c.in-Done.is) c.loop-left.invariant.0)) c.in_ok-sections-in-Done.ensures

pub loop-left-preserved : goal.loop-left-preserved
loop-left-preserved g c = (
  hop (g.N.Names.served c.args.names.now) c.args.zone.now c.args.kind c.loop-left.left (c.loop-left.left - 1) c.loop-left.before.items c.in-Renamed.found.items _ (seen_place c.loop-left.place) _ c.in-Renamed.target _ _ (omega arith) (sym c.in_ok-last.ensures.asked ∙ ap seen_asked c.in-Renamed.is) c.in_ok-append-in-Renamed.ensures c.in_ok-place-in-Renamed.ensures.place refl c.loop-left.invariant.0,
  c.in_ok-place-in-Renamed.ensures.named,
  c.in_ok-last.ensures.sound,
  asked (holds_first (g.N.Names.served c.args.names.now) (held c.loop-left.room) (held c.ask.new.room) c.loop-left.left (seen_place c.loop-left.place) (seen_place c.args.first) c.loop-left.invariant.3 c.in_ok-last.ensures.held c.in_ok-last.ensures.least),
)

pub returns-in-Done-clause-least : goal.returns-in-Done-clause-least
returns-in-Done-clause-least g c = holds_first (g.N.Names.served c.args.names.now) (held c.loop-left.room) (held c.ask.new.room) c.loop-left.left (seen_place c.loop-left.place) (seen_place c.args.first) c.loop-left.invariant.3 c.in_ok-last.ensures.held c.in_ok-last.ensures.least

pub returns-clause-least : goal.returns-clause-least
returns-clause-least g c = holds_last (g.N.Names.served c.args.names.now) (held c.loop-left.room) c.loop-left.left (seen_place c.loop-left.place) (seen_place c.args.first) c.loop-left.invariant.3 (omega arith)

pub returns-clause-answer : goal.returns-clause-answer
returns-clause-answer g c =
    c.answered.ensures ∙ stop (g.N.Names.served c.args.names.now) c.args.zone.now c.args.kind c.loop-left.left c.loop-left.before.items (seen_place c.loop-left.place) _ (omega arith) c.loop-left.invariant.0

pub loop-left-init : goal.loop-left-init
loop-left-init g c = (nothing_before (chase (g.N.Names.served c.args.names.now) c.args.zone.now c.args.kind 8 (seen_place c.args.first)) c.new-before.result.items c.new-before.ensures.items, c.requires.place, c.requires.sound, begun refl refl)
