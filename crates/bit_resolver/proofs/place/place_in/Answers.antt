use Rattle.std.proofs.Common.{sym, ap, ◌∙◌, ◌++◌, ◌∷◌, []}
use Rattle.domain_text.specs.Names.{lower}
use Rattle.bit_resolver.specs.Places.{labels_of, below}
use Rattle.bit_resolver.proofs.PlaceLemmas.{labels_start, label_below, label_more, named_more, labels_end}
use Rattle.bit_resolver.proofs.place.place_in.Goals as goal

pub loop-label-init : goal.loop-label-init
loop-label-init c = (c.requires, labels_start c.args.wire.now _ c.requires (λ e. absurd (cc (c.if-is_apex.false, c.is_apex.ensures.1 e))) c.new-path.ensures.items)

pub returns-then-is_apex-2 : goal.returns-then-is_apex-2
returns-then-is_apex-2 c =
    ap (λ x. below (record { x = x; path = c.loop-label.path.items })) c.in_ok-label.ensures
    ∙ sym (label_below (labels_of (lower c.args.wire.now)) c.loop-label.path.items c.loop-label.rest.now c.in-Some.label.now c.in-Some.more.now c.loop-label.invariant.0 c.loop-label.invariant.1 (sym c.in-Some.ensures) (c.is_apex-in-Some.ensures.0 c.if-is_apex-2.true))

pub loop-label-preserved : goal.loop-label-preserved
loop-label-preserved c = (
  named_more c.loop-label.rest.now c.in-Some.label.now c.in-Some.more.now c.loop-label.invariant.0 (sym c.in-Some.ensures),
  label_more (labels_of (lower c.args.wire.now)) c.loop-label.path.items _ c.loop-label.rest.now c.in-Some.label.now c.in-Some.more.now c.loop-label.invariant.0 c.loop-label.invariant.1 (sym c.in-Some.ensures)
      (λ e. absurd (cc (c.if-is_apex-2.false, c.is_apex-in-Some.ensures.1 e))) (c.in_ok-push.ensures.items ∙ ap (λ x. c.loop-label.path.items ++ (x ∷ [])) c.in_ok-label.ensures),
)

pub returns : goal.returns
returns c = sym (labels_end (labels_of (lower c.args.wire.now)) c.loop-label.path.items c.loop-label.rest.now c.loop-label.invariant.0 c.loop-label.invariant.1 (sym c.in_default.ensures))
