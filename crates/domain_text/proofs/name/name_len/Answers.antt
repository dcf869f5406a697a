use Rattle.std.proofs.Common.{arith, ◌∙◌}
use Rattle.domain_text.proofs.NameLengths.{in_label, at_label}
use Rattle.domain_text.proofs.name.name_len.Goals as goal
use Rattle.domain_text.proofs.name.name_len.Goals.{then-left-ne0, else-left-ne0+else-length-eq0+else-length-gt-LONGEST_LABEL}

pub loop-byte-preserved : goal.loop-byte-preserved
loop-byte-preserved c = elim c.if-left-ne0.branch [
  | then-left-ne0 w ↦ (omega (arith, c.loop-byte.invariant.0), in_label c.loop-byte.left c.loop-byte.len c.loop-byte.byte-index c.if-left-ne0.left c.args.bytes.now _ c.loop-byte-test.true w.if-left-ne0.true w.left-is c.loop-byte.invariant.1)
  | else-left-ne0+else-length-eq0+else-length-gt-LONGEST_LABEL w ↦ (omega (arith, c.loop-byte.invariant.0), at_label c.loop-byte.left c.loop-byte.len c.loop-byte.byte-index c.if-left-ne0.left c.args.bytes.now _ c.loop-byte-test.true w.if-left-ne0.false (w.left-is ∙ c.from-length.ensures) (λ z. w.if-length-eq0.false (c.from-length.ensures ∙ z)) (omega (arith, c.from-length.ensures, w.if-length-gt-LONGEST_LABEL.false)) c.loop-byte.invariant.1)
]
