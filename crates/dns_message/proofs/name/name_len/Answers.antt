use Rattle.std.proofs.Common.{◌∷◌, sym, ap, ◌∙◌, arith}
use Rattle.domain_text.specs.Reading.{name_length}
use Rattle.dns_message.proofs.LabelLemmas.{is_too_long, is_cut, goes_on}
use Rattle.dns_message.proofs.name.name_len.Goals as goal

pub returns-then-not-is_label_length : goal.returns-then-not-is_label_length
returns-then-not-is_label_length c =
    is_too_long c.loop-byte.len c.from-length.result c.in-Some.more.now c.loop-byte.rest.now (name_length 0 c.args.bytes.now)
    (c.in-Some.ensures.cases.0 ∙ ap (λ b. b ∷ c.in-Some.more.now) (sym c.from-length.ensures)) c.loop-byte.invariant.1 c.if-length-eq0.false
    (λ few. absurd (cc (c.if-not-is_label_length.true, c.is_label_length.ensures.1 few)))

pub returns-then-length-more : goal.returns-then-length-more
returns-then-length-more c =
    is_cut c.loop-byte.len c.from-length.result c.in-Some.more.now c.loop-byte.rest.now (name_length 0 c.args.bytes.now)
    (c.in-Some.ensures.cases.0 ∙ ap (λ b. b ∷ c.in-Some.more.now) (sym c.from-length.ensures)) c.loop-byte.invariant.1 c.if-length-eq0.false
    (c.is_label_length.ensures.0 c.if-not-is_label_length.false) c.if-length-more.true

pub loop-byte-preserved : goal.loop-byte-preserved
loop-byte-preserved c = (
  omega (arith, c.loop-byte.invariant.0, c.in-Some.ensures.cases.1, c.split_at.ensures.back_len),
  goes_on c.loop-byte.len c.from-length.result c.in-Some.more.now c.loop-byte.rest.now (name_length 0 c.args.bytes.now)
      (c.in-Some.ensures.cases.0 ∙ ap (λ b. b ∷ c.in-Some.more.now) (sym c.from-length.ensures)) c.loop-byte.invariant.1 c.if-length-eq0.false
      c.split_at.result.1.now (c.is_label_length.ensures.0 c.if-not-is_label_length.false) c.split_at.ensures.back,
)
