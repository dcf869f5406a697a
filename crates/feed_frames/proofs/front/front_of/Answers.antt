use Rattle.std.proofs.Common.{◌≡◌, ℕ, ◌-◌, length, take, drop, get_or, refl, ap, subst, ◌∙◌, arith, rules}
use Rattle.std.proofs.Math.Seq.{take-length}
use Rattle.std.proofs.lemmas.List.{length-drop}
use Rattle.std.proofs.lemmas.Bool.{both_ways}
use Rattle.feed_frames.proofs.FrontLemmas.{unknown_front, short_front, wrong_front, cut_front, whole_front}
use Rattle.feed_frames.proofs.front.front_of.Goals as goal

pub returns-in-len1-up : goal.returns-in-len1-up
returns-in-len1-up c = unknown_front c.args.kinds c.args.bytes.now c.in-len1-up.len_at_least (λ known. both_ways c.is_kind.result c.if-not-is_kind.true (c.is_kind.ensures.1 known))

pub returns-in_default : goal.returns-in_default
returns-in_default c = short_front c.args.kinds c.args.bytes.now c.in-len1-up.len_at_least c.in_default.len_below (c.is_kind.ensures.0 c.if-not-is_kind.false)

pub returns-then-not-is_length : goal.returns-then-not-is_length
returns-then-not-is_length c =
    wrong_front c.args.kinds c.args.bytes.now c.from_le_bytes-length.result c.in-len5-up.len_at_least (λ i. omega (arith, c.type_inv.bytes i)) c.from_le_bytes-length.ensures c.from_le_bytes-length.type_inv (c.is_kind.ensures.0 c.if-not-is_kind.false) (λ allowed. both_ways c.is_length.result c.if-not-is_length.true (c.is_length.ensures.1 allowed))

pub returns-then-payload-length : goal.returns-then-payload-length
returns-then-payload-length c =
    cut_front c.args.kinds c.args.bytes.now c.from_le_bytes-length.result c.in-len5-up.len_at_least (λ i. omega (arith, c.type_inv.bytes i)) c.from_le_bytes-length.ensures (c.is_kind.ensures.0 c.if-not-is_kind.false) (c.is_length.ensures.0 c.if-not-is_length.false) (search rules)

pub returns-else-payload-length : goal.returns-else-payload-length
returns-else-payload-length c =
    let n = c.from_le_bytes-length.result in
    let behind = drop 5 c.args.bytes.now in
    let whole : take (length c.args.bytes.now - 5) behind ≡ behind = subst (λ (m : ℕ). take m behind ≡ behind) (length-drop 5 c.args.bytes.now) (take-length behind) in
    whole_front c.args.kinds c.args.bytes.now n (record { kind = get_or c.args.bytes.now 0 0; payload = c.split_at.result.0.now })
    (record { long = c.in-len5-up.len_at_least; fits = λ i. omega (arith, c.type_inv.bytes i); length_is = c.from_le_bytes-length.ensures })
    (c.is_length.ensures.0 c.if-not-is_length.false) (search rules) refl (c.split_at.ensures.front ∙ ap (take n) whole)
