use Rattle.std.proofs.Common.{◌≡◌, List, ℕ, [], ◌∷◌, ◌++◌, ◌+◌, get_or, drop, subst, ap}
use Rattle.std.proofs.lemmas.List.{drop_all}
use Rattle.std.proofs.lemmas.Result.{err_from_is_err_and}
use Rattle.frame_loop.specs.Delivery.{TookPart}
use Rattle.hex.specs.Hex.{encode_lower, encode_with}
use Rattle.name_report.specs.Page.{outgoing, PutAll}
use Rattle.name_report.proofs.PageLemmas.{Going, goes_on, stops_in, ends}
use Rattle.name_report.proofs.TextLemmas.{encode_lower-next}
use Rattle.name_report.proofs.lines.put_digits.Goals as goal

pub returns-in_err-put : goal.returns-in_err-put
returns-in_err-put g c =
    let old = outgoing (g.K.Sink.seen c.args.sink.now) c.args.page.now in
    let mid = outgoing (g.K.Sink.seen c.loop-byte.sink) c.loop-byte.page in
    let now = outgoing (g.K.Sink.seen c.put.new.sink) c.put.new.self in
    let bytes = c.args.bytes.now in
    let i = c.loop-byte.byte-index in
    let whole = encode_lower bytes in
    let digits : c.encode_to_slice.new.output ≡ encode_lower (get_or bytes i 0 ∷ []) = c.in-Ok.ensures.written in
    let p = err_from_is_err_and c.from_residual.result c.from_residual.ensures.1 in
    rw p.1 (stops_in old mid now whole (encode_lower (get_or bytes i 0 ∷ [])) (encode_lower (drop (i + 1) bytes))
    (subst (Going old mid whole) (encode_lower-next bytes i c.loop-byte-test.true) c.loop-byte.invariant)
    (subst (λ (d : List ℕ). TookPart mid.seen now.seen (mid.held ++ d)) digits c.in_err-put.ensures))

pub loop-byte-preserved : goal.loop-byte-preserved
loop-byte-preserved g c =
    let old = outgoing (g.K.Sink.seen c.args.sink.now) c.args.page.now in
    let mid = outgoing (g.K.Sink.seen c.loop-byte.sink) c.loop-byte.page in
    let now = outgoing (g.K.Sink.seen c.put.new.sink) c.put.new.self in
    let bytes = c.args.bytes.now in
    let i = c.loop-byte.byte-index in
    let whole = encode_lower bytes in
    let digits : c.encode_to_slice.new.output ≡ encode_lower (get_or bytes i 0 ∷ []) = c.in-Ok.ensures.written in
    goes_on old mid now whole (encode_lower (get_or bytes i 0 ∷ [])) (encode_lower (drop (i + 1) bytes))
    (subst (Going old mid whole) (encode_lower-next bytes i c.loop-byte-test.true) c.loop-byte.invariant)
    (subst (PutAll mid now) digits c.in_ok-put.ensures)

pub returns : goal.returns
unfolding encode_with
returns g c =
    let old = outgoing (g.K.Sink.seen c.args.sink.now) c.args.page.now in
    let now = outgoing (g.K.Sink.seen c.loop-byte.sink) c.loop-byte.page in
    let whole = encode_lower c.args.bytes.now in
    ends old now whole (subst (Going old now whole) (ap encode_lower (drop_all c.loop-byte.byte-index c.args.bytes.now c.loop-byte-test.false)) c.loop-byte.invariant)
