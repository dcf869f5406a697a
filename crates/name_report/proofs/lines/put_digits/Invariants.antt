use Rattle.std.proofs.Common.{drop}
use Rattle.hex.specs.Hex.{encode_lower}
use Rattle.name_report.specs.Page.{outgoing}
use Rattle.name_report.proofs.PageLemmas.{Going}
use Rattle.name_report.proofs.lines.put_digits.Given as goal

abbrev pub invariant-loop-byte : goal.invariant-loop-byte
invariant-loop-byte g l =
    Going (outgoing (g.K.Sink.seen l.fn.sink) l.fn.page) (outgoing (g.K.Sink.seen l.sink) l.page) (encode_lower l.bytes) (encode_lower (drop l.byte-index l.bytes))
