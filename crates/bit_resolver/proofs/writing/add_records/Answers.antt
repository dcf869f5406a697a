use Rattle.std.proofs.Common.{◌≡◌, map, take, get_or, sym, ap, ap₂, subst, ◌∙◌}
use Rattle.std.proofs.lemmas.List.{map_more}
use Rattle.dns_message.specs.Records.{record_of}
use Rattle.dns_message.specs.Holding.{Holds, with_record, with_records}
use Rattle.bit_resolver.specs.Replies.{written}
use Rattle.bit_resolver.proofs.WritingLemmas.{with_record-with_records, may_add_more}
use Rattle.bit_resolver.proofs.writing.add_records.Goals as goal

pub loop-record-preserved : goal.loop-record-preserved
loop-record-preserved c =
    let section = c.args.section in
    let i = c.loop-record.record-index in
    let item = c.record-item.result in
    let so_far = map written (take i c.args.records.now) in
    let read : record_of c.as_slice.result.now item.kind c.as_slice-in-loop-record.result.now ≡ written (get_or c.args.records.now i item) =
    ap₂ (λ owner rdata. record_of owner item.kind rdata) c.as_slice.ensures c.as_slice-in-loop-record.ensures ∙ ap written c.record-item.is in
    record {
      each = λ t h may.
          subst (λ u. Holds u c.add_wire.new.self c.add_wire.new.buf)
          (ap (λ r. with_record section r (with_records section so_far t)) read
          ∙ with_record-with_records section (written (get_or c.args.records.now i item)) so_far t
          ∙ ap (λ rs. with_records section rs t) (sym (map_more written c.args.records.now i item c.loop-record-test.true)))
          (c.add_wire.ensures.holds (with_records section so_far t) (c.loop-record.invariant.each t h may) (may_add_more section so_far t may));
      limit = c.add_wire.ensures.limit ∙ c.loop-record.invariant.limit;
    }
