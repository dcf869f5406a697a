use Rattle.std.proofs.Common.{◌≡◌, map, refl, ap, ◌∙◌}
use Rattle.dns_message.specs.Query.{query_of}
use Rattle.dns_message.specs.Replies.{without_records, reply_text}
use Rattle.dns_message.specs.Holding.{with_records}
use Rattle.dns_message.specs.declared.counts.Section.TheVariants.{Answer, Authority}
use Rattle.bit_resolver.specs.Ends.{seen_sections}
use Rattle.bit_resolver.specs.Replies.{written, contents_of}
use Rattle.bit_resolver.proofs.writing.put_answer.Goals as goal

pub add_records-requires-2 : goal.add_records-requires-2
add_records-requires-2 c =
    let asked = without_records (query_of c.args.asked.now) in
    record { holds = (with_records Answer (map written c.as_slice.result.now) asked, c.add_records.ensures.holds asked c.new-reply.ensures.holds refl, tt) }

pub finish-requires : goal.finish-requires
finish-requires c =
    let asked = without_records (query_of c.args.asked.now) in
    let answered = with_records Answer (map written c.as_slice.result.now) asked in (
      with_records Authority (map written c.as_slice-2.result.now) answered,
      c.add_records-2.ensures.holds answered (c.add_records.ensures.holds asked c.new-reply.ensures.holds refl) tt,
    )

pub returns-clause-text : goal.returns-clause-text
returns-clause-text c =
    let q = query_of c.args.asked.now in
    let s = seen_sections c.args.sections.now in
    let asked = without_records q in
    let answered = with_records Answer (map written c.as_slice.result.now) asked in
    let all = with_records Authority (map written c.as_slice-2.result.now) answered in
    let held = c.add_records-2.ensures.holds answered (c.add_records.ensures.holds asked c.new-reply.ensures.holds refl) tt in
    let limit = c.add_records-2.ensures.limit ∙ c.add_records.ensures.limit ∙ c.new-reply.ensures.limit in
    let said : all ≡ contents_of q s =
    ap (λ rs. record { query = q; answer = map written rs; authority = map written c.as_slice-2.result.now }) c.as_slice.ensures.value
    ∙ ap (λ rs. record { query = q; answer = map written s.answer; authority = map written rs }) c.as_slice-2.ensures.value in
    c.finish.ensures.text all held ∙ ap (λ most. reply_text most all s.rcode s.aa) limit ∙ ap (λ t. reply_text c.args.limit t s.rcode s.aa) said
