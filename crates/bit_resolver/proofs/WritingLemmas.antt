-- Records of a reply, one after the other.
use Rattle.std.proofs.Common.{◌≡◌, List, [], ◌∷◌, ◌++◌, ap, append_assoc}
use Rattle.std.proofs.lemmas.List.{append-nil}
use Rattle.dns_message.specs.Records.{Record}
use Rattle.dns_message.specs.Replies.{Contents}
use Rattle.dns_message.specs.Holding.{with_record, with_records, MayAdd}
use Rattle.dns_message.specs.declared.counts.Section.{Section}
use Rattle.dns_message.specs.declared.counts.Section.TheVariants.{Answer, Authority}

pub with_records-nil : (section : Section) (t : Contents) → with_records section [] t ≡ t
with_records-nil Answer t = ap (λ rs. record { query = t.query; answer = rs; authority = t.authority }) (append-nil t.answer)
with_records-nil Authority t = ap (λ rs. record { query = t.query; answer = t.answer; authority = rs }) (append-nil t.authority)

pub with_record-with_records : (section : Section) (r : Record) (rs : List Record) (t : Contents)
    → with_record section r (with_records section rs t) ≡ with_records section (rs ++ r ∷ []) t
with_record-with_records Answer r rs t = ap (λ all. record { query = t.query; answer = all; authority = t.authority }) (append_assoc t.answer rs (r ∷ []))
with_record-with_records Authority r rs t = ap (λ all. record { query = t.query; answer = t.answer; authority = all }) (append_assoc t.authority rs (r ∷ []))

pub may_add_more : (section : Section) (rs : List Record) (t : Contents) → MayAdd section t → MayAdd section (with_records section rs t)
may_add_more Answer rs t may = may
may_add_more Authority rs t may = may
