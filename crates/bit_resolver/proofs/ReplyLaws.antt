-- What holds of every reply.
use Rattle.std.proofs.Common.{◌≡◌, ℕ, ◌≤◌, List, length, false, Option, Some, None, take, refl, sym, ap, subst, ◌∙◌, arith}
use Rattle.std.proofs.lemmas.Option.{none-some, same_Some}
use Rattle.domain_text.specs.Names.{IsName}
use Rattle.dns_message.specs.Limits.{limit_of}
use Rattle.dns_message.specs.Query.{Query, Reading}
use Rattle.dns_message.specs.Query.Reading.{Dropped, NotImplemented, FormatError, BadVersion, Asks}
use Rattle.dns_message.specs.Reading.{reading_of}
use Rattle.dns_message.specs.Replies.{without_records, reply_text, bad_version_text, bare_text}
use Rattle.dns_message.specs.ReplyLaws.{IsHeaded}
use Rattle.dns_message.specs.declared.rcode.TheConstants.{SERVFAIL, FORMERR, NOTIMP}
use Rattle.dns_message.specs.declared.numbers.TheConstants.{LEAST_LIMIT}
use Rattle.dns_message.specs.declared.transport.Transport.{Transport}
use Rattle.dns_message.proofs.HeaderLaws.{AreBytes}
use Rattle.dns_message.proofs.QueryLaws.{asks_query, bad_version_query}
use Rattle.dns_message.proofs.ReplyLaws.{length-reply_text, length-bad_version_text, reply_text-without_records, limit_between, reading_of-reply_text, reading_of-bad_version_text, reading_of-whole_text, reading_of-bare_text, reply_headed}
use Rattle.import_expand.specs.Sources.{Live}
use Rattle.bit_resolver.specs.Answers.{Answer, answer_to}
use Rattle.bit_resolver.specs.declared.zone.Zone.{Zone}
use Rattle.bit_resolver.specs.Replies.{contents_of, answer_text, reply_for, dns_reply, limit_for, failure_text, replied_size, IsReplied, MayReply}
use Rattle.bit_resolver.specs.declared.replying.Replied.{Replied}
use Rattle.bit_resolver.specs.declared.replying.Replied.TheVariants as replied
use Rattle.bit_resolver.specs.Replies.MayReply.{replies, lacks_memory}

-- ---- SERVFAIL

-- it is never truncated
pub failure_fits : (limit : ℕ) (q : Query) → LEAST_LIMIT ≤ limit → IsName q.name → reply_text limit (without_records q) SERVFAIL false ≡ failure_text q
failure_fits limit q least name = reply_text-without_records limit q SERVFAIL false least name

-- ---- what a message may be answered with

-- a question's answer, or SERVFAIL, answers its message
pub may_reply : (live : Live) (z : Zone) (transport : Transport) (bytes : List ℕ) (q : Query) (r : Replied) (buffer : List ℕ) → Asks q ≡ reading_of bytes
    → IsReplied live z (limit_of transport q) q r buffer → MayReply live z transport bytes (Some (take (replied_size r) buffer))
unfolding dns_reply
may_reply live z transport bytes q (replied.Answer size) buffer e h = replies (ap Some h ∙ ap (reply_for live z transport) e)
may_reply live z transport bytes q (replied.Failure size) buffer e h = lacks_memory q (sym e) (ap Some h)

-- what is told of a message that asks no question
pub reply_is : (live : Live) (z : Zone) (transport : Transport) (bytes : List ℕ) (r : Reading) (reply : Option (List ℕ)) → r ≡ reading_of bytes
    → reply ≡ reply_for live z transport r → MayReply live z transport bytes reply
unfolding dns_reply
reply_is live z transport bytes r reply e h = replies (h ∙ ap (reply_for live z transport) e)

-- ---- laws

dropped_of : (live : Live) (z : Zone) (transport : Transport) (r : Reading) → reply_for live z transport r ≡ None → r ≡ Dropped
dropped_of live z transport Dropped e = refl
dropped_of live z transport (NotImplemented id flags) e = absurd (none-some (bare_text id flags NOTIMP) (sym e))
dropped_of live z transport (FormatError id flags) e = absurd (none-some (bare_text id flags FORMERR) (sym e))
dropped_of live z transport (BadVersion q) e = absurd (none-some (bad_version_text q) (sym e))
dropped_of live z transport (Asks q) e = absurd (none-some (answer_text (limit_of transport q) q (answer_to live z q)) (sym e))

pub none_dropped : (live : Live) (z : Zone) (transport : Transport) (bytes : List ℕ) → dns_reply live z transport bytes ≡ None → reading_of bytes ≡ Dropped
unfolding dns_reply
none_dropped live z transport bytes e = dropped_of live z transport (reading_of bytes) e

pub dropped_none : (live : Live) (z : Zone) (transport : Transport) (bytes : List ℕ) → reading_of bytes ≡ Dropped → dns_reply live z transport bytes ≡ None
unfolding dns_reply
dropped_none live z transport bytes e = ap (reply_for live z transport) e

-- a question of the message has a name
pub record IsNamed (r : Reading) : Type 0 where
  pub asks : (q : Query) → r ≡ Asks q → IsName q.name
  pub bad_version : (q : Query) → r ≡ BadVersion q → IsName q.name

pub reading_named : (bytes : List ℕ) → AreBytes bytes → IsNamed (reading_of bytes)
reading_named bytes are = record {
  asks = λ q e. (asks_query bytes q are (sym e)).0.question.asks.name;
  bad_version = λ q e. (bad_version_query bytes q are (sym e)).0.question.asks.name;
}

within_for : (live : Live) (z : Zone) (transport : Transport) (r : Reading) (text : List ℕ) → IsNamed r
    → Some text ≡ reply_for live z transport r → length text ≤ limit_for transport r
within_for live z transport Dropped text named e = absurd (none-some text (sym e))
within_for live z transport (NotImplemented id flags) text named e = omega (arith, ap length (same_Some text (bare_text id flags NOTIMP) e))
within_for live z transport (FormatError id flags) text named e = omega (arith, ap length (same_Some text (bare_text id flags FORMERR) e))
within_for live z transport (BadVersion q) text named e =
    omega (arith, ap length (same_Some text (bad_version_text q) e), length-bad_version_text q (named.bad_version q refl), (limit_between transport q).0)
within_for live z transport (Asks q) text named e =
    let limit = limit_of transport q in
    let a = answer_to live z q in
    subst (λ t. length t ≤ limit) (sym (same_Some text (answer_text limit q a) e))
    (length-reply_text limit (contents_of q a) a.rcode a.aa (limit_between transport q).0 (named.asks q refl))

pub reply_within : (live : Live) (z : Zone) (transport : Transport) (bytes text : List ℕ) → IsNamed (reading_of bytes)
    → MayReply live z transport bytes (Some text) → length text ≤ limit_for transport (reading_of bytes)
unfolding dns_reply
reply_within live z transport bytes text named (replies e) = within_for live z transport (reading_of bytes) text named e
reply_within live z transport bytes text named (lacks_memory q asks e) =
    let limit = limit_of transport q in
    let name = named.asks q asks in
    let least = (limit_between transport q).0 in
    subst (λ r. length text ≤ limit_for transport r) (sym asks)
    (subst (λ t. length t ≤ limit) (failure_fits limit q least name ∙ sym (same_Some text (failure_text q) e))
    (length-reply_text limit (without_records q) SERVFAIL false least name))

ends_for : (live : Live) (z : Zone) (transport : Transport) (r : Reading) (text : List ℕ) → Some text ≡ reply_for live z transport r → reading_of text ≡ Dropped
ends_for live z transport Dropped text e = absurd (none-some text (sym e))
ends_for live z transport (NotImplemented id flags) text e = ap reading_of (same_Some text (bare_text id flags NOTIMP) e) ∙ reading_of-bare_text id flags NOTIMP
ends_for live z transport (FormatError id flags) text e = ap reading_of (same_Some text (bare_text id flags FORMERR) e) ∙ reading_of-bare_text id flags FORMERR
ends_for live z transport (BadVersion q) text e = ap reading_of (same_Some text (bad_version_text q) e) ∙ reading_of-bad_version_text q
ends_for live z transport (Asks q) text e =
    let limit = limit_of transport q in
    let a = answer_to live z q in
    ap reading_of (same_Some text (answer_text limit q a) e) ∙ reading_of-reply_text limit (contents_of q a) a.rcode a.aa

pub reply_ends : (live : Live) (z : Zone) (transport : Transport) (bytes text : List ℕ) → MayReply live z transport bytes (Some text) → reading_of text ≡ Dropped
unfolding dns_reply
reply_ends live z transport bytes text (replies e) = ends_for live z transport (reading_of bytes) text e
reply_ends live z transport bytes text (lacks_memory q asks e) =
    ap reading_of (same_Some text (failure_text q) e) ∙ reading_of-whole_text (without_records q) SERVFAIL false

-- ---- its header

pub answer_headed : (limit : ℕ) (q : Query) (a : Answer) → IsHeaded q a.rcode a.aa (answer_text limit q a)
answer_headed limit q a = reply_headed limit (contents_of q a) a.rcode a.aa
