-- The text of a finished reply.
use Rattle.std.proofs.Common.{◌≡◌, ℕ, ◌+◌, ◌<◌, ◌≤◌, List, ◌++◌, length, take, drop, Option, Some, None, Bool, true, false, refl, ap, ◌∙◌, arith, length-append, nat_le}
use Rattle.std.proofs.lemmas.List.{append-nil}
use Rattle.dns_message.specs.Header.{header_text, flags_of_reply}
use Rattle.dns_message.specs.Edns.{opt_of_reply, opt_size_of_reply, additionals_of_reply}
use Rattle.dns_message.specs.Query.{Query, question_text}
use Rattle.dns_message.specs.Replies.{Contents, without_records, head_text, header_by, body_text, whole_text, reply_text, additional_text, extended_of}
use Rattle.dns_message.specs.Holding.{Holds}
use Rattle.dns_message.specs.declared.numbers.TheConstants.{HEADER_SIZE}
use Rattle.dns_message.specs.declared.edns.Edns.{Edns}
use Rattle.dns_message.specs.declared.reply.Reply.{Reply}
use Rattle.dns_message.proofs.ReplyLemmas.{held_length}

is_over : (n limit : ℕ) → limit < n → nat_le n limit ≡ false
is_over n limit h = grind arith

pub is_within : (n limit : ℕ) → n ≤ limit → nat_le n limit ≡ true
is_within n limit h = grind arith

pub length-opt_of_reply : (edns : Option Edns) (extended : ℕ) → length (opt_of_reply edns extended) ≡ opt_size_of_reply edns
length-opt_of_reply None extended = refl
length-opt_of_reply (Some e) extended = refl

pub length-whole_text : (t : Contents) (rcode : ℕ) (aa : Bool) → length (whole_text t rcode aa) ≡ HEADER_SIZE + (length (body_text t) + opt_size_of_reply t.query.edns)
length-whole_text t rcode aa =
    let additional = additional_text t.query (extended_of rcode) in
    length-append (head_text t.query rcode aa false (length t.answer) (length t.authority)) (body_text t ++ additional)
    ∙ ap (λ n. HEADER_SIZE + n) (length-append (body_text t) additional ∙ ap (λ n. length (body_text t) + n) (length-opt_of_reply t.query.edns (extended_of rcode)))

pub finished_truncated : (t : Contents) (r : Reply) (buf : List ℕ) (rcode : ℕ) (aa : Bool) → Holds t r buf → r.truncated ≡ true
    → header_text (header_by r.id (flags_of_reply r.flags aa true rcode) 0 0 (additionals_of_reply r.edns)) ++ (drop HEADER_SIZE (take r.start buf) ++ opt_of_reply r.edns (extended_of rcode))
    ≡ reply_text r.limit t rcode aa
finished_truncated t r buf rcode aa h cut =
    let long = h.over cut in
    let same = ap opt_size_of_reply h.edns in
    let over = is_over (length (whole_text t rcode aa)) r.limit (omega (arith, long, same, length-whole_text t rcode aa)) in
    rw (over, h.question, h.id, h.flags, h.edns) refl

pub finished_whole : (t : Contents) (r : Reply) (buf : List ℕ) (rcode : ℕ) (aa : Bool) → Holds t r buf → r.truncated ≡ false
    → header_text (header_by r.id (flags_of_reply r.flags aa false rcode) r.counts.answers r.counts.authorities (additionals_of_reply r.edns))
    ++ (drop HEADER_SIZE (take r.len buf) ++ opt_of_reply r.edns (extended_of rcode)) ≡ reply_text r.limit t rcode aa
finished_whole t r buf rcode aa h whole =
    let size = held_length t r buf h whole in
    let same = ap opt_size_of_reply h.edns in
    let fits = is_within (length (whole_text t rcode aa)) r.limit (omega (arith, size, same, h.within, length-whole_text t rcode aa)) in
    rw (fits, h.text whole, h.id, h.flags, h.edns, h.answers whole, h.authorities whole) refl

-- a reply without records is whole
pub finished_without_records : (q : Query) (r : Reply) (buf : List ℕ) (rcode : ℕ) (aa : Bool) → Holds (without_records q) r buf
    → reply_text r.limit (without_records q) rcode aa ≡ whole_text (without_records q) rcode aa
finished_without_records q r buf rcode aa h =
    let t = without_records q in
    let same = ap opt_size_of_reply h.edns in
    let body : length (body_text t) ≡ length (question_text q) = ap length (append-nil (question_text q)) in
    let fits = is_within (length (whole_text t rcode aa)) r.limit (omega (arith, body, same, h.start, h.from, h.within, length-whole_text t rcode aa)) in
    rw fits refl
