-- A reply, and where its records stand.
use Rattle.std.proofs.Common.{◌≡◌, ℕ, ◌+◌, ◌-◌, List, ◌++◌, length, take, drop, ◌/◌, ◌^◌, ap, sym, ◌∙◌, arith, length-append}
use Rattle.std.proofs.lemmas.List.{take_at, drop_at, take_all}
use Rattle.dns_message.specs.Edns.{opt_of_reply, opt_size_of_reply}
use Rattle.dns_message.specs.Header.{word_text}
use Rattle.dns_message.specs.Query.{Query, question_text}
use Rattle.dns_message.specs.Replies.{head_text, additional_text, extended_of}
use Rattle.dns_message.specs.declared.numbers.TheConstants.{HEADER_SIZE}
use Rattle.dns_message.proofs.FinishLemmas.{length-opt_of_reply}
use Rattle.kept_answers.specs.Kept.{Kept, IsKept, reply_with, kept_text}
use Rattle.kept_answers.specs.Parts.{parts_text, parts_size}
use Rattle.kept_answers.specs.declared.numbers.TheConstants.{HEAD_SIZE}

-- what stands behind the 8 bytes
pub behind_head : (k : Kept) (text : List ℕ) → text ≡ kept_text k → take (length text - HEAD_SIZE) (drop HEAD_SIZE text) ≡ k.records
behind_head k text is = ap (λ w. take (length w - HEAD_SIZE) (drop HEAD_SIZE w)) is ∙ take_all (length (kept_text k) - HEAD_SIZE) k.records (omega arith)

-- the reply by its parts
pub reply_by_parts : (q : Query) (k : Kept) → IsKept k → parts_text q (head_text q k.rcode k.aa k.tc k.answers k.authorities) k.records ≡ reply_with q k
reply_by_parts q k is =
    let none : k.rcode / 2 ^ 4 ≡ 0 = omega (arith, is.rcode) in
    ap (λ extended. head_text q k.rcode k.aa k.tc k.answers k.authorities ++ (question_text q ++ (k.records ++ opt_of_reply q.edns extended))) (sym none)

pub length-reply_with : (q : Query) (k : Kept) → length (reply_with q k) ≡ parts_size q (head_text q k.rcode k.aa k.tc k.answers k.authorities) k.records
length-reply_with q k =
    let additional = additional_text q (extended_of k.rcode) in
    omega (arith, length-append (question_text q) (k.records ++ additional), length-append k.records additional, length-opt_of_reply q.edns (extended_of k.rcode))

-- what stands between the question and the OPT record
pub records_of : (q : Query) (k : Kept) (text : List ℕ) (start end : ℕ) → text ≡ reply_with q k
    → start ≡ HEADER_SIZE + length q.name + 4 → end ≡ length text - opt_size_of_reply q.edns → take (end - start) (drop start text) ≡ k.records
records_of q k text start end is s e =
    let head = head_text q k.rcode k.aa k.tc k.answers k.authorities in
    let additional = additional_text q (extended_of k.rcode) in
    let question = length-append q.name (word_text q.kind ++ word_text q.«class») in
    let behind : drop start text ≡ k.records ++ additional =
    ap (drop start) is ∙ drop_at (head ++ question_text q) (k.records ++ additional) start (omega (arith, question)) in
    let size = ap length is ∙ length-reply_with q k in
    ap (take (end - start)) behind ∙ take_at k.records additional (end - start) (omega (arith, question, size))
