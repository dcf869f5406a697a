-- What is kept of an answer: it serves each who asks the same, and gives the reply to that.
use Rattle.std.proofs.Common.{◌≡◌, ℕ, ◌+◌, ◌≤◌, length, is_some, List, ◌++◌, reverse, Option, Some, None, refl, ap, subst, ◌∙◌, arith, length-append}
use Rattle.std.proofs.lemmas.List.{length-map}
use Rattle.std.specs.Char.{to_ascii_lowercase}
use Rattle.domain_text.specs.Names.{IsName}
use Rattle.dns_message.specs.Edns.{opt_size_of_reply}
use Rattle.dns_message.specs.Header.{word_text}
use Rattle.dns_message.specs.Query.{Query, question_text}
use Rattle.dns_message.specs.Replies.{additional_text, extended_of}
use Rattle.dns_message.specs.declared.edns.Edns.{Edns}
use Rattle.dns_message.specs.declared.numbers.TheConstants.{LEAST_LIMIT, GREATEST_LIMIT, HEADER_SIZE}
use Rattle.dns_message.proofs.FinishLemmas.{length-opt_of_reply}
use Rattle.dns_message.proofs.ReplyLaws.{length-reply_text}
use Rattle.import_expand.specs.Sources.{Live}
use Rattle.bit_resolver.specs.Answers.{Answer, answer_at, answer_to}
use Rattle.bit_resolver.specs.Places.{labels_of, place_of, place_up}
use Rattle.bit_resolver.specs.Replies.{contents_of, answer_text}
use Rattle.bit_resolver.specs.declared.zone.Zone.{Zone}
use Rattle.kept_answers.specs.Kept.{Kept, IsKept, AskAlike, reply_with, kept_reply}
use Rattle.kept_answers.proofs.KeptLaws.{kept_alike, kept_fits, reply_kept}
use Rattle.kept_answers.specs.Answering.{key_for, kept_answer}
use Rattle.kept_answers.specs.Whole.{opt_size}
use Rattle.kept_answers.proofs.RcodeLemmas.{small_rcode}

module _ (live : Live) (z : Zone) where
  -- ---- for each who asks the same

  same_answer : (p q : Query) → AskAlike p q → answer_to live z p ≡ answer_to live z q
  same_answer p q alike =
      ap (λ kind. answer_at live z kind p.«class» (place_of p.name)) alike.kind
      ∙ ap (λ («class» : ℕ). answer_at live z q.kind «class» (place_of p.name)) alike.«class»
      ∙ ap (λ wire. answer_at live z q.kind q.«class» (place_up (reverse (labels_of wire)))) alike.name

  pub same_kept : (limit : ℕ) (p q : Query) → AskAlike p q → kept_answer live z limit p ≡ kept_answer live z limit q
  same_kept limit p q alike =
      let a = answer_to live z q in
      ap (λ (b : Answer). kept_reply limit (contents_of p b) b.rcode b.aa) (same_answer p q alike)
      ∙ kept_alike limit (contents_of p a) (contents_of q a) a.rcode a.aa alike refl refl

  -- ---- the reply

  module _ (limit : ℕ) (q : Query) where
    pub answer_kept : answer_text limit q (answer_to live z q) ≡ reply_with q (kept_answer live z limit q)
    answer_kept = let a = answer_to live z q in reply_kept limit (contents_of q a) a.rcode a.aa

    pub answer_fits : limit ≤ GREATEST_LIMIT → IsKept (kept_answer live z limit q)
    answer_fits greatest = let a = answer_to live z q in kept_fits limit (contents_of q a) a.rcode a.aa greatest (small_rcode live z q)

    pub answer_within : LEAST_LIMIT ≤ limit → IsName q.name → length (reply_with q (kept_answer live z limit q)) ≤ limit
    answer_within least name =
        let a = answer_to live z q in
        subst (λ (text : List ℕ). length text ≤ limit) answer_kept (length-reply_text limit (contents_of q a) a.rcode a.aa least name)

-- ---- how long it is

same_size : (edns : Option Edns) → opt_size (is_some edns) ≡ opt_size_of_reply edns
same_size None = refl
same_size (Some e) = refl

pub length-reply_with : (q : Query) (k : Kept) → length (reply_with q k) ≡ HEADER_SIZE + (length q.name + 4) + (length k.records + opt_size (is_some q.edns))
length-reply_with q k =
    let extended = extended_of k.rcode in
    let additional = additional_text q extended in
    omega (
      arith,
      length-append (question_text q) (k.records ++ additional),
      length-append k.records additional,
      length-append q.name (word_text q.kind ++ word_text q.«class»),
      length-opt_of_reply q.edns extended,
      same_size q.edns,
    )

-- a reply to a question of the key is as long as one to any other
pub as_long : (accepted limit : ℕ) (q : Query) (k : Kept) → let key = key_for accepted limit q in
    length (reply_with q k) ≡ HEADER_SIZE + (length key.name + 4) + (length k.records + opt_size key.edns)
as_long accepted limit q k = omega (arith, length-reply_with q k, length-map q.name to_ascii_lowercase)
