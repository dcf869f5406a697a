-- A question that is asked twice behind a command: the first time its answer isn't kept, and the second time it is, unless memory was wanting.
use Rattle.std.proofs.Common.{◌≡◌, ℕ, suc, ◌+◌, ◌-◌, ◌*◌, ◌^◌, ◌<◌, ◌≤◌, ◌%◌, false, List, ◌++◌, length, Contains, Option, Some, None, sym, ap, subst, ◌∙◌, arith}
use Rattle.std.proofs.lemmas.Option.{none-some}
use Rattle.feed_frames.specs.Replies.{Reply}
use Rattle.lru.specs.LruCache.{lru_cache}
use Rattle.lru.proofs.CallerLemmas.{lookup-put_entries}
use Rattle.answer_cache.specs.Cached.{Cached, held, found, behind_put, behind_want, counted}
use Rattle.answer_cache.specs.Keys.{same_key}
use Rattle.answer_cache.specs.KeyLaws.{same_key-equivalence}
use Rattle.answer_cache.specs.declared.cache_key.CacheKey.{CacheKey}
use Rattle.domain_text.specs.Names.{IsName}
use Rattle.dns_message.specs.Header.{IsHeader, flags_of_reply}
use Rattle.dns_message.specs.Edns.{additionals_of_reply}
use Rattle.dns_message.specs.Limits.{limit_of, udp_limit}
use Rattle.dns_message.specs.Query.{Query}
use Rattle.dns_message.specs.Query.Reading.{Asks}
use Rattle.dns_message.specs.Reading.{reading_of}
use Rattle.dns_message.specs.Replies.{header_by, without_records, body_text, additional_text, extended_of}
use Rattle.dns_message.specs.declared.numbers.TheConstants.{LEAST_LIMIT}
use Rattle.dns_message.specs.declared.rcode.TheConstants.{SERVFAIL}
use Rattle.dns_message.specs.declared.transport.Transport.TheVariants.{Udp}
use Rattle.dns_message.proofs.HeaderLaws.{header_at-header_text}
use Rattle.import_expand.specs.Sources.{Live}
use Rattle.bit_resolver.specs.Replies.{failure_text}
use Rattle.bit_resolver.specs.declared.zone.Zone.{Zone}
use Rattle.kept_answers.specs.Kept.{kept_text}
use Rattle.kept_answers.specs.Answering.{Answering, Keeps, Looks, Stores, key_for, kept_answer, last_count, with_cache}
use Rattle.kept_answers.specs.Answering.Keeps.{unasked, asked}
use Rattle.kept_answers.specs.Answering.Looks.{hit, answered, failed}
use Rattle.kept_answers.specs.Answering.Stores.{done, lacked, long}
use Rattle.kept_answers.specs.declared.limits.TheConstants.{LONGEST_KEPT}
use Rattle.kept_answers.proofs.AnswerLemmas.{answer_within, length-reply_with}
use Rattle.kept_answers.proofs.KeepingLemmas.{held_is_kept}
use Rattle.chain_commands.specs.RunState.{RunState, chain_of}
use Rattle.bridge_core.specs.Querying.{served_on, zone_on, query_reply}
use Rattle.bridge_core.specs.Bridged.{Bridged, StandsFor}
use Rattle.bridge_commands.specs.Playing.{AsksTwice, rcode_in}

-- ---- the question

-- a plain question for an address: of the class IN, without an OPT record
pub record IsPlain (q : Query) : Type 0 where
  pub in_class : q.«class» ≡ 1
  pub no_opt : q.edns ≡ None
  pub name : IsName q.name
  pub id : q.id < 2 ^ 16

-- SERVFAIL is told by its RCODE
failure_is_header : (q : Query) → IsPlain q → IsHeader (header_by q.id (flags_of_reply q.flags false false SERVFAIL) 0 0 (additionals_of_reply q.edns))
failure_is_header q is = record {
  id = is.id;
  flags = omega arith;
  questions = omega arith;
  answers = omega arith;
  authorities = omega arith;
  additionals = omega (arith, ap additionals_of_reply is.no_opt);
}

failure_flags : (flags : ℕ) → flags_of_reply flags false false SERVFAIL % 2 ^ 4 ≡ SERVFAIL
failure_flags flags = omega arith

pub failure_rcode : (q : Query) → IsPlain q → rcode_in (failure_text q) ≡ SERVFAIL
failure_rcode q is =
    let h = header_by q.id (flags_of_reply q.flags false false SERVFAIL) 0 0 (additionals_of_reply q.edns) in
    let t = without_records q in
    let read = header_at-header_text h (body_text t ++ additional_text q (extended_of SERVFAIL)) (failure_is_header q is) in
    let flags : rcode_in (failure_text q) ≡ flags_of_reply q.flags false false SERVFAIL % 2 ^ 4 = (λ i. (read i).flags % 2 ^ 4) in
    flags ∙ failure_flags q.flags

-- its answer is short enough to be kept
pub short_answer : (live : Live) (z : Zone) (q : Query) → IsPlain q → length (kept_answer live z (limit_of Udp q) q).records ≤ LONGEST_KEPT
short_answer live z q is =
    let least : limit_of Udp q ≡ LEAST_LIMIT = ap udp_limit is.no_opt in
    let within = answer_within live z (limit_of Udp q) q (omega (arith, least)) is.name in
    omega (arith, least, within, length-reply_with q (kept_answer live z (limit_of Udp q) q))

one_question : (other q : Query) → Asks other ≡ Asks q → other ≡ q
one_question other q e = cc

-- ---- looked for once

-- The answer is kept and found; or it isn't kept, and then it is put, or memory is wanting for that.
pub data Looked (key : CacheKey) (old new : Answering) : Type 0 where
  was_held : (text : List ℕ) → held key old.cache ≡ Some text → new ≡ with_cache old (found key old.cache) → Looked key old new
  was_put : (text : List ℕ) → held key old.cache ≡ None → new ≡ with_cache old (behind_put key text old.cache) → Looked key old new
  was_lacking : held key old.cache ≡ None → new ≡ with_cache old (behind_want old.cache) → Looked key old new

module _ (live : Live) (z : Zone) (q : Query) (plain : IsPlain q) where
  abbrev limit : ℕ
  limit = limit_of Udp q

  stored : (old new : Answering) → held (key_for old.accepted limit q) old.cache ≡ None → Stores (key_for old.accepted limit q) (kept_answer live z limit q) old new → Looked (key_for old.accepted limit q) old new
  stored old new none (done few same) = was_put (kept_text (kept_answer live z limit q)) none same
  stored old new none (lacked few same) = was_lacking none same
  stored old new none (long many same) = absurd (omega (arith, many, short_answer live z q plain))

  looked_by : (old new : Answering) (text : List ℕ) → (rcode_in text ≡ SERVFAIL → ⊥) → Looks live z limit q text old new → Looked (key_for old.accepted limit q) old new
  looked_by old new text taken (hit kept is reply_is same) = was_held (kept_text kept) is same
  looked_by old new text taken (answered none reply_is stores) = stored old new none stores
  looked_by old new text taken (failed none reply_is same) = absurd (taken (ap rcode_in reply_is ∙ failure_rcode q plain))

  -- by the reply
  looked_once : (old new : Bridged) (message : List ℕ) (reply : Reply) (run : RunState) (answer : Option (List ℕ)) → reading_of message ≡ Asks q → old.answers.accepted < last_count
      → (rcode_in reply.payload ≡ SERVFAIL → ⊥) → reply ≡ query_reply answer → Keeps live z Udp (reading_of message) answer old.answers new.answers
      → Looked (key_for old.answers.accepted limit q) old.answers new.answers
  looked_once old new message reply run answer reads low taken told (unasked none same) = absurd (none q reads (record { in_class = plain.in_class; counted = low }))
  looked_once old new message reply run answer reads low taken told (asked other text is looked reply_is looks) =
      let same : other ≡ q = one_question other q (sym is ∙ reads) in
      looked_by old.answers new.answers text (λ e. taken (ap (λ (r : Reply). rcode_in r.payload) (told ∙ ap query_reply reply_is) ∙ e))
      (subst (λ (p : Query). Looks live z (limit_of Udp p) p text old.answers new.answers) same looks)

-- ---- and again

-- behind so many blocks, of each of which one question was asked twice
pub record Bounds (blocks : ℕ) (cache : Cached) : Type 0 where
  pub no_more : cache.hits ≤ blocks
  pub no_fewer : blocks ≤ cache.hits + cache.missed
  pub lacked : cache.missed ≤ 2 * blocks

counted_small : (n : ℕ) → n < 2 ^ 64 - 1 → counted n ≡ n + 1
counted_small n less = omega (arith, less)

module _ (old : Answering) (key : CacheKey) (blocks : ℕ) (low : blocks < 2 ^ 32) (b : Bounds blocks old.cache) where
  -- behind a put
  after_put : (text : List ℕ) (new : Answering) → Looked key (with_cache old (behind_put key text old.cache)) new → Bounds (suc blocks) new.cache
  after_put text new (was_held kept is same) =
      let more = counted_small old.cache.hits (omega (arith, low, b.no_more)) in
      subst (λ (a : Answering). Bounds (suc blocks) a.cache) (sym same) (record { no_more = omega (arith, more, b.no_more); no_fewer = omega (arith, more, b.no_fewer); lacked = omega (arith, b.lacked) })
  after_put text new (was_put other none same) = absurd (none-some text (sym none ∙ lookup-put_entries same_key (lru_cache old.cache.entries old.cache.cap) key text same_key-equivalence))
  after_put text new (was_lacking none same) = absurd (none-some text (sym none ∙ lookup-put_entries same_key (lru_cache old.cache.entries old.cache.cap) key text same_key-equivalence))

  -- behind a put that found no memory
  after_want : (new : Answering) → held key old.cache ≡ None → Looked key (with_cache old (behind_want old.cache)) new → Bounds (suc blocks) new.cache
  after_want new none (was_held kept is same) = absurd (none-some kept (sym none ∙ is))
  after_want new none (was_put text is same) =
      let more = counted_small old.cache.missed (omega (arith, low, b.lacked)) in
      subst (λ (a : Answering). Bounds (suc blocks) a.cache) (sym same) (record { no_more = omega (arith, b.no_more); no_fewer = omega (arith, more, b.no_fewer); lacked = omega (arith, more, b.lacked) })
  after_want new none (was_lacking is same) =
      let more = counted_small old.cache.missed (omega (arith, low, b.lacked)) in
      let again = counted_small (counted old.cache.missed) (omega (arith, low, b.lacked, more)) in
      subst (λ (a : Answering). Bounds (suc blocks) a.cache) (sym same) (record { no_more = omega (arith, b.no_more); no_fewer = omega (arith, more, again, b.no_fewer); lacked = omega (arith, more, again, b.lacked) })

-- none that is kept has the count of now
abbrev pub IsFresh : Answering → Type 0
IsFresh answers = (kept : CacheKey × List ℕ) → Contains answers.cache.entries kept → kept.0.accepted < answers.accepted

module _ (q : Query) (l blocks : ℕ) (low : blocks < 2 ^ 32) where
  twice : (old mid new : Answering) → IsFresh old → Bounds blocks old.cache → Looked (key_for old.accepted l q) old mid → Looked (key_for mid.accepted l q) mid new → Bounds (suc blocks) new.cache
  twice old mid new fresh b (was_held text is same) again = absurd (omega (arith, fresh (key_for old.accepted l q, text) (held_is_kept (key_for old.accepted l q) old.cache text is)))
  twice old mid new fresh b (was_put text none same) again =
      after_put old (key_for old.accepted l q) blocks low b text new (subst (λ (m : Answering). Looked (key_for m.accepted l q) m new) same again)
  twice old mid new fresh b (was_lacking none same) again =
      after_want old (key_for old.accepted l q) blocks low b new none (subst (λ (m : Answering). Looked (key_for m.accepted l q) m new) same again)

-- the count stays
stays_counted : (key : CacheKey) (old new : Answering) → Looked key old new → new.accepted ≡ old.accepted
stays_counted key old new (was_held text is same) = ap (λ (a : Answering). a.accepted) same
stays_counted key old new (was_put text none same) = ap (λ (a : Answering). a.accepted) same
stays_counted key old new (was_lacking none same) = ap (λ (a : Answering). a.accepted) same

-- what a question that is asked twice comes to
pub record Asked (blocks : ℕ) (old new : Bridged) : Type 0 where
  pub bounds : Bounds (suc blocks) new.answers.cache
  pub counted : new.answers.accepted ≡ old.answers.accepted

pub asked_twice : (old new : Bridged) (message : List ℕ) (answers blocks : ℕ) (q : Query) → IsPlain q → reading_of message ≡ Asks q → AsksTwice old message new answers
    → (run : RunState) → StandsFor old run → old.answers.accepted < last_count → IsFresh old.answers → blocks < 2 ^ 32 → Bounds blocks old.answers.cache → Asked blocks old new
asked_twice old new message answers blocks q plain reads a run s less fresh low b =
    let l = limit_of Udp q in
    let one = a.once.answers run s.store in
    let first = looked_once (served_on (chain_of run)) (zone_on old.store.host (chain_of run)) q plain old a.mid message a.first run one.answer reads less a.first_taken one.told one.keeps in
    let same = stays_counted (key_for old.answers.accepted l q) old.answers a.mid.answers first in
    let moved = a.once.step run s in
    let two = a.again.answers moved.new moved.stands.store in
    let second = looked_once (served_on (chain_of moved.new)) (zone_on a.mid.store.host (chain_of moved.new)) q plain a.mid new message a.second moved.new two.answer reads (omega (arith, less, same)) a.second_taken two.told two.keeps in
    record {
      bounds = twice q l blocks low old.answers a.mid.answers new.answers fresh b first second;
      counted = stays_counted (key_for a.mid.answers.accepted l q) a.mid.answers new.answers second ∙ same;
    }
