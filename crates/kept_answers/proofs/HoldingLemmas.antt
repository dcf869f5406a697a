-- Each reply that is to be kept is held, or counted as missed.
use Rattle.std.proofs.Common.{◌≡◌, ◌≢◌, ◌⊎◌, ℕ, List, Option, Some, sym, ap, subst, ◌∙◌, inl, inr}
use Rattle.dns_message.specs.Limits.{limit_of}
use Rattle.dns_message.specs.Query.{Query, Reading}
use Rattle.dns_message.specs.Query.Reading.{Asks}
use Rattle.dns_message.specs.declared.transport.Transport.{Transport}
use Rattle.import_expand.specs.Sources.{Live}
use Rattle.bit_resolver.specs.Replies.{failure_text}
use Rattle.bit_resolver.specs.declared.zone.Zone.{Zone}
use Rattle.lru.proofs.CallerLemmas.{lookup-put_entries}
use Rattle.lru.specs.LruCache.{lru_cache}
use Rattle.answer_cache.specs.declared.cache_key.CacheKey.{CacheKey}
use Rattle.answer_cache.specs.Cached.{Cached, held, found, counted}
use Rattle.answer_cache.specs.Keys.{same_key}
use Rattle.answer_cache.specs.KeyLaws.{same_key-equivalence}
use Rattle.answer_cache.proofs.HeldLemmas.{held-behind_get}
use Rattle.kept_answers.specs.Kept.{Kept, kept_text}
use Rattle.kept_answers.specs.Answering.{Answering, Holds, IsHeldOrMissed, Keeps, Looks, Stores, key_for, kept_answer}
use Rattle.kept_answers.specs.Answering.Keeps.{unasked, asked}
use Rattle.kept_answers.specs.Answering.Looks.{hit, answered, failed}
use Rattle.kept_answers.specs.Answering.Stores.{done, lacked, long}
use Rattle.kept_answers.proofs.AnswerLemmas.{answer_kept}
use Rattle.kept_answers.proofs.KeepingLemmas.{behind_hit}

-- what a look-up finds is held behind it
still_held : (key : CacheKey) (cached : Cached) (text : List ℕ) → held key cached ≡ Some text → held key (found key cached) ≡ Some text
still_held key cached text is = ap (held key) (sym (behind_hit key cached text is)) ∙ held-behind_get key key cached ∙ is

module _ (old new : Answering) where
  abbrev IsMissed : Type 0
  IsMissed = new.cache.missed ≡ counted old.cache.missed

  stored_or_missed : (key : CacheKey) (k : Kept) → Stores key k old new → (held key new.cache ≡ Some (kept_text k)) ⊎ IsMissed
  stored_or_missed key k (done few same) =
      inl (ap (λ (a : Answering). held key a.cache) same ∙ lookup-put_entries same_key (lru_cache old.cache.entries old.cache.cap) key (kept_text k) same_key-equivalence)
  stored_or_missed key k (lacked few same) = inr (ap (λ (a : Answering). a.cache.missed) same)
  stored_or_missed key k (long many same) = inr (ap (λ (a : Answering). a.cache.missed) same)

  module _ (live : Live) (z : Zone) where
    by_looks : (limit : ℕ) (q : Query) (text : List ℕ) → Some text ≢ Some (failure_text q) → Looks live z limit q text old new
        → Holds (key_for old.accepted limit q) q (Some text) new.cache ⊎ IsMissed
    by_looks limit q text taken (hit kept is reply_is same) = inl (record {
      kept = kept;
      held_is = ap (λ (a : Answering). held (key_for old.accepted limit q) a.cache) same ∙ still_held (key_for old.accepted limit q) old.cache (kept_text kept) is;
      reply_is = ap Some reply_is;
    })
    by_looks limit q text taken (answered none reply_is stores) =
        elim (stored_or_missed (key_for old.accepted limit q) (kept_answer live z limit q) stores) [
          | inl there ↦ inl (record { kept = kept_answer live z limit q; held_is = there; reply_is = ap Some (reply_is ∙ answer_kept live z limit q) })
          | inr more ↦ inr more
        ]
    by_looks limit q text taken (failed none reply_is same) = absurd (taken (ap Some reply_is))

    one_question : (other q : Query) → Asks other ≡ Asks q → other ≡ q
    one_question other q e = cc

    pub held_or_missed : (transport : Transport) (message : Reading) (reply : Option (List ℕ)) → Keeps live z transport message reply old new
        → IsHeldOrMissed transport message reply old new
    held_or_missed transport message reply (unasked none same) = λ q reads looked taken. absurd (none q reads looked)
    held_or_missed transport message reply (asked other text is first reply_is looks) = λ q reads looked taken.
        let by = subst (λ (p : Query). Looks live z (limit_of transport p) p text old new) (one_question other q (sym is ∙ reads)) looks in
        subst (λ (r : Option (List ℕ)). Holds (key_for old.accepted (limit_of transport q) q) q r new.cache ⊎ IsMissed) (sym reply_is)
        (by_looks (limit_of transport q) q text (λ e. taken (reply_is ∙ e)) by)
