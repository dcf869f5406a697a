-- Which answers are right.
use Rattle.std.proofs.Common.{◌≡◌, ℕ, suc, ◌≤◌, ◌<◌, List, nat_lt, if◌then◌else◌, Bool, true, false, Some, refl, sym, ap, subst, ◌∙◌, arith}
use Rattle.std.proofs.lemmas.Bool.Decides.{nat_tests}
use Rattle.domain_text.specs.Names.{IsName}
use Rattle.dns_message.specs.Query.{Query}
use Rattle.import_expand.specs.Sources.{Live}
use Rattle.bit_resolver.specs.declared.limits.TheConstants.{CLASS_IN}
use Rattle.bit_resolver.specs.declared.zone.Zone.{Zone}
use Rattle.answer_cache.specs.declared.cache_key.CacheKey.{CacheKey}
use Rattle.answer_cache.specs.Cached.{held, found, behind_put}
use Rattle.kept_answers.specs.Kept.{AskAlike, kept_text}
use Rattle.kept_answers.specs.Answering.{Answering, key_for, kept_answer, last_count, IsRightAt, AreRight, none_kept, outdated, with_cache, IsLookedFor, Stores}
use Rattle.kept_answers.specs.Answering.Stores.{done, lacked, long}
use Rattle.kept_answers.proofs.AnswerLemmas.{same_kept}
use Rattle.kept_answers.proofs.KeepingLemmas.{held_is_kept, all_found, all_put}
use Rattle.lru.proofs.Splits.{Contains-nil}

pub none_right : (live : Live) (z : Zone) → AreRight live z none_kept
none_right live z kept is = absurd (Contains-nil kept is)

-- none is of the new count, unless that stayed
newer : (old at : ℕ) → at ≤ old → (is_less : Bool) → nat_lt old last_count ≡ is_less
    → let new = (if is_less then suc old else old) in (at ≤ new) × (at ≡ new → new < last_count → ⊥)
newer old at is true e = (omega arith, λ same less. omega arith)
newer old at is false e = (is, λ same less. let least : last_count ≤ old = grind (arith, nat_tests, e) in omega arith)

pub outdated_right : (live other : Live) (z w : Zone) (answers : Answering) → AreRight live z answers → AreRight other w (outdated answers)
outdated_right live other z w answers right kept is =
    let at = newer answers.accepted kept.0.accepted (right kept is).0 (nat_lt answers.accepted last_count) refl in
    (at.0, λ same counted. absurd (at.1 same counted))

-- ---- a question that is looked for

module _ (live : Live) (z : Zone) (limit : ℕ) (q : Query) (old : Answering) (looked : IsLookedFor old q) where
  abbrev key : CacheKey
  key = key_for old.accepted limit q

  -- who asks what the key says asks the same
  alike : (p : Query) → p.«class» ≡ CLASS_IN → key ≡ key_for old.accepted limit p → AskAlike q p
  alike p in_class same = record {
    name = ap (λ (k : CacheKey). k.name) same;
    kind = ap (λ (k : CacheKey). k.kind) same;
    «class» = looked.in_class ∙ sym in_class;
    edns = ap (λ (k : CacheKey). k.edns) same;
  }

  answer_right : IsRightAt live z old.accepted (key, kept_text (kept_answer live z limit q))
  answer_right = (omega arith, λ same counted p name in_class is. ap kept_text (same_kept live z limit q p (alike p in_class is)))

  right_put : AreRight live z old → AreRight live z (with_cache old (behind_put key (kept_text (kept_answer live z limit q)) old.cache))
  right_put right = all_put (IsRightAt live z old.accepted) key old.cache right (kept_text (kept_answer live z limit q)) answer_right

  pub right_stored : (new : Answering) → AreRight live z old → Stores key (kept_answer live z limit q) old new → AreRight live z new
  right_stored new right (done few same) = subst (AreRight live z) (sym same) (right_put right)
  right_stored new right (lacked few same) = subst (AreRight live z) (sym same) right
  right_stored new right (long many same) = subst (AreRight live z) (sym same) right

  pub right_found : AreRight live z old → AreRight live z (with_cache old (found key old.cache))
  right_found right = all_found (IsRightAt live z old.accepted) key old.cache right

  -- what a look-up finds is what is kept of the answer
  pub held_right : IsName q.name → AreRight live z old → (text : List ℕ) → held key old.cache ≡ Some text → text ≡ kept_text (kept_answer live z limit q)
  held_right name right text is = (right (key, text) (held_is_kept key old.cache text is)).1 refl looked.counted q name looked.in_class refl
