-- What is put is whole, and what it does.
use Rattle.std.proofs.Common.{◌≡◌, ℕ, ◌≤◌, List, length, Result, Ok, Err, OnOk, OnErr, sym, ap, subst, arith}
use Rattle.dns_message.specs.Query.{Query}
use Rattle.nmc_base.specs.declared.no_memory.NoMemory.{NoMemory}
use Rattle.answer_cache.specs.declared.cache_key.CacheKey.{CacheKey}
use Rattle.answer_cache.specs.Cached.{Cached, behind_put, behind_want}
use Rattle.kept_answers.specs.Kept.{Kept, IsKept, kept_text, reply_with}
use Rattle.kept_answers.specs.Answering.{Answering, Stores, key_for, with_cache}
use Rattle.kept_answers.specs.Answering.Stores.{done, lacked}
use Rattle.kept_answers.specs.Whole.{IsWhole}
use Rattle.kept_answers.specs.declared.limits.TheConstants.{LONGEST_KEPT}
use Rattle.kept_answers.proofs.AnswerLemmas.{as_long}
use Rattle.kept_answers.proofs.KeepingLemmas.{All, all_put}

-- what is kept of a reply of at most so many bytes
pub whole_kept : (accepted limit : ℕ) (q : Query) (k : Kept) (text : List ℕ) → IsKept k → text ≡ kept_text k → length (reply_with q k) ≤ limit
    → IsWhole (key_for accepted limit q, text)
whole_kept accepted limit q k text is text_is within = record {
  kept = k;
  is_kept = is;
  text_is = text_is;
  fits = omega (arith, as_long accepted limit q k, within);
}

-- a reply to a question of the key, by what is kept under it
pub whole_within : (accepted limit : ℕ) (q : Query) (text : List ℕ) (w : IsWhole (key_for accepted limit q, text)) → length (reply_with q w.kept) ≤ limit
whole_within accepted limit q text w = omega (arith, as_long accepted limit q w.kept, w.fits)

-- the outcome of a put
abbrev Put : Type 0
Put = Result (Unit {0}) NoMemory

module _ (key : CacheKey) (text : List ℕ) (old new : Cached) where
  pub all_behind : (P : CacheKey × List ℕ → Type 0) (put : Put) → OnOk put (new ≡ behind_put key text old) → OnErr put (new ≡ behind_want old)
      → All P old → P (key, text) → All P new
  all_behind P (Ok did) ok err all this = subst (All P) (sym ok) (all_put P key old all text this)
  all_behind P (Err none) ok err all this = subst (All P) (sym err) all

pub stored : (key : CacheKey) (k : Kept) (old : Answering) (new : Cached) (put : Put) → OnOk put (new ≡ behind_put key (kept_text k) old.cache)
    → OnErr put (new ≡ behind_want old.cache) → length k.records ≤ LONGEST_KEPT → Stores key k old (with_cache old new)
stored key k old new (Ok did) ok err few = done few (ap (with_cache old) ok)
stored key k old new (Err none) ok err few = lacked few (ap (with_cache old) err)
