use Rattle.lru.proofs.CallerLemmas.{lookup-put_entries}
use Rattle.lru.specs.LruCache.{lru_cache}
use Rattle.answer_cache.specs.Keys.{same_key}
use Rattle.answer_cache.specs.KeyLaws.{same_key-equivalence}
use Rattle.answer_cache.proofs.HeldLemmas.{held-behind_get, held-behind_put}
use Rattle.answer_cache.proofs.law.held_is_put.Goals as goal

pub returns-clause-got : goal.returns-clause-got
returns-clause-got c = held-behind_get

pub returns-clause-put : goal.returns-clause-put
returns-clause-put c key text cached = lookup-put_entries same_key (lru_cache cached.entries cached.cap) key text same_key-equivalence

pub returns-clause-others : goal.returns-clause-others
returns-clause-others c key other text kept cached differ = held-behind_put key other differ text kept cached
