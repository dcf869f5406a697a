-- What a cache is, once the text that it gave is let go.
use Rattle.std.specs.Prelude.{◌≡◌, ⊤}
use Rattle.std.specs.Borrow.{Fml, MutBor, follows_so}
use mathlib.Core.Option.{none}
use Rattle.answer_cache.specs.Cached.{Cached, behind_get}
use Rattle.answer_cache.specs.declared.cache_key.CacheKey.{CacheKey}
use Rattle.answer_cache.specs.contracts.cache.Cache.{the_row}

abbrev pub ends_as : MutBor Cached → CacheKey → Fml
ends_as cache key = follows_so the_row the_row cache.ghost_name none (λ _ _. ⊤) (λ new. new ≡ behind_get key cache.now)
