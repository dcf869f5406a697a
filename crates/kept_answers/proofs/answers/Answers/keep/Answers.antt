use Rattle.std.proofs.Common.{◌≡◌, ℕ, ◌≤◌, ◌<◌, List, ◌++◌, length, OnOk, sym, ap, subst, arith}
use Rattle.dns_message.specs.Query.{query_of}
use Rattle.answer_cache.specs.Cached.{behind_put}
use Rattle.answer_cache.specs.Keys.{key_of}
use Rattle.answer_cache.specs.declared.cache_key.CacheKey.{CacheKey}
use Rattle.kept_answers.specs.Answering.{Answering, Stores, with_cache}
use Rattle.kept_answers.specs.Answering.Stores.{long}
use Rattle.kept_answers.specs.Whole.{IsWhole}
use Rattle.kept_answers.specs.declared.limits.TheConstants.{LONGEST_KEPT}
use Rattle.kept_answers.proofs.WholeLemmas.{whole_kept, all_behind, stored}
use Rattle.kept_answers.proofs.answers.Answers.keep.Goals as goal

pub invariant_of-self : goal.invariant_of-self
invariant_of-self c =
    let k = c.requires.kept.0 in
    let is = c.requires.kept.1 in
    let text = c.keep-kept.result.head ++ c.keep-kept.result.records.now in
    let within = subst (λ (reply : List ℕ). length reply ≤ c.args.key.limit) c.requires.kept.2 c.requires.within in
    all_behind (key_of c.args.key) text c.self.inside.cache c.put.new.self IsWhole c.put.result c.put.ensures.ok c.put.ensures.err c.self.invariant
    (subst (λ (key : CacheKey). IsWhole (key, text)) (sym c.requires.key)
    (whole_kept c.args.key.accepted c.args.key.limit (query_of c.args.asked.now) k text is (c.keep-kept.ensures.text k is c.requires.kept.2) within))

pub returns-then-kept-le-LONGEST_KEPT : goal.returns-then-kept-le-LONGEST_KEPT
returns-then-kept-le-LONGEST_KEPT c = λ k is e.
    let key = key_of c.args.key in
    let cache = c.self.inside.cache in
    let new = c.put.new.self in
    let ok = subst (λ (text : List ℕ). OnOk c.put.result (new ≡ behind_put key text cache)) (c.keep-kept.ensures.text k is e) c.put.ensures.ok in
    let few = subst (λ (records : List ℕ). length records ≤ LONGEST_KEPT) (c.keep-kept.ensures.records k e) c.if-kept-le-LONGEST_KEPT.true in
    subst (λ (old : Answering). Stores key k old (record { cache = new; accepted = c.self.inside.accepted })) c.self.view_is
    (stored key k (record { cache = cache; accepted = c.self.inside.accepted }) new c.put.result ok c.put.ensures.err few)

pub returns-else-kept-le-LONGEST_KEPT : goal.returns-else-kept-le-LONGEST_KEPT
returns-else-kept-le-LONGEST_KEPT c = λ k is e.
    let key = key_of c.args.key in
    let new = c.miss.new.self in
    let many = subst (λ (records : List ℕ). LONGEST_KEPT < length records) (c.keep-kept.ensures.records k e) (omega (arith, c.if-kept-le-LONGEST_KEPT.false)) in
    subst (λ (old : Answering). Stores key k old (record { cache = new; accepted = c.self.inside.accepted })) c.self.view_is
    (long many (ap (with_cache (record { cache = c.self.inside.cache; accepted = c.self.inside.accepted })) c.miss.ensures))
