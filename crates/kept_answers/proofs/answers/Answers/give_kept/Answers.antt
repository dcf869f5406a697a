use Rattle.std.proofs.Common.{◌≡◌, ℕ, List, take, Some, sym, ap, subst, ◌∙◌, arith}
use Rattle.dns_message.specs.Query.{query_of}
use Rattle.answer_cache.specs.Cached.{Cached, held}
use Rattle.answer_cache.specs.Keys.{key_of}
use Rattle.answer_cache.specs.declared.cache_key.CacheKey.{CacheKey}
use Rattle.kept_answers.specs.Answering.{Answering, GivesKept, key_for}
use Rattle.kept_answers.specs.Whole.{IsWhole, AreWhole}
use Rattle.kept_answers.proofs.KeepingLemmas.{All, all_found, behind_hit, held_is_kept}
use Rattle.kept_answers.proofs.WholeLemmas.{whole_within}
use Rattle.kept_answers.proofs.answers.Answers.give_kept.Goals as goal

-- the answer that is found is whole
whole : (key asked : CacheKey) (cache : Cached) (text : List ℕ) → AreWhole cache.entries → key ≡ asked → held key cache ≡ Some text → IsWhole (asked, text)
whole key asked cache text all same is = subst (λ (k : CacheKey). IsWhole (k, text)) same (all (key, text) (held_is_kept key cache text is))

pub give-requires : goal.give-requires
give-requires c =
    let q = query_of c.args.asked.now in
    let w = whole (key_of c.args.key) (key_for c.args.self.now.accepted c.args.key.limit q) c.self.inside.cache c.in-Some.kept.now c.self.invariant c.requires.key (sym c.in-Some.ensures.value) in
    let within = whole_within c.args.self.now.accepted c.args.key.limit q c.in-Some.kept.now w in
    (w.kept, w.is_kept, w.text_is, omega (arith, within, c.requires.room))

pub invariant_of-self : goal.invariant_of-self
invariant_of-self c =
    let key = key_of c.args.key in
    let cache = c.self.inside.cache in
    let found_is = c.get.follows.holds-at-none ∙ behind_hit key cache c.in-Some.kept.now (sym c.in-Some.ensures.value) in
    subst (λ (new : Cached). All IsWhole new) (sym found_is) (all_found IsWhole key cache c.self.invariant)

pub returns-in-Some-clause-given : goal.returns-in-Some-clause-given
returns-in-Some-clause-given c =
    let key = key_of c.args.key in
    let q = query_of c.args.asked.now in
    let cache = c.self.inside.cache in
    let is_held = sym c.in-Some.ensures.value in
    let w = whole key (key_for c.args.self.now.accepted c.args.key.limit q) cache c.in-Some.kept.now c.self.invariant c.requires.key is_held in
    let found_is = c.get.follows.holds-at-none ∙ behind_hit key cache c.in-Some.kept.now is_held in
    let accepted = c.self.inside.accepted in
    subst (λ (old : Answering). GivesKept key q old (record { cache = c.get.follows.lender-at-none; accepted = accepted }) (take c.give.result c.give.new.buffer)) c.self.view_is
    (record {
      kept = w.kept;
      is_kept = w.is_kept;
      is_held = is_held ∙ ap Some w.text_is;
      found_is = ap (λ (new : Cached). record { cache = new; accepted = accepted }) found_is;
      reply_is = λ other is same. c.give.ensures.text other is (w.text_is ∙ same);
    })

pub returns-in-Some-clause-within : goal.returns-in-Some-clause-within
returns-in-Some-clause-within c =
    let q = query_of c.args.asked.now in
    let accepted = c.args.self.now.accepted in
    let limit = c.args.key.limit in
    let w = whole (key_of c.args.key) (key_for accepted limit q) c.self.inside.cache c.in-Some.kept.now c.self.invariant c.requires.key (sym c.in-Some.ensures.value) in
    omega (arith, whole_within accepted limit q c.in-Some.kept.now w, c.give.ensures.size w.kept w.is_kept w.text_is)
