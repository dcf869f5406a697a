use Rattle.std.proofs.Common.{◌≡◌, take, None, subst, ◌∙◌}
use Rattle.dns_message.specs.Query.{query_of}
use Rattle.answer_cache.specs.Cached.{held}
use Rattle.answer_cache.specs.declared.cache_key.CacheKey.{CacheKey}
use Rattle.kept_answers.specs.Answering.{Answering, GivesKept, Stores, key_for, kept_answer, zone_at}
use Rattle.kept_answers.proofs.AnswerLemmas.{answer_kept, answer_fits}
use Rattle.kept_answers.proofs.QuestionLemmas.{by_kept, by_answer, by_failure}
use Rattle.kept_answers.proofs.answers.Answers.reply.Goals as goal

pub keep-requires-clause-kept : goal.keep-requires-clause-kept
keep-requires-clause-kept g c =
    let live = g.N.Names.served c.args.names.now in
    let zone = zone_at c.args.host.now c.args.serial in
    let q = query_of c.args.asked.now in
    let text = c.in-Answer.ensures.text in
    (kept_answer live zone c.args.limit q, answer_fits live zone c.args.limit q c.requires.greatest, text ∙ answer_kept live zone c.args.limit q)

pub returns-in-Some-clause-answers : goal.returns-in-Some-clause-answers
returns-in-Some-clause-answers g c =
    let q = query_of c.args.asked.now in
    let text = take c.in-Some.size c.give_kept.new.buffer in
    by_kept (g.N.Names.served c.args.names.now) (zone_at c.args.host.now c.args.serial) c.args.limit q c.args.self.now c.requires.looked_for text c.give_kept.new.self c.requires.greatest c.requires.name
    (subst (λ (key : CacheKey). GivesKept key q c.args.self.now c.give_kept.new.self text) c.key-key.ensures.key c.in-Some.ensures.given)

pub returns-in-Answer-clause-answers : goal.returns-in-Answer-clause-answers
returns-in-Answer-clause-answers g c =
    let live = g.N.Names.served c.args.names.now in
    let zone = zone_at c.args.host.now c.args.serial in
    let q = query_of c.args.asked.now in
    let old = c.args.self.now in
    let text = c.in-Answer.ensures.text in
    let kept = kept_answer live zone c.args.limit q in
    let none = c.in_default.ensures.none in
    let fits = answer_fits live zone c.args.limit q c.requires.greatest in
    let stores = c.keep.ensures kept fits (text ∙ answer_kept live zone c.args.limit q) in
    by_answer live zone c.args.limit q old c.requires.looked_for (take c.in-Answer.size c.reply_by_names.new.buffer) c.keep.new.self
    (subst (λ (key : CacheKey). held key old.cache ≡ None) c.key-key.ensures.key none.0) text
    (subst (λ (before : Answering). Stores (key_for old.accepted c.args.limit q) kept before c.keep.new.self) (c.self.view_is ∙ none.1) (subst (λ (key : CacheKey). Stores key kept (record { cache = c.self.inside.cache; accepted = c.self.inside.accepted }) c.keep.new.self) c.key-key.ensures.key stores))

pub returns-in-Failure-clause-answers : goal.returns-in-Failure-clause-answers
returns-in-Failure-clause-answers g c =
    let none = c.in_default.ensures.none in
    by_failure (g.N.Names.served c.args.names.now) (zone_at c.args.host.now c.args.serial) c.args.limit (query_of c.args.asked.now) c.args.self.now c.requires.looked_for
    (take c.in-Failure.size c.reply_by_names.new.buffer) (record { cache = c.self.inside.cache; accepted = c.self.inside.accepted })
    (subst (λ (key : CacheKey). held key c.args.self.now.cache ≡ None) c.key-key.ensures.key none.0) c.in-Failure.ensures.text (c.self.view_is ∙ none.1)
