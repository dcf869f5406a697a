use Rattle.std.proofs.Common.{slice_get, option_map, refl, ap, ◌∙◌}
use Rattle.answer_cache.specs.Keys.{key_of, same_key}
use Rattle.answer_cache.proofs.PromotedLemmas.{is_absent, it_stands}
use Rattle.answer_cache.proofs.cache.Cache.get.Goals as goal

pub returns-then-not-promote : goal.returns-then-not-promote
returns-then-not-promote c =
    let none = is_absent (same_key (key_of c.args.key)) c.self.inside.kept.entries c.if-not-promote.ensures.value in
    rw (← c.self.view_is, none.none, c.promote.ensures.entries, none.same) ((refl, λ _. tt, refl), record { ends = tt; value = refl })

pub unreachable-requires : goal.unreachable-requires
unreachable-requires c =
    let first = it_stands (same_key (key_of c.args.key)) c.self.inside.kept.entries c.if-not-promote.ensures.value in
    let none = c.in-None.ensures ∙ ap (λ cache. slice_get cache.entries 0) c.promote.ensures.entries ∙ first.1.first in
    cc

pub returns : goal.returns
returns c =
    let first = it_stands (same_key (key_of c.args.key)) c.self.inside.kept.entries c.if-not-promote.ensures.value in
    let given = c.in-Some.ensures ∙ ap (λ cache. slice_get cache.entries 0) c.promote.ensures.entries ∙ first.1.first in
    let text = ap (option_map (λ e. e.1)) given in
    rw (← c.self.view_is, first.1.value, c.promote.ensures.entries, c.saturating_add-self-inside.ensures, c.as_slice.ensures)
    ((refl, λ _. tt, refl), record { ends = tt; value = text })
