use Rattle.std.proofs.Common.{refl, ap, ◌∙◌}
use Rattle.nmc_base.specs.declared.chain_ends.Tip.{Tip}
use Rattle.answer_cache.specs.Cached.{Cached}
use Rattle.chain_commands.specs.RunState.{chain_of}
use Rattle.index_commands.proofs.ChainTips.{chain_tip}
use Rattle.bridge_commands.proofs.self_test.sum_up.Goals as goal

pub returns : goal.returns
returns c = λ run s. record {
  blocks = refl;
  tip = ap (λ (tip : Tip). tip.hash.0) c.tip.ensures ∙ s.index.hash ∙ chain_tip c.args.course.now.bridge.store.index (chain_of run) s.index;
  counts = c.in_ok-names.ensures;
  answers = refl;
  hits = c.hits.ensures ∙ ap (λ (cache : Cached). cache.hits) c.cache-cache.ensures;
  missed = c.missed.ensures ∙ ap (λ (cache : Cached). cache.missed) c.cache-cache.ensures;
  saves = refl;
}
