use Rattle.std.proofs.Common.{◌<◌, sym, ap, subst, ◌∙◌, arith}
use Rattle.block_grammar.specs.Header.{Header}
use Rattle.nmc_base.specs.declared.hashes.Hash32.{Hash32}
use Rattle.nmc_base.specs.Heights.{highest}
use Rattle.chain_state.specs.Chain.{Indexed}
use Rattle.chain_state.proofs.DisconnectLemmas.{is_the_tip}
use Rattle.chain_state.proofs.chain.Chain.stage.Goals as goal

pub stage_names-requires-clause-on_tip : goal.stage_names-requires-clause-on_tip
stage_names-requires-clause-on_tip g c =
    let s = c.self.inside in
    sym (c.previous.ensures ∙ ap (λ (h : Header). h.fields.previous) c.header-header.ensures)
    ∙ ap (λ (h : Hash32). h.0) (is_the_tip c.previous.result s.tip.hash (sym c.if-ne.false ∙ c.ne.ensures))
    ∙ ap (λ (x : Indexed). x.tip.hash.0) c.self.view_is

pub stage_names-requires-clause-low : goal.stage_names-requires-clause-low
stage_names-requires-clause-low g c = subst (λ (x : Indexed). x.tip.height < highest) c.self.view_is (omega (arith, c.if-self-ge-HIGHEST_HEIGHT.false))

pub stage_names-requires-clause-root : goal.stage_names-requires-clause-root
stage_names-requires-clause-root g c =
    sym (c.root.ensures ∙ ap (λ (h : Header). h.fields.root) c.header-header.ensures)
    ∙ ap (λ (h : Hash32). h.0) (is_the_tip c.root.result c.in-Ok.found.1 (sym c.if-ne-2.false ∙ c.ne-2.ensures))
    ∙ c.in-Ok.ensures.root_is

pub returns-then-ne-clause-cost : goal.returns-then-ne-clause-cost
returns-then-ne-clause-cost g c = tt

pub returns-then-self-ge-HIGHEST_HEIGHT-clause-cost : goal.returns-then-self-ge-HIGHEST_HEIGHT-clause-cost
returns-then-self-ge-HIGHEST_HEIGHT-clause-cost g c = tt

pub returns-in-Err-clause-cost : goal.returns-in-Err-clause-cost
returns-in-Err-clause-cost g c = tt

pub returns-then-ne-2-clause-cost : goal.returns-then-ne-2-clause-cost
returns-then-ne-2-clause-cost g c = tt

pub returns-clause-cost : goal.returns-clause-cost
returns-clause-cost g c = c.stage_names.ensures.cost
