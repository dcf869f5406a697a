use Rattle.std.proofs.Common.{◌≡◌, ◌<◌, ◌^◌, Some, refl, ap, sym, subst, ◌∙◌, arith}
use Rattle.nmc_base.specs.Roomy.{Roomy}
use Rattle.nmc_base.specs.Heights.{highest}
use Rattle.block_grammar.specs.Block.{count_outputs}
use Rattle.block_grammar.specs.Header.{header_hash}
use Rattle.chain_names.specs.Log.{behind_coinbase}
use Rattle.chain_names.proofs.OutputLemmas.{fewer_behind}
use Rattle.chain_names.specs.declared.undo.Undo.{Undo}
use Rattle.chain_state.specs.Chain.{rule_refused, Indexed, SameIndex, IsStagedOn, indexed_of, staged_of}
use Rattle.name_tables.specs.Parts.{newest_first}
use Rattle.chain_state.proofs.ChainLemmas.{begun_ready, staged_index, staged_on, back_maps, refused_by, returned_index, returned_same, unused_index}
use Rattle.chain_state.proofs.CostLemmas.{staged_cost}
use Rattle.chain_state.proofs.chain.Chain.stage_names.Goals as goal

pub joined-requires : goal.joined-requires
joined-requires g c =
    let s = c.self.inside in
    unused_index (indexed_of s.base s.tip s.parts) c.self.invariant c.in-Err.tables c.begin.new.undos
    (ap newest_first (c.begin.ensures.undos ∙ ap (λ (l : Roomy Undo). l.items) c.split-tables.ensures.undos)) (c.in-Err.ensures.err ∙ c.split-tables.ensures.tables)

pub do_all-requires-clause-ready : goal.do_all-requires-clause-ready
do_all-requires-clause-ready g c =
    let s = c.self.inside in
    begun_ready (indexed_of s.base s.tip s.parts) c.in-Ok.work
    (record { indexed = c.self.invariant; low = subst (λ (x : Indexed). x.tip.height < highest) (sym c.self.view_is) c.requires.low; given = c.split-tables.result.0; given_is = c.split-tables.ensures.tables; begins = c.in-Ok.ensures.ok })

pub do_all-requires-clause-outputs : goal.do_all-requires-clause-outputs
do_all-requires-clause-outputs g c =
    subst (λ ts. count_outputs ts < 2 ^ 32) (sym (c.behind_coinbase-txs.ensures ∙ ap behind_coinbase c.txs.ensures.value))
    (omega (arith, fewer_behind c.args.block.now.transactions, c.txs.ensures.few_outputs))

pub invariant_of-result : goal.invariant_of-result
invariant_of-result g c =
    let s = c.self.inside in
    let works = c.in-Whole.ensures.works in (
      staged_index (indexed_of s.base s.tip s.parts) c.in-Ok.work c.behind_coinbase-txs.result c.in-Whole.whole c.begin.new.undos
          (record {
            begun = record { indexed = c.self.invariant; low = subst (λ (x : Indexed). x.tip.height < highest) (sym c.self.view_is) c.requires.low; given = c.split-tables.result.0; given_is = c.split-tables.ensures.tables; begins = c.in-Ok.ensures.ok };
            done = works.done;
            applied = works.applied;
            finishes = works.finishes;
            same_undos = ap newest_first (c.begin.ensures.undos ∙ ap (λ (l : Roomy Undo). l.items) c.split-tables.ensures.undos);
          })
          c.hash-hash.result
          (subst (λ ts. count_outputs ts < 2 ^ 32) (sym (c.behind_coinbase-txs.ensures ∙ ap behind_coinbase c.txs.ensures.value))
          (omega (arith, fewer_behind c.args.block.now.transactions, c.txs.ensures.few_outputs))),
      c.in-Ok.ensures.room refl,
    )

pub joined-chain-requires : goal.joined-chain-requires
joined-chain-requires g c =
    let s = c.self.inside in
    let back = c.in-Refused.ensures.works.0 in
    returned_index (indexed_of s.base s.tip s.parts) c.self.invariant c.in-Refused.tables c.begin.new.undos
    (ap newest_first (c.begin.ensures.undos ∙ ap (λ (l : Roomy Undo). l.items) c.split-tables.ensures.undos))
    (back_maps (indexed_of s.base s.tip s.parts) c.in-Ok.work
    (record { indexed = c.self.invariant; low = subst (λ (x : Indexed). x.tip.height < highest) (sym c.self.view_is) c.requires.low; given = c.split-tables.result.0; given_is = c.split-tables.ensures.tables; begins = c.in-Ok.ensures.ok }) c.in-Refused.tables back) back.queue back.filled

pub joined-requires-in-NoMemory : goal.joined-requires-in-NoMemory
joined-requires-in-NoMemory g c =
    let s = c.self.inside in
    let back = c.in-NoMemory.ensures.works in
    returned_index (indexed_of s.base s.tip s.parts) c.self.invariant c.in-NoMemory.tables c.begin.new.undos
    (ap newest_first (c.begin.ensures.undos ∙ ap (λ (l : Roomy Undo). l.items) c.split-tables.ensures.undos))
    (back_maps (indexed_of s.base s.tip s.parts) c.in-Ok.work
    (record { indexed = c.self.invariant; low = subst (λ (x : Indexed). x.tip.height < highest) (sym c.self.view_is) c.requires.low; given = c.split-tables.result.0; given_is = c.split-tables.ensures.tables; begins = c.in-Ok.ensures.ok }) c.in-NoMemory.tables back) back.queue back.filled

pub returns-in-Whole-clause-stages : goal.returns-in-Whole-clause-stages
returns-in-Whole-clause-stages g c =
    let s = c.self.inside in
    let works = c.in-Whole.ensures.works in
    subst (λ (x : Indexed). IsStagedOn x c.args.block.now (staged_of s.base s.tip c.hash-hash.result c.in-Whole.whole c.begin.new.undos)) c.self.view_is
    (staged_on (indexed_of s.base s.tip s.parts) c.in-Ok.work c.behind_coinbase-txs.result c.in-Whole.whole c.begin.new.undos
    (record {
      begun = record { indexed = c.self.invariant; low = subst (λ (x : Indexed). x.tip.height < highest) (sym c.self.view_is) c.requires.low; given = c.split-tables.result.0; given_is = c.split-tables.ensures.tables; begins = c.in-Ok.ensures.ok };
      done = works.done;
      applied = works.applied;
      finishes = works.finishes;
      same_undos = ap newest_first (c.begin.ensures.undos ∙ ap (λ (l : Roomy Undo). l.items) c.split-tables.ensures.undos);
    })
    c.hash-hash.result c.args.block.now
    (record {
      on_tip = subst (λ (x : Indexed). c.args.block.now.header.fields.previous ≡ x.tip.hash.0) (sym c.self.view_is) c.requires.on_tip;
      root = c.requires.root;
      ts_are = c.behind_coinbase-txs.ensures ∙ ap behind_coinbase c.txs.ensures.value;
      hash_is = c.hash-hash.ensures ∙ ap header_hash c.header.ensures;
    }))

pub returns-in-Whole-clause-cost : goal.returns-in-Whole-clause-cost
returns-in-Whole-clause-cost g c =
    staged_cost c.args.block.now c.args.steps.now c.do_all.new.steps c.behind_coinbase-txs.result c.in-Whole.whole
    (c.behind_coinbase-txs.ensures ∙ ap behind_coinbase c.txs.ensures.value) c.in-Whole.ensures.cost

pub returns-in-Refused-clause-stages : goal.returns-in-Refused-clause-stages
returns-in-Refused-clause-stages g c =
    let s = c.self.inside in
    let back = c.in-Refused.ensures.works.0 in
    let low = subst (λ (x : Indexed). x.tip.height < highest) (sym c.self.view_is) c.requires.low in (
      subst (λ (x : Indexed). SameIndex c.joined-chain.result x) c.self.view_is
          (subst (λ (x : Indexed). SameIndex x (indexed_of s.base s.tip s.parts)) (sym c.joined-chain.ensures)
          (returned_same (indexed_of s.base s.tip s.parts) c.self.invariant c.in-Refused.tables c.begin.new.undos
          (ap newest_first (c.begin.ensures.undos ∙ ap (λ (l : Roomy Undo). l.items) c.split-tables.ensures.undos))
          (back_maps (indexed_of s.base s.tip s.parts) c.in-Ok.work (record { indexed = c.self.invariant; low = low; given = c.split-tables.result.0; given_is = c.split-tables.ensures.tables; begins = c.in-Ok.ensures.ok }) c.in-Refused.tables back)
          back.queue)),
      (
        c.requires.on_tip,
        c.requires.low,
        c.requires.root,
        subst (λ (x : Indexed). rule_refused x c.args.block.now ≡ Some (c.in-Refused.tx, c.in-Refused.refusal)) c.self.view_is
            (refused_by (indexed_of s.base s.tip s.parts) c.in-Ok.work (record { indexed = c.self.invariant; low = low; given = c.split-tables.result.0; given_is = c.split-tables.ensures.tables; begins = c.in-Ok.ensures.ok })
            c.args.block.now c.behind_coinbase-txs.result (c.behind_coinbase-txs.ensures ∙ ap behind_coinbase c.txs.ensures.value) _ c.in-Refused.ensures.works.1),
      ),
    )

pub returns-in-NoMemory-clause-stages : goal.returns-in-NoMemory-clause-stages
returns-in-NoMemory-clause-stages g c =
    let s = c.self.inside in
    let back = c.in-NoMemory.ensures.works in (
      subst (λ (x : Indexed). SameIndex c.joined-in-NoMemory.result x) c.self.view_is
          (subst (λ (x : Indexed). SameIndex x (indexed_of s.base s.tip s.parts)) (sym c.joined-in-NoMemory.ensures)
          (returned_same (indexed_of s.base s.tip s.parts) c.self.invariant c.in-NoMemory.tables c.begin.new.undos
          (ap newest_first (c.begin.ensures.undos ∙ ap (λ (l : Roomy Undo). l.items) c.split-tables.ensures.undos))
          (back_maps (indexed_of s.base s.tip s.parts) c.in-Ok.work
          (record { indexed = c.self.invariant; low = subst (λ (x : Indexed). x.tip.height < highest) (sym c.self.view_is) c.requires.low; given = c.split-tables.result.0; given_is = c.split-tables.ensures.tables; begins = c.in-Ok.ensures.ok }) c.in-NoMemory.tables back) back.queue)),
      c.requires.on_tip,
      c.requires.low,
    )
