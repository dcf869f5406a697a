use Rattle.std.proofs.Common.{length, sym, ap, subst, ◌∙◌, arith}
use Rattle.name_tables.specs.Parts.{newest_first}
use Rattle.chain_state.specs.Chain as index
use Rattle.chain_state.specs.Chain.{Indexed}
use Rattle.chain_state.specs.StageBack.{IsDisconnected, back_commit_steps}
use Rattle.chain_state.proofs.DisconnectLemmas.{whole_back, disconnected_index, disconnected, steps_are}
use Rattle.chain_state.proofs.back.StagedBack.commit.Goals as goal

pub abandon-tables-requires : goal.abandon-tables-requires
abandon-tables-requires g c =
    let s = c.self.inside in
    whole_back s.base s.tip s.tables s.undos s.empty c.self.invariant c.in-Some.undo c.pop.new.self.items c.in-Some.ensures.some

pub joined-requires : goal.joined-requires
joined-requires g c =
    let s = c.self.inside in
    disconnected_index s.base s.tip s.tables s.undos c.abandon-tables.result c.pop.new.self c.newest_hash.result
    (record {
      empty = s.empty;
      staged = c.self.invariant;
      undo = c.in-Some.undo;
      were = c.in-Some.ensures.some;
      maps = c.abandon-tables.ensures.before;
      queue = c.abandon-tables.ensures.queue;
      filled = c.abandon-tables.ensures.filled;
      hash_is = c.newest_hash.ensures ∙ ap (λ us. index.newest_hash s.base (newest_first us)) c.as_slice.ensures;
    })

pub returns-clause-disconnected : goal.returns-clause-disconnected
returns-clause-disconnected g c =
    let s = c.self.inside in
    subst (λ (x : Indexed). IsDisconnected x c.joined.result) c.self.view_is
    (subst (λ (x : Indexed). IsDisconnected (index.index_of s.base s.tip s.tables s.undos) x) (sym c.joined.ensures)
    (disconnected s.base s.tip s.tables s.undos c.abandon-tables.result c.pop.new.self c.newest_hash.result
    (record {
      empty = s.empty;
      staged = c.self.invariant;
      undo = c.in-Some.undo;
      were = c.in-Some.ensures.some;
      maps = c.abandon-tables.ensures.before;
      queue = c.abandon-tables.ensures.queue;
      filled = c.abandon-tables.ensures.filled;
      hash_is = c.newest_hash.ensures ∙ ap (λ us. index.newest_hash s.base (newest_first us)) c.as_slice.ensures;
    })))

pub returns-clause-cost : goal.returns-clause-cost
returns-clause-cost g c =
    let s = c.self.inside in
    let steps = ap (λ (x : Indexed). back_commit_steps x.undos) (sym c.self.view_is)
    ∙ steps_are s.base s.tip s.tables s.undos s.empty c.self.invariant c.in-Some.undo c.pop.new.self.items c.in-Some.ensures.some in
    let whole = whole_back s.base s.tip s.tables s.undos s.empty c.self.invariant c.in-Some.undo c.pop.new.self.items c.in-Some.ensures.some in
    let none = ap length whole.none_empty in
    omega (arith, steps, none, c.abandon-tables.ensures.cost)
