use Rattle.std.proofs.Common.{◌≡◌, ◌+◌, ◌*◌, length, ap, sym, subst, arith}
use Rattle.chain_state.specs.Chain.{Indexed, StagedIndex, IsConnected, staged_of}
use Rattle.chain_state.specs.Stage.{commit_steps}
use Rattle.chain_state.proofs.ChainLemmas.{connected_index, connected}
use Rattle.chain_state.proofs.chain.StagedChain.commit.Goals as goal

pub joined-requires : goal.joined-requires
joined-requires g c =
    let staged = c.self.inside in
    connected_index staged.base staged.tip staged.hash staged.whole staged.undos c.self.invariant.0 c.commit-committed.result c.commit-committed.ensures.commits c.push.new.self c.push.ensures.items

pub returns-clause-connected : goal.returns-clause-connected
returns-clause-connected g c =
    let s = c.self.inside in
    subst (λ (x : StagedIndex). IsConnected x c.joined.result) c.self.view_is
    (subst (λ (x : Indexed). IsConnected (staged_of s.base s.tip s.hash s.whole s.undos) x) (sym c.joined.ensures)
    (connected s.base s.tip s.hash s.whole s.undos c.self.invariant.0 c.commit-committed.result c.commit-committed.ensures.commits c.push.new.self c.push.ensures.items))

pub returns-clause-cost : goal.returns-clause-cost
returns-clause-cost g c =
    let s = c.self.inside in
    let steps : commit_steps c.args.self ≡ 2 * length s.whole.work.ops.items + 2 * length s.whole.expired.items = ap commit_steps (sym c.self.view_is) in
    omega (arith, steps, c.commit-committed.ensures.cost)
