use Rattle.std.proofs.Common.{◌+◌, ◌≤◌, ◌++◌, length, sym, subst, arith}
use Rattle.block_grammar.proofs.Readers.{IsBytes}
use Rattle.state_image.specs.Loading.{Loading, loading_of, HasRead, Takes, IsLoading}
use Rattle.state_image.proofs.LoadLemmas.{takes_piece, loading_more}
use Rattle.state_image.proofs.loader.Loader.piece.Goals as goal

pub invariant_of-self-2 : goal.invariant_of-self-2
invariant_of-self-2 c =
    let inside = c.self.inside in
    let l : Loading = loading_of inside.reading inside.pending inside.fed inside.total inside.stop in
    let read = c.self.invariant.reads c.in_default.is in
    let are : IsBytes c.args.bytes.now = λ i. omega (arith, c.type_inv.bytes i) in
    let low : l.fed + length c.args.bytes.now ≤ l.total = subst (λ (k : Loading). k.fed + length c.args.bytes.now ≤ k.total) (sym c.self.view_is) c.requires in
    subst (λ stop. IsLoading (loading_of c.take-read.new.reading c.take-read.new.pending (inside.fed + length c.args.bytes.now) inside.total stop)) (sym c.stop_of-self-inside.ensures)
    (loading_more read.0 c.args.bytes.now l read.1 c.self.invariant low are c.take-read.new.reading c.take-read.new.pending c.take-read.result c.take-read.ensures)

pub returns-clause-takes : goal.returns-clause-takes
returns-clause-takes c = λ text has.
    let inside = c.self.inside in
    let l : Loading = loading_of inside.reading inside.pending inside.fed inside.total inside.stop in
    let read : HasRead text l = subst (HasRead text) (sym c.self.view_is) has in
    let are : IsBytes c.args.bytes.now = λ i. omega (arith, c.type_inv.bytes i) in
    subst (λ stop. Takes (text ++ c.args.bytes.now) (loading_of c.take-read.new.reading c.take-read.new.pending (inside.fed + length c.args.bytes.now) inside.total stop) c.take-read.result)
    (sym c.stop_of-self-inside.ensures)
    (takes_piece text c.args.bytes.now l read are c.take-read.new.reading c.take-read.new.pending c.take-read.result c.take-read.ensures)
