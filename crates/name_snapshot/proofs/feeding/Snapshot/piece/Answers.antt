use Rattle.std.proofs.Common.{◌+◌, ◌<◌, ◌^◌, ◌++◌, length, sym, subst, arith}
use Rattle.block_grammar.proofs.Readers.{IsBytes}
use Rattle.name_snapshot.specs.Feeding.{Feeding, feeding_of, HasRead, Takes, IsFeeding}
use Rattle.name_snapshot.proofs.FeedLemmas.{takes_piece, feeding_more, held_little}
use Rattle.name_snapshot.proofs.feeding.Snapshot.piece.Goals as goal

pub invariant_of-self-2 : goal.invariant_of-self-2
invariant_of-self-2 c =
    let s = c.self.inside in
    let read = c.self.invariant.reads c.in_default.is in
    let are : IsBytes c.args.bytes.now = λ i. omega (arith, c.type_inv.bytes i) in
    let low : s.fed + length c.args.bytes.now < 2 ^ 64 = subst (λ (f : Feeding). f.fed + length c.args.bytes.now < 2 ^ 64) (sym c.self.view_is) c.requires in
    subst (λ stop. IsFeeding (feeding_of c.take-read.new.reading c.take-read.new.pending (s.fed + length c.args.bytes.now) stop)) (sym c.stop_of-self-inside.ensures)
    (feeding_more read.0 c.args.bytes.now s.reading s.pending s.fed s.stop read.1 are c.self.invariant.low low c.take-read.new.reading c.take-read.new.pending c.take-read.result c.take-read.ensures.base
    (c.take-read.ensures.takes read.1.below read.1.behind))

pub returns-clause-takes : goal.returns-clause-takes
returns-clause-takes c = λ text has.
    let s = c.self.inside in
    let read : HasRead text (feeding_of s.reading s.pending s.fed s.stop) = subst (HasRead text) (sym c.self.view_is) has in
    let are : IsBytes c.args.bytes.now = λ i. omega (arith, c.type_inv.bytes i) in
    subst (λ stop. Takes (text ++ c.args.bytes.now) (feeding_of c.take-read.new.reading c.take-read.new.pending (s.fed + length c.args.bytes.now) stop) c.take-read.result)
    (sym c.stop_of-self-inside.ensures)
    (takes_piece text c.args.bytes.now s.reading s.pending s.fed s.stop read are c.take-read.new.reading c.take-read.new.pending c.take-read.result c.take-read.ensures.base
    (c.take-read.ensures.takes read.below read.behind))

pub returns-clause-held : goal.returns-clause-held
returns-clause-held c =
    let s = c.self.inside in
    let read = c.self.invariant.reads c.in_default.is in
    let are : IsBytes c.args.bytes.now = λ i. omega (arith, c.type_inv.bytes i) in
    held_little read.0 c.args.bytes.now s.reading s.pending s.fed s.stop read.1 are c.take-read.new.reading c.take-read.new.pending c.take-read.result
    (c.take-read.ensures.takes read.1.below read.1.behind)
