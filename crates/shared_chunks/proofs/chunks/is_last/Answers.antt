use Rattle.std.proofs.Common.{◌≡◌, ◌∙◌, sym, refl}
use Rattle.std.specs.declared.cmp.Ordering.TheVariants.{Less, Equal, Greater}
use Rattle.shared_chunks.proofs.Parts.{last_pair, last_found, last_gone, last_kept}
use Rattle.shared_chunks.proofs.chunks.is_last.Goals as goal

pub returns-in-Equal-clause-found : goal.returns-in-Equal-clause-found
returns-in-Equal-clause-found g c = sym (last_found g.K.Ord.cmp c.args.sub.now c.low.result.now c.args.key.now Equal (last_pair c.args.sub.now c.low.result.now c.requires.few c.low.ensures) (sym c.in-Equal.ensures))

pub returns-in-Equal-clause-gone : goal.returns-in-Equal-clause-gone
returns-in-Equal-clause-gone g c = λ _. last_gone g.K.Ord.cmp c.args.sub.now c.low.result.now c.args.key.now (last_pair c.args.sub.now c.low.result.now c.requires.few c.low.ensures) (sym c.in-Equal.ensures)

pub returns-in-Less-clause-found : goal.returns-in-Less-clause-found
returns-in-Less-clause-found g c = sym (last_found g.K.Ord.cmp c.args.sub.now c.low.result.now c.args.key.now Less (last_pair c.args.sub.now c.low.result.now c.requires.few c.low.ensures) (sym c.in-Less.ensures))

pub returns-in-Less-clause-kept : goal.returns-in-Less-clause-kept
returns-in-Less-clause-kept g c = λ _. last_kept g.K.Ord.cmp c.args.sub.now c.low.result.now c.args.key.now Less (last_pair c.args.sub.now c.low.result.now c.requires.few c.low.ensures) (sym c.in-Less.ensures) refl

pub returns-in-Greater-clause-found : goal.returns-in-Greater-clause-found
returns-in-Greater-clause-found g c = sym (last_found g.K.Ord.cmp c.args.sub.now c.low.result.now c.args.key.now Greater (last_pair c.args.sub.now c.low.result.now c.requires.few c.low.ensures) (sym c.in-Greater.ensures))

pub returns-in-Greater-clause-kept : goal.returns-in-Greater-clause-kept
returns-in-Greater-clause-kept g c = λ _. last_kept g.K.Ord.cmp c.args.sub.now c.low.result.now c.args.key.now Greater (last_pair c.args.sub.now c.low.result.now c.requires.few c.low.ensures) (sym c.in-Greater.ensures) refl
