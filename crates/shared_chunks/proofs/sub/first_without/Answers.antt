use Rattle.std.proofs.Common.{sym, refl}
use Rattle.std.proofs.lemmas.Result.{IfOk-weaker}
use Rattle.std.specs.declared.cmp.Ordering.TheVariants.{Less, Equal, Greater}
use Rattle.shared_chunks.proofs.Parts.{kept_first, next_first}
use Rattle.shared_chunks.proofs.sub.first_without.Goals as goal

pub returns-in-Greater : goal.returns-in-Greater
returns-in-Greater g c =
    IfOk-weaker c.copy.result _ _ (λ e h. kept_first g.K.Ord.cmp (g.T.Part.pairs c.args.part.now) c.args.low.now c.args.key.now Greater e c.requires.low (sym c.in-Greater.ensures) refl h) c.copy.ensures

pub returns-in-Less : goal.returns-in-Less
returns-in-Less g c =
    IfOk-weaker c.copy-in-Less.result _ _ (λ e h. kept_first g.K.Ord.cmp (g.T.Part.pairs c.args.part.now) c.args.low.now c.args.key.now Less e c.requires.low (sym c.in-Less.ensures) refl h) c.copy-in-Less.ensures

pub returns-in-Some : goal.returns-in-Some
returns-in-Some g c =
    IfOk-weaker c.copy-in-Some.result _ _ (λ e h. next_first g.K.Ord.cmp (g.T.Part.pairs c.args.part.now) c.args.low.now c.in-Some.entry.now c.args.key.now e c.requires.low (sym c.in-Equal.ensures) c.in-Some.ensures h) c.copy-in-Some.ensures
