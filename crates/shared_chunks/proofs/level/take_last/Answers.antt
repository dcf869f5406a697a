use Rattle.std.proofs.Common.{◌≡◌, ◌∙◌, ◌∷◌, [], ◌≤◌, sym, ap, subst, length, refl, arith}
use Rattle.std.specs.Option.{is_some}
use Rattle.std.specs.List.{slice_get}
use Rattle.std.specs.declared.cmp.Ordering.TheVariants.{Less, Equal, Greater}
use Rattle.shared_chunks.proofs.Parts.{part_is, part_get, part_value, part_kept, part_gone, part_gone_count, last_pair, last_found, last_gone, last_kept}
use Rattle.shared_chunks.proofs.level.take_last.Goals as goal

pub returns-in-Equal-clause-found : goal.returns-in-Equal-clause-found
returns-in-Equal-clause-found g c =
    let e = part_is c.args.subs.now.items c.args.key.now c.args.at c.requires.part c.index.result.now c.index.ensures in
    let few = c.requires.few c.requires.part.part (part_get c.args.subs.now.items c.args.key.now c.args.at c.requires.part) in
    let one = last_pair c.requires.part.part c.low.result.now few (ap (λ z. slice_get z 0) (sym e) ∙ c.low.ensures) in
    sym (ap is_some (part_value c.args.subs.now.items c.args.key.now c.args.at c.requires.part) ∙ last_found g.K.Ord.cmp c.requires.part.part c.low.result.now c.args.key.now Equal one (sym c.in-Equal.ensures))

pub returns-in-Equal-clause-ok : goal.returns-in-Equal-clause-ok
returns-in-Equal-clause-ok g c =
    let e = part_is c.args.subs.now.items c.args.key.now c.args.at c.requires.part c.index.result.now c.index.ensures in
    let few = c.requires.few c.requires.part.part (part_get c.args.subs.now.items c.args.key.now c.args.at c.requires.part) in
    let one = last_pair c.requires.part.part c.low.result.now few (ap (λ z. slice_get z 0) (sym e) ∙ c.low.ensures) in
    rw c.remove.ensures.items (part_gone c.args.subs.now.items c.args.key.now c.args.at c.requires.part (last_gone g.K.Ord.cmp c.requires.part.part c.low.result.now c.args.key.now one (sym c.in-Equal.ensures)))

pub returns-in-Equal-clause-count : goal.returns-in-Equal-clause-count
returns-in-Equal-clause-count g c =
    let e = part_is c.args.subs.now.items c.args.key.now c.args.at c.requires.part c.index.result.now c.index.ensures in
    let few = c.requires.few c.requires.part.part (part_get c.args.subs.now.items c.args.key.now c.args.at c.requires.part) in
    let one = last_pair c.requires.part.part c.low.result.now few (ap (λ z. slice_get z 0) (sym e) ∙ c.low.ensures) in
    rw c.remove.ensures.items (omega (arith, part_gone_count c.args.subs.now.items c.args.key.now c.args.at c.requires.part, ap length one))

pub returns-in-Less-clause-found : goal.returns-in-Less-clause-found
returns-in-Less-clause-found g c =
    let e = part_is c.args.subs.now.items c.args.key.now c.args.at c.requires.part c.index.result.now c.index.ensures in
    let few = c.requires.few c.requires.part.part (part_get c.args.subs.now.items c.args.key.now c.args.at c.requires.part) in
    let one = last_pair c.requires.part.part c.low.result.now few (ap (λ z. slice_get z 0) (sym e) ∙ c.low.ensures) in
    sym (ap is_some (part_value c.args.subs.now.items c.args.key.now c.args.at c.requires.part) ∙ last_found g.K.Ord.cmp c.requires.part.part c.low.result.now c.args.key.now Less one (sym c.in-Less.ensures))

pub returns-in-Less-clause-ok : goal.returns-in-Less-clause-ok
returns-in-Less-clause-ok g c =
    let e = part_is c.args.subs.now.items c.args.key.now c.args.at c.requires.part c.index.result.now c.index.ensures in
    let few = c.requires.few c.requires.part.part (part_get c.args.subs.now.items c.args.key.now c.args.at c.requires.part) in
    let one = last_pair c.requires.part.part c.low.result.now few (ap (λ z. slice_get z 0) (sym e) ∙ c.low.ensures) in
    part_kept c.args.subs.now.items c.args.key.now c.args.at c.requires.part (last_kept g.K.Ord.cmp c.requires.part.part c.low.result.now c.args.key.now Less one (sym c.in-Less.ensures) refl)

pub returns-in-Greater-clause-found : goal.returns-in-Greater-clause-found
returns-in-Greater-clause-found g c =
    let e = part_is c.args.subs.now.items c.args.key.now c.args.at c.requires.part c.index.result.now c.index.ensures in
    let few = c.requires.few c.requires.part.part (part_get c.args.subs.now.items c.args.key.now c.args.at c.requires.part) in
    let one = last_pair c.requires.part.part c.low.result.now few (ap (λ z. slice_get z 0) (sym e) ∙ c.low.ensures) in
    sym (ap is_some (part_value c.args.subs.now.items c.args.key.now c.args.at c.requires.part) ∙ last_found g.K.Ord.cmp c.requires.part.part c.low.result.now c.args.key.now Greater one (sym c.in-Greater.ensures))

pub returns-in-Greater-clause-ok : goal.returns-in-Greater-clause-ok
returns-in-Greater-clause-ok g c =
    let e = part_is c.args.subs.now.items c.args.key.now c.args.at c.requires.part c.index.result.now c.index.ensures in
    let few = c.requires.few c.requires.part.part (part_get c.args.subs.now.items c.args.key.now c.args.at c.requires.part) in
    let one = last_pair c.requires.part.part c.low.result.now few (ap (λ z. slice_get z 0) (sym e) ∙ c.low.ensures) in
    part_kept c.args.subs.now.items c.args.key.now c.args.at c.requires.part (last_kept g.K.Ord.cmp c.requires.part.part c.low.result.now c.args.key.now Greater one (sym c.in-Greater.ensures) refl)
