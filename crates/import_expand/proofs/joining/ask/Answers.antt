use Rattle.std.proofs.Common.{List, ap, sym, subst, take, ◌++◌}
use Rattle.import_expand.specs.Sources.{all_sources, if_named, under}
use Rattle.import_expand.specs.Books.{objects}
use Rattle.import_expand.specs.Joinings.{AreTold}
use Rattle.import_expand.specs.declared.told.Told.{Told}
use Rattle.import_expand.proofs.ToldLemmas.{few_found, joined_none, shows_again, told_more}
use Rattle.import_expand.proofs.joining.ask.Goals as goal

pub returns-then-lacks-clause-added : goal.returns-then-lacks-clause-added
returns-then-lacks-clause-added g c o ms here joined =
    let live = g.N.Names.served c.args.names.now in
    let label = c.args.label.now in
    joined_none live (objects c.args.book.now) label c.args.joining.now o ms (ap (if_named (all_sources live 4)) (c.lacks.ensures c.if-lacks.true label o (sym c.requires.number) here)) joined

pub returns-in_ok-again-in-Some-clause-added : goal.returns-in_ok-again-in-Some-clause-added
returns-in_ok-again-in-Some-clause-added g c o ms here joined =
    let live = g.N.Names.served c.args.names.now in
    let label = c.args.label.now in
    let os = objects c.args.book.now in
    let old = c.args.joining.now in
    let told = subst (λ (l : List Told). AreTold live os label ms l) (sym c.as_slice.ensures.value) joined.told in
    let more = told_more live os label ms (under live label o) old.told.items (few_found live os label old ms old.few joined) joined.told in
    record {
      shown = shows_again live os label o ms old.found.items c.again.new.self.found.items c.in-Some.told joined.shown (c.in-Some.ensures.told live os label o ms told here) c.in_ok-again-in-Some.ensures.added;
      told = subst (λ (l : List Told). AreTold live os label (take 256 (ms ++ under live label o)) l) (sym (ap (λ v. v.items) c.again.ensures.told)) more;
    }
