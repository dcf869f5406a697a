use Rattle.std.proofs.Common.{List, ℕ, arith, ap, sym, subst, ◌++◌, take}
use Rattle.import_expand.specs.Sources.{under}
use Rattle.import_expand.specs.Books.{objects, Shows}
use Rattle.import_expand.specs.Joinings.{AreTold}
use Rattle.import_expand.specs.declared.told.Told.{Told}
use Rattle.import_expand.proofs.BookLemmas.{then_keeps}
use Rattle.import_expand.proofs.ExpandLemmas.{shows_length}
use Rattle.import_expand.proofs.ToldLemmas.{few_found, joined_later, told_later, told_more}
use Rattle.import_expand.proofs.joining.ask_first.Goals as goal

pub returns-clause-later : goal.returns-clause-later
returns-clause-later g c = then_keeps (g.N.Names.served c.args.names.now) c.args.book.now c.add_entry.new.book c.keep.new.book c.in_ok-add_entry.ensures.later c.in_ok-keep.ensures.keeps

pub returns-clause-added : goal.returns-clause-added
returns-clause-added g c o ms here joined =
    let live = g.N.Names.served c.args.names.now in
    let label = c.args.label.now in
    let a = objects c.args.book.now in
    let b = objects c.add_entry.new.book in
    let now = c.keep.new.joining in
    let grows = c.in_ok-add_entry.ensures.later.grows in
    let few = few_found live a label c.args.joining.now ms c.args.joining.now.few joined in
    let many = shows_length a c.args.joining.now.found.items ms joined.shown in
    let shown = c.in_ok-add_entry.ensures.added o ms here joined.shown in
    let before = told_more live b label ms (under live label o) c.args.joining.now.told.items few (told_later live a b label ms c.args.joining.now.told.items grows joined.told) in
    let told = c.in_ok-keep.ensures.told live b label o ms (omega (arith, many)) (grows _ _ here) shown
    (subst (λ (l : List Told). AreTold live b label (take 256 (ms ++ under live label o)) l) (sym (ap (λ v. v.items) c.add_entry.ensures.told)) before) in
    joined_later live b (objects c.keep.new.book) label now (take 256 (ms ++ under live label o)) c.in_ok-keep.ensures.keeps.grows
    (record { shown = subst (λ (l : List ℕ). Shows b l (take 256 (ms ++ under live label o))) (sym (ap (λ v. v.items) c.keep.ensures.found)) shown; told = told })
