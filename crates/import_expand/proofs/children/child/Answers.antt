use Rattle.std.proofs.Common.{arith, refl, ap, sym, ◌∙◌, ◌≡◌, [], ◌∷◌, take, length}
use Rattle.std.specs.List.{flat_map}
use Rattle.import_expand.specs.Sources.{all_sources, entries}
use Rattle.import_expand.specs.Books.{objects}
use Rattle.import_expand.proofs.BookLemmas.{shows_later}
use Rattle.import_expand.proofs.SourceLemmas.{child_some, child_any, none_of_length}
use Rattle.import_expand.proofs.ExpandLemmas.{shows_same, shows_length}
use Rattle.import_expand.proofs.children.child.Goals as goal

pub returns-then-len-gt0-clause-found : goal.returns-then-len-gt0-clause-found
returns-then-len-gt0-clause-found g c ns hn =
    let live = g.N.Names.served c.args.names.now in
    let all = take 256 (flat_map (all_sources live 4) (entries c.args.label.now ns)) in
    let first = c.in_ok-found.ensures.found ns hn in
    let same = shows_length (objects c.join_all.new.book) c.in_ok-found.found.items all first in
    shows_same _ _ _ _ (child_some live ns c.args.label.now all refl (λ e. let l = same ∙ ap length e in omega (arith, l))) first

pub returns-clause-found : goal.returns-clause-found
returns-clause-found g c ns hn =
    let live = g.N.Names.served c.args.names.now in
    let all = take 256 (flat_map (all_sources live 4) (entries c.args.label.now ns)) in
    let same = shows_length (objects c.join_all.new.book) c.in_ok-found.found.items all (c.in_ok-found.ensures.found ns hn) in
    let items : c.in_ok-found.found.items ≡ [] = none_of_length c.in_ok-found.found.items (omega arith) in
    let none : all ≡ [] = none_of_length all (sym same ∙ ap length items) in
    shows_same _ _ _ _ (child_any live ns c.args.label.now (take 256 (flat_map (all_sources live 4) (entries (42 ∷ []) ns))) none refl)
    (c.in_ok-found-2.ensures.found ns (shows_later (objects c.args.book.now) (objects c.join_all.new.book) c.in_ok-found.ensures.later.grows c.args.of.now ns hn))
