use Rattle.std.proofs.Common.{refl, sym, ap, ◌∙◌, take, length}
use Rattle.std.specs.List.{flat_map}
use Rattle.std.proofs.lemmas.Result.{IfOk-weaker}
use Rattle.import_expand.specs.Sources.{all_sources, entries}
use Rattle.import_expand.specs.Books.{objects}
use Rattle.import_expand.proofs.SourceLemmas.{child_some, no_entries, none_of_length}
use Rattle.import_expand.proofs.ExpandLemmas.{shows_same, shows_length}
use Rattle.import_expand.proofs.children.child_by_label.Goals as goal

pub returns-clause-found : goal.returns-clause-found
returns-clause-found g c =
    let live = g.N.Names.served c.args.names.now in
    let label = c.args.label.now in
    IfOk-weaker c.join_all.result _ _ (λ v h some ns hn.
    let all = take 256 (flat_map (all_sources live 4) (entries label ns)) in
    let same = shows_length (objects c.join_all.new.book) v.items all (h ns hn) in
    shows_same _ _ _ _ (child_some live ns label all refl (λ e. some (none_of_length v.items (same ∙ ap length e)))) (h ns hn)) c.join_all.ensures.found

pub returns-clause-none : goal.returns-clause-none
returns-clause-none g c =
    let live = g.N.Names.served c.args.names.now in
    let label = c.args.label.now in
    IfOk-weaker c.join_all.result _ _ (λ v h empty ns hn.
    let all = take 256 (flat_map (all_sources live 4) (entries label ns)) in
    let same = shows_length (objects c.join_all.new.book) v.items all (h ns hn) in
    no_entries live (entries label ns) (none_of_length all (sym same ∙ ap length empty))) c.join_all.ensures.found
