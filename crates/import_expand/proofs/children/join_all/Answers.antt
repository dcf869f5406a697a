use Rattle.std.proofs.Common.{[], sym}
use Rattle.import_expand.specs.Books.{objects}
use Rattle.import_expand.proofs.ExpandLemmas.{shows_by}
use Rattle.import_expand.proofs.children.join_all.Goals as goal

pub returns-clause-found : goal.returns-clause-found
returns-clause-found g c ns hn = c.in_ok-join.ensures.added ns [] hn (shows_by (objects c.args.book.now) [] c.new-found.result.items [] (sym c.new-found.ensures.items) tt)
