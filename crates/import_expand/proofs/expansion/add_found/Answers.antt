use Rattle.std.proofs.Common.{ℕ, List, ◌++◌, ◌-◌, take, ap, ◌∙◌}
use Rattle.import_expand.specs.Sources.{all_sources}
use Rattle.import_expand.specs.Books.{objects}
use Rattle.import_expand.proofs.BookLemmas.{shows_later}
use Rattle.import_expand.proofs.ExpandLemmas.{shows_more}
use Rattle.import_expand.proofs.expansion.add_found.Goals as goal

pub returns-clause-added : goal.returns-clause-added
returns-clause-added c live are sound o ms here shown =
    let b = c.args.book.now in
    let kept = c.in_ok-keep_sources.ensures live are sound in
    let items = ◌∙◌ {A = List ℕ} c.in_ok-add_all.ensures.added (ap (λ (l : List ℕ). take 256 (c.args.found.now.items ++ l)) c.as_slice.ensures.value) in
    shows_later (objects b) (objects c.keep_sources.new.self) kept.grows c.add_all.new.found.items _ (shows_more (objects b) c.args.found.now.items c.args.own.items c.add_all.new.found.items ms (all_sources live (4 - c.args.depth) o) items shown (are o here))
