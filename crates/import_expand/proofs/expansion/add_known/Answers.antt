use Rattle.std.proofs.Common.{ℕ, List, ◌++◌, ◌-◌, take, ap, ◌∙◌}
use Rattle.import_expand.specs.Sources.{all_sources}
use Rattle.import_expand.specs.Books.{objects}
use Rattle.import_expand.proofs.ExpandLemmas.{shows_more}
use Rattle.import_expand.proofs.expansion.add_known.Goals as goal

pub returns-in_ok-add_all-in-Some-clause-added : goal.returns-in_ok-add_all-in-Some-clause-added
returns-in_ok-add_all-in-Some-clause-added c told live sound o ms here shown =
    let items = c.in_ok-add_all-in-Some.ensures.added ∙ ap (λ (l : List ℕ). take 256 (c.args.found.now.items ++ l)) c.as_slice.ensures.value in
    shows_more (objects c.args.book.now) c.args.found.now.items c.in-Some.known.now.numbers.items c.add_all.new.found.items ms (all_sources live (4 - c.args.depth) o) items shown (c.in-Some.ensures live sound o here)
