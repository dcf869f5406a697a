use Rattle.std.proofs.Common.{◌≡◌, ℕ, ◌+◌, ◌-◌, List, ◌++◌, length, take, drop, ap, sym, ◌∙◌, arith}
use Rattle.import_expand.proofs.ExpandLemmas.{take_behind}
use Rattle.import_expand.proofs.told.Joining.again.Goals as goal

pub returns-clause-added : goal.returns-clause-added
returns-clause-added c =
    let items = c.args.self.now.found.items in
    let stretch = take c.args.told.count (drop c.args.told.first items) in
    let room : 256 - c.len-room.result ≡ 256 - length items = omega arith in
    let many : c.args.told.first + c.fitting-count.result - c.args.told.first ≡ c.fitting-count.result = omega arith in
    c.in_ok-extend_from_within.ensures.items ∙ ap (λ (k : ℕ). items ++ take k (drop c.args.told.first items)) many ∙ ap (λ (l : List ℕ). items ++ l) (c.fitting-count.ensures.cut (drop c.args.told.first items)) ∙ ap (λ (k : ℕ). items ++ take k stretch) room ∙ sym (take_behind 256 items stretch c.args.self.now.few)
