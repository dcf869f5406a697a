use Rattle.std.proofs.Common.{◌≡◌, ℕ, ◌-◌, List, ◌++◌, length, take, ap, sym, ◌∙◌, arith}
use Rattle.import_expand.proofs.ExpandLemmas.{take_behind}
use Rattle.import_expand.proofs.expansion.add_all.Goals as goal

pub returns-in_ok-extend_from_slice-in_default-clause-added : goal.returns-in_ok-extend_from_slice-in_default-clause-added
returns-in_ok-extend_from_slice-in_default-clause-added c =
    let items = c.args.found.now.items in
    let room : 256 - c.len-room.result ≡ 256 - length items = omega arith in
    c.in_ok-extend_from_slice-in_default.ensures.items ∙ ap (λ (l : List ℕ). items ++ l) c.first_numbers.ensures ∙ ap (λ (k : ℕ). items ++ take k c.args.numbers.now) room
    ∙ sym (take_behind 256 items c.args.numbers.now c.requires.few)
