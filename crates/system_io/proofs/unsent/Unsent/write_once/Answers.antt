use Rattle.std.proofs.Common.{rules, ◌≡◌, ◌+◌, ◌∷◌, [], ◌++◌, List, ℕ, take, drop, sym, ap, ◌∙◌, append-nil}
use Rattle.std.proofs.lemmas.List.{drop-drop, take-append-drop}
use Rattle.system_io.proofs.unsent.Unsent.write_once.Goals as goal

pub returns-clause-moved : goal.returns-clause-moved
returns-clause-moved g c =
    let items = c.self.inside.bytes.items in
    let at = c.self.inside.taken in
    let n = c.in_ok-count.count in
    let left : c.split_at.result.1.now ≡ drop at items = search rules in
    record {
      pieces = take n (drop at items) ∷ [];
      left = sym c.self.view_is ∙ (sym (take-append-drop n (drop at items)) ∙ (ap (λ (q : List ℕ). take n (drop at items) ++ q) (drop-drop n at items)
          ∙ ap (λ (q : List ℕ). q ++ drop (at + n) items) (sym (append-nil (take n (drop at items))))));
      added = rw (← left) c.in_ok-count.ensures.bytes;
    }
