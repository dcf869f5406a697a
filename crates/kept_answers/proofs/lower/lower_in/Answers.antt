use Rattle.std.proofs.Common.{◌≡◌, ℕ, ◌+◌, ◌-◌, ◌≤◌, List, ◌++◌, length, map, take, ap, ◌∙◌, arith, append_assoc}
use Rattle.std.proofs.Math.Seq.{take-append-add}
use Rattle.std.proofs.lemmas.List.{length-map, map-append, take_at}
use Rattle.std.specs.Char.{to_ascii_lowercase}
use Rattle.kept_answers.proofs.lower.lower_in.Goals as goal

abbrev made_lower : List ℕ → List ℕ
made_lower = map to_ascii_lowercase

-- what is made lower behind a front doesn't matter to it
of_front : (name rest behind : List ℕ) (more : ℕ) → take (length name) (made_lower (take (length name + more) (name ++ rest)) ++ behind) ≡ made_lower name
of_front name rest behind more =
    let others = made_lower (take more rest) in
    let whole : made_lower (take (length name + more) (name ++ rest)) ≡ made_lower name ++ others =
    ap made_lower (take-append-add name rest more) ∙ map-append to_ascii_lowercase name (take more rest) in
    ap (λ (l : List ℕ). take (length name) (l ++ behind)) whole
    ∙ ap (take (length name)) (append_assoc (made_lower name) others behind)
    ∙ take_at (made_lower name) (others ++ behind) (length name) (length-map name to_ascii_lowercase)

lowered : (name copied rest low behind : List ℕ) (end : ℕ) → copied ≡ name → low ≡ made_lower (take end (copied ++ rest)) → length name ≤ end
    → take (length name) (low ++ behind) ≡ made_lower name
lowered name copied rest low behind end is e within =
    let more : end ≡ length name + (end - length name) = omega arith in
    let low_is : low ≡ made_lower (take (length name + (end - length name)) (name ++ rest)) =
    e ∙ ap (λ (l : List ℕ). made_lower (take end (l ++ rest))) is ∙ ap (λ (n : ℕ). made_lower (take n (name ++ rest))) more in
    ap (λ (l : List ℕ). take (length name) (l ++ behind)) low_is ∙ of_front name rest behind (end - length name)

pub returns : goal.returns
returns c = lowered _ _ _ _ _ _ c.copy_from_slice.ensures.after c.make_ascii_lowercase.ensures.after c.next_multiple_of.ensures.lower_bound
