-- Connections in their places, one after the other.
use Rattle.std.proofs.Common.{◌≡◌, inl, inr, ℕ, ◌+◌, ◌<◌, ◌≤◌, List, length, get_or, set, take, drop, sym, ap, subst, ◌∙◌, arith, length-drop}
use Rattle.std.proofs.lemmas.Bool.{cases_eq}
use Rattle.std.proofs.lemmas.List.{get_or_default, get_or-set_same, get_or-set_other, length-set, take_all}
use Rattle.libc.specs.declared.types.pollfd.{pollfd}
use Rattle.system_io.specs.declared.stream.Stream.{Stream}
use Rattle.system_io.specs.Waits.{Looked, LooksAtFirst, LooksAtEach}

-- the one in the next place was looked at too
pub LooksAtFirst-more : (old mid : List Stream) (places : List pollfd) (now at : ℕ) (stream after : Stream) (e : pollfd) → at < length mid → at < length places
    → stream ≡ get_or mid at stream → Looked stream after (get_or places at e) now → LooksAtFirst old mid places now at → LooksAtFirst old (set mid at after) places now (at + 1)
LooksAtFirst-more old mid places now at stream after e low room is looked so = record {
  size = length-set mid at after ∙ so.size;
  looked = λ k s p below within inside. elim (cases_eq k at) [
    | inl same ↦
        let first : get_or old k s ≡ stream = sym (so.others k s (omega arith)) ∙ ap (λ (n : ℕ). get_or mid n s) same ∙ get_or_default mid at s stream low ∙ sym is in
        let then : get_or (set mid at after) k s ≡ after = ap (λ (n : ℕ). get_or (set mid at after) n s) same ∙ get_or-set_same mid at after s low in
        let there : get_or places k p ≡ get_or places at e = ap (λ (n : ℕ). get_or places n p) same ∙ get_or_default places at p e room in
        subst (λ (o : Stream). Looked o (get_or (set mid at after) k s) (get_or places k p) now) (sym first)
        (subst (λ (n : Stream). Looked stream n (get_or places k p) now) (sym then)
        (subst (λ (q : pollfd). Looked stream after q now) (sym there) looked))
    | inr other ↦ subst (λ (n : Stream). Looked (get_or old k s) n (get_or places k p) now) (sym (get_or-set_other mid at k after s other)) (so.looked k s p (omega arith) within inside)
  ];
  others = λ k s above. get_or-set_other mid at k after s (λ same. omega arith) ∙ so.others k s (omega arith);
}

-- what was looked at by the places behind others
pub LooksAtEach-behind : (old new : List Stream) (places : List pollfd) (n k now : ℕ) → LooksAtEach old new (take k (drop n places)) now → length places ≤ n + k → LooksAtEach old new (drop n places) now
LooksAtEach-behind old new places n k now looks short =
    subst (λ (ps : List pollfd). LooksAtEach old new ps now) (take_all k (drop n places) (omega (arith, length-drop n places))) looks
