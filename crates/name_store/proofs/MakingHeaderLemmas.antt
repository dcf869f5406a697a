-- What making the header leaves of its file at each moment.
use Rattle.std.proofs.Common.{◌≡◌, inl, inr, ℕ, ◌≤◌, List, [], ◌∷◌, length, sym, ◌∙◌, ap, subst, arith}
use Rattle.std.specs.Prelude.{IsTrue, slice_index}
use Rattle.nmc_base.specs.declared.chain_ends.Base.{Base}
use Rattle.disk_model.specs.FileState.{FileState}
use Rattle.disk_model.specs.Moments.{Files, Moments, EachMoment}
use Rattle.disk_model.specs.Changes.{Changes}
use Rattle.disk_model.proofs.MomentLemmas.{weaken, join, last_moment}
use Rattle.gate_journal.specs.Writes.{KeepsBelow, HoldsGate, IsOpenedOrClosed}
use Rattle.name_store.specs.MakingSteps.{HasSettled, IsShort, IsHeaderOrNone, closed_header}

module _ (base : Base) (host : List ℕ) where
  -- a file of at most one byte is uninitialised, whatever a crash leaves of it
  short_none : (file : FileState) → file.greatest ≤ 1 → IsHeaderOrNone base host file
  short_none file short = λ image is. inl (λ begun. omega (arith, begun.long, is.no_longer, short))

  -- and so is one with a closed gate that is settled
  shut_none : (file : FileState) → IsTrue (file.settled 0) → slice_index file.bytes 0 ≡ 0 → IsHeaderOrNone base host file
  shut_none file settled shut = λ image is. inl (λ begun. omega (arith, begun.is_open, is.kept 0 settled, shut))

  -- while the gate of the whole header is opened
  opening : (files old : Files) → HasSettled (closed_header base host) (old 0) → HoldsGate 0 0 (old 0).bytes old files → IsHeaderOrNone base host (files 0)
  opening files old closed so = λ image is. elim (subst (λ (bytes : List ℕ). IsOpenedOrClosed 0 bytes image) closed.are (so.image image is)) [
    | inl opened ↦ inr opened
    | inr shut ↦ inl (λ begun. shut.1 (sym (ap (λ (bytes : List ℕ). slice_index bytes 0) shut.2) ∙ begun.is_open))
  ]

  -- the header's file, and no other, changes from these files on
  abbrev Making : Files → Files → Type 0
  Making old files = Changes 0 (λ _ file. IsHeaderOrNone base host file) old files

  pub making_then : (m0 m1 m2 : Moments) → EachMoment (Making m0.now) m0 m1 → EachMoment (Making m1.now) m1 m2 → EachMoment (Making m0.now) m0 m2
  making_then m0 m1 m2 first second = join first (weaken (Making m0.now)
      (λ files so. record { here = so.here; others = λ other differ. so.others other differ ∙ (last_moment first).others other differ }) second)

  pub gate_made : (m0 m1 : Moments) → (m0.now 0).greatest ≤ 1 → EachMoment (Changes 0 IsShort m0.now) m0 m1 → EachMoment (Making m0.now) m0 m1
  gate_made m0 m1 short gate = weaken (Making m0.now) (λ files so. record { here = short_none (files 0) (omega (arith, so.here, short)); others = so.others }) gate

  pub fields_made : (m1 m2 : Moments) → HasSettled (0 ∷ []) (m1.now 0) → EachMoment (Changes 0 (KeepsBelow 1) m1.now) m1 m2 → EachMoment (Making m1.now) m1 m2
  fields_made m1 m2 at_gate fields = weaken (Making m1.now) (λ files so. record { here = kept files so.here; others = so.others }) fields
    where
      gate_settled : IsTrue ((m1.now 0).settled 0)
      gate_settled = at_gate.settled.each 0 (omega (arith, ap length at_gate.are))

      kept : (files : Files) → KeepsBelow 1 (m1.now 0) (files 0) → IsHeaderOrNone base host (files 0)
      kept files so = let stays = so.kept 0 (omega arith) gate_settled in
          shut_none (files 0) stays.settled (stays.same ∙ ap (λ (bytes : List ℕ). slice_index bytes 0) at_gate.are)

  pub gate_opened : (m2 m3 : Moments) → HasSettled (closed_header base host) (m2.now 0) → EachMoment (HoldsGate 0 0 (m2.now 0).bytes m2.now) m2 m3 → EachMoment (Making m2.now) m2 m3
  gate_opened m2 m3 closed opens = weaken (Making m2.now) (λ files so. record { here = opening files m2.now closed so; others = so.others }) opens
