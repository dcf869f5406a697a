-- Selections are damaged at one place, and not where they are all as they should be.
use Rattle.std.proofs.Common.{◌≡◌, inl, inr, ℕ, ◌≤◌, List, length, take, sym, ◌∙◌, subst, arith, length-take}
use Rattle.std.proofs.lemmas.Bool.{cases_eq, cases_lt}
use Rattle.gate_journal.specs.Gate.{IsOpen, IsRecordAt}
use Rattle.gate_journal.specs.Records.{HasRecordsTo}
use Rattle.gate_journal.proofs.GateLemmas.{ended_to}
use Rattle.image_slots.specs.Selections.{HasSelections, selections, next_selection, selections_limit}
use Rattle.image_slots.specs.Damage.{HasBadSelection, IsDamaged, no_gate, selection}
use Rattle.image_slots.proofs.SelectionLemmas.{gate_is, stands_next, open_at}

module _ (at most : ℕ) (file : List ℕ) where
  abbrev front : List ℕ
  front = take at file

  -- where a gate stands behind the front, the first gate lies inside the file
  front_is : (gate count : ℕ) → HasRecordsTo gate front (selections count) file → length front ≡ at
  front_is gate count has = omega (arith, length-take at file, gate_is gate front count file has, has.inside)

  -- behind a bad selection there are no more
  no_more : (gate count last : ℕ) → HasRecordsTo last front (selections count) file → count ≤ most → (bad : HasBadSelection at most file gate) → count ≤ bad.count
  no_more gate count last has few bad = elim (cases_lt bad.count count) [
    | inl less ↦
        let there = front_is last count has in
        let end = gate_is last front count file has in
        let here = gate_is gate front bad.count file bad.read in
        absurd (bad.no_next (subst (λ (n : ℕ). IsRecordAt file n (selections_limit at most) (next_selection bad.count)) (sym here)
        (stands_next front file bad.count count last (selections_limit at most) less has (omega (arith, end, there, few)))))
    | inr enough ↦ enough
  ]

  pub one_place : (place other : ℕ) → IsDamaged at most file place → IsDamaged at most file other → place ≡ other
  one_place place other (no_gate is cut) (no_gate is_other cut_other) = is ∙ sym is_other
  one_place place other (no_gate is cut) (selection bad) = absurd (omega (arith, cut, front_is other bad.count bad.read, gate_is other front bad.count file bad.read, bad.read.inside))
  one_place place other (selection bad) (no_gate is cut) = absurd (omega (arith, cut, front_is place bad.count bad.read, gate_is place front bad.count file bad.read, bad.read.inside))
  one_place place other (selection bad) (selection worse) =
      let low = no_more place worse.count other worse.read worse.few bad in
      let high = no_more other bad.count place bad.read bad.few worse in
      omega (arith, low, high, gate_is place front bad.count file bad.read, gate_is other front worse.count file worse.read)

  pub no_place : (count place : ℕ) → HasSelections front count file → count ≤ most → IsDamaged at most file place → ⊥
  no_place count place has few damaged =
      let to = ended_to front (selections count) file has in
      let end = gate_is _ front count file to in
      elim damaged [
        | no_gate is cut ↦ omega (arith, cut, front_is _ count to, end, to.inside)
        | selection bad ↦
            let there = front_is _ count to in
            let here = gate_is place front bad.count file bad.read in
            let low = no_more place count _ to few bad in
            elim (cases_eq count bad.count) [
              | inl same ↦ has.closed.closed (subst (IsOpen file) (omega (arith, here, end, same)) bad.is_open)
              | inr differ ↦
                  has.closed.closed (open_at file _ _ (next_selection count) (subst (λ (n : ℕ). IsRecordAt file n (selections_limit at most) (next_selection count)) (sym end)
                  (stands_next front file count bad.count place (selections_limit at most) (omega (arith, low)) bad.read (omega (arith, here, there, bad.few)))))
            ]
      ]
