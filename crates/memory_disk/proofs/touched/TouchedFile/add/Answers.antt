use Rattle.std.proofs.Common.{◌≡◌, ℕ, ◌+◌, List, Bool, false, sym, ◌∙◌, ap, subst}
use Rattle.std.specs.Prelude.{◌&&◌, ◌||◌, nat_lt, nat_le, slice_index_or}
use Rattle.std.specs.Vec.{with_items}
use Rattle.std.proofs.lemmas.List.{with_items_is}
use Rattle.memory_disk.specs.Calls.{effect_on, write_failed}
use Rattle.memory_disk.specs.Touched.{touch}
use Rattle.memory_disk.specs.Kept.{touched_of, failed_effect}
use Rattle.memory_disk.specs.declared.kept.FailedEffect.{FailedEffect}
use Rattle.memory_disk.proofs.TouchedLemmas.{touch_write}
use Rattle.memory_disk.proofs.touched.TouchedFile.add.Goals as goal

pub returns-in-FailedWrite : goal.returns-in-FailedWrite
returns-in-FailedWrite c = λ s.
    let old = c.args.self.now in
    let at = c.in-FailedWrite.at in
    let count = c.in-FailedWrite.count in
    let marks = c.unsettle.new.settled in
    let kept : (with_items old.outside marks).items ≡ marks = with_items_is old.outside marks (c.unsettle.auto.settled ∙ c.deref_mut.ensures.len) in
    let after_it = effect_on (write_failed at count) (touch (touched_of old) s) in
    subst (λ (f : FailedEffect). touch (record { outside = (with_items old.outside marks).items; least = old.least; greatest = c.max-self.result }) s ≡ effect_on (failed_effect f) (touch (touched_of old) s)) (sym c.in-FailedWrite.is)
    (subst (λ (l : List Bool). touch (record { outside = l; least = old.least; greatest = c.max-self.result }) s ≡ after_it) (sym kept)
    (subst (λ (g : ℕ). touch (record { outside = marks; least = old.least; greatest = g }) s ≡ after_it) (sym c.max-self.ensures)
    (touch_write old.outside.items marks old.least old.greatest at count s
    (λ p. c.unsettle.ensures p ∙ ap (λ (l : List Bool). slice_index_or l p false && (nat_lt p at || nat_le (at + count) p)) c.deref_mut.ensures.value))))
