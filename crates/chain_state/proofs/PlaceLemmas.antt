-- Places that are empty are given up.
use Rattle.std.proofs.Common.{◌≡◌, ℕ, Bool, true, false, cond, ◌&&◌, List, [], ◌∷◌, ◌++◌, refl, sym, ap, subst, ◌∙◌}
use Rattle.std.specs.Prelude.{◌==◌, nat_eq}
use Rattle.std.specs.Option.{is_some}
use Rattle.std.specs.List.{list_any}
use Rattle.std.specs.Cmp.{unsigned_Decides}
use Rattle.nmc_base.specs.Roomy.{Roomy}
use Rattle.nmc_base.specs.declared.hashes.OutPoint.{OutPoint}
use Rattle.chain_names.specs.Points.{same_point, changed}
use Rattle.chain_names.specs.Tables.{CoinSlots, QueueSlots, coins_in, coin_places, queued_in, queue_places, FilledBut, AreNamesFilled}
use Rattle.chain_names.proofs.Points.{same_point-Decides, same_point-comm}
use Rattle.chain_names.proofs.Filled.{filled-unplaced, filled-weaker}
use Rattle.chain_names.proofs.Shown.{true_is_not_false}
use Rattle.name_tables.specs.Tables.{HoldSame, AreFilled}
use Rattle.chain_state.specs.Work.{may_be_empty, may_be_empty_at, IsWork}
use Rattle.chain_state.specs.declared.work.Work.{Work}
use Rattle.name_tables.proofs.ListLemmas.{or_both}
use Rattle.chain_state.proofs.WorkLemmas.{list_any-more}
use Rattle.name_tables.proofs.PlaceLemmas.{coins_all_filled, rows_all_filled}

-- ---- one place fewer that may be empty

abbrev Listed : List OutPoint → OutPoint → Bool
Listed empty = λ point. list_any (same_point point) empty

from_changed : (empty : List OutPoint) (at point : OutPoint) (b : Bool) → same_point at point ≡ b → cond b true (Listed empty point) ≡ false
    → (Listed empty point ≡ false) × (same_point at point ≡ false)
from_changed empty at point true is e = absurd (true_is_not_false e)
from_changed empty at point false is e = (e, is)

listed-less : (empty : List OutPoint) (at point : OutPoint) → changed same_point (Listed empty) at true point ≡ false → Listed (empty ++ at ∷ []) point ≡ false
listed-less empty at point e =
    let h = from_changed empty at point (same_point at point) refl e in
    list_any-more (same_point point) empty at ∙ or_both _ _ h.0 (same_point-comm point at ∙ h.1)

pub unplaced_coin : (places held : OutPoint → Bool) (empty : List OutPoint) (at : OutPoint) → FilledBut (Listed (empty ++ at ∷ [])) places held
    → FilledBut (Listed empty) (changed same_point places at (held at)) held
unplaced_coin places held empty at filled =
    filled-unplaced same_point-Decides (Listed empty) places held at (filled-weaker _ _ _ _ (listed-less empty at) filled)

-- in a row
abbrev InRow : ℕ → List OutPoint → ℕ → OutPoint → Bool
InRow made empty height = λ point. (made == height) && Listed empty point

in_row : (made height : ℕ) (b : Bool) → (made == height) ≡ b → (rows held : ℕ → OutPoint → Bool) (empty : List OutPoint) (at : OutPoint)
    → FilledBut (λ point. b && Listed (empty ++ at ∷ []) point) (rows height) (held height)
    → FilledBut (λ point. b && Listed empty point) (cond {A = OutPoint → Bool} b (changed same_point (rows made) at (held made at)) (rows height)) (held height)
in_row made height true is rows held empty at filled =
    let row = (unsigned_Decides made height).0 is in
    subst (λ n. FilledBut (Listed empty) (changed same_point (rows n) at (held n at)) (held height)) (sym row)
    (unplaced_coin (rows height) (held height) empty at filled)
in_row made height false is rows held empty at filled = filled

pub unplaced_row : (made : ℕ) (rows held : ℕ → OutPoint → Bool) (empty : List OutPoint) (at : OutPoint)
    → ((height : ℕ) → FilledBut (InRow made (empty ++ at ∷ []) height) (rows height) (held height))
    → (height : ℕ) → FilledBut (InRow made empty height) (changed nat_eq rows made (changed same_point (rows made) at (held made at)) height) (held height)
unplaced_row made rows held empty at filled height = in_row made height (made == height) refl rows held empty at (filled height)

-- ---- so far

pub record IsGivingUp (start now : Work) : Type 0 where
  pub same : HoldSame start.tables now.tables
  pub height : now.height ≡ start.height
  pub coins_filled : FilledBut (Listed now.empty.items) (coin_places now.tables.coins) (λ point. is_some (coins_in now.tables.coins point))
  pub queue_filled : (height : ℕ) → FilledBut (InRow now.height now.empty.items height) (queue_places now.tables.queue height) (queued_in now.tables.queue height)
  pub names_filled : AreNamesFilled now.tables.names

pub gives_up : (w : Work) → IsWork w → w.ops.items ≡ [] → IsGivingUp w w
gives_up w work none = record {
  same = record { coins = refl; names = refl; queue = refl };
  height = refl;
  coins_filled = subst (λ os. FilledBut (may_be_empty os w.empty.items) (coin_places w.tables.coins) (λ point. is_some (coins_in w.tables.coins point))) none work.coins_filled;
  queue_filled = λ height. subst (λ os. FilledBut (may_be_empty_at w.height os w.empty.items height) (queue_places w.tables.queue height) (queued_in w.tables.queue height)) none (work.queue_filled height);
  names_filled = work.names_filled;
}

-- one outpoint was taken off the list, and its places were given up
pub record IsGivenUp (now : Work) (coins : CoinSlots) (queue : QueueSlots) (empty : Roomy OutPoint) : Type 0 where
  pub at : OutPoint
  pub were : now.empty.items ≡ empty.items ++ at ∷ []
  pub coins_same : coins_in coins ≡ coins_in now.tables.coins
  pub places : coin_places coins ≡ changed same_point (coin_places now.tables.coins) at (is_some (coins_in now.tables.coins at))
  pub queued_same : queued_in queue ≡ queued_in now.tables.queue
  pub rows : queue_places queue ≡ changed nat_eq (queue_places now.tables.queue) now.height (changed same_point (queue_places now.tables.queue now.height) at (queued_in now.tables.queue now.height at))

pub gave_up : (start now : Work) (coins : CoinSlots) (queue : QueueSlots) (empty : Roomy OutPoint) → IsGivenUp now coins queue empty → IsGivingUp start now
    → IsGivingUp start (record { tables = record { coins = coins; names = now.tables.names; queue = queue }; ops = now.ops; empty = empty; height = now.height })
gave_up start now coins queue empty g so_far = record {
  same = record { coins = g.coins_same ∙ so_far.same.coins; names = so_far.same.names; queue = g.queued_same ∙ so_far.same.queue };
  height = so_far.height;
  coins_filled =
      subst (λ held. FilledBut (Listed empty.items) (coin_places coins) held) (λ i. λ point. is_some (coins_same_back i point))
      (subst (λ places. FilledBut (Listed empty.items) places (λ point. is_some (coins_in now.tables.coins point))) (sym g.places)
      (unplaced_coin (coin_places now.tables.coins) (λ point. is_some (coins_in now.tables.coins point)) empty.items g.at
      (subst (λ es. FilledBut (Listed es) (coin_places now.tables.coins) (λ point. is_some (coins_in now.tables.coins point))) g.were so_far.coins_filled)));
  queue_filled = λ height.
      subst (λ held. FilledBut (InRow now.height empty.items height) (queue_places queue height) (held height)) (sym g.queued_same)
      (subst (λ places. FilledBut (InRow now.height empty.items height) (places height) (queued_in now.tables.queue height)) (sym g.rows)
      (unplaced_row now.height (queue_places now.tables.queue) (queued_in now.tables.queue) empty.items g.at
      (λ h. subst (λ es. FilledBut (InRow now.height es h) (queue_places now.tables.queue h) (queued_in now.tables.queue h)) g.were (so_far.queue_filled h)) height));
  names_filled = so_far.names_filled;
}
  where
    coins_same_back : coins_in now.tables.coins ≡ coins_in coins
    coins_same_back = sym g.coins_same

and_never : (b : Bool) → (b && false) ≡ false
and_never true = refl
and_never false = refl

pub given_up : (start now : Work) → now.empty.items ≡ [] → IsGivingUp start now → AreFilled now.tables
given_up start now none so_far = record {
  coins = coins_all_filled now.tables.coins (Listed now.empty.items) (λ point. ap (λ es. Listed es point) none) so_far.coins_filled;
  names = so_far.names_filled;
  queue = rows_all_filled now.tables.queue (InRow now.height now.empty.items) (λ height point. ap (λ es. InRow now.height es height point) none ∙ and_never (now.height == height)) so_far.queue_filled;
}
