-- Places that hold something, and those that may not.
use Rattle.std.proofs.Common.{◌≡◌, Bool, true, false, cond, refl, sym, ap, ◌∙◌}
use Rattle.std.specs.Bool.{Decides}
use Rattle.chain_names.specs.Points.{changed}
use Rattle.chain_names.specs.Tables.{FilledBut}
use Rattle.chain_names.proofs.Shown.{true_is_not_false}

module _ {K : Type 0} {same : K → K → Bool} (decides : (a b : K) → Decides (same a b) (a ≡ b)) where
  -- an empty place is given up
  pub filled-unplaced : (touched places held : K → Bool) (k : K) → FilledBut (changed same touched k true) places held
      → FilledBut touched (changed same places k (held k)) held
  filled-unplaced touched places held k filled q = by (same k q) refl (filled q)
    where
      by : (b : Bool) → same k q ≡ b → (places q ≡ true → cond b true (touched q) ≡ false → held q ≡ true)
          → cond b (held k) (places q) ≡ true → touched q ≡ false → held q ≡ true
      by true is filled here free = ap held (sym ((decides k q).0 is)) ∙ here
      by false is filled here free = filled here free

  -- a place is emptied
  pub filled-taken : (touched places held : K → Bool) (k : K) → FilledBut touched places held → FilledBut (changed same touched k true) places (changed same held k false)
  filled-taken touched places held k filled q = by (same k q)
    where
      by : (b : Bool) → places q ≡ true → cond b true (touched q) ≡ false → cond b false (held q) ≡ true
      by true here free = absurd (true_is_not_false free)
      by false here free = filled q here free

-- more may be touched
pub filled-weaker : {K : Type 0} (touched more places held : K → Bool) → ((k : K) → more k ≡ false → touched k ≡ false) → FilledBut touched places held → FilledBut more places held
filled-weaker touched more places held less filled q here free = filled q here (less q free)
