-- The queue follows the coins.
use Rattle.std.proofs.Common.{◌≡◌, ℕ, Bool, true, false, cond, List, refl, sym, ap, ◌∙◌}
use Rattle.std.proofs.Math.Path.{fun_ext}
use Rattle.std.specs.Prelude.{Option, Some, None, ◌==◌, nat_eq}
use Rattle.std.specs.Cmp.{unsigned_Decides}
use Rattle.nmc_base.specs.declared.hashes.OutPoint.{OutPoint}
use Rattle.chain_names.specs.declared.coin.Coin.{Coin}
use Rattle.chain_names.specs.declared.coin.Coin.TheVariants.{Named}
use Rattle.chain_names.specs.Points.{same_point, changed}
use Rattle.chain_names.specs.Tables.{is_named_at, queue_of}
use Rattle.chain_names.proofs.Points.{same_point-Decides}

-- at another outpoint the row is what it was
elsewhere : (coins : OutPoint → Option Coin) (u v : ℕ) (q : OutPoint) (b : Bool) → (u == v) ≡ b → is_named_at v (coins q) ≡ cond b (is_named_at u (coins q)) (is_named_at v (coins q))
elsewhere coins u v q true is = ap (λ n. is_named_at n (coins q)) (sym ((unsigned_Decides u v).0 is))
elsewhere coins u v q false is = refl

-- ---- a name's coin is made where none is

here_more : (coins : OutPoint → Option Coin) (q : OutPoint) (u v : ℕ) (b : Bool) → (u == v) ≡ b → coins q ≡ None → (u == v) ≡ cond b true (is_named_at v (coins q))
here_more coins q u v true is none = is
here_more coins q u v false is none = rw none is

more_at : (coins : OutPoint → Option Coin) (p : OutPoint) (name : List ℕ) (u v : ℕ) (q : OutPoint) (b : Bool) → same_point p q ≡ b → coins p ≡ None
    → is_named_at v (cond b (Some (Named name u)) (coins q)) ≡ cond (u == v) (cond b true (is_named_at u (coins q))) (is_named_at v (coins q))
more_at coins p name u v q true is none = here_more coins q u v (u == v) refl (ap coins (sym ((same_point-Decides p q).0 is)) ∙ none)
more_at coins p name u v q false is none = elsewhere coins u v q (u == v) refl

pub queue_of-more : (coins : OutPoint → Option Coin) (p : OutPoint) (name : List ℕ) (u : ℕ) → coins p ≡ None
    → queue_of (changed same_point coins p (Some (Named name u))) ≡ changed nat_eq (queue_of coins) u (changed same_point (queue_of coins u) p true)
queue_of-more coins p name u none = fun_ext (λ v. fun_ext (λ q. more_at coins p name u v q (same_point p q) refl none ∙ at_row coins p u v q))
  where
    at_row : (coins : OutPoint → Option Coin) (p : OutPoint) (u v : ℕ) (q : OutPoint)
        → cond (u == v) (cond (same_point p q) true (is_named_at u (coins q))) (is_named_at v (coins q))
        ≡ changed nat_eq (queue_of coins) u (changed same_point (queue_of coins u) p true) v q
    at_row coins p u v q = by_row (u == v)
      where
        by_row : (b : Bool) → cond b (cond (same_point p q) true (is_named_at u (coins q))) (is_named_at v (coins q))
            ≡ cond {A = OutPoint → Bool} b (λ r. cond (same_point p r) true (is_named_at u (coins r))) (λ r. is_named_at v (coins r)) q
        by_row true = refl
        by_row false = refl

-- ---- a name's coin is spent

here_less : (u v : ℕ) (b : Bool) → (u == v) ≡ b → false ≡ cond b false (u == v)
here_less u v true is = refl
here_less u v false is = sym is

less_at : (coins : OutPoint → Option Coin) (p : OutPoint) (name : List ℕ) (u v : ℕ) (q : OutPoint) (b : Bool) → same_point p q ≡ b → coins p ≡ Some (Named name u)
    → is_named_at v (cond b None (coins q)) ≡ cond (u == v) (cond b false (is_named_at u (coins q))) (is_named_at v (coins q))
less_at coins p name u v q true is held =
    here_less u v (u == v) refl ∙ ap (λ c. cond (u == v) false (is_named_at v c)) (sym (ap coins (sym ((same_point-Decides p q).0 is)) ∙ held))
less_at coins p name u v q false is held = elsewhere coins u v q (u == v) refl

pub queue_of-less : (coins : OutPoint → Option Coin) (p : OutPoint) (name : List ℕ) (u : ℕ) → coins p ≡ Some (Named name u)
    → queue_of (changed same_point coins p None) ≡ changed nat_eq (queue_of coins) u (changed same_point (queue_of coins u) p false)
queue_of-less coins p name u held = fun_ext (λ v. fun_ext (λ q. less_at coins p name u v q (same_point p q) refl held ∙ at_row coins p u v q))
  where
    at_row : (coins : OutPoint → Option Coin) (p : OutPoint) (u v : ℕ) (q : OutPoint)
        → cond (u == v) (cond (same_point p q) false (is_named_at u (coins q))) (is_named_at v (coins q))
        ≡ changed nat_eq (queue_of coins) u (changed same_point (queue_of coins u) p false) v q
    at_row coins p u v q = by_row (u == v)
      where
        by_row : (b : Bool) → cond b (cond (same_point p q) false (is_named_at u (coins q))) (is_named_at v (coins q))
            ≡ cond {A = OutPoint → Bool} b (λ r. cond (same_point p r) false (is_named_at u (coins r))) (λ r. is_named_at v (coins r)) q
        by_row true = refl
        by_row false = refl

-- ---- coins that aren't queued

abbrev IsUnqueued : Option Coin → Type 0
IsUnqueued coin = (height : ℕ) → is_named_at height coin ≡ false

still_at : (coins : OutPoint → Option Coin) (p : OutPoint) (coin : Option Coin) (v : ℕ) (q : OutPoint) (b : Bool) → same_point p q ≡ b → IsUnqueued (coins p) → IsUnqueued coin
    → is_named_at v (cond b coin (coins q)) ≡ is_named_at v (coins q)
still_at coins p coin v q true is old new = new v ∙ sym (ap (λ r. is_named_at v (coins r)) (sym ((same_point-Decides p q).0 is)) ∙ old v)
still_at coins p coin v q false is old new = refl

-- one in the place of another, or of none
pub queue_of-still : (coins : OutPoint → Option Coin) (p : OutPoint) (coin : Option Coin) → IsUnqueued (coins p) → IsUnqueued coin
    → queue_of (changed same_point coins p coin) ≡ queue_of coins
queue_of-still coins p coin old new = fun_ext (λ v. fun_ext (λ q. still_at coins p coin v q (same_point p q) refl old new))
