-- What a test of two numbers tells, both ways.
use Rattle.std.proofs.Common.{◌≡◌, ◌≢◌, ℕ, ◌<◌, ◌≤◌, ◌==◌, true, false, arith, nat_lt}

pub below : (a b : ℕ) → b ≤ a → nat_lt a b ≡ false
below a b h = grind arith

pub not_below : (a b : ℕ) → nat_lt a b ≡ false → b ≤ a
not_below a b h = grind (arith, h)

pub is_below : (a b : ℕ) → a < b → nat_lt a b ≡ true
is_below a b h = grind arith

pub was_below : (a b : ℕ) → nat_lt a b ≡ true → a < b
was_below a b h = grind (arith, h)

pub same_number : (a b : ℕ) → a ≡ b → (a == b) ≡ true
same_number a b h = grind arith

pub was_same : (a b : ℕ) → (a == b) ≡ true → a ≡ b
was_same a b h = grind (arith, h)

pub other_number : (a b : ℕ) → a ≢ b → (a == b) ≡ false
other_number a b h = grind arith

pub was_other : (a b : ℕ) → (a == b) ≡ false → a ≢ b
was_other a b h e = grind (arith, h, e)
