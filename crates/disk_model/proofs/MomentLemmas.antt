-- A fact at each moment of a stretch of calls.
use Rattle.std.proofs.Common.{◌⊎◌, inl, inr, ℕ, ◌≤◌, List, arith}
use Rattle.disk_model.specs.Moments.{Files, Moments, EachMoment, start, more, wider, clock, IsImage, LeftSince}

-- it held at the start
pub first_moment : {P : Files → Type 0} {old new : Moments} → EachMoment P old new → P old.now
first_moment (start here) = here
first_moment (more mid files so_far here) = first_moment so_far
first_moment (wider mid files widens so_far here) = first_moment so_far

-- and it holds now
pub last_moment : {P : Files → Type 0} {old new : Moments} → EachMoment P old new → P new.now
last_moment (start here) = here
last_moment (more mid files so_far here) = here
last_moment (wider mid files widens so_far here) = here

-- so does what follows from it
pub weaken : {P : Files → Type 0} {old new : Moments} (Q : Files → Type 0) → ((files : Files) → P files → Q files) → EachMoment P old new → EachMoment Q old new
weaken Q so (start here) = start (so _ here)
weaken Q so (more mid files so_far here) = more mid files (weaken Q so so_far) (so files here)
weaken Q so (wider mid files widens so_far here) = wider mid files widens (weaken Q so so_far) (so files here)

-- two stretches, one after the other
pub join : {P : Files → Type 0} {old mid new : Moments} → EachMoment P old mid → EachMoment P mid new → EachMoment P old new
join first (start here) = first
join first (more mid files so_far here) = more mid files (join first so_far) here
join first (wider mid files widens so_far here) = wider mid files widens (join first so_far) here

-- time went on
pub clock_later : {P : Files → Type 0} {old new : Moments} → EachMoment P old new → clock old ≤ clock new
clock_later (start here) = omega arith
clock_later (more mid files so_far here) = omega (arith, clock_later so_far)
clock_later (wider mid files widens so_far here) = clock_later so_far

pub left_before : {P : Files → Type 0} {old new : Moments} (time : ℕ) (image : ℕ → List ℕ) → EachMoment P old new → LeftSince old time image → LeftSince new time image
left_before time image (start here) left = left
left_before time image (more mid files so_far here) left = inr (left_before time image so_far left)
left_before time image (wider mid files widens so_far here) left = elim (left_before time image so_far left) [
  | inl now ↦ inl (now.0, widens image now.1)
  | inr past ↦ inr past
]

-- each image since a time was there before, or is one of files that have the fact
pub left_since : {P : Files → Type 0} {old new : Moments} (time : ℕ) (image : ℕ → List ℕ) → EachMoment P old new → LeftSince new time image
    → LeftSince old time image ⊎ ((files : Files) × P files × IsImage files image)
left_since time image (start here) left = inl left
left_since time image (more mid files so_far here) (inl now) = inr (files, here, now.1)
left_since time image (more mid files so_far here) (inr past) = left_since time image so_far past
left_since time image (wider mid files widens so_far here) (inl now) = inr (files, here, now.1)
left_since time image (wider mid files widens so_far here) (inr past) = left_since time image so_far (inr past)
