-- What a run holds between two rounds.
use Rattle.std.specs.Prelude.{◌≡◌, ℕ, ◌<◌, ◌≤◌, List, slice_index_or}
use Rattle.nmc_base.specs.Heights.{highest}
use Rattle.generated_chain.specs.Draws.{state_behind}
use Rattle.generated_chain.specs.Stands.{unknown}
use Rattle.generated_chain.specs.Blocks.{stand_at, tip_at}
use Rattle.generated_chain.specs.Place.{Place}
use Rattle.generated_chain.specs.declared.run.Run.TheInside.{Inside}
use Rattle.generated_chain.specs.declared.stand.Stand.{Stand}

abbrev pub place_of : Inside → Place
place_of run = record { seed = run.seed; rounds = run.tip.height }

-- each of the 64 names stands so behind these blocks
abbrev pub AreStands : List Stand → (seed blocks : ℕ) → Type 0
AreStands stands seed blocks = (number : ℕ) → number < 64 → slice_index_or stands number unknown ≡ stand_at seed number blocks

-- the draws, the tip and the names are those behind these blocks
pub record Holds (run : Inside) : Type 0 where
  pub state : run.state ≡ state_behind run.seed run.tip.height
  pub tip : run.tip ≡ tip_at run.seed run.tip.height
  pub stands : AreStands run.stands run.seed run.tip.height
  pub low : run.tip.height ≤ highest
