-- How long the areas of a run are at most.
use Rattle.std.specs.Prelude.{ℕ, ◌+◌, ◌*◌}
use Rattle.nmc_base.specs.declared.limits.TheConstants.{LONGEST_BLOCK}
use Rattle.chain_commands.specs.Saving.{longest_image}

-- a run has no more blocks, and no more commands and saves
abbrev pub most_blocks : ℕ
most_blocks = 10000

abbrev pub most_requests : ℕ
most_requests = 60000

-- a connect's record of the longest block
abbrev pub longest_record : ℕ
longest_record = 6 + LONGEST_BLOCK

-- the longest image behind its length, so many of the longest records, and a closed gate
abbrev pub longest_behind : (requests : ℕ) → ℕ
longest_behind requests = 9 + longest_image + requests * longest_record
