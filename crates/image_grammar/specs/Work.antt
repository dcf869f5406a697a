-- How much is left to be done where a reading stands.
use Rattle.std.specs.Prelude.{ℕ, ◌+◌, ◌*◌, List, length}
use Rattle.image_grammar.specs.Stages.{Stage, head, in_undos, in_ops, at_expired, in_expired, at_coins, in_coins, at_names, in_names, in_items}

-- how many steps may come one after the other and read nothing
abbrev pub idle_steps : Stage → ℕ
idle_steps head = 0
idle_steps (in_undos undos) = 1
idle_steps (in_ops ops undos) = 1
idle_steps (at_expired undos) = 0
idle_steps (in_expired expired undos) = 2
idle_steps at_coins = 0
idle_steps (in_coins coins) = 1
idle_steps at_names = 0
idle_steps (in_names names) = 0
idle_steps (in_items items names) = 1

-- a step reads a byte at least, or is one of those
abbrev pub work_left : Stage → List ℕ → ℕ
work_left stage bytes = idle_steps stage + 3 * length bytes
