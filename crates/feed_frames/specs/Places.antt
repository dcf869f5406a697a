use Rattle.std.specs.Prelude.{ℕ, ◌-◌, List, take, drop}

-- the elements from one place up to another
abbrev pub between : ℕ → ℕ → List ℕ → List ℕ
between start end bytes = take (end - start) (drop start bytes)
