-- A fact of both outcomes.
use Rattle.std.specs.Prelude.{Result, Ok, Err, OnOk, OnErr}

pub by_result : {T E A B C : Type 0} (r : Result T E) → OnOk r A → OnErr r B → (A → C) → (B → C) → C
by_result (Ok x) a b f g = f a
by_result (Err e) a b f g = g b
