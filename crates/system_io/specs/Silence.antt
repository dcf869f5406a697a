-- An object that tells nothing of its content.
use Rattle.std.specs.Prelude.{IsTrue, false}

pub no_telling : {P : Type 0} → IsTrue false → P
no_telling told = cc
