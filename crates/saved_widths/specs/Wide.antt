-- Start lists whose outpoints are as wide as their fields.
use Rattle.std.specs.Prelude.{[], ◌∷◌}
use Rattle.chain_names.specs.Log.{Log, Spend, Make}
use Rattle.chain_names.specs.Writable.{IsWritablePoint}

-- each make is of an outpoint with a txid of 32 bytes and an index below 2^32
abbrev pub HaveWidePoints : Log → Type 0
HaveWidePoints [] = Unit {0}
HaveWidePoints (Spend point ∷ below) = HaveWidePoints below
HaveWidePoints (Make point operation height ∷ below) = IsWritablePoint point × HaveWidePoints below
