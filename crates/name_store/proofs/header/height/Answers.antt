use Rattle.std.proofs.Common.{take, drop, refl, arith, length-take, length-drop}
use Rattle.std.specs.Int.{w32, from_le_bytes}
use Rattle.std.proofs.lemmas.Nat.{le_bytes_4}
use Rattle.name_store.proofs.HeaderLemmas.{piece_bytes}
use Rattle.name_store.proofs.header.height.Goals as goal

pub returns-clause-bytes : goal.returns-clause-bytes
returns-clause-bytes c =
    let bytes = c.args.bytes.now in
    le_bytes_4 (take 4 (drop 10 bytes)) (from_le_bytes w32 (take 4 (drop 10 bytes))) (omega (arith, length-take 4 (drop 10 bytes), length-drop 10 bytes, c.requires)) (piece_bytes bytes (λ i. (c.type_inv.bytes i).fits)) refl
