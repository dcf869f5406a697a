-- The digits are a text, so reading them as one succeeds.
use Rattle.nmc_base.proofs.HexDigits.{IsUtf8-encode_lower}
use Rattle.nmc_base.proofs.hashes.Hash32Display.fmt.Goals as goal

pub unreachable-requires-in-Err-from_utf8 : goal.unreachable-requires-in-Err-from_utf8
unreachable-requires-in-Err-from_utf8 g c =
    c.in-Err-from_utf8.ensures.cases.0 (IsUtf8-encode_lower _ _ c.in-Ok.ensures.written)
