-- What was fed and not given has room behind it.
use Rattle.std.proofs.Common.{ℕ, ◌+◌, ◌<◌, List, length, ap, arith}
use Rattle.feed_frames.specs.Frames.{IsPartialFrame, nothing, header_cut, payload_cut}
use Rattle.feed_frames.specs.declared.kinds.TheConstants.{LONGEST_PAYLOAD}
use Rattle.feed_frames.proofs.KindLemmas.{short}

-- a part of a frame is shorter than the longest frame
pub part_is_short : (kinds : ℕ) (bytes : List ℕ) → IsPartialFrame kinds bytes → length bytes < 5 + LONGEST_PAYLOAD
part_is_short kinds bytes (nothing e) = omega (arith, ap length e)
part_is_short kinds bytes (header_cut kind rest e is_kind cut) = omega (arith, ap length e, cut)
part_is_short kinds bytes (payload_cut kind n payload e is_kind allowed cut) = omega (arith, ap length e, cut, short kinds kind n allowed)
