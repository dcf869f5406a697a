use Rattle.domain_text.proofs.GroupLists.{all_pairs}
use Rattle.std.proofs.Common.{arith}
use Rattle.domain_text.proofs.ipv6.bytes_of.Goals as goal

pub returns : goal.returns
returns c = all_pairs c.loop-i.i c.args.groups c.loop-i.bytes (omega arith) (omega arith) c.loop-i.invariant.long c.loop-i.invariant.text
