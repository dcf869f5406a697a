-- The replies that more than one command may get.
use Rattle.std.specs.Prelude.{[], ◌++◌}
use Rattle.std.specs.Int.{w32, to_le_bytes}
use Rattle.feed_frames.specs.Replies.{Reply}
use Rattle.chain_commands.specs.Chain.{Chain, tip_hash, height_of}

-- the height and the hash of the tip of the chain that a command left
abbrev pub accepted_reply : Chain → Reply
accepted_reply chain = record { code = 0; payload = to_le_bytes w32 (height_of chain) ++ tip_hash chain }

-- want of memory
abbrev pub no_memory_reply : Reply
no_memory_reply = record { code = 0xFE; payload = [] }
