-- The reply to a command that is refused.
use Rattle.feed_frames.specs.Replies.{Reply}
use Rattle.chain_commands.specs.Connecting.{refusal_reply}
use Rattle.chain_commands.specs.Disconnecting.{back_reply}
use Rattle.index_commands.specs.Views.{refusal_of, back_refusal_of}
use Rattle.index_commands.specs.declared.staged.CommandRefusal.{CommandRefusal}
use Rattle.index_commands.specs.declared.staged.CommandRefusal.TheVariants.{Connect, Disconnect}

abbrev pub command_reply : CommandRefusal → Reply
command_reply (Connect refusal) = refusal_reply (refusal_of refusal)
command_reply (Disconnect refusal) = back_reply (back_refusal_of refusal)
