-- What a command leaves of the selected area, as the store says it.
use Rattle.std.specs.Prelude.{◌≡◌, ◌≢◌, ◌-◌, ◌++◌, take}
use Rattle.disk_model.specs.DiskSeen.{DiskSeen, bytes_in}
use Rattle.gate_journal.specs.Gate.{record_text}
use Rattle.chain_commands.specs.Event.{Command}
use Rattle.feed_frames.specs.Replies.{Reply}
use Rattle.index_commands.specs.Records.{record_of}
use Rattle.name_store.specs.Growing.{IsAsLong, IsLonger}
use Rattle.name_store.specs.Stored.{Stored, area_file}
use Rattle.bridge_core.specs.declared.bridge.Turned.{Turned}
use Rattle.bridge_core.specs.declared.bridge.Turned.TheVariants.{On, Ended}

-- it is longer where the command was accepted, and else as long
abbrev pub GrowsOn : Command → Stored → Reply → Turned → Type 0
GrowsOn command old reply (On bridge) = (reply.code ≡ 0 → IsLonger command old bridge.store) × (reply.code ≢ 0 → IsAsLong old bridge.store)
GrowsOn command old reply Ended = Unit {0}

-- where it was accepted, its record stands behind what the area had before
abbrev pub AddsOn : Command → Stored → (before after : DiskSeen) → Reply → Turned → Type 0
AddsOn command old before after reply (On bridge) =
    reply.code ≡ 0 → take (bridge.store.area - 1) (bytes_in after (area_file old)) ≡ take (old.area - 1) (bytes_in before (area_file old)) ++ record_text (record_of command)
AddsOn command old before after reply Ended = Unit {0}
