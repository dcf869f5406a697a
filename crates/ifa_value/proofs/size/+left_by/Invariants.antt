use Rattle.std.proofs.Common.{◌≡◌, ◌-◌, drop}
use Rattle.serde_json.specs.View.{items_view, members_view}
use Rattle.ifa_value.specs.Sizes.{items_size, members_size}
use Rattle.ifa_value.proofs.size.+left_by.Given as goal

abbrev pub invariant-left_by_items-loop-item : goal.invariant-left_by_items-loop-item
invariant-left_by_items-loop-item l = l.rest - items_size (items_view (drop l.item-index l.item-items)) ≡ l.initial.rest - items_size (items_view l.item-items)

abbrev pub invariant-left_by_members-loop-key : goal.invariant-left_by_members-loop-key
invariant-left_by_members-loop-key l = l.rest - members_size (members_view l.key-iterator) ≡ l.initial.rest - members_size (members_view l.members.entries)
