-- What an `IfaObject` shows.
use Rattle.serde_json.specs.Data.{Members}
use Rattle.serde_json.specs.View.{view}
use Rattle.ifa_value.specs.Values.{members_of}
use Rattle.ifa_value.specs.declared.object.IfaObject.{IfaObject}

-- its members
abbrev pub members : IfaObject → Members
members o = members_of (view o.value)
