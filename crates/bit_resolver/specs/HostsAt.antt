-- The names of host texts.
use Rattle.std.specs.Prelude.{ℕ, List, Option, Some, None}
use Rattle.domain_text.specs.Host.{host_name}
use Rattle.bit_resolver.specs.declared.rdata.HostsAt.{HostsAt}

-- at a node, or none at all
abbrev pub name_at : Option HostsAt → List ℕ → Option (List ℕ)
name_at (Some at) text = host_name at.own.now at.top.now text
name_at None text = None
