-- The bytes of a peer's address.
use Rattle.std.specs.Prelude.{ℕ, List, ◌++◌}
use Rattle.std.specs.Int.{w16, to_be_bytes}
use Rattle.std.specs.Net.Addr.{ipv4_octets}
use Rattle.std.specs.Net.Socket.{v4_ip, v4_port}
use Rattle.std.specs.declared.net.socket_addr.SocketAddrV4.{SocketAddrV4}

-- the four bytes of the address, and the two of the port
abbrev pub address_bytes : SocketAddrV4 → List ℕ
address_bytes a = ipv4_octets (v4_ip a) ++ to_be_bytes w16 (v4_port a)
