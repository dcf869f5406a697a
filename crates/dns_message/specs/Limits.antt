-- How many bytes a reply may have.
use Rattle.std.specs.Prelude.{ℕ, min, max, Option, Some, None}
use Rattle.dns_message.specs.Query.{Query}
use Rattle.dns_message.specs.declared.edns.Edns.{Edns}
use Rattle.dns_message.specs.declared.numbers.TheConstants.{LEAST_LIMIT, GREATEST_LIMIT, EDNS_SIZE}
use Rattle.dns_message.specs.declared.transport.Transport.{Transport}
use Rattle.dns_message.specs.declared.transport.Transport.TheVariants.{Udp, Tcp}

-- Over UDP: 512 without an OPT record (RFC 1035, 4.2.1). With one the size that it names, which is taken for 512 where it is
-- less (RFC 6891, 6.2.3), and no more than this server sends (6.2.5).
abbrev pub udp_limit : Option Edns → ℕ
udp_limit None = LEAST_LIMIT
udp_limit (Some e) = min EDNS_SIZE (max LEAST_LIMIT e.size)

-- Over TCP a length has 16 bits (RFC 1035, 4.2.2; RFC 7766, 8).
abbrev pub limit_of : Transport → Query → ℕ
limit_of Udp q = udp_limit q.edns
limit_of Tcp q = GREATEST_LIMIT

-- the most that it comes to
abbrev pub most_of : Transport → ℕ
most_of Udp = EDNS_SIZE
most_of Tcp = GREATEST_LIMIT
