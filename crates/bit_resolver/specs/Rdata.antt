-- RDATA, each in its standard's order of fields.
use Rattle.std.specs.Prelude.{ℕ, codes, List, [], ◌∷◌, ◌++◌, Option, Some, None}
use Rattle.std.specs.Option.{option_map}
use Rattle.std.specs.List.{flat_map}
use Rattle.std.specs.Int.{w16, w32, to_be_bytes}
use Rattle.ifa_value.specs.declared.item.Element.{Element}
use Rattle.ifa_value.specs.declared.item.Element.TheVariants as element
use Rattle.bit_resolver.specs.declared.limits.TheConstants.{REFRESH, RETRY, EXPIRE, MINIMUM}

-- numbers of 16 bits, the high byte first (RFC 1035, 2.3.2)
abbrev pub numbers16 : List ℕ → List ℕ
numbers16 = flat_map (to_be_bytes w16)

-- numbers of 32 bits
abbrev pub numbers32 : List ℕ → List ℕ
numbers32 = flat_map (to_be_bytes w32)

-- The RDATA that an element gives, where `name` gives the name of a host text, or none where the element is skipped.
abbrev pub rdata_of : (List ℕ → Option (List ℕ)) → Element → Option (List ℕ)
-- A (RFC 1035, 3.4.1): ADDRESS
rdata_of name (element.Ip4 address) = Some address
-- AAAA (RFC 3596, 2.2)
rdata_of name (element.Ip6 address) = Some address
-- NS, CNAME (RFC 1035, 3.3.11 and 3.3.1) and DNAME (RFC 6672, 2.1): one name
rdata_of name (element.Host text) = name text
-- DS (RFC 4034, 5.1): key tag, algorithm, digest type, digest
rdata_of name (element.Ds tag algorithm kind digest) = Some (numbers16 (tag ∷ []) ++ (algorithm ∷ kind ∷ digest))
-- TLSA (RFC 6698, 2.1): usage, selector, matching type, data
rdata_of name (element.Tls usage selector matching digest) = Some (usage ∷ selector ∷ matching ∷ digest)
-- SSHFP (RFC 4255, 3.1): algorithm, type, fingerprint
rdata_of name (element.Sshfp algorithm kind digest) = Some (algorithm ∷ kind ∷ digest)
-- TXT (RFC 1035, 3.3.14): strings, each behind its length
rdata_of name (element.Txt strings) = Some strings
-- SRV (RFC 2782): priority, weight, port, target
rdata_of name (element.Srv priority weight port text) = option_map (λ n. numbers16 (priority ∷ weight ∷ port ∷ []) ++ n) (name text)
-- MX (RFC 1035, 3.3.9): preference, exchange
rdata_of name (element.Mx preference text) = option_map (λ n. numbers16 (preference ∷ []) ++ n) (name text)
rdata_of name (element.Import of selector) = None

-- the label `hostmaster`, behind its length
abbrev pub hostmaster : List ℕ
hostmaster = 10 ∷ codes "hostmaster"

-- SOA (RFC 1035, 3.3.13): MNAME; RNAME, which is `hostmaster` below MNAME; SERIAL, REFRESH, RETRY, EXPIRE, MINIMUM
abbrev pub soa_rdata : List ℕ → ℕ → List ℕ
soa_rdata host serial = ((host ++ hostmaster) ++ host) ++ numbers32 (serial ∷ REFRESH ∷ RETRY ∷ EXPIRE ∷ MINIMUM ∷ [])
