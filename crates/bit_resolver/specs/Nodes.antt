-- What the node of a name gives (IFA-0001).
use Rattle.std.specs.Prelude.{ℕ, List, [], ◌∷◌, Option, Some, None, Bool, true, false}
use Rattle.std.specs.Option.{option_and_then}
use Rattle.std.specs.List.{flat_map}
use Rattle.serde_json.specs.Data.{Members}
use Rattle.domain_text.specs.Host.{host_name}
use Rattle.ifa_value.specs.declared.item.Key.{Key}
use Rattle.ifa_value.specs.declared.item.Key.TheVariants as key
use Rattle.ifa_value.specs.declared.item.Element.{Element}
use Rattle.ifa_value.specs.declared.item.Element.TheVariants as element
use Rattle.ifa_value.specs.Elements.{alone}
use Rattle.import_expand.specs.Sources.{Live, node, elements_at}
use Rattle.bit_resolver.specs.Places.{Below, own_of, top_of}
use Rattle.bit_resolver.specs.Rdata.{rdata_of}
use Rattle.bit_resolver.specs.declared.rr_type.TheConstants as rr

-- a node: its domain name, that of the name right below `bit.`, and its sources; without sources there is no such node
pub record Node : Type 0 where
  pub own : List ℕ
  pub top : List ℕ
  pub of : List Members

-- the node of a path below the name whose value is this object
abbrev pub node_at : Live → Members → Below → List (List ℕ) → Node
node_at live o b at = record { own = own_of b at; top = top_of b; of = node live o at }

-- the node of a name right below the zone whose object gives itself alone as a source
abbrev pub lone : Below → Members → Node
lone b o = record { own = top_of b; top = top_of b; of = o ∷ [] }

-- the RDATA of each element of an item that isn't skipped at the node
abbrev pub rdata_at : Key → Node → List (List ℕ)
rdata_at k n = flat_map (λ e. alone (rdata_of (host_name n.own n.top) e)) (elements_at k n.of)

abbrev pub host_in : Node → Element → Option (List ℕ)
host_in n (element.Host text) = host_name n.own n.top text
host_in n _ = None

abbrev pub first : {A : Type 0} → List A → Option A
first [] = None
first (x ∷ xs) = Some x

-- the name that `alias` or `translate` gives, which are one host text
abbrev pub target_at : Key → Node → Option (List ℕ)
target_at k n = option_and_then (host_in n) (first (elements_at k n.of))

-- the TYPE of the records that an item gives; 0, which is no TYPE, for those that give none
abbrev pub type_of : Key → ℕ
type_of key.Ip = rr.A
type_of key.Ip6 = rr.AAAA
type_of key.Ns = rr.NS
type_of key.Alias = rr.CNAME
type_of key.Translate = rr.DNAME
type_of key.Ds = rr.DS
type_of key.Tls = rr.TLSA
type_of key.Sshfp = rr.SSHFP
type_of key.Txt = rr.TXT
type_of key.Srv = rr.SRV
type_of key.Mx = rr.MX
type_of key.Map = 0
type_of key.Import = 0

abbrev pub is_nil : {A : Type 0} → List A → Bool
is_nil [] = true
is_nil (x ∷ xs) = false
