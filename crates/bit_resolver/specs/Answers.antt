-- What a question is answered with: the algorithm of RFC 1034, 4.3.2, with DNAME (RFC 6672, 3.2) and negative answers (RFC 2308).
-- The zone `bit.` is the only one, so a name outside it is refused, and what a name that isn't there would be looked up under
-- (`*`, step 3c) is in its nodes.
use Rattle.std.specs.Prelude.{ℕ, zero, suc, ◌-◌, ◌==◌, if◌then◌else◌, Bool, true, false, ◌||◌, not, List, [], ◌∷◌, ◌++◌, length, map, take, codes, Option, Some, None}
use Rattle.std.specs.Option.{option_map}
use Rattle.std.specs.List.{flat_map}
use Rattle.serde_json.specs.Data.{Members}
use Rattle.domain_text.specs.Names.{joined_to, if_fits}
use Rattle.dns_message.specs.Query.{Query}
use Rattle.dns_message.specs.declared.rcode.TheConstants.{NOERROR, NXDOMAIN, REFUSED, YXDOMAIN}
use Rattle.ifa_value.specs.declared.item.Key.{Key}
use Rattle.ifa_value.specs.declared.item.Key.TheVariants as key
use Rattle.ifa_value.specs.Values.{object_of}
use Rattle.import_expand.specs.Sources.{Live}
use Rattle.bit_resolver.specs.Places.{Below, Place, outside, apex, below, place_of, own_of, apex_name, is_outside, is_domain_label}
use Rattle.bit_resolver.specs.Rdata.{soa_rdata}
use Rattle.bit_resolver.specs.Nodes.{Node, node_at, rdata_at, target_at, type_of, is_nil}
use Rattle.bit_resolver.specs.Way.{Stop, missing, cut, moved, stop_on_way}
use Rattle.bit_resolver.specs.declared.zone.Zone.{Zone}
use Rattle.bit_resolver.specs.declared.resource.Resource.{Resource}
use Rattle.bit_resolver.specs.declared.limits.TheConstants.{CLASS_IN, MOST_CNAMES}
use Rattle.bit_resolver.specs.declared.rr_type.TheConstants as rr

-- the sections of a reply, its RCODE and AA (RFC 1035, 4.1.1)
pub record Answer : Type 0 where
  pub answer : List Resource
  pub authority : List Resource
  pub rcode : ℕ
  pub aa : Bool

-- What one name is answered with: all, or CNAME records and the name that is asked next (step 3a).
pub data Found : Type 0 where
  done : Answer → Found
  renamed : List Resource → List ℕ → Found

-- the SOA record of the zone (RFC 1035, 3.3.13)
abbrev pub soa_of : Zone → Resource
soa_of z = record { owner = apex_name; kind = rr.SOA; rdata = soa_rdata z.host z.serial }

-- the NS record of the zone
abbrev pub ns_of : Zone → Resource
ns_of z = record { owner = apex_name; kind = rr.NS; rdata = z.host }

-- records with authority
abbrev pub answered : List Resource → Answer
answered records = record { answer = records; authority = []; rcode = NOERROR; aa = true }

-- no records, and the SOA in the authority section (RFC 2308, 2)
abbrev pub negative : Zone → ℕ → Answer
negative z rcode = record { answer = []; authority = soa_of z ∷ []; rcode = rcode; aa = true }

-- NODATA: the name exists, and has no records of the type (RFC 2308, 2.2)
abbrev pub no_data : Zone → Answer
no_data z = negative z NOERROR

-- NXDOMAIN: there is no such name (step 3c; RFC 2308, 2.1)
abbrev pub name_error : Zone → Answer
name_error z = negative z NXDOMAIN

-- a referral to other name servers (step 3b)
abbrev pub referral : List Resource → Answer
referral servers = record { answer = []; authority = servers; rcode = NOERROR; aa = false }

-- the records, or that there are none
abbrev pub or_no_data : Zone → List Resource → Answer
or_no_data z [] = no_data z
or_no_data z (r ∷ rs) = answered (r ∷ rs)

-- records of an owner
abbrev pub records_of : List ℕ → ℕ → List (List ℕ) → List Resource
records_of owner kind rdata = map (λ d. record { owner = owner; kind = kind; rdata = d }) rdata

-- the records of an item at a node
abbrev pub records_at : Key → Node → List Resource
records_at k n = records_of n.own (type_of k) (rdata_at k n)

abbrev pub cname_of : List ℕ → List ℕ → Resource
cname_of owner target = record { owner = owner; kind = rr.CNAME; rdata = target }

abbrev pub dname_of : List ℕ → List ℕ → Resource
dname_of owner target = record { owner = owner; kind = rr.DNAME; rdata = target }

-- The name is that of the zone: its SOA and NS.
abbrev pub apex_records : Zone → ℕ → List Resource
apex_records z kind =
    if kind == rr.SOA then soa_of z ∷ []
    else if kind == rr.NS then ns_of z ∷ []
    else if kind == rr.ANY then soa_of z ∷ ns_of z ∷ []
    else []

-- Step 3a, no CNAME: the records that match QTYPE, where ANY has this order.
abbrev pub record_items : List Key
record_items = key.Ip ∷ key.Mx ∷ key.Txt ∷ key.Ip6 ∷ key.Srv ∷ key.Translate ∷ key.Sshfp ∷ key.Tls ∷ []

abbrev pub is_asked : ℕ → Key → Bool
is_asked kind k = kind == rr.ANY || kind == type_of k

abbrev pub matching : Node → ℕ → List Key → List Resource
matching n kind keys = flat_map (λ k. if is_asked kind k then records_at k n else []) keys

-- Step 3a, a CNAME: where it is asked for itself, nothing more; else its target is asked.
abbrev pub by_cname : ℕ → List ℕ → List ℕ → Found
by_cname kind own target =
    if kind == rr.CNAME || kind == rr.ANY then done (answered (cname_of own target ∷ [])) else renamed (cname_of own target ∷ []) target

abbrev pub by_alias : Zone → Node → ℕ → Option (List ℕ) → Found
by_alias z n kind None = done (or_no_data z (matching n kind record_items))
by_alias z n kind (Some target) = by_cname kind n.own target

-- Step 3a: the node of the name.
abbrev pub in_zone : Zone → Node → ℕ → Found
in_zone z n kind = by_alias z n kind (target_at key.Alias n)

-- A cut at the name itself: DS stands above the cut (RFC 4035, 3.1.4.1), all else below it (step 3b).
abbrev pub at_cut : Zone → Node → ℕ → Answer
at_cut z n kind = if kind == rr.DS then or_no_data z (records_at key.Ds n) else referral (records_at key.Ns n)

abbrev pub at_name : Zone → Node → ℕ → Found
at_name z n kind = if is_nil (rdata_at key.Ns n) then in_zone z n kind else done (at_cut z n kind)

-- A DNAME above the name, and the CNAME that it makes; YXDOMAIN where the new name is too long (RFC 6672, 3.2 and 2.2).
abbrev pub by_dname : Resource → List ℕ → Option (List ℕ) → Found
by_dname dname own None = done (record { answer = dname ∷ []; authority = []; rcode = YXDOMAIN; aa = true })
by_dname dname own (Some target) = renamed (dname ∷ cname_of own target ∷ []) target

-- the name with the part that belongs to a node on its way replaced, where a name may have so many bytes (RFC 6672, 2.2)
abbrev pub replaced : Below → List (List ℕ) → List ℕ → Option (List ℕ)
replaced b at target = if_fits (joined_to (take (length b.path - length at) b.path) target)

-- Step 3, by where the way down to the name ends.
abbrev pub by_way : Live → Zone → Below → Members → ℕ → Option Stop → Found
by_way live z b o kind (Some missing) = done (name_error z)
by_way live z b o kind (Some (cut at)) = done (referral (records_at key.Ns (node_at live o b at)))
by_way live z b o kind (Some (moved at target)) = by_dname (dname_of (own_of b at) target) (own_of b b.path) (replaced b at target)
by_way live z b o kind None = at_name z (node_at live o b b.path) kind

-- the object of a name: there is none where the label is no domain label or isn't served
abbrev pub value_of : Live → List ℕ → Option Members
value_of live x = if is_domain_label x then option_map object_of (live (codes "d/" ++ x)) else None

abbrev pub by_value : Live → Zone → Below → ℕ → Option Members → Found
by_value live z b kind None = done (name_error z)
by_value live z b kind (Some o) = by_way live z b o kind (stop_on_way live o b b.path)

-- What one name is answered with. Nothing more is known of a name outside the zone.
abbrev pub asked_at : Live → Zone → ℕ → Place → Found
asked_at live z kind outside = done (answered [])
asked_at live z kind apex = done (or_no_data z (apex_records z kind))
asked_at live z kind (below b) = by_value live z b kind (value_of live b.x)

-- The records that were answered before stand first, and with one of them the answer has authority.
abbrev pub after_records : List Resource → Answer → Answer
after_records before a = record { answer = before ++ a.answer; authority = a.authority; rcode = a.rcode; aa = a.aa || not (is_nil before) }

abbrev pub go_on : (Place → Answer) → Found → Answer
go_on rest (done a) = a
go_on rest (renamed records target) = after_records records (rest (place_of target))

-- A name is asked, and so is what it is renamed to, while fewer than so many CNAME records were answered.
unfoldable pub chase : Live → Zone → ℕ → ℕ → Place → Answer
chase live z kind zero p = answered []
chase live z kind (suc more) p = go_on (chase live z kind more) (asked_at live z kind p)

-- REFUSED (RFC 1035, 4.1.1)
abbrev pub refused : Answer
refused = record { answer = []; authority = []; rcode = REFUSED; aa = false }

-- another class, a zone transfer, or a name outside the zone
abbrev pub is_refused : ℕ → ℕ → Place → Bool
is_refused kind «class» p = not («class» == CLASS_IN) || kind == rr.IXFR || kind == rr.AXFR || is_outside p

abbrev pub answer_at : Live → Zone → ℕ → ℕ → Place → Answer
answer_at live z kind «class» p = if is_refused kind «class» p then refused else chase live z kind MOST_CNAMES p

-- what a question is answered with
abbrev pub answer_to : Live → Zone → Query → Answer
answer_to live z q = answer_at live z q.kind q.«class» (place_of q.name)
