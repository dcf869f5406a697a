-- The RCODE of each answer has four bits.
use Rattle.std.proofs.Common.{ℕ, zero, suc, ◌<◌, ◌^◌, if◌then◌else◌, Bool, true, false, List, [], ◌∷◌, Option, Some, None, ◌==◌, ◌||◌, arith}
use Rattle.serde_json.specs.Data.{Members}
use Rattle.dns_message.specs.Query.{Query}
use Rattle.import_expand.specs.Sources.{Live}
use Rattle.ifa_value.specs.declared.item.Key.TheVariants as key
use Rattle.bit_resolver.specs.Answers.{Answer, Found, done, renamed, or_no_data, apex_records, matching, record_items, by_alias, in_zone, at_cut, at_name, by_dname, dname_of, replaced, by_way, value_of, by_value, asked_at, answered, go_on, chase, refused, is_refused, answer_to, records_at, referral, cname_of}
use Rattle.bit_resolver.specs.Nodes.{Node, node_at, rdata_at, target_at, is_nil}
use Rattle.bit_resolver.specs.Places.{Below, Place, outside, apex, below, place_of, own_of}
use Rattle.bit_resolver.specs.Way.{Stop, missing, cut, moved, stop_on_way}
use Rattle.bit_resolver.specs.declared.limits.TheConstants.{MOST_CNAMES}
use Rattle.bit_resolver.specs.declared.resource.Resource.{Resource}
use Rattle.bit_resolver.specs.declared.rr_type.TheConstants as rr
use Rattle.bit_resolver.specs.declared.zone.Zone.{Zone}

abbrev IsSmall : Answer → Type 0
IsSmall a = a.rcode < 2 ^ 4

abbrev HasSmall : Found → Type 0
HasSmall (done a) = IsSmall a
HasSmall (renamed records target) = Unit {0}

either : {A : Type 0} (P : A → Type 0) (b : Bool) (x y : A) → P x → P y → P (if b then x else y)
either P true x y p q = p
either P false x y p q = q

of_records : (z : Zone) (records : List Resource) → IsSmall (or_no_data z records)
of_records z [] = omega arith
of_records z (r ∷ records) = omega arith

of_alias : (z : Zone) (n : Node) (kind : ℕ) (target : Option (List ℕ)) → HasSmall (by_alias z n kind target)
of_alias z n kind None = of_records z (matching n kind record_items)
of_alias z n kind (Some target) =
    either HasSmall (kind == rr.CNAME || kind == rr.ANY) (done (answered (cname_of n.own target ∷ []))) (renamed (cname_of n.own target ∷ []) target) (omega arith) tt

of_cut : (z : Zone) (n : Node) (kind : ℕ) → IsSmall (at_cut z n kind)
of_cut z n kind = either IsSmall (kind == rr.DS) (or_no_data z (records_at key.Ds n)) (referral (records_at key.Ns n)) (of_records z (records_at key.Ds n)) (omega arith)

of_name : (z : Zone) (n : Node) (kind : ℕ) → HasSmall (at_name z n kind)
of_name z n kind =
    either HasSmall (is_nil (rdata_at key.Ns n)) (in_zone z n kind) (done (at_cut z n kind)) (of_alias z n kind (target_at key.Alias n)) (of_cut z n kind)

of_dname : (dname : Resource) (own : List ℕ) (target : Option (List ℕ)) → HasSmall (by_dname dname own target)
of_dname dname own None = omega arith
of_dname dname own (Some target) = tt

of_way : (live : Live) (z : Zone) (b : Below) (o : Members) (kind : ℕ) (stop : Option Stop) → HasSmall (by_way live z b o kind stop)
of_way live z b o kind None = of_name z (node_at live o b b.path) kind
of_way live z b o kind (Some missing) = omega arith
of_way live z b o kind (Some (cut at)) = omega arith
of_way live z b o kind (Some (moved at target)) = of_dname (dname_of (own_of b at) target) (own_of b b.path) (replaced b at target)

of_value : (live : Live) (z : Zone) (b : Below) (kind : ℕ) (o : Option Members) → HasSmall (by_value live z b kind o)
of_value live z b kind None = omega arith
of_value live z b kind (Some o) = of_way live z b o kind (stop_on_way live o b b.path)

of_place : (live : Live) (z : Zone) (kind : ℕ) (p : Place) → HasSmall (asked_at live z kind p)
of_place live z kind outside = omega arith
of_place live z kind apex = of_records z (apex_records z kind)
of_place live z kind (below b) = of_value live z b kind (value_of live b.x)

going_on : (rest : Place → Answer) → ((p : Place) → IsSmall (rest p)) → (f : Found) → HasSmall f → IsSmall (go_on rest f)
going_on rest small (done a) is = is
going_on rest small (renamed records target) is = small (place_of target)

of_chase : (live : Live) (z : Zone) (kind more : ℕ) (p : Place) → IsSmall (chase live z kind more p)
unfolding chase
of_chase live z kind zero p = omega arith
of_chase live z kind (suc more) p = going_on (chase live z kind more) (of_chase live z kind more) (asked_at live z kind p) (of_place live z kind p)

pub small_rcode : (live : Live) (z : Zone) (q : Query) → (answer_to live z q).rcode < 2 ^ 4
small_rcode live z q =
    let place = place_of q.name in
    either IsSmall (is_refused q.kind q.«class» place) refused (chase live z q.kind MOST_CNAMES place) (omega arith) (of_chase live z q.kind MOST_CNAMES place)
