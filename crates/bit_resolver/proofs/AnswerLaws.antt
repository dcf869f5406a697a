-- What holds of every answer.
use Rattle.std.proofs.Common.{◌≡◌, ℕ, zero, suc, ◌+◌, ◌≤◌, ◌==◌, ◌||◌, if◌then◌else◌, Bool, true, false, List, [], ◌∷◌, ◌++◌, refl, sym, ◌∙◌, arith, Option, Some, None, subst}
use Rattle.std.proofs.lemmas.Bool.Decides.{nat_tests}
use Rattle.std.specs.List.{AllByRecursion}
use Rattle.serde_json.specs.Data.{Members}
use Rattle.ifa_value.specs.declared.item.Key.{Key}
use Rattle.ifa_value.specs.declared.item.Key.TheVariants as key
use Rattle.import_expand.specs.Sources.{Live}
use Rattle.bit_resolver.specs.Places.{Below, Place, outside, apex, below, place_of}
use Rattle.bit_resolver.specs.Nodes.{Node, node_at, rdata_at, target_at, type_of, is_nil}
use Rattle.bit_resolver.specs.Way.{Stop, missing, cut, moved, stop_on_way}
use Rattle.bit_resolver.specs.Answers.{Answer, Found, done, renamed, answered, negative, or_no_data, referral, records_of, records_at, cname_of, apex_records, soa_of, ns_of, is_asked, matching, record_items, by_cname, by_alias, in_zone, at_cut, at_name, by_dname, dname_of, by_way, by_value, value_of, asked_at, go_on, chase, refused, is_refused, answer_at, answer_to}
use Rattle.dns_message.specs.Query.{Query}
use Rattle.bit_resolver.specs.Laws.{IsAnswerOf, asked, any, cname, dname, IsAuthority, server, start, cnames, IsLawful}
use Rattle.bit_resolver.specs.declared.resource.Resource.{Resource}
use Rattle.bit_resolver.specs.declared.zone.Zone.{Zone}
use Rattle.bit_resolver.specs.declared.limits.TheConstants.{MOST_CNAMES}
use Rattle.bit_resolver.specs.declared.rr_type.TheConstants as rr

all_both : (P : Resource → Type 0) (xs ys : List Resource) → AllByRecursion P xs → AllByRecursion P ys → AllByRecursion P (xs ++ ys)
all_both P [] ys h k = k
all_both P (x ∷ xs) ys h k = (h.0, all_both P xs ys h.1 k)

cnames-append : (xs ys : List Resource) → cnames (xs ++ ys) ≡ cnames xs + cnames ys
cnames-append [] ys = omega arith
cnames-append (x ∷ xs) ys = by_test (x.kind == rr.CNAME) refl (cnames-append xs ys)
  where
    by_test : (t : Bool) → (x.kind == rr.CNAME) ≡ t → cnames (xs ++ ys) ≡ cnames xs + cnames ys → cnames ((x ∷ xs) ++ ys) ≡ cnames (x ∷ xs) + cnames ys
    by_test true e more = rw e (omega (arith, more))
    by_test false e more = rw e more

records_are : (P : Resource → Type 0) (owner : List ℕ) (kind : ℕ) (rdata : List (List ℕ)) → ((d : List ℕ) → P (record { owner = owner; kind = kind; rdata = d })) → AllByRecursion P (records_of owner kind rdata)
records_are P owner kind [] h = tt
records_are P owner kind (d ∷ rdata) h = (h d, records_are P owner kind rdata h)

no_cnames : (owner : List ℕ) (kind : ℕ) (rdata : List (List ℕ)) → (kind == rr.CNAME) ≡ false → cnames (records_of owner kind rdata) ≡ 0
no_cnames owner kind [] h = refl
no_cnames owner kind (d ∷ rdata) h = rw h (no_cnames owner kind rdata h)

or_parts : (x y : Bool) → (x || y) ≡ true → (x ≡ false → y ≡ true)
or_parts true y h e = absurd (cc)
or_parts false y h e = h

asked_for : (kind : ℕ) (k : Key) (r : Resource) → is_asked kind k ≡ true → r.kind ≡ type_of k → IsAnswerOf kind r
asked_for kind k r h e = by_test (kind == rr.ANY) refl
  where
    by_test : (t : Bool) → (kind == rr.ANY) ≡ t → IsAnswerOf kind r
    by_test true a = any (grind (arith, nat_tests, a))
    by_test false a = let same : (kind == type_of k) ≡ true = or_parts (kind == rr.ANY) (kind == type_of k) h a in asked (e ∙ sym (same_number kind (type_of k) same))
      where
        same_number : (m n : ℕ) → (m == n) ≡ true → m ≡ n
        same_number m n s = grind (arith, nat_tests)

item_are : (n : Node) (kind : ℕ) (k : Key) (t : Bool) → is_asked kind k ≡ t → AllByRecursion (IsAnswerOf kind) (if t then records_at k n else [])
item_are n kind k true h = records_are (IsAnswerOf kind) n.own (type_of k) (rdata_at k n) (λ d. asked_for kind k _ h refl)
item_are n kind k false h = tt

matching_are : (n : Node) (kind : ℕ) (keys : List Key) → AllByRecursion (IsAnswerOf kind) (matching n kind keys)
matching_are n kind [] = tt
matching_are n kind (k ∷ keys) = all_both (IsAnswerOf kind) _ (matching n kind keys) (item_are n kind k (is_asked kind k) refl) (matching_are n kind keys)

item_few : (n : Node) (k : Key) (t : Bool) → (type_of k == rr.CNAME) ≡ false → cnames (if t then records_at k n else []) ≡ 0
item_few n k true h = no_cnames n.own (type_of k) (rdata_at k n) h
item_few n k false h = refl

matching_few : (n : Node) (kind : ℕ) (keys : List Key) → AllByRecursion (λ k. (type_of k == rr.CNAME) ≡ false) keys → cnames (matching n kind keys) ≡ 0
matching_few n kind [] h = refl
matching_few n kind (k ∷ keys) h =
    let sum = cnames-append (if is_asked kind k then records_at k n else []) (matching n kind keys) in
    let none = item_few n k (is_asked kind k) h.0 in
    let more = matching_few n kind keys h.1 in
    omega (arith, sum, none, more)

-- the same of what one name is answered with
abbrev IsLawfulFound : ℕ → Found → Type 0
IsLawfulFound kind (done a) = IsLawful kind 1 a
IsLawfulFound kind (renamed rs target) = (AllByRecursion (IsAnswerOf kind) rs) × (cnames rs ≤ 1)

either : (kind : ℕ) (t : Bool) (x y : Found) → IsLawfulFound kind x → IsLawfulFound kind y → IsLawfulFound kind (if t then x else y)
either kind true x y h k = h
either kind false x y h k = k

negative_is : (z : Zone) (kind rcode most : ℕ) → IsLawful kind most (negative z rcode)
negative_is z kind rcode most = record { answer = tt; authority = (start refl, tt); few = omega arith }

or_no_data_is : (z : Zone) (kind : ℕ) (rs : List Resource) → AllByRecursion (IsAnswerOf kind) rs → cnames rs ≤ 1 → IsLawful kind 1 (or_no_data z rs)
or_no_data_is z kind [] are few = negative_is z kind _ 1
or_no_data_is z kind (r ∷ rs) are few = record { answer = are; authority = tt; few = few }

by_cname_is : (kind : ℕ) (own target : List ℕ) → IsLawfulFound kind (by_cname kind own target)
by_cname_is kind own target =
    either kind (kind == rr.CNAME || kind == rr.ANY) (done (answered (cname_of own target ∷ []))) (renamed (cname_of own target ∷ []) target)
    (record { answer = (cname refl, tt); authority = tt; few = omega arith }) ((cname refl, tt), omega arith)

by_alias_is : (z : Zone) (n : Node) (kind : ℕ) (t : Option (List ℕ)) → IsLawfulFound kind (by_alias z n kind t)
by_alias_is z n kind None = or_no_data_is z kind (matching n kind record_items) (matching_are n kind record_items)
    (let e = matching_few n kind record_items (refl, (refl, (refl, (refl, (refl, (refl, (refl, (refl, tt)))))))) in omega (arith, e))
by_alias_is z n kind (Some target) = by_cname_is kind n.own target

referral_is : (n : Node) (kind : ℕ) → IsLawful kind 1 (referral (records_at key.Ns n))
referral_is n kind = record { answer = tt; authority = records_are IsAuthority n.own (type_of key.Ns) (rdata_at key.Ns n) (λ d. server refl); few = omega arith }

at_cut_is : (z : Zone) (n : Node) (kind : ℕ) → IsLawful kind 1 (at_cut z n kind)
at_cut_is z n kind = by_test (kind == rr.DS) refl
  where
    by_test : (t : Bool) → (kind == rr.DS) ≡ t → IsLawful kind 1 (at_cut z n kind)
    by_test true e =
        let same : type_of key.Ds ≡ kind = grind (arith, nat_tests, e) in
        let few = no_cnames n.own (type_of key.Ds) (rdata_at key.Ds n) refl in
        rw e (or_no_data_is z kind (records_at key.Ds n) (records_are (IsAnswerOf kind) n.own (type_of key.Ds) (rdata_at key.Ds n) (λ d. asked same)) (omega (arith, few)))
    by_test false e = rw e (referral_is n kind)

at_name_is : (z : Zone) (n : Node) (kind : ℕ) → IsLawfulFound kind (at_name z n kind)
at_name_is z n kind = either kind (is_nil (rdata_at key.Ns n)) (in_zone z n kind) (done (at_cut z n kind)) (by_alias_is z n kind (target_at key.Alias n)) (at_cut_is z n kind)

by_dname_is : (kind : ℕ) (owner at own : List ℕ) (t : Option (List ℕ)) → IsLawfulFound kind (by_dname (dname_of owner at) own t)
by_dname_is kind owner at own None = record { answer = (dname refl, tt); authority = tt; few = omega arith }
by_dname_is kind owner at own (Some target) = ((dname refl, (cname refl, tt)), omega arith)

by_way_is : (live : Live) (z : Zone) (b : Below) (o : Members) (kind : ℕ) (s : Option Stop) → IsLawfulFound kind (by_way live z b o kind s)
by_way_is live z b o kind (Some missing) = negative_is z kind _ 1
by_way_is live z b o kind (Some (cut at)) = referral_is (node_at live o b at) kind
by_way_is live z b o kind (Some (moved at target)) = by_dname_is kind _ target _ _
by_way_is live z b o kind None = at_name_is z (node_at live o b b.path) kind

by_value_is : (live : Live) (z : Zone) (b : Below) (kind : ℕ) (v : Option Members) → IsLawfulFound kind (by_value live z b kind v)
by_value_is live z b kind None = negative_is z kind _ 1
by_value_is live z b kind (Some o) = by_way_is live z b o kind (stop_on_way live o b b.path)

apex_are : (z : Zone) (kind : ℕ) → (AllByRecursion (IsAnswerOf kind) (apex_records z kind)) × (cnames (apex_records z kind) ≤ 1)
apex_are z kind = by_soa (kind == rr.SOA) refl
  where
    by_any : (t : Bool) → (kind == rr.ANY) ≡ t → (AllByRecursion (IsAnswerOf kind) (if t then soa_of z ∷ ns_of z ∷ [] else [])) × (cnames (if t then soa_of z ∷ ns_of z ∷ [] else []) ≤ 1)
    by_any true e = let all : kind ≡ rr.ANY = grind (arith, nat_tests, e) in ((any all, (any all, tt)), omega arith)
    by_any false e = (tt, omega arith)

    by_ns : (t : Bool) → (kind == rr.NS) ≡ t → (AllByRecursion (IsAnswerOf kind) (if t then ns_of z ∷ [] else if kind == rr.ANY then soa_of z ∷ ns_of z ∷ [] else [])) × (cnames (if t then ns_of z ∷ [] else if kind == rr.ANY then soa_of z ∷ ns_of z ∷ [] else []) ≤ 1)
    by_ns true e = let same : rr.NS ≡ kind = grind (arith, nat_tests, e) in ((asked same, tt), omega arith)
    by_ns false e = by_any (kind == rr.ANY) refl

    by_soa : (t : Bool) → (kind == rr.SOA) ≡ t → (AllByRecursion (IsAnswerOf kind) (apex_records z kind)) × (cnames (apex_records z kind) ≤ 1)
    by_soa true e = let same : rr.SOA ≡ kind = grind (arith, nat_tests, e) in rw e ((asked same, tt), omega arith)
    by_soa false e = rw e (by_ns (kind == rr.NS) refl)

asked_is : (live : Live) (z : Zone) (kind : ℕ) (p : Place) → IsLawfulFound kind (asked_at live z kind p)
asked_is live z kind outside = record { answer = tt; authority = tt; few = omega arith }
asked_is live z kind apex = let a = apex_are z kind in or_no_data_is z kind (apex_records z kind) a.0 a.1
asked_is live z kind (below b) = by_value_is live z b kind (value_of live b.x)

go_on_is : (kind more : ℕ) (rest : Place → Answer) (f : Found) → ((p : Place) → IsLawful kind more (rest p)) → IsLawfulFound kind f → IsLawful kind (suc more) (go_on rest f)
go_on_is kind more rest (done a) h is = let few = is.few in record { answer = is.answer; authority = is.authority; few = omega (arith, few) }
go_on_is kind more rest (renamed rs target) h is =
    let r = h (place_of target) in
    let few = r.few in
    let one = is.1 in
    let sum = cnames-append rs (rest (place_of target)).answer in
    record { answer = all_both (IsAnswerOf kind) rs (rest (place_of target)).answer is.0 r.answer; authority = r.authority; few = omega (arith, few, one, sum) }

chase_is : (live : Live) (z : Zone) (kind most : ℕ) (p : Place) → IsLawful kind most (chase live z kind most p)
unfolding chase
chase_is live z kind zero p = record { answer = tt; authority = tt; few = omega arith }
chase_is live z kind (suc more) p = go_on_is kind more (chase live z kind more) (asked_at live z kind p) (chase_is live z kind more) (asked_is live z kind p)

pub answer_is : (live : Live) (z : Zone) (kind «class» : ℕ) (p : Place) → IsLawful kind MOST_CNAMES (answer_at live z kind «class» p)
answer_is live z kind «class» p = by_test (is_refused kind «class» p)
  where
    by_test : (t : Bool) → IsLawful kind MOST_CNAMES (if t then refused else chase live z kind MOST_CNAMES p)
    by_test true = record { answer = tt; authority = tt; few = omega arith }
    by_test false = chase_is live z kind MOST_CNAMES p

pub answer_to-is : (live : Live) (z : Zone) (q : Query) (a : Answer) → a ≡ answer_to live z q → IsLawful q.kind MOST_CNAMES a
answer_to-is live z q a is = subst (IsLawful q.kind MOST_CNAMES) (sym is) (answer_is live z q.kind q.«class» (place_of q.name))
