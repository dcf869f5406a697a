-- Names whose objects have no item that leads elsewhere.
use Rattle.std.proofs.Common.{◌≡◌, ◌≤◌, ℕ, arith, length, List, [], ◌∷◌, ◌++◌, take, false, Option, Some, None, Result, Ok, Err, IfOk, IfSome, is_some, if◌then◌else◌, refl, sym, ap, ap₂, ◌∙◌}
use Rattle.std.proofs.lemmas.List.{append-nil}
use Rattle.std.specs.List.{flat_map}
use Rattle.std.specs.Option.{option_and_then}
use Rattle.serde_json.specs.Data.{Data, Members}
use Rattle.domain_text.specs.Host.{HostText, end_of, host_at, host_name, host_of}
use Rattle.domain_text.specs.Names.{if_fits, joined_to}
use Rattle.domain_text.specs.declared.host.Form.TheVariants.{Absolute}
use Rattle.ifa_value.specs.declared.item.Key.{Key}
use Rattle.ifa_value.specs.declared.item.Key.TheVariants as key
use Rattle.ifa_value.specs.declared.item.Element.{Element}
use Rattle.ifa_value.specs.declared.item.Element.TheVariants as element
use Rattle.ifa_value.specs.Elements.{alone, elements_if, elements_of}
use Rattle.ifa_value.specs.Values.{item_of, entry_of, IsSimple}
use Rattle.import_expand.specs.Sources.{Live, all_sources, elements_at, elements_if_some, if_named, imported, sources_of}
use Rattle.bit_resolver.specs.Answers.{done, at_name, by_alias, by_cname, by_value, by_way, in_zone, matching, or_no_data, record_items, records_at, records_of}
use Rattle.bit_resolver.specs.HostsAt.{name_at}
use Rattle.bit_resolver.specs.Nodes.{Node, first, host_in, is_nil, lone, node_at, rdata_at, target_at, type_of}
use Rattle.bit_resolver.specs.Places.{Below, top_of}
use Rattle.bit_resolver.specs.Rdata.{rdata_of}
use Rattle.bit_resolver.specs.Way.{if_missing, stop_on_way}
use Rattle.bit_resolver.specs.declared.resource.Resource.{Resource}
use Rattle.bit_resolver.specs.declared.zone.Zone.{Zone}
use Rattle.bit_resolver.specs.declared.rr_type.TheConstants as rr

-- what an element gives without a name for any host it gives with each
pub plain_rdata : (name : List ℕ → Option (List ℕ)) (e : Element) (d : List ℕ) → Some d ≡ rdata_of (name_at None) e → rdata_of name e ≡ Some d
plain_rdata name (element.Ip4 address) d h = sym h
plain_rdata name (element.Ip6 address) d h = sym h
plain_rdata name (element.Host text) d h = absurd (cc)
plain_rdata name (element.Ds tag algorithm kind digest) d h = sym h
plain_rdata name (element.Tls usage selector matching digest) d h = sym h
plain_rdata name (element.Sshfp algorithm kind digest) d h = sym h
plain_rdata name (element.Txt strings) d h = sym h
plain_rdata name (element.Srv priority weight port text) d h = absurd (cc)
plain_rdata name (element.Mx preference text) d h = absurd (cc)
plain_rdata name (element.Import of selector) d h = absurd (cc)

none_of : {A : Type 0} (x : Option A) → is_some x ≡ false → x ≡ None
none_of None h = refl
none_of (Some y) h = absurd (cc)

-- the object itself is the one source
one_source : (live : Live) (o : Members) → IsSimple o → sources_of live 0 o ≡ o ∷ []
one_source live o h =
    ap₂ (λ e i. take 256 ((o ∷ alone e) ++ flat_map (λ x. if_named (all_sources live 3) (imported live x)) (take 8 (elements_if key.Import i)))) (none_of (entry_of [] o) h.below) (none_of (item_of key.Import o) h.import)

-- an item of one source
at_one : (k : Key) (o : Members) → elements_at k (o ∷ []) ≡ elements_of k o
at_one k o = by_item (item_of k o) refl
  where
    by_item : (r : Option Data) → item_of k o ≡ r → elements_at k (o ∷ []) ≡ elements_of k o
    by_item None e = ap (λ x. elements_if_some k (if is_some x then Some o else None)) e ∙ sym (ap (elements_if k) e)
    by_item (Some d) e = ap (λ x. elements_if_some k (if is_some x then Some o else None)) e

-- an item that isn't there has no element
none_at : (k : Key) (o : Members) → is_some (item_of k o) ≡ false → elements_at k (o ∷ []) ≡ []
none_at k o h = at_one k o ∙ ap (elements_if k) (none_of (item_of k o) h)

is_no_cut : (z : Zone) (b : Below) (kind : ℕ) (o : Members) → IsSimple o → at_name z (lone b o) kind ≡ in_zone z (lone b o) kind
is_no_cut z b kind o h =
    let servers : is_nil (rdata_at key.Ns (lone b o)) ≡ _ = ap (λ es. is_nil (flat_map (λ e. alone (rdata_of (host_name (top_of b) (top_of b)) e)) es)) (none_at key.Ns o h.ns) in
    rw servers refl

-- what its name is answered with: what its one node answers
pub lone_answer : (live : Live) (z : Zone) (b : Below) (kind : ℕ) (o : Members) → b.path ≡ [] → IsSimple o → in_zone z (lone b o) kind ≡ by_value live z b kind (Some o)
lone_answer live z b kind o top h =
    let arrives : stop_on_way live o b b.path ≡ None = ap (stop_on_way live o b) top ∙ ap if_missing (one_source live o h) in
    let here : node_at live o b b.path ≡ lone b o = ap (node_at live o b) top ∙ ap (λ s. record { own = top_of b; top = top_of b; of = s }) (one_source live o h) in
    sym (ap (by_way live z b o kind) arrives ∙ ap (λ n. at_name z n kind) here ∙ is_no_cut z b kind o h)

-- without an alias: the records of the one item that is asked for
pub lone_records : (z : Zone) (b : Below) (kind : ℕ) (k : Key) (o : Members) (rs : List Resource) → is_some (item_of key.Alias o) ≡ false → ((n : Node) → matching n kind record_items ≡ records_at k n)
    → rs ≡ records_of (top_of b) (type_of k) (flat_map (λ e. alone (rdata_of (host_name (top_of b) (top_of b)) e)) (elements_of k o))
    → done (or_no_data z rs) ≡ in_zone z (lone b o) kind
lone_records z b kind k o rs none only are =
    let n : Node = lone b o in
    let found : rs ≡ records_at k n = are ∙ ap (λ es. records_of (top_of b) (type_of k) (flat_map (λ e. alone (rdata_of (host_name (top_of b) (top_of b)) e)) es)) (sym (at_one k o)) in
    let target : target_at key.Alias n ≡ None = ap (λ es. option_and_then (host_in n) (first es)) (none_at key.Alias o none) in
    ap (λ r. done (or_no_data z r)) (found ∙ sym (only n)) ∙ sym (ap (by_alias z n kind) target)

-- with one: its name
pub lone_alias : (z : Zone) (b : Below) (kind : ℕ) (o : Members) (es : List Element) (t : List ℕ) → es ≡ elements_of key.Alias o → ((n : Node) → option_and_then (host_in n) (first es) ≡ Some t)
    → by_cname kind (top_of b) t ≡ in_zone z (lone b o) kind
lone_alias z b kind o es t are same =
    let n : Node = lone b o in
    let target : target_at key.Alias n ≡ Some t = ap (λ xs. option_and_then (host_in n) (first xs)) (at_one key.Alias o ∙ sym are) ∙ same n in
    sym (ap (by_alias z n kind) target)

-- the name of an absolute host text is the same at each node
pub absolute_at : (text : List ℕ) (h : HostText) (r : Option (List ℕ)) → Some h ≡ host_of text → h.form ≡ Absolute → r ≡ host_at (0 ∷ []) (0 ∷ []) h → IfSome r (λ t. (own top : List ℕ) → host_name own top text ≡ Some t)
absolute_at text h None is absolute at = tt
absolute_at text h (Some t) is absolute at = λ own top.
    sym (at ∙ ap (λ f. if_fits (joined_to h.labels (end_of f (0 ∷ []) (0 ∷ [])))) absolute ∙ sym (ap (λ f. if_fits (joined_to h.labels (end_of f own top))) absolute) ∙ ap (option_and_then (host_at own top)) is)

pub host_anywhere : (text : List ℕ) (e : Element) (r : Option (List ℕ)) → e ≡ element.Host text → IfSome r (λ t. (own top : List ℕ) → host_name own top text ≡ Some t) → IfSome r (λ t. (n : Node) → host_in n e ≡ Some t)
host_anywhere text e None is same = tt
host_anywhere text e (Some t) is same = λ n. ap (host_in n) is ∙ same n.own n.top

pub first_anywhere : (es : List Element) (e : Element) (r : Option (List ℕ)) → first es ≡ Some e → IfSome r (λ t. (n : Node) → host_in n e ≡ Some t) → IfSome r (λ t. (n : Node) → option_and_then (host_in n) (first es) ≡ Some t)
first_anywhere es e None is same = tt
first_anywhere es e (Some t) is same = λ n. ap (option_and_then (host_in n)) is ∙ same n

pub no_labels : {A : Type 0} (xs : List A) → length xs ≤ 0 → xs ≡ []
no_labels [] h = refl
no_labels (x ∷ xs) h = absurd (omega arith)

-- what holds of an answer that is there
pub if_found : {A E : Type 0} (P Q : A → Type 0) (r : Result (Option A) E) → ((a : A) → P a → Q a) → IfOk r (λ o. IfSome o P) → IfOk r (λ o. IfSome o Q)
if_found P Q (Ok None) more h = tt
if_found P Q (Ok (Some a)) more h = more a h
if_found P Q (Err e) more h = tt

pub only_ip : (n : Node) → matching n rr.A record_items ≡ records_at key.Ip n
only_ip n = append-nil (records_at key.Ip n)

pub only_ip6 : (n : Node) → matching n rr.AAAA record_items ≡ records_at key.Ip6 n
only_ip6 n = append-nil (records_at key.Ip6 n)

pub only_txt : (n : Node) → matching n rr.TXT record_items ≡ records_at key.Txt n
only_txt n = append-nil (records_at key.Txt n)

pub only_tls : (n : Node) → matching n rr.TLSA record_items ≡ records_at key.Tls n
only_tls n = append-nil (records_at key.Tls n)

pub only_sshfp : (n : Node) → matching n rr.SSHFP record_items ≡ records_at key.Sshfp n
only_sshfp n = append-nil (records_at key.Sshfp n)
