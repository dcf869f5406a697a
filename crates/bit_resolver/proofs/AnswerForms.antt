-- Records of a node, item by item.
use Rattle.std.proofs.Common.{◌≡◌, ℕ, suc, ◌+◌, ◌<◌, List, [], ◌∷◌, ◌++◌, length, take, get_or, if◌then◌else◌, refl, sym, ap, ◌∙◌, arith}
use Rattle.std.proofs.Math.Seq.{take-suc}
use Rattle.std.proofs.lemmas.Grind.{flat_map-append}
use Rattle.std.specs.List.{flat_map}
use Rattle.ifa_value.specs.declared.item.Key.{Key}
use Rattle.domain_text.specs.Host.{host_name}
use Rattle.ifa_value.specs.declared.item.Element.{Element}
use Rattle.ifa_value.specs.Elements.{alone}
use Rattle.import_expand.specs.Sources.{elements_at}
use Rattle.bit_resolver.specs.Rdata.{rdata_of}
use Rattle.bit_resolver.specs.Nodes.{Node, type_of}
use Rattle.bit_resolver.specs.Answers.{matching, is_asked, records_at, records_of}
use Rattle.bit_resolver.specs.declared.resource.Resource.{Resource}

one : {X A : Type 0} (f : X → List A) (x : X) → flat_map f (x ∷ []) ≡ f x
one f x = list_unit (f x)
  where
    list_unit : {A : Type 0} (xs : List A) → xs ++ [] ≡ xs
    list_unit [] = refl
    list_unit (x ∷ xs) = ap (λ r. x ∷ r) (list_unit xs)

-- the records of one item more
matching_next : (n : Node) (kind : ℕ) (keys : List Key) (i : ℕ) (d : Key) → i < length keys
    → matching n kind (take (i + 1) keys) ≡ matching n kind (take i keys) ++ (if is_asked kind (get_or keys i d) then records_at (get_or keys i d) n else [])
matching_next n kind keys i d l =
    let f : Key → List Resource = λ k. if is_asked kind k then records_at k n else [] in
    let e : i + 1 ≡ suc i = omega arith in
    ap (λ j. flat_map f (take j keys)) e ∙ ap (flat_map f) (take-suc keys i d l) ∙ flat_map-append f (take i keys) (get_or keys i d ∷ []) ∙ ap (λ r. flat_map f (take i keys) ++ r) (one f (get_or keys i d))

pub matching_step : (n : Node) (kind : ℕ) (keys : List Key) (i : ℕ) (d : Key) (before after : List Resource) → i < length keys → before ≡ matching n kind (take i keys)
    → after ≡ before ++ (if is_asked kind (get_or keys i d) then records_at (get_or keys i d) n else []) → after ≡ matching n kind (take (i + 1) keys)
matching_step n kind keys i d before after l so more =
    more ∙ ap (λ front. front ++ (if is_asked kind (get_or keys i d) then records_at (get_or keys i d) n else [])) so ∙ sym (matching_next n kind keys i d l)

-- the records of the elements of a node's item
pub added_at : (k : Key) (n : Node) (own top : List ℕ) (kind : ℕ) (es : List Element) (before after : List Resource) → n.own ≡ own → n.top ≡ top → kind ≡ type_of k → es ≡ elements_at k n.of
    → after ≡ before ++ records_of own kind (flat_map (λ e. alone (rdata_of (host_name own top) e)) es) → after ≡ before ++ records_at k n
added_at k n own top kind es before after is below as_kind are h =
    let of : List ℕ → List ℕ → List Element → List (List ℕ) = λ o t xs. flat_map (λ e. alone (rdata_of (host_name o t) e)) xs in
    h ∙ ap (λ o. before ++ records_of o kind (of o top es)) (sym is) ∙ ap (λ t. before ++ records_of n.own kind (of n.own t es)) (sym below)
    ∙ ap (λ j. before ++ records_of n.own j (of n.own n.top es)) as_kind ∙ ap (λ xs. before ++ records_of n.own (type_of k) (of n.own n.top xs)) are
