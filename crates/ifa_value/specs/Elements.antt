-- The well-shaped elements of each item (IFA-0001).
use Rattle.std.specs.Prelude.{ℕ, if◌then◌else◌, List, [], ◌∷◌, Option, Some, None, is_some}
use Rattle.std.specs.Option.{option_map, option_and_then}
use Rattle.serde_json.specs.Data.{Data, null, boolean, number, string, array, object, Items, no_items, item, Members}
use Rattle.serde_json.specs.Find.{at, as_str}
use Rattle.domain_text.specs.Ipv4.{ipv4_of}
use Rattle.domain_text.specs.Ipv6.{ipv6_of}
use Rattle.ifa_value.specs.Shapes.{whole, digest, host, two, three, four, txt, selector_in}
use Rattle.ifa_value.specs.Values.{item_of}
use Rattle.ifa_value.specs.declared.item.Key.{Key}
use Rattle.ifa_value.specs.declared.item.Key.TheVariants as key
use Rattle.ifa_value.specs.declared.item.Element.{Element}
use Rattle.ifa_value.specs.declared.item.Element.TheVariants as element

-- an IPv4 text
abbrev pub ip : Data → Option Element
ip d = option_map element.Ip4 (option_and_then ipv4_of (as_str d))

-- an IPv6 text
abbrev pub ip6 : Data → Option Element
ip6 d = option_map element.Ip6 (option_and_then ipv6_of (as_str d))

-- a host text
abbrev pub host_element : Data → Option Element
host_element d = option_map element.Host (host d)

-- [key tag, algorithm, digest type, digest]
abbrev pub ds_of : Data → Data → Data → Data → Option Element
ds_of a b c d = option_and_then (λ tag. option_and_then (λ algorithm. option_and_then (λ kind. option_map (element.Ds tag algorithm kind) (digest d)) (whole 255 c)) (whole 255 b)) (whole 65535 a)

abbrev pub ds : Data → Option Element
ds d = option_and_then (λ p. ds_of p.0 p.1 p.2 p.3) (four d)

-- [usage, selector, matching type, digest]
abbrev pub tls_of : Data → Data → Data → Data → Option Element
tls_of a b c d = option_and_then (λ usage. option_and_then (λ selector. option_and_then (λ matching. option_map (element.Tls usage selector matching) (digest d)) (whole 255 c)) (whole 255 b)) (whole 255 a)

abbrev pub tls : Data → Option Element
tls d = option_and_then (λ p. tls_of p.0 p.1 p.2 p.3) (four d)

-- [algorithm, type, digest]
abbrev pub sshfp_of : Data → Data → Data → Option Element
sshfp_of a b c = option_and_then (λ algorithm. option_and_then (λ kind. option_map (element.Sshfp algorithm kind) (digest c)) (whole 255 b)) (whole 255 a)

abbrev pub sshfp : Data → Option Element
sshfp d = option_and_then (λ p. sshfp_of p.0 p.1 p.2) (three d)

-- a text, or a list of texts
abbrev pub txt_element : Data → Option Element
txt_element d = option_map element.Txt (txt d)

-- [priority, weight, port, host text]
abbrev pub srv_of : Data → Data → Data → Data → Option Element
srv_of a b c d = option_and_then (λ priority. option_and_then (λ weight. option_and_then (λ port. option_map (element.Srv priority weight port) (host d)) (whole 65535 c)) (whole 65535 b)) (whole 65535 a)

abbrev pub srv : Data → Option Element
srv d = option_and_then (λ p. srv_of p.0 p.1 p.2 p.3) (four d)

-- [preference, host text]
abbrev pub mx_of : Data → Data → Option Element
mx_of a b = option_and_then (λ preference. option_map (element.Mx preference) (host b)) (whole 65535 a)

abbrev pub mx : Data → Option Element
mx d = option_and_then (λ p. mx_of p.0 p.1) (two d)

-- [text] or [text, selector]
abbrev pub import : Data → Option Element
import d = option_and_then (λ name. option_and_then (λ selector. if is_some (at 2 d) then None else Some (element.Import name selector)) (selector_in (at 1 d))) (option_and_then as_str (at 0 d))

-- one element of an item
abbrev pub element_in : Key → Data → Option Element
element_in key.Ip d = ip d
element_in key.Ip6 d = ip6 d
element_in key.Ns d = host_element d
element_in key.Alias d = host_element d
element_in key.Translate d = host_element d
element_in key.Ds d = ds d
element_in key.Tls d = tls d
element_in key.Sshfp d = sshfp d
element_in key.Txt d = txt_element d
element_in key.Srv d = srv d
element_in key.Mx d = mx d
element_in key.Map d = None
element_in key.Import d = import d

abbrev pub onto : {A : Type 0} → Option A → List A → List A
onto (Some x) xs = x ∷ xs
onto None xs = xs

-- the members of a list, each by itself
abbrev pub each : {A : Type 0} → (Data → Option A) → Items → List A
each f no_items = []
each f (item d ds) = onto (f d) (each f ds)

abbrev pub alone : {A : Type 0} → Option A → List A
alone (Some x) = x ∷ []
alone None = []

-- a list, or one element that stands for a list of one
abbrev pub one_or_list : {A : Type 0} → (Data → Option A) → Data → List A
one_or_list f null = alone (f null)
one_or_list f (boolean b) = alone (f (boolean b))
one_or_list f (number n) = alone (f (number n))
one_or_list f (string s) = alone (f (string s))
one_or_list f (array ds) = each f ds
one_or_list f (object ms) = alone (f (object ms))

abbrev pub list_only : {A : Type 0} → (Data → Option A) → Data → List A
list_only f null = []
list_only f (boolean b) = []
list_only f (number n) = []
list_only f (string s) = []
list_only f (array ds) = each f ds
list_only f (object ms) = []

abbrev pub import_by : Option (List ℕ) → Option (List ℕ) → Data → List Element
import_by (Some name) first d = element.Import name [] ∷ []
import_by None (Some first) d = alone (import d)
import_by None None d = list_only import d

-- a text is one import, and so is a list whose first member is a text; else a list of such lists
abbrev pub imports : Data → List Element
imports d = import_by (as_str d) (option_and_then as_str (at 0 d)) d

abbrev pub elements_in : Key → Data → List Element
elements_in key.Ip d = one_or_list ip d
elements_in key.Ip6 d = one_or_list ip6 d
elements_in key.Ns d = one_or_list host_element d
elements_in key.Alias d = alone (host_element d)
elements_in key.Translate d = alone (host_element d)
elements_in key.Ds d = list_only ds d
elements_in key.Tls d = list_only tls d
elements_in key.Sshfp d = list_only sshfp d
elements_in key.Txt d = one_or_list txt_element d
elements_in key.Srv d = list_only srv d
elements_in key.Mx d = list_only mx d
elements_in key.Map d = []
elements_in key.Import d = imports d

abbrev pub elements_if : Key → Option Data → List Element
elements_if k (Some d) = elements_in k d
elements_if k None = []

-- the well-shaped elements of an item, in order
abbrev pub elements_of : Key → Members → List Element
elements_of k ms = elements_if k (item_of k ms)
