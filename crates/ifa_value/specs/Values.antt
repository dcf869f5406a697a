-- The object that a value is, its items and the entries of its map (IFA-0001). JSON is as `serde_json` reads it: of equal
-- keys the last stays, and texts that nest too deep or hold a number that it can't are not read.
use Rattle.std.specs.Prelude.{◌≡◌, ℕ, if◌then◌else◌, List, [], codes, Option, Some, None, is_some, false}
use Rattle.std.specs.Option.{option_and_then}
use Rattle.std.specs.Str.{is_utf8}
use Rattle.serde_json.specs.Data.{Data, null, boolean, number, string, array, object, Members, no_members}
use Rattle.serde_json.specs.Read.{read}
use Rattle.serde_json.specs.Find.{get, get_member, as_object}
use Rattle.domain_text.specs.Label.{is_entry_label}
use Rattle.ifa_value.specs.declared.item.Key.{Key}
use Rattle.ifa_value.specs.declared.item.Key.TheVariants as key

-- the members of an object; anything else has none
abbrev pub members_of : Data → Members
members_of null = no_members
members_of (boolean b) = no_members
members_of (number n) = no_members
members_of (string s) = no_members
members_of (array ds) = no_members
members_of (object ms) = ms

abbrev pub read_or_null : Option Data → Data
read_or_null (Some d) = d
read_or_null None = null

-- the object that a value is, or the empty one
unfoldable pub object_of : List ℕ → Members
object_of value = members_of (read_or_null (if is_utf8 value then read value else None))

abbrev pub key_text : Key → List ℕ
key_text key.Ip = codes "ip"
key_text key.Ip6 = codes "ip6"
key_text key.Ns = codes "ns"
key_text key.Alias = codes "alias"
key_text key.Translate = codes "translate"
key_text key.Ds = codes "ds"
key_text key.Tls = codes "tls"
key_text key.Sshfp = codes "sshfp"
key_text key.Txt = codes "txt"
key_text key.Srv = codes "srv"
key_text key.Mx = codes "mx"
key_text key.Map = codes "map"
key_text key.Import = codes "import"

-- what an item holds
abbrev pub item_of : Key → Members → Option Data
item_of k ms = get_member (key_text k) ms

-- the object under a label in `map`
abbrev pub entry_of : List ℕ → Members → Option Members
entry_of label ms = if is_entry_label label then option_and_then as_object (option_and_then (get label) (item_of key.Map ms)) else None

-- an object that gives itself alone as a source, and is no cut: without `ns`, an import and an entry under the empty text
pub record IsSimple (o : Members) : Type 0 where
  pub ns : is_some (item_of key.Ns o) ≡ false
  pub import : is_some (item_of key.Import o) ≡ false
  pub below : is_some (entry_of [] o) ≡ false
