-- Host texts (IFA-0001), and their names.
use Rattle.std.specs.Prelude.{◌≡◌, ◌≢◌, ℕ, ◌≤◌, ◌-◌, ◌==◌, if◌then◌else◌, Bool, true, false, List, [], ◌∷◌, ◌++◌, length, take, drop, nat_eq, Option, Some, None, is_some, IsTrue}
use Rattle.std.specs.Option.{option_and_then}
use Rattle.std.specs.Cmp.Lexicographic.{pointwise}
use Rattle.std.specs.List.{list_all, join_with_byte, slice_split}
use Rattle.domain_text.specs.declared.host.Form.{Form}
use Rattle.domain_text.specs.declared.host.Form.TheVariants.{Absolute, AtTop, AtOwn}
use Rattle.domain_text.specs.Label.{is_label}
use Rattle.domain_text.specs.Ipv4.{IsIpv4, ipv4_of}
use Rattle.domain_text.specs.Names.{joined_to, wire_of, if_fits}
use Rattle.domain_text.specs.declared.limits.TheConstants.{LONGEST_WIRE}

-- what a host text stands below, and its labels above that, the lowest first
pub record HostText : Type 0 where
  pub form : Form
  pub labels : List (List ℕ)

abbrev pub AreLabels : List (List ℕ) → Type 0
AreLabels labels = IsTrue (list_all is_label labels)

-- labels, joined by dots
pub record IsJoined (text : List ℕ) (labels : List (List ℕ)) : Type 0 where
  pub some : labels ≢ []
  pub are : AreLabels labels
  pub spelled : text ≡ join_with_byte 46 labels

-- The four forms: labels and a dot; nothing, `@`, or labels and `.@`; labels alone, which are no address.
pub data IsHost (text : List ℕ) (host : HostText) : Type 0 where
  absolute : (front : List ℕ) → host.form ≡ Absolute → text ≡ front ++ (46 ∷ []) → IsJoined front host.labels → IsHost text host
  empty : host ≡ record { form = AtTop; labels = [] } → text ≡ [] → IsHost text host
  at_sign : host ≡ record { form = AtTop; labels = [] } → text ≡ 64 ∷ [] → IsHost text host
  below_top : (front : List ℕ) → host.form ≡ AtTop → text ≡ front ++ (46 ∷ 64 ∷ []) → IsJoined front host.labels → IsHost text host
  below_own : host.form ≡ AtOwn → IsJoined text host.labels → ((address : List ℕ) → IsIpv4 text address → ⊥) → IsHost text host

-- the absolute text of a host, and its name on the wire
pub record IsAbsoluteHost (text name : List ℕ) : Type 0 where
  pub labels : List (List ℕ)
  pub host : IsHost text (record { form = Absolute; labels = labels })
  pub on_wire : name ≡ wire_of labels
  pub fits : length name ≤ LONGEST_WIRE

-- what a form ends with, at a node below the name at the top
abbrev pub end_of : Form → List ℕ → List ℕ → List ℕ
end_of Absolute own top = 0 ∷ []
end_of AtTop own top = top
end_of AtOwn own top = own

-- the name of a host at a node, where a name may have so many bytes
abbrev pub host_at : List ℕ → List ℕ → HostText → Option (List ℕ)
host_at own top host = if_fits (joined_to host.labels (end_of host.form own top))

-- what stands between the dots
abbrev pub parts : List ℕ → List (List ℕ)
parts = slice_split (λ b. b == 46)

-- the labels that a text joins, where the empty text joins none
abbrev pub parts_of : List ℕ → List (List ℕ)
parts_of [] = []
parts_of (b ∷ rest) = parts (b ∷ rest)

-- what stands before this end
abbrev pub before_end : List ℕ → List ℕ → Option (List ℕ)
before_end end text = if pointwise nat_eq (drop (length text - length end) text) end then Some (take (length text - length end) text) else None

abbrev pub is_top : List ℕ → Bool
is_top [] = true
is_top (b ∷ []) = b == 64
is_top (b ∷ c ∷ rest) = false

abbrev pub labelled : Form → List ℕ → Option HostText
labelled form text = if list_all is_label (parts text) then Some (record { form = form; labels = parts text }) else None

abbrev pub by_end : List ℕ → Option (List ℕ) → Option (List ℕ) → Option HostText
by_end text (Some front) dot = labelled AtTop front
by_end text None (Some front) = labelled Absolute front
by_end text None None = labelled AtOwn text

-- the host that a text is
unfoldable pub host_of : List ℕ → Option HostText
host_of text =
    if is_some (ipv4_of text) then None
    else if is_top text then Some (record { form = AtTop; labels = [] })
    else by_end text (before_end (46 ∷ 64 ∷ []) text) (before_end (46 ∷ []) text)

-- the name of a host text at a node
abbrev pub host_name : List ℕ → List ℕ → List ℕ → Option (List ℕ)
host_name own top text = option_and_then (host_at own top) (host_of text)

-- the name of an absolute host text
abbrev pub absolute_of : Form → List (List ℕ) → Option (List ℕ)
absolute_of Absolute labels = if_fits (wire_of labels)
absolute_of AtTop labels = None
absolute_of AtOwn labels = None

abbrev pub absolute_name_of : List ℕ → Option (List ℕ)
absolute_name_of text = option_and_then (λ host. absolute_of host.form host.labels) (host_of text)
