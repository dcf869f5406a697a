-- What files stand for, the files tell: the fields of the header, and the selections.
use Rattle.std.proofs.Common.{◌≡◌, ◌≢◌, ℕ, ◌+◌, ◌<◌, ◌≤◌, List, [], ◌∷◌, ◌++◌, length, take, drop, get_or, refl, sym, ◌∙◌, ap, subst, arith, append_assoc, length-append, true, ◌&&◌}
use Rattle.std.proofs.lemmas.Bool.Decides.{nat_tests}
use Rattle.std.specs.Prelude.{slice_index, nat_le}
use Rattle.std.specs.List.{list_all, join_with_byte}
use Rattle.std.specs.Int.{w32, from_le_bytes}
use Rattle.std.proofs.lemmas.Nat.{from_le_bytes-to_le_bytes_4}
use Rattle.std.proofs.lemmas.Bool.{and_parts}
use Rattle.std.proofs.lemmas.List.{take-take, drop-take, get_or-take, get_or_at, take_at, drop_at, take_all}
use Rattle.nmc_base.specs.declared.chain_ends.Base.{Base}
use Rattle.nmc_base.specs.declared.chain_ends.Profile.{Profile}
use Rattle.nmc_base.specs.declared.chain_ends.Profile.TheVariants.{Regtest, Main}
use Rattle.domain_text.specs.declared.host.Form.TheVariants.{Absolute, AtTop, AtOwn}
use Rattle.domain_text.specs.Label.{is_label, is_label_byte}
use Rattle.domain_text.specs.Host.{HostText, IsHost, absolute, empty, at_sign, below_top, below_own}
use Rattle.gate_journal.specs.Records.{records_text}
use Rattle.gate_journal.proofs.RecordLemmas.{begins_with}
use Rattle.chain_commands.specs.RunState.{RunState}
use Rattle.image_slots.specs.Selections.{HasSelections, selections}
use Rattle.image_slots.proofs.SelectionLemmas.{same_number}
use Rattle.name_store.specs.Host.{IsHostText}
use Rattle.name_store.specs.Header.{IsBegun, HasHeader, HasFields, magic, header_text, profile_byte, profile_of, magic_at, profile_at, base_at, host_at, hash_at, host_length_at, height_at, selections_at}
use Rattle.name_store.specs.Damage.{HasSelected}
use Rattle.name_store.specs.Stands.{Bytes, IsRunState, Stands}

-- ---- a host has two bytes or more

label_long : (label : List ℕ) → is_label label ≡ true → 1 ≤ length label
label_long label h =
    let p = (and_parts (nat_le 1 (length label)) (nat_le (length label) 63) (and_parts (nat_le 1 (length label) && nat_le (length label) 63) (list_all is_label_byte label) h).0).0 in
    grind (arith, nat_tests)

joined_long : (labels : List (List ℕ)) → labels ≢ [] → list_all is_label labels ≡ true → 1 ≤ length (join_with_byte 46 labels)
joined_long [] some are = absurd (some refl)
joined_long (label ∷ []) some are = label_long label (and_parts (is_label label) true are).0
joined_long (label ∷ next ∷ labels) some are = omega (arith, length-append label (46 ∷ join_with_byte 46 (next ∷ labels)))

host_form_long : (text : List ℕ) (host : HostText) → host.form ≡ Absolute → IsHost text host → 2 ≤ length text
host_form_long text host form (absolute front same whole joined) = omega (arith, ap length whole, length-append front (46 ∷ []), ap length joined.spelled, joined_long host.labels joined.some joined.are)
host_form_long text host form (empty same whole) = absurd (other form (ap (λ (h : HostText). h.form) same))
  where
    other : host.form ≡ Absolute → host.form ≡ AtTop → ⊥
    other a b = cc
host_form_long text host form (at_sign same whole) = absurd (other form (ap (λ (h : HostText). h.form) same))
  where
    other : host.form ≡ Absolute → host.form ≡ AtTop → ⊥
    other a b = cc
host_form_long text host form (below_top front same whole joined) = absurd (other form same)
  where
    other : host.form ≡ Absolute → host.form ≡ AtTop → ⊥
    other a b = cc
host_form_long text host form (below_own same joined plain) = absurd (other form same)
  where
    other : host.form ≡ Absolute → host.form ≡ AtOwn → ⊥
    other a b = cc

host_long : (text : List ℕ) → IsHostText text → 2 ≤ length text
host_long text is = host_form_long text (record { form = Absolute; labels = is.host.absolute.labels }) refl is.host.absolute.host

-- ---- the fields of a file that begins with a header

-- the file begins with the header of this base and host, and does not end with it
pub record BeginsSo (base : Base) (host file : List ℕ) : Type 0 where
  pub begins : take (length (header_text base host)) file ≡ header_text base host
  pub inside : length (header_text base host) < length file

-- each profile is read back from its byte
profile_again : (profile : Profile) → profile_of (profile_byte profile) ≡ profile
profile_again Regtest = refl
profile_again Main = refl

module _ (base : Base) (host file : List ℕ) (is : BeginsSo base host file) (begun : IsBegun base host) where
  abbrev text : List ℕ
  text = header_text base host

  size : length text ≡ 47 + length host
  size = omega (arith, length-append base.hash.0 (length host ∷ host), begun.hash)

  piece : (at count left : ℕ) → length text ≡ at + left → count ≤ left → take count (drop at file) ≡ take count (drop at text)
  piece at count left e short =
      sym (ap (λ (q : ℕ). take count (drop at (take q file))) e ∙ ap (take count) (drop-take at left file) ∙ take-take count left (drop at file) short) ∙ ap (λ (l : List ℕ). take count (drop at l)) is.begins

  byte : (at : ℕ) → at < 47 → slice_index file at ≡ slice_index text at
  byte at low = sym (get_or-take (length text) file at 0 (omega (arith, size, low))) ∙ ap (λ (l : List ℕ). get_or l at 0) is.begins

  magic_is : magic_at file ≡ magic
  magic_is = piece 1 8 (46 + length host) (omega (arith, size)) (omega arith)

  profile_is : profile_at file ≡ profile_byte base.profile
  profile_is = byte 9 (omega arith)

  profile_told : profile_of (profile_at file) ≡ base.profile
  profile_told = ap profile_of profile_is ∙ profile_again base.profile

  height_is : height_at file ≡ base.height
  height_is = ap (from_le_bytes w32) (piece 10 4 (37 + length host) (omega (arith, size)) (omega arith)) ∙ from_le_bytes-to_le_bytes_4 base.height (omega (arith, begun.low))

  hash_is : hash_at file ≡ base.hash.0
  hash_is = piece 14 32 (33 + length host) (omega (arith, size)) (omega arith) ∙ take_at base.hash.0 (length host ∷ host) 32 begun.hash

  host_length_is : host_length_at file ≡ length host
  host_length_is = byte 46 (omega arith) ∙ get_or_at base.hash.0 (length host) host 0 32 begun.hash

  host_is : host_at file ≡ host
  host_is =
      let front = base.hash.0 ++ length host ∷ [] in
      let split : base.hash.0 ++ (length host ∷ host) ≡ front ++ host = sym (append_assoc base.hash.0 (length host ∷ []) host) in
      let behind : drop 33 (base.hash.0 ++ (length host ∷ host)) ≡ host = ap (drop 33) split ∙ drop_at front host 33 (omega (arith, length-append base.hash.0 (length host ∷ []), begun.hash)) in
      ap (λ (n : ℕ). take n (drop 47 file)) host_length_is ∙ piece 47 (length host) (length host) size (omega arith) ∙ ap (take (length host)) behind ∙ take_all (length host) host (omega arith)

  -- its base is the one of its fields
  pub base_told : base_at file ≡ base
  base_told = λ i. record { profile = profile_told i; height = height_is i; hash = record { 0 = hash_is i } }

  pub host_told : host_at file ≡ host
  host_told = host_is

  fields : HasFields file
  fields = record {
    magic_is = magic_is;
    profile_is = profile_is ∙ ap profile_byte (sym profile_told);
    low = omega (arith, height_is, begun.low);
    host = record {
      inside = omega (arith, host_length_is, size, is.inside);
      is_host = subst IsHostText (sym host_is) begun.is_host;
    };
  }

  -- the selections begin behind the header
  pub selections_told : selections_at file ≡ length text
  selections_told = omega (arith, host_length_is, size)

  -- it has a header
  pub header_told : HasHeader file
  header_told = record {
    initialised = record { long = omega (arith, size, is.inside, host_long host begun.is_host); is_open = byte 0 (omega arith) };
    fields = fields;
  }

-- ---- run states

-- a file that has so many selections behind a header begins with it
pub begins_front : (base : Base) (host file : List ℕ) (count : ℕ) → HasSelections (header_text base host) count file → BeginsSo base host file
begins_front base host file count has = record {
  begins = begins_with (header_text base host) (records_text (selections count)) file has.closed;
  inside = omega (arith, has.closed.inside, length-append (header_text base host) (records_text (selections count)));
}

-- files that stand for a run state have its header and its selections
module _ (files : Bytes) (run : RunState) (stands : Stands files run) where
  abbrev state : IsRunState run
  state = stands.is_state

  begins_so : BeginsSo run.base run.host (files 0)
  begins_so = begins_front run.base run.host (files 0) run.selections stands.selections

  pub standing_header : HasHeader (files 0)
  standing_header = header_told run.base run.host (files 0) begins_so state.begun

  pub standing_base : base_at (files 0) ≡ run.base
  standing_base = base_told run.base run.host (files 0) begins_so state.begun

  pub standing_host : host_at (files 0) ≡ run.host
  standing_host = host_told run.base run.host (files 0) begins_so state.begun

  pub standing_selected : HasSelected (files 0) run.selections
  standing_selected = record {
    header = standing_header;
    selections = subst (λ (l : List ℕ). HasSelections l run.selections (files 0))
        (sym (ap (λ (n : ℕ). take n (files 0)) (selections_told run.base run.host (files 0) begins_so state.begun) ∙ begins_so.begins)) stands.selections;
    few = state.has_saved.few;
  }

-- so many selections stand behind a header alone
pub one_count : (file : List ℕ) (count other : ℕ) → HasSelected file count → HasSelected file other → count ≡ other
one_count file count other a b = same_number (take (selections_at file) file) count other file a.selections b.selections
