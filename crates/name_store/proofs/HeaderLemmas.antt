-- What the first bytes of file 0 tell of its header, the file tells.
use Rattle.std.proofs.Common.{◌≡◌, inl, inr, ℕ, ◌+◌, ◌<◌, ◌≤◌, min, List, length, take, drop, get_or, Result, Ok, Err, refl, sym, ◌∙◌, ap, subst, arith, length-take}
use Rattle.std.specs.Prelude.{slice_index}
use Rattle.std.specs.Int.{w32, from_le_bytes, to_le_bytes}
use Rattle.std.proofs.lemmas.List.{take-take, drop-take, get_or-take, get_or-drop, get_or_past, take_min}
use Rattle.std.proofs.lemmas.Bool.{cases_lt}
use Rattle.disk_model.specs.Reads.{IsRead}
use Rattle.name_store.specs.declared.faults.OpenFault.{OpenFault}
use Rattle.name_store.specs.declared.faults.OpenFault.TheVariants.{Uninitialised, Damaged, DiskFault, NoMemory}
use Rattle.name_store.specs.declared.header.Header.{Header}
use Rattle.name_store.specs.Host.{IsHostText, IsHostOf}
use Rattle.name_store.specs.Header.{IsProfile, profile_of, magic_at, profile_at, height_at, hash_at, host_length_at, host_at, HasHost, HasFields, IsInitialised}
use Rattle.name_store.specs.Damage.{HasBadField, bad_magic, bad_profile, bad_height, bad_host}
use Rattle.name_store.specs.HeaderAnswers.{HeaderAnswer, IsHeaderOf}

-- no header with the gate behind it is longer
abbrev pub room : ℕ
room = 303

-- a piece of the front is that of the file
piece : (file : List ℕ) (a n m k : ℕ) → m ≡ a + k → n ≤ k → take n (drop a (take m file)) ≡ take n (drop a file)
piece file a n m k e short = ap (λ (q : ℕ). take n (drop a (take q file))) e ∙ ap (take n) (drop-take a k file) ∙ take-take n k (drop a file) short

pub front_byte : (file : List ℕ) → slice_index (take room file) 46 < 256 → slice_index file 46 < 256
front_byte file low = omega (arith, low, get_or-take room file 46 0 (omega arith))

-- what a read into so much room gave is the front
pub front_read : (file buf : List ℕ) (count : ℕ) → IsRead file 0 room count buf → take count buf ≡ take room file
front_read file buf count is =
    let all : count ≡ min room (length file) = omega (arith, is.count) in
    is.same ∙ ap (λ (n : ℕ). take n file) all ∙ take_min room file

module _ (file : List ℕ) (byte : slice_index file 46 < 256) where
  abbrev front : List ℕ
  front = take room file

  one_byte : (at : ℕ) → at < room → slice_index front at ≡ slice_index file at
  one_byte at low = get_or-take room file at 0 low

  size : length front ≡ min room (length file)
  size = length-take room file

  magic_same : magic_at front ≡ magic_at file
  magic_same = piece file 1 8 room 302 refl (omega arith)

  profile_same : profile_at front ≡ profile_at file
  profile_same = one_byte 9 (omega arith)

  height_same : height_at front ≡ height_at file
  height_same = ap (from_le_bytes w32) (piece file 10 4 room 293 refl (omega arith))

  hash_same : hash_at front ≡ hash_at file
  hash_same = piece file 14 32 room 289 refl (omega arith)

  host_length_same : host_length_at front ≡ host_length_at file
  host_length_same = one_byte 46 (omega arith)

  host_same : host_at front ≡ host_at file
  host_same = ap (λ (n : ℕ). take n (drop 47 front)) host_length_same ∙ piece file 47 (host_length_at file) room 256 refl (omega (arith, byte))

  initialised_down : IsInitialised file → IsInitialised front
  initialised_down is = record { long = omega (arith, size, is.long); is_open = one_byte 0 (omega arith) ∙ is.is_open }

  initialised_up : IsInitialised front → IsInitialised file
  initialised_up is = record { long = omega (arith, size, is.long); is_open = sym (one_byte 0 (omega arith)) ∙ is.is_open }

  host_down : HasHost file → HasHost front
  host_down has = record { inside = omega (arith, size, has.inside, host_length_same, byte); is_host = subst IsHostText (sym host_same) has.is_host }

  host_up : HasHost front → HasHost file
  host_up has = record { inside = omega (arith, size, has.inside, host_length_same); is_host = subst IsHostText host_same has.is_host }

  fields_up : HasFields front → HasFields file
  fields_up has = record {
    magic_is = sym magic_same ∙ has.magic_is;
    profile_is = subst IsProfile profile_same has.profile_is;
    low = omega (arith, height_same, has.low);
    host = host_up has.host;
  }

  header_up : (header : Header) → IsHeaderOf front header → IsHeaderOf file header
  header_up header is = record {
    base_is = is.base_is ∙ (λ i. record { profile = profile_of (profile_same i); height = height_same i; hash = record { 0 = hash_same i } });
    height_is = ap (to_le_bytes w32) (sym height_same) ∙ is.height_is ∙ piece file 10 4 room 293 refl (omega arith);
    host_is = subst (λ (text : List ℕ). IsHostOf text header.host) host_same is.host_is;
    selections_is = is.selections_is ∙ ap (λ (n : ℕ). 47 + n) host_length_same;
  }

  bad_field_up : (at : ℕ) → HasBadField front at → HasBadField file at
  bad_field_up at (bad_magic place bad) = bad_magic place (λ e. bad (magic_same ∙ e))
  bad_field_up at (bad_profile place m bad) = bad_profile place (sym magic_same ∙ m) (λ is. bad (subst IsProfile (sym profile_same) is))
  bad_field_up at (bad_height place m p bad) = bad_height place (sym magic_same ∙ m) (subst IsProfile profile_same p) (omega (arith, height_same, bad))
  bad_field_up at (bad_host place m p h bad) = bad_host place (sym magic_same ∙ m) (subst IsProfile profile_same p) (omega (arith, height_same, h)) (λ has. bad (host_down has))

  pub answer_up : (result : Result Header OpenFault) → HeaderAnswer front result → HeaderAnswer file result
  answer_up (Ok header) is = (record { initialised = initialised_up is.0.initialised; fields = fields_up is.0.fields }, header_up header is.1)
  answer_up (Err Uninitialised) is = λ has. is (initialised_down has)
  answer_up (Err (Damaged number at)) is = (is.0, initialised_up is.1, bad_field_up at is.2)
  answer_up (Err DiskFault) is = tt
  answer_up (Err NoMemory) is = tt

-- four bytes of bytes are bytes
pub piece_bytes : (bytes : List ℕ) → ((i : ℕ) → get_or bytes i 0 < 256) → (i : ℕ) → get_or (take 4 (drop 10 bytes)) i 0 < 256
piece_bytes bytes fit i = elim (cases_lt i 4) [
  | inl low ↦ subst (λ (n : ℕ). n < 256) (sym (get_or-take 4 (drop 10 bytes) i 0 low ∙ get_or-drop 10 bytes i 0)) (fit (10 + i))
  | inr high ↦ omega (arith, get_or_past (take 4 (drop 10 bytes)) i 0 (omega (arith, length-take 4 (drop 10 bytes))))
]
