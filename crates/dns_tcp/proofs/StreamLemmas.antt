-- What is told of a client, and its place among those that are held.
use Rattle.std.proofs.Common.{◌≡◌, ◌⊎◌, inl, inr, ℕ, zero, suc, ◌<◌, ◌≤◌, true, false, List, [], ◌∷◌, ◌++◌, length, get_or, refl, sym, ap, subst, ◌∙◌, arith, eq-eqb, length-append}
use Rattle.std.specs.Prelude.{Option, Some, None, unwrap_or, cond, nat_lt, position, ◌||◌, is_some, IsTrue}
use Rattle.std.specs.List.{position_or_len, remove}
use Rattle.std.proofs.Math.Dec.{eqb, ltb}
use Rattle.std.proofs.Math.ListN.{set}
use Rattle.std.proofs.lemmas.Bool.{eqb-true, ne_eqb, ltb-true}
use Rattle.std.proofs.lemmas.Bool.Decides.{eqb_tells, leb_tells}
use Rattle.std.proofs.lemmas.List.Sums.{fails_before_first}
use Rattle.std.proofs.lemmas.List.Quantifiers.{position-Some}
use Rattle.dns_tcp.specs.Buffer.{Bytes}
use Rattle.dns_tcp.specs.Streams.{Stream, first_client, left_of, with_left, without, is_held, MayHold, AreDistinct, AreStreams}
use Rattle.dns_tcp.specs.Held.{stream_of, streams_of, is_of}
use Rattle.dns_tcp.specs.declared.streams.Held.{Held}
use Rattle.dns_tcp.specs.declared.streams.TheConstants.{CLIENTS}

-- ---- the place of a client

-- the client stands at the place, and at none before
pub data StandsAt (client : ℕ) : List Held → ℕ → Held → Type 0 where
  here : (one : Held) (held : List Held) → eqb one.client client ≡ true → StandsAt client (one ∷ held) 0 one
  behind : (other : Held) (held : List Held) (at : ℕ) (one : Held) → eqb other.client client ≡ false → StandsAt client held at one → StandsAt client (other ∷ held) (suc at) one

first_stands : (client : ℕ) (held : List Held) (at : ℕ) (d : Held) → at < length held → is_of client (get_or held at d) ≡ true → ((k : ℕ) → k < at → is_of client (get_or held k d) ≡ false)
    → StandsAt client held at (get_or held at d)
first_stands client [] at d within there before = absurd (omega arith)
first_stands client (one ∷ held) zero d within there before = here one held there
first_stands client (one ∷ held) (suc at) d within there before =
    behind one held at (get_or held at d) (before 0 (omega arith)) (first_stands client held at d (omega arith) there (λ k h. before (suc k) (omega arith)))

pub stands : (client : ℕ) (held slice : List Held) (at : ℕ) (one : Held) → slice ≡ held → Some at ≡ position (is_of client) slice → one ≡ get_or held at one → StandsAt client held at one
stands client held slice at one same found there =
    let p = position-Some (is_of client) held at one (ap (position (is_of client)) (sym same) ∙ sym found) in
    subst (λ (it : Held). StandsAt client held at it) (sym there) (first_stands client held at one p.0 p.1 p.2)

pub within : (client : ℕ) (held : List Held) (at : ℕ) (one : Held) → StandsAt client held at one → at < length held
within client _ _ _ (here one held h) = omega arith
within client _ _ _ (behind other held at one h s) = omega (arith, within client held at one s)

pub left-at : (client : ℕ) (held : List Held) (at : ℕ) (one : Held) → StandsAt client held at one → left_of client (streams_of held) ≡ Some one.buffer.left
left-at client _ _ _ (here one held h) = rw h refl
left-at client _ _ _ (behind other held at one h s) = rw h (left-at client held at one s)

pub with_left-at : (client : ℕ) (held : List Held) (at : ℕ) (one : Held) (bytes : Bytes) → StandsAt client held at one
    → with_left client bytes.left (streams_of held) ≡ streams_of (set held at (record { client = one.client; buffer = bytes }))
with_left-at client _ _ _ bytes (here one held h) =
    rw h (ap (λ (c : ℕ). record { client = c; left = bytes.left } ∷ streams_of held) (sym (eqb-true one.client client h)))
with_left-at client _ _ _ bytes (behind other held at one h s) = rw h (ap (λ (q : List Stream). stream_of other ∷ q) (with_left-at client held at one bytes s))

pub without-at : (client : ℕ) (held : List Held) (at : ℕ) (one : Held) → StandsAt client held at one → without client (streams_of held) ≡ streams_of (remove held at)
without-at client _ _ _ (here one held h) = rw h refl
without-at client _ _ _ (behind other held at one h s) = rw h (ap (λ (q : List Stream). stream_of other ∷ q) (without-at client held at one s))

-- ---- a client that isn't held

nobody : Held
nobody = record { client = 0; buffer = record { given = []; left = [] } }

none_stands : (client : ℕ) (held : List Held) → ((k : ℕ) → k < length held → is_of client (get_or held k nobody) ≡ false) → left_of client (streams_of held) ≡ None
none_stands client [] nowhere = refl
none_stands client (other ∷ held) nowhere =
    let h : eqb other.client client ≡ false = nowhere 0 (omega arith) in
    rw h (none_stands client held (λ k w. nowhere (suc k) (omega arith)))

not_before : (client : ℕ) (held : List Held) → ((ltb (position_or_len (is_of client) held) (length held) ≡ true) × (suc (position_or_len (is_of client) held) ≤ length held))
    ⊎ ((ltb (position_or_len (is_of client) held) (length held) ≡ false) × (length held < suc (position_or_len (is_of client) held)))
    → position (is_of client) held ≡ None → (k : ℕ) → k < length held → is_of client (get_or held k nobody) ≡ false
not_before client held (inl h) e k w =
    let found : Some (position_or_len (is_of client) held) ≡ None = rw h.0 at e in
    cc
not_before client held (inr h) e k w = fails_before_first (is_of client) held k nobody (omega (arith, h.1))

pub not_held : (client : ℕ) (held slice : List Held) → slice ≡ held → None ≡ position (is_of client) slice → left_of client (streams_of held) ≡ None
not_held client held slice same none =
    let e : position (is_of client) held ≡ None = ap (position (is_of client)) (sym same) ∙ sym none in
    none_stands client held (not_before client held (leb_tells (suc (position_or_len (is_of client) held)) (length held)) e)

-- ---- a client comes to be held, or goes

-- whether this is the client
abbrev Tells : ℕ → ℕ → Type 0
Tells a b = ((eqb a b ≡ true) × (a ≡ b)) ⊎ ((eqb a b ≡ false) × (a ≡ b → ⊥))

module _ (client : ℕ) where
  new_behind : (left : List ℕ) (stream : Stream) (streams : List Stream)
      → (left_of client streams ≡ None → with_left client left streams ≡ streams ++ (record { client = client; left = left } ∷ []))
      → Tells stream.client client → left_of client (stream ∷ streams) ≡ None → with_left client left (stream ∷ streams) ≡ (stream ∷ streams) ++ (record { client = client; left = left } ∷ [])
  new_behind left stream streams on (inl h) none = let found : Some stream.left ≡ None = rw h.0 at none in cc
  new_behind left stream streams on (inr h) none = rw h.0 (ap (λ (q : List Stream). stream ∷ q) (on (rw h.0 at none)))

  pub with_left-new : (left : List ℕ) (streams : List Stream) → left_of client streams ≡ None → with_left client left streams ≡ streams ++ (record { client = client; left = left } ∷ [])
  with_left-new left [] none = refl
  with_left-new left (stream ∷ streams) none = new_behind left stream streams (with_left-new left streams) (eqb_tells stream.client client) none

  gone_behind : (stream : Stream) (streams : List Stream) → (left_of client streams ≡ None → without client streams ≡ streams) → Tells stream.client client
      → left_of client (stream ∷ streams) ≡ None → without client (stream ∷ streams) ≡ stream ∷ streams
  gone_behind stream streams on (inl h) none = let found : Some stream.left ≡ None = rw h.0 at none in cc
  gone_behind stream streams on (inr h) none = rw h.0 (ap (λ (q : List Stream). stream ∷ q) (on (rw h.0 at none)))

  pub without-none : (streams : List Stream) → left_of client streams ≡ None → without client streams ≡ streams
  without-none [] none = refl
  without-none (stream ∷ streams) none = gone_behind stream streams (without-none streams) (eqb_tells stream.client client) none

  -- ---- what is left of the client then

  told_behind : (left : List ℕ) (stream : Stream) (streams : List Stream) → left_of client (with_left client left streams) ≡ Some left → Tells stream.client client
      → left_of client (with_left client left (stream ∷ streams)) ≡ Some left
  told_behind left stream streams on (inl h) = rw (h.0, eq-eqb client client refl) refl
  told_behind left stream streams on (inr h) = rw (h.0, h.0) on

  pub left_of-with_left : (left : List ℕ) (streams : List Stream) → left_of client (with_left client left streams) ≡ Some left
  left_of-with_left left [] = rw (eq-eqb client client refl) refl
  left_of-with_left left (stream ∷ streams) = told_behind left stream streams (left_of-with_left left streams) (eqb_tells stream.client client)

  none_behind : (stream : Stream) (streams : List Stream) → (AreDistinct streams → left_of client (without client streams) ≡ None) → Tells stream.client client
      → AreDistinct (stream ∷ streams) → left_of client (without client (stream ∷ streams)) ≡ None
  none_behind stream streams on (inl h) distinct = rw h.0 (subst (λ (c : ℕ). left_of c streams ≡ None) h.1 distinct.0)
  none_behind stream streams on (inr h) distinct = rw (h.0, h.0) (on distinct.1)

  pub left_of-without : (streams : List Stream) → AreDistinct streams → left_of client (without client streams) ≡ None
  left_of-without [] distinct = refl
  left_of-without (stream ∷ streams) distinct = none_behind stream streams (left_of-without streams) (eqb_tells stream.client client) distinct

  -- ---- what is left of another

  module _ (other : ℕ) (differ : client ≡ other → ⊥) where
    isn't : eqb client other ≡ false
    isn't = ne_eqb client other differ

    kept_behind : (left : List ℕ) (stream : Stream) (streams : List Stream) → left_of other (with_left client left streams) ≡ left_of other streams → Tells stream.client client
        → left_of other (with_left client left (stream ∷ streams)) ≡ left_of other (stream ∷ streams)
    kept_behind left stream streams on (inl h) =
        let apart : eqb stream.client other ≡ false = subst (λ (c : ℕ). eqb c other ≡ false) (sym h.1) isn't in
        rw (h.0, isn't, apart) refl
    kept_behind left stream streams on (inr h) = rw h.0 (ap (λ (q : Option (List ℕ)). cond (eqb stream.client other) (Some stream.left) q) on)

    pub left_of-with_other : (left : List ℕ) (streams : List Stream) → left_of other (with_left client left streams) ≡ left_of other streams
    left_of-with_other left [] = rw isn't refl
    left_of-with_other left (stream ∷ streams) = kept_behind left stream streams (left_of-with_other left streams) (eqb_tells stream.client client)

    spared_behind : (stream : Stream) (streams : List Stream) → left_of other (without client streams) ≡ left_of other streams → Tells stream.client client
        → left_of other (without client (stream ∷ streams)) ≡ left_of other (stream ∷ streams)
    spared_behind stream streams on (inl h) =
        let apart : eqb stream.client other ≡ false = subst (λ (c : ℕ). eqb c other ≡ false) (sym h.1) isn't in
        rw (h.0, apart) refl
    spared_behind stream streams on (inr h) = rw h.0 (ap (λ (q : Option (List ℕ)). cond (eqb stream.client other) (Some stream.left) q) on)

    pub left_of-without_other : (streams : List Stream) → left_of other (without client streams) ≡ left_of other streams
    left_of-without_other [] = refl
    left_of-without_other (stream ∷ streams) = spared_behind stream streams (left_of-without_other streams) (eqb_tells stream.client client)

  -- ---- no client is held twice

  distinct_behind : (left : List ℕ) (stream : Stream) (streams : List Stream) → AreDistinct (with_left client left streams) → Tells stream.client client → AreDistinct (stream ∷ streams)
      → AreDistinct (with_left client left (stream ∷ streams))
  distinct_behind left stream streams on (inl h) distinct = rw h.0 (subst (λ (c : ℕ). left_of c streams ≡ None) h.1 distinct.0, distinct.1)
  distinct_behind left stream streams on (inr h) distinct = rw h.0 (left_of-with_other stream.client (λ e. h.1 (sym e)) left streams ∙ distinct.0, on)

  pub distinct-with_left : (left : List ℕ) (streams : List Stream) → AreDistinct streams → AreDistinct (with_left client left streams)
  distinct-with_left left [] distinct = (refl, tt)
  distinct-with_left left (stream ∷ streams) distinct =
      distinct_behind left stream streams (distinct-with_left left streams distinct.1) (eqb_tells stream.client client) distinct

  parted_behind : (stream : Stream) (streams : List Stream) → AreDistinct (without client streams) → Tells stream.client client → AreDistinct (stream ∷ streams) → AreDistinct (without client (stream ∷ streams))
  parted_behind stream streams on (inl h) distinct = rw h.0 distinct.1
  parted_behind stream streams on (inr h) distinct = rw h.0 (left_of-without_other stream.client (λ e. h.1 (sym e)) streams ∙ distinct.0, on)

  pub distinct-without : (streams : List Stream) → AreDistinct streams → AreDistinct (without client streams)
  distinct-without [] distinct = tt
  distinct-without (stream ∷ streams) distinct = parted_behind stream streams (distinct-without streams distinct.1) (eqb_tells stream.client client) distinct

  -- ---- how many are held

  longer_behind : (left : List ℕ) (stream : Stream) (streams : List Stream) → (IsTrue (is_held client streams) → length (with_left client left streams) ≡ length streams) → Tells stream.client client
      → IsTrue (is_held client (stream ∷ streams)) → length (with_left client left (stream ∷ streams)) ≡ length (stream ∷ streams)
  longer_behind left stream streams on (inl h) held = rw h.0 refl
  longer_behind left stream streams on (inr h) held = rw h.0 (ap suc (on (rw h.0 at held)))

  length-with_left : (left : List ℕ) (streams : List Stream) → IsTrue (is_held client streams) → length (with_left client left streams) ≡ length streams
  length-with_left left [] held = let none : false ≡ true = held in absurd (cc)
  length-with_left left (stream ∷ streams) held = longer_behind left stream streams (length-with_left left streams) (eqb_tells stream.client client) held

  with_room : (left : List ℕ) (streams : List Stream) (found : Option (List ℕ)) → left_of client streams ≡ found → IsTrue (is_some found || nat_lt (length streams) CLIENTS) → length streams ≤ CLIENTS
      → length (with_left client left streams) ≤ CLIENTS
  with_room left streams (Some old) e may most = omega (arith, most, length-with_left left streams (rw e refl))
  with_room left streams None e may most =
      omega (arith, ltb-true (length streams) CLIENTS may, ap length (with_left-new left streams e), length-append streams (record { client = client; left = left } ∷ []))

  fewer_behind : (stream : Stream) (streams : List Stream) → length (without client streams) ≤ length streams → Tells stream.client client → length (without client (stream ∷ streams)) ≤ length (stream ∷ streams)
  fewer_behind stream streams on (inl h) = rw h.0 (omega arith)
  fewer_behind stream streams on (inr h) = rw h.0 (omega (arith, on))

  length-without : (streams : List Stream) → length (without client streams) ≤ length streams
  length-without [] = omega arith
  length-without (stream ∷ streams) = fewer_behind stream streams (length-without streams) (eqb_tells stream.client client)

  pub are_streams-with_left : (left : List ℕ) (streams : List Stream) → AreStreams streams → MayHold client streams → AreStreams (with_left client left streams)
  are_streams-with_left left streams are may =
      record { distinct = distinct-with_left left streams are.distinct; at_most = with_room left streams (left_of client streams) refl may are.at_most }

  pub are_streams-without : (streams : List Stream) → AreStreams streams → AreStreams (without client streams)
  are_streams-without streams are =
      record { distinct = distinct-without streams are.distinct; at_most = omega (arith, are.at_most, length-without streams) }

-- ---- the client that came first

-- without it fewer are held
pub fewer_without : (client : ℕ) (streams : List Stream) → first_client streams ≡ Some client → length (without client streams) < length streams
fewer_without client [] first = cc
fewer_without client (stream ∷ streams) first =
    let same : stream.client ≡ client = ap (λ (it : Option ℕ). unwrap_or it 0) first in
    rw (eq-eqb stream.client client same) (omega arith)

-- where there is none nobody is held
pub no_first : (streams : List Stream) → first_client streams ≡ None → streams ≡ []
no_first [] none = refl
no_first (stream ∷ streams) none = cc
