-- Connections and their numbers, where one is changed, removed or added.
use Rattle.std.proofs.Common.{◌≡◌, ◌≢◌, ◌⊎◌, inl, inr, ℕ, ◌+◌, ◌<◌, ◌≤◌, List, [], ◌∷◌, ◌++◌, length, get_or, take, drop, set, Some, refl, sym, ap, subst, ◌∙◌, suc, arith}
use Rattle.std.specs.List.{Contains, remove, slice_get}
use Rattle.std.proofs.lemmas.Bool.{cases_eq, cases_lt, cases_order}
use Rattle.std.proofs.lemmas.List.{get_or_default, get_or-map, length-append, length-map, map-append, take-map, drop-map}
use Rattle.std.proofs.lemmas.Option.{slice_get_within, slice_get-get_or, get_or_from_slice_get}
use Rattle.std.proofs.lemmas.List.{get_or-set_same, get_or-set_other, length-set}
use Rattle.std.proofs.Math.Seq.{map-set_same}
use Rattle.std.proofs.lemmas.List.Edits.{length-remove, get_or-remove_below, get_or-remove_above}
use Rattle.std.proofs.lemmas.List.Elements.{All-push}
use Rattle.std.proofs.lemmas.List.Quantifiers.{all_pairs_remove, all_pairs_push}
use Rattle.byte_io.specs.declared.port.Polled.{Polled}
use Rattle.byte_io.specs.declared.port.Polled.TheVariants as polls
use Rattle.system_io.specs.declared.stream.Stream.{Stream}
use Rattle.system_io.specs.Net.{NetTold, Hears, handed}
use Rattle.system_io.specs.Waits.{MakesWay}
use Rattle.system_io.proofs.NetLemmas.{Hears_nothing}
use Rattle.system_io.specs.Replies.{IsKept}
use Rattle.system_io.specs.Streams.{AreUpTo, AreApart, GivesAnew, GivesReply, HasReply, HasNone, IsOf, KeepsOthers, LetsGo, clients_of}

-- where an element of the shorter list stood
pub origin : {X : Type 0} (xs : List X) (i k : ℕ) → i < length xs → k < length (remove xs i)
    → (j : ℕ) × (j < length xs) × (j ≢ i) × ((d : X) → get_or (remove xs i) k d ≡ get_or xs j d)
origin xs i k low within = elim (cases_lt k i) [
  | inl below ↦ (k, omega arith, (λ same. omega arith), (λ d. get_or-remove_below xs i d k below low))
  | inr above ↦ (k + 1, omega (arith, length-remove xs i low), (λ same. omega arith), (λ d. get_or-remove_above xs i d k above low))
]

pub AreUpTo-remove : (clients : List ℕ) (i last : ℕ) → i < length clients → AreUpTo clients last → AreUpTo (remove clients i) last
AreUpTo-remove clients i last low up k d within =
    let from = origin clients i k low within in
    subst (λ (n : ℕ). n ≤ last) (sym (from.3 d)) (up from.0 d from.1)

pub AreApart-remove : (clients : List ℕ) (i : ℕ) → i < length clients → AreApart clients → AreApart (remove clients i)
AreApart-remove clients i low apart = all_pairs_remove (λ a b. a ≢ b) clients i low apart

-- each number is there once more
pub GivesAnew-kept : (last : ℕ) (clients : List ℕ) → GivesAnew last last clients clients
GivesAnew-kept last clients = record {
  later = omega arith;
  each = λ k d within. inl (k, within, get_or_default clients k _ d within);
}

pub GivesAnew-same : (old_last new_last : ℕ) (old new : List ℕ) → new_last ≡ old_last → new ≡ old → GivesAnew old_last new_last old new
GivesAnew-same old_last new_last old new last_is is = rw (last_is, is) (GivesAnew-kept old_last old)

pub GivesAnew-remove : (last : ℕ) (clients : List ℕ) (i : ℕ) → i < length clients → GivesAnew last last clients (remove clients i)
GivesAnew-remove last clients i low = record {
  later = omega arith;
  each = λ k d within.
      let from = origin clients i k low within in
      inl (from.0, from.1, get_or_default clients from.0 _ d from.1 ∙ sym (from.3 d));
}

-- a number above the last one joins them
pub AreUpTo-push : (clients : List ℕ) (last next : ℕ) → last ≤ next → AreUpTo clients last → AreUpTo (clients ++ next ∷ []) next
AreUpTo-push clients last next above up = All-push (λ n. n ≤ next) clients next (λ k d within. let low = up k d within in omega arith) (omega arith)

pub AreApart-push : (clients : List ℕ) (last next : ℕ) → last < next → AreUpTo clients last → AreApart clients → AreApart (clients ++ next ∷ [])
AreApart-push clients last next above up apart = all_pairs_push (λ a b. a ≢ b) clients next apart (λ k d within same. let low = up k d within in omega arith)

pub GivesAnew-push : (last next : ℕ) (clients : List ℕ) → last < next → GivesAnew last next clients (clients ++ next ∷ [])
GivesAnew-push last next clients above = record {
  later = omega arith;
  each = All-push (λ client. Contains clients client ⊎ (last < client)) clients next
      (λ k d within. inl (k, within, get_or_default clients k _ d within)) (inr above);
}

-- ---- of the connections

pub clients-remove : (streams : List Stream) (i : ℕ) → clients_of (remove streams i) ≡ remove (clients_of streams) i
clients-remove streams i =
    let f : Stream → ℕ = λ stream. stream.client in
    map-append f (take i streams) (drop (suc i) streams) ∙ rw (take-map f i streams, drop-map f (suc i) streams) refl

pub clients-push : (streams : List Stream) (stream : Stream) → clients_of (streams ++ stream ∷ []) ≡ clients_of streams ++ stream.client ∷ []
clients-push streams stream = map-append (λ (s : Stream). s.client) streams (stream ∷ [])

-- one more joins those that are fewer than this
pub few-push : (streams : List Stream) (stream : Stream) (new : List Stream) (most : ℕ) → new ≡ streams ++ stream ∷ [] → length streams < most → length (clients_of new) ≤ most
few-push streams stream new most is fewer =
    let f : Stream → ℕ = λ s. s.client in
    let size : length new ≡ length (streams ++ stream ∷ []) = ap length is in
    omega (arith, length-map new f, size, length-append streams (stream ∷ []))

-- the number of the connection in a place
pub client_at : (streams : List Stream) (i : ℕ) (d : Stream) (e : ℕ) → i < length streams → get_or (clients_of streams) i e ≡ (get_or streams i d).client
client_at streams i d e low = get_or-map (λ (s : Stream). s.client) streams i d e low

-- where one was removed none is left of its client
pub HasNone-remove : (streams : List Stream) (i client : ℕ) → i < length streams → AreApart (clients_of streams)
    → ((d : Stream) → (get_or streams i d).client ≡ client) → HasNone (remove streams i) client
HasNone-remove streams i client low apart its k d within same =
    let from = origin streams i k low within in
    let there : get_or (clients_of streams) from.0 0 ≡ client = client_at streams from.0 d 0 from.1 ∙ ap (λ (s : Stream). s.client) (sym (from.3 d)) ∙ same in
    let here : get_or (clients_of streams) i 0 ≡ client = client_at streams i d 0 low ∙ its d in
    let size : length (clients_of streams) ≡ length streams = length-map streams (λ (s : Stream). s.client) in
    elim (cases_order from.0 i) [
      | inl equal ↦ absurd (from.2 equal)
      | inr (inl before) ↦ absurd (apart from.0 i 0 before (omega arith) (there ∙ sym here))
      | inr (inr behind) ↦ absurd (apart i from.0 0 behind (omega (arith, from.1)) (here ∙ sym there))
    ]

-- ---- one was removed

pub up_to-removed : (streams new : List Stream) (i last : ℕ) → i < length streams → new ≡ remove streams i → AreUpTo (clients_of streams) last → AreUpTo (clients_of new) last
up_to-removed streams new i last low is up =
    let f : Stream → ℕ = λ stream. stream.client in
    let inside : i < length (clients_of streams) = omega (arith, length-map streams f) in
    subst (λ (ns : List ℕ). AreUpTo ns last) (sym (ap (λ (ss : List Stream). clients_of ss) is ∙ clients-remove streams i)) (AreUpTo-remove (clients_of streams) i last inside up)

pub apart-removed : (streams new : List Stream) (i : ℕ) → i < length streams → new ≡ remove streams i → AreApart (clients_of streams) → AreApart (clients_of new)
apart-removed streams new i low is apart =
    let f : Stream → ℕ = λ stream. stream.client in
    let inside : i < length (clients_of streams) = omega (arith, length-map streams f) in
    subst AreApart (sym (ap (λ (ss : List Stream). clients_of ss) is ∙ clients-remove streams i)) (AreApart-remove (clients_of streams) i inside apart)

pub anew-removed : (streams new : List Stream) (i last : ℕ) → i < length streams → new ≡ remove streams i → GivesAnew last last (clients_of streams) (clients_of new)
anew-removed streams new i last low is =
    let f : Stream → ℕ = λ stream. stream.client in
    let inside : i < length (clients_of streams) = omega (arith, length-map streams f) in
    subst (GivesAnew last last (clients_of streams)) (sym (ap (λ (ss : List Stream). clients_of ss) is ∙ clients-remove streams i)) (GivesAnew-remove last (clients_of streams) i inside)

pub gone-removed : (streams new : List Stream) (i : ℕ) → i < length streams → new ≡ remove streams i → AreApart (clients_of streams)
    → (stream : Stream) → slice_get streams i ≡ Some stream → HasNone new stream.client
gone-removed streams new i low is apart stream there =
    subst (λ (ss : List Stream). HasNone ss stream.client) (sym is) (HasNone-remove streams i stream.client low apart (λ d. ap (λ (s : Stream). s.client) (get_or_from_slice_get streams i stream d there)))

-- the client whose place it was
pub gone-of : (streams new : List Stream) (at client : ℕ) → at < length streams → IsOf streams client at
    → ((stream : Stream) → slice_get streams at ≡ Some stream → HasNone new stream.client) → HasNone new client
gone-of streams new at client low its gone k d within =
    let there : slice_get streams at ≡ Some (get_or streams at d) = slice_get-get_or streams at d low in
    subst (HasNone new) (its _ there) (gone _ there) k d within

pub few-removed : (streams new : List Stream) (i most : ℕ) → i < length streams → new ≡ remove streams i → length (clients_of streams) ≤ most → length (clients_of new) ≤ most
few-removed streams new i most low is few =
    let f : Stream → ℕ = λ stream. stream.client in
    let inside : i < length (clients_of streams) = omega (arith, length-map streams f) in
    let size : length (clients_of new) ≡ length (remove (clients_of streams) i) = ap length (ap (λ (ss : List Stream). clients_of ss) is ∙ clients-remove streams i) in
    omega (arith, size, few, length-remove (clients_of streams) i inside)

-- ---- one was changed, and kept its number

pub clients-set : (streams : List Stream) (i : ℕ) (x y : Stream) → x ≡ get_or streams i x → y.client ≡ x.client → clients_of (set streams i y) ≡ clients_of streams
clients-set streams i x y is same = map-set_same (λ (s : Stream). s.client) streams i y x (same ∙ ap (λ (s : Stream). s.client) is)

pub up_to-same : (old new : List ℕ) (last : ℕ) → new ≡ old → AreUpTo old last → AreUpTo new last
up_to-same old new last is up = subst (λ (ns : List ℕ). AreUpTo ns last) (sym is) up

pub apart-same : (old new : List ℕ) → new ≡ old → AreApart old → AreApart new
apart-same old new is apart = subst AreApart (sym is) apart

pub few-same : (old new : List ℕ) (most : ℕ) → new ≡ old → length old ≤ most → length new ≤ most
few-same old new most is few = subst (λ (ns : List ℕ). length ns ≤ most) (sym is) few

pub set_there : {X : Type 0} (xs : List X) (i : ℕ) (y : X) → i < length xs → slice_get (set xs i y) i ≡ Some y
set_there xs i y low = slice_get-get_or (set xs i y) i y (rw length-set low) ∙ ap Some (get_or-set_same xs i y y low)

set_elsewhere : {X : Type 0} (xs : List X) (i k : ℕ) (x y : X) → k ≢ i → slice_get xs k ≡ Some x → slice_get (set xs i y) k ≡ Some x
set_elsewhere xs i k x y other there =
    let inside : k < length xs = slice_get_within xs k x there in
    slice_get-get_or (set xs i y) k x (rw length-set inside) ∙ ap Some (get_or-set_other xs i k y x other ∙ get_or_from_slice_get xs k x x there)

pub others-set : (streams : List Stream) (at client : ℕ) (y : Stream) → IsOf streams client at → KeepsOthers streams (set streams at y) client
others-set streams at client y its k stream there differ = elim (cases_eq k at) [
  | inl same ↦ absurd (differ (its stream (subst (λ (n : ℕ). slice_get streams n ≡ Some stream) same there)))
  | inr other ↦ set_elsewhere streams at k stream y other there
]

-- two places of one client are one
one_place : (streams : List Stream) (i j : ℕ) (a b : Stream) → AreApart (clients_of streams) → slice_get streams i ≡ Some a → slice_get streams j ≡ Some b → a.client ≡ b.client → i ≡ j
one_place streams i j a b apart at_i at_j same =
    let f : Stream → ℕ = λ stream. stream.client in
    let low_i : i < length streams = slice_get_within streams i a at_i in
    let low_j : j < length streams = slice_get_within streams j b at_j in
    let size : length (clients_of streams) ≡ length streams = length-map streams f in
    let there_i : get_or (clients_of streams) i 0 ≡ a.client = client_at streams i a 0 low_i ∙ ap f (get_or_from_slice_get streams i a a at_i) in
    let there_j : get_or (clients_of streams) j 0 ≡ b.client = client_at streams j b 0 low_j ∙ ap f (get_or_from_slice_get streams j b b at_j) in
    elim (cases_order i j) [
      | inl equal ↦ equal
      | inr (inl before) ↦ absurd (apart i j 0 before (omega arith) (there_i ∙ same ∙ sym there_j))
      | inr (inr behind) ↦ absurd (apart j i 0 behind (omega arith) (there_j ∙ sym same ∙ sym there_i))
    ]

pub reply-set : (streams : List Stream) (at client : ℕ) (x y : Stream) (held holds : NetTold) (bytes : List ℕ) → AreApart (clients_of streams) → IsOf streams client at
    → at < length streams → x ≡ get_or streams at x → y.client ≡ x.client → IsKept held holds x.link.peer x.unsent y.unsent y.state bytes → GivesReply held holds streams (set streams at y) client bytes
reply-set streams at client x y held holds bytes apart its low x_is same kept k stream there is =
    let here : slice_get streams at ≡ Some x = slice_get-get_or streams at x low ∙ ap Some (sym x_is) in
    let place : k ≡ at = one_place streams k at stream x apart there here (is ∙ sym (its x here)) in
    let one : stream ≡ x = sym (get_or_from_slice_get streams at stream stream (subst (λ (n : ℕ). slice_get streams n ≡ Some stream) place there)) ∙ get_or_from_slice_get streams at x stream here in
    (y, subst (λ (n : ℕ). slice_get (set streams at y) n ≡ Some y) (sym place) (set_there streams at y low), subst (λ (s : Stream). HasReply held holds s y bytes) (sym one) (same, kept))

pub reply-none : (held holds : NetTold) (streams new : List Stream) (client : ℕ) (bytes : List ℕ) → HasNone streams client → GivesReply held holds streams new client bytes
reply-none held holds streams new client bytes none k stream there is =
    absurd (none k stream (slice_get_within streams k stream there) (ap (λ s. s.client) (get_or_from_slice_get streams k stream stream there) ∙ is))

-- ---- a poll

-- what brings no end says nothing of who is left
pub no_end : (streams : List Stream) (polled : Polled) → ((client : ℕ) → polled ≡ polls.StreamEnd client → ⊥) → LetsGo streams polled
no_end streams (polls.Query client n) other = tt
no_end streams (polls.Stream client n) other = tt
no_end streams (polls.StreamEnd client) other = absurd (other client refl)
no_end streams (polls.Feed n) other = tt
no_end streams polls.FeedEnd other = tt
no_end streams polls.Nothing other = tt
no_end streams polls.Failed other = tt

-- who makes way brings nothing
pub Hears_way : (told : NetTold) (old new : List Stream) (polled : Polled) (buffer : List ℕ) → MakesWay old new polled → Hears told told (handed polled buffer)
Hears_way told old new (polls.Query client n) buffer way = subst (λ (p : Polled). Hears told told (handed p buffer)) (sym way.0) (Hears_nothing told)
Hears_way told old new (polls.Stream client n) buffer way = subst (λ (p : Polled). Hears told told (handed p buffer)) (sym way.0) (Hears_nothing told)
Hears_way told old new (polls.StreamEnd client) buffer way = Hears_nothing told
Hears_way told old new (polls.Feed n) buffer way = subst (λ (p : Polled). Hears told told (handed p buffer)) (sym way.0) (Hears_nothing told)
Hears_way told old new polls.FeedEnd buffer way = Hears_nothing told
Hears_way told old new polls.Nothing buffer way = Hears_nothing told
Hears_way told old new polls.Failed buffer way = Hears_nothing told
