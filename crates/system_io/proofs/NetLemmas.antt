-- What happens with a net, one call after the other.
use Rattle.std.proofs.Common.{◌≡◌, ℕ, zero, suc, ◌+◌, ◌<◌, ◌≤◌, Bool, true, false, List, [], ◌∷◌, ◌++◌, take, length, map, replicate, Some, None, Result, Ok, Err, IfOk, refl, sym, ap, subst, ◌∙◌, arith, append_assoc, append-nil}
use Rattle.std.specs.List.{concat, flat_map}
use Rattle.std.proofs.lemmas.List.{map-append, replicate-append-replicate, take_all}
use Rattle.std.proofs.lemmas.List.Folds.{concat-append}
use Rattle.std.proofs.lemmas.Grind.{flat_map-append}
use Rattle.std.proofs.Math.Nat.{min-eq_left}
use Rattle.byte_io.specs.Port.{Got, datagram}
use Rattle.byte_io.specs.declared.port.Polled.{Polled}
use Rattle.byte_io.specs.declared.port.Polled.TheVariants as polls
use Rattle.system_io.specs.declared.link.Peer.{Peer}
use Rattle.system_io.specs.declared.link.Peer.TheVariants as peers
use Rattle.system_io.specs.Arrival.{IsOfFeed, IsOfRead, IsOnlyOf, IsWithin}
use Rattle.std.specs.declared.net.socket_addr.SocketAddrV4.{SocketAddrV4}
use Rattle.system_io.specs.Client.{address_bytes}
use Rattle.system_io.specs.Loopback.{AsksFirst}
use Rattle.system_io.specs.Notes.{ComesIn}
use Rattle.system_io.specs.Net.{Event, asked, came, gave, sent, NetTold, Adds, ComesFrom, receptions, Reads, Tries, GivesWhole, is_sent, last_try, SendsOn, Moves, client_at, got_of_peer, heard_by, notes_of_event, Hears, fetched, Fetches, handed, handed_as}

pub Adds_nothing : (told : NetTold) → Adds told told []
Adds_nothing None = tt
Adds_nothing (Some events) = sym (append-nil events)

pub Adds_append : (a b c : NetTold) (xs ys : List Event) → Adds a b xs → Adds b c ys → Adds a c (xs ++ ys)
Adds_append a b None xs ys p q = tt
Adds_append a None (Some c) xs ys p q = absurd q
Adds_append None (Some b) (Some c) xs ys p q = absurd p
Adds_append (Some a) (Some b) (Some c) xs ys p q = rw (q, p, append_assoc) refl

-- two calls that added nothing
pub Adds_none : (a b c : NetTold) → Adds a b [] → Adds b c [] → Adds a c []
Adds_none a b c p q = Adds_append a b c [] [] p q

-- ---- datagrams

-- a datagram that wasn't given yet
pub Tries_start : (told : NetTold) (address bytes : List ℕ) → Tries told told address bytes
Tries_start told address bytes = record { times = 0; added = Adds_nothing told }

-- given once more, and it didn't go whole
Tries_more : (old mid new : NetTold) (address bytes : List ℕ) → Tries old mid address bytes → Adds mid new (gave address bytes false ∷ []) → Tries old new address bytes
Tries_more old mid new address bytes so more = record {
  times = so.times + 1;
  added = subst (λ (xs : List Event). Adds old new xs) (replicate-append-replicate so.times 1 (gave address bytes false))
      (Adds_append old mid new (replicate so.times (gave address bytes false)) (gave address bytes false ∷ []) so.added more);
}

-- a send that came to this
came_to : {E : Type 0} (mid new : NetTold) (address bytes : List ℕ) (result other : Result Bool E) → Adds mid new (gave address bytes (is_sent result) ∷ []) → result ≡ other
    → Adds mid new (gave address bytes (is_sent other) ∷ [])
came_to {E} mid new address bytes result other more is = subst (λ (r : Result Bool E). Adds mid new (gave address bytes (is_sent r) ∷ [])) is more

-- a send that failed
pub Tries_failed : {E : Type 0} (old mid new : NetTold) (address bytes : List ℕ) (result : Result Bool E) (e : E) → Tries old mid address bytes
    → Adds mid new (gave address bytes (is_sent result) ∷ []) → result ≡ Err e → Tries old new address bytes
Tries_failed old mid new address bytes result e so more is = Tries_more old mid new address bytes so (came_to mid new address bytes result (Err e) more is)

-- one that took all of it
pub GivesWhole_went : {T E : Type 0} (old mid new : NetTold) (address bytes : List ℕ) (result : Result Bool E) (done : T) → Tries old mid address bytes
    → Adds mid new (gave address bytes (is_sent result) ∷ []) → result ≡ Ok true → GivesWhole {T = T} {E = E} old new address bytes (Ok done)
GivesWhole_went old mid new address bytes result done so more is = record { before = mid; tried = so; last = came_to mid new address bytes result (Ok true) more is }

-- one that took a part of it
pub GivesWhole_cut : {T E : Type 0} (old mid new : NetTold) (address bytes : List ℕ) (result : Result Bool E) (e : E) → Tries old mid address bytes
    → Adds mid new (gave address bytes (is_sent result) ∷ []) → result ≡ Ok false → GivesWhole {T = T} {E = E} old new address bytes (Err e)
GivesWhole_cut old mid new address bytes result e so more is =
    record { before = new; tried = Tries_more old mid new address bytes so (came_to mid new address bytes result (Ok false) more is); last = Adds_nothing new }

-- one that failed
pub GivesWhole_failed : {T E : Type 0} (old mid new : NetTold) (address bytes : List ℕ) (result : Result Bool E) (e : E) → Tries old mid address bytes
    → Adds mid new (gave address bytes (is_sent result) ∷ []) → result ≡ Err e → GivesWhole {T = T} {E = E} old new address bytes (Err e)
GivesWhole_failed old mid new address bytes result e so more is =
    record { before = new; tried = Tries_failed old mid new address bytes result e so more is; last = Adds_nothing new }

-- none went whole
pub GivesWhole_tried : {T E : Type 0} (old new : NetTold) (address bytes : List ℕ) (e : E) → Tries old new address bytes → GivesWhole {T = T} {E = E} old new address bytes (Err e)
GivesWhole_tried old new address bytes e so = record { before = new; tried = so; last = Adds_nothing new }

-- ---- connections

pub Moves_nothing : (told : NetTold) (peer : Peer) (left : List ℕ) → Moves told told peer left left
Moves_nothing told peer left = record { pieces = []; left = refl; added = Adds_nothing told }

-- a call that sent nothing
pub Moves_failed : (a b : NetTold) (peer : Peer) (left : List ℕ) → Adds a b [] → Moves a b peer left left
Moves_failed a b peer left none = record { pieces = []; left = refl; added = none }

-- two moves in a row
joined : (a b c : NetTold) (peer : Peer) (old between new : List ℕ) → Moves a b peer old between → Moves b c peer between new → Moves a c peer old new
joined a b c peer old between new p q = record {
  pieces = p.pieces ++ q.pieces;
  left = p.left ∙ (ap (λ (xs : List ℕ). concat p.pieces ++ xs) q.left ∙ (sym (append_assoc (concat p.pieces) (concat q.pieces) new) ∙ ap (λ (xs : List ℕ). xs ++ new) (sym (concat-append p.pieces q.pieces))));
  added = subst (Adds a c) (sym (map-append (sent peer) p.pieces q.pieces)) (Adds_append a b c (map (sent peer) p.pieces) (map (sent peer) q.pieces) p.added q.added);
}

pub Moves_append : (a b c : NetTold) (peer other : Peer) (old between new : List ℕ) → Moves a b peer old between → Moves b c other between new → other ≡ peer → Moves a c peer old new
Moves_append a b c peer other old between new p q is = joined a b c peer old between new p (subst (λ (x : Peer). Moves b c x between new) is q)

pub Sends_nothing : (told : NetTold) (peer : Peer) → SendsOn told told peer
Sends_nothing told peer = record { pieces = []; added = Adds_nothing told }

pub Sends_moves : (a b : NetTold) (peer : Peer) (old new : List ℕ) → Moves a b peer old new → SendsOn a b peer
Sends_moves a b peer old new p = record { pieces = p.pieces; added = p.added }

pub Sends_append : (a b c : NetTold) (peer : Peer) → SendsOn a b peer → SendsOn b c peer → SendsOn a c peer
Sends_append a b c peer p q = record {
  pieces = p.pieces ++ q.pieces;
  added = subst (Adds a c) (sym (map-append (sent peer) p.pieces q.pieces)) (Adds_append a b c (map (sent peer) p.pieces) (map (sent peer) q.pieces) p.added q.added);
}

-- what added nothing behind it
pub Sends_none : (a b c : NetTold) (peer : Peer) → SendsOn a b peer → Adds b c [] → SendsOn a c peer
Sends_none a b c peer p q = record { pieces = p.pieces; added = subst (Adds a c) (append-nil (map (sent peer) p.pieces)) (Adds_append a b c (map (sent peer) p.pieces) [] p.added q) }

pub Sends_feed : (a b : NetTold) (peer : Peer) (old new : List ℕ) → peer ≡ peers.Feed → Moves a b peer old new → SendsOn a b peers.Feed
Sends_feed a b peer old new is p = subst (λ (x : Peer). SendsOn a b x) is (Sends_moves a b peer old new p)

-- ---- what is heard

pub Hears_nothing : (told : NetTold) → Hears told told []
Hears_nothing told = record { events = []; added = Adds_nothing told; heard = refl; quiet = refl }

pub Hears_append : (a b c : NetTold) (xs ys : List Got) → Hears a b xs → Hears b c ys → Hears a c (xs ++ ys)
Hears_append a b c xs ys p q = record {
  events = p.events ++ q.events;
  added = Adds_append a b c p.events q.events p.added q.added;
  heard = flat_map-append heard_by p.events q.events ∙ rw (p.heard, q.heard) refl;
  quiet = flat_map-append notes_of_event p.events q.events ∙ rw (p.quiet, q.quiet) refl;
}

-- what is heard behind what brings nothing
pub Hears_then : (a b c : NetTold) (gots : List Got) → Hears a b [] → Hears b c gots → Hears a c gots
Hears_then a b c gots p q = Hears_append a b c [] gots p q

-- what brings nothing behind what is heard
pub Hears_first : (a b c : NetTold) (gots : List Got) → Hears a b gots → Hears b c [] → Hears a c gots
Hears_first a b c gots p q = subst (Hears a c) (append-nil gots) (Hears_append a b c gots [] p q)

sends-bring : (peer : Peer) (pieces : List (List ℕ)) → flat_map heard_by (map (sent peer) pieces) ≡ []
sends-bring peer [] = refl
sends-bring peer (x ∷ pieces) = sends-bring peer pieces

sends-note : (peer : Peer) (pieces : List (List ℕ)) → flat_map notes_of_event (map (sent peer) pieces) ≡ []
sends-note peer [] = refl
sends-note peer (x ∷ pieces) = sends-note peer pieces

pub Hears_sends : (a b : NetTold) (peer : Peer) → SendsOn a b peer → Hears a b []
Hears_sends a b peer p = record { events = map (sent peer) p.pieces; added = p.added; heard = sends-bring peer p.pieces; quiet = sends-note peer p.pieces }

pub Hears_moves : (a b : NetTold) (peer : Peer) (old new : List ℕ) → Moves a b peer old new → Hears a b []
Hears_moves a b peer old new p = Hears_sends a b peer (Sends_moves a b peer old new p)

-- a call that added nothing
pub Hears_none : (a b : NetTold) → Adds a b [] → Hears a b []
Hears_none a b p = record { events = []; added = p; heard = refl; quiet = refl }

-- ---- reads

-- one that a signal interrupted, and the next
read_behind : {E : Type 0} (a b c : NetTold) (peer : Peer) (buffer : List ℕ) (read : Result ℕ E) → Adds a b [] → Reads b c peer buffer read → Reads a c peer buffer read
read_behind a b c peer buffer (Ok n) p q = Adds_append a b c [] (receptions peer (take n buffer)) p q
read_behind a b c peer buffer (Err e) p q = Adds_append a b c [] [] p q

pub Reads_then : {E : Type 0} (a b c : NetTold) (peer other : Peer) (buffer : List ℕ) (read : Result ℕ E) → Adds a b [] → Reads b c other buffer read → other ≡ peer → Reads a c peer buffer read
Reads_then a b c peer other buffer read p q is = read_behind a b c peer buffer read p (subst (λ (x : Peer). Reads b c x buffer read) is q)

pub Reads_failed : {E : Type 0} (a b c : NetTold) (peer : Peer) (buffer : List ℕ) (read : Result ℕ E) (e : E) → Adds a b [] → Reads b c peer buffer read → read ≡ Err e → Adds a c []
Reads_failed {E} a b c peer buffer read e p q is = Adds_append a b c [] [] p (subst (λ (r : Result ℕ E). Reads b c peer buffer r) is q)

-- some bytes that came
heard_bytes : (peer : Peer) (buffer : List ℕ) (n : ℕ) → 0 < n → n ≤ length buffer → flat_map heard_by (receptions peer (take n buffer)) ≡ got_of_peer peer (take n buffer) ∷ []
heard_bytes peer buffer zero some within = absurd (omega arith)
heard_bytes peer [] (suc n) some within = absurd (omega arith)
heard_bytes peer (byte ∷ bytes) (suc n) some within = refl

quiet_bytes : (peer : Peer) (bytes : List ℕ) → flat_map notes_of_event (receptions peer bytes) ≡ []
quiet_bytes peer [] = refl
quiet_bytes peer (byte ∷ bytes) = refl

Hears_bytes : (a b : NetTold) (peer : Peer) (buffer : List ℕ) (n : ℕ) → 0 < n → n ≤ length buffer → Adds a b (receptions peer (take n buffer)) → Hears a b (got_of_peer peer (take n buffer) ∷ [])
Hears_bytes a b peer buffer n some within p =
    record { events = receptions peer (take n buffer); added = p; heard = heard_bytes peer buffer n some within; quiet = quiet_bytes peer (take n buffer) }

-- a read of a client's connection, as a poll hands it on
pub Hears_read : {E : Type 0} (a b : NetTold) (peer : Peer) (client : ℕ) (buffer : List ℕ) (read : Result ℕ E) (polled : Polled) → peer ≡ peers.Client client → IsOnlyOf client polled → IsOfRead read polled
    → IfOk read (λ n. n ≤ length buffer) → Reads a b peer buffer read → Hears a b (handed polled buffer)
Hears_read a b peer client buffer read (polls.Query from n) is its of within p = absurd of
Hears_read {E} a b peer client buffer read (polls.Stream from n) is its (read_is, some) within p =
    let low : n ≤ length buffer = subst (λ (r : Result ℕ E). IfOk r (λ k. k ≤ length buffer)) read_is within in
    let came : Adds a b (receptions peer (take n buffer)) = subst (λ (r : Result ℕ E). Reads a b peer buffer r) read_is p in
    let whose : peer ≡ peers.Client from = is ∙ ap (λ (c : ℕ). peers.Client c) (sym its) in
    Hears_bytes a b (peers.Client from) buffer n some low (subst (λ (x : Peer). Adds a b (receptions x (take n buffer))) whose came)
Hears_read a b peer client buffer (Ok n) (polls.StreamEnd from) is its of within p = Hears_none a b (subst (λ (k : ℕ). Adds a b (receptions peer (take k buffer))) of p)
Hears_read a b peer client buffer (Err e) (polls.StreamEnd from) is its of within p = Hears_none a b p
Hears_read a b peer client buffer read (polls.Feed n) is its of within p = absurd of
Hears_read a b peer client buffer read polls.FeedEnd is its of within p = absurd of
Hears_read a b peer client buffer (Ok n) polls.Nothing is its of within p = absurd of
Hears_read a b peer client buffer (Err e) polls.Nothing is its of within p = Hears_none a b p
Hears_read a b peer client buffer read polls.Failed is its of within p = absurd of

-- ---- the feed

pub Fetches_read : {E : Type 0} (a b : NetTold) (peer : Peer) (buffer : List ℕ) (read : Result ℕ E) → peer ≡ peers.Feed → IfOk read (λ n. n ≤ length buffer) → Reads a b peer buffer read → Fetches a b buffer read
Fetches_read a b peer buffer (Ok zero) is within p = Hears_none a b p
Fetches_read a b peer buffer (Ok (suc n)) is within p = Hears_bytes a b peers.Feed buffer (suc n) (omega arith) within (subst (λ (x : Peer). Adds a b (receptions x (take (suc n) buffer))) is p)
Fetches_read a b peer buffer (Err e) is within p = Hears_none a b p

pub Fetches_failed : {E : Type 0} (a b : NetTold) (buffer : List ℕ) (e : E) → Hears a b [] → Fetches a b buffer (Err e)
Fetches_failed a b buffer e p = p

-- what was sent before a read
pub Fetches_moved : {E : Type 0} (a b : NetTold) (peer : Peer) (old new buffer : List ℕ) (e : E) → Moves a b peer old new → Fetches a b buffer (Err e)
Fetches_moved a b peer old new buffer e p = Hears_moves a b peer old new p

pub Fetches_behind : {E : Type 0} (a b c : NetTold) (peer other : Peer) (old new buffer : List ℕ) (read : Result ℕ E) → Moves a b peer old new → other ≡ peers.Feed → IfOk read (λ n. n ≤ length buffer)
    → Reads b c other buffer read → Fetches a c buffer read
Fetches_behind a b c peer other old new buffer read p is within q = Hears_then a b c (fetched read buffer) (Hears_moves a b peer old new p) (Fetches_read b c other buffer read is within q)

pub Fetches_then : {E : Type 0} (a b c : NetTold) (buffer : List ℕ) (read : Result ℕ E) → Hears a b [] → Fetches b c buffer read → Fetches a c buffer read
Fetches_then a b c buffer read p q = Hears_then a b c (fetched read buffer) p q

fed : {E : Type 0} (a b : NetTold) (buffer : List ℕ) (read : Result ℕ E) (polled : Polled) → IsOfFeed read polled → Fetches a b buffer read → Hears a b (handed polled buffer)
fed a b buffer read (polls.Query client n) of came_in = absurd of
fed a b buffer read (polls.Stream client n) of came_in = absurd of
fed a b buffer read (polls.StreamEnd client) of came_in = absurd of
fed a b buffer read (polls.Feed zero) (is, some) came_in = absurd (omega arith)
fed {E} a b buffer read (polls.Feed (suc n)) (is, some) came_in = subst (λ (x : Result ℕ E). Fetches a b buffer x) is came_in
fed {E} a b buffer (Ok n) polls.FeedEnd of came_in = subst (λ (k : ℕ). Fetches {E = E} a b buffer (Ok k)) of came_in
fed a b buffer (Err e) polls.FeedEnd of came_in = came_in
fed a b buffer (Ok n) polls.Nothing of came_in = absurd of
fed a b buffer (Err e) polls.Nothing of came_in = came_in
fed a b buffer read polls.Failed of came_in = absurd of

-- a poll of it
pub Feed_hears : {E : Type 0} (a b c d : NetTold) (buffer : List ℕ) (read : Result ℕ E) (polled : Polled) → SendsOn a b peers.Feed → Fetches b c buffer read → IsOfFeed read polled → SendsOn c d peers.Feed
    → Hears a d (handed polled buffer)
Feed_hears a b c d buffer read polled before came_in of after =
    Hears_then a b d (handed polled buffer) (Hears_sends a b peers.Feed before) (Hears_first b c d (handed polled buffer) (fed b c buffer read polled of came_in) (Hears_sends c d peers.Feed after))

pub Feed_within : {E : Type 0} (read : Result ℕ E) (polled : Polled) (room : ℕ) → IsOfFeed read polled → IfOk read (λ n. n ≤ room) → IsWithin polled room
Feed_within read (polls.Query client n) room of low = absurd of
Feed_within read (polls.Stream client n) room of low = absurd of
Feed_within read (polls.StreamEnd client) room of low = tt
Feed_within {E} read (polls.Feed n) room (is, some) low = subst (λ (x : Result ℕ E). IfOk x (λ k. k ≤ room)) is low
Feed_within read polls.FeedEnd room of low = tt
Feed_within read polls.Nothing room of low = tt
Feed_within read polls.Failed room of low = absurd of

-- ---- datagrams that come

-- one for which the buffer has room
pub Hears_datagram : (a b : NetTold) (buffer : List ℕ) (count : ℕ) (address : List ℕ) → 65536 ≤ length buffer → ComesFrom a b buffer count address → Hears a b (datagram (client_at address) (take count buffer) ∷ [])
Hears_datagram a None buffer count address room p = record { events = came address (take count buffer) ∷ []; added = tt; heard = refl; quiet = refl }
Hears_datagram a (Some after) buffer count address room p =
    let all : count ≡ length p.bytes = p.count_is ∙ min-eq_left (omega (arith, p.short)) in
    let whole : take count buffer ≡ p.bytes = p.same ∙ (ap (λ (n : ℕ). take n p.bytes) all ∙ take_all (length p.bytes) p.bytes (omega arith)) in
    subst (λ (xs : List ℕ). Hears a (Some after) (datagram (client_at address) xs ∷ [])) (sym whole) (record { events = came address p.bytes ∷ []; added = p.added; heard = refl; quiet = refl })

comes_behind : (a b c : NetTold) (buffer : List ℕ) (count : ℕ) (address : List ℕ) → Adds a b [] → ComesFrom b c buffer count address → ComesFrom a c buffer count address
comes_behind a b None buffer count address none came_in = tt
comes_behind a b (Some c) buffer count address none came_in = record {
  bytes = came_in.bytes;
  short = came_in.short;
  count_is = came_in.count_is;
  same = came_in.same;
  added = Adds_append a b (Some c) [] (came address came_in.bytes ∷ []) none came_in.added;
}

-- a call that a signal interrupted, and the next
pub Comes_then : {E : Type 0} (a b c : NetTold) (buffer : List ℕ) (result : Result (ℕ × SocketAddrV4) E) → Adds a b [] → ComesIn b c buffer result → ComesIn a c buffer result
Comes_then a b c buffer (Ok (count, from)) p (low, q) = (low, comes_behind a b c buffer count (address_bytes from) p q)
Comes_then a b c buffer (Err e) p q = Adds_append a b c [] [] p q

pub Comes_failed : {E : Type 0} (a b c : NetTold) (buffer : List ℕ) (result : Result (ℕ × SocketAddrV4) E) (e : E) → Adds a b [] → ComesIn b c buffer result → result ≡ Err e → Adds a c []
Comes_failed {E} a b c buffer result e p q is = Adds_append a b c [] [] p (subst (λ (r : Result (ℕ × SocketAddrV4) E). ComesIn b c buffer r) is q)

-- a datagram that a poll hands on
pub Query_hears : {E : Type 0} (a b : NetTold) (buffer : List ℕ) (result : Result (ℕ × SocketAddrV4) E) (count : ℕ) (from : SocketAddrV4) (polled : Polled) → ComesIn a b buffer result → result ≡ Ok (count, from)
    → 65536 ≤ length buffer → polled ≡ polls.Query (client_at (address_bytes from)) count → Hears a b (handed polled buffer)
Query_hears {E} a b buffer result count from polled p is room polled_is =
    let q : ComesIn {E = E} a b buffer (Ok (count, from)) = subst (λ (r : Result (ℕ × SocketAddrV4) E). ComesIn a b buffer r) is p in
    subst (λ (x : Polled). Hears a b (handed x buffer)) (sym polled_is) (Hears_datagram a b buffer count (address_bytes from) room q.1)

-- no datagram
pub Nothing_hears : {E F : Type 0} (a b : NetTold) (buffer : List ℕ) (result : Result (ℕ × SocketAddrV4) E) (e : E) (brought : Result Polled F) → ComesIn a b buffer result → result ≡ Err e
    → IfOk brought (λ polled. polled ≡ polls.Nothing) → Hears a b (handed_as brought buffer)
Nothing_hears {E} a b buffer result e (Ok polled) p is none =
    subst (λ (x : Polled). Hears a b (handed x buffer)) (sym none) (Hears_none a b (subst (λ (r : Result (ℕ × SocketAddrV4) E). ComesIn a b buffer r) is p))
Nothing_hears {E} a b buffer result e (Err f) p is none = Hears_none a b (subst (λ (r : Result (ℕ × SocketAddrV4) E). ComesIn a b buffer r) is p)

-- ---- what brings nothing

asks-bring : (addresses : List (List ℕ)) → flat_map heard_by (map asked addresses) ≡ []
asks-bring [] = refl
asks-bring (address ∷ addresses) = asks-bring addresses

asks-note : (addresses : List (List ℕ)) → flat_map notes_of_event (map asked addresses) ≡ []
asks-note [] = refl
asks-note (address ∷ addresses) = asks-note addresses

pub Hears_asks : (a b : NetTold) (addresses : List (List ℕ)) → AsksFirst a b addresses → Hears a b []
Hears_asks a b addresses (n, p) = record { events = map asked (take n addresses); added = p; heard = asks-bring (take n addresses); quiet = asks-note (take n addresses) }

tries-bring : (n : ℕ) (address bytes : List ℕ) → flat_map heard_by (replicate n (gave address bytes false)) ≡ []
tries-bring zero address bytes = refl
tries-bring (suc n) address bytes = tries-bring n address bytes

tries-note : (n : ℕ) (address bytes : List ℕ) → flat_map notes_of_event (replicate n (gave address bytes false)) ≡ []
tries-note zero address bytes = refl
tries-note (suc n) address bytes = tries-note n address bytes

last_went : {T E : Type 0} (a b : NetTold) (address bytes : List ℕ) (result : Result T E) → Adds a b (last_try result address bytes) → Hears a b []
last_went a b address bytes (Ok done) p = record { events = gave address bytes true ∷ []; added = p; heard = refl; quiet = refl }
last_went a b address bytes (Err e) p = Hears_none a b p

pub Hears_gives : {T E : Type 0} (a b : NetTold) (address bytes : List ℕ) (result : Result T E) → GivesWhole a b address bytes result → Hears a b []
Hears_gives a b address bytes result p =
    let n = p.tried.times in
    let tried : Hears a p.before [] = record { events = replicate n (gave address bytes false); added = p.tried.added; heard = tries-bring n address bytes; quiet = tries-note n address bytes } in
    Hears_then a p.before b [] tried (last_went p.before b address bytes result p.last)
