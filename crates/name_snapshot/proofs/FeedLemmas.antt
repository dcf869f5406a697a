-- What was fed, from piece to piece, and what is answered at the end.
use Rattle.std.proofs.Common.{◌≡◌, ◌≢◌, ℕ, zero, suc, ◌+◌, ◌-◌, ◌<◌, ◌≤◌, ◌^◌, ◌⊎◌, List, [], ◌∷◌, ◌++◌, length, refl, sym, ap, subst, ◌∙◌, append_assoc, append-nil, length-append, arith, inl, inr}
use Rattle.std.specs.Prelude.{Option, Some, None, Result, Ok, Err, OnOk}
use Rattle.block_grammar.specs.Combinators.{◌>>=◌}
use Rattle.block_grammar.proofs.Readers.{IsBytes}
use Rattle.block_grammar.proofs.ReaderLaws.{ok_err, err_is}
use Rattle.block_grammar.proofs.FieldLaws.{IsBytes-append}
use Rattle.nmc_base.specs.declared.chain_ends.Base.{Base}
use Rattle.nmc_base.specs.Heights.{highest}
use Rattle.chain_names.specs.Coins.{maps_of}
use Rattle.name_tables.specs.Parts.{tables_of}
use Rattle.name_tables.specs.declared.parts.Parts.{Parts}
use Rattle.undo_records.specs.declared.fault.FaultKind.{FaultKind}
use Rattle.undo_records.specs.declared.fault.FaultKind.TheVariants.{Cut, BadTag}
use Rattle.undo_records.proofs.Laws.{Spot}
use Rattle.undo_records.proofs.Choices.{no_cut}
use Rattle.name_snapshot.specs.Answers.{IsSnapshotAnswer}
use Rattle.name_snapshot.specs.Faults.{IsBad, HasFault, bad, cut}
use Rattle.name_snapshot.specs.Feeding.{feeding_of, HasRead, HasStopped, Takes, IsFeeding, StopsShort, TakesOn, stop_of, fault_unless, fault_or, fault_at}
use Rattle.name_snapshot.specs.Makes.{IsSnapshot}
use Rattle.name_snapshot.specs.Reading.{end_from, makes_then, snapshot_from}
use Rattle.name_snapshot.specs.Standing.{IsIndexOf, left_from}
use Rattle.name_snapshot.specs.Text.{StartMake, start_of}
use Rattle.name_snapshot.specs.Turning.{WaitsAt, ReadsOn}
use Rattle.name_snapshot.specs.declared.fault.SnapshotFault.{SnapshotFault}
use Rattle.name_snapshot.specs.declared.fault.SnapshotFault.TheVariants.{Bad, NoMemory}
use Rattle.name_snapshot.specs.declared.next.Next.{Next}
use Rattle.name_snapshot.specs.declared.next.Next.TheVariants.{Head, Makes}
use Rattle.name_snapshot.specs.declared.reading.Reading.{Reading}
use Rattle.name_snapshot.proofs.FollowLaws.{is_start}
use Rattle.name_snapshot.proofs.StayLaws.{fault_stays}
use Rattle.name_snapshot.proofs.HeldLaws.{head_held, next_held}
use Rattle.name_snapshot.proofs.WholeLaws.{Fault, cut_short, bad_byte, none_more, bad_read, whole_read, fault_read}

abbrev Answer : Type 0
Answer = Result (List StartMake × List ℕ) Spot

-- ---- faults

-- a fault that isn't the end is that of a byte
pub not_the_end : (base : Base) (text : List ℕ) (kind : FaultKind) (rest : List ℕ) → IsBytes text → snapshot_from base text ≡ Err (kind, rest) → kind ≢ Cut → IsBad base text rest
not_the_end base text kind rest are e other = by (fault_read base text (kind, rest) are e)
  where
    by : Fault base text (kind, rest) → IsBad base text rest
    by (cut_short is c) = absurd (other (ap (λ (s : Spot). s.0) is))
    by (bad_byte at is b) = subst (IsBad base text) (sym (ap (λ (s : Spot). s.1) is)) b

pub the_end : (base : Base) (text rest : List ℕ) → IsBytes text → snapshot_from base text ≡ Err (Cut, rest) → HasFault base text (length text)
the_end base text rest are e = by (fault_read base text (Cut, rest) are e)
  where
    by : Fault base text (Cut, rest) → HasFault base text (length text)
    by (cut_short is c) = cut c refl
    by (bad_byte at is b) = absurd (no_cut (sym (ap (λ (s : Spot). s.0) is)))

-- where the reading stands at the end
ended_whole : (below : List StartMake) (pending : List ℕ) → (pending ≡ []) → end_from below pending ≡ Ok (below, [])
ended_whole below pending none = ap (end_from below) none

never_cut : (below : List StartMake) (pending rest : List ℕ) → end_from below pending ≡ Err (Cut, rest) → ⊥
never_cut below [] rest e = absurd cc
never_cut below (b ∷ pending) rest e = no_cut (ap (λ (s : Spot). s.0) (err_is (BadTag, b ∷ pending) (Cut, rest) e))

-- all was read, or the bytes end too early
abbrev pub Ended : Base → Next → List StartMake → List ℕ → Type 0
Ended base next below bytes = ((next ≡ Makes 0) × (bytes ≡ [])) ⊎ ((rest : List ℕ) × (left_from base next below bytes ≡ Err (Cut, rest)))

pub ended_by : (base : Base) (next : Next) (below : List StartMake) (bytes : List ℕ) → WaitsAt base next below bytes → Ended base next below bytes
ended_by base Head below bytes waits = inr (waits.0, ap (λ r. r >>= λ x. makes_then base x.0 [] x.1) waits.1)
ended_by base (Makes zero) below bytes waits = inl (refl, waits)
ended_by base (Makes (suc left)) below bytes waits = inr (waits.0, none_more base left below bytes (Cut, waits.0) waits.1)

-- no byte is a fault where the reading waits
pub open_by : (base : Base) (next : Next) (below : List StartMake) (pending text : List ℕ) → snapshot_from base text ≡ left_from base next below pending
    → Ended base next below pending → (at : ℕ) → HasFault base text at → at ≡ length text
open_by base next below pending text here waits at (cut c is) = is
open_by base next below pending text here (inl whole) at (bad rest b is) =
    absurd (ok_err (snapshot_from base text) (below, []) (BadTag, rest)
    (here ∙ ap (λ (n : Next). left_from base n below pending) whole.0 ∙ ended_whole below pending whole.1) (bad_read base text rest b))
open_by base next below pending text here (inr early) at (bad rest b is) =
    absurd (no_cut (ap (λ (s : Spot). s.0) (err_is (BadTag, rest) (Cut, early.0) (sym (bad_read base text rest b) ∙ here ∙ early.1))))

held_short : (base : Base) (next : Next) (below : List StartMake) (bytes : List ℕ) → IsBytes bytes → WaitsAt base next below bytes → length bytes < 1322
held_short base Head below bytes are waits = omega (arith, head_held bytes waits.0 waits.1)
held_short base (Makes zero) below bytes are waits = let none : length bytes ≡ 0 = ap length waits in omega (arith, none)
held_short base (Makes (suc left)) below bytes are waits = next_held base below bytes waits.0 are waits.1

-- ---- one piece more

module _ (text bytes : List ℕ) (old : Reading) (held : List ℕ) (fed : ℕ) (stop : Option SnapshotFault) (has : HasRead text (feeding_of old held fed stop)) (are : IsBytes bytes) where
  joined : (more : List ℕ) → snapshot_from old.base ((text ++ bytes) ++ more) ≡ left_from old.base old.next has.below ((held ++ bytes) ++ more)
  joined more =
      ap (snapshot_from old.base) (append_assoc text bytes more) ∙ has.goes_on (bytes ++ more)
      ∙ ap (left_from old.base old.next has.below) (sym (append_assoc held bytes more))

  joined_here : snapshot_from old.base (text ++ bytes) ≡ left_from old.base old.next has.below (held ++ bytes)
  joined_here =
      ap (snapshot_from old.base) (sym (append-nil (text ++ bytes))) ∙ joined [] ∙ ap (left_from old.base old.next has.below) (append-nil (held ++ bytes))

  fed_more : fed + length bytes ≡ length (text ++ bytes)
  fed_more = omega (arith, has.fed, length-append text bytes)

  whole_bytes : IsBytes (text ++ bytes)
  whole_bytes = IsBytes-append text bytes has.bytes are

  loads : (new : Reading) (kept : List ℕ) → ReadsOn has.below old (held ++ bytes) new kept → HasRead (text ++ bytes) (feeding_of new kept (fed + length bytes) None)
  loads new kept reads =
      let on = reads.on in
      let goes : (more : List ℕ) → snapshot_from new.base ((text ++ bytes) ++ more) ≡ left_from new.base new.next on.now (kept ++ more) =
      λ more. ap (λ (b : Base). snapshot_from b ((text ++ bytes) ++ more)) on.base ∙ joined more ∙ on.goes more in
      let here : snapshot_from new.base (text ++ bytes) ≡ left_from new.base new.next on.now kept =
      ap (snapshot_from new.base) (sym (append-nil (text ++ bytes))) ∙ goes [] ∙ ap (left_from new.base new.next on.now) (append-nil kept) in
      record {
        bytes = whole_bytes;
        fed = fed_more;
        no_stop = refl;
        below = on.now;
        behind = on.behind;
        goes_on = goes;
        waits = reads.waits;
        held_bytes = on.bytes_are (IsBytes-append held bytes has.held_bytes are);
        open_end = open_by new.base new.next on.now kept (text ++ bytes) here (ended_by new.base new.next on.now kept reads.waits);
      }

  stops : (new : Reading) (kept : List ℕ) (at : ℕ) → new.base ≡ old.base → StopsShort has.below old (held ++ bytes) (fed + length bytes) at
      → HasStopped (text ++ bytes) (feeding_of new kept (fed + length bytes) (Some (Bad at))) at
  stops new kept at base short =
      let b = not_the_end old.base (text ++ bytes) short.kind short.rest whole_bytes (joined_here ∙ short.stops.0) short.stops.1 in
      let place : length (text ++ bytes) - length short.rest ≡ at = ap (λ (n : ℕ). n - length short.rest) (sym fed_more) ∙ sym short.at_is in
      record {
        stop = refl;
        bad = λ more. subst (λ (b : Base). HasFault b ((text ++ bytes) ++ more) at) (sym base) (subst (HasFault old.base ((text ++ bytes) ++ more)) place (fault_stays more old.base (text ++ bytes) short.rest b));
      }

  pub takes_piece : (new : Reading) (kept : List ℕ) (read : Result (Unit {0}) SnapshotFault) → new.base ≡ old.base → TakesOn has.below old (held ++ bytes) (fed + length bytes) new kept read
      → Takes (text ++ bytes) (feeding_of new kept (fed + length bytes) (stop_of read)) read
  takes_piece new kept (Ok done) base on = loads new kept on
  takes_piece new kept (Err (Bad at)) base on = stops new kept at base on
  takes_piece new kept (Err NoMemory) base on = refl

  pub feeding_more : old.base.height ≤ highest → fed + length bytes < 2 ^ 64 → (new : Reading) (kept : List ℕ) (read : Result (Unit {0}) SnapshotFault) → new.base ≡ old.base
      → TakesOn has.below old (held ++ bytes) (fed + length bytes) new kept read
      → IsFeeding (feeding_of new kept (fed + length bytes) (stop_of read))
  feeding_more is_low low new kept (Ok done) base on = record { low = subst (λ (b : Base). b.height ≤ highest) (sym base) is_low; within = low; reads = λ none. (text ++ bytes, loads new kept on) }
  feeding_more is_low low new kept (Err fault) base on = record { low = subst (λ (b : Base). b.height ≤ highest) (sym base) is_low; within = low; reads = λ none. absurd cc }

  pub held_little : (new : Reading) (kept : List ℕ) (read : Result (Unit {0}) SnapshotFault) → TakesOn has.below old (held ++ bytes) (fed + length bytes) new kept read
      → OnOk read (length kept < 1322)
  held_little new kept (Ok done) on =
      held_short new.base new.next on.on.now kept (on.on.bytes_are (IsBytes-append held bytes has.held_bytes are)) on.waits
  held_little new kept (Err fault) on = tt

-- ---- why it isn't whole

whole_by : (next : Next) (fed : ℕ) → None ≡ fault_unless next fed → next ≡ Makes 0
whole_by (Makes zero) fed e = refl
whole_by (Makes (suc n)) fed e = absurd cc
whole_by Head fed e = absurd cc

not_whole : (next : Next) (fed : ℕ) (fault : SnapshotFault) → Some fault ≡ fault_unless next fed → (next ≢ Makes 0) × (fault ≡ Bad fed)
not_whole (Makes zero) fed fault e = absurd cc
not_whole (Makes (suc n)) fed fault e = ((λ at. cc), cc)
not_whole Head fed fault e = ((λ at. cc), cc)

-- ---- all pieces

module _ (text : List ℕ) (r : Reading) (held : List ℕ) (fed : ℕ) (stop : Option SnapshotFault) (has : HasRead text (feeding_of r held fed stop)) where
  read_here : snapshot_from r.base text ≡ left_from r.base r.next has.below held
  read_here = ap (snapshot_from r.base) (sym (append-nil text)) ∙ has.goes_on [] ∙ ap (left_from r.base r.next has.below) (append-nil held)

  cut_short_at : r.next ≢ Makes 0 → HasFault r.base text fed
  cut_short_at on = subst (HasFault r.base text) (sym has.fed) (by (ended_by r.base r.next has.below held has.waits))
    where
      by : Ended r.base r.next has.below held → HasFault r.base text (length text)
      by (inl whole) = absurd (on whole.0)
      by (inr early) = the_end r.base text early.0 has.bytes (read_here ∙ early.1)

  pub fault_answers : (fault : SnapshotFault) → Some fault ≡ fault_at (feeding_of r held fed stop) → IsSnapshotAnswer r.base text (Err fault)
  fault_answers fault e =
      let unless : Some fault ≡ fault_unless r.next fed = e ∙ ap (λ (s : Option SnapshotFault). fault_or s (fault_unless r.next fed)) has.no_stop in
      let short = not_whole r.next fed fault unless in
      subst (λ (f : SnapshotFault). IsSnapshotAnswer r.base text (Err f)) (sym short.1) (cut_short_at short.0)

  none_held : r.next ≡ Makes 0 → Ended r.base r.next has.below held → held ≡ []
  none_held at (inl whole) = whole.1
  none_held at (inr early) = absurd (never_cut has.below held early.0 (ap (λ (n : Next). left_from r.base n has.below held) (sym at) ∙ early.1))

  is_whole : r.next ≡ Makes 0 → IsSnapshot r.base text has.below
  is_whole at =
      let read : snapshot_from r.base text ≡ Ok (has.below, []) =
      read_here ∙ ap (λ (n : Next). left_from r.base n has.below held) at ∙ ended_whole has.below held (none_held at (ended_by r.base r.next has.below held has.waits)) in
      (whole_read r.base text (has.below, []) has.bytes read).0

  pub whole_answers : None ≡ fault_at (feeding_of r held fed stop) → (parts : Parts) → tables_of parts ≡ r.tables → parts.undos.items ≡ [] → IsSnapshotAnswer r.base text (Ok parts)
  whole_answers e parts tables undos =
      let at : r.next ≡ Makes 0 = whole_by r.next fed (e ∙ ap (λ (s : Option SnapshotFault). fault_or s (fault_unless r.next fed)) has.no_stop) in
      let snapshot = is_whole at in
      let index : IsIndexOf r.base has.below (tables_of parts) = subst (IsIndexOf r.base has.below) (sym tables) has.behind.index in
      let height : suc r.base.height ≡ suc (r.base.height + 0) = omega arith in
      record {
        makes = has.below;
        is_snapshot = snapshot;
        is_start = is_start r.base has.below snapshot.few snapshot.follow;
        maps_are = index.maps ∙ ap (maps_of r.base.profile (start_of has.below)) height;
        queue = index.queue.queue;
        filled = index.queue.filled;
        no_undos = undos;
      }
