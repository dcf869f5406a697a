-- A text that is put piece by piece.
use Rattle.std.proofs.Common.{◌≡◌, ℕ, List, [], ◌++◌, refl, sym, ap, subst, ◌∙◌, append_assoc, arith, length-append}
use Rattle.std.proofs.lemmas.List.{append-nil}
use Rattle.std.specs.Io.KnownBytes.{Appends}
use Rattle.fault_counts.proofs.FaultLemmas.{NeverFell_refl, NeverFell_trans}
use Rattle.byte_io.specs.Sink.{SinkSeen}
use Rattle.byte_io.proofs.SinkLemmas.{Appends_nothing, Appends_append}
use Rattle.frame_loop.specs.Delivery.{TookAll, TookPart, Delivers}
use Rattle.frame_loop.proofs.DeliveryLemmas.{since}
use Rattle.std.specs.Prelude.{Result, Ok, Err}
use Rattle.frame_loop.specs.declared.delivery.Undelivered.{Undelivered}
use Rattle.name_report.specs.Page.{Outgoing, outgoing, PutAll, Puts}

-- ---- one piece

-- the piece waits with the bytes before it
pub put_waits : (seen : SinkSeen) (held piece : List ℕ) → PutAll (outgoing seen held) (outgoing seen (held ++ piece)) piece
put_waits seen held piece = record { part = []; text_is = refl; took = Appends_nothing seen.taken; moving = refl; later = NeverFell_refl seen.faults }

-- the bytes before it went, and it waits alone
pub put_behind : (old new : SinkSeen) (held piece : List ℕ) → TookAll old new held → PutAll (outgoing old held) (outgoing new piece) piece
put_behind old new held piece t = record { part = held; text_is = refl; took = t.took; moving = t.moving; later = t.later }

-- a part of a text is one of a longer text
pub part_of_longer : (old new : SinkSeen) (text more : List ℕ) → TookPart old new text → TookPart old new (text ++ more)
part_of_longer old new text more t = record {
  part = t.part;
  missing = t.missing ++ more;
  text_is = ap (λ (q : List ℕ). q ++ more) t.text_is ∙ append_assoc t.part t.missing more;
  some_missing = omega (arith, t.some_missing, length-append t.missing more);
  took = t.took;
  later = t.later;
  cause = t.cause;
}

-- ---- piece by piece

-- of the whole text all but the rest was put
pub record Going (old now : Outgoing) (whole rest : List ℕ) : Type 0 where
  pub done : List ℕ
  pub whole_is : whole ≡ done ++ rest
  pub put : PutAll old now done

pub starts : (old : Outgoing) (whole : List ℕ) → Going old old whole whole
starts old whole = record {
  done = [];
  whole_is = refl;
  put = record { part = []; text_is = append-nil old.held; took = Appends_nothing old.seen.taken; moving = refl; later = NeverFell_refl old.seen.faults };
}

-- what was put joined with what is put
joined : (old mid new : Outgoing) (first second : List ℕ) → PutAll old mid first → PutAll mid new second → PutAll old new (first ++ second)
joined old mid new first second a b = record {
  part = a.part ++ b.part;
  text_is = sym (append_assoc old.held first second) ∙ ap (λ (q : List ℕ). q ++ second) a.text_is ∙ append_assoc a.part mid.held second
      ∙ ap (λ (q : List ℕ). a.part ++ q) b.text_is ∙ sym (append_assoc a.part b.part new.held);
  took = Appends_append old.seen.taken mid.seen.taken new.seen.taken a.part b.part a.took b.took;
  moving = b.moving ∙ a.moving;
  later = NeverFell_trans old.seen.faults mid.seen.faults new.seen.faults a.later b.later;
}

-- the next piece is put
pub goes_on : (old mid new : Outgoing) (whole piece rest : List ℕ) → Going old mid whole (piece ++ rest) → PutAll mid new piece → Going old new whole rest
goes_on old mid new whole piece rest g p = record {
  done = g.done ++ piece;
  whole_is = g.whole_is ∙ sym (append_assoc g.done piece rest);
  put = joined old mid new g.done piece g.put p;
}

-- nothing is left
pub ends : (old new : Outgoing) (whole : List ℕ) → Going old new whole [] → PutAll old new whole
ends old new whole g = subst (PutAll old new) (sym (g.whole_is ∙ append-nil g.done)) g.put

-- the last piece is put
last_put : (old mid new : Outgoing) (whole piece : List ℕ) → Going old mid whole piece → PutAll mid new piece → PutAll old new whole
last_put old mid new whole piece g p = subst (PutAll old new) (sym g.whole_is) (joined old mid new g.done piece g.put p)

-- the sink took a part of what waited and of the next piece
stops : (old mid new : Outgoing) (whole rest : List ℕ) → Going old mid whole rest → TookPart mid.seen new.seen (mid.held ++ rest) → TookPart old.seen new.seen (old.held ++ whole)
stops old mid new whole rest g t = record {
  part = g.put.part ++ t.part;
  missing = t.missing;
  text_is = ap (λ (q : List ℕ). old.held ++ q) g.whole_is ∙ sym (append_assoc old.held g.done rest) ∙ ap (λ (q : List ℕ). q ++ rest) g.put.text_is
      ∙ append_assoc g.put.part mid.held rest ∙ ap (λ (q : List ℕ). g.put.part ++ q) t.text_is ∙ sym (append_assoc g.put.part t.part t.missing);
  some_missing = t.some_missing;
  took = Appends_append old.seen.taken mid.seen.taken new.seen.taken g.put.part t.part g.put.took t.took;
  later = NeverFell_trans old.seen.faults mid.seen.faults new.seen.faults g.put.later t.later;
  cause = since old.seen mid.seen new.seen g.put.later t.cause;
}

pub stops_in : (old mid new : Outgoing) (whole piece rest : List ℕ) → Going old mid whole (piece ++ rest) → TookPart mid.seen new.seen (mid.held ++ piece) → TookPart old.seen new.seen (old.held ++ whole)
stops_in old mid new whole piece rest g t =
    stops old mid new whole (piece ++ rest) g
    (subst (TookPart mid.seen new.seen) (append_assoc mid.held piece rest) (part_of_longer mid.seen new.seen (mid.held ++ piece) rest t))

-- the last piece is put, or not
pub closes : (old mid new : Outgoing) (whole piece : List ℕ) (r : Result (Unit {0}) Undelivered) → Going old mid whole piece → Puts mid new piece r → Puts old new whole r
closes old mid new whole piece (Ok done) g p = last_put old mid new whole piece g p
closes old mid new whole piece (Err e) g t = stops old mid new whole piece g t

-- the whole text is put on an empty page, and what waits is given to the sink
pub flushed : (old : SinkSeen) (mid : Outgoing) (new : SinkSeen) (text : List ℕ) (r : Result (Unit {0}) Undelivered) → PutAll (outgoing old []) mid text → Delivers mid.seen new mid.held r → Delivers old new text r
flushed old mid new text (Ok done) p t = record {
  took = subst (λ (q : List ℕ). Appends old.taken new.taken q) (sym p.text_is) (Appends_append old.taken mid.seen.taken new.taken p.part mid.held p.took t.took);
  moving = t.moving ∙ p.moving;
  later = NeverFell_trans old.faults mid.seen.faults new.faults p.later t.later;
}
flushed old mid new text (Err e) p t = record {
  part = p.part ++ t.part;
  missing = t.missing;
  text_is = p.text_is ∙ ap (λ (q : List ℕ). p.part ++ q) t.text_is ∙ sym (append_assoc p.part t.part t.missing);
  some_missing = t.some_missing;
  took = Appends_append old.taken mid.seen.taken new.taken p.part t.part p.took t.took;
  later = NeverFell_trans old.faults mid.seen.faults new.faults p.later t.later;
  cause = since old mid.seen new p.later t.cause;
}
