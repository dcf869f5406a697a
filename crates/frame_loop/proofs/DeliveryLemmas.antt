-- A text that is given to a sink, write by write.
use Rattle.std.proofs.Common.{◌≡◌, ◌⊎◌, inl, inr, ℕ, ◌<◌, List, [], ◌++◌, length, take, drop, refl, sym, ap, subst, ◌∙◌, append_assoc}
use Rattle.std.specs.Prelude.{Result, Ok, Err}
use Rattle.std.proofs.lemmas.List.{append-nil, take-append-drop, nil_from_length}
use Rattle.std.specs.Io.KnownBytes.{Appends}
use Rattle.fault_counts.specs.Faults.{NeverFell}
use Rattle.fault_counts.proofs.FaultLemmas.{NeverFell_refl, NeverFell_trans, stayed_then_Rose}
use Rattle.byte_io.specs.Sink.{SinkSeen, WritesSome, WriteFails}
use Rattle.byte_io.proofs.SinkLemmas.{Appends_nothing, Appends_append, Appends_kept}
use Rattle.frame_loop.specs.Causes.{SinkCause, failing, stalling}
use Rattle.frame_loop.specs.Delivery.{TookAll, TookPart, TookUpTo, Delivers}

-- the sink took what stands before the rest
pub record Delivering (old now : SinkSeen) (text rest : List ℕ) : Type 0 where
  pub done : List ℕ
  pub text_is : text ≡ done ++ rest
  pub took : Appends old.taken now.taken done
  pub moving : now.stalls ≡ old.stalls
  pub later : NeverFell old.faults now.faults

pub starts : (old : SinkSeen) (text : List ℕ) → Delivering old old text text
starts old text = record { done = []; text_is = refl; took = Appends_nothing old.taken; moving = refl; later = NeverFell_refl old.faults }

-- a write took some bytes of the rest
pub record Advanced (mid new : SinkSeen) (rest : List ℕ) : Type 0 where
  pub count : ℕ
  pub some : 0 < count
  pub writes : WritesSome mid new rest count

pub goes_on : (old mid new : SinkSeen) (text rest : List ℕ) → Delivering old mid text rest → (a : Advanced mid new rest) → Delivering old new text (drop a.count rest)
goes_on old mid new text rest d a =
    let n = a.count in
    let w = a.writes in
    record {
      done = d.done ++ take n rest;
      text_is = d.text_is ∙ ap (λ (q : List ℕ). d.done ++ q) (sym (take-append-drop n rest)) ∙ sym (append_assoc d.done (take n rest) (drop n rest));
      took = Appends_append old.taken mid.taken new.taken d.done (take n rest) d.took w.bytes;
      moving = w.moving a.some ∙ d.moving;
      later = NeverFell_trans old.faults mid.faults new.faults d.later w.later;
    }

pub ends : (old new : SinkSeen) (text rest : List ℕ) → Delivering old new text rest → length rest ≡ 0 → TookAll old new text
ends old new text rest d none = record {
  took = subst (λ (q : List ℕ). Appends old.taken new.taken q) (sym (d.text_is ∙ ap (λ (q : List ℕ). d.done ++ q) (nil_from_length rest none) ∙ append-nil d.done)) d.took;
  moving = d.moving;
  later = d.later;
}

-- the cause of the last call is one of the whole stretch
pub since : (old mid new : SinkSeen) → NeverFell old.faults mid.faults → SinkCause mid new → SinkCause old new
since old mid new later (failing f rose) = failing f (stayed_then_Rose old.faults mid.faults new.faults later rose)
since old mid new later (stalling s) = stalling s

-- the last write took nothing, for a cause
record Stopped (mid new : SinkSeen) : Type 0 where
  nothing : Appends mid.taken new.taken []
  later : NeverFell mid.faults new.faults
  cause : SinkCause mid new

stops : (old mid new : SinkSeen) (text rest : List ℕ) → Delivering old mid text rest → 0 < length rest → Stopped mid new → TookPart old new text
stops old mid new text rest d some stopped = record {
  part = d.done;
  missing = rest;
  text_is = d.text_is;
  some_missing = some;
  took = subst (λ (q : List ℕ). Appends old.taken new.taken q) (append-nil d.done) (Appends_append old.taken mid.taken new.taken d.done [] d.took stopped.nothing);
  later = NeverFell_trans old.faults mid.faults new.faults d.later stopped.later;
  cause = since old mid new d.later stopped.cause;
}

-- a write that took nothing ends it
pub stalls : (old mid new : SinkSeen) (text rest : List ℕ) → Delivering old mid text rest → 0 < length rest → WritesSome mid new rest 0 → TookPart old new text
stalls old mid new text rest d some w = stops old mid new text rest d some (record { nothing = w.bytes; later = w.later; cause = stalling (w.stalled.1 (refl, some)) })

pub fails : (old mid new : SinkSeen) (text rest : List ℕ) → Delivering old mid text rest → 0 < length rest → WriteFails mid new → TookPart old new text
fails old mid new text rest d some f =
    stops old mid new text rest d some (record { nothing = Appends_kept mid.taken new.taken f.kept; later = f.later; cause = failing f.failed f.rose })

-- whatever came of it, the sink took the text or failed at it
pub took_up_to : {E : Type 0} (old new : SinkSeen) (text : List ℕ) (r : Result (Unit {0}) E) → Delivers old new text r → TookUpTo old new text
took_up_to old new text (Ok done) d = record {
  part = text;
  missing = [];
  text_is = sym (append-nil text);
  whole = inl refl;
  took = d.took;
  later = d.later;
}
took_up_to old new text (Err e) d = record {
  part = d.part;
  missing = d.missing;
  text_is = d.text_is;
  whole = inr d.cause;
  took = d.took;
  later = d.later;
}

-- a cause of the last stretch is one of the whole
pub whole_since : (old mid new : SinkSeen) {P : Type 0} → NeverFell old.faults mid.faults → P ⊎ SinkCause mid new → P ⊎ SinkCause old new
whole_since old mid new later (inl whole) = inl whole
whole_since old mid new later (inr cause) = inr (since old mid new later cause)
