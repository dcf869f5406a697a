-- What a crash leaves of a journal while a record is appended.
use Rattle.std.proofs.Common.{◌≡◌, ◌≢◌, ◌⊎◌, inl, inr, ℕ, ◌+◌, ◌-◌, ◌<◌, ◌≤◌, List, [], ◌∷◌, ◌++◌, length, take, drop, refl, sym, ◌∙◌, ap, subst, arith, append_assoc, length-append, length-take, length-drop, take-append-drop}
use Rattle.std.specs.Prelude.{slice_index}
use Rattle.std.specs.Int.{w32, to_le_bytes}
use Rattle.std.proofs.lemmas.Bool.{cases_eq}
use Rattle.std.proofs.lemmas.List.{ext_get_or, get_or-take, get_or-drop, take_at, drop_at, drop_more, get_or_at, take-take, take-append-le}
use Rattle.disk_model.specs.FileState.{FileState, IsFileImage, IsSettled, put}
use Rattle.disk_model.specs.Moments.{Files, Moments, EachMoment, start}
use Rattle.disk_model.specs.Reads.{seen}
use Rattle.disk_model.specs.Changes.{Changes}
use Rattle.disk_model.proofs.MomentLemmas.{weaken, join, last_moment}
use Rattle.disk_model.proofs.ImageLemmas.{IsSettled-image}
use Rattle.gate_journal.specs.Gate.{IsClosed, ClosedAfter, behind_gate, record_text}
use Rattle.gate_journal.specs.Stand.{Stand, gate_of, text_before, IsAtGate}
use Rattle.gate_journal.specs.Writes.{KeepsBelow, IsSettledBut, OpensSettled, IsBeforeOrAfter, IsOpenedOrClosed, HoldsGate}
use Rattle.gate_journal.proofs.WriteLemmas.{HoldsPlace, KeepsBelow-sync, KeepsBelow-refl, changes_then, length-put}

-- a text, a closed gate, and anything
pub closed_front : (text rest : List ℕ) (gate : ℕ) → gate ≢ 1 → ClosedAfter text (text ++ gate ∷ rest)
closed_front text rest gate shut = record {
  begins = take_at text (gate ∷ rest) (length text) refl;
  inside = omega (arith, length-append text (gate ∷ rest));
  closed = subst (λ n. n ≢ 1) (sym (get_or_at text gate rest 0 (length text) refl)) shut;
}

-- a closed gate put behind a text
pub created : (at : ℕ) (old new : List ℕ) → at ≤ length old → new ≡ put old at (0 ∷ []) → (at + 1 ≤ length new) × IsClosed new (at + 1 - 1) × (take at new ≡ take at old)
created at old new inside is =
    let text = take at old in
    let shut : ClosedAfter text new = subst (ClosedAfter text) (sym is) (closed_front text (drop (at + 1) old) 0 (omega arith)) in
    let size : length text ≡ at = omega (arith, length-take at old) in
    let place : length text ≡ at + 1 - 1 = omega (arith, size) in (
      omega (arith, size, shut.inside),
      subst (IsClosed new) place shut.closed,
      ap (λ (n : ℕ). take n new) (sym size) ∙ shut.begins,
    )

-- the same bytes before a place
same_front : (n : ℕ) (a b : List ℕ) → n ≤ length a → n ≤ length b → ((p : ℕ) → p < n → slice_index a p ≡ slice_index b p) → take n a ≡ take n b
same_front n a b in_a in_b same = ext_get_or 0 (take n a) (take n b) (omega (arith, length-take n a, length-take n b))
    (λ p low. let below : p < n = omega (arith, length-take n a) in get_or-take n a p 0 below ∙ same p below ∙ sym (get_or-take n b p 0 below))

-- where the first bytes of a file stay, with a closed gate after the text, each image has the text and the gate
pub kept_image : (gate : ℕ) (old new : FileState) (image : List ℕ) → HoldsPlace gate old → IsClosed old.bytes gate → KeepsBelow (gate + 1) old new → IsFileImage new image
    → ClosedAfter (take gate old.bytes) image
kept_image gate old new image holds closed keeps is =
    let within = holds.inside in
    let size : length (take gate old.bytes) ≡ gate = omega (arith, length-take gate old.bytes) in
    let stays = λ (p : ℕ) (low : p < gate + 1). keeps.kept p low (holds.settled.each p (omega arith)) in
    let at_gate = stays gate (omega arith) in
    let long : gate < length image = is.inside gate at_gate.settled in
    let same : (p : ℕ) → p < gate + 1 → slice_index image p ≡ slice_index old.bytes p = λ p low. is.kept p (stays p low).settled ∙ (stays p low).same in
    record {
      begins = ap (λ (n : ℕ). take n image) size ∙ same_front gate image old.bytes (omega arith) (omega arith) (λ p low. same p (omega arith));
      inside = omega (arith, size, long);
      closed = subst (λ n. IsClosed image n) (sym size) (subst (λ v. v ≢ 1) (sym (same gate (omega arith))) closed);
    }

-- as many bytes, and the same ones but at the gate
record IsSameBut (gate : ℕ) (bytes image : List ℕ) : Type 0 where
  size : length image ≡ length bytes
  same : (p : ℕ) → p < length bytes → p ≢ gate → slice_index image p ≡ slice_index bytes p

-- where each byte but the gate's is settled, an image is the file with some gate
but_image : (gate : ℕ) (bytes : List ℕ) (file : FileState) (image : List ℕ) → IsSettledBut gate bytes file → IsFileImage file image → IsSameBut gate bytes image
but_image gate bytes file image but is = record {
  size = omega (arith, but.no_shorter, but.no_longer, is.no_shorter, is.no_longer);
  same = λ p low differ. is.kept p (but.settled p low differ) ∙ but.same p low differ;
}

-- with some byte at the gate
gate_alone : (gate : ℕ) (bytes image : List ℕ) → gate < length bytes → IsSameBut gate bytes image → image ≡ put bytes gate (slice_index image gate ∷ [])
gate_alone gate bytes image inside but =
    let size = but.size in
    let same = but.same in
    let low_gate : gate < length image = omega arith in
    let whole : image ≡ take gate image ++ (slice_index image gate ∷ drop (gate + 1) image) =
    sym (take-append-drop gate image) ∙ ap (λ (l : List ℕ). take gate image ++ l) (drop_more image gate 0 low_gate) in
    let front : take gate image ≡ take gate bytes =
    same_front gate image bytes (omega arith) (omega arith) (λ p low. let differ : p ≢ gate = omega arith in same p (omega arith) differ) in
    let back : drop (gate + 1) image ≡ drop (gate + 1) bytes =
    ext_get_or 0 (drop (gate + 1) image) (drop (gate + 1) bytes) (omega (arith, length-drop (gate + 1) image, length-drop (gate + 1) bytes))
    (λ p low. let differ : gate + 1 + p ≢ gate = omega arith in
    let within : gate + 1 + p < length bytes = omega (arith, length-drop (gate + 1) image) in
    get_or-drop (gate + 1) image p 0 ∙ same (gate + 1 + p) within differ ∙ sym (get_or-drop (gate + 1) bytes p 0)) in
    whole ∙ (λ i. front i ++ (slice_index image gate ∷ back i))

-- with an open gate
opened_is : (gate : ℕ) (bytes image : List ℕ) → gate < length bytes → IsSameBut gate bytes image → slice_index image gate ≡ 1 → image ≡ put bytes gate (1 ∷ [])
opened_is gate bytes image inside but is_open = gate_alone gate bytes image inside but ∙ ap (λ (byte : ℕ). put bytes gate (byte ∷ [])) is_open

-- with a closed gate
shut_is : (gate : ℕ) (bytes image : List ℕ) → gate < length bytes → IsSameBut gate bytes image → IsClosed image gate → ClosedAfter (take gate bytes) image
shut_is gate bytes image inside but shut =
    let size = but.size in
    let long : length (take gate bytes) ≡ gate = omega (arith, length-take gate bytes) in
    record {
      begins = ap (λ (n : ℕ). take n image) long ∙ same_front gate image bytes (omega arith) (omega arith) (λ p low. let differ : p ≢ gate = omega arith in but.same p (omega arith) differ);
      inside = omega (arith, long, size);
      closed = subst (λ n. IsClosed image n) (sym long) shut;
    }

opened_or_closed : (gate : ℕ) (bytes image : List ℕ) → image ≡ put bytes gate (slice_index image gate ∷ []) → IsOpenedOrClosed gate bytes image
opened_or_closed gate bytes image is = elim (cases_eq (slice_index image gate) 1) [
  | inl is_open ↦ inl (is ∙ ap (λ (byte : ℕ). put bytes gate (byte ∷ [])) is_open)
  | inr shut ↦ inr (slice_index image gate, shut, is)
]

-- where each byte but the gate's is settled, each image holds the gate open or closed
pub holds_gate : (file gate : ℕ) (bytes : List ℕ) (old new : Moments) → gate < length bytes → EachMoment (Changes file (λ _ new. IsSettledBut gate bytes new) old.now) old new
    → EachMoment (HoldsGate file gate bytes old.now) old new
holds_gate file gate bytes old new inside each = weaken (HoldsGate file gate bytes old.now) (λ files so. record {
  image = λ image is. opened_or_closed gate bytes image (gate_alone gate bytes image inside (but_image gate bytes (files file) image so.here is));
  others = so.others;
}) each

-- the file once the record is appended: the text, an open gate, what was written behind it but its last byte,
-- and that closed gate
pub appended_is : (bytes behind : List ℕ) (gate : ℕ) → gate < length bytes
    → put (put bytes (gate + 1) (behind ++ 0 ∷ [])) gate (1 ∷ []) ≡ (take gate bytes ++ (1 ∷ behind)) ++ 0 ∷ drop (gate + 1 + length (behind ++ 0 ∷ [])) bytes
appended_is bytes behind gate inside =
    let rest = drop (gate + 1 + length (behind ++ 0 ∷ [])) bytes in
    let written = (behind ++ 0 ∷ []) ++ rest in
    let size : length (take (gate + 1) bytes) ≡ gate + 1 = omega (arith, length-take (gate + 1) bytes) in
    let front : take gate (take (gate + 1) bytes ++ written) ≡ take gate bytes =
    take-append-le gate (take (gate + 1) bytes) written (omega arith) ∙ take-take gate (gate + 1) bytes (omega arith) in
    let back : drop (gate + 1) (take (gate + 1) bytes ++ written) ≡ behind ++ 0 ∷ rest =
    drop_at (take (gate + 1) bytes) written (gate + 1) size ∙ append_assoc behind (0 ∷ []) rest in
    (λ i. front i ++ (1 ∷ back i)) ∙ sym (append_assoc (take gate bytes) (1 ∷ behind) (0 ∷ rest))

-- what is written behind the gate is the record's length, the record and a closed gate
pub behind_is : (head body : List ℕ) → (to_le_bytes w32 (length head + length body) ++ head) ++ (body ++ 0 ∷ []) ≡ behind_gate (head ++ body) ++ 0 ∷ []
behind_is head body =
    let start = to_le_bytes w32 (length head + length body) in
    append_assoc start head (body ++ 0 ∷ []) ∙ ap (λ (l : List ℕ). start ++ l) (sym (append_assoc head body (0 ∷ []))) ∙ sym (append_assoc start (head ++ body) (0 ∷ []))
    ∙ ap (λ (n : ℕ). (to_le_bytes w32 n ++ (head ++ body)) ++ 0 ∷ []) (sym (length-append head body))

-- a settled file holds a closed gate, and everything up to that gate was kept
pub record IsStaged (file gate : ℕ) (old m1 : Moments) : Type 0 where
  pub holds : HoldsPlace gate (old.now file)
  pub closed : IsClosed (seen old file) gate
  pub kept : EachMoment (Changes file (KeepsBelow (gate + 1)) old.now) old m1

-- and behind it these bytes were written, and a closed gate
pub record IsWritten (file gate : ℕ) (behind : List ℕ) (old m1 : Moments) : Type 0 where
  pub staged : IsStaged file gate old m1
  pub wrote : seen m1 file ≡ put (seen old file) (gate + 1) (behind ++ 0 ∷ [])

module _ (file gate : ℕ) (behind : List ℕ) (old m1 : Moments) (is : IsStaged file gate old m1) where
  staying : (files : Files) → Changes file (KeepsBelow (gate + 1)) old.now files → IsBeforeOrAfter file (take gate (seen old file)) (take gate (seen old file) ++ (1 ∷ behind)) old.now files
  staying files so = record { image = λ image shows. inl (kept_image gate (old.now file) (files file) image is.holds is.closed so.here shows); others = so.others }

  pub append_staged : EachMoment (IsBeforeOrAfter file (take gate (seen old file)) (take gate (seen old file) ++ (1 ∷ behind)) old.now) old m1
  append_staged = weaken (IsBeforeOrAfter file (take gate (seen old file)) (take gate (seen old file) ++ (1 ∷ behind)) old.now) staying is.kept

module _ (file gate : ℕ) (behind : List ℕ) (old m1 : Moments) (is : IsWritten file gate behind old m1) where
  abbrev before : List ℕ
  before = take gate (seen old file)

  abbrev later : List ℕ
  later = take gate (seen old file) ++ (1 ∷ behind)

  abbrev rest : List ℕ
  rest = drop (gate + 1 + length (behind ++ 0 ∷ [])) (seen old file)

  -- the file with its gate opened
  pub opened_file : put (seen m1 file) gate (1 ∷ []) ≡ (take gate (seen old file) ++ (1 ∷ behind)) ++ 0 ∷ drop (gate + 1 + length (behind ++ 0 ∷ [])) (seen old file)
  opened_file = ap (λ (l : List ℕ). put l gate (1 ∷ [])) is.wrote ∙ appended_is (seen old file) behind gate is.staged.holds.inside

  m1_files : Changes file (KeepsBelow (gate + 1)) old.now m1.now
  m1_files = last_moment is.staged.kept

  m1_long : gate < length (seen m1 file)
  m1_long = omega (arith, is.staged.holds.inside, ap length is.wrote, length-put (seen old file) (behind ++ 0 ∷ []) (gate + 1) (omega (arith, is.staged.holds.inside)))

  -- what stood before the gate stands there still
  m1_front : take gate (seen m1 file) ≡ take gate (seen old file)
  m1_front = same_front gate (seen m1 file) (seen old file) (omega (arith, m1_long)) (omega (arith, is.staged.holds.inside))
      (λ p low. (m1_files.here.kept p (omega arith) (is.staged.holds.settled.each p (omega (arith, is.staged.holds.inside)))).same)

  either : (image : List ℕ) → IsSameBut gate (seen m1 file) image → ClosedAfter before image ⊎ ClosedAfter later image
  either image but = elim (cases_eq (slice_index image gate) 1) [
    | inl is_open ↦ inr (subst (ClosedAfter later) (sym (opened_is gate (seen m1 file) image m1_long but is_open ∙ opened_file)) (closed_front later rest 0 (omega arith)))
    | inr shut ↦ inl (subst (λ (l : List ℕ). ClosedAfter l image) m1_front (shut_is gate (seen m1 file) image m1_long but shut))
  ]

  opening : (files : Files) → OpensSettled file gate (seen m1 file) m1.now files → IsBeforeOrAfter file (take gate (seen old file)) (take gate (seen old file) ++ (1 ∷ behind)) old.now files
  opening files (inl synced) =
      staying file gate behind old m1 is.staged files (changes_then (KeepsBelow (gate + 1)) file old.now m1.now files (λ a b. KeepsBelow-sync (gate + 1) (old.now file) (m1.now file) (files file) a b) m1_files synced)
  opening files (inr but) = record {
    image = λ image shows. either image (but_image gate (seen m1 file) (files file) image but.here shows);
    others = λ other differ. but.others other differ ∙ m1_files.others other differ;
  }

  pub append_opened : (m2 : Moments) → EachMoment (OpensSettled file gate (seen m1 file) m1.now) m1 m2
      → EachMoment (IsBeforeOrAfter file (take gate (seen old file)) (take gate (seen old file) ++ (1 ∷ behind)) old.now) old m2
  append_opened m2 opens =
      join (append_staged file gate behind old m1 is.staged) (weaken (IsBeforeOrAfter file (take gate (seen old file)) (take gate (seen old file) ++ (1 ∷ behind)) old.now) opening opens)

-- a journal stands at its closed gate, and what stood up to there was kept
pub record Stages (stand : Stand) (old m1 : Moments) : Type 0 where
  pub some : 0 < stand.length
  pub at : IsAtGate stand (old.now stand.file)
  pub kept : EachMoment (Changes stand.file (KeepsBelow stand.length) old.now) old m1

-- the record was written behind the gate, and the gate is opened
pub record OpensRecord (stand : Stand) (head body : List ℕ) (old m1 m2 : Moments) : Type 0 where
  pub stages : Stages stand old m1
  pub wrote : seen m1 stand.file ≡ put (seen old stand.file) stand.length ((to_le_bytes w32 (length head + length body) ++ head) ++ (body ++ 0 ∷ []))
  pub opens : EachMoment (OpensSettled stand.file (stand.length - 1) (seen m1 stand.file) m1.now) m1 m2

-- and the gate is open
pub record HasOpened (stand : Stand) (head body : List ℕ) (old m1 m2 : Moments) : Type 0 where
  pub opens : OpensRecord stand head body old m1 m2
  pub opened : seen m2 stand.file ≡ put (seen m1 stand.file) (stand.length - 1) (1 ∷ [])
  pub settled : IsSettled (m2.now stand.file)

-- nothing was done yet
pub nothing_staged : (stand : Stand) (old : Moments) → 0 < stand.length → IsAtGate stand (old.now stand.file) → Stages stand old old
nothing_staged stand old some at = record {
  some = some;
  at = at;
  kept = start (record { here = KeepsBelow-refl stand.length (old.now stand.file); others = λ other differ. refl });
}

next_to : (stand : Stand) → 0 < stand.length → gate_of stand + 1 ≡ stand.length
next_to stand some = omega arith

staged_of : (stand : Stand) (old m1 : Moments) → Stages stand old m1 → IsStaged stand.file (gate_of stand) old m1
staged_of stand old m1 is = record {
  holds = record { inside = omega (arith, is.at.inside, is.some); settled = is.at.settled };
  closed = is.at.closed;
  kept = subst (λ n. EachMoment (Changes stand.file (KeepsBelow n) old.now) old m1) (sym (next_to stand is.some)) is.kept;
}

written_of : (stand : Stand) (head body : List ℕ) (old m1 m2 : Moments) → OpensRecord stand head body old m1 m2 → IsWritten stand.file (gate_of stand) (behind_gate (head ++ body)) old m1
written_of stand head body old m1 m2 is = record {
  staged = staged_of stand old m1 is.stages;
  wrote = is.wrote ∙ (λ i. put (seen old stand.file) (sym (next_to stand is.stages.some) i) (behind_is head body i));
}

pub stand_staged : (stand : Stand) (head body : List ℕ) (old m1 : Moments) → Stages stand old m1
    → EachMoment (IsBeforeOrAfter stand.file (text_before stand (seen old stand.file)) (text_before stand (seen old stand.file) ++ record_text (head ++ body)) old.now) old m1
stand_staged stand head body old m1 is = append_staged stand.file (gate_of stand) (behind_gate (head ++ body)) old m1 (staged_of stand old m1 is)

pub stand_opened : (stand : Stand) (head body : List ℕ) (old m1 m2 : Moments) → OpensRecord stand head body old m1 m2
    → EachMoment (IsBeforeOrAfter stand.file (text_before stand (seen old stand.file)) (text_before stand (seen old stand.file) ++ record_text (head ++ body)) old.now) old m2
stand_opened stand head body old m1 m2 is = append_opened stand.file (gate_of stand) (behind_gate (head ++ body)) old m1 (written_of stand head body old m1 m2 is) m2 is.opens

-- what a settled file holds, each image holds
pub settled_holds : (text : List ℕ) (file : FileState) → IsSettled file → ClosedAfter text file.bytes → (image : List ℕ) → IsFileImage file image → ClosedAfter text image
settled_holds text file settled holds image shows = subst (ClosedAfter text) (sym (IsSettled-image file image settled shows)) holds

-- the file byte for byte, what each image has, and the gate that the journal has come to
module _ (stand : Stand) (head body : List ℕ) (old m1 m2 : Moments) (is : HasOpened stand head body old m1 m2) where
  abbrev with_record : List ℕ
  with_record = text_before stand (seen old stand.file) ++ record_text (head ++ body)

  abbrev rest_of : List ℕ
  rest_of = drop (gate_of stand + 1 + length (behind_gate (head ++ body) ++ 0 ∷ [])) (seen old stand.file)

  file_is : seen m2 stand.file ≡ with_record ++ 0 ∷ rest_of
  file_is = is.opened ∙ opened_file stand.file (gate_of stand) (behind_gate (head ++ body)) old m1 (written_of stand head body old m1 m2 is.opens)

  -- the file holds the text with the record, and a closed gate
  pub stand_holds : ClosedAfter (text_before stand (seen old stand.file) ++ record_text (head ++ body)) (seen m2 stand.file)
  stand_holds = subst (ClosedAfter with_record) (sym file_is) (closed_front with_record rest_of 0 (omega arith))

  size_of : length with_record ≡ gate_of stand + (1 + (4 + (length head + length body)))
  size_of =
      let within : gate_of stand < length (seen old stand.file) = omega (arith, is.opens.stages.at.inside, is.opens.stages.some) in
      omega (arith, length-append (text_before stand (seen old stand.file)) (record_text (head ++ body)), length-take (gate_of stand) (seen old stand.file), within, length-append head body)

  place_of : length with_record ≡ stand.length + 5 + length head + length body - 1
  place_of = omega (arith, size_of, is.opens.stages.some)

  pub stand_whole : seen m2 stand.file ≡ put (put (seen old stand.file) stand.length (behind_gate (head ++ body) ++ 0 ∷ [])) (gate_of stand) (1 ∷ [])
  stand_whole = is.opened ∙ ap (λ (l : List ℕ). put l (gate_of stand) (1 ∷ [])) (is.opens.wrote ∙ ap (λ (l : List ℕ). put (seen old stand.file) stand.length l) (behind_is head body))

  pub stand_inside : stand.length + 5 + length head + length body ≤ length (seen m2 stand.file)
  stand_inside = omega (arith, stand_holds.inside, place_of, is.opens.stages.some)

  pub stand_closed : IsClosed (seen m2 stand.file) (stand.length + 5 + length head + length body - 1)
  stand_closed = subst (λ p. IsClosed (seen m2 stand.file) p) place_of stand_holds.closed

  pub stand_text : take (stand.length + 5 + length head + length body - 1) (seen m2 stand.file) ≡ text_before stand (seen old stand.file) ++ record_text (head ++ body)
  stand_text = subst (λ p. take p (seen m2 stand.file) ≡ with_record) place_of stand_holds.begins
