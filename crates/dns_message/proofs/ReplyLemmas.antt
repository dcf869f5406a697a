-- A reply that is being written, with one record more.
use Rattle.std.proofs.Common.{◌≡◌, ℕ, ◌+◌, ◌-◌, ◌<◌, ◌≤◌, List, ◌++◌, length, take, drop, true, false, refl, sym, ap, ◌∙◌, arith, length-append, length-drop}
use Rattle.std.proofs.lemmas.List.{take_at}
use Rattle.std.proofs.lemmas.Grind.{common_steps}
use Rattle.dns_message.specs.Edns.{opt_size_of_reply}
use Rattle.dns_message.specs.Query.{Query, question_text}
use Rattle.dns_message.specs.Header.{word_text}
use Rattle.dns_message.specs.Records.{Record, record_text}
use Rattle.dns_message.specs.Replies.{Contents, body_text}
use Rattle.dns_message.specs.Holding.{Holds, with_record, MayAdd, one_more_of, answers_with, authorities_with}
use Rattle.dns_message.specs.declared.counts.Section.{Section}
use Rattle.dns_message.specs.declared.numbers.TheConstants.{HEADER_SIZE, TYPE_AND_CLASS_SIZE}
use Rattle.dns_message.specs.declared.reply.Reply.{Reply}
use Rattle.dns_message.proofs.BufferLemmas.{length-take, take-take, end_of, front_kept, body_grown, behind_header}
use Rattle.dns_message.proofs.RecordLemmas.{body_text-with_record, length-body_text-with_record, length-answer_with, length-authority_with, one_more_in_all}

-- the name stands at the front of the question
question_name : (q : Query) → take (length q.name) (question_text q) ≡ q.name
question_name q = take_at q.name (word_text q.kind ++ word_text q.«class») (length q.name) refl

-- the question's name in the buffer
pub asked_name : (q : Query) (buf : List ℕ) (start : ℕ) → start ≡ HEADER_SIZE + length (question_text q) → start ≤ length buf
    → drop HEADER_SIZE (take start buf) ≡ question_text q → take (start - TYPE_AND_CLASS_SIZE - HEADER_SIZE) (drop HEADER_SIZE buf) ≡ q.name
asked_name q buf start s l h =
    let four : length (question_text q) ≡ length q.name + 4 = length-append q.name (word_text q.kind ++ word_text q.«class») in
    let size : start - TYPE_AND_CLASS_SIZE - HEADER_SIZE ≡ length q.name = omega arith in
    ap (λ k. take k (drop HEADER_SIZE buf)) size ∙ sym (take-take (length q.name) (start - HEADER_SIZE) (drop HEADER_SIZE buf) (omega arith))
    ∙ ap (take (length q.name)) (sym (behind_header start buf (omega arith)) ∙ h) ∙ question_name q

-- the reply, with a record more up to this place
abbrev pub longer : Section → ℕ → Reply → Reply
longer section n r = record { id = r.id; flags = r.flags; edns = r.edns; limit = r.limit; start = r.start; len = n; counts = one_more_of section r.counts; truncated = r.truncated }

-- a record that fits
pub added : (section : Section) (rec : Record) (t : Contents) (r : Reply) (old new : List ℕ) (n : ℕ) → Holds t r old → MayAdd section t
    → r.truncated ≡ false → n + opt_size_of_reply r.edns ≤ r.limit → length new ≡ length old → take n new ≡ take r.len old ++ record_text t.query.name rec
    → Holds (with_record section rec t) (longer section n r) new
added section rec t r old new n h may whole fits same text =
    let piece = record_text t.query.name rec in
    let le : r.len ≤ length old = omega (arith, h.within, h.room) in
    let ends : n ≡ r.len + length piece = end_of r.len n old new piece le (omega (arith, h.room)) text in
    let some : 1 ≤ length piece = grind (arith, common_steps) in
    let min : HEADER_SIZE ≤ r.len = omega (arith, h.start, h.from) in
    record {
      room = omega (arith, h.room);
      small = h.small;
      id = h.id;
      flags = h.flags;
      edns = h.edns;
      start = h.start;
      from = omega (arith, h.from);
      within = fits;
      question = ap (drop HEADER_SIZE) (front_kept r.start r.len n old new piece h.from le (omega arith) text) ∙ h.question;
      few = let more = one_more_in_all section r.counts.answers r.counts.authorities in omega (arith, h.few, more);
      answers = λ c. ap (answers_with section) (h.answers c) ∙ length-answer_with section rec t.answer;
      authorities = λ c. ap (authorities_with section) (h.authorities c) ∙ length-authority_with section rec t.authority;
      text = λ c. body_grown r.len n old new piece (body_text t) min le text (h.text c) ∙ body_text-with_record section rec t may;
      over = λ c. absurd (cc);
    }

-- the reply, truncated
abbrev pub shortened : Reply → Reply
shortened r = record { id = r.id; flags = r.flags; edns = r.edns; limit = r.limit; start = r.start; len = r.len; counts = r.counts; truncated = true }

-- a record that doesn't fit, or that comes after one that didn't
pub not_added : (section : Section) (rec : Record) (t : Contents) (r : Reply) (buf : List ℕ) → Holds t r buf → MayAdd section t
    → r.limit < HEADER_SIZE + (length (body_text t) + length (record_text t.query.name rec) + opt_size_of_reply r.edns)
    → Holds (with_record section rec t) (shortened r) buf
not_added section rec t r buf h may full =
    let more = length-body_text-with_record section rec t may in
    record {
      room = h.room;
      small = h.small;
      id = h.id;
      flags = h.flags;
      edns = h.edns;
      start = h.start;
      from = h.from;
      within = h.within;
      question = h.question;
      few = h.few;
      answers = λ c. absurd (cc);
      authorities = λ c. absurd (cc);
      text = λ c. absurd (cc);
      over = λ c. omega (arith, more, full);
    }

-- of a buffer its room and its front count
pub Holds-front : (t : Contents) (r : Reply) (old new : List ℕ) → Holds t r old → r.limit ≤ length new → take r.len new ≡ take r.len old → Holds t r new
Holds-front t r old new h room same =
    let start : take r.start new ≡ take r.start old = sym (take-take r.start r.len new h.from) ∙ ap (take r.start) same ∙ take-take r.start r.len old h.from in
    record {
      room = room;
      small = h.small;
      id = h.id;
      flags = h.flags;
      edns = h.edns;
      start = h.start;
      from = h.from;
      within = h.within;
      question = ap (drop HEADER_SIZE) start ∙ h.question;
      few = h.few;
      answers = h.answers;
      authorities = h.authorities;
      text = λ c. ap (drop HEADER_SIZE) same ∙ h.text c;
      over = h.over;
    }

-- where the text ends
pub held_length : (t : Contents) (r : Reply) (buf : List ℕ) → Holds t r buf → r.truncated ≡ false → HEADER_SIZE + length (body_text t) ≡ r.len
held_length t r buf h whole =
    let min : HEADER_SIZE ≤ r.len = omega (arith, h.start, h.from) in
    let size : length (take (r.len - HEADER_SIZE) (drop HEADER_SIZE buf)) ≡ r.len - HEADER_SIZE =
    length-take (r.len - HEADER_SIZE) (drop HEADER_SIZE buf) (omega (arith, length-drop HEADER_SIZE buf, h.within, h.room)) in
    let body : length (body_text t) ≡ r.len - HEADER_SIZE = ap length (sym (h.text whole) ∙ behind_header r.len buf min) ∙ size in
    omega arith
