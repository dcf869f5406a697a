use Rattle.std.proofs.Common.{rules, ◌≡◌, ℕ, ◌+◌, ◌-◌, ◌<◌, ◌≤◌, ◌^◌, List, ◌++◌, length, take, Ok, Some, false, sym, ◌∙◌, ap, subst, arith}
use Rattle.std.specs.Prelude.{IsTrue, Option, IfSome}
use Rattle.std.proofs.lemmas.List.{length-replicate}
use Rattle.disk_model.specs.FileState.{IsSettled}
use Rattle.disk_model.specs.Moments.{Files}
use Rattle.disk_model.specs.Reads.{seen, IsRead}
use Rattle.disk_model.proofs.MomentLemmas.{last_moment}
use Rattle.gate_journal.specs.Gate.{IsRecordAt, IsStartAt, record_text}
use Rattle.gate_journal.specs.Stand.{Stand, gate_of, text_before}
use Rattle.gate_journal.specs.Answers.{StartAnswer}
use Rattle.gate_journal.proofs.ReadLemmas.{unchanged_then, whole_count, record_read, written_over}
use Rattle.gate_journal.proofs.journal.Journal.next_record.Goals as goal

pub returns-in_err-count : goal.returns-in_err-count
returns-in_err-count g c =
    record {
      answer = search rules;
      readable = search rules;
      at_gate = search rules;
      text = search rules;
      moved = search rules;
      stayed = search rules;
      same = search rules;
      err = search rules;
      unchanged = λ tells. unchanged_then (c.record_size.ensures.unchanged tells) (c.read.ensures.time tells);
      ends = search rules;
      reads = search rules;
    }

-- a telling disk reads the whole record
pub returns-then-count-size : goal.returns-then-count-size
returns-then-count-size g c =
    let old = (g.D.Disk.seen c.args.disk.now).moments in
    let m1 = (g.D.Disk.seen c.record_size.new.disk).moments in
    let stand = c.args.self.now in
    let size = c.in-Some.size in
    let buf = c.read.new.buf in
    let count = c.in_ok-count.count in
    let room = length c.as_mut_slice.result.now in
    let file = seen old stand.file in
    let zeros_are : length c.zeros.new.self ≡ size = ap length c.in_ok-zeros.ensures.ok ∙ length-replicate size 0 in
    let room_is : room ≡ size = ap length c.as_mut_slice.ensures.value ∙ zeros_are in
    let start : (tells : IsTrue g.D.Disk.tells) → IsStartAt file (gate_of stand) stand.limit size = λ tells.
    subst (λ (s : Stand). StartAnswer (seen old s.file) (s.length - 1) s.limit (Ok (Some size))) c.self.view_is
    (subst (λ o. StartAnswer (seen old c.self.inside.file) (c.self.inside.length - 1) c.self.inside.limit (Ok o)) c.in-Some.is (c.in_ok-size.ensures.answer tells)) in
    let read : (tells : IsTrue g.D.Disk.tells) → IsRead file (gate_of stand + 5) room count buf = λ tells.
    let same_file : seen m1 stand.file ≡ file = ap (λ (files : Files). (files stand.file).bytes) (last_moment (c.record_size.ensures.unchanged tells)) in
    subst (λ (f : List ℕ). IsRead f (gate_of stand + 5) room count buf) same_file
    (subst (λ (s : Stand). IsRead (seen m1 s.file) (s.length - 1 + 5) room count buf) c.self.view_is (c.in_ok-count.ensures.bytes tells)) in
    record {
      answer = λ tells.
          let all = whole_count file buf (gate_of stand) stand.limit size count (start tells) (subst (λ (n : ℕ). IsRead file (gate_of stand + 5) n count buf) room_is (read tells)) in
          absurd (omega (arith, all, c.if-count-size.true));
      readable = search rules;
      at_gate = search rules;
      text = search rules;
      moved = search rules;
      stayed = search rules;
      same = search rules;
      err = search rules;
      unchanged = λ tells. unchanged_then (c.record_size.ensures.unchanged tells) (c.read.ensures.time tells);
      ends = search rules;
      reads = search rules;
    }

pub returns : goal.returns
returns g c =
    let old = (g.D.Disk.seen c.args.disk.now).moments in
    let m1 = (g.D.Disk.seen c.record_size.new.disk).moments in
    let stand = c.args.self.now in
    let size = c.in-Some.size in
    let buf = c.read.new.buf in
    let count = c.in_ok-count.count in
    let room = length c.as_mut_slice.result.now in
    let file = seen old stand.file in
    let zeros_are : length c.zeros.new.self ≡ size = ap length c.in_ok-zeros.ensures.ok ∙ length-replicate size 0 in
    let room_is : room ≡ size = ap length c.as_mut_slice.ensures.value ∙ zeros_are in
    let start : (tells : IsTrue g.D.Disk.tells) → IsStartAt file (gate_of stand) stand.limit size = λ tells.
    subst (λ (s : Stand). StartAnswer (seen old s.file) (s.length - 1) s.limit (Ok (Some size))) c.self.view_is
    (subst (λ o. StartAnswer (seen old c.self.inside.file) (c.self.inside.length - 1) c.self.inside.limit (Ok o)) c.in-Some.is (c.in_ok-size.ensures.answer tells)) in
    let read : (tells : IsTrue g.D.Disk.tells) → IsRead file (gate_of stand + 5) room count buf = λ tells.
    let same_file : seen m1 stand.file ≡ file = ap (λ (files : Files). (files stand.file).bytes) (last_moment (c.record_size.ensures.unchanged tells)) in
    subst (λ (f : List ℕ). IsRead f (gate_of stand + 5) room count buf) same_file
    (subst (λ (s : Stand). IsRead (seen m1 s.file) (s.length - 1 + 5) room count buf) c.self.view_is (c.in_ok-count.ensures.bytes tells)) in
    let m2 = (g.D.Disk.seen c.read.new.self).moments in
    let whole : length buf ≡ size = c.read.auto.buf ∙ room_is in
    let found : (tells : IsTrue g.D.Disk.tells) → IsRecordAt file (gate_of stand) stand.limit buf = λ tells.
    record_read file buf (gate_of stand) stand.limit count (subst (λ (n : ℕ). IsStartAt file (gate_of stand) stand.limit n) (sym whole) (start tells))
    (subst (λ (n : ℕ). IsRead file (gate_of stand + 5) n count buf) (sym c.read.auto.buf) (read tells)) in
    let now_is : (tells : IsTrue g.D.Disk.tells) → m2.now ≡ old.now = λ tells. last_moment (unchanged_then (c.record_size.ensures.unchanged tells) (c.read.ensures.time tells)) in
    let all_read = written_over buf c.zeros.new.self (whole ∙ sym zeros_are) in
    let some : 0 < stand.length = subst (λ (s : Stand). 0 < s.length) c.self.view_is c.self.invariant.1 in
    let file_is = ap (λ (s : Stand). s.file) c.self.view_is in
    let length_is = ap (λ (s : Stand). s.length) c.self.view_is in
    let limit_is = ap (λ (s : Stand). s.limit) c.self.view_is in
    let next = c.self.inside.length + (5 + size) in
    record {
      answer = λ tells.
          let after : next ≡ stand.length + length (record_text buf) = omega (arith, length_is, whole) in
          subst (λ (l : List ℕ). IsRecordAt file (gate_of stand) stand.limit l
          × (◌≡◌ {A = Stand} (record { file = c.self.inside.file; length = next; limit = c.self.inside.limit; reached = false }) (record stand { length = stand.length + length (record_text l); reached = false })))
          (sym all_read) (found tells, λ i. record { file = file_is i; length = after i; limit = limit_is i; reached = false });
      readable = λ tells.
          let inside : next ≤ length file = omega (arith, (start tells).inside, length_is, some) in
          record {
            settled = subst (λ f. IsSettled (m2.now f)) (sym file_is) (subst (λ (files : Files). IsSettled (files stand.file)) (sym (now_is tells)) (c.requires.readable tells).settled);
            inside = subst (λ f. next ≤ length (seen m2 f)) (sym file_is) (subst (λ (files : Files). next ≤ length (files stand.file).bytes) (sym (now_is tells)) inside);
          };
      at_gate = search rules;
      text = λ tells more.
          let place : next - 1 ≡ gate_of stand + length (record_text buf) = omega (arith, length_is, whole, some) in
          let reads : take (next - 1) (seen m2 c.self.inside.file) ≡ text_before stand file ++ record_text buf =
          ap (λ (f : ℕ). take (next - 1) (seen m2 f)) file_is ∙ ap (λ (files : Files). take (next - 1) (files stand.file).bytes) (now_is tells)
          ∙ ap (λ (n : ℕ). take n file) place ∙ (found tells).reads in
          reads ∙ ap (λ (l : List ℕ). text_before stand file ++ record_text l) (sym all_read);
      moved = λ more.
          let old_length = c.self.inside.length in
          let limit = c.self.inside.limit in
          let before : ℕ = stand.length in
          let fits : (old_length - 1 + 5 + size < limit) × (size < 2 ^ 32) =
          subst (λ (found : Option ℕ). IfSome found (λ size. (old_length - 1 + 5 + size < limit) × (size < 2 ^ 32))) c.in-Some.is c.in_ok-size.ensures.fits in
          subst (λ (l : List ℕ). (next ≡ before + 5 + length l) × (next ≤ limit)) (sym all_read) (omega (arith, length_is, whole), omega (arith, fits.0, some, length_is));
      stayed = search rules;
      same = search rules;
      err = search rules;
      unchanged = λ tells. unchanged_then (c.record_size.ensures.unchanged tells) (c.read.ensures.time tells);
      ends = search rules;
      reads = search rules;
    }
