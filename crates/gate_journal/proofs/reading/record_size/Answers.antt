use Rattle.std.proofs.Common.{◌≡◌, ◌⊎◌, inl, inr, ℕ, ◌+◌, ◌<◌, ◌≤◌, ◌∷◌, length, take, drop, min, refl, ◌∙◌, ap, subst, arith, rules}
use Rattle.std.specs.Int.{w32, to_le_bytes}
use Rattle.disk_model.specs.Moments.{Files}
use Rattle.disk_model.specs.DiskSeen.{bytes_in}
use Rattle.disk_model.proofs.MomentLemmas.{last_moment}
use Rattle.gate_journal.proofs.ReadLemmas.{unchanged_then, gate_read, whole_start, start_is, start_found, no_record}
use Rattle.gate_journal.proofs.reading.record_size.Goals as goal
use Rattle.gate_journal.proofs.reading.record_size.Goals.{then-count-lt5-via-then-count-lt5, then-count-lt5-via-else-count-lt5+then-end-gate, then-count-lt5-via-else-count-lt5+else-end-gate+then-end-gate-2}

pub returns-in_err-len-clause-unchanged : goal.returns-in_err-len-clause-unchanged
returns-in_err-len-clause-unchanged g c = λ tells. unchanged_then (c.read.ensures.time tells) (c.len.ensures.time tells)

pub returns-then-count-lt5-clause-unchanged : goal.returns-then-count-lt5-clause-unchanged
returns-then-count-lt5-clause-unchanged g c = λ tells. unchanged_then (c.read.ensures.time tells) (c.len.ensures.time tells)

pub returns-clause-unchanged : goal.returns-clause-unchanged
returns-clause-unchanged g c = λ tells. unchanged_then (c.read.ensures.time tells) (c.len.ensures.time tells)

pub returns-then-count-lt5-clause-answer : goal.returns-then-count-lt5-clause-answer
returns-then-count-lt5-clause-answer g c = λ tells.
    let file = bytes_in (g.D.Disk.seen c.args.disk.now) c.args.file in
    let long : c.in_ok-len.field-0 ≡ length file = c.in_ok-len.ensures.size tells ∙ ap (λ (files : Files). length (files c.args.file).bytes) (last_moment (c.read.ensures.time tells)) in
    let end : c.min-end.result ≡ min (length file) c.args.limit = c.min-end.ensures ∙ ap (λ (n : ℕ). min n c.args.limit) long in
    let short : (c.in_ok-count.count < 5) ⊎ (min (length file) c.args.limit ≤ c.args.gate + 5 + c.from-size.result) = elim c.then-count-lt5.branch [
      | then-count-lt5-via-then-count-lt5 w ↦ inl w.if-count-lt5.true
      | then-count-lt5-via-else-count-lt5+then-end-gate w ↦ inr (omega arith)
      | then-count-lt5-via-else-count-lt5+else-end-gate+then-end-gate-2 w ↦ inr (omega arith)
    ] in (
      refl,
      record {
        is_open = gate_read file c.read.new.buf c.args.gate c.in_ok-count.count (c.in_ok-count.ensures.bytes tells) (c.requires.inside tells) ∙ c.if-start-ne-OPEN.false;
        no_record = no_record file c.read.new.buf c.args.gate c.args.limit c.in_ok-count.count (record {
          read = c.in_ok-count.ensures.bytes tells;
          whole = c.read.auto.buf;
          not_fit = subst (λ size. (c.in_ok-count.count < 5) ⊎ (min (length file) c.args.limit ≤ c.args.gate + 5 + size)) (c.from-size.ensures ∙ c.size_field.ensures.value) short;
        });
      },
    )

pub returns-clause-answer : goal.returns-clause-answer
returns-clause-answer g c = λ tells.
    let file = bytes_in (g.D.Disk.seen c.args.disk.now) c.args.file in
    let long : c.in_ok-len.field-0 ≡ length file = c.in_ok-len.ensures.size tells ∙ ap (λ (files : Files). length (files c.args.file).bytes) (last_moment (c.read.ensures.time tells)) in
    let end : c.min-end.result ≡ min (length file) c.args.limit = c.min-end.ensures ∙ ap (λ (n : ℕ). min n c.args.limit) long in
    let start : take 5 (drop c.args.gate file) ≡ 1 ∷ to_le_bytes w32 c.from-size.result =
    whole_start file c.read.new.buf c.args.gate c.in_ok-count.count (c.in_ok-count.ensures.bytes tells) c.read.auto.buf (omega arith)
    ∙ start_is c.read.new.buf c.from-size.result c.read.auto.buf c.if-start-ne-OPEN.false (ap (λ (n : ℕ). to_le_bytes w32 n) c.from-size.ensures ∙ c.size_field.ensures.bytes) in
    start_found file c.args.gate c.args.limit c.from-size.result start (search rules) (omega arith) (omega arith)
