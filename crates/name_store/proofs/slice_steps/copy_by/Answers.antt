use Rattle.std.proofs.Common.{rules, ◌≡◌, ℕ, length, take, drop, ◌∙◌, subst}
use Rattle.disk_model.specs.DiskSeen.{bytes_in}
use Rattle.disk_model.specs.Reads.{IsRead}
use Rattle.name_store.proofs.SliceStepLemmas.{copied, quiet_others, read_all}
use Rattle.name_store.proofs.slice_steps.copy_by.Goals as goal

pub returns-in_err-read : goal.returns-in_err-read
returns-in_err-read g c = record {
  ok = search rules;
  holds = search rules;
  others = λ tells. quiet_others c.args.draft.now.file (c.read.ensures.time tells);
  ends = record { later = c.read.ensures.call.ends.later; worked = search rules; none = search rules; failed = search rules };
}

pub returns : goal.returns
returns g c =
    let before = g.D.Disk.seen c.args.disk.now in
    let mid = g.D.Disk.seen c.read.new.self in
    let count = c.args.count in
    let into = c.read.new.buf in
    let same : length into ≡ length c.args.buffer.now = search rules in
    let size : length into ≡ count = same ∙ c.requires.size in
    copied g.D.Disk.tells c.args.draft.now c.tail.new.self before mid c.read.ensures.time c.read.ensures.call.ends.later c.in_ok-read.ensures.call.ends.none count (take count (drop c.args.at (bytes_in before c.args.file))) into
    (g.D.Disk.seen c.tail.new.disk) c.tail.result size
    (λ tells. read_all (bytes_in before c.args.file) c.args.at count c.in_ok-read.field-0 into
    (subst (λ (n : ℕ). IsRead (bytes_in before c.args.file) c.args.at n c.in_ok-read.field-0 into) c.requires.size (c.in_ok-read.ensures.bytes tells)) (c.requires.inside tells) size) c.tail.ensures
