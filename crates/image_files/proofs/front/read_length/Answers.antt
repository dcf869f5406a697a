use Rattle.std.proofs.Common.{ℕ, List, length, refl, sym, ◌∙◌, subst, rules}
use Rattle.disk_model.specs.DiskSeen.{bytes_in}
use Rattle.disk_model.specs.Reads.{IsRead}
use Rattle.image_files.specs.Fronts.{LiesInside}
use Rattle.image_files.proofs.FrontLemmas.{front_read, no_front_read}
use Rattle.image_files.proofs.OnlyLemmas.{quiet_call, quiet_then, bytes_same, only_ok, only_other}
use Rattle.image_files.proofs.front.read_length.Goals as goal

pub returns-in_err-read : goal.returns-in_err-read
returns-in_err-read g c =
    let tells = g.D.Disk.tells in
    let old = g.D.Disk.seen c.args.disk.now in
    let mid = g.D.Disk.seen c.len.new.self in
    let new = g.D.Disk.seen c.read.new.self in
    let quiet = quiet_then tells old mid new (quiet_call tells old mid c.len.result c.len.ensures.time c.len.ensures.call) (quiet_call tells mid new c.read.result c.read.ensures.time c.read.ensures.call) in
    record {
      answer = search rules;
      short = search rules;
      only = record { unchanged = quiet.unchanged; ends = search rules; reads = quiet.reads };
    }

pub returns-then-not-lies_inside : goal.returns-then-not-lies_inside
returns-then-not-lies_inside g c =
    let tells = g.D.Disk.tells in
    let old = g.D.Disk.seen c.args.disk.now in
    let mid = g.D.Disk.seen c.len.new.self in
    let new = g.D.Disk.seen c.read.new.self in
    let first = quiet_call tells old mid c.len.result c.len.ensures.time c.len.ensures.call in
    let quiet = quiet_then tells old mid new first (quiet_call tells mid new c.read.result c.read.ensures.time c.read.ensures.call) in
    let image = c.length_of-image.result in
    record {
      answer = λ told.
          let file = bytes_in old c.args.file in
          let not : ¬ (LiesInside c.args.longest image (length file)) = λ lies. cc (c.lies_inside.ensures.1 (subst (λ (k : ℕ). LiesInside c.args.longest image k) (sym (c.in_ok-size.ensures.size told)) lies)) in
          let read = subst (λ (l : List ℕ). IsRead l 0 8 c.in_ok-read.field-0 c.read.new.buf) (sym (bytes_same tells old mid new first c.args.file told)) (c.in_ok-read.ensures.bytes told) in
          (refl, no_front_read file c.read.new.buf c.in_ok-read.field-0 read c.read.auto.buf image c.length_of-image.ensures.value c.args.longest not);
      short = tt;
      only = only_other tells old new quiet _ (λ same. cc);
    }

pub returns : goal.returns
returns g c =
    let tells = g.D.Disk.tells in
    let old = g.D.Disk.seen c.args.disk.now in
    let mid = g.D.Disk.seen c.len.new.self in
    let new = g.D.Disk.seen c.read.new.self in
    let first = quiet_call tells old mid c.len.result c.len.ensures.time c.len.ensures.call in
    let quiet = quiet_then tells old mid new first (quiet_call tells mid new c.read.result c.read.ensures.time c.read.ensures.call) in
    let image = c.length_of-image.result in
    let lies = c.lies_inside.ensures.0 c.if-not-lies_inside.false in
    record {
      answer = λ told.
          let file = bytes_in old c.args.file in
          let read = subst (λ (l : List ℕ). IsRead l 0 8 c.in_ok-read.field-0 c.read.new.buf) (sym (bytes_same tells old mid new first c.args.file told)) (c.in_ok-read.ensures.bytes told) in
          front_read file c.read.new.buf c.in_ok-read.field-0 read c.read.auto.buf image c.length_of-image.ensures.value c.args.longest (subst (λ (k : ℕ). LiesInside c.args.longest image k) (c.in_ok-size.ensures.size told) lies)
          c.length_of-image.ensures.bytes;
      short = lies.short;
      only = only_ok tells old new quiet image c.in_ok-read.ensures.call.ends.worked (c.in_ok-read.ensures.call.ends.none ∙ c.in_ok-size.ensures.call.ends.none);
    }
