use Rattle.std.proofs.Common.{◌≡◌, ℕ, ◌+◌, ◌-◌, ◌≤◌, List, length, refl, sym, ◌∙◌, subst, arith}
use Rattle.std.specs.Prelude.{Err}
use Rattle.disk_model.specs.DiskSeen.{bytes_in}
use Rattle.image_files.specs.Fronts.{behind_length}
use Rattle.image_files.specs.Reading.{FedAnswer, FeedsImage}
use Rattle.image_files.proofs.FeedLemmas.{none_fed, fed_same, piece_fault}
use Rattle.image_files.proofs.OnlyLemmas.{Quiet, as_fault, quiet_start, quiet_of, quiet_then, fault_then, only_fault, bytes_same}
use Rattle.image_files.proofs.feeding.feed_image.Goals as goal

pub pieces-init : goal.pieces-init
pieces-init g c =
    let quiet = quiet_start g.D.Disk.tells (g.D.Disk.seen c.args.disk.now) in
    record {
      fed = c.requires.none.fed;
      low = omega arith;
      total = c.requires.total;
      has_fed = none_fed g.D.Disk.tells (bytes_in (g.D.Disk.seen c.args.disk.now) c.args.file) c.args.loader.now c.requires.none;
      worked = c.requires.worked;
      none = refl;
      time = quiet.unchanged;
      reads = refl;
      later = quiet.later;
    }

pub feed_piece-requires-clause-inside : goal.feed_piece-requires-clause-inside
feed_piece-requires-clause-inside g c = λ told.
    let tells = g.D.Disk.tells in
    let old = g.D.Disk.seen c.args.disk.now in
    let now = g.D.Disk.seen c.pieces.disk in
    let kept = c.pieces.invariant in
    let quiet : Quiet tells old now = record { unchanged = kept.time; later = kept.later; reads = kept.reads } in
    let long : 9 + c.args.image ≤ length (bytes_in now c.args.file) = subst (λ (l : List ℕ). 9 + c.args.image ≤ length l) (bytes_same tells old now now quiet c.args.file told) (c.requires.inside told) in
    omega (arith, long, kept.low)

pub feed_piece-requires-clause-has_fed : goal.feed_piece-requires-clause-has_fed
feed_piece-requires-clause-has_fed g c =
    let tells = g.D.Disk.tells in
    let old = g.D.Disk.seen c.args.disk.now in
    let now = g.D.Disk.seen c.pieces.disk in
    let kept = c.pieces.invariant in
    let quiet : Quiet tells old now = record { unchanged = kept.time; later = kept.later; reads = kept.reads } in
    fed_same tells (bytes_in old c.args.file) (bytes_in now c.args.file) c.pieces.loader (bytes_same tells old now now quiet c.args.file) kept.has_fed

pub returns-in_err-fed : goal.returns-in_err-fed
returns-in_err-fed g c =
    let tells = g.D.Disk.tells in
    let old = g.D.Disk.seen c.args.disk.now in
    let now = g.D.Disk.seen c.pieces.disk in
    let new = g.D.Disk.seen c.feed_piece.new.disk in
    let kept = c.pieces.invariant in
    let quiet : Quiet tells old now = record { unchanged = kept.time; later = kept.later; reads = kept.reads } in
    let fault = c.in_err-fed.field-0.0 in
    let all : c.pieces.loader.fed + (c.args.image - c.pieces.fed) ≡ c.args.image = omega (arith, kept.fed, kept.low) in
    as_fault (FeedsImage tells c.args.file c.args.image c.feed_piece.new.loader old new) c.from_residual.result fault c.from_residual.ensures.1 (record {
      all = tt;
      has_fed = tt;
      answer = λ told.
          piece_fault (behind_length c.args.image (bytes_in old c.args.file)) fault
          (subst (λ (l : List ℕ). FedAnswer (behind_length c.args.image l) {T = ℕ} (Err fault)) (sym (bytes_same tells old now new quiet c.args.file told))
          (subst (λ (k : ℕ). FedAnswer (behind_length k (bytes_in now c.args.file)) {T = ℕ} (Err fault)) all (c.in_err-fed.ensures.answer told)));
      total = c.feed_piece.ensures.total ∙ kept.total;
      only = only_fault tells old new fault (fault_then tells old now new quiet fault c.in_err-fed.ensures.only);
    })

pub pieces-preserved : goal.pieces-preserved
pieces-preserved g c =
    let tells = g.D.Disk.tells in
    let old = g.D.Disk.seen c.args.disk.now in
    let now = g.D.Disk.seen c.pieces.disk in
    let new = g.D.Disk.seen c.feed_piece.new.disk in
    let kept = c.pieces.invariant in
    let quiet : Quiet tells old now = record { unchanged = kept.time; later = kept.later; reads = kept.reads } in
    let both = quiet_then tells old now new quiet (quiet_of tells now new c.feed_piece.result c.feed_piece.ensures.only) in
    let more = c.in_ok-fed.ensures.more in
    record {
      fed = omega (arith, more.fed, kept.fed);
      low = omega (arith, more.few, kept.low);
      total = c.feed_piece.ensures.total ∙ kept.total;
      has_fed = fed_same tells (bytes_in now c.args.file) (bytes_in old c.args.file) c.feed_piece.new.loader (λ told. sym (bytes_same tells old now new quiet c.args.file told)) more.has_fed;
      worked = c.in_ok-fed.ensures.only.ends.worked;
      none = c.in_ok-fed.ensures.only.ends.none ∙ kept.none;
      time = both.unchanged;
      reads = both.reads;
      later = both.later;
    }
