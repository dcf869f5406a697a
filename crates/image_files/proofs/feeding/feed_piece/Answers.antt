use Rattle.std.proofs.Common.{◌≡◌, ℕ, ◌+◌, ◌≤◌, length, take, sym, ◌∙◌, ap, subst, arith, length-take}
use Rattle.disk_model.specs.DiskSeen.{bytes_in}
use Rattle.disk_model.specs.Reads.{IsRead}
use Rattle.image_files.specs.Reading.{FeedsPiece}
use Rattle.image_files.proofs.FeedLemmas.{fed_more, fed_fault, feed_not_disk}
use Rattle.image_files.proofs.OnlyLemmas.{as_fault, quiet_call, only_ok, only_other}
use Rattle.image_files.proofs.feeding.feed_piece.Goals as goal

pub returns-in_err-feed : goal.returns-in_err-feed
returns-in_err-feed g c =
    let tells = g.D.Disk.tells in
    let old = g.D.Disk.seen c.args.disk.now in
    let new = g.D.Disk.seen c.read.new.self in
    let file = bytes_in old c.args.file in
    let loader = c.args.loader.now in
    let has = c.requires.has_fed in
    let count = c.min-count.result in
    let fault = c.in_err-feed.field-0.0 in
    let feeds = c.in_err-feed.ensures.feeds has.text has.read in
    let low : count ≤ c.in_ok-read.read = omega (arith, c.min-count.ensures) in
    let few : count ≤ c.args.left = omega (arith, c.min-count.ensures) in
    as_fault (FeedsPiece tells c.args.file c.args.left loader c.feed.new.loader old new) c.from_residual-in_err-feed.result fault c.from_residual-in_err-feed.ensures.1 (record {
      more = tt;
      answer = fed_fault tells file loader has (Unit {0}) ℕ c.read.new.buf (length c.args.buffer.now) c.in_ok-read.read count c.args.left c.feed.new.loader fault (λ told. subst (λ (k : ℕ). IsRead file (8 + k) (length c.args.buffer.now) c.in_ok-read.read c.read.new.buf) (sym c.requires.fed) (c.in_ok-read.ensures.bytes told)) low few feeds;
      total = c.feed.ensures.total;
      only = only_other tells old new (quiet_call tells old new c.read.result c.read.ensures.time c.read.ensures.call) fault (feed_not_disk (Unit {0}) _ c.feed.new.loader fault feeds);
    })

pub returns : goal.returns
returns g c =
    let tells = g.D.Disk.tells in
    let old = g.D.Disk.seen c.args.disk.now in
    let new = g.D.Disk.seen c.read.new.self in
    let file = bytes_in old c.args.file in
    let loader = c.args.loader.now in
    let has = c.requires.has_fed in
    let count = c.min-count.result in
    let low : count ≤ c.in_ok-read.read = omega (arith, c.min-count.ensures) in
    let few : count ≤ c.args.left = omega (arith, c.min-count.ensures) in
    let size : length (take count c.read.new.buf) ≡ count = omega (arith, length-take count c.read.new.buf, low, c.in_ok-read.ensures.bound) in
    let fed : c.feed.new.loader.fed ≡ loader.fed + count = c.feed.ensures.fed ∙ ap (λ (k : ℕ). loader.fed + k) size in
    record {
      more = record {
        some = omega arith;
        few = few;
        fed = fed;
        has_fed = fed_more tells file loader has c.read.new.buf (length c.args.buffer.now) c.in_ok-read.read count c.feed.new.loader (λ told. subst (λ (k : ℕ). IsRead file (8 + k) (length c.args.buffer.now) c.in_ok-read.read c.read.new.buf) (sym c.requires.fed) (c.in_ok-read.ensures.bytes told)) low fed (c.in_ok-feed.ensures.feeds has.text has.read);
      };
      answer = λ told. tt;
      total = c.feed.ensures.total;
      only = only_ok tells old new (quiet_call tells old new c.read.result c.read.ensures.time c.read.ensures.call) count c.in_ok-read.ensures.call.ends.worked c.in_ok-read.ensures.call.ends.none;
    }
