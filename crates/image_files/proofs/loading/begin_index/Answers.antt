use Rattle.std.proofs.Common.{arith, refl}
use Rattle.disk_model.specs.DiskSeen.{bytes_in}
use Rattle.image_files.proofs.LoadedLemmas.{begins_loaded, begins_at_base, at_base_some, loaded_some, memory_not_disk}
use Rattle.image_files.proofs.OnlyLemmas.{quiet_start, only_since}
use Rattle.image_files.proofs.loading.begin_index.Goals as goal

pub returns-then-image-eq0 : goal.returns-then-image-eq0
returns-then-image-eq0 g c =
    let tells = g.D.Disk.tells in
    let old = g.D.Disk.seen c.args.disk.now in
    let base = c.args.base.now in
    let made = c.index_at_base in
    record {
      of_text = at_base_some base made.result made.ensures.ok;
      answer = λ told has. begins_at_base base (bytes_in old c.args.file) c.args.image has made.result c.if-image-eq0.true made.ensures.ok made.ensures.err;
      only = only_since tells old old (quiet_start tells old) made.result c.requires.worked refl (memory_not_disk made.result made.ensures.err);
    }

pub returns : goal.returns
returns g c =
    let old = g.D.Disk.seen c.args.disk.now in
    let base = c.args.base.now in
    let loaded = c.load_index in
    record {
      of_text = loaded_some base loaded.result loaded.ensures.of_text;
      answer = λ told has. begins_loaded base (bytes_in old c.args.file) c.args.image has loaded.result (omega (arith, c.if-image-eq0.false)) (loaded.ensures.answer told);
      only = loaded.ensures.only;
    }
