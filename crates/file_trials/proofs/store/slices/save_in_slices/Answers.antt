use Rattle.file_trials.proofs.store.slices.save_in_slices.Goals as goal

pub disconnect-requires-clause-on_disk : goal.disconnect-requires-clause-on_disk
disconnect-requires-clause-on_disk g c = λ told.
    (c.in_ok-begun-2.ensures g.D.Disk.tells c.args.image.now 40 (g.D.Disk.seen c.slice.new.disk).moments.now c.slice.ensures).on_disk told

pub slice-requires-2-clause-going : goal.slice-requires-2-clause-going
slice-requires-2-clause-going g c =
    c.in_ok-begun-3.ensures c.args.image.now 40 (c.in_ok-begun-2.ensures g.D.Disk.tells c.args.image.now 40 (g.D.Disk.seen c.slice.new.disk).moments.now c.slice.ensures)

pub slice-requires-3-clause-going : goal.slice-requires-3-clause-going
slice-requires-3-clause-going g c = c.in_ok-begun-4.ensures g.D.Disk.tells c.args.image.now 94 (g.D.Disk.seen c.slice-2.new.disk).moments.now c.slice-2.ensures
