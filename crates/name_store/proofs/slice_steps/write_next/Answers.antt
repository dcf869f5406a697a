use Rattle.std.proofs.Common.{◌≡◌, ◌+◌, ◌-◌, ◌++◌, ℕ, length, take, drop, arith, subst}
use Rattle.disk_model.specs.DiskSeen.{bytes_in}
use Rattle.name_store.specs.SliceSteps.{WritesMore}
use Rattle.name_store.proofs.SliceStepLemmas.{wrote_next}
use Rattle.name_store.proofs.slice_steps.write_next.Goals as goal

pub returns : goal.returns
returns g c =
    let before = g.D.Disk.seen c.args.disk.now in
    let after = g.D.Disk.seen c.write_both.new.disk in
    let draft = c.args.draft.now in
    let piece = c.args.piece.now in
    let more = c.args.count - length piece in
    let copied : c.saturating_sub-copied.result ≡ draft.written - draft.image = omega (arith, c.saturating_sub-copied.ensures, c.written.ensures.value, c.image.ensures.value) in
    wrote_next g.D.Disk.tells c.args.file (record { draft = draft; from = c.args.from }) c.write_both.new.draft c.args.count piece before after c.write_both.result c.requires.piece
    (subst (λ (n : ℕ). WritesMore g.D.Disk.tells draft c.write_both.new.draft (length piece + more) (piece ++ take more (drop (c.args.from - 1 + n) (bytes_in before c.args.file))) before after c.write_both.result) copied c.write_both.ensures)
