use Rattle.std.proofs.Common.{List, ℕ, ◌<◌, subst}
use Rattle.std.specs.Prelude.{slice_index}
use Rattle.disk_model.specs.DiskSeen.{bytes_in}
use Rattle.name_store.specs.HeaderAnswers.{HeaderAnswer}
use Rattle.name_store.proofs.HeaderLemmas.{front_byte, front_read, answer_up}
use Rattle.name_store.proofs.header.read_header.Goals as goal

pub returns-clause-answer : goal.returns-clause-answer
returns-clause-answer g c = λ tells.
    let file = bytes_in (g.D.Disk.seen c.args.disk.now) 0 in
    let same = front_read file c.read.new.buf c.in_ok-count.count (c.in_ok-count.ensures.bytes tells) in
    let low = front_byte file (subst (λ (l : List ℕ). slice_index l 46 < 256) same c.header_of.ensures.byte) in
    answer_up file low c.header_of.result (subst (λ (l : List ℕ). HeaderAnswer l c.header_of.result) same c.header_of.ensures.answer)
