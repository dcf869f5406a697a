use Rattle.name_snapshot.specs.Text.{start_of}
use Rattle.bridge_commands.proofs.StartLemmas.{index_of, short_image, stands_by}
use Rattle.bridge_commands.proofs.starting.make_of.Goals as goal

pub create_from-made-requires-clause-short : goal.create_from-made-requires-clause-short
create_from-made-requires-clause-short g c =
    let read = c.requires.read in
    short_image c.args.base.now read.text c.args.parts read.has c.read_hash.ensures read.short

pub returns : goal.returns
returns g c = λ name is_host text has.
    let list = start_of has.makes in
    let index = index_of c.args.base.now text c.args.parts has in
    let by = c.create_from-made.ensures in
    record {
      answer = by.answer;
      spared = by.spared;
      no_memory = by.no_memory;
      made = λ told. stands_by c.args.base.now name list (g.D.Disk.seen c.create_from-made.new.disk) c.create_from-made.result (by.made told name is_host list index);
      crashes = λ told empty image is. by.from_empty told name is_host empty list index image is;
      others = by.others;
      ends = by.ends;
    }
