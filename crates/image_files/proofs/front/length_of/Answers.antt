use Rattle.std.proofs.lemmas.Nat.{le_bytes_8}
use Rattle.image_files.proofs.front.length_of.Goals as goal

pub returns-clause-bytes : goal.returns-clause-bytes
returns-clause-bytes c = le_bytes_8 c.args.bytes.now c.from_le_bytes.result c.told-bytes c.fits-bytes c.from_le_bytes.ensures
