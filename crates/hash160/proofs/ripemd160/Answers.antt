use Rattle.hash160.proofs.Padding.{IsDigest-ripemd160}
use Rattle.hash160.proofs.ripemd160.Goals as goal

pub returns-clause-standard : goal.returns-clause-standard
returns-clause-standard c = λ digest. IsDigest-ripemd160 c.args.bytes.now digest _ (c.finish.ensures _ (c.update.ensures _ c.new-hasher.ensures))
