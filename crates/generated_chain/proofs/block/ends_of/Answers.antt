use Rattle.std.proofs.Common.{ap, ◌∙◌}
use Rattle.block_grammar.specs.Header.{header_hash}
use Rattle.generated_chain.proofs.Hashes.{hash_of_bytes}
use Rattle.generated_chain.proofs.block.ends_of.Goals as goal

pub returns-clause-hash : goal.returns-clause-hash
returns-clause-hash c = c.hash.ensures ∙ ap header_hash c.header.ensures ∙ hash_of_bytes c.args.bytes.now c.in-Ok.block c.in-Ok.ensures.read
