use Rattle.image_grammar.proofs.OneLaws.{version_one, image_one}
use Rattle.image_grammar.proofs.laws.one_image.Goals as goal

pub returns-clause-version : goal.returns-clause-version
returns-clause-version c = version_one

pub returns-clause-told : goal.returns-clause-told
returns-clause-told c = image_one
