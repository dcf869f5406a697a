use Rattle.state_image.proofs.WholeLemmas.{whole_formed, whole_loaded, whole_fault}
use Rattle.state_image.proofs.reading.Reading.settle.Goals as goal

pub judge-requires : goal.judge-requires
judge-requires c = whole_formed c.requires.0 c.args.self c.requires.1 _ _ c.split-parts.ensures

pub returns-in-Ok : goal.returns-in-Ok
returns-in-Ok c = λ text whole. whole_loaded text c.args.self whole _ _ c.split-parts.ensures _ c.in-Ok.ensures

pub returns-in-Err : goal.returns-in-Err
returns-in-Err c = λ text whole. whole_fault text c.args.self whole _ _ c.split-parts.ensures _ c.in-Err.fault c.in-Err.ensures
