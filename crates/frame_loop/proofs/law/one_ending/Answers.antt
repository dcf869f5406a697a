use Rattle.frame_loop.proofs.DeterminedLemmas.{determined, complete}
use Rattle.frame_loop.proofs.law.one_ending.Goals as goal

pub returns-clause-determined : goal.returns-clause-determined
returns-clause-determined g c = λ start. determined (g.T.Answerer.reached start) (g.T.Answerer.broken start)

pub returns-clause-complete : goal.returns-clause-complete
returns-clause-complete g c = λ start old new limit how now t. complete old new limit how (determined (g.T.Answerer.reached start) (g.T.Answerer.broken start) old new limit how now t)
