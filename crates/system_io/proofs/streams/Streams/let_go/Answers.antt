use Rattle.system_io.proofs.StreamsLemmas.{up_to-removed, apart-removed, few-removed, anew-removed, gone-removed}
use Rattle.system_io.proofs.streams.Streams.let_go.Goals as goal

pub invariant_of-self : goal.invariant_of-self
invariant_of-self c = record {
  up_to = up_to-removed c.args.self.now.streams.items c.remove.new.self.items c.args.at c.args.self.now.last c.requires c.remove.ensures.items c.args.self.now.up_to;
  apart = apart-removed c.args.self.now.streams.items c.remove.new.self.items c.args.at c.requires c.remove.ensures.items c.args.self.now.apart;
  few = few-removed c.args.self.now.streams.items c.remove.new.self.items c.args.at _ c.requires c.remove.ensures.items c.args.self.now.few;
}

pub returns-clause-gone : goal.returns-clause-gone
returns-clause-gone c = gone-removed c.args.self.now.streams.items c.remove.new.self.items c.args.at c.requires c.remove.ensures.items c.args.self.now.apart

pub returns-clause-anew : goal.returns-clause-anew
returns-clause-anew c = anew-removed c.args.self.now.streams.items c.remove.new.self.items c.args.at c.args.self.now.last c.requires c.remove.ensures.items
