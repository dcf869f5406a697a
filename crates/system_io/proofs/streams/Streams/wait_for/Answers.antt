use Rattle.std.proofs.Common.{ℕ, List, refl, subst}
use Rattle.system_io.specs.Streams.{clients_of, GivesAnew}
use Rattle.system_io.proofs.StreamsLemmas.{clients-set, up_to-same, apart-same, few-same, GivesAnew-same}
use Rattle.system_io.proofs.streams.Streams.wait_for.Goals as goal

pub invariant_of-self : goal.invariant_of-self
invariant_of-self g c =
    let items = c.args.self.now.streams.items in
    let same = clients-set items c.in-Some.at c.index_mut.result.now c.let_wait.new.self c.index_mut.ensures.value c.let_wait.ensures in
    record {
      up_to = up_to-same _ _ c.args.self.now.last same c.args.self.now.up_to;
      apart = apart-same _ _ same c.args.self.now.apart;
      few = few-same _ _ _ same c.args.self.now.few;
    }

pub returns-in-Some-clause-anew : goal.returns-in-Some-clause-anew
returns-in-Some-clause-anew g c =
    let items = c.args.self.now.streams.items in
    let same = clients-set items c.in-Some.at c.index_mut.result.now c.let_wait.new.self c.index_mut.ensures.value c.let_wait.ensures in
    subst (λ (ns : List ℕ). GivesAnew c.args.self.now.last c.poll_at.new.self.last ns (clients_of c.poll_at.new.self.streams.items)) same c.poll_at.ensures.anew

pub returns-in_default-clause-anew : goal.returns-in_default-clause-anew
returns-in_default-clause-anew g c =
    let items = c.args.self.now.streams.items in
    let same = clients-set items c.in-Some.at c.index_mut.result.now c.let_wait.new.self c.index_mut.ensures.value c.let_wait.ensures in
    GivesAnew-same _ _ _ _ refl same
