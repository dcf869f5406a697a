use Rattle.std.proofs.Common.{◌≡◌, ℕ, List, refl, sym, subst, ◌∙◌}
use Rattle.system_io.specs.Streams.{clients_of, GivesAnew, HasNone}
use Rattle.system_io.proofs.StreamsLemmas.{clients-set, up_to-same, apart-same, few-same, set_there, no_end, GivesAnew-same}
use Rattle.system_io.proofs.streams.Streams.poll_at.Goals as goal

pub invariant_of-self : goal.invariant_of-self
invariant_of-self g c =
    let items = c.args.self.now.streams.items in
    let same = clients-set items c.args.at c.index_mut.result.now c.poll-polled.new.self c.index_mut.ensures.value c.poll-polled.ensures.client in
    record {
      up_to = up_to-same _ _ c.args.self.now.last same c.args.self.now.up_to;
      apart = apart-same _ _ same c.args.self.now.apart;
      few = few-same _ _ _ same c.args.self.now.few;
    }

pub returns-in-StreamEnd-clause-ends : goal.returns-in-StreamEnd-clause-ends
returns-in-StreamEnd-clause-ends g c =
    let its : c.in-StreamEnd.client ≡ c.index_mut.result.now.client = rw c.in-StreamEnd.is at c.poll-polled.ensures.its in
    let gone = c.let_go.ensures.gone c.poll-polled.new.self (set_there c.args.self.now.streams.items c.args.at c.poll-polled.new.self c.requires) in
    rw c.in-StreamEnd.is (subst (HasNone c.let_go.new.self.streams.items) (c.poll-polled.ensures.client ∙ sym its) gone)

pub returns-in-StreamEnd-clause-anew : goal.returns-in-StreamEnd-clause-anew
returns-in-StreamEnd-clause-anew g c =
    let items = c.args.self.now.streams.items in
    let same = clients-set items c.args.at c.index_mut.result.now c.poll-polled.new.self c.index_mut.ensures.value c.poll-polled.ensures.client in
    subst (λ (ns : List ℕ). GivesAnew c.args.self.now.last c.let_go.new.self.last ns (clients_of c.let_go.new.self.streams.items)) same c.let_go.ensures.anew

pub returns-in_default-clause-ends : goal.returns-in_default-clause-ends
returns-in_default-clause-ends g c = no_end _ c.poll-polled.result c.in_default.not-StreamEnd

pub returns-in_default-clause-anew : goal.returns-in_default-clause-anew
returns-in_default-clause-anew g c =
    let items = c.args.self.now.streams.items in
    let same = clients-set items c.args.at c.index_mut.result.now c.poll-polled.new.self c.index_mut.ensures.value c.poll-polled.ensures.client in
    GivesAnew-same _ _ _ _ refl same
