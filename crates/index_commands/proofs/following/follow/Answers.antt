use Rattle.std.proofs.Common.{List, ℕ, refl, sym, subst}
use Rattle.index_commands.specs.Following.{FollowsRecord}
use Rattle.index_commands.specs.Views.{command_of}
use Rattle.index_commands.proofs.FollowLemmas.{fits_all, followed, no_record}
use Rattle.index_commands.proofs.following.follow.Goals as goal

pub returns-in-Some : goal.returns-in-Some
returns-in-Some g c =
    let command = c.in-Some.command in
    let size = c.stage-outcome.ensures.sized in
    subst (λ (l : List ℕ). FollowsRecord c.args.chain l c.committed.result) (sym c.in-Some.ensures.some)
    (followed _ (fits_all (command_of command) size) c.args.chain command size c.stage-outcome.result c.committed.result c.stage-outcome.ensures.on_index c.committed.ensures)

pub returns-in-None : goal.returns-in-None
returns-in-None g c = subst (FollowsRecord c.args.chain c.args.bytes.now) (sym c.without_chain.ensures) (no_record c.args.chain c.args.bytes.now (c.in-None.ensures.none refl))
