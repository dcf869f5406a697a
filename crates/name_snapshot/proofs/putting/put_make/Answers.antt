use Rattle.std.proofs.Common.{sym, subst}
use Rattle.name_snapshot.specs.Standing.{IsPut}
use Rattle.name_snapshot.specs.Fields.{seen_told}
use Rattle.name_snapshot.proofs.PutLemmas.{commitment_put}
use Rattle.name_snapshot.proofs.putting.put_make.Goals as goal

pub returns-in_ok-put_coin-in-Commitment : goal.returns-in_ok-put_coin-in-Commitment
returns-in_ok-put_coin-in-Commitment c =
    let put = c.in_ok-put_coin-in-Commitment.ensures in
    subst (λ told. IsPut (record { at = c.args.make.at; height = c.args.make.height; told = seen_told told }) c.args.tables.now c.put_coin.new.tables) (sym c.in-Commitment.is)
    (commitment_put c.args.make.at c.args.make.height c.in-Commitment.hash c.args.tables.now c.put_coin.new.tables put.coins put.names put.kept)
