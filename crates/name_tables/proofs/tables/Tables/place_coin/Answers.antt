use Rattle.std.proofs.Common.{◌∷◌, [], sym, subst}
use Rattle.chain_names.specs.declared.coin.HeldCoin.{HeldCoin}
use Rattle.chain_names.specs.Tables.{QueueSlots}
use Rattle.chain_names.specs.Expired.{is_held_at}
use Rattle.name_tables.specs.Placing.{PlacesOnly}
use Rattle.name_tables.specs.Places.{is_queued_at}
use Rattle.name_tables.proofs.RoomLemmas.{coin_placed, commitment_placed, name_placed, name_row_placed, unnamed_coin}
use Rattle.name_tables.proofs.tables.Tables.place_coin.Goals as goal

pub returns-in-New-clause-only : goal.returns-in-New-clause-only
returns-in-New-clause-only g c = coin_placed c.args.self.now c.place.new.self c.args.at.now c.args.coin.now (record { same = c.in_ok-place.ensures.coins; places = c.in_ok-place.ensures.ok })

pub returns-in-New-clause-ok : goal.returns-in-New-clause-ok
returns-in-New-clause-ok g c =
    commitment_placed c.args.self.now c.place.new.self c.args.at.now c.args.coin.now (record { same = c.in_ok-place.ensures.coins; places = c.in_ok-place.ensures.ok }) (unnamed_coin c.args.coin.now _ _ c.in-New.is)

pub returns-in_err-place-in-Named-clause-only : goal.returns-in_err-place-in-Named-clause-only
returns-in_err-place-in-Named-clause-only g c =
    let held : HeldCoin = record { at = c.args.at.now; coin = c.args.coin.now } in
    subst (λ (queue : QueueSlots). PlacesOnly is_held_at is_queued_at c.args.self.now (record { coins = c.place.new.self; names = c.args.self.now.names; queue = queue }) (held ∷ [])) (sym c.in_err-place-in-Named.ensures.err)
    (coin_placed c.args.self.now c.place.new.self c.args.at.now c.args.coin.now (record { same = c.in_ok-place.ensures.coins; places = c.in_ok-place.ensures.ok }))

pub returns-in_ok-place-in-Named-clause-only : goal.returns-in_ok-place-in-Named-clause-only
returns-in_ok-place-in-Named-clause-only g c =
    name_placed c.args.self.now c.place.new.self c.args.at.now c.args.coin.now (record { same = c.in_ok-place.ensures.coins; places = c.in_ok-place.ensures.ok })
    c.place-in-Named.new.self _ _ c.in-Named.is (record { same = c.in_ok-place-in-Named.ensures.queued; places = c.in_ok-place-in-Named.ensures.ok })

pub returns-in_ok-place-in-Named-clause-ok : goal.returns-in_ok-place-in-Named-clause-ok
returns-in_ok-place-in-Named-clause-ok g c =
    name_row_placed c.args.self.now c.place.new.self c.args.at.now c.args.coin.now (record { same = c.in_ok-place.ensures.coins; places = c.in_ok-place.ensures.ok })
    c.place-in-Named.new.self _ _ c.in-Named.is (record { same = c.in_ok-place-in-Named.ensures.queued; places = c.in_ok-place-in-Named.ensures.ok })
