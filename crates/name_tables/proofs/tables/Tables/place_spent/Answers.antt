use Rattle.std.proofs.Common.{◌∷◌, [], sym}
use Rattle.name_tables.specs.Places.{spends, spends_at}
use Rattle.name_tables.proofs.PlaceLemmas.{opening_spends, update_spends}
use Rattle.name_tables.proofs.RoomLemmas.{places-none, made_spends_none, spent_only, spent_placed}
use Rattle.name_tables.proofs.tables.Tables.place_spent.Goals as goal

pub returns-in-New-clause-ok : goal.returns-in-New-clause-ok
returns-in-New-clause-ok g c = made_spends_none c.args.op.now _ (sym c.in-New.ensures) c.args.self.now

pub returns-in-New-clause-only : goal.returns-in-New-clause-only
returns-in-New-clause-only g c = places-none spends spends_at c.args.self.now (c.args.op.now ∷ [])

pub returns-in_err-place_coin-in-First-clause-only : goal.returns-in_err-place_coin-in-First-clause-only
returns-in_err-place_coin-in-First-clause-only g c = spent_only c.args.op.now c.in-First.change.now.spent c.in-First.change.now.coin (opening_spends c.args.op.now _ _ _ _ _ (sym c.in-First.ensures)) c.args.self.now _ c.in_err-place_coin-in-First.ensures.only

pub returns-in_ok-place_coin-in-First-clause-only : goal.returns-in_ok-place_coin-in-First-clause-only
returns-in_ok-place_coin-in-First-clause-only g c = spent_only c.args.op.now c.in-First.change.now.spent c.in-First.change.now.coin (opening_spends c.args.op.now _ _ _ _ _ (sym c.in-First.ensures)) c.args.self.now _ c.in_ok-place_coin-in-First.ensures.only

pub returns-in_ok-place_coin-in-First-clause-ok : goal.returns-in_ok-place_coin-in-First-clause-ok
returns-in_ok-place_coin-in-First-clause-ok g c = spent_placed c.args.op.now c.in-First.change.now.spent c.in-First.change.now.coin (opening_spends c.args.op.now _ _ _ _ _ (sym c.in-First.ensures)) _ c.in_ok-place_coin-in-First.ensures.ok

pub returns-in_err-place_coin-in-Update-clause-only : goal.returns-in_err-place_coin-in-Update-clause-only
returns-in_err-place_coin-in-Update-clause-only g c = spent_only c.args.op.now c.in-Update.change.now.spent c.in-Update.change.now.coin (update_spends c.args.op.now _ _ _ _ _ (sym c.in-Update.ensures)) c.args.self.now _ c.in_err-place_coin-in-Update.ensures.only

pub returns-in_ok-place_coin-in-Update-clause-only : goal.returns-in_ok-place_coin-in-Update-clause-only
returns-in_ok-place_coin-in-Update-clause-only g c = spent_only c.args.op.now c.in-Update.change.now.spent c.in-Update.change.now.coin (update_spends c.args.op.now _ _ _ _ _ (sym c.in-Update.ensures)) c.args.self.now _ c.in_ok-place_coin-in-Update.ensures.only

pub returns-in_ok-place_coin-in-Update-clause-ok : goal.returns-in_ok-place_coin-in-Update-clause-ok
returns-in_ok-place_coin-in-Update-clause-ok g c = spent_placed c.args.op.now c.in-Update.change.now.spent c.in-Update.change.now.coin (update_spends c.args.op.now _ _ _ _ _ (sym c.in-Update.ensures)) _ c.in_ok-place_coin-in-Update.ensures.ok
