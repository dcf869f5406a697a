use Rattle.chain_names.specs.Expired.{is_held_at}
use Rattle.name_tables.specs.Places.{is_queued_at}
use Rattle.name_tables.proofs.RoomLemmas.{places-none, placed_same, placed_filled, spent_stay}
use Rattle.name_tables.proofs.tables.Tables.place_all.Goals as goal

pub returns-in_err-place_all_spent-clause-filled : goal.returns-in_err-place_all_spent-clause-filled
returns-in_err-place_all_spent-clause-filled g c =
    placed_filled c.args.self.now c.place_all_spent.new.self c.place_all_spent.new.self c.args.ops.now c.args.expired.now c.requires.filled
    c.in_err-place_all_spent.ensures.only (places-none is_held_at is_queued_at c.place_all_spent.new.self c.args.expired.now)

pub returns-in_err-place_all_expired-clause-same : goal.returns-in_err-place_all_expired-clause-same
returns-in_err-place_all_expired-clause-same g c =
    placed_same c.args.self.now c.place_all_spent.new.self c.place_all_expired.new.self c.args.ops.now c.args.expired.now c.requires.filled
    c.in_ok-place_all_spent.ensures.only c.in_err-place_all_expired.ensures.only

pub returns-in_err-place_all_expired-clause-filled : goal.returns-in_err-place_all_expired-clause-filled
returns-in_err-place_all_expired-clause-filled g c =
    placed_filled c.args.self.now c.place_all_spent.new.self c.place_all_expired.new.self c.args.ops.now c.args.expired.now c.requires.filled
    c.in_ok-place_all_spent.ensures.only c.in_err-place_all_expired.ensures.only

pub returns-clause-same : goal.returns-clause-same
returns-clause-same g c =
    placed_same c.args.self.now c.place_all_spent.new.self c.place_all_expired.new.self c.args.ops.now c.args.expired.now c.requires.filled
    c.in_ok-place_all_spent.ensures.only c.in_ok-place_all_expired.ensures.only

pub returns-clause-filled : goal.returns-clause-filled
returns-clause-filled g c =
    placed_filled c.args.self.now c.place_all_spent.new.self c.place_all_expired.new.self c.args.ops.now c.args.expired.now c.requires.filled
    c.in_ok-place_all_spent.ensures.only c.in_ok-place_all_expired.ensures.only

pub returns-clause-spent : goal.returns-clause-spent
returns-clause-spent g c =
    spent_stay c.args.self.now c.place_all_spent.new.self c.place_all_expired.new.self c.args.ops.now c.args.expired.now c.requires.filled
    c.in_ok-place_all_spent.ensures.only c.in_ok-place_all_expired.ensures.only c.in_ok-place_all_spent.ensures.ok
