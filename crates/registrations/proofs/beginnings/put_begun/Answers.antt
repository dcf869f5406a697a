use Rattle.std.proofs.Common.{ℕ, Bool, List, ◌-◌, length, refl, ap, subst, ◌∙◌, arith}
use Rattle.chain_names.specs.declared.coin.Item.{Item}
use Rattle.chain_names.specs.Tables.{names_in, room_in}
use Rattle.chain_names.proofs.Changed.{bytes_eq-at_changed}
use Rattle.registrations.proofs.ListLemmas.{length-more}
use Rattle.registrations.proofs.BeginningLemmas.{IsRefilling, none_put, one_more, all_put}
use Rattle.registrations.proofs.beginnings.put_begun.Goals as goal

pub loop-item-init : goal.loop-item-init
loop-item-init g c = record {
  placed = c.requires.placed;
  room = c.requires.room;
  going = none_put (names_in c.args.names.now) c.args.name.now c.args.items.items;
  list = refl;
}

pub push-requires : goal.push-requires
push-requires g c = record {
  placed = c.loop-item.invariant.placed;
  room = omega (arith, c.loop-item.invariant.room, ap length c.in-Some.ensures.some, length-more c.pop.new.self.items c.in-Some.item);
}

pub loop-item-preserved : goal.loop-item-preserved
loop-item-preserved g c =
    let name = c.args.name.now in
    let left = bytes_eq-at_changed (room_in c.push.new.self) (room_in c.loop-item.names) name (room_in c.loop-item.names name - 1) c.push.ensures.room in
    let now = names_in c.loop-item.names in
    record {
      placed = ap (λ (places : List ℕ → Bool). places name) c.push.ensures.places ∙ c.loop-item.invariant.placed;
      room = omega (arith, c.loop-item.invariant.room, left, ap length c.in-Some.ensures.some, length-more c.pop.new.self.items c.in-Some.item);
      going =
          one_more (names_in c.args.names.now) now (names_in c.push.new.self) name c.args.items.items c.pop.new.self.items c.in-Some.item c.going_on.result c.going_on.ensures c.push.ensures.names
          (subst (λ (items : List Item). IsRefilling (names_in c.args.names.now) now name c.args.items.items items) c.in-Some.ensures.some c.loop-item.invariant.going);
      list = c.push.ensures.list ∙ c.loop-item.invariant.list;
    }

pub returns-clause-names : goal.returns-clause-names
returns-clause-names g c =
    all_put (names_in c.args.names.now) (names_in c.loop-item.names) c.args.name.now c.args.items.items c.loop-item.items.items c.in_default.ensures.none c.loop-item.invariant.going
