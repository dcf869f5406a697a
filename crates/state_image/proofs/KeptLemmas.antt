-- What the tables keep while an image is read.
use Rattle.std.proofs.Common.{◌≡◌, ℕ, [], refl, sym, ap, subst, ◌∙◌}
use Rattle.std.specs.Prelude.{None}
use Rattle.chain_names.specs.Tables.{coins_in, names_in, queued_in, queue_of}
use Rattle.name_tables.specs.Tables.{AreEmpty, AreFilled, maps_by}
use Rattle.name_tables.specs.declared.tables.Tables.{Tables}
use Rattle.state_image.specs.Standing.{BeginsAt, IsKept, AreUpTo, no_maps}
use Rattle.state_image.specs.declared.next.Next.TheVariants.{Head, Coins}
use Rattle.state_image.specs.declared.reading.Reading.{Reading}

-- ---- nothing was read

empty_maps : (t : Tables) → AreEmpty t → maps_by t ≡ no_maps
empty_maps t empty = λ i. record { coins = coins_in (empty.coins i); names = names_in (empty.names i) }

empty_queue : (t : Tables) → AreEmpty t → queued_in t.queue ≡ queue_of (coins_in t.coins)
empty_queue t empty = ap queued_in empty.queue ∙ ap (λ c. queue_of (coins_in c)) (sym empty.coins)

empty_filled : (t : Tables) → AreEmpty t → AreFilled t
empty_filled t empty =
    let same : record { coins = []; names = []; queue = [] } ≡ t = λ i. record { coins = sym empty.coins i; names = sym empty.names i; queue = sym empty.queue i } in
    subst AreFilled same (record { coins = λ point. refl; names = λ name. refl; queue = λ height point. refl })

pub blank_kept : (r : Reading) → r.next ≡ Head → r.undos.items ≡ [] → r.last ≡ None → r.name ≡ None → AreEmpty r.tables → IsKept r
blank_kept r first undos last name empty = record {
  tables = record { queue = empty_queue r.tables empty; filled = empty_filled r.tables empty };
  begins = subst (λ n. BeginsAt n r) (sym first) (record { undos = undos; last = last; name = name; maps = empty_maps r.tables empty });
}

-- ---- the list of coins

pub coins_begin : (r : Reading) (coins : ℕ) → r.next ≡ Coins coins → IsKept r → AreUpTo r.last (coins_in r.tables.coins)
coins_begin r coins is kept = subst (λ n. BeginsAt n r) is kept.begins
