-- Nothing was read so far.
use Rattle.std.proofs.Common.{◌≡◌, ℕ, ◌<◌, ◌≤◌, List, [], refl, sym, ap, subst, ◌∙◌, arith}
use Rattle.std.specs.Prelude.{None, slice_index}
use Rattle.chain_names.specs.Tables.{coins_in, names_in, queued_in, queue_of}
use Rattle.std.proofs.lemmas.List.{get_or_past}
use Rattle.nmc_base.specs.Heights.{highest}
use Rattle.name_tables.specs.Tables.{AreEmpty, AreFilled}
use Rattle.name_tables.specs.declared.tables.Tables.{Tables}
use Rattle.nmc_base.specs.declared.chain_ends.Base.{Base}
use Rattle.name_snapshot.specs.Feeding.{feeding_of, HasRead, IsFeeding}
use Rattle.name_snapshot.specs.Standing.{IsBehind, IsIndexOf, left_from}
use Rattle.name_snapshot.specs.Turning.{WaitsAt}
use Rattle.name_snapshot.specs.Reading.{snapshot_from}
use Rattle.name_snapshot.specs.declared.next.Next.{Next}
use Rattle.name_snapshot.specs.declared.next.Next.TheVariants.{Head}
use Rattle.name_snapshot.specs.declared.reading.Reading.{Reading}
use Rattle.name_snapshot.proofs.FeedLemmas.{open_by, ended_by}

empty_filled : (t : Tables) → AreEmpty t → AreFilled t
empty_filled t empty =
    let same : record { coins = []; names = []; queue = [] } ≡ t = λ i. record { coins = sym empty.coins i; names = sym empty.names i; queue = sym empty.queue i } in
    subst AreFilled same (record { coins = λ point. refl; names = λ name. refl; queue = λ height point. refl })

pub empty_index : (base : Base) (t : Tables) → AreEmpty t → IsIndexOf base [] t
empty_index base t empty = record {
  maps = λ i. record { coins = coins_in (empty.coins i); names = names_in (empty.names i) };
  queue = record { queue = ap queued_in empty.queue ∙ ap (λ c. queue_of (coins_in c)) (sym empty.coins); filled = empty_filled t empty };
}

none_bytes : (i : ℕ) → slice_index [] i < 256
none_bytes i = omega (arith, get_or_past {X = ℕ} [] i 0 (omega arith))

pub begins_read : (r : Reading) → r.next ≡ Head → IsBehind [] r → HasRead [] (feeding_of r [] 0 None)
begins_read r at behind =
    let waits : WaitsAt r.base r.next [] [] = subst (λ (n : Next). WaitsAt r.base n [] []) (sym at) ([], refl) in
    let goes : (more : List ℕ) → snapshot_from r.base more ≡ left_from r.base r.next [] more = λ more. ap (λ (n : Next). left_from r.base n [] more) (sym at) in
    record {
      bytes = none_bytes;
      fed = refl;
      no_stop = refl;
      below = [];
      behind = behind;
      goes_on = goes;
      waits = waits;
      held_bytes = none_bytes;
      open_end = open_by r.base r.next [] [] [] (goes []) (ended_by r.base r.next [] [] waits);
    }

pub begins_feeding : (r : Reading) → r.base.height ≤ highest → r.next ≡ Head → IsBehind [] r → IsFeeding (feeding_of r [] 0 None)
begins_feeding r low at behind = record { low = low; within = omega arith; reads = λ none. ([], begins_read r at behind) }
