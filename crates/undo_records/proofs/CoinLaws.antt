-- The laws of expired coins: in order, and whatever their order.
use Rattle.std.proofs.Common.{◌≡◌, ℕ, zero, suc, ◌<◌, Bool, true, false, cond, List, [], ◌∷◌, ◌++◌, length, Option, Some, None, refl, sym, ap, subst, ◌∙◌, append_assoc, arith}
use Rattle.std.specs.Prelude.{Result, Ok, Err}
use Rattle.std.specs.List.{flat_map, AllByRecursion}
use Rattle.std.specs.declared.cmp.Ordering.{Ordering}
use Rattle.std.specs.declared.cmp.Ordering.TheVariants.{Less, Equal, Greater}
use Rattle.nmc_base.specs.declared.hashes.OutPoint.{OutPoint}
use Rattle.nmc_base.specs.Hash.{outpoint_cmp}
use Rattle.chain_names.specs.declared.coin.Coin.{Coin}
use Rattle.chain_names.specs.declared.coin.HeldCoin.{HeldCoin}
use Rattle.block_grammar.proofs.Readers.{Took}
use Rattle.block_grammar.specs.Combinators.{◌>>=◌, then_from, map_from, many_from}
use Rattle.block_grammar.proofs.ReaderLaws.{parted, ok_is, ok_err, PairFits}
use Rattle.undo_records.specs.declared.fault.FaultKind.TheVariants.{Unsorted}
use Rattle.undo_records.specs.Reading.{Reads, point_from, named_coin_from, is_less, is_after, later_point_from, held_from, coins_from}
use Rattle.undo_records.specs.Text.{point_text, held_text}
use Rattle.chain_names.specs.Writable.{IsWritablePoint, IsWritableHeld, IsAfter, AreAscending}
use Rattle.undo_records.specs.Faults.{last_point}
use Rattle.undo_records.proofs.Laws.{Spot, Part, Core, Ends, PairFlaw, in_first, in_second, then_part, then_core, then_ends, IsSeenBy, seen_core, seen_ends, IsSaid, said_core, many_part, many_ends}
use Rattle.undo_records.proofs.Choices.{CheckFlaw, checked_part, checked_core}
use Rattle.undo_records.proofs.FieldLaws.{point_part, point_core, point_ends}
use Rattle.undo_records.proofs.PartLaws.{named_coin_part, named_coin_core, named_coin_ends}

-- ---- one coin

less_is : (o : Ordering) → is_less o ≡ true → o ≡ Less
less_is Less e = refl
less_is Equal e = absurd cc
less_is Greater e = absurd cc

is_less_at : (o : Ordering) → o ≡ Less → is_less o ≡ true
is_less_at o e = ap is_less e

pub after_is : (last : Option OutPoint) (point : OutPoint) → is_after last point ≡ true → IsAfter last point
after_is None point e = tt
after_is (Some before) point e = less_is (outpoint_cmp before point) e

pub is_after_at : (last : Option OutPoint) (point : OutPoint) → IsAfter last point → is_after last point ≡ true
is_after_at None point fits = refl
is_after_at (Some before) point fits = is_less_at (outpoint_cmp before point) fits

abbrev LaterFits : Option OutPoint → OutPoint → Type 0
LaterFits last point = IsWritablePoint point × IsAfter last point

abbrev later_part : Option OutPoint → Part OutPoint
later_part last = record { text = point_text; Fits = LaterFits last; Flawed = CheckFlaw point_part Unsorted (is_after last); read = later_point_from last }

later_is : (last : Option OutPoint) → IsSaid (checked_part Unsorted (is_after last) point_part) (later_part last)
unfolding later_point_from
later_is last = record {
  read = λ bytes. refl;
  spell = λ x fits. refl;
  to = λ x fits. (fits.0, after_is last x fits.1);
  from = λ x fits. (fits.0, is_after_at last x fits.1);
  flaw_to = λ bytes e f. f;
  flaw_from = λ bytes e f. f;
}

later_core : (last : Option OutPoint) → Core (later_part last)
later_core last = said_core (checked_part Unsorted (is_after last) point_part) (later_part last) (later_is last) (checked_core point_part (λ bytes e f. f) Unsorted (is_after last) point_core)

abbrev pub HeldFits : Option OutPoint → HeldCoin → Type 0
HeldFits last held = IsWritableHeld held × IsAfter last held.at

abbrev held_parts : Option OutPoint → Part (OutPoint × Coin)
held_parts last = then_part (later_part last) (λ _. named_coin_part)

-- a coin of a name behind an outpoint that is greater than the one before
abbrev pub held_part : Option OutPoint → Part HeldCoin
held_part last = record { text = held_text; Fits = HeldFits last; Flawed = (held_parts last).Flawed; read = held_from last }

abbrev held_of : OutPoint × Coin → HeldCoin
held_of x = record { at = x.0; coin = x.1 }

abbrev of_held : HeldCoin → OutPoint × Coin
of_held held = (held.at, held.coin)

held_is : (last : Option OutPoint) → IsSeenBy held_of of_held (held_parts last) (held_part last)
unfolding held_text held_from
held_is last = record {
  read = λ bytes. refl;
  back = λ h fits. refl;
  spell = λ x fits. refl;
  to = λ x fits. (record { at = fits.0.0; coin = fits.1 }, fits.0.1);
  from = λ h fits. ((fits.0.at, fits.1), fits.0.coin);
  flaw_to = λ bytes e f. f;
  flaw_from = λ bytes e f. f;
}

pub held_core : (last : Option OutPoint) → Core (held_part last)
held_core last = seen_core held_of of_held (held_parts last) (held_part last) (held_is last) (then_core (later_part last) (λ _. named_coin_part) (later_core last) (λ _ _. named_coin_core))

-- the same, whatever the order
pub loose_held_from : Reads HeldCoin
loose_held_from = map_from (λ x. record { at = x.0; coin = x.1 }) (then_from point_from (λ _. named_coin_from))

abbrev loose_parts : Part (OutPoint × Coin)
loose_parts = then_part point_part (λ _. named_coin_part)

abbrev pub loose_held_part : Part HeldCoin
loose_held_part = record { text = held_text; Fits = IsWritableHeld; Flawed = loose_parts.Flawed; read = loose_held_from }

loose_held_is : IsSeenBy held_of of_held loose_parts loose_held_part
unfolding held_text loose_held_from
loose_held_is = record {
  read = λ bytes. refl;
  back = λ h fits. refl;
  spell = λ x fits. refl;
  to = λ x fits. record { at = fits.0; coin = fits.1 };
  from = λ h fits. (fits.at, fits.coin);
  flaw_to = λ bytes e f. f;
  flaw_from = λ bytes e f. f;
}

loose_held_core : Core loose_held_part
loose_held_core = seen_core held_of of_held loose_parts loose_held_part loose_held_is (then_core point_part (λ _. named_coin_part) point_core (λ _ _. named_coin_core))

loose_held_ends : Ends loose_held_part
loose_held_ends = seen_ends held_of of_held loose_parts loose_held_part loose_held_is (then_ends point_part (λ _. named_coin_part) point_core point_ends (λ _ _. named_coin_ends))

-- ---- many coins, in order

-- the outpoint before the next coin
abbrev pub last_after : Option OutPoint → List HeldCoin → Option OutPoint
last_after last [] = last
last_after last (held ∷ more) = last_after (Some held.at) more

last_of_some : (held : HeldCoin) (more : List HeldCoin) → last_after (Some held.at) more ≡ last_point (held ∷ more)
last_of_some held [] = refl
last_of_some held (next ∷ more) = last_of_some next more

pub last_is : (coins : List HeldCoin) → last_after None coins ≡ last_point coins
last_is [] = refl
last_is (held ∷ more) = last_of_some held more

pub record CoinsFlaw (last : Option OutPoint) (n : ℕ) (bytes : List ℕ) (e : Spot) : Type 0 where
  pub before : List HeldCoin
  pub fits : AllByRecursion IsWritableHeld before
  pub in_order : AreAscending last before
  pub fewer : length before < n
  pub inner : List ℕ
  pub parts : bytes ≡ flat_map held_text before ++ inner
  pub flaw : (held_part (last_after last before)).Flawed inner e

abbrev pub CoinsFit : Option OutPoint → ℕ → List HeldCoin → Type 0
CoinsFit last n coins = (length coins ≡ n) × (AllByRecursion IsWritableHeld coins × AreAscending last coins)

-- so many coins, in order
abbrev pub coins_part : Option OutPoint → ℕ → Part (List HeldCoin)
coins_part last n = record { text = flat_map held_text; Fits = CoinsFit last n; Flawed = CoinsFlaw last n; read = coins_from last n }

abbrev tail_part : ℕ → HeldCoin → Part (List HeldCoin)
tail_part n held = coins_part (Some held.at) n

coins_to : (last : Option OutPoint) (n : ℕ) (bytes : List ℕ) (e : Spot) → PairFlaw (held_part last) (tail_part n) bytes e → CoinsFlaw last (suc n) bytes e
coins_to last n bytes e (in_first f) = record { before = []; fits = tt; in_order = tt; fewer = omega arith; inner = bytes; parts = refl; flaw = f }
coins_to last n bytes e (in_second held mid fits parts f) = record {
  before = held ∷ f.before;
  fits = (fits.0, f.fits);
  in_order = (fits.1, f.in_order);
  fewer = omega (arith, f.fewer);
  inner = f.inner;
  parts = parts ∙ ap (λ (t : List ℕ). held_text held ++ t) f.parts ∙ sym (append_assoc (held_text held) (flat_map held_text f.before) f.inner);
  flaw = f.flaw;
}

coins_of : (last : Option OutPoint) (n : ℕ) (bytes : List ℕ) (e : Spot) → CoinsFlaw last (suc n) bytes e → PairFlaw (held_part last) (tail_part n) bytes e
coins_of last n bytes e f = go f.before f.fits f.in_order f.fewer f.inner f.parts f.flaw
  where
    go : (before : List HeldCoin) → AllByRecursion IsWritableHeld before → AreAscending last before → length before < suc n → (inner : List ℕ) → bytes ≡ flat_map held_text before ++ inner
        → (held_part (last_after last before)).Flawed inner e → PairFlaw (held_part last) (tail_part n) bytes e
    go [] fits in_order fewer inner parts flaw = in_first (subst (λ (t : List ℕ). (held_part last).Flawed t e) (sym parts) flaw)
    go (held ∷ more) fits in_order fewer inner parts flaw =
        in_second held (flat_map held_text more ++ inner) (fits.0, in_order.0) (parts ∙ append_assoc (held_text held) (flat_map held_text more) inner)
        (record { before = more; fits = fits.1; in_order = in_order.1; fewer = omega (arith, fewer); inner = inner; parts = refl; flaw = flaw })

sample_coin : HeldCoin
sample_coin = record { at = point_ends.sample; coin = named_coin_ends.sample }

none_again : (last : Option OutPoint) (coins : List HeldCoin) (rest : List ℕ) → CoinsFit last 0 coins → coins_from last 0 (flat_map held_text coins ++ rest) ≡ Ok (coins, rest)
unfolding coins_from
none_again last [] rest fits = refl
none_again last (held ∷ more) rest fits = absurd (omega (arith, fits.0))

cons_back : (last : Option OutPoint) (n : ℕ) (coins : List HeldCoin) → CoinsFit last (suc n) coins → (parted sample_coin coins).0 ∷ (parted sample_coin coins).1 ≡ coins
unfolding parted
cons_back last n [] fits = absurd (omega (arith, fits.0))
cons_back last n (held ∷ more) fits = refl

cons_from : (last : Option OutPoint) (n : ℕ) (coins : List HeldCoin) → CoinsFit last (suc n) coins → PairFits (HeldFits last) (λ held. CoinsFit (Some held.at) n) (parted sample_coin coins)
unfolding parted
cons_from last n [] fits = absurd (omega (arith, fits.0))
cons_from last n (held ∷ more) fits = ((fits.1.0.0, fits.1.1.0), (omega (arith, fits.0), (fits.1.0.1, fits.1.1.1)))

coins_is : (last : Option OutPoint) (n : ℕ) → IsSeenBy (λ (p : HeldCoin × List HeldCoin). p.0 ∷ p.1) (parted sample_coin) (then_part (held_part last) (tail_part n)) (coins_part last (suc n))
unfolding coins_from
coins_is last n = record {
  read = λ bytes. refl;
  back = cons_back last n;
  spell = λ p fits. refl;
  to = λ p fits. (ap suc fits.1.0, ((fits.0.0, fits.1.1.0), (fits.0.1, fits.1.1.1)));
  from = cons_from last n;
  flaw_to = coins_to last n;
  flaw_from = coins_of last n;
}

pub coins_core : (last : Option OutPoint) (n : ℕ) → Core (coins_part last n)
unfolding coins_from
coins_core last zero = record {
  takes = λ bytes z fits e.
      subst (λ (y : List HeldCoin × List ℕ). Took (flat_map held_text) (CoinsFit last 0) bytes y) (ok_is ([], bytes) z e)
      (record { parts = refl; fits = (refl, (tt, tt)); rest_bytes = fits });
  again = none_again last;
  stops = λ bytes e fits h. absurd (ok_err (coins_from last 0 bytes) ([], bytes) e refl h);
  flawed = λ bytes e f. absurd (omega (arith, f.fewer));
  behind = λ bytes e fits h. absurd (ok_err (coins_from last 0 bytes) ([], bytes) e refl h);
}
coins_core last (suc n) =
    seen_core (λ (p : HeldCoin × List HeldCoin). p.0 ∷ p.1) (parted sample_coin) (then_part (held_part last) (tail_part n)) (coins_part last (suc n)) (coins_is last n)
    (then_core (held_part last) (tail_part n) (held_core last) (λ held _. coins_core (Some held.at) n))

-- whatever the order
pub loose_coins_ends : (n : ℕ) → Ends (many_part loose_held_part n)
loose_coins_ends = many_ends loose_held_part sample_coin loose_held_core loose_held_ends

-- ---- the same answers, where nothing is out of order

-- the same answer, or an outpoint out of order
pub data OrUnsorted {A : Type 0} (r s : Result A Spot) : Type 0 where
  the_same : r ≡ s → OrUnsorted r s
  unsorted : (rest : List ℕ) → r ≡ Err (Unsorted, rest) → OrUnsorted r s

pub bind_same : {A B : Type 0} (r s : Result A Spot) (f g : A → Result B Spot) → OrUnsorted r s → ((x : A) → OrUnsorted (f x) (g x)) → OrUnsorted (r >>= f) (s >>= g)
bind_same r s f g (unsorted rest is) after = unsorted rest (rw is refl)
bind_same {A = A} {B = B} r s f g (the_same is) after = subst (λ (t : Result A Spot). OrUnsorted (r >>= f) (t >>= g)) is (go r)
  where
    go : (r : Result A Spot) → OrUnsorted (r >>= f) (r >>= g)
    go (Ok x) = after x
    go (Err e) = the_same refl

point_same : (last : Option OutPoint) (bytes : List ℕ) → OrUnsorted (later_point_from last bytes) (point_from bytes)
unfolding later_point_from
point_same last bytes = go (point_from bytes)
  where
    tested : (b : Bool) (x : OutPoint × List ℕ) → OrUnsorted (cond b (Ok x) (Err (Unsorted, bytes))) (Ok x)
    tested true x = the_same refl
    tested false x = unsorted bytes refl

    go : (r : Result (OutPoint × List ℕ) Spot) → OrUnsorted (r >>= λ x. cond (is_after last x.0) (Ok x) (Err (Unsorted, bytes))) r
    go (Ok x) = tested (is_after last x.0) x
    go (Err e) = the_same refl

held_same : (last : Option OutPoint) (bytes : List ℕ) → OrUnsorted (held_from last bytes) (loose_held_from bytes)
unfolding held_from loose_held_from
held_same last bytes =
    bind_same (then_from (later_point_from last) (λ _. named_coin_from) bytes) (then_from point_from (λ _. named_coin_from) bytes) _ _
    (bind_same (later_point_from last bytes) (point_from bytes) _ _ (point_same last bytes) (λ x. the_same refl)) (λ x. the_same refl)

pub coins_same : (last : Option OutPoint) (n : ℕ) (bytes : List ℕ) → OrUnsorted (coins_from last n bytes) (many_from loose_held_from n bytes)
unfolding coins_from
coins_same last zero bytes = the_same refl
coins_same last (suc n) bytes =
    bind_same (then_from (held_from last) (λ held. coins_from (Some held.at) n) bytes) (then_from loose_held_from (λ _. many_from loose_held_from n) bytes) _ _
    (bind_same (held_from last bytes) (loose_held_from bytes) _ _ (held_same last bytes)
    (λ x. bind_same (coins_from (Some x.0.at) n x.1) (many_from loose_held_from n x.1) _ _ (coins_same (Some x.0.at) n x.1) (λ y. the_same refl)))
    (λ x. the_same refl)
