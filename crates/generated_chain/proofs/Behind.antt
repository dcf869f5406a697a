-- What a run holds before its first block, and behind one block more.
use Rattle.std.proofs.Common.{◌≡◌, ◌≢◌, ℕ, ◌+◌, ◌<◌, ◌==◌, Bool, true, false, cond, List, length, get_or, set, replicate, refl, sym, ap, subst, ◌∙◌, inl, inr, add-one, arith, get_or-set_other, get_or-set_same}
use Rattle.std.proofs.lemmas.Bool.{cases_eq}
use Rattle.std.proofs.lemmas.List.{get_or-replicate}
use Rattle.nmc_base.specs.Heights.{highest}
use Rattle.nmc_base.specs.declared.chain_ends.Base.{Base}
use Rattle.nmc_base.specs.declared.chain_ends.Tip.{Tip}
use Rattle.generated_chain.specs.Draws.{next_state, number_drawn, state_behind}
use Rattle.generated_chain.specs.Stands.{unknown, stand_behind}
use Rattle.generated_chain.specs.Blocks.{run_base, number_at, stand_at, tip_at, tip_with, block_on, drawn_stand}
use Rattle.generated_chain.specs.Events.{round_on, round_at}
use Rattle.generated_chain.specs.Holding.{AreStands, Holds}
use Rattle.generated_chain.specs.declared.run.Round.{Round}
use Rattle.generated_chain.specs.declared.run.Run.TheInside.{Inside}
use Rattle.generated_chain.specs.declared.stand.Stand.{Stand}

-- ---- before the first block

fresh_stands : (seed : ℕ) → AreStands (replicate 64 unknown) seed 0
unfolding stand_at
fresh_stands seed number below = get_or-replicate 64 number unknown unknown below

fresh_tip : (seed : ℕ) → record { height = run_base.height; hash = run_base.hash } ≡ tip_at seed 0
unfolding tip_at
fresh_tip seed = refl

pub fresh : (seed : ℕ) (base : Base) → base ≡ run_base → Holds (record { seed = seed; state = seed; tip = record { height = base.height; hash = base.hash }; stands = replicate 64 unknown })
fresh seed base is = record {
  state = ap (state_behind seed) (sym (ap (λ (b : Base). b.height) is));
  tip = ap (λ (b : Base). record { height = b.height; hash = b.hash }) is ∙ fresh_tip seed ∙ ap (tip_at seed) (sym (ap (λ (b : Base). b.height) is));
  stands = subst (AreStands (replicate 64 unknown) seed) (sym (ap (λ (b : Base). b.height) is)) (fresh_stands seed);
  low = omega (arith, ap (λ (b : Base). b.height) is);
}

-- ---- one block more

state_above : (seed n : ℕ) → state_behind seed (n + 1) ≡ next_state (state_behind seed n)
state_above seed n = ap (state_behind seed) (add-one n)

tip_above : (seed n : ℕ) → tip_at seed (n + 1) ≡ tip_with (tip_at seed n) (block_on (tip_at seed n) (number_at seed n) (drawn_stand seed n))
unfolding tip_at
tip_above seed n = ap (tip_at seed) (add-one n)

stand_above : (seed number n : ℕ) → stand_at seed number (n + 1) ≡ cond (number_at seed n == number) (stand_behind (n + 1) number (stand_at seed number n)) (stand_at seed number n)
unfolding stand_at
stand_above seed number n = ap (stand_at seed number) (add-one n)

stand_of_drawn : (seed number n : ℕ) → number ≡ number_at seed n → stand_at seed number (n + 1) ≡ stand_behind (n + 1) number (stand_at seed number n)
stand_of_drawn seed number n is =
    let test : (number_at seed n == number) ≡ true = grind arith in
    stand_above seed number n ∙ ap (λ (b : Bool). cond b (stand_behind (n + 1) number (stand_at seed number n)) (stand_at seed number n)) test

stand_of_other : (seed number n : ℕ) → number ≢ number_at seed n → stand_at seed number (n + 1) ≡ stand_at seed number n
stand_of_other seed number n other =
    let test : (number_at seed n == number) ≡ false = grind arith in
    stand_above seed number n ∙ ap (λ (b : Bool). cond b (stand_behind (n + 1) number (stand_at seed number n)) (stand_at seed number n)) test

stands_above : (stands : List Stand) (seed n number : ℕ) (stand : Stand) → length stands ≡ 64 → number ≡ number_at seed n → number < 64
    → stand ≡ stand_behind (n + 1) number (get_or stands number unknown) → AreStands stands seed n → AreStands (set stands number stand) seed (n + 1)
stands_above stands seed n number stand len is lt new old other below =
    elim (cases_eq other number) [
      | inl same ↦
          let at : get_or (set stands number stand) number unknown ≡ stand_at seed number (n + 1) =
          get_or-set_same stands number stand unknown (omega (arith, len, lt)) ∙ new
          ∙ ap (stand_behind (n + 1) number) (old number lt) ∙ sym (stand_of_drawn seed number n is) in
          subst (λ (k : ℕ). get_or (set stands number stand) k unknown ≡ stand_at seed k (n + 1)) (sym same) at
      | inr differs ↦
          get_or-set_other stands number other stand unknown differs ∙ old other below
          ∙ sym (stand_of_other seed other n (λ e. differs (e ∙ sym is)))
    ]

-- the draw, and what the name was before it
number_above : (run : Inside) (state number : ℕ) → Holds run → state ≡ next_state run.state → number ≡ number_drawn state → number ≡ number_at run.seed run.tip.height
number_above run state number holds drawn is =
    is ∙ ap number_drawn (drawn ∙ ap next_state holds.state ∙ sym (state_above run.seed run.tip.height))

pub next_round : (run : Inside) (state number : ℕ) → Holds run → state ≡ next_state run.state → number ≡ number_drawn state → number < 64
    → round_on run.tip number (get_or run.stands number unknown) ≡ round_at run.seed run.tip.height
next_round run state number holds drawn is lt =
    let seed = run.seed in
    let n = run.tip.height in
    let same = number_above run state number holds drawn is in
    ap (λ (t : Tip). round_on t number (get_or run.stands number unknown)) holds.tip
    ∙ ap (round_on (tip_at seed n) number) (holds.stands number lt)
    ∙ ap (λ (k : ℕ). round_on (tip_at seed n) k (stand_at seed k n)) same

pub next_holds : (run : Inside) (state number : ℕ) (round : Round) (stand : Stand) → Holds run → run.tip.height < highest → length run.stands ≡ 64
    → state ≡ next_state run.state → number ≡ number_drawn state → number < 64
    → round ≡ round_at run.seed run.tip.height
    → stand ≡ stand_behind (run.tip.height + 1) number (get_or run.stands number unknown)
    → Holds (record { seed = run.seed; state = state; tip = record { height = run.tip.height + 1; hash = round.hash }; stands = set run.stands number stand })
next_holds run state number round stand holds low len drawn is lt made new =
    let seed = run.seed in
    let n = run.tip.height in
    record {
      state = drawn ∙ ap next_state holds.state ∙ sym (state_above seed n);
      tip = ap (λ (r : Round). record { height = n + 1; hash = r.hash }) made
          ∙ ap (λ (h : ℕ). record { height = h + 1; hash = (round_at seed n).hash }) (ap (λ (t : Tip). t.height) holds.tip) ∙ sym (tip_above seed n);
      stands = stands_above run.stands seed n number stand len (number_above run state number holds drawn is) lt new holds.stands;
      low = omega (arith, low);
    }
