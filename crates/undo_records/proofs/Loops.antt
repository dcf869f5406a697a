-- Values that are read one after the other.
use Rattle.std.proofs.Common.{◌≡◌, ℕ, suc, ◌-◌, ◌<◌, ◌≤◌, List, [], ◌∷◌, ◌++◌, Option, Some, refl, sym, ap, subst, ◌∙◌, append_assoc, append-nil, arith}
use Rattle.std.specs.Prelude.{Result, Ok, Err}
use Rattle.nmc_base.specs.declared.hashes.OutPoint.{OutPoint}
use Rattle.block_grammar.specs.Combinators.{◌>>=◌, then_from, map_from, many_from}
use Rattle.block_grammar.proofs.ReaderLaws.{ok_is, bind_ok, made_err}
use Rattle.chain_names.specs.declared.coin.HeldCoin.{HeldCoin}
use Rattle.undo_records.specs.declared.fault.FaultKind.{FaultKind}
use Rattle.undo_records.specs.declared.fault.Stop.{Stop}
use Rattle.undo_records.specs.declared.fault.Stop.TheVariants.{At, NoMemory}
use Rattle.undo_records.specs.Reading.{Reads, held_from, coins_from}
use Rattle.undo_records.specs.Fields.{Stops, Grown, grown_by}

abbrev pub Found : Type 0 → Type 0
Found A = Result (A × List ℕ) (FaultKind × List ℕ)

-- what is read behind values that are there already
abbrev pub behind : {A : Type 0} → List A → Found (List A) → Found (List A)
behind xs (Ok y) = Ok (xs ++ y.0, y.1)
behind xs (Err e) = Err e

-- a value in front of what is read
abbrev pub in_front : {A : Type 0} → A → Found (List A) → Found (List A)
in_front x (Ok y) = Ok (x ∷ y.0, y.1)
in_front x (Err e) = Err e

pub behind_push : {A : Type 0} (xs : List A) (x : A) (r : Found (List A)) → behind (xs ++ x ∷ []) r ≡ behind xs (in_front x r)
behind_push {A = A} xs x (Ok y) = ap (λ (l : List A). Ok (l, y.1)) (append_assoc xs (x ∷ []) y.0)
behind_push xs x (Err e) = refl

-- a value, and then the rest
abbrev pub with_rest : {A : Type 0} → Found A → (A → List ℕ → Found (List A)) → Found (List A)
with_rest (Ok x) more = in_front x.0 (more x.0 x.1)
with_rest (Err e) more = Err e

pub with_rest_is : {A : Type 0} (read : Reads A) (more : A → Reads (List A)) (bytes : List ℕ)
    → map_from (λ (x : A × List A). x.0 ∷ x.1) (then_from read more) bytes ≡ with_rest (read bytes) more
with_rest_is {A = A} read more bytes = go (read bytes)
  where
    inner : (x : A) (r : Found (List A)) → ((r >>= λ (y : List A × List ℕ). Ok ((x, y.0), y.1)) >>= λ (z : (A × List A) × List ℕ). Ok (z.0.0 ∷ z.0.1, z.1)) ≡ in_front x r
    inner x (Ok y) = refl
    inner x (Err e) = refl

    go : (r : Found A) → ((r >>= λ (x : A × List ℕ). more x.0 x.1 >>= λ (y : List A × List ℕ). Ok ((x.0, y.0), y.1)) >>= λ (z : (A × List A) × List ℕ). Ok (z.0.0 ∷ z.0.1, z.1)) ≡ with_rest r more
    go (Ok x) = inner x.0 (more x.0 x.1)
    go (Err e) = refl

-- readers of so many values, of which the first is read by this one
pub record Series (A : Type 0) : Type 0 where
  pub read : Reads A
  pub next : ℕ → A → Reads (List A)
  pub all : ℕ → Reads (List A)
  pub none : (bytes : List ℕ) → all 0 bytes ≡ Ok ([], bytes)
  pub more : (n : ℕ) (bytes : List ℕ) → all (suc n) bytes ≡ with_rest (read bytes) (next n)

abbrev pub many_series : {A : Type 0} → Reads A → Series A
many_series read = record {
  read = read;
  next = λ n _. many_from read n;
  all = many_from read;
  none = λ bytes. refl;
  more = λ n bytes. with_rest_is read (λ _. many_from read n) bytes;
}

pub coins_none : (last : Option OutPoint) (bytes : List ℕ) → coins_from last 0 bytes ≡ Ok ([], bytes)
unfolding coins_from
coins_none last bytes = refl

pub coins_more : (last : Option OutPoint) (n : ℕ) (bytes : List ℕ) → coins_from last (suc n) bytes ≡ with_rest (held_from last bytes) (λ held. coins_from (Some held.at) n)
unfolding coins_from
coins_more last n bytes = with_rest_is (held_from last) (λ held. coins_from (Some held.at) n) bytes

abbrev pub coins_series : Option OutPoint → Series HeldCoin
coins_series last = record { read = held_from last; next = λ n held. coins_from (Some held.at) n; all = coins_from last; none = coins_none last; more = coins_more last }

-- a loop that reads so many values: those that it has, how many it has, the bytes that are left, and what comes in the end
pub record Halfway (A : Type 0) : Type 0 where
  pub values : List A
  pub count : ℕ
  pub counter : ℕ
  pub rest : List ℕ
  pub whole : Found (List A)

-- what is left to be read, behind the values that it has, is the whole
abbrev pub Leads : {A : Type 0} → Series A → Halfway A → Type 0
Leads s l = behind l.values (s.all (l.count - l.counter) l.rest) ≡ l.whole

one_less : (count counter : ℕ) → counter < count → count - counter ≡ suc (count - suc counter)
one_less count counter lt = omega arith

module _ {A : Type 0} (s : Series A) (l : Halfway A) where
  -- the next value, and what is read behind it
  next_is : l.counter < l.count → behind l.values (s.all (l.count - l.counter) l.rest) ≡ behind l.values (with_rest (s.read l.rest) (s.next (l.count - suc l.counter)))
  next_is lt = ap (λ (n : ℕ). behind l.values (s.all n l.rest)) (one_less l.count l.counter lt) ∙ ap (λ (r : Found (List A)). behind l.values r) (s.more (l.count - suc l.counter) l.rest)

  -- a value more was read
  one_more : (x : A) (after : List ℕ) → l.counter < l.count → Ok (x, after) ≡ s.read l.rest → Leads s l → behind (l.values ++ x ∷ []) (s.next (l.count - suc l.counter) x after) ≡ l.whole
  one_more x after lt e so_far =
      behind_push l.values x (s.next (l.count - suc l.counter) x after)
      ∙ ap (λ (r : Found A). behind l.values (with_rest r (s.next (l.count - suc l.counter)))) e
      ∙ sym (next_is lt)
      ∙ so_far

  -- the next value isn't read
  pub no_more : (stop : Stop) → l.counter < l.count → Stops stop (s.read l.rest) → Leads s l → Stops stop l.whole
  no_more NoMemory lt e so_far = tt
  no_more (At fault) lt e so_far = ap (λ (r : Found A). behind l.values (with_rest r (s.next (l.count - suc l.counter)))) e ∙ sym (next_is lt) ∙ so_far

  -- nothing is left to read
  pub all_read : l.count ≤ l.counter → Leads s l → Ok (l.values, l.rest) ≡ l.whole
  all_read le so_far =
      let none_left : l.count - l.counter ≡ 0 = omega arith in
      ap (λ (values : List A). Ok (values, l.rest)) (sym (append-nil l.values))
      ∙ sym (ap (λ (n : ℕ). behind l.values (s.all n l.rest)) none_left ∙ ap (λ (r : Found (List A)). behind l.values r) (s.none l.rest))
      ∙ so_far

-- a value more was read, and stands behind those before it
pub many_grown : {A : Type 0} (read : Reads A) (l : Halfway A) (values : List A) (after : List ℕ) → l.counter < l.count
    → Ok (values, after) ≡ map_from (λ (x : A). l.values ++ x ∷ []) read l.rest → Leads (many_series read) l
    → behind values (many_from read (l.count - suc l.counter) after) ≡ l.whole
many_grown {A = A} read l values after lt e so_far =
    let a = bind_ok (read l.rest) (λ (x : A × List ℕ). Ok (l.values ++ x.0 ∷ [], x.1)) (values, after) (sym e) in
    subst (λ (y : List A × List ℕ). behind y.0 (many_from read (l.count - suc l.counter) y.1) ≡ l.whole) (ok_is _ _ a.2) (one_more (many_series read) l a.0.0 a.0.1 lt (sym a.1) so_far)

-- a coin more was read, and stands behind those before it
pub coins_grown : (last : Option OutPoint) (l : Halfway HeldCoin) (coins : List HeldCoin) (at : OutPoint) (after : List ℕ) → l.counter < l.count
    → Ok ((coins, at), after) ≡ map_from (grown_by l.values) (held_from last) l.rest → Leads (coins_series last) l
    → behind coins (coins_from (Some at) (l.count - suc l.counter) after) ≡ l.whole
coins_grown last l coins at after lt e so_far =
    let a = bind_ok (held_from last l.rest) (λ (x : HeldCoin × List ℕ). Ok (grown_by l.values x.0, x.1)) ((coins, at), after) (sym e) in
    subst (λ (y : Grown × List ℕ). behind y.0.0 (coins_from (Some y.0.1) (l.count - suc l.counter) y.1) ≡ l.whole) (ok_is _ _ a.2) (one_more (coins_series last) l a.0.0 a.0.1 lt (sym a.1) so_far)

-- what isn't read has no changed value
pub not_changed : {A B : Type 0} (f : A → B) (r : Found A) (stop : Stop) → Stops stop (r >>= λ (x : A × List ℕ). Ok (f x.0, x.1)) → Stops stop r
not_changed f r NoMemory e = tt
not_changed {A = A} f r (At fault) e = sym (made_err r (λ (x : A × List ℕ). (f x.0, x.1)) (fault.kind, fault.rest.now) (sym e))
