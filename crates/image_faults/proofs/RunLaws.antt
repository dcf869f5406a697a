-- Values of an image that are read one by one: what is read of whole ones, and where the reading stops. Lists have the newest first.
use Rattle.std.proofs.Common.{◌≡◌, ℕ, zero, suc, ◌+◌, ◌<◌, ◌⊎◌, List, [], ◌∷◌, ◌++◌, length, refl, sym, ap, ◌∙◌, append_assoc, arith, inl, inr}
use Rattle.std.specs.Prelude.{Result, Option, Some, None, Ok, Err}
use Rattle.std.specs.Int.{w32}
use Rattle.block_grammar.specs.Combinators.{◌>>=◌, many_from}
use Rattle.block_grammar.proofs.Readers.{IsBytes}
use Rattle.block_grammar.proofs.ReaderLaws.{bind_err}
use Rattle.nmc_base.specs.declared.hashes.OutPoint.{OutPoint}
use Rattle.undo_records.specs.declared.version.Version.{Version}
use Rattle.undo_records.specs.Reading.{Reads, number_from, piece_from, op_from, ops_from, item_from, held_from, coins_from, expired_from, undo_from}
use Rattle.undo_records.proofs.Laws.{Spot, Flaw, Core}
use Rattle.image_faults.specs.Faults.{texts_of}
use Rattle.image_grammar.specs.Reading.{history_head_from}
use Rattle.image_grammar.specs.Resuming.{Answer, fold_then}
use Rattle.image_grammar.specs.Stages.{Gathered, begun, with_op, with_expired, closed, named, with_item, end_from, items_then, names_then, coin_count_then, ops_then, expired_then, expired_count_then, undos_then}
use Rattle.image_grammar.proofs.AgainLaws.{ops_last, with_undo, with_history}
use Rattle.image_grammar.proofs.FoldLaws.{gathered_all}
use Rattle.image_faults.proofs.ValueFaults.{history_from}

-- ---- any values

-- values that are read by what was gathered before them
pub record Run (S A : Type 0) : Type 1 where
  pub text : A → List ℕ
  pub Fits : S → A → Type 0
  pub Flawed : S → Flaw
  pub read : S → Reads A
  pub add : S → A → S
  pub core : (s : S) → Core {A = A} (record { text = text; Fits = Fits s; Flawed = Flawed s; read = read s })

module _ {S A : Type 0} (t : Run S A) (first : S) where
  -- what is gathered of these values
  abbrev pub gathered : List A → S
  gathered [] = first
  gathered (x ∷ below) = t.add (gathered below) x

  abbrev pub RunFits : List A → Type 0
  RunFits [] = Unit {0}
  RunFits (x ∷ below) = t.Fits (gathered below) x × RunFits below

  module _ {R : Type 0} (after : S → Reads R) where
    pub run_again : (xs : List A) (m : ℕ) (more : List ℕ) → RunFits xs → fold_then t.read t.add (length xs + m) first after (texts_of t.text xs ++ more) ≡ fold_then t.read t.add m (gathered xs) after more
    run_again [] m more fit = let none : length {A = A} [] + m ≡ m = omega arith in ap (λ (n : ℕ). fold_then t.read t.add n first after more) none
    run_again (x ∷ below) m more fit =
        let count : length (x ∷ below) + m ≡ length below + suc m = omega arith in
        ap (λ (n : ℕ). fold_then t.read t.add n first after ((texts_of t.text below ++ t.text x) ++ more)) count
        ∙ ap (fold_then t.read t.add (length below + suc m) first after) (append_assoc (texts_of t.text below) (t.text x) more)
        ∙ run_again below (suc m) (t.text x ++ more) fit.1
        ∙ ap (λ (r : Answer A). r >>= λ y. fold_then t.read t.add m (t.add (gathered below) y.0) after y.1) ((t.core (gathered below)).again x more fit.0)

    -- at a value, or behind all of them
    pub data RunStop (n : ℕ) (bytes : List ℕ) (e : Spot) : Type 0 where
      at_value : (xs : List A) (inner : List ℕ) → RunFits xs → length xs < n → bytes ≡ texts_of t.text xs ++ inner → IsBytes inner → t.read (gathered xs) inner ≡ Err e → RunStop n bytes e
      behind_all : (xs : List A) (rest : List ℕ) → RunFits xs → length xs ≡ n → bytes ≡ texts_of t.text xs ++ rest → IsBytes rest → after (gathered xs) rest ≡ Err e → RunStop n bytes e

    run_on : (xs : List A) (m n : ℕ) (bytes inner : List ℕ) (e : Spot) → length xs + m ≡ n → RunFits xs → bytes ≡ texts_of t.text xs ++ inner → IsBytes inner
        → fold_then t.read t.add m (gathered xs) after inner ≡ Err e → RunStop n bytes e
    run_on xs zero n bytes inner e count fit parts are h = behind_all xs inner fit (omega (arith, count)) parts are h
    run_on xs (suc m) n bytes inner e count fit parts are h =
        elim (bind_err (t.read (gathered xs) inner) (λ (y : A × List ℕ). fold_then t.read t.add m (t.add (gathered xs) y.0) after y.1) e h) [
          | inl w ↦ at_value xs inner fit (omega (arith, count)) parts are w
          | inr y ↦
              let took = (t.core (gathered xs)).takes inner y.0 are y.1 in
              run_on (y.0.0 ∷ xs) m n bytes y.0.1 e (omega (arith, count)) (took.fits, fit)
              (parts ∙ ap (λ (l : List ℕ). texts_of t.text xs ++ l) took.parts ∙ sym (append_assoc (texts_of t.text xs) (t.text y.0.0) y.0.1)) took.rest_bytes y.2
        ]

    pub run_stops : (n : ℕ) (bytes : List ℕ) (e : Spot) → IsBytes bytes → fold_then t.read t.add n first after bytes ≡ Err e → RunStop n bytes e
    run_stops n bytes e are h = run_on [] n n bytes bytes e (omega arith) tt refl are h

-- ---- results

pub told_of : {A E : Type 0} (r : Result A E) → ((x : A) × (r ≡ Ok x)) ⊎ ((e : E) × (r ≡ Err e))
told_of (Ok x) = inl (x, refl)
told_of (Err e) = inr (e, refl)

same_behind : {A B E : Type 0} (r : Result A E) (f g : A → Result B E) → ((x : A) → f x ≡ g x) → (r >>= f) ≡ (r >>= g)
same_behind (Ok x) f g same = same x
same_behind (Err e) f g same = refl

-- ---- many values at once

fold_many : {S A R : Type 0} (read : Reads A) (add : S → A → S) (after : S → Reads R) (n : ℕ) (s : S) (bytes : List ℕ)
    → fold_then (λ _. read) add n s after bytes ≡ (many_from read n bytes >>= λ x. after (gathered_all add s x.0) x.1)
fold_many read add after zero s bytes = refl
fold_many {S = S} {A = A} {R = R} read add after (suc n) s bytes =
    elim (told_of (read bytes)) [
      | inr e ↦ rw e.1 refl
      | inl x ↦
          let left : fold_then (λ _. read) add (suc n) s after bytes ≡ fold_then (λ _. read) add n (add s x.0.0) after x.0.1 = rw x.1 refl in
          elim (told_of (many_from read n x.0.1)) [
            | inr e ↦
                let inner : (many_from read n x.0.1 >>= λ y. after (gathered_all add (add s x.0.0) y.0) y.1) ≡ Err e.0 = rw e.1 refl in
                let right : (many_from read (suc n) bytes >>= λ y. after (gathered_all add s y.0) y.1) ≡ Err e.0 = rw (x.1, e.1) refl in
                left ∙ fold_many read add after n (add s x.0.0) x.0.1 ∙ inner ∙ sym right
            | inl y ↦
                let inner : (many_from read n x.0.1 >>= λ y. after (gathered_all add (add s x.0.0) y.0) y.1) ≡ after (gathered_all add (add s x.0.0) y.0.0) y.0.1 = rw y.1 refl in
                let right : (many_from read (suc n) bytes >>= λ y. after (gathered_all add s y.0) y.1) ≡ after (gathered_all add (add s x.0.0) y.0.0) y.0.1 = rw (x.1, y.1) refl in
                left ∙ fold_many read add after n (add s x.0.0) x.0.1 ∙ inner ∙ sym right
          ]
    ]

fold_coins : {R : Type 0} (after : Gathered → Reads R) (n : ℕ) (g : Gathered) (bytes : List ℕ)
    → fold_then (λ (g : Gathered). held_from g.last) with_expired n g after bytes ≡ (coins_from g.last n bytes >>= λ x. after (gathered_all with_expired g x.0) x.1)
unfolding coins_from
fold_coins after zero g bytes = refl
fold_coins after (suc n) g bytes =
    elim (told_of (held_from g.last bytes)) [
      | inr e ↦ rw e.1 refl
      | inl x ↦
          let left : fold_then (λ (g : Gathered). held_from g.last) with_expired (suc n) g after bytes ≡ fold_then (λ (g : Gathered). held_from g.last) with_expired n (with_expired g x.0.0) after x.0.1 = rw x.1 refl in
          elim (told_of (coins_from (Some x.0.0.at) n x.0.1)) [
            | inr e ↦
                let inner : (coins_from (Some x.0.0.at) n x.0.1 >>= λ y. after (gathered_all with_expired (with_expired g x.0.0) y.0) y.1) ≡ Err e.0 = rw e.1 refl in
                let right : (coins_from g.last (suc n) bytes >>= λ y. after (gathered_all with_expired g y.0) y.1) ≡ Err e.0 = rw (x.1, e.1) refl in
                left ∙ fold_coins after n (with_expired g x.0.0) x.0.1 ∙ inner ∙ sym right
            | inl y ↦
                let inner : (coins_from (Some x.0.0.at) n x.0.1 >>= λ y. after (gathered_all with_expired (with_expired g x.0.0) y.0) y.1) ≡ after (gathered_all with_expired (with_expired g x.0.0) y.0.0) y.0.1 = rw y.1 refl in
                let right : (coins_from g.last (suc n) bytes >>= λ y. after (gathered_all with_expired g y.0) y.1) ≡ after (gathered_all with_expired (with_expired g x.0.0) y.0.0) y.0.1 = rw (x.1, y.1) refl in
                left ∙ fold_coins after n (with_expired g x.0.0) x.0.1 ∙ inner ∙ sym right
          ]
    ]

-- ---- names and records, each as one value

module _ (version : Version) where
  names_step : (n : ℕ) (g : Gathered) (bytes : List ℕ) → names_then version (suc n) g bytes ≡ (history_from version g.name bytes >>= λ x. names_then version n (with_history g x.0) x.1)
  names_step n g bytes =
      elim (told_of (history_head_from g.name bytes)) [
        | inr e ↦ rw e.1 refl
        | inl x ↦
            let after = names_then version n in
            let start : Gathered = named g x.0.0.0 in
            let left : names_then version (suc n) g bytes ≡ items_then version x.0.0.1 start after x.0.1 = rw x.1 refl in
            let many = fold_many (item_from version) with_item after x.0.0.1 start x.0.1 in
            elim (told_of (many_from (item_from version) x.0.0.1 x.0.1)) [
              | inr e ↦
                  let inner : (many_from (item_from version) x.0.0.1 x.0.1 >>= λ y. after (gathered_all with_item start y.0) y.1) ≡ Err e.0 = rw e.1 refl in
                  let right : (history_from version g.name bytes >>= λ x. names_then version n (with_history g x.0) x.1) ≡ Err e.0 = rw (x.1, e.1) refl in
                  left ∙ many ∙ inner ∙ sym right
              | inl y ↦
                  let inner : (many_from (item_from version) x.0.0.1 x.0.1 >>= λ y. after (gathered_all with_item start y.0) y.1) ≡ after (gathered_all with_item start y.0.0) y.0.1 = rw y.1 refl in
                  let right : (history_from version g.name bytes >>= λ x. names_then version n (with_history g x.0) x.1) ≡ after (gathered_all with_item start y.0.0) y.0.1 = rw (x.1, y.1) refl in
                  left ∙ many ∙ inner ∙ sym right
            ]
      ]

  pub names_fold : (n : ℕ) (g : Gathered) (bytes : List ℕ) → names_then version n g bytes ≡ fold_then (λ (g : Gathered). history_from version g.name) with_history n g end_from bytes
  names_fold zero g bytes = refl
  names_fold (suc n) g bytes = names_step n g bytes ∙ same_behind (history_from version g.name bytes) _ _ (λ x. names_fold n (with_history g x.0) x.1)

  -- the expired coins of a record, and what comes behind
  expired_step : (after : Gathered → Reads Gathered) (g : Gathered) (bytes : List ℕ) → g.last ≡ None
      → expired_count_then version g after bytes ≡ (expired_from bytes >>= λ x. after (closed (gathered_all with_expired g x.0)) x.1)
  unfolding expired_from
  expired_step after g bytes none =
      elim (told_of (number_from w32 bytes)) [
        | inr e ↦ rw e.1 refl
        | inl c ↦
            let left : expired_count_then version g after bytes ≡ expired_then version c.0.0 g after c.0.1 = rw c.1 refl in
            let coins = fold_coins (λ (g : Gathered). after (closed g)) c.0.0 g c.0.1 in
            let at_none : (coins_from g.last c.0.0 c.0.1 >>= λ x. after (closed (gathered_all with_expired g x.0)) x.1) ≡ (coins_from None c.0.0 c.0.1 >>= λ x. after (closed (gathered_all with_expired g x.0)) x.1) =
            ap (λ (last : Option OutPoint). coins_from last c.0.0 c.0.1 >>= λ x. after (closed (gathered_all with_expired g x.0)) x.1) none in
            elim (told_of (coins_from None c.0.0 c.0.1)) [
              | inr e ↦
                  let inner : (coins_from None c.0.0 c.0.1 >>= λ x. after (closed (gathered_all with_expired g x.0)) x.1) ≡ Err e.0 = rw e.1 refl in
                  let right : (expired_from bytes >>= λ x. after (closed (gathered_all with_expired g x.0)) x.1) ≡ Err e.0 = rw (c.1, e.1) refl in
                  left ∙ coins ∙ at_none ∙ inner ∙ sym right
              | inl d ↦
                  let inner : (coins_from None c.0.0 c.0.1 >>= λ x. after (closed (gathered_all with_expired g x.0)) x.1) ≡ after (closed (gathered_all with_expired g d.0.0)) d.0.1 = rw d.1 refl in
                  let right : (expired_from bytes >>= λ x. after (closed (gathered_all with_expired g x.0)) x.1) ≡ after (closed (gathered_all with_expired g d.0.0)) d.0.1 = rw (c.1, d.1) refl in
                  left ∙ coins ∙ at_none ∙ inner ∙ sym right
            ]
      ]

  undos_step : (n : ℕ) (g : Gathered) (bytes : List ℕ) → undos_then version (suc n) g bytes ≡ (undo_from version bytes >>= λ x. undos_then version n (with_undo g x.0) x.1)
  unfolding undo_from ops_from
  undos_step n g bytes =
      elim (told_of (piece_from 32 bytes)) [
        | inr e ↦ rw e.1 refl
        | inl p ↦ elim (told_of (number_from w32 p.0.1)) [
          | inr e ↦ rw (p.1, e.1) refl
          | inl k ↦
              let after = undos_then version n in
              let start : Gathered = begun g p.0.0 in
              let left : undos_then version (suc n) g bytes ≡ ops_then version k.0.0 start after k.0.1 = rw (p.1, k.1) refl in
              let many = fold_many (op_from version) with_op (λ (g : Gathered). expired_count_then version g after) k.0.0 start k.0.1 in
              elim (told_of (many_from (op_from version) k.0.0 k.0.1)) [
                | inr e ↦
                    let inner : (many_from (op_from version) k.0.0 k.0.1 >>= λ y. expired_count_then version (gathered_all with_op start y.0) after y.1) ≡ Err e.0 = rw e.1 refl in
                    let right : (undo_from version bytes >>= λ x. undos_then version n (with_undo g x.0) x.1) ≡ Err e.0 = rw (p.1, k.1, e.1) refl in
                    left ∙ many ∙ inner ∙ sym right
                | inl m ↦
                    let middle : Gathered = gathered_all with_op start m.0.0 in
                    let inner : (many_from (op_from version) k.0.0 k.0.1 >>= λ y. expired_count_then version (gathered_all with_op start y.0) after y.1) ≡ expired_count_then version middle after m.0.1 = rw m.1 refl in
                    let step = expired_step after middle m.0.1 (ops_last start m.0.0) in
                    elim (told_of (expired_from m.0.1)) [
                      | inr e ↦
                          let last : (expired_from m.0.1 >>= λ x. after (closed (gathered_all with_expired middle x.0)) x.1) ≡ Err e.0 = rw e.1 refl in
                          let right : (undo_from version bytes >>= λ x. undos_then version n (with_undo g x.0) x.1) ≡ Err e.0 = rw (p.1, k.1, m.1, e.1) refl in
                          left ∙ many ∙ inner ∙ step ∙ last ∙ sym right
                      | inl d ↦
                          let last : (expired_from m.0.1 >>= λ x. after (closed (gathered_all with_expired middle x.0)) x.1) ≡ after (closed (gathered_all with_expired middle d.0.0)) d.0.1 = rw d.1 refl in
                          let right : (undo_from version bytes >>= λ x. undos_then version n (with_undo g x.0) x.1) ≡ after (closed (gathered_all with_expired middle d.0.0)) d.0.1 = rw (p.1, k.1, m.1, d.1) refl in
                          left ∙ many ∙ inner ∙ step ∙ last ∙ sym right
                    ]
              ]
        ]
      ]

  pub undos_fold : (n : ℕ) (g : Gathered) (bytes : List ℕ) → undos_then version n g bytes ≡ fold_then (λ (g : Gathered). undo_from version) with_undo n g (coin_count_then version) bytes
  undos_fold zero g bytes = refl
  undos_fold (suc n) g bytes = undos_step n g bytes ∙ same_behind (undo_from version bytes) _ _ (λ x. undos_fold n (with_undo g x.0) x.1)
