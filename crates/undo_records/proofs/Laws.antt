-- The laws of the readers: what is read is spelled so and fits; what fits is read, whatever follows; and each fault has
-- its cause.
use Rattle.std.proofs.Common.{◌≡◌, ℕ, zero, suc, ◌<◌, ◌⊎◌, List, [], ◌∷◌, ◌++◌, length, refl, sym, ap, subst, ◌∙◌, append_assoc, arith, inl, inr}
use Rattle.std.specs.Prelude.{Ok, Err}
use Rattle.std.specs.List.{flat_map, AllByRecursion}
use Rattle.block_grammar.proofs.Readers.{IsBytes, Took}
use Rattle.block_grammar.specs.Combinators.{◌>>=◌, then_from, map_from, many_from}
use Rattle.block_grammar.proofs.ReaderLaws.{parted, ok_is, ok_err, bind_ok, bind_err, made_err, pair_text, PairFits, ManyFit}
use Rattle.undo_records.specs.declared.fault.FaultKind.{FaultKind}
use Rattle.undo_records.specs.declared.fault.FaultKind.TheVariants.{Cut, BadTag}
use Rattle.undo_records.specs.Reading.{Reads}
use Rattle.undo_records.specs.Faults.{IsProperFront}

abbrev pub Spot : Type 0
Spot = FaultKind × List ℕ

abbrev pub ended : Spot
ended = (Cut, [])

-- what is wrong in bytes, and where, but for their end
abbrev pub Flaw : Type 1
Flaw = List ℕ → Spot → Type 0

abbrev pub NoFlaw : Flaw
NoFlaw bytes e = ⊥

-- a part of a text: how its values are spelled, which have a text, what may be wrong in bytes, and the reader
pub record Part (A : Type 0) : Type 1 where
  pub text : A → List ℕ
  pub Fits : A → Type 0
  pub Flawed : Flaw
  pub read : Reads A

pub record Core {A : Type 0} (p : Part A) : Type 0 where
  pub takes : (bytes : List ℕ) (x : A × List ℕ) → IsBytes bytes → p.read bytes ≡ Ok x → Took p.text p.Fits bytes x
  pub again : (x : A) (rest : List ℕ) → p.Fits x → p.read (p.text x ++ rest) ≡ Ok (x, rest)
  pub stops : (bytes : List ℕ) (e : Spot) → IsBytes bytes → p.read bytes ≡ Err e → (e ≡ ended) ⊎ p.Flawed bytes e
  pub flawed : (bytes : List ℕ) (e : Spot) → p.Flawed bytes e → p.read bytes ≡ Err e
  pub behind : (bytes : List ℕ) (e : Spot) → IsBytes bytes → p.read bytes ≡ Err e → (front : List ℕ) × (bytes ≡ front ++ e.1)

-- where bytes end too early
pub record Ends {A : Type 0} (p : Part A) : Type 0 where
  pub short : (bytes : List ℕ) → IsProperFront p.text p.Fits bytes → p.read bytes ≡ Err ended
  pub begun : (bytes : List ℕ) → IsBytes bytes → p.read bytes ≡ Err ended → IsProperFront p.text p.Fits bytes
  -- some value, so that what comes before can go on
  pub sample : A
  pub sample_fits : p.Fits sample

-- ---- one value, and then another

pub data PairFlaw {A B : Type 0} (p : Part A) (q : A → Part B) (bytes : List ℕ) (e : Spot) : Type 0 where
  in_first : p.Flawed bytes e → PairFlaw p q bytes e
  in_second : (x : A) (mid : List ℕ) → p.Fits x → bytes ≡ p.text x ++ mid → (q x).Flawed mid e → PairFlaw p q bytes e

abbrev pub then_part : {A B : Type 0} → Part A → (A → Part B) → Part (A × B)
then_part p q = record {
  text = pair_text p.text (λ x. (q x).text);
  Fits = PairFits p.Fits (λ x. (q x).Fits);
  Flawed = PairFlaw p q;
  read = then_from p.read (λ x. (q x).read);
}

-- where a front ends: in the first text, or in the second
pub split_front : (xs ys bytes : List ℕ) (b : ℕ) (more : List ℕ) → xs ++ ys ≡ bytes ++ b ∷ more
    → ((c : ℕ) × (m : List ℕ) × (xs ≡ bytes ++ c ∷ m)) ⊎ ((mid : List ℕ) × (bytes ≡ xs ++ mid) × (ys ≡ mid ++ b ∷ more))
split_front [] ys bytes b more e = inr (bytes, refl, e)
split_front (x ∷ xs) ys [] b more e = inl (x, xs, refl)
split_front (x ∷ xs) ys (c ∷ cs) b more e =
    let head : x ≡ c = cc in
    let tail : xs ++ ys ≡ cs ++ b ∷ more = cc in
    elim (split_front xs ys cs b more tail) [
      | inl w ↦ inl (w.0, w.1, ap (λ (t : List ℕ). x ∷ t) w.2 ∙ ap (λ (h : ℕ). h ∷ (cs ++ w.0 ∷ w.1)) head)
      | inr w ↦ inr (w.0, ap (λ (h : ℕ). h ∷ cs) (sym head) ∙ ap (λ (t : List ℕ). x ∷ t) w.1, w.2)
    ]

module _ {A B : Type 0} (p : Part A) (q : A → Part B) (r1 : Core p) where
  after_first : (x : A) (mid : List ℕ) (e : Spot) → p.Fits x → (q x).read mid ≡ Err e → then_from p.read (λ x. (q x).read) (p.text x ++ mid) ≡ Err e
  after_first x mid e fits h = rw (r1.again x mid fits, h) refl

  pub then_core : ((x : A) → p.Fits x → Core (q x)) → Core (then_part p q)
  then_core r2 = record {
    takes = λ bytes z fits e.
        let a = bind_ok (p.read bytes) (λ (x : A × List ℕ). (q x.0).read x.1 >>= λ (y : B × List ℕ). Ok ((x.0, y.0), y.1)) z e in
        let b = bind_ok ((q a.0.0).read a.0.1) (λ (y : B × List ℕ). Ok ((a.0.0, y.0), y.1)) z a.2 in
        let t1 = r1.takes bytes a.0 fits a.1 in
        let t2 = (r2 a.0.0 t1.fits).takes a.0.1 b.0 t1.rest_bytes b.1 in
        let whole : bytes ≡ (p.text a.0.0 ++ (q a.0.0).text b.0.0) ++ b.0.1 = t1.parts ∙ ap (λ (t : List ℕ). p.text a.0.0 ++ t) t2.parts ∙ sym (append_assoc (p.text a.0.0) ((q a.0.0).text b.0.0) b.0.1) in
        let made : (A × B) × List ℕ = ((a.0.0, b.0.0), b.0.1) in
        subst (λ (y : (A × B) × List ℕ). Took (pair_text p.text (λ x. (q x).text)) (PairFits p.Fits (λ x. (q x).Fits)) bytes y) (ok_is made z b.2)
        (record { parts = whole; fits = (t1.fits, t2.fits); rest_bytes = t2.rest_bytes });
    again = λ z rest fits. rw (append_assoc (p.text z.0) ((q z.0).text z.1) rest, r1.again z.0 ((q z.0).text z.1 ++ rest) fits.0, (r2 z.0 fits.0).again z.1 rest fits.1) refl;
    stops = λ bytes e fits h.
        elim (bind_err (p.read bytes) (λ (x : A × List ℕ). (q x.0).read x.1 >>= λ (y : B × List ℕ). Ok ((x.0, y.0), y.1)) e h) [
          | inl w ↦ elim (r1.stops bytes e fits w) [ inl cut ↦ inl cut | inr f ↦ inr (in_first f) ]
          | inr x ↦
              let inner : (q x.0.0).read x.0.1 ≡ Err e = made_err ((q x.0.0).read x.0.1) (λ (y : B × List ℕ). ((x.0.0, y.0), y.1)) e x.2 in
              let t1 = r1.takes bytes x.0 fits x.1 in
              elim ((r2 x.0.0 t1.fits).stops x.0.1 e t1.rest_bytes inner) [ inl cut ↦ inl cut | inr f ↦ inr (in_second x.0.0 x.0.1 t1.fits t1.parts f) ]
        ];
    flawed = λ bytes e f.
        elim f [
          | in_first f1 ↦ rw (r1.flawed bytes e f1) refl
          | in_second x mid fits parts f2 ↦ ap (then_from p.read (λ x. (q x).read)) parts ∙ after_first x mid e fits ((r2 x fits).flawed mid e f2)
        ];
    behind = λ bytes e fits h.
        elim (bind_err (p.read bytes) (λ (x : A × List ℕ). (q x.0).read x.1 >>= λ (y : B × List ℕ). Ok ((x.0, y.0), y.1)) e h) [
          | inl w ↦ r1.behind bytes e fits w
          | inr x ↦
              let inner : (q x.0.0).read x.0.1 ≡ Err e = made_err ((q x.0.0).read x.0.1) (λ (y : B × List ℕ). ((x.0.0, y.0), y.1)) e x.2 in
              let t1 = r1.takes bytes x.0 fits x.1 in
              let b = (r2 x.0.0 t1.fits).behind x.0.1 e t1.rest_bytes inner in
              (p.text x.0.0 ++ b.0, t1.parts ∙ ap (λ (t : List ℕ). p.text x.0.0 ++ t) b.1 ∙ sym (append_assoc (p.text x.0.0) b.0 e.1))
        ];
  }

  pub then_ends : Ends p → ((x : A) → p.Fits x → Ends (q x)) → Ends (then_part p q)
  then_ends s1 s2 = record {
    short = λ bytes front.
        let v = front.value in
        elim (split_front (p.text v.0) ((q v.0).text v.1) bytes front.next front.more front.text_is) [
          | inl w ↦ rw (s1.short bytes (record { value = v.0; fits = front.fits.0; next = w.0; more = w.1; text_is = w.2 })) refl
          | inr w ↦
              ap (then_from p.read (λ x. (q x).read)) w.1
              ∙ after_first v.0 w.0 ended front.fits.0 ((s2 v.0 front.fits.0).short w.0 (record { value = v.1; fits = front.fits.1; next = front.next; more = front.more; text_is = w.2 }))
        ];
    begun = λ bytes fits h.
        elim (bind_err (p.read bytes) (λ (x : A × List ℕ). (q x.0).read x.1 >>= λ (y : B × List ℕ). Ok ((x.0, y.0), y.1)) ended h) [
          | inl w ↦
              let front = s1.begun bytes fits w in
              let v = front.value in
              let y = (s2 v front.fits).sample in
              record {
                value = (v, y);
                fits = (front.fits, (s2 v front.fits).sample_fits);
                next = front.next;
                more = front.more ++ (q v).text y;
                text_is = ap (λ (t : List ℕ). t ++ (q v).text y) front.text_is ∙ append_assoc bytes (front.next ∷ front.more) ((q v).text y);
              }
          | inr x ↦
              let inner : (q x.0.0).read x.0.1 ≡ Err ended = made_err ((q x.0.0).read x.0.1) (λ (y : B × List ℕ). ((x.0.0, y.0), y.1)) ended x.2 in
              let t1 = r1.takes bytes x.0 fits x.1 in
              let front = (s2 x.0.0 t1.fits).begun x.0.1 t1.rest_bytes inner in
              record {
                value = (x.0.0, front.value);
                fits = (t1.fits, front.fits);
                next = front.next;
                more = front.more;
                text_is = ap (λ (t : List ℕ). p.text x.0.0 ++ t) front.text_is ∙ sym (append_assoc (p.text x.0.0) x.0.1 (front.next ∷ front.more)) ∙ ap (λ (t : List ℕ). t ++ front.next ∷ front.more) (sym t1.parts);
              }
        ];
    sample = (s1.sample, (s2 s1.sample s1.sample_fits).sample);
    sample_fits = (s1.sample_fits, (s2 s1.sample s1.sample_fits).sample_fits);
  }

-- ---- a value seen otherwise

-- the values of one part are those of another, seen by one function and back by another
pub record IsSeenBy {A B : Type 0} (f : A → B) (g : B → A) (p : Part A) (q : Part B) : Type 0 where
  pub read : (bytes : List ℕ) → q.read bytes ≡ map_from f p.read bytes
  pub back : (y : B) → q.Fits y → f (g y) ≡ y
  pub spell : (x : A) → p.Fits x → q.text (f x) ≡ p.text x
  pub to : (x : A) → p.Fits x → q.Fits (f x)
  pub from : (y : B) → q.Fits y → p.Fits (g y)
  pub flaw_to : (bytes : List ℕ) (e : Spot) → p.Flawed bytes e → q.Flawed bytes e
  pub flaw_from : (bytes : List ℕ) (e : Spot) → q.Flawed bytes e → p.Flawed bytes e

module _ {A B : Type 0} (f : A → B) (g : B → A) (p : Part A) (q : Part B) (is : IsSeenBy f g p q) where
  spelled : (y : B) → q.Fits y → q.text y ≡ p.text (g y)
  spelled y fits = ap q.text (sym (is.back y fits)) ∙ is.spell (g y) (is.from y fits)

  pub seen_core : Core p → Core q
  seen_core r = record {
    takes = λ bytes z fits e.
        let a = bind_ok (p.read bytes) (λ (x : A × List ℕ). Ok (f x.0, x.1)) z (sym (is.read bytes) ∙ e) in
        let t = r.takes bytes a.0 fits a.1 in
        let made : B × List ℕ = (f a.0.0, a.0.1) in
        subst (λ (y : B × List ℕ). Took q.text q.Fits bytes y) (ok_is made z a.2)
        (record { parts = rw (is.spell a.0.0 t.fits) t.parts; fits = is.to a.0.0 t.fits; rest_bytes = t.rest_bytes });
    again = λ y rest fits. is.read (q.text y ++ rest) ∙ rw (spelled y fits, r.again (g y) rest (is.from y fits), is.back y fits) refl;
    stops = λ bytes e fits h.
        elim (r.stops bytes e fits (made_err (p.read bytes) (λ (x : A × List ℕ). (f x.0, x.1)) e (sym (is.read bytes) ∙ h))) [ inl cut ↦ inl cut | inr f ↦ inr (is.flaw_to bytes e f) ];
    flawed = λ bytes e h. is.read bytes ∙ rw (r.flawed bytes e (is.flaw_from bytes e h)) refl;
    behind = λ bytes e fits h. r.behind bytes e fits (made_err (p.read bytes) (λ (x : A × List ℕ). (f x.0, x.1)) e (sym (is.read bytes) ∙ h));
  }

  pub seen_ends : Ends p → Ends q
  seen_ends s = record {
    short = λ bytes front.
        let v = front.value in
        is.read bytes ∙ rw (s.short bytes (record { value = g v; fits = is.from v front.fits; next = front.next; more = front.more; text_is = sym (spelled v front.fits) ∙ front.text_is })) refl;
    begun = λ bytes fits h.
        let front = s.begun bytes fits (made_err (p.read bytes) (λ (x : A × List ℕ). (f x.0, x.1)) ended (sym (is.read bytes) ∙ h)) in
        record { value = f front.value; fits = is.to front.value front.fits; next = front.next; more = front.more; text_is = is.spell front.value front.fits ∙ front.text_is };
    sample = f s.sample;
    sample_fits = is.to s.sample s.sample_fits;
  }

-- ---- the same, said otherwise

pub record IsSaid {A : Type 0} (p q : Part A) : Type 0 where
  pub read : (bytes : List ℕ) → q.read bytes ≡ p.read bytes
  pub spell : (x : A) → p.Fits x → q.text x ≡ p.text x
  pub to : (x : A) → p.Fits x → q.Fits x
  pub from : (x : A) → q.Fits x → p.Fits x
  pub flaw_to : (bytes : List ℕ) (e : Spot) → p.Flawed bytes e → q.Flawed bytes e
  pub flaw_from : (bytes : List ℕ) (e : Spot) → q.Flawed bytes e → p.Flawed bytes e

module _ {A : Type 0} (p q : Part A) (is : IsSaid p q) where
  pub said_core : Core p → Core q
  said_core r = record {
    takes = λ bytes x fits e.
        let t = r.takes bytes x fits (sym (is.read bytes) ∙ e) in
        record { parts = t.parts ∙ ap (λ (l : List ℕ). l ++ x.1) (sym (is.spell x.0 t.fits)); fits = is.to x.0 t.fits; rest_bytes = t.rest_bytes };
    again = λ x rest fits. is.read (q.text x ++ rest) ∙ ap (λ (l : List ℕ). p.read (l ++ rest)) (is.spell x (is.from x fits)) ∙ r.again x rest (is.from x fits);
    stops = λ bytes e fits h. elim (r.stops bytes e fits (sym (is.read bytes) ∙ h)) [ inl cut ↦ inl cut | inr f ↦ inr (is.flaw_to bytes e f) ];
    flawed = λ bytes e f. is.read bytes ∙ r.flawed bytes e (is.flaw_from bytes e f);
    behind = λ bytes e fits h. r.behind bytes e fits (sym (is.read bytes) ∙ h);
  }

  pub said_ends : Ends p → Ends q
  said_ends s = record {
    short = λ bytes front.
        let v = front.value in
        is.read bytes ∙ s.short bytes (record { value = v; fits = is.from v front.fits; next = front.next; more = front.more; text_is = sym (is.spell v (is.from v front.fits)) ∙ front.text_is });
    begun = λ bytes fits h.
        let front = s.begun bytes fits (sym (is.read bytes) ∙ h) in
        record { value = front.value; fits = is.to front.value front.fits; next = front.next; more = front.more; text_is = is.spell front.value front.fits ∙ front.text_is };
    sample = s.sample;
    sample_fits = is.to s.sample s.sample_fits;
  }

-- a bad tag at the front of a rest
pub record TagFlaw (Is : List ℕ → List ℕ → Type 0) (bytes : List ℕ) (e : Spot) : Type 0 where
  pub rest : List ℕ
  pub flaw : Is bytes rest
  pub is : (BadTag, rest) ≡ e

-- ---- many values

-- fewer values than so many, and then what is wrong
pub record ManyFlaw {A : Type 0} (p : Part A) (n : ℕ) (bytes : List ℕ) (e : Spot) : Type 0 where
  pub before : List A
  pub fits : AllByRecursion p.Fits before
  pub fewer : length before < n
  pub inner : List ℕ
  pub parts : bytes ≡ flat_map p.text before ++ inner
  pub flaw : p.Flawed inner e

abbrev pub many_part : {A : Type 0} → Part A → ℕ → Part (List A)
many_part p n = record { text = flat_map p.text; Fits = ManyFit p.Fits n; Flawed = ManyFlaw p n; read = many_from p.read n }

module _ {A : Type 0} (p : Part A) (sample : A) where
  none_again : (xs : List A) (rest : List ℕ) → ManyFit p.Fits 0 xs → many_from p.read 0 (flat_map p.text xs ++ rest) ≡ Ok (xs, rest)
  none_again [] rest fits = refl
  none_again (x ∷ xs) rest fits = absurd (omega (arith, fits.0))

  cons_back : (n : ℕ) (xs : List A) → ManyFit p.Fits (suc n) xs → (parted sample xs).0 ∷ (parted sample xs).1 ≡ xs
  unfolding parted
  cons_back n [] fits = absurd (omega (arith, fits.0))
  cons_back n (x ∷ xs) fits = refl

  cons_from : (n : ℕ) (xs : List A) → ManyFit p.Fits (suc n) xs → PairFits p.Fits (λ _. ManyFit p.Fits n) (parted sample xs)
  unfolding parted
  cons_from n [] fits = absurd (omega (arith, fits.0))
  cons_from n (x ∷ xs) fits = (fits.1.0, (omega (arith, fits.0), fits.1.1))

  flaw_to : (n : ℕ) (bytes : List ℕ) (e : Spot) → PairFlaw p (λ _. many_part p n) bytes e → ManyFlaw p (suc n) bytes e
  flaw_to n bytes e (in_first f) = record { before = []; fits = tt; fewer = omega arith; inner = bytes; parts = refl; flaw = f }
  flaw_to n bytes e (in_second x mid fits parts f) = record {
    before = x ∷ f.before;
    fits = (fits, f.fits);
    fewer = omega (arith, f.fewer);
    inner = f.inner;
    parts = parts ∙ ap (λ (t : List ℕ). p.text x ++ t) f.parts ∙ sym (append_assoc (p.text x) (flat_map p.text f.before) f.inner);
    flaw = f.flaw;
  }

  flaw_from : (n : ℕ) (bytes : List ℕ) (e : Spot) → ManyFlaw p (suc n) bytes e → PairFlaw p (λ _. many_part p n) bytes e
  flaw_from n bytes e f = go f.before f.fits f.fewer f.inner f.parts f.flaw
    where
      go : (before : List A) → AllByRecursion p.Fits before → length before < suc n → (inner : List ℕ) → bytes ≡ flat_map p.text before ++ inner → p.Flawed inner e
          → PairFlaw p (λ _. many_part p n) bytes e
      go [] fits fewer inner parts flaw = in_first (subst (λ (t : List ℕ). p.Flawed t e) (sym parts) flaw)
      go (x ∷ xs) fits fewer inner parts flaw =
          in_second x (flat_map p.text xs ++ inner) fits.0 (parts ∙ append_assoc (p.text x) (flat_map p.text xs) inner)
          (record { before = xs; fits = fits.1; fewer = omega (arith, fewer); inner = inner; parts = refl; flaw = flaw })

  more_is : (n : ℕ) → IsSeenBy (λ (z : A × List A). z.0 ∷ z.1) (parted sample) (then_part p (λ _. many_part p n)) (many_part p (suc n))
  more_is n = record {
    read = λ bytes. refl;
    back = cons_back n;
    spell = λ z fits. refl;
    to = λ z fits. (ap suc fits.1.0, (fits.0, fits.1.1));
    from = cons_from n;
    flaw_to = flaw_to n;
    flaw_from = flaw_from n;
  }

  pub many_core : Core p → (n : ℕ) → Core (many_part p n)
  many_core r zero = record {
    takes = λ bytes z fits e.
        subst (λ (y : List A × List ℕ). Took (flat_map p.text) (ManyFit p.Fits 0) bytes y) (ok_is ([], bytes) z e)
        (record { parts = refl; fits = (refl, tt); rest_bytes = fits });
    again = none_again;
    stops = λ bytes e fits h. absurd (ok_err (many_from p.read 0 bytes) ([], bytes) e refl h);
    flawed = λ bytes e f. absurd (omega (arith, f.fewer));
    behind = λ bytes e fits h. absurd (ok_err (many_from p.read 0 bytes) ([], bytes) e refl h);
  }
  many_core r (suc n) =
      seen_core (λ (z : A × List A). z.0 ∷ z.1) (parted sample) (then_part p (λ _. many_part p n)) (many_part p (suc n)) (more_is n)
      (then_core p (λ _. many_part p n) r (λ _ _. many_core r n))

  no_front : (xs bytes : List ℕ) (b : ℕ) → [] ≡ bytes ++ b ∷ xs → ⊥
  no_front xs [] b e = absurd cc
  no_front xs (x ∷ bytes) b e = absurd cc

  none_short : (xs : List A) (bytes : List ℕ) (b : ℕ) (more : List ℕ) → ManyFit p.Fits 0 xs → flat_map p.text xs ≡ bytes ++ b ∷ more → ⊥
  none_short [] bytes b more fits e = no_front more bytes b e
  none_short (x ∷ xs) bytes b more fits e = absurd (omega (arith, fits.0))

  pub many_ends : Core p → Ends p → (n : ℕ) → Ends (many_part p n)
  many_ends r s zero = record {
    short = λ bytes front. absurd (none_short front.value bytes front.next front.more front.fits front.text_is);
    begun = λ bytes fits h. absurd (ok_err (many_from p.read 0 bytes) ([], bytes) ended refl h);
    sample = [];
    sample_fits = (refl, tt);
  }
  many_ends r s (suc n) =
      seen_ends (λ (z : A × List A). z.0 ∷ z.1) (parted sample) (then_part p (λ _. many_part p n)) (many_part p (suc n)) (more_is n)
      (then_ends p (λ _. many_part p n) r s (λ _ _. many_ends r s n))
