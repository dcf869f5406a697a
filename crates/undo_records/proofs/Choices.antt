-- The laws of readers that go by the first byte, and of those that test what they read.
use Rattle.std.proofs.Common.{◌≡◌, ℕ, suc, ◌⊎◌, Bool, true, false, cond, List, [], ◌∷◌, ◌++◌, Option, Some, None, refl, sym, ap, subst, ◌∙◌, inl, inr}
use Rattle.std.specs.Prelude.{Result, Ok, Err}
use Rattle.std.proofs.lemmas.Bool.{cases_Bool}
use Rattle.block_grammar.proofs.Readers.{IsBytes, Took}
use Rattle.block_grammar.proofs.ReaderLaws.{ok_is, err_is, ok_err, bind_ok, bind_err}
use Rattle.undo_records.specs.declared.fault.FaultKind.{FaultKind}
use Rattle.undo_records.specs.declared.fault.FaultKind.TheVariants.{Cut, BadTag, Unsorted}
use Rattle.undo_records.specs.Reading.{Reads, checked_from}
use Rattle.undo_records.specs.Faults.{IsProperFront}
use Rattle.undo_records.proofs.Laws.{Spot, ended, Flaw, Part, Core, Ends}

-- ---- by the first byte

abbrev pub at_tag : {A : Type 0} → Option (Reads A) → List ℕ → List ℕ → Result (A × List ℕ) Spot
at_tag None whole rest = Err (BadTag, whole)
at_tag (Some read) whole rest = read rest

-- the reader that the first byte picks, behind it
abbrev pub choice_from : {A : Type 0} → (ℕ → Option (Reads A)) → Reads A
choice_from pick [] = Err ended
choice_from pick (first ∷ rest) = at_tag (pick first) (first ∷ rest) rest

pub data ChoiceFlaw {A : Type 0} (pick : ℕ → Option (Reads A)) (FlawAt : ℕ → Flaw) (bytes : List ℕ) (e : Spot) : Type 0 where
  unknown : (first : ℕ) (more : List ℕ) → bytes ≡ first ∷ more → pick first ≡ None → (BadTag, bytes) ≡ e → ChoiceFlaw pick FlawAt bytes e
  behind_tag : (first : ℕ) (more : List ℕ) (read : Reads A) → bytes ≡ first ∷ more → pick first ≡ Some read → FlawAt first more e → ChoiceFlaw pick FlawAt bytes e

picked : {X : Type 0} (o : Option X) → (o ≡ None) ⊎ ((x : X) × (o ≡ Some x))
picked None = inl refl
picked (Some x) = inr (x, refl)

pub no_cut : BadTag ≡ Cut → ⊥
no_cut e = subst is_tag e tt
  where
    is_tag : FaultKind → Type 0
    is_tag Cut = ⊥
    is_tag BadTag = Unit {0}
    is_tag Unsorted = ⊥

abbrev pub FitsAt : {A : Type 0} → (A → ℕ) → (A → Type 0) → ℕ → A → Type 0
FitsAt tag_of Fits tag x = (tag_of x ≡ tag) × Fits x

abbrev pub tagged_text : {A : Type 0} → (A → ℕ) → (A → List ℕ) → A → List ℕ
tagged_text tag_of behind x = tag_of x ∷ behind x

-- values that are told apart by the byte before them
pub record Choice (A : Type 0) : Type 1 where
  pub tag_of : A → ℕ
  pub behind : A → List ℕ
  pub Fits : A → Type 0
  pub pick : ℕ → Option (Reads A)
  pub FlawAt : ℕ → Flaw

-- what stands behind this byte, by this reader
abbrev pub behind_part : {A : Type 0} → Choice A → ℕ → Reads A → Part A
behind_part c tag read = record { text = c.behind; Fits = FitsAt c.tag_of c.Fits tag; Flawed = c.FlawAt tag; read = read }

abbrev pub choice_part : {A : Type 0} → Choice A → Part A
choice_part c = record { text = tagged_text c.tag_of c.behind; Fits = c.Fits; Flawed = ChoiceFlaw c.pick c.FlawAt; read = choice_from c.pick }

module _ {A : Type 0} (c : Choice A) (known : (x : A) → c.Fits x → (read : Reads A) × (c.pick (c.tag_of x) ≡ Some read)) where
  pub choice_core : ((tag : ℕ) (read : Reads A) → c.pick tag ≡ Some read → Core (behind_part c tag read)) → Core (choice_part c)
  choice_core law = record { takes = takes; again = again; stops = stops; flawed = flawed; behind = behind_it }
    where
      takes : (bytes : List ℕ) (x : A × List ℕ) → IsBytes bytes → choice_from c.pick bytes ≡ Ok x → Took (tagged_text c.tag_of c.behind) c.Fits bytes x
      takes [] x fits e = absurd cc
      takes (first ∷ rest) x fits e =
          elim (picked (c.pick first)) [
            | inl none ↦ absurd (ok_err (choice_from c.pick (first ∷ rest)) x (BadTag, first ∷ rest) e (rw none refl))
            | inr p ↦
                let read : p.0 rest ≡ Ok x = rw p.1 at e in
                let t = (law first p.0 p.1).takes rest x (λ i. fits (suc i)) read in
                record { parts = ap (λ (l : List ℕ). first ∷ l) t.parts ∙ ap (λ (b : ℕ). b ∷ (c.behind x.0 ++ x.1)) (sym t.fits.0); fits = t.fits.1; rest_bytes = t.rest_bytes }
          ]

      again : (x : A) (rest : List ℕ) → c.Fits x → choice_from c.pick (tagged_text c.tag_of c.behind x ++ rest) ≡ Ok (x, rest)
      again x rest fits =
          let k = known x fits in
          let seen : choice_from c.pick (tagged_text c.tag_of c.behind x ++ rest) ≡ k.0 (c.behind x ++ rest) = rw k.1 refl in
          seen ∙ (law (c.tag_of x) k.0 k.1).again x rest (refl, fits)

      stops : (bytes : List ℕ) (e : Spot) → IsBytes bytes → choice_from c.pick bytes ≡ Err e → (e ≡ ended) ⊎ ChoiceFlaw c.pick c.FlawAt bytes e
      stops [] e fits h = inl (sym (err_is ended e h))
      stops (first ∷ rest) e fits h =
          elim (picked (c.pick first)) [
            | inl none ↦
                let read : choice_from c.pick (first ∷ rest) ≡ Err (BadTag, first ∷ rest) = rw none refl in
                inr (unknown first rest refl none (err_is (BadTag, first ∷ rest) e (sym read ∙ h)))
            | inr p ↦
                let read : p.0 rest ≡ Err e = rw p.1 at h in
                elim ((law first p.0 p.1).stops rest e (λ i. fits (suc i)) read) [ inl cut ↦ inl cut | inr f ↦ inr (behind_tag first rest p.0 refl p.1 f) ]
          ]

      flawed : (bytes : List ℕ) (e : Spot) → ChoiceFlaw c.pick c.FlawAt bytes e → choice_from c.pick bytes ≡ Err e
      flawed bytes e (unknown first more parts none is) =
          let read : choice_from c.pick (first ∷ more) ≡ Err (BadTag, first ∷ more) = rw none refl in
          ap (choice_from c.pick) parts ∙ read ∙ ap (λ (l : List ℕ). Err (BadTag, l)) (sym parts) ∙ ap (λ (s : Spot). Err s) is
      flawed bytes e (behind_tag first more read parts is f) =
          let seen : choice_from c.pick (first ∷ more) ≡ read more = rw is refl in
          ap (choice_from c.pick) parts ∙ seen ∙ (law first read is).flawed more e f

      behind_it : (bytes : List ℕ) (e : Spot) → IsBytes bytes → choice_from c.pick bytes ≡ Err e → (front : List ℕ) × (bytes ≡ front ++ e.1)
      behind_it [] e fits h = ([], ap (λ (s : Spot). s.1) (err_is ended e h))
      behind_it (first ∷ rest) e fits h =
          elim (picked (c.pick first)) [
            | inl none ↦
                let read : choice_from c.pick (first ∷ rest) ≡ Err (BadTag, first ∷ rest) = rw none refl in
                ([], ap (λ (s : Spot). s.1) (err_is (BadTag, first ∷ rest) e (sym read ∙ h)))
            | inr p ↦
                let read : p.0 rest ≡ Err e = rw p.1 at h in
                let b = (law first p.0 p.1).behind rest e (λ i. fits (suc i)) read in
                (first ∷ b.0, ap (λ (l : List ℕ). first ∷ l) b.1)
          ]

  pub choice_ends : ((tag : ℕ) (read : Reads A) → c.pick tag ≡ Some read → Ends (behind_part c tag read)) → (sample : A) → c.Fits sample → Ends (choice_part c)
  choice_ends law sample sample_fits = record { short = λ bytes f. short bytes f.value f.fits f.next f.more f.text_is; begun = begun; sample = sample; sample_fits = sample_fits }
    where
      short : (bytes : List ℕ) (x : A) → c.Fits x → (next : ℕ) (more : List ℕ) → tagged_text c.tag_of c.behind x ≡ bytes ++ next ∷ more → choice_from c.pick bytes ≡ Err ended
      short [] x fits next more e = refl
      short (first ∷ rest) x fits next more e =
          let head : c.tag_of x ≡ first = cc in
          let tail : c.behind x ≡ rest ++ next ∷ more = cc in
          let k = known x fits in
          let is : c.pick first ≡ Some k.0 = ap c.pick (sym head) ∙ k.1 in
          let seen : choice_from c.pick (first ∷ rest) ≡ k.0 rest = rw is refl in
          seen ∙ (law first k.0 is).short rest (record { value = x; fits = (head, fits); next = next; more = more; text_is = tail })

      begun : (bytes : List ℕ) → IsBytes bytes → choice_from c.pick bytes ≡ Err ended → IsProperFront (tagged_text c.tag_of c.behind) c.Fits bytes
      begun [] fits h = record { value = sample; fits = sample_fits; next = c.tag_of sample; more = c.behind sample; text_is = refl }
      begun (first ∷ rest) fits h =
          elim (picked (c.pick first)) [
            | inl none ↦
                let read : choice_from c.pick (first ∷ rest) ≡ Err (BadTag, first ∷ rest) = rw none refl in
                let kinds : BadTag ≡ Cut = ap (λ (s : Spot). s.0) (err_is (BadTag, first ∷ rest) ended (sym read ∙ h)) in
                absurd (no_cut kinds)
            | inr p ↦
                let read : p.0 rest ≡ Err ended = rw p.1 at h in
                let f = (law first p.0 p.1).begun rest (λ i. fits (suc i)) read in
                record {
                  value = f.value;
                  fits = f.fits.1;
                  next = f.next;
                  more = f.more;
                  text_is = ap (λ (l : List ℕ). c.tag_of f.value ∷ l) f.text_is ∙ ap (λ (b : ℕ). b ∷ (rest ++ f.next ∷ f.more)) f.fits.0;
                }
          ]

-- ---- what is tested

pub record CheckFlaw {A : Type 0} (p : Part A) (kind : FaultKind) (test : A → Bool) (bytes : List ℕ) (e : Spot) : Type 0 where
  pub value : A
  pub rest : List ℕ
  pub fits : p.Fits value
  pub parts : bytes ≡ p.text value ++ rest
  pub fails : test value ≡ false
  pub is : (kind, bytes) ≡ e

abbrev pub Passes : {A : Type 0} → (A → Type 0) → (A → Bool) → A → Type 0
Passes Fits test x = Fits x × (test x ≡ true)

abbrev pub checked_part : {A : Type 0} → FaultKind → (A → Bool) → Part A → Part A
checked_part kind test p = record { text = p.text; Fits = Passes p.Fits test; Flawed = CheckFlaw p kind test; read = checked_from kind test p.read }

module _ {A : Type 0} (p : Part A) (no_flaw : (bytes : List ℕ) (e : Spot) → p.Flawed bytes e → ⊥) (kind : FaultKind) (test : A → Bool) (r : Core p) where
  test_ok : (x : A × List ℕ) (y : A × List ℕ) (e : Spot) → cond (test x.0) (Ok x) (Err e) ≡ Ok y → (test x.0 ≡ true) × (x ≡ y)
  test_ok x y e h =
      elim (cases_Bool (test x.0)) [
        | inl passed ↦
            let same : Ok x ≡ Ok y = rw passed at h in
            (passed, ok_is x y same)
        | inr failed ↦
            let none : Err e ≡ Ok y = rw failed at h in
            absurd cc
      ]

  test_err : (x : A × List ℕ) (e w : Spot) → cond (test x.0) (Ok x) (Err e) ≡ Err w → (test x.0 ≡ false) × (e ≡ w)
  test_err x e w h =
      elim (cases_Bool (test x.0)) [
        | inl passed ↦
            let none : Ok x ≡ Err w = rw passed at h in
            absurd cc
        | inr failed ↦
            let same : Err e ≡ Err w = rw failed at h in
            (failed, err_is e w same)
      ]

  pub checked_core : Core (checked_part kind test p)
  checked_core = record {
    takes = λ bytes y fits e.
        let a = bind_ok (p.read bytes) (λ (x : A × List ℕ). cond (test x.0) (Ok x) (Err (kind, bytes))) y e in
        let o = test_ok a.0 y (kind, bytes) a.2 in
        let t = r.takes bytes a.0 fits a.1 in
        subst (λ (z : A × List ℕ). Took p.text (Passes p.Fits test) bytes z) o.1 (record { parts = t.parts; fits = (t.fits, o.0); rest_bytes = t.rest_bytes });
    again = λ x rest fits. rw (r.again x rest fits.0, fits.1) refl;
    stops = λ bytes e fits h.
        elim (bind_err (p.read bytes) (λ (x : A × List ℕ). cond (test x.0) (Ok x) (Err (kind, bytes))) e h) [
          | inl w ↦ elim (r.stops bytes e fits w) [ inl cut ↦ inl cut | inr f ↦ absurd (no_flaw bytes e f) ]
          | inr x ↦
              let t = r.takes bytes x.0 fits x.1 in
              let o = test_err x.0 (kind, bytes) e x.2 in
              inr (record { value = x.0.0; rest = x.0.1; fits = t.fits; parts = t.parts; fails = o.0; is = o.1 })
        ];
    flawed = λ bytes e f.
        let got : p.read bytes ≡ Ok (f.value, f.rest) = ap p.read f.parts ∙ r.again f.value f.rest f.fits in
        let seen : checked_from kind test p.read bytes ≡ Err (kind, bytes) = rw (got, f.fails) refl in
        seen ∙ ap (λ (s : Spot). Err s) f.is;
    behind = λ bytes e fits h.
        elim (bind_err (p.read bytes) (λ (x : A × List ℕ). cond (test x.0) (Ok x) (Err (kind, bytes))) e h) [
          | inl w ↦ r.behind bytes e fits w
          | inr x ↦ ([], ap (λ (s : Spot). s.1) (test_err x.0 (kind, bytes) e x.2).1)
        ];
  }
