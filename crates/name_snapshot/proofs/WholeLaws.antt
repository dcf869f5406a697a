-- A text of bytes is a snapshot or has a fault, by what the reader answers; and the reader answers each snapshot and each fault.
use Rattle.std.proofs.Common.{◌≡◌, ◌≢◌, ℕ, zero, suc, ◌+◌, ◌<◌, ◌^◌, ◌⊎◌, Bool, true, false, cond, List, [], ◌∷◌, ◌++◌, length, refl, sym, ap, subst, ◌∙◌, append_assoc, append-nil, length-append, arith, inl, inr}
use Rattle.std.specs.Prelude.{Option, Result, Ok, Err, ◌==◌}
use Rattle.std.specs.Int.{w32, to_le_bytes}
use Rattle.std.proofs.lemmas.Bool.{cases_Bool, eqb-true, eqb-false, eq-eqb, ne_eqb}
use Rattle.block_grammar.specs.Combinators.{◌>>=◌}
use Rattle.block_grammar.proofs.Readers.{IsBytes, Took}
use Rattle.block_grammar.proofs.ReaderLaws.{ok_is, err_is, ok_err, bind_ok, bind_err}
use Rattle.nmc_base.specs.declared.chain_ends.Base.{Base}
use Rattle.nmc_base.specs.declared.hashes.OutPoint.{OutPoint}
use Rattle.chain_names.specs.declared.coin.Item.{Item}
use Rattle.undo_records.specs.declared.fault.FaultKind.{FaultKind}
use Rattle.undo_records.specs.declared.fault.FaultKind.TheVariants.{BadTag}
use Rattle.undo_records.specs.Faults.{IsOther, IsProperFront}
use Rattle.undo_records.specs.Reading.{Reads, number_from, checked_from}
use Rattle.undo_records.specs.Text.{point_text, name_text}
use Rattle.undo_records.proofs.Laws.{Spot, ended, split_front}
use Rattle.undo_records.proofs.FieldLaws.{core32, ends32}
use Rattle.name_snapshot.specs.Faults.{Reaches, IsBelow32, IsBadMake, other_tag, long_value, misplaced, IsBad, other_mark, bad_make, behind, IsCut, in_head, in_make}
use Rattle.name_snapshot.specs.Makes.{MayFollow, MayFollowAll, IsSnapshot, last_of, IsWritableMake}
use Rattle.name_snapshot.specs.Reading.{make_from, may_stand, next_by, next_from, passed_from, head_from, end_from, makes_then, snapshot_from}
use Rattle.name_snapshot.specs.Text.{Told, commitment, value, StartMake, told_text, make_text, makes_text, mark, head_text, start_of}
use Rattle.chain_names.specs.Coins.{history_of}
use Rattle.name_snapshot.proofs.FormLaws.{IsBadTold, other, long, IsBadForm, make_core, make_ends}
use Rattle.name_snapshot.proofs.FollowLaws.{may_follow, stands_at, misplaced_by, misplaced_at}

abbrev pub Answer : Type 0 → Type 0
Answer A = Result (A × List ℕ) Spot

-- ---- what is tested

module _ {A : Type 0} (kind : FaultKind) (test : A → Bool) (read : Reads A) (bytes : List ℕ) where
  checked_passes : (x : A × List ℕ) → read bytes ≡ Ok x → test x.0 ≡ true → checked_from kind test read bytes ≡ Ok x
  checked_passes x r t = rw (r, t) refl

  checked_fails : (x : A × List ℕ) → read bytes ≡ Ok x → test x.0 ≡ false → checked_from kind test read bytes ≡ Err (kind, bytes)
  checked_fails x r t = rw (r, t) refl

  checked_stops : (e : Spot) → read bytes ≡ Err e → checked_from kind test read bytes ≡ Err e
  checked_stops e r = rw r refl

  passed_test : (y : A × List ℕ) → checked_from kind test read bytes ≡ Ok y → (read bytes ≡ Ok y) × (test y.0 ≡ true)
  passed_test y e =
      let a = bind_ok (read bytes) (λ (x : A × List ℕ). cond (test x.0) (Ok x) (Err (kind, bytes))) y e in
      by a.0 a.1 (test a.0.0) refl a.2
    where
      by : (x : A × List ℕ) → read bytes ≡ Ok x → (b : Bool) → test x.0 ≡ b → cond {A = Answer A} b (Ok x) (Err (kind, bytes)) ≡ Ok y → (read bytes ≡ Ok y) × (test y.0 ≡ true)
      by x r true is e' = subst (λ (z : A × List ℕ). (read bytes ≡ Ok z) × (test z.0 ≡ true)) (ok_is x y e') (r, is)
      by x r false is e' = absurd cc

  failed_test : (e : Spot) → checked_from kind test read bytes ≡ Err e → (read bytes ≡ Err e) ⊎ ((x : A × List ℕ) × (read bytes ≡ Ok x) × (test x.0 ≡ false) × ((kind, bytes) ≡ e))
  failed_test e h =
      elim (bind_err (read bytes) (λ (x : A × List ℕ). cond (test x.0) (Ok x) (Err (kind, bytes))) e h) [
        | inl w ↦ inl w
        | inr x ↦ inr (by x.0 x.1 (test x.0.0) refl x.2)
      ]
    where
      by : (x : A × List ℕ) → read bytes ≡ Ok x → (b : Bool) → test x.0 ≡ b → cond {A = Answer A} b (Ok x) (Err (kind, bytes)) ≡ Err e
          → (x : A × List ℕ) × (read bytes ≡ Ok x) × (test x.0 ≡ false) × ((kind, bytes) ≡ e)
      by x r true is e' = absurd cc
      by x r false is e' = (x, r, is, err_is (kind, bytes) e e')

-- ---- the mark

-- the bytes pass, or end too early, or one is another
pub data Passes (want bytes : List ℕ) : Type 0 where
  passes : (rest : List ℕ) → bytes ≡ want ++ rest → passed_from want bytes ≡ Ok (tt, rest) → Passes want bytes
  ends : (next : ℕ) (more : List ℕ) → want ≡ bytes ++ next ∷ more → passed_from want bytes ≡ Err ended → Passes want bytes
  differs : (front : List ℕ) (wanted : ℕ) (others rest : List ℕ) → want ≡ front ++ wanted ∷ others → bytes ≡ front ++ rest → IsOther (wanted ∷ []) rest
      → passed_from want bytes ≡ Err (BadTag, rest) → Passes want bytes

same_first : (w b : ℕ) (want bytes : List ℕ) → (b == w) ≡ true → passed_from (w ∷ want) (b ∷ bytes) ≡ passed_from want bytes
same_first w b want bytes same = rw same refl

other_first : (w b : ℕ) (want bytes : List ℕ) → (b == w) ≡ false → passed_from (w ∷ want) (b ∷ bytes) ≡ Err (BadTag, b ∷ bytes)
other_first w b want bytes differ = rw differ refl

pub passed_cases : (want bytes : List ℕ) → Passes want bytes
passed_cases [] bytes = passes bytes refl refl
passed_cases (w ∷ want) [] = ends w want refl refl
passed_cases (w ∷ want) (b ∷ bytes) =
    elim (cases_Bool (b == w)) [
      | inl same ↦ on same (eqb-true b w same) (passed_cases want bytes)
      | inr differ ↦
          differs [] w want (b ∷ bytes) refl refl (record { first = b; more = bytes; text = refl; other = (eqb-false b w differ, tt) }) (other_first w b want bytes differ)
    ]
  where
    on : (b == w) ≡ true → b ≡ w → Passes want bytes → Passes (w ∷ want) (b ∷ bytes)
    on same is (passes rest text e) = passes rest (λ i. is i ∷ text i) (same_first w b want bytes same ∙ e)
    on same is (ends next more text e) = ends next more (λ i. sym is i ∷ text i) (same_first w b want bytes same ∙ e)
    on same is (differs front wanted others rest text at bad e) =
        differs (b ∷ front) wanted others rest (λ i. sym is i ∷ text i) (ap (λ (l : List ℕ). b ∷ l) at) bad (same_first w b want bytes same ∙ e)

-- what ends within the bytes that are wanted
short_mark : (want bytes : List ℕ) (next : ℕ) (more : List ℕ) → want ≡ bytes ++ next ∷ more → passed_from want bytes ≡ Err ended
short_mark [] [] next more e = absurd cc
short_mark [] (b ∷ bytes) next more e = absurd cc
short_mark (w ∷ want) [] next more e = refl
short_mark (w ∷ want) (b ∷ bytes) next more e =
    let head : w ≡ b = cc in
    let tail : want ≡ bytes ++ next ∷ more = cc in
    same_first w b want bytes (eq-eqb b w (sym head)) ∙ short_mark want bytes next more tail

-- a byte that is another one
other_at : (want front : List ℕ) (wanted : ℕ) (others bytes rest : List ℕ) → want ≡ front ++ wanted ∷ others → bytes ≡ front ++ rest → IsOther (wanted ∷ []) rest
    → passed_from want bytes ≡ Err (BadTag, rest)
other_at want [] wanted others bytes rest text at bad =
    ap (λ (l : List ℕ). passed_from l bytes) text ∙ ap (passed_from (wanted ∷ others)) (at ∙ bad.text)
    ∙ other_first wanted bad.first others bad.more (ne_eqb bad.first wanted bad.other.0) ∙ ap (λ (l : List ℕ). Err (BadTag, l)) (sym bad.text)
other_at want (f ∷ front) wanted others bytes rest text at bad =
    ap (λ (l : List ℕ). passed_from l bytes) text ∙ ap (passed_from (f ∷ (front ++ wanted ∷ others))) at
    ∙ same_first f f (front ++ wanted ∷ others) (front ++ rest) (eq-eqb f f refl) ∙ other_at (front ++ wanted ∷ others) front wanted others (front ++ rest) rest refl refl bad

-- ---- the head

abbrev pub number_behind : Unit {0} × List ℕ → Answer ℕ
number_behind x = number_from w32 x.1

pub head_again : (count : ℕ) (rest : List ℕ) → count < 2 ^ 32 → head_from (head_text count ++ rest) ≡ Ok (count, rest)
head_again count rest fits = core32.again count rest fits

head_short : (text : List ℕ) → IsProperFront head_text IsBelow32 text → head_from text ≡ Err ended
head_short text front =
    elim (split_front mark (to_le_bytes w32 front.value) text front.next front.more front.text_is) [
      | inl w ↦ rw (short_mark mark text w.0 w.1 w.2) refl
      | inr w ↦ ap head_from w.1 ∙ ends32.short w.0 (record { value = front.value; fits = front.fits; next = front.next; more = front.more; text_is = w.2 })
    ]

head_other : (front : List ℕ) (wanted : ℕ) (others text rest : List ℕ) → mark ≡ front ++ wanted ∷ others → text ≡ front ++ rest → IsOther (wanted ∷ []) rest → head_from text ≡ Err (BadTag, rest)
head_other front wanted others text rest is at bad = rw (other_at mark front wanted others text rest is at bad) refl

-- ---- faults by what the reader answers

pub data Fault (base : Base) (text : List ℕ) (e : Spot) : Type 0 where
  cut_short : e ≡ ended → IsCut base text → Fault base text e
  bad_byte : (rest : List ℕ) → e ≡ (BadTag, rest) → IsBad base text rest → Fault base text e

behind_mark : (rest : List ℕ) → IsBytes (mark ++ rest) → IsBytes rest
behind_mark rest are i = are (suc (suc (suc (suc (suc i)))))

-- what the head is
pub record IsHead (text : List ℕ) (count : ℕ) (rest : List ℕ) : Type 0 where
  pub fits : count < 2 ^ 32
  pub text_is : text ≡ head_text count ++ rest
  pub rest_bytes : IsBytes rest

pub head_takes : (text : List ℕ) (x : ℕ × List ℕ) → IsBytes text → head_from text ≡ Ok x → IsHead text x.0 x.1
head_takes text x are e =
    let a = bind_ok (passed_from mark text) (λ (y : Unit {0} × List ℕ). number_from w32 y.1) x e in
    by a.0 a.1 a.2 (passed_cases mark text)
  where
    by : (y : Unit {0} × List ℕ) → passed_from mark text ≡ Ok y → number_from w32 y.1 ≡ Ok x → Passes mark text → IsHead text x.0 x.1
    by y r n (passes rest text_is is) =
        let same : rest ≡ y.1 = ap (λ (z : Unit {0} × List ℕ). z.1) (ok_is (tt, rest) y (sym is ∙ r)) in
        let t = core32.takes rest x (behind_mark rest (subst IsBytes text_is are)) (ap (number_from w32) same ∙ n) in
        record { fits = t.fits; text_is = text_is ∙ ap (λ (l : List ℕ). mark ++ l) t.parts; rest_bytes = t.rest_bytes }
    by y r n (ends next more text_is is) = absurd (ok_err (passed_from mark text) y ended r is)
    by y r n (differs front wanted others rest text_is at bad is) = absurd (ok_err (passed_from mark text) y (BadTag, rest) r is)

head_fault : (base : Base) (text : List ℕ) (e : Spot) → IsBytes text → head_from text ≡ Err e → Fault base text e
head_fault base text e are h = by (passed_cases mark text)
  where
    by : Passes mark text → Fault base text e
    by (passes rest text_is is) =
        let n : number_from w32 rest ≡ Err e = sym (ap (λ r. r >>= number_behind) is) ∙ h in
        elim (core32.stops rest e (behind_mark rest (subst IsBytes text_is are)) n) [
          | inl cut ↦
              let front = ends32.begun rest (behind_mark rest (subst IsBytes text_is are)) (n ∙ ap (λ (s : Spot). Err s) cut) in
              cut_short cut (in_head (record {
                value = front.value;
                fits = front.fits;
                next = front.next;
                more = front.more;
                text_is = ap (λ (l : List ℕ). mark ++ l) front.text_is ∙ ap (λ (l : List ℕ). l ++ front.next ∷ front.more) (sym text_is);
              }))
          | inr none ↦ absurd none
        ]
    by (ends next more text_is is) =
        let same : ended ≡ e = err_is ended e (sym (ap (λ r. r >>= number_behind) is) ∙ h) in
        cut_short (sym same) (in_head (record {
          value = 0;
          fits = omega arith;
          next = next;
          more = more ++ to_le_bytes w32 0;
          text_is = ap (λ (l : List ℕ). l ++ to_le_bytes w32 0) text_is ∙ append_assoc text (next ∷ more) (to_le_bytes w32 0);
        }))
    by (differs front wanted others rest text_is at bad is) =
        bad_byte rest (sym (err_is (BadTag, rest) e (sym (ap (λ r. r >>= number_behind) is) ∙ h))) (other_mark front wanted others text_is at bad)

-- ---- one make

module _ (base : Base) (below : List StartMake) where
  abbrev test : StartMake → Bool
  test = may_stand base (last_of below) (history_of (start_of below))

  pub next_again : (m : StartMake) (rest : List ℕ) → MayFollow base below m → next_from base below (make_text m ++ rest) ≡ Ok (m, rest)
  next_again m rest f = checked_passes BadTag test make_from (make_text m ++ rest) (m, rest) (make_core.again m rest f.writable) (stands_at base below m f)

  pub next_takes : (bytes : List ℕ) (x : StartMake × List ℕ) → MayFollowAll base below → IsBytes bytes → next_from base below bytes ≡ Ok x → Took make_text (MayFollow base below) bytes x
  next_takes bytes x follow are e =
      let p = passed_test BadTag test make_from bytes x e in
      let t = make_core.takes bytes x are p.0 in
      record { parts = t.parts; fits = may_follow base below x.0 follow t.fits p.1; rest_bytes = t.rest_bytes }

  bad_by_form : (bytes rest : List ℕ) → IsBadForm bytes rest → IsBadMake base below bytes rest
  bad_by_form bytes rest f = by f.bad
    where
      by : IsBadTold f.behind rest → IsBadMake base below bytes rest
      by (other o same) = other_tag f.at f.at_fits (f.text ∙ ap (λ (l : List ℕ). point_text f.at ++ l) (sym same)) (subst (IsOther (0x51 ∷ 0x53 ∷ [])) (sym same) o)
      by (long inner parts l) = long_value f.at l.height l.name f.at_fits l.height_fits l.name_fits (f.text ∙ ap (λ (x : List ℕ). point_text f.at ++ x) (parts ∙ ap (λ (x : List ℕ). 0x53 ∷ x) l.text)) l.long

  next_bad : (bytes rest : List ℕ) → IsBadMake base below bytes rest → next_from base below bytes ≡ Err (BadTag, rest)
  next_bad bytes rest (other_tag at fits text o) =
      checked_stops BadTag test make_from bytes (BadTag, rest)
      (make_core.flawed bytes (BadTag, rest) (record { rest = rest; flaw = record { at = at; at_fits = fits; behind = rest; text = text; bad = other o refl }; is = refl }))
  next_bad bytes rest (long_value at height name at_fits height_fits name_fits text l) =
      checked_stops BadTag test make_from bytes (BadTag, rest)
      (make_core.flawed bytes (BadTag, rest) (record {
        rest = rest;
        flaw = record { at = at; at_fits = at_fits; behind = 0x53 ∷ (to_le_bytes w32 height ++ (name_text name ++ rest)); text = text; bad = long (to_le_bytes w32 height ++ (name_text name ++ rest)) refl (record { height = height; name = name; height_fits = height_fits; name_fits = name_fits; text = refl; long = l }) };
        is = refl;
      }))
  next_bad bytes rest (misplaced m more fits text why same) =
      checked_fails BadTag test make_from bytes (m, more) (ap make_from text ∙ make_core.again m more fits) (misplaced_at base below m why) ∙ ap (λ (l : List ℕ). Err (BadTag, l)) (sym same)

  next_short : (bytes : List ℕ) → IsProperFront make_text IsWritableMake bytes → next_from base below bytes ≡ Err ended
  next_short bytes front = checked_stops BadTag test make_from bytes ended (make_ends.short bytes front)

  -- why the next make isn't read
  pub data NextFault (bytes : List ℕ) (e : Spot) : Type 0 where
    ends_early : e ≡ ended → IsProperFront make_text IsWritableMake bytes → NextFault bytes e
    is_bad : (rest : List ℕ) → e ≡ (BadTag, rest) → IsBadMake base below bytes rest → NextFault bytes e

  pub next_fault : (bytes : List ℕ) (e : Spot) → IsBytes bytes → next_from base below bytes ≡ Err e → NextFault bytes e
  next_fault bytes e are h =
      elim (failed_test BadTag test make_from bytes e h) [
        | inl w ↦
            elim (make_core.stops bytes e are w) [
              | inl cut ↦ ends_early cut (make_ends.begun bytes are (w ∙ ap (λ (s : Spot). Err s) cut))
              | inr f ↦ is_bad f.rest (sym f.is) (bad_by_form bytes f.rest f.flaw)
            ]
        | inr x ↦
            let t = make_core.takes bytes x.0 are x.1 in
            is_bad bytes (sym x.3) (misplaced x.0.0 x.0.1 t.fits t.parts (misplaced_by base below x.0.0 x.2) refl)
      ]

-- ---- all makes

module _ (base : Base) where
  abbrev makes_behind : ℕ → List StartMake → StartMake × List ℕ → Answer (List StartMake)
  makes_behind n below x = makes_then base n (x.0 ∷ below) x.1

  pub one_more : (n : ℕ) (below : List StartMake) (bytes : List ℕ) (x : StartMake × List ℕ) → next_from base below bytes ≡ Ok x → makes_then base (suc n) below bytes ≡ makes_then base n (x.0 ∷ below) x.1
  one_more n below bytes x e = ap (λ r. r >>= makes_behind n below) e

  pub none_more : (n : ℕ) (below : List StartMake) (bytes : List ℕ) (e : Spot) → next_from base below bytes ≡ Err e → makes_then base (suc n) below bytes ≡ Err e
  none_more n below bytes e h = ap (λ r. r >>= makes_behind n below) h

  below_read : (below : List StartMake) (n : ℕ) (bytes : List ℕ) → MayFollowAll base below → makes_then base (length below + n) [] (makes_text below ++ bytes) ≡ makes_then base n below bytes
  below_read [] n bytes follow = let count : 0 + n ≡ n = omega arith in ap (λ (k : ℕ). makes_then base k [] bytes) count
  below_read (m ∷ below) n bytes follow =
      let count : suc (length below) + n ≡ length below + suc n = omega arith in
      ap (λ (k : ℕ). makes_then base k [] ((makes_text below ++ make_text m) ++ bytes)) count
      ∙ ap (makes_then base (length below + suc n) []) (append_assoc (makes_text below) (make_text m) bytes)
      ∙ below_read below (suc n) (make_text m ++ bytes) follow.1 ∙ one_more n below (make_text m ++ bytes) (m, bytes) (next_again base below m bytes follow.0)

  reaches_read : (text : List ℕ) (count n : ℕ) (below : List StartMake) (bytes : List ℕ) → Reaches base text count below bytes → count ≡ length below + n
      → snapshot_from base text ≡ makes_then base n below bytes
  reaches_read text count n below bytes reaches is =
      ap (snapshot_from base) reaches.text_is ∙ ap (λ r. r >>= λ x. makes_then base x.0 [] x.1) (head_again count (makes_text below ++ bytes) reaches.count_fits)
      ∙ ap (λ (k : ℕ). makes_then base k [] (makes_text below ++ bytes)) is ∙ below_read below n bytes reaches.follow

  -- ---- each snapshot and each fault is answered

  pub snapshot_read : (text : List ℕ) (makes : List StartMake) → IsSnapshot base text makes → snapshot_from base text ≡ Ok (makes, [])
  snapshot_read text makes is =
      let whole : text ≡ head_text (length makes) ++ (makes_text makes ++ []) = is.text_is ∙ ap (λ (l : List ℕ). head_text (length makes) ++ l) (sym (append-nil (makes_text makes))) in
      reaches_read text (length makes) 0 makes [] (record { count_fits = is.few; follow = is.follow; text_is = whole }) (omega arith)

  left_over : (count : ℕ) (below : List StartMake) → length below < count → (n : ℕ) × (count ≡ length below + suc n)
  left_over zero below fewer = absurd (omega (arith, fewer))
  left_over (suc count) [] fewer = (count, omega arith)
  left_over (suc count) (m ∷ below) fewer = let w = left_over count below (omega (arith, fewer)) in (w.0, omega (arith, w.1))

  pub bad_read : (text rest : List ℕ) → IsBad base text rest → snapshot_from base text ≡ Err (BadTag, rest)
  bad_read text rest (other_mark front wanted others is at bad) = ap (λ r. r >>= λ x. makes_then base x.0 [] x.1) (head_other front wanted others text rest is at bad)
  bad_read text rest (bad_make count below bytes reaches fewer bad) =
      let w = left_over count below fewer in
      reaches_read text count (suc w.0) below bytes reaches w.1 ∙ none_more w.0 below bytes (BadTag, rest) (next_bad base below bytes rest bad)
  bad_read text rest (behind below reaches some) = reaches_read text (length below) 0 below rest reaches (omega arith) ∙ by rest some
    where
      by : (l : List ℕ) → l ≢ [] → end_from below l ≡ Err (BadTag, l)
      by [] some' = absurd (some' refl)
      by (b ∷ l) some' = refl

  pub cut_read : (text : List ℕ) → IsCut base text → snapshot_from base text ≡ Err ended
  cut_read text (in_head front) = ap (λ r. r >>= λ x. makes_then base x.0 [] x.1) (head_short text front)
  cut_read text (in_make count below bytes reaches fewer front) =
      let w = left_over count below fewer in
      reaches_read text count (suc w.0) below bytes reaches w.1 ∙ none_more w.0 below bytes ended (next_short base below bytes front)

  -- ---- and nothing else

  pub on_top : (text : List ℕ) (count : ℕ) (below : List StartMake) (bytes : List ℕ) (x : StartMake × List ℕ) → Reaches base text count below bytes → Took make_text (MayFollow base below) bytes x
      → Reaches base text count (x.0 ∷ below) x.1
  on_top text count below bytes x reaches t = record {
    count_fits = reaches.count_fits;
    follow = (t.fits, reaches.follow);
    text_is =
        reaches.text_is
        ∙ ap (λ (l : List ℕ). head_text count ++ l) (ap (λ (l : List ℕ). makes_text below ++ l) t.parts ∙ sym (append_assoc (makes_text below) (make_text x.0) x.1));
  }

  module _ (text : List ℕ) (count : ℕ) where
    makes_whole : (n : ℕ) (below : List StartMake) (bytes : List ℕ) → Reaches base text count below bytes → count ≡ length below + n → IsBytes bytes
        → (z : List StartMake × List ℕ) → makes_then base n below bytes ≡ Ok z → IsSnapshot base text z.0 × (z.1 ≡ [])
    makes_whole zero below [] reaches is are z e =
        let same : (below, []) ≡ z = ok_is (below, []) z e in
        subst (λ (y : List StartMake × List ℕ). IsSnapshot base text y.0 × (y.1 ≡ [])) same (
          record {
            few = omega (arith, reaches.count_fits, is);
            follow = reaches.follow;
            text_is = reaches.text_is ∙ ap (λ (l : List ℕ). head_text count ++ l) (append-nil (makes_text below)) ∙ ap (λ (k : ℕ). head_text k ++ makes_text below) (all is);
          },
          refl,
        )
      where
        all : count ≡ length below + 0 → count ≡ length below
        all e' = omega (arith, e')
    makes_whole zero below (b ∷ bytes) reaches is are z e = absurd cc
    makes_whole (suc n) below bytes reaches is are z e =
        let a = bind_ok (next_from base below bytes) (λ (x : StartMake × List ℕ). makes_then base n (x.0 ∷ below) x.1) z e in
        let t = next_takes base below bytes a.0 reaches.follow are a.1 in
        makes_whole n (a.0.0 ∷ below) a.0.1 (on_top text count below bytes a.0 reaches t) (omega (arith, is)) t.rest_bytes z a.2

    makes_fault : (n : ℕ) (below : List StartMake) (bytes : List ℕ) → Reaches base text count below bytes → count ≡ length below + n → IsBytes bytes
        → (e : Spot) → makes_then base n below bytes ≡ Err e → Fault base text e
    makes_fault zero below [] reaches is are e h = absurd cc
    makes_fault zero below (b ∷ bytes) reaches is are e h =
        let all : count ≡ length below = omega (arith, is) in
        bad_byte (b ∷ bytes) (sym (err_is (BadTag, b ∷ bytes) e h)) (behind below (subst (λ (k : ℕ). Reaches base text k below (b ∷ bytes)) all reaches) (λ none. absurd cc))
    makes_fault (suc n) below bytes reaches is are e h =
        elim (bind_err (next_from base below bytes) (λ (x : StartMake × List ℕ). makes_then base n (x.0 ∷ below) x.1) e h) [
          | inl w ↦ by (next_fault base below bytes e are w)
          | inr x ↦
              let t = next_takes base below bytes x.0 reaches.follow are x.1 in
              makes_fault n (x.0.0 ∷ below) x.0.1 (on_top text count below bytes x.0 reaches t) (omega (arith, is)) t.rest_bytes e x.2
        ]
      where
        fewer : length below < count
        fewer = omega (arith, is)

        by : NextFault base below bytes e → Fault base text e
        by (ends_early cut front) = cut_short cut (in_make count below bytes reaches fewer front)
        by (is_bad rest at bad) = bad_byte rest at (bad_make count below bytes reaches fewer bad)

  first_reach : (text : List ℕ) (x : ℕ × List ℕ) → IsHead text x.0 x.1 → Reaches base text x.0 [] x.1
  first_reach text x is = record { count_fits = is.fits; follow = tt; text_is = is.text_is }

  pub whole_read : (text : List ℕ) (z : List StartMake × List ℕ) → IsBytes text → snapshot_from base text ≡ Ok z → IsSnapshot base text z.0 × (z.1 ≡ [])
  whole_read text z are e =
      let a = bind_ok (head_from text) (λ (x : ℕ × List ℕ). makes_then base x.0 [] x.1) z e in
      let h = head_takes text a.0 are a.1 in
      makes_whole text a.0.0 a.0.0 [] a.0.1 (first_reach text a.0 h) (omega arith) h.rest_bytes z a.2

  pub fault_read : (text : List ℕ) (e : Spot) → IsBytes text → snapshot_from base text ≡ Err e → Fault base text e
  fault_read text e are h =
      elim (bind_err (head_from text) (λ (x : ℕ × List ℕ). makes_then base x.0 [] x.1) e h) [
        | inl w ↦ head_fault base text e are w
        | inr x ↦
            let is = head_takes text x.0 are x.1 in
            makes_fault text x.0.0 x.0.0 [] x.0.1 (first_reach text x.0 is) (omega arith) is.rest_bytes e x.2
      ]

-- ---- a make takes a byte at least

told_some : (height : ℕ) (t : Told) → 0 < length (told_text height t)
told_some height (commitment hash) = omega arith
told_some height (value name bytes) = omega arith

pub next_shorter : (base : Base) (last : Option OutPoint) (names : List ℕ → List Item) (bytes : List ℕ) (x : StartMake × List ℕ) → IsBytes bytes → next_by base last names bytes ≡ Ok x → length x.1 < length bytes
next_shorter base last names bytes x are e =
    let p = passed_test BadTag (may_stand base last names) make_from bytes x e in
    let t = make_core.takes bytes x are p.0 in
    let whole : length bytes ≡ length (make_text x.0 ++ x.1) = ap length t.parts in
    omega (arith, whole, length-append (make_text x.0) x.1, length-append (point_text x.0.at) (told_text x.0.height x.0.told), told_some x.0.height x.0.told)
