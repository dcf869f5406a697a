-- A fault stays where more bytes follow, and there is one at most.
use Rattle.std.proofs.Common.{◌≡◌, ◌≢◌, ℕ, ◌-◌, ◌⊎◌, List, [], ◌∷◌, ◌++◌, length, refl, sym, ap, subst, ◌∙◌, append_assoc, length-append, arith, inl, inr}
use Rattle.std.specs.Prelude.{Result, Ok, Err}
use Rattle.std.specs.Int.{w32, to_le_bytes}
use Rattle.block_grammar.proofs.Readers.{IsBytes}
use Rattle.block_grammar.proofs.ReaderLaws.{ok_is, err_is, ok_err}
use Rattle.nmc_base.specs.declared.chain_ends.Base.{Base}
use Rattle.undo_records.specs.declared.fault.FaultKind.TheVariants.{BadTag}
use Rattle.undo_records.specs.Faults.{IsOther, IsLongLength}
use Rattle.undo_records.specs.Text.{point_text, name_text}
use Rattle.undo_records.proofs.Laws.{Spot, ended}
use Rattle.undo_records.proofs.Choices.{no_cut}
use Rattle.name_snapshot.specs.Faults.{Reaches, IsBadMake, other_tag, long_value, misplaced, IsBad, other_mark, bad_make, behind, HasFault, bad, cut}
use Rattle.name_snapshot.specs.Makes.{IsSnapshot}
use Rattle.name_snapshot.specs.Reading.{snapshot_from}
use Rattle.name_snapshot.specs.Text.{StartMake, make_text, makes_text, head_text}
use Rattle.name_snapshot.proofs.WholeLaws.{Fault, cut_short, bad_byte, snapshot_read, bad_read, cut_read, whole_read, fault_read}

-- ---- where more bytes follow

module _ (more : List ℕ) where
  longer : (text front rest : List ℕ) → text ≡ front ++ rest → text ++ more ≡ front ++ (rest ++ more)
  longer text front rest e = ap (λ (l : List ℕ). l ++ more) e ∙ append_assoc front rest more

  other_stays : (tags bytes : List ℕ) → IsOther tags bytes → IsOther tags (bytes ++ more)
  other_stays tags bytes o = record { first = o.first; more = o.more ++ more; text = ap (λ (l : List ℕ). l ++ more) o.text; other = o.other }

  long_stays : (bytes : List ℕ) → IsLongLength bytes → IsLongLength (bytes ++ more)
  long_stays bytes l = record { number = l.number; more = l.more ++ more; text = ap (λ (x : List ℕ). x ++ more) l.text; long = l.long; fits = l.fits }

  some_stays : (bytes : List ℕ) → bytes ≢ [] → bytes ++ more ≢ []
  some_stays [] some = absurd (some refl)
  some_stays (b ∷ bytes) some = λ none. absurd cc

  module _ (base : Base) where
    reaches_stays : (text : List ℕ) (count : ℕ) (below : List StartMake) (bytes : List ℕ) → Reaches base text count below bytes → Reaches base (text ++ more) count below (bytes ++ more)
    reaches_stays text count below bytes r = record {
      count_fits = r.count_fits;
      follow = r.follow;
      text_is = longer text (head_text count) (makes_text below ++ bytes) r.text_is ∙ ap (λ (l : List ℕ). head_text count ++ l) (append_assoc (makes_text below) bytes more);
    }

    make_stays : (below : List StartMake) (bytes rest : List ℕ) → IsBadMake base below bytes rest → IsBadMake base below (bytes ++ more) (rest ++ more)
    make_stays below bytes rest (other_tag at fits text o) = other_tag at fits (longer bytes (point_text at) rest text) (other_stays (0x51 ∷ 0x53 ∷ []) rest o)
    make_stays below bytes rest (long_value at height name at_fits height_fits name_fits text l) =
        long_value at height name at_fits height_fits name_fits
        (longer bytes (point_text at) (0x53 ∷ (to_le_bytes w32 height ++ (name_text name ++ rest))) text
        ∙ ap (λ (x : List ℕ). point_text at ++ (0x53 ∷ x))
        (append_assoc (to_le_bytes w32 height) (name_text name ++ rest) more ∙ ap (λ (x : List ℕ). to_le_bytes w32 height ++ x) (append_assoc (name_text name) rest more)))
        (long_stays rest l)
    make_stays below bytes rest (misplaced m after fits text why same) =
        misplaced m (after ++ more) fits (longer bytes (make_text m) after text) why (ap (λ (l : List ℕ). l ++ more) same)

    pub bad_stays : (text rest : List ℕ) → IsBad base text rest → IsBad base (text ++ more) (rest ++ more)
    bad_stays text rest (other_mark front wanted others is at o) = other_mark front wanted others is (longer text front rest at) (other_stays (wanted ∷ []) rest o)
    bad_stays text rest (bad_make count below bytes reaches fewer b) =
        bad_make count below (bytes ++ more) (reaches_stays text count below bytes reaches) fewer (make_stays below bytes rest b)
    bad_stays text rest (behind below reaches some) = behind below (reaches_stays text (length below) below rest reaches) (some_stays rest some)

    pub fault_stays : (text rest : List ℕ) → IsBad base text rest → HasFault base (text ++ more) (length text - length rest)
    fault_stays text rest b = bad (rest ++ more) (bad_stays text rest b) (omega (arith, length-append text more, length-append rest more))

-- ---- one answer

module _ (base : Base) (text : List ℕ) where
  -- what the reader answers where the text has a fault
  fault_spot : (at : ℕ) → HasFault base text at → (e : Spot) × (snapshot_from base text ≡ Err e) × (((e ≡ ended) × (at ≡ length text)) ⊎ ((rest : List ℕ) × (e ≡ (BadTag, rest)) × (at ≡ length text - length rest)))
  fault_spot at (bad rest b is) = ((BadTag, rest), bad_read base text rest b, inr (rest, refl, is))
  fault_spot at (cut c is) = (ended, cut_read base text c, inl (refl, is))

  pub one_fault : (at other : ℕ) → HasFault base text at → HasFault base text other → at ≡ other
  one_fault at other f g =
      let a = fault_spot at f in
      let b = fault_spot other g in
      by a.0 a.2 (subst (λ (e : Spot). ((e ≡ ended) × (other ≡ length text)) ⊎ ((rest : List ℕ) × (e ≡ (BadTag, rest)) × (other ≡ length text - length rest))) (err_is b.0 a.0 (sym b.1 ∙ a.1)) b.2)
    where
      by : (e : Spot) → ((e ≡ ended) × (at ≡ length text)) ⊎ ((rest : List ℕ) × (e ≡ (BadTag, rest)) × (at ≡ length text - length rest))
          → ((e ≡ ended) × (other ≡ length text)) ⊎ ((rest : List ℕ) × (e ≡ (BadTag, rest)) × (other ≡ length text - length rest)) → at ≡ other
      by e (inl x) (inl y) = x.1 ∙ sym y.1
      by e (inl x) (inr y) = absurd (no_cut (ap (λ (s : Spot). s.0) (sym y.1 ∙ x.0)))
      by e (inr x) (inl y) = absurd (no_cut (ap (λ (s : Spot). s.0) (sym x.1 ∙ y.0)))
      by e (inr x) (inr y) = x.2 ∙ ap (λ (s : Spot). length text - length s.1) (sym x.1 ∙ y.1) ∙ sym y.2

  pub one_start : (makes others : List StartMake) → IsSnapshot base text makes → IsSnapshot base text others → makes ≡ others
  one_start makes others a b =
      ap (λ (x : List StartMake × List ℕ). x.0) (ok_is (makes, []) (others, []) (sym (snapshot_read base text makes a) ∙ snapshot_read base text others b))

  pub no_fault : (makes : List StartMake) (at : ℕ) → IsSnapshot base text makes → HasFault base text at → ⊥
  no_fault makes at is f = let a = fault_spot at f in ok_err (snapshot_from base text) (makes, []) a.0 (snapshot_read base text makes is) a.1

  pub fault_of_spot : (e : Spot) → Fault base text e → (at : ℕ) × HasFault base text at
  fault_of_spot e (cut_short is c) = (length text, cut c refl)
  fault_of_spot e (bad_byte rest is b) = (length text - length rest, bad rest b refl)

  pub either : IsBytes text → ((makes : List StartMake) × IsSnapshot base text makes) ⊎ ((at : ℕ) × HasFault base text at)
  either are = by (snapshot_from base text) refl
    where
      by : (r : Result (List StartMake × List ℕ) Spot) → snapshot_from base text ≡ r → ((makes : List StartMake) × IsSnapshot base text makes) ⊎ ((at : ℕ) × HasFault base text at)
      by (Ok z) e = inl (z.0, (whole_read base text z are e).0)
      by (Err s) e = inr (fault_of_spot s (fault_read base text s are e))
