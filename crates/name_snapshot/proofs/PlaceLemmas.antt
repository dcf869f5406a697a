-- The place of a fault that bytes show lies among them.
use Rattle.std.proofs.Common.{◌≡◌, ◌≢◌, ℕ, ◌-◌, ◌<◌, ◌≤◌, ◌⊎◌, Bool, true, false, List, [], ◌∷◌, ◌++◌, length, replicate, refl, sym, ap, subst, ◌∙◌, append_assoc, append-nil, length-append, arith, inl, inr}
use Rattle.std.proofs.Math.Nat.{eq-or-lt_of_le}
use Rattle.std.specs.Int.{w16, w32, to_le_bytes}
use Rattle.block_grammar.proofs.ReaderLaws.{err_is}
use Rattle.nmc_base.specs.declared.chain_ends.Base.{Base}
use Rattle.nmc_base.specs.declared.hashes.OutPoint.{OutPoint}
use Rattle.chain_names.specs.Coins.{history_of}
use Rattle.chain_names.specs.Writable.{IsWritablePoint}
use Rattle.undo_records.specs.declared.fault.FaultKind.TheVariants.{Cut, BadTag}
use Rattle.undo_records.specs.Faults.{IsProperFront}
use Rattle.undo_records.specs.Text.{point_text}
use Rattle.undo_records.proofs.Laws.{Spot}
use Rattle.undo_records.proofs.Choices.{no_cut}
use Rattle.name_snapshot.specs.Faults.{Reaches, IsBelow32, IsBadMake, other_tag, long_value, misplaced, IsBad, other_mark, bad_make, behind, IsCut, in_head, in_make, HasFault, bad, cut}
use Rattle.name_snapshot.specs.Makes.{IsWritableMake, IsSnapshot, last_of}
use Rattle.name_snapshot.specs.Reading.{may_stand}
use Rattle.name_snapshot.specs.Text.{commitment, StartMake, told_text, make_text, makes_text, head_text, start_of}
use Rattle.name_snapshot.proofs.FollowLaws.{may_follow, misplaced_by}
use Rattle.name_snapshot.proofs.StayLaws.{one_fault, no_fault}
use Rattle.name_snapshot.proofs.WholeLaws.{bad_read}

-- ---- lengths

point_length : (at : OutPoint) → IsWritablePoint at → length (point_text at) ≡ 36
unfolding point_text
point_length at fits = omega (arith, fits.txid, length-append at.txid.0 (to_le_bytes w32 at.index))

make_long : (m : StartMake) → IsWritableMake m → 2 ≤ length (make_text m)
make_long m fits = omega (arith, length-append (point_text m.at) (told_text m.height m.told), point_length m.at fits.at)

head_length : (count : ℕ) → length (head_text count) ≡ 9
head_length count = refl

-- ---- a make at the end

-- a make that may be written
abbrev some_make : StartMake
some_make = record { at = record { txid = record { 0 = replicate 32 0 }; index = 0 }; height = 0; told = commitment (replicate 20 0) }

front_of_none : IsProperFront make_text IsWritableMake []
front_of_none = by (make_text some_make) refl
  where
    fits : IsWritableMake some_make
    fits = record { at = record { txid = refl; index = omega arith }; height = omega arith; told = refl }

    by : (text : List ℕ) → make_text some_make ≡ text → IsProperFront make_text IsWritableMake []
    by [] is = let none : length (make_text some_make) ≡ 0 = ap length is in absurd (omega (arith, none, make_long some_make fits))
    by (next ∷ more) is = record { value = some_make; fits = fits; next = next; more = more; text_is = is }

module _ (base : Base) where
  -- where the makes end, the text is whole or it is cut
  ended_behind : (text : List ℕ) (count : ℕ) (below : List StartMake) → Reaches base text count below [] → length below ≤ count
      → IsSnapshot base text below ⊎ HasFault base text (length text)
  ended_behind text count below reaches low = by (eq-or-lt_of_le low)
    where
      by : (length below ≡ count) ⊎ (length below < count) → IsSnapshot base text below ⊎ HasFault base text (length text)
      by (inl all) = inl (record {
        few = omega (arith, all, reaches.count_fits);
        follow = reaches.follow;
        text_is = reaches.text_is ∙ ap (λ (l : List ℕ). head_text count ++ l) (append-nil (makes_text below)) ∙ ap (λ (n : ℕ). head_text n ++ makes_text below) (sym all);
      })
      by (inr fewer) = inr (cut (in_make count below [] reaches fewer front_of_none) refl)

  reaches_on : (text : List ℕ) (count : ℕ) (below : List StartMake) (bytes more : List ℕ) → Reaches base text count below bytes → Reaches base (text ++ more) count below (bytes ++ more)
  reaches_on text count below bytes more reaches = record {
    count_fits = reaches.count_fits;
    follow = reaches.follow;
    text_is =
        ap (λ (l : List ℕ). l ++ more) reaches.text_is ∙ append_assoc (head_text count) (makes_text below ++ bytes) more
        ∙ ap (λ (l : List ℕ). head_text count ++ l) (append_assoc (makes_text below) bytes more);
  }

  -- ---- a fault of a byte

  bad_make_some : (below : List StartMake) (bytes rest : List ℕ) → IsBadMake base below bytes rest → 0 < length rest
  bad_make_some below bytes rest (other_tag at fits text o) = let long : length rest ≡ length (o.first ∷ o.more) = ap length o.text in omega (arith, long)
  bad_make_some below bytes rest (long_value at height name at_fits height_fits name_fits text l) =
      let long : length rest ≡ length (to_le_bytes w16 l.number ++ l.more) = ap length l.text in omega (arith, long, length-append (to_le_bytes w16 l.number) l.more)
  bad_make_some below bytes rest (misplaced m more fits text why same) =
      let long : length rest ≡ length (make_text m ++ more) = ap length (same ∙ text) in omega (arith, long, length-append (make_text m) more, make_long m fits)

  some_left : (rest : List ℕ) → rest ≢ [] → 0 < length rest
  some_left [] some = absurd (some refl)
  some_left (b ∷ rest) some = omega arith

  bad_some : (text rest : List ℕ) → IsBad base text rest → 0 < length rest
  bad_some text rest (other_mark front wanted others is at o) = let long : length rest ≡ length (o.first ∷ o.more) = ap length o.text in omega (arith, long)
  bad_some text rest (bad_make count below bytes reaches fewer b) = bad_make_some below bytes rest b
  bad_some text rest (behind below reaches some) = some_left rest some

  some_text : (text rest : List ℕ) → IsBad base text rest → 0 < length text
  some_text [] rest b = absurd (no_cut (ap (λ (s : Spot). s.0) (err_is (BadTag, rest) (Cut, []) (sym (bad_read base [] rest b)))))
  some_text (t ∷ text) rest b = omega arith

  -- ---- no end is a fault that stays

  module _ (text : List ℕ) (stays : (more : List ℕ) → HasFault base (text ++ more) (length text)) where
    -- the text goes on, and its fault, if it has one, stands elsewhere
    not_there : (more : List ℕ) (place : ℕ) → HasFault base (text ++ more) place → place ≢ length text → ⊥
    not_there more place fault other = other (one_fault base (text ++ more) place (length text) fault (stays more))

    goes_on : (makes : List StartMake) (more : List ℕ) → 0 < length more → IsSnapshot base (text ++ more) makes ⊎ HasFault base (text ++ more) (length (text ++ more)) → ⊥
    goes_on makes more some (inl whole) = no_fault base (text ++ more) makes (length text) whole (stays more)
    goes_on makes more some (inr fault) = not_there more (length (text ++ more)) fault (λ same. absurd (omega (arith, same, length-append text more, some)))

    not_in_head : IsProperFront head_text IsBelow32 text → ⊥
    not_in_head front =
        let more : List ℕ = front.next ∷ front.more in
        goes_on [] more (omega arith)
        (ended_behind (text ++ more) front.value [] (record { count_fits = front.fits; follow = tt; text_is = sym front.text_is ∙ sym (append-nil (head_text front.value)) }) (omega arith))

    module _ (count : ℕ) (below : List StartMake) (bytes : List ℕ) (reaches : Reaches base text count below bytes) (fewer : length below < count) where
      -- a make's text was cut before its last byte
      not_before_last : (m : StartMake) (next : ℕ) → IsWritableMake m → make_text m ≡ bytes ++ next ∷ [] → ⊥
      not_before_last m next fits is = by (may_stand base (last_of below) (history_of (start_of below)) m) refl
        where
          more : List ℕ
          more = next ∷ []

          on : Reaches base (text ++ more) count below (bytes ++ more)
          on = reaches_on text count below bytes more reaches

          whole : text ++ more ≡ head_text count ++ (makes_text (m ∷ below) ++ [])
          whole =
              on.text_is ∙ ap (λ (l : List ℕ). head_text count ++ (makes_text below ++ l)) (sym is)
              ∙ ap (λ (l : List ℕ). head_text count ++ l) (sym (append-nil (makes_text below ++ make_text m)))

          lengths : (1 ≤ length bytes) × (1 ≤ length text)
          lengths =
              let make_is : length (make_text m) ≡ length (bytes ++ more) = ap length is in
              let text_is : length text ≡ length (head_text count ++ (makes_text below ++ bytes)) = ap length reaches.text_is in
              (omega (arith, make_is, length-append bytes more, make_long m fits), omega (arith, text_is, length-append (head_text count) (makes_text below ++ bytes), head_length count))

          by : (b : Bool) → may_stand base (last_of below) (history_of (start_of below)) m ≡ b → ⊥
          by true may =
              goes_on (m ∷ below) more (omega arith)
              (ended_behind (text ++ more) count (m ∷ below) (record { count_fits = reaches.count_fits; follow = (may_follow base below m reaches.follow fits may, reaches.follow); text_is = whole }) (omega (arith, fewer)))
          by false may =
              not_there more (length (text ++ more) - length (bytes ++ more))
              (bad (bytes ++ more) (bad_make count below (bytes ++ more) on fewer (misplaced m [] fits (sym is ∙ sym (append-nil (make_text m))) (misplaced_by base below m may) refl)) refl)
              (λ same. absurd (omega (arith, same, length-append text more, length-append bytes more, lengths.0, lengths.1)))

      not_in_make : (m : StartMake) (next : ℕ) (more : List ℕ) → IsWritableMake m → make_text m ≡ bytes ++ next ∷ more → ⊥
      not_in_make m next [] fits is = not_before_last m next fits is
      not_in_make m next (last ∷ more) fits is =
          let on : IsProperFront make_text IsWritableMake (bytes ++ next ∷ []) =
          record { value = m; fits = fits; next = last; more = more; text_is = is ∙ sym (append_assoc bytes (next ∷ []) (last ∷ more)) } in
          goes_on below (next ∷ []) (omega arith) (inr (cut (in_make count below (bytes ++ next ∷ []) (reaches_on text count below bytes (next ∷ []) reaches) fewer on) refl))

    not_cut : IsCut base text → ⊥
    not_cut (in_head front) = not_in_head front
    not_cut (in_make count below bytes reaches fewer front) = not_in_make count below bytes reaches fewer front.value front.next front.more front.fits front.text_is

  -- a fault that each text has which begins so lies within these bytes
  pub place_inside : (text : List ℕ) (at : ℕ) → ((more : List ℕ) → HasFault base (text ++ more) at) → at < length text
  place_inside text at stays = by (subst (λ (l : List ℕ). HasFault base l at) (append-nil text) (stays []))
    where
      by : HasFault base text at → at < length text
      by (bad rest b is) = omega (arith, is, bad_some text rest b, some_text text rest b)
      by (cut c is) = absurd (not_cut text (λ more. subst (HasFault base (text ++ more)) is (stays more)) c)
