-- The faults of an image's coins and names.
use Rattle.std.proofs.Common.{◌≡◌, ◌≢◌, ℕ, zero, suc, ◌⊎◌, Bool, true, false, cond, List, [], ◌∷◌, ◌++◌, length, refl, sym, ap, subst, ◌∙◌, append_assoc, append-nil, arith, inl, inr}
use Rattle.std.specs.Prelude.{Option, Some, None, Ok, Err, ◌==◌, nat_le}
use Rattle.std.specs.Int.{w32, to_le_bytes}
use Rattle.std.specs.List.{flat_map}
use Rattle.std.specs.Cmp.Lexicographic.{slice_cmp}
use Rattle.std.specs.Ordering.{nat_cmp}
use Rattle.std.specs.declared.cmp.Ordering.{Ordering}
use Rattle.std.specs.declared.cmp.Ordering.TheVariants.{Less, Equal, Greater}
use Rattle.std.proofs.lemmas.Bool.{cases_Bool, eqb-true, eqb-false, ne_eqb, leb-true, le-leb}
use Rattle.block_grammar.specs.Combinators.{then_from, map_from, many_from}
use Rattle.block_grammar.proofs.Readers.{IsBytes}
use Rattle.block_grammar.proofs.ReaderLaws.{err_is}
use Rattle.nmc_base.specs.declared.hashes.OutPoint.{OutPoint}
use Rattle.chain_names.specs.declared.coin.Coin.{Coin}
use Rattle.chain_names.specs.declared.coin.Coin.TheVariants.{New, Named}
use Rattle.chain_names.specs.declared.coin.HeldCoin.{HeldCoin}
use Rattle.chain_names.specs.declared.coin.Item.{Item}
use Rattle.chain_names.specs.Writable.{IsAfter}
use Rattle.undo_records.specs.declared.fault.FaultKind.{FaultKind}
use Rattle.undo_records.specs.declared.fault.FaultKind.TheVariants.{Cut, BadTag, Unsorted}
use Rattle.undo_records.specs.declared.version.Version.{Version}
use Rattle.undo_records.specs.Faults.{IsOther}
use Rattle.undo_records.specs.Reading.{Reads, new_coin_from, named_coin_from, is_less, is_after, later_point_from, item_from}
use Rattle.undo_records.specs.Text.{point_text, name_text, coin_text, registered_text, held_text, item_text}
use Rattle.undo_records.proofs.Laws.{Spot, ended, Part, Core, in_first, in_second, then_part, then_core, IsSeenBy, seen_core, TagFlaw, many_part, many_core}
use Rattle.undo_records.proofs.Choices.{no_cut, checked_part, checked_core}
use Rattle.undo_records.proofs.FieldLaws.{part32, core32, name_part, name_core, point_part, point_core, IsOtherAt}
use Rattle.undo_records.proofs.PartLaws.{new_coin_core, named_coin_core, item_part, item_core, item_ends}
use Rattle.undo_records.proofs.CoinLaws.{after_is, is_after_at}
use Rattle.undo_records.proofs.RecordLaws.{kinds_apart}
use Rattle.image_faults.specs.Faults.{IsBadEntry, point_not_after, other_tag, IsNameAfter, IsHistoryIn, IsBadHistory, name_not_after, no_item, long_value}
use Rattle.image_grammar.specs.Image.{History, IsWritableCoin, IsWritableEntry}
use Rattle.image_grammar.specs.Reading.{coin_from, entry_of_pair, entry_from, comes_after, history_head_from}
use Rattle.image_grammar.specs.Text.{history_text}
use Rattle.image_grammar.proofs.TakeLaws.{coin_takes}

-- ---- coins

coin_again : (c : Coin) (rest : List ℕ) → IsWritableCoin c → coin_from (coin_text c ++ rest) ≡ Ok (c, rest)
unfolding coin_text
coin_again (New hash height) rest fits = new_coin_core.again (New hash height) rest fits
coin_again (Named name height) rest fits = named_coin_core.again (Named name height) rest fits

abbrev coin_part : Part Coin
coin_part = record { text = coin_text; Fits = IsWritableCoin; Flawed = TagFlaw (IsOtherAt (1 ∷ 2 ∷ [])); read = coin_from }

coin_stops : (bytes : List ℕ) (e : Spot) → IsBytes bytes → coin_from bytes ≡ Err e → (e ≡ ended) ⊎ TagFlaw (IsOtherAt (1 ∷ 2 ∷ [])) bytes e
coin_stops [] e are h = inl (sym (err_is ended e h))
coin_stops (b ∷ bytes) e are h = by (b == 1) refl h
  where
    by : (t : Bool) → (b == 1) ≡ t → cond t (new_coin_from (b ∷ bytes)) (named_coin_from (b ∷ bytes)) ≡ Err e → (e ≡ ended) ⊎ TagFlaw (IsOtherAt (1 ∷ 2 ∷ [])) (b ∷ bytes) e
    by true is h' =
        elim (new_coin_core.stops (b ∷ bytes) e are h') [
          | inl cut ↦ inl cut
          | inr t ↦
              let o = t.flaw.0 in
              let text : b ∷ bytes ≡ o.first ∷ o.more = o.text in
              let head : b ≡ o.first = cc in
              absurd (o.other.0 (sym head ∙ eqb-true b 1 is))
        ]
    by false is h' =
        elim (named_coin_core.stops (b ∷ bytes) e are h') [
          | inl cut ↦ inl cut
          | inr t ↦
              let o = t.flaw.0 in
              let text : b ∷ bytes ≡ o.first ∷ o.more = o.text in
              let head : b ≡ o.first = cc in
              inr (record { rest = t.rest; flaw = (record { first = o.first; more = o.more; text = o.text; other = (λ same. eqb-false b 1 is (head ∙ same), o.other) }, t.flaw.1); is = t.is })
        ]

coin_flawed : (bytes : List ℕ) (e : Spot) → TagFlaw (IsOtherAt (1 ∷ 2 ∷ [])) bytes e → coin_from bytes ≡ Err e
coin_flawed bytes e t =
    let o = t.flaw.0 in
    let seen : coin_from (o.first ∷ o.more) ≡ named_coin_from (o.first ∷ o.more) = rw (ne_eqb o.first 1 o.other.0) refl in
    ap coin_from o.text ∙ seen ∙ ap named_coin_from (sym o.text)
    ∙ named_coin_core.flawed bytes e (record { rest = t.rest; flaw = (record { first = o.first; more = o.more; text = o.text; other = o.other.1 }, t.flaw.1); is = t.is })

coin_core : Core coin_part
coin_core = record {
  takes = coin_takes;
  again = coin_again;
  stops = coin_stops;
  flawed = coin_flawed;
  behind = λ bytes e are h.
      elim (coin_stops bytes e are h) [
        | inl cut ↦ (bytes, sym (append-nil bytes) ∙ ap (λ (s : Spot). bytes ++ s.1) (sym cut))
        | inr t ↦ ([], sym t.flaw.1 ∙ ap (λ (s : Spot). s.1) t.is)
      ];
}

-- ---- a coin behind its outpoint

abbrev pub EntryFits : Option OutPoint → HeldCoin → Type 0
EntryFits last held = IsWritableEntry held × IsAfter last held.at

abbrev later_part : Option OutPoint → Part OutPoint
later_part last = checked_part Unsorted (is_after last) point_part

abbrev entry_parts : Option OutPoint → Part (OutPoint × Coin)
entry_parts last = then_part (later_part last) (λ _. coin_part)

abbrev pub entry_part : Option OutPoint → Part HeldCoin
entry_part last = record { text = held_text; Fits = EntryFits last; Flawed = (entry_parts last).Flawed; read = entry_from last }

abbrev of_entry : HeldCoin → OutPoint × Coin
of_entry held = (held.at, held.coin)

entry_is : (last : Option OutPoint) → IsSeenBy entry_of_pair of_entry (entry_parts last) (entry_part last)
unfolding held_text later_point_from
entry_is last = record {
  read = λ bytes. refl;
  back = λ h fits. refl;
  spell = λ x fits. refl;
  to = λ x fits. (record { at = fits.0.0; coin = fits.1 }, after_is last x.0 fits.0.1);
  from = λ h fits. ((fits.0.at, is_after_at last h.at fits.1), fits.0.coin);
  flaw_to = λ bytes e f. f;
  flaw_from = λ bytes e f. f;
}

pub entry_core : (last : Option OutPoint) → Core (entry_part last)
entry_core last =
    seen_core entry_of_pair of_entry (entry_parts last) (entry_part last) (entry_is last)
    (then_core (later_part last) (λ _. coin_part) (checked_core point_part (λ bytes e f. f) Unsorted (is_after last) point_core) (λ _ _. coin_core))

fails_after : (last : Option OutPoint) (at : OutPoint) → is_after last at ≡ false → IsAfter last at → ⊥
fails_after last at fails after = let holds : is_after last at ≡ true = is_after_at last at after in cc

not_after_fails : (last : Option OutPoint) (at : OutPoint) → ¬ (IsAfter last at) → is_after last at ≡ false
not_after_fails last at not = elim (cases_Bool (is_after last at)) [ inl holds ↦ absurd (not (after_is last at holds)) | inr fails ↦ fails ]

pub entry_bad : (last : Option OutPoint) (bytes : List ℕ) (e : Spot) → (entry_part last).Flawed bytes e → IsBadEntry last bytes e.1
entry_bad last bytes e (in_first c) = point_not_after c.value c.rest c.fits c.parts (fails_after last c.value c.fails) (sym (ap (λ (s : Spot). s.1) c.is))
entry_bad last bytes e (in_second at mid fits parts t) =
    let same : mid ≡ e.1 = sym t.flaw.1 ∙ ap (λ (s : Spot). s.1) t.is in
    other_tag at fits.0 (after_is last at fits.1) (parts ∙ ap (λ (l : List ℕ). point_text at ++ l) same) (subst (IsOther (1 ∷ 2 ∷ [])) same t.flaw.0)

-- a kind of fault but the end
pub record Faulty (Flawed : List ℕ → Spot → Type 0) (bytes rest : List ℕ) : Type 0 where
  pub kind : FaultKind
  pub flaw : Flawed bytes (kind, rest)
  pub no_end : kind ≡ Cut → ⊥

pub entry_flawed : (last : Option OutPoint) (bytes rest : List ℕ) → IsBadEntry last bytes rest → Faulty (entry_part last).Flawed bytes rest
entry_flawed last bytes rest (point_not_after at more fits parts not same) = record {
  kind = Unsorted;
  flaw = in_first (record { value = at; rest = more; fits = fits; parts = parts; fails = not_after_fails last at not; is = ap (λ (l : List ℕ). (Unsorted, l)) (sym same) });
  no_end = kinds_apart;
}
entry_flawed last bytes rest (other_tag at fits after parts o) = record {
  kind = BadTag;
  flaw = in_second at rest (fits, is_after_at last at after) parts (record { rest = rest; flaw = (o, refl); is = refl });
  no_end = no_cut;
}

-- ---- a name and its items

name_after_is : (last : Option (List ℕ)) (name : List ℕ) → comes_after last name ≡ true → IsNameAfter last name
name_after_is None name e = tt
name_after_is (Some last) name e = less_is (slice_cmp nat_cmp last name) e
  where
    less_is : (o : Ordering) → is_less o ≡ true → o ≡ Less
    less_is Less e = refl
    less_is Equal e = absurd cc
    less_is Greater e = absurd cc

name_after_at : (last : Option (List ℕ)) (name : List ℕ) → IsNameAfter last name → comes_after last name ≡ true
name_after_at None name after = refl
name_after_at (Some last) name after = ap is_less after

name_fails_after : (last : Option (List ℕ)) (name : List ℕ) → comes_after last name ≡ false → IsNameAfter last name → ⊥
name_fails_after last name fails after = let holds : comes_after last name ≡ true = name_after_at last name after in cc

name_not_fails : (last : Option (List ℕ)) (name : List ℕ) → ¬ (IsNameAfter last name) → comes_after last name ≡ false
name_not_fails last name not = elim (cases_Bool (comes_after last name)) [ inl holds ↦ absurd (not (name_after_is last name holds)) | inr fails ↦ fails ]

abbrev count_part : Part ℕ
count_part = checked_part BadTag (λ n. nat_le 1 n) part32

abbrev later_name_part : Option (List ℕ) → Part (List ℕ)
later_name_part last = checked_part Unsorted (comes_after last) name_part

abbrev history_head_part : Option (List ℕ) → Part (List ℕ × ℕ)
history_head_part last = then_part (later_name_part last) (λ _. count_part)

history_head_core : (last : Option (List ℕ)) → Core (history_head_part last)
history_head_core last =
    then_core (later_name_part last) (λ _. count_part) (checked_core name_part (λ bytes e f. f) Unsorted (comes_after last) name_core)
    (λ _ _. checked_core part32 (λ bytes e f. f) BadTag (λ n. nat_le 1 n) core32)

some_items : (items : List Item) (n : ℕ) → length items ≡ n → nat_le 1 n ≡ true → items ≢ []
some_items items n count some none = let low = leb-true 1 n some in omega (arith, low, count, ap (λ (l : List Item). length l) none)

items_some : (items : List Item) → items ≢ [] → nat_le 1 (length items) ≡ true
items_some [] some = absurd (some refl)
items_some (item ∷ items) some = le-leb 1 (suc (length items)) (omega arith)

none_of : (n : ℕ) → nat_le 1 n ≡ false → n ≡ 0
none_of zero e = refl
none_of (suc n) e = let h : nat_le 1 (suc n) ≡ true = le-leb 1 (suc n) (omega arith) in absurd (let both : true ≡ false = sym h ∙ e in cc)

module _ (version : Version) (last : Option (List ℕ)) where
  abbrev items_part : List ℕ × ℕ → Part (List Item)
  items_part x = many_part (item_part version) x.1

  abbrev history_parts : Part ((List ℕ × ℕ) × List Item)
  history_parts = then_part (history_head_part last) items_part

  abbrev pub history_of : (List ℕ × ℕ) × List Item → History
  history_of x = record { name = x.0.0; items = x.1 }

  abbrev of_history : History → (List ℕ × ℕ) × List Item
  of_history h = ((h.name, length h.items), h.items)

  abbrev pub HistoryFits : History → Type 0
  HistoryFits h = IsHistoryIn version h × IsNameAfter last h.name

  abbrev pub history_from : Reads History
  history_from = map_from history_of (then_from (history_head_from last) (λ x. many_from (item_from version) x.1))

  abbrev pub history_part : Part History
  history_part = record { text = history_text version; Fits = HistoryFits; Flawed = history_parts.Flawed; read = history_from }

  history_spelled : (x : (List ℕ × ℕ) × List Item) → length x.1 ≡ x.0.1 → history_text version (history_of x) ≡ (name_text x.0.0 ++ to_le_bytes w32 x.0.1) ++ flat_map (item_text version) x.1
  history_spelled x count =
      ap (λ (n : ℕ). name_text x.0.0 ++ (to_le_bytes w32 n ++ flat_map (item_text version) x.1)) count ∙ sym (append_assoc (name_text x.0.0) (to_le_bytes w32 x.0.1) (flat_map (item_text version) x.1))

  history_is : IsSeenBy history_of of_history history_parts history_part
  history_is = record {
    read = λ bytes. refl;
    back = λ h fits. refl;
    spell = λ x fits. history_spelled x fits.1.0;
    to = λ x fits. (
      record { name = fits.0.0.0; some = some_items x.1 x.0.1 fits.1.0 fits.0.1.1; count = omega (arith, fits.0.1.0, fits.1.0); items = fits.1.1 },
      name_after_is last x.0.0 fits.0.0.1,
    );
    from = λ h fits. (((fits.0.name, name_after_at last h.name fits.1), (fits.0.count, items_some h.items fits.0.some)), (refl, fits.0.items));
    flaw_to = λ bytes e f. f;
    flaw_from = λ bytes e f. f;
  }

  pub history_core : Core history_part
  history_core =
      seen_core history_of of_history history_parts history_part history_is
      (then_core (history_head_part last) items_part (history_head_core last) (λ x _. many_core (item_part version) (item_ends version).sample (item_core version) x.1))

  pub history_bad : (bytes : List ℕ) (e : Spot) → history_parts.Flawed bytes e → IsBadHistory version last bytes e.1
  history_bad bytes e (in_first (in_first c)) = name_not_after c.value c.rest c.fits c.parts (name_fails_after last c.value c.fails) (sym (ap (λ (s : Spot). s.1) c.is))
  history_bad bytes e (in_first (in_second name mid fits parts c)) =
      let same : mid ≡ e.1 = ap (λ (s : Spot). s.1) c.is in
      no_item name c.rest fits.0 (name_after_is last name fits.1) (parts ∙ ap (λ (l : List ℕ). name_text name ++ l) same)
      (sym same ∙ c.parts ∙ ap (λ (n : ℕ). to_le_bytes w32 n ++ c.rest) (none_of c.value c.fails))
  history_bad bytes e (in_second x mid fits parts f) =
      let t = f.flaw in
      let long = t.flaw in
      let same : t.rest ≡ e.1 = ap (λ (s : Spot). s.1) t.is in
      let at_items : bytes ≡ name_text x.0 ++ (to_le_bytes w32 x.1 ++ mid) = parts ∙ append_assoc (name_text x.0) (to_le_bytes w32 x.1) mid in
      subst (IsBadHistory version last bytes) same
      (long_value x.0 x.1 f.before long.height long.registered long.at fits.0.0 (name_after_is last x.0 fits.0.1) fits.1.0 f.fewer f.fits long.height_fits long.registered_fits long.at_fits
      (at_items ∙ ap (λ (l : List ℕ). name_text x.0 ++ (to_le_bytes w32 x.1 ++ l)) (f.parts ∙ ap (λ (l : List ℕ). flat_map (item_text version) f.before ++ l) long.parts)) long.long)

  pub history_flawed : (bytes rest : List ℕ) → IsBadHistory version last bytes rest → Faulty history_parts.Flawed bytes rest
  history_flawed bytes rest (name_not_after name more fits parts not same) = record {
    kind = Unsorted;
    flaw = in_first (in_first (record { value = name; rest = more; fits = fits; parts = parts; fails = name_not_fails last name not; is = ap (λ (l : List ℕ). (Unsorted, l)) (sym same) }));
    no_end = kinds_apart;
  }
  history_flawed bytes rest (no_item name more fits after parts none) = record {
    kind = BadTag;
    flaw = in_first (in_second name rest (fits, name_after_at last name after) parts (record { value = 0; rest = more; fits = omega arith; parts = none; fails = refl; is = refl }));
    no_end = no_cut;
  }
  history_flawed bytes rest (long_value name count items height registered at fits after count_fits fewer items_fit height_fits registered_fits at_fits parts long) =
      let inner : List ℕ = flat_map (item_text version) items ++ (to_le_bytes w32 height ++ (registered_text version registered ++ (point_text at ++ rest))) in
      record {
        kind = BadTag;
        flaw = in_second (name, count) inner ((fits, name_after_at last name after), (count_fits, le-leb 1 count (omega (arith, fewer)))) (parts ∙ sym (append_assoc (name_text name) (to_le_bytes w32 count) inner))
            (record {
              before = items;
              fits = items_fit;
              fewer = fewer;
              inner = to_le_bytes w32 height ++ (registered_text version registered ++ (point_text at ++ rest));
              parts = refl;
              flaw = record { rest = rest; flaw = record { height = height; registered = registered; at = at; height_fits = height_fits; registered_fits = registered_fits; at_fits = at_fits; parts = refl; long = long }; is = refl };
            });
        no_end = no_cut;
      }
