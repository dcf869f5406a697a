-- Lists of pairs one behind the other, around the one that a key belongs to.
use Rattle.std.proofs.Common.{◌≡◌, ℕ, zero, suc, ◌+◌, ◌-◌, ◌<◌, ◌≤◌, List, [], ◌∷◌, ◌++◌, length, take, drop, set, get_or, true, false, cond, Some, None, refl, sym, ap, ◌∙◌, subst, append_assoc, append-nil, length-append, zero-add, suc-add, take-append-drop, Bool, arith}
use Rattle.std.proofs.lemmas.List.{set_at, get_or_at, drop_more, length-take-le}
use Rattle.std.specs.Cmp.{IsTotalOrder}
use Rattle.std.specs.List.{AllByRecursion, insert, remove, slice_get}
use Rattle.std.specs.Option.{is_some}
use Rattle.std.specs.Ordering.{is_eq, match_ordering}
use Rattle.std.specs.declared.cmp.Ordering.{Ordering}
use Rattle.std.specs.declared.cmp.Ordering.TheVariants.{Less, Equal, Greater}
use Rattle.shared_chunks.specs.Joined.{IsPart, joined}
use Rattle.shared_chunks.specs.Pairs.{AreInOrder, value_at, with_pair, without_key}
use Rattle.shared_chunks.proofs.Order.{higher_back, lower_front, order_back, order_front}
use Rattle.shared_chunks.proofs.Places.{insert_at, remove_at, slice_get_at, value_at-gap, with_pair-gap, without_key-gap}

module _ {X : Type 0} where
  found_by : (b : Bool) (x : X) → is_some (cond b (Some x) None) ≡ b
  found_by true x = refl
  found_by false x = refl

  pub joined-append : (a b : List (List X)) → joined (a ++ b) ≡ joined a ++ joined b
  joined-append [] b = refl
  joined-append (x ∷ a) b = ap (λ z. x ++ z) (joined-append a b) ∙ sym (append_assoc x (joined a) (joined b))

  pub head_is : (xs : List X) (x : X) → slice_get xs 0 ≡ Some x → xs ≡ x ∷ drop 1 xs
  head_is [] x e = absurd (cc e)
  head_is (y ∷ xs) x e = let f : y ≡ x = cc e in ap (λ z. z ∷ xs) f

  pub get_within : (a b : List X) (i : ℕ) → i < length a → slice_get (a ++ b) i ≡ slice_get a i
  get_within [] b i h = absurd (omega arith)
  get_within (x ∷ a) b zero h = refl
  get_within (x ∷ a) b (suc i) h = get_within a b i (omega arith)

  get_past : (a b : List X) (j : ℕ) → slice_get (a ++ b) (length a + j) ≡ slice_get b j
  get_past [] b j = rw zero-add
  get_past (x ∷ a) b j = rw suc-add (get_past a b j)

  pub get_behind : (a b : List X) (i : ℕ) → length a ≤ i → slice_get (a ++ b) i ≡ slice_get b (i - length a)
  get_behind a b i h =
      let is : i ≡ length a + (i - length a) = omega arith in
      ap (slice_get (a ++ b)) is ∙ get_past a b (i - length a)

module _ {K V : Type 0} (cmp : K → K → Ordering) (key : K) where
  pub value_at-part : (a b c : List (K × V)) → AllByRecursion (λ p. cmp key p.0 ≡ Greater) a → AllByRecursion (λ p. cmp key p.0 ≡ Less) c → value_at cmp (a ++ (b ++ c)) key ≡ value_at cmp b key
  value_at-part [] [] c lower higher = value_at-gap cmp key [] c tt higher
  value_at-part [] (p ∷ b) c lower higher = ap (λ z. cond (is_eq (cmp key p.0)) (Some p.1) z) (value_at-part [] b c tt higher)
  value_at-part (p ∷ a) b c lower higher = rw lower.0 (value_at-part a b c lower.1 higher)

  pub with_pair-part : (a b c : List (K × V)) (value : V) → AllByRecursion (λ p. cmp key p.0 ≡ Greater) a → AllByRecursion (λ p. cmp key p.0 ≡ Less) c → with_pair cmp (a ++ (b ++ c)) key value ≡ a ++ (with_pair cmp b key value ++ c)
  with_pair-part [] [] c value lower higher = with_pair-gap cmp key [] c value tt higher
  with_pair-part [] (p ∷ b) c value lower higher =
      elim (cmp key p.0) as (λ r. match_ordering r ((key, value) ∷ p ∷ (b ++ c)) ((key, value) ∷ (b ++ c)) (p ∷ with_pair cmp (b ++ c) key value) ≡ match_ordering r ((key, value) ∷ p ∷ b) ((key, value) ∷ b) (p ∷ with_pair cmp b key value) ++ c) [
        | Less ↦ refl
        | Equal ↦ refl
        | Greater ↦ ap (λ z. p ∷ z) (with_pair-part [] b c value tt higher)
      ]
  with_pair-part (p ∷ a) b c value lower higher = rw lower.0 (ap (λ z. p ∷ z) (with_pair-part a b c value lower.1 higher))

  pub without_key-part : (a b c : List (K × V)) → AllByRecursion (λ p. cmp key p.0 ≡ Greater) a → AllByRecursion (λ p. cmp key p.0 ≡ Less) c → without_key cmp (a ++ (b ++ c)) key ≡ a ++ (without_key cmp b key ++ c)
  without_key-part [] [] c lower higher = without_key-gap cmp key [] c tt higher
  without_key-part [] (p ∷ b) c lower higher =
      elim (is_eq (cmp key p.0)) as (λ t. cond t (b ++ c) (p ∷ without_key cmp (b ++ c) key) ≡ cond t b (p ∷ without_key cmp b key) ++ c) [
        | true ↦ refl
        | false ↦ ap (λ z. p ∷ z) (without_key-part [] b c tt higher)
      ]
  without_key-part (p ∷ a) b c lower higher = rw lower.0 (ap (λ z. p ∷ z) (without_key-part a b c lower.1 higher))

module _ {X : Type 0} where
  pub joined_around : (lists before behind : List (List X)) (part : List X) → lists ≡ before ++ part ∷ behind → joined lists ≡ joined before ++ (part ++ joined behind)
  joined_around lists before behind part e = ap joined e ∙ joined-append before (part ∷ behind)

  pub length_around : (lists before behind : List (List X)) (part : List X) → lists ≡ before ++ part ∷ behind → length (joined lists) ≡ length (joined before) + (length part + length (joined behind))
  length_around lists before behind part e =
      ap length (joined_around lists before behind part e) ∙ omega (arith, length-append (joined before) (part ++ joined behind), length-append part (joined behind))

  -- with another list in the place of one
  pub set_around : (lists before behind : List (List X)) (part new : List X) (i : ℕ) → lists ≡ before ++ part ∷ behind → length before ≡ i → set lists i new ≡ before ++ new ∷ behind
  set_around lists before behind part new i e n = ap (λ z. set z i new) e ∙ set_at before part behind new i n

  pub remove_around : (lists before behind : List (List X)) (part : List X) (i : ℕ) → lists ≡ before ++ part ∷ behind → length before ≡ i → remove lists i ≡ before ++ behind
  remove_around lists before behind part i e n = ap (λ z. remove z i) e ∙ remove_at before part behind i n

module _ {K V : Type 0} {cmp : K → K → Ordering} where
  pub part_is : (lists : List (List (K × V))) (key : K) (i : ℕ) (g : IsPart cmp lists key i) (x : List (K × V)) → x ≡ get_or lists i x → x ≡ g.part
  part_is lists key i g x e = e ∙ ap (λ z. get_or z i x) g.split ∙ get_or_at g.before g.part g.behind x i g.place

  pub part_order : (lists : List (List (K × V))) (key : K) (i : ℕ) (g : IsPart cmp lists key i) → AreInOrder cmp (joined lists) → AreInOrder cmp g.part
  part_order lists key i g s =
      let e = joined_around lists g.before g.behind g.part g.split in
      order_front cmp g.part (joined g.behind) (order_back cmp (joined g.before) (g.part ++ joined g.behind) (subst (AreInOrder cmp) e s))

  pub part_value : (lists : List (List (K × V))) (key : K) (i : ℕ) (g : IsPart cmp lists key i) → value_at cmp (joined lists) key ≡ value_at cmp g.part key
  part_value lists key i g =
      ap (λ z. value_at cmp z key) (joined_around lists g.before g.behind g.part g.split) ∙ value_at-part cmp key (joined g.before) g.part (joined g.behind) g.lower g.higher

  pub part_set : (lists : List (List (K × V))) (key : K) (i : ℕ) (g : IsPart cmp lists key i) (value : V) (new : List (K × V)) → new ≡ with_pair cmp g.part key value → joined (set lists i new) ≡ with_pair cmp (joined lists) key value
  part_set lists key i g value new e =
      ap joined (set_around lists g.before g.behind g.part new i g.split g.place) ∙ joined-append g.before (new ∷ g.behind)
      ∙ ap (λ z. joined g.before ++ (z ++ joined g.behind)) e
      ∙ sym (with_pair-part cmp key (joined g.before) g.part (joined g.behind) value g.lower g.higher)
      ∙ ap (λ z. with_pair cmp z key value) (sym (joined_around lists g.before g.behind g.part g.split))

  pub part_unset : (lists : List (List (K × V))) (key : K) (i : ℕ) (g : IsPart cmp lists key i) (new : List (K × V)) → new ≡ without_key cmp g.part key → joined (set lists i new) ≡ without_key cmp (joined lists) key
  part_unset lists key i g new e =
      ap joined (set_around lists g.before g.behind g.part new i g.split g.place) ∙ joined-append g.before (new ∷ g.behind)
      ∙ ap (λ z. joined g.before ++ (z ++ joined g.behind)) e
      ∙ sym (without_key-part cmp key (joined g.before) g.part (joined g.behind) g.lower g.higher)
      ∙ ap (λ z. without_key cmp z key) (sym (joined_around lists g.before g.behind g.part g.split))

  pub part_same : (lists : List (List (K × V))) (key : K) (i : ℕ) (g : IsPart cmp lists key i) (new : List (K × V)) → new ≡ g.part → joined (set lists i new) ≡ joined lists
  part_same lists key i g new e =
      ap joined (set_around lists g.before g.behind g.part new i g.split g.place) ∙ ap (λ z. joined (g.before ++ z ∷ g.behind)) e ∙ ap joined (sym g.split)

  pub part_gone : (lists : List (List (K × V))) (key : K) (i : ℕ) (g : IsPart cmp lists key i) → without_key cmp g.part key ≡ [] → joined (remove lists i) ≡ without_key cmp (joined lists) key
  part_gone lists key i g e =
      ap joined (remove_around lists g.before g.behind g.part i g.split g.place) ∙ joined-append g.before g.behind
      ∙ ap (λ z. joined g.before ++ (z ++ joined g.behind)) (sym e)
      ∙ sym (without_key-part cmp key (joined g.before) g.part (joined g.behind) g.lower g.higher)
      ∙ ap (λ z. without_key cmp z key) (sym (joined_around lists g.before g.behind g.part g.split))

  pub part_within : (lists : List (List (K × V))) (key : K) (i : ℕ) (g : IsPart cmp lists key i) → i < length lists
  part_within lists key i g = omega (arith, ap length g.split, length-append g.before (g.part ∷ g.behind), g.place)

  pub part_count : (lists : List (List (K × V))) (key : K) (i : ℕ) (g : IsPart cmp lists key i) → length g.part ≤ length (joined lists)
  part_count lists key i g = omega (arith, length_around lists g.before g.behind g.part g.split)

  pub part_set_count : (lists : List (List (K × V))) (key : K) (i : ℕ) (g : IsPart cmp lists key i) (new : List (K × V)) → length (joined (set lists i new)) + length g.part ≡ length (joined lists) + length new
  part_set_count lists key i g new =
      omega (arith, length_around lists g.before g.behind g.part g.split, length_around (set lists i new) g.before g.behind new (set_around lists g.before g.behind g.part new i g.split g.place))

  pub part_gone_count : (lists : List (List (K × V))) (key : K) (i : ℕ) (g : IsPart cmp lists key i) → length (joined (remove lists i)) + length g.part ≡ length (joined lists)
  part_gone_count lists key i g =
      omega (
        arith,
        length_around lists g.before g.behind g.part g.split,
        ap length (ap joined (remove_around lists g.before g.behind g.part i g.split g.place) ∙ joined-append g.before g.behind),
        length-append (joined g.before) (joined g.behind),
      )

  pub part_get : (lists : List (List (K × V))) (key : K) (i : ℕ) (g : IsPart cmp lists key i) → slice_get lists i ≡ Some g.part
  part_get lists key i g = ap (λ z. slice_get z i) g.split ∙ slice_get_at g.before g.part g.behind i g.place

  pub part_kept : (lists : List (List (K × V))) (key : K) (i : ℕ) (g : IsPart cmp lists key i) → without_key cmp g.part key ≡ g.part → joined lists ≡ without_key cmp (joined lists) key
  part_kept lists key i g e =
      joined_around lists g.before g.behind g.part g.split
      ∙ ap (λ z. joined g.before ++ (z ++ joined g.behind)) (sym e)
      ∙ sym (without_key-part cmp key (joined g.before) g.part (joined g.behind) g.lower g.higher)
      ∙ ap (λ z. without_key cmp z key) (sym (joined_around lists g.before g.behind g.part g.split))

module _ {X : Type 0} where
  -- a part of one pair
  pub last_pair : (xs : List X) (x : X) → length xs ≤ 1 → slice_get xs 0 ≡ Some x → xs ≡ x ∷ []
  last_pair [] x few e = absurd (cc e)
  last_pair (y ∷ []) x few e = let f : y ≡ x = cc e in ap (λ z. z ∷ []) f
  last_pair (y ∷ z ∷ xs) x few e = absurd (omega (arith, few))

module _ {K V : Type 0} (cmp : K → K → Ordering) where
  -- the first pair behind a change
  pub kept_first : (xs : List (K × V)) (low : K × V) (key : K) (r : Ordering) (e : K × V) → slice_get xs 0 ≡ Some low → cmp key low.0 ≡ r → is_eq r ≡ false → e ≡ low → slice_get (without_key cmp xs key) 0 ≡ Some e
  kept_first xs low key r e h k f s =
      ap (λ z. slice_get (without_key cmp z key) 0) (head_is xs low h)
      ∙ ap (λ t. slice_get (cond t (drop 1 xs) (low ∷ without_key cmp (drop 1 xs) key)) 0) (ap is_eq k ∙ f)
      ∙ ap Some (sym s)

  pub next_first : (xs : List (K × V)) (low next : K × V) (key : K) (e : K × V) → slice_get xs 0 ≡ Some low → cmp key low.0 ≡ Equal → Some next ≡ slice_get xs 1 → e ≡ next → slice_get (without_key cmp xs key) 0 ≡ Some e
  next_first xs low next key e h k n s =
      ap (λ z. slice_get (without_key cmp z key) 0) (head_is xs low h)
      ∙ ap (λ t. slice_get (cond t (drop 1 xs) (low ∷ without_key cmp (drop 1 xs) key)) 0) (ap is_eq k)
      ∙ sym (ap (λ z. slice_get z 1) (head_is xs low h)) ∙ sym n ∙ ap Some (sym s)

  pub last_found : (xs : List (K × V)) (x : K × V) (key : K) (r : Ordering) → xs ≡ x ∷ [] → cmp key x.0 ≡ r → is_some (value_at cmp xs key) ≡ is_eq r
  last_found xs x key r e h =
      ap (λ z. is_some (value_at cmp z key)) e ∙ ap (λ z. is_some (cond (is_eq z) (Some x.1) None)) h ∙ found_by (is_eq r) x.1

  pub last_gone : (xs : List (K × V)) (x : K × V) (key : K) → xs ≡ x ∷ [] → cmp key x.0 ≡ Equal → without_key cmp xs key ≡ []
  last_gone xs x key e h = ap (λ z. without_key cmp z key) e ∙ ap (λ z. cond (is_eq z) [] (x ∷ [])) h

  pub last_kept : (xs : List (K × V)) (x : K × V) (key : K) (r : Ordering) → xs ≡ x ∷ [] → cmp key x.0 ≡ r → is_eq r ≡ false → without_key cmp xs key ≡ xs
  last_kept xs x key r e h f = ap (λ z. without_key cmp z key) e ∙ ap (λ t. cond t [] (x ∷ [])) (ap is_eq h ∙ f) ∙ sym e

module _ {X : Type 0} where
  pub halves_is : (items f b s : List (List X)) (mid : ℕ) → f ≡ take mid s → b ≡ drop mid s → s ≡ items → joined f ++ joined b ≡ joined items
  halves_is items f b s mid e h i =
      sym (joined-append f b) ∙ ap joined (ap (λ z. z ++ b) e ∙ ap (λ z. take mid s ++ z) h ∙ take-append-drop mid s ∙ i)

  at_split : (lists : List (List X)) (x : List X) (i : ℕ) → i < length lists → x ≡ get_or lists i x → lists ≡ take i lists ++ x ∷ drop (i + 1) lists
  at_split lists x i h e =
      sym (take-append-drop i lists) ∙ ap (λ z. take i lists ++ z) (drop_more lists i x h) ∙ ap (λ z. take i lists ++ z ∷ drop (i + 1) lists) (sym e)

  pub cut_same : (lists new : List (List X)) (x front back : List X) (i : ℕ) → i < length lists → x ≡ get_or lists i x → front ++ back ≡ x → new ≡ insert lists (i + 1) back → joined (set new i front) ≡ joined lists
  cut_same lists new x front back i h e f is =
      let a = take i lists in
      let b = drop (i + 1) lists in
      let n : length (take i lists) ≡ i = length-take-le i lists (omega (arith, h)) in
      let s : lists ≡ take i lists ++ x ∷ drop (i + 1) lists = at_split lists x i h e in
      let t : lists ≡ (take i lists ++ x ∷ []) ++ drop (i + 1) lists = s ∙ sym (append_assoc (take i lists) (x ∷ []) (drop (i + 1) lists)) in
      let m : length (take i lists ++ x ∷ []) ≡ i + 1 = omega (arith, length-append (take i lists) (x ∷ []), n) in
      let put : new ≡ take i lists ++ x ∷ (back ∷ drop (i + 1) lists) =
      is ∙ ap (λ z. insert z (i + 1) back) t ∙ insert_at (take i lists ++ x ∷ []) (drop (i + 1) lists) back (i + 1) m ∙ append_assoc (take i lists) (x ∷ []) (back ∷ drop (i + 1) lists) in
      ap joined (ap (λ z. set z i front) put ∙ set_at (take i lists) x (back ∷ drop (i + 1) lists) front i n)
      ∙ joined-append (take i lists) (front ∷ back ∷ drop (i + 1) lists)
      ∙ ap (λ z. joined (take i lists) ++ z) (sym (append_assoc front back (joined (drop (i + 1) lists))) ∙ ap (λ z. z ++ joined (drop (i + 1) lists)) f)
      ∙ sym (joined_around lists (take i lists) (drop (i + 1) lists) x s)

-- A search that narrows down.
pub record Around {K V : Type 0} (cmp : K → K → Ordering) (lists : List (List (K × V))) (key : K) (rest : List (List (K × V))) (low : ℕ) : Type 0 where
  pub before : List (List (K × V))
  pub behind : List (List (K × V))
  pub split : lists ≡ before ++ (rest ++ behind)
  pub place : length before ≡ low
  pub lower : AllByRecursion (λ p. cmp key p.0 ≡ Greater) (joined before)
  pub higher : AllByRecursion (λ p. cmp key p.0 ≡ Less) (joined behind)
  pub some : 0 < length rest

module _ {K V : Type 0} {cmp : K → K → Ordering} where
  pub all_parts : (lists : List (List (K × V))) (key : K) → 0 < length lists → Around cmp lists key lists 0
  all_parts lists key some = record { before = []; behind = []; split = sym (append-nil lists); place = refl; lower = tt; higher = tt; some = some }

  pub one_part : (lists : List (List (K × V))) (key : K) (rest : List (List (K × V))) (low : ℕ) → length rest ≤ 1 → Around cmp lists key rest low → IsPart cmp lists key low
  one_part lists key [] low few a = absurd (omega (arith, a.some))
  one_part lists key (x ∷ []) low few a = record { before = a.before; part = x; behind = a.behind; split = a.split; place = a.place; lower = a.lower; higher = a.higher }
  one_part lists key (x ∷ y ∷ rest) low few a = absurd (omega (arith, few))

  pub low_within : (lists : List (List (K × V))) (key : K) (rest : List (List (K × V))) (low : ℕ) → Around cmp lists key rest low → low + length rest ≤ length lists
  low_within lists key rest low a = omega (arith, ap length a.split, length-append a.before (rest ++ a.behind), length-append rest a.behind, a.place)

module _ {K V : Type 0} {cmp : K → K → Ordering} (o : IsTotalOrder cmp) where
  -- the lists around the one in the middle of what is left
  middle : (lists before front more behind : List (List (K × V))) (sub : List (K × V)) → lists ≡ before ++ ((front ++ sub ∷ more) ++ behind) → lists ≡ (before ++ front) ++ sub ∷ (more ++ behind)
  middle lists before front more behind sub e =
      e ∙ ap (λ z. before ++ z) (append_assoc front (sub ∷ more) behind) ∙ sym (append_assoc before front (sub ∷ (more ++ behind)))

  -- the pairs around its first
  firsts : (lists a b : List (List (K × V))) (sub : List (K × V)) (p : K × V) → lists ≡ a ++ sub ∷ b → slice_get sub 0 ≡ Some p → joined lists ≡ joined a ++ p ∷ (drop 1 sub ++ joined b)
  firsts lists a b sub p e h = joined_around lists a b sub e ∙ ap (λ z. joined a ++ (z ++ joined b)) (head_is sub p h)

  pub left_of : (lists front more : List (List (K × V))) (sub : List (K × V)) (p : K × V) (key : K) (low : ℕ) → AreInOrder cmp (joined lists) → slice_get sub 0 ≡ Some p → cmp key p.0 ≡ Less → 0 < length front
      → Around cmp lists key (front ++ sub ∷ more) low → Around cmp lists key front low
  left_of lists front more sub p key low s h e some a =
      let m = middle lists a.before front more a.behind sub a.split in
      let j = firsts lists (a.before ++ front) (more ++ a.behind) sub p m h in
      let t = order_back cmp (joined (a.before ++ front)) (p ∷ (drop 1 sub ++ joined (more ++ a.behind))) (subst (AreInOrder cmp) j s) in
      record {
        before = a.before;
        behind = sub ∷ (more ++ a.behind);
        split = m ∙ append_assoc a.before front (sub ∷ (more ++ a.behind));
        place = a.place;
        lower = a.lower;
        higher = subst (λ z. AllByRecursion (λ p. cmp key p.0 ≡ Less) (z ++ joined (more ++ a.behind))) (sym (head_is sub p h)) (higher_back o key p (drop 1 sub ++ joined (more ++ a.behind)) t e);
        some = some;
      }

  pub right_of : (lists front more : List (List (K × V))) (sub : List (K × V)) (p : K × V) (key : K) (low : ℕ) → AreInOrder cmp (joined lists) → slice_get sub 0 ≡ Some p → ((x : K) → cmp x p.0 ≡ Less → cmp key x ≡ Greater)
      → Around cmp lists key (front ++ sub ∷ more) low → Around cmp lists key (sub ∷ more) (low + length front)
  right_of lists front more sub p key low s h above a =
      let m = middle lists a.before front more a.behind sub a.split in
      let j = firsts lists (a.before ++ front) (more ++ a.behind) sub p m h in
      record {
        before = a.before ++ front;
        behind = a.behind;
        split = m;
        place = omega (arith, length-append a.before front, a.place);
        lower = lower_front o key (joined (a.before ++ front)) p (drop 1 sub ++ joined (more ++ a.behind)) (subst (AreInOrder cmp) j s) above;
        higher = a.higher;
        some = omega arith;
      }
