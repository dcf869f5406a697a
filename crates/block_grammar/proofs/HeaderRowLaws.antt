-- The table of faults of a header, and the reader on lists.
use Rattle.std.proofs.Common.{◌≡◌, ℕ, ◌<◌, ◌^◌, ◌⊎◌, false, eqb, List, [], ◌++◌, length, Option, Some, None, bit_and, refl, sym, ap, subst, ◌∙◌, append_assoc, append-nil, inl, inr}
use Rattle.std.specs.Prelude.{Ok, Err}
use Rattle.std.specs.Int.{w32, to_le_bytes}
use Rattle.std.proofs.lemmas.Bool.{eqb-false, ne_eqb}
use Rattle.nmc_base.proofs.TruthLemmas.{chosen}
use Rattle.block_grammar.specs.declared.kinds.TxKind.{TxKind}
use Rattle.block_grammar.specs.declared.kinds.TxKind.TheVariants.{Cut, LongForm, BadFlag, NoInput, NoOutput, EmptyWitness}
use Rattle.block_grammar.specs.Kinds.{is_cut}
use Rattle.block_grammar.specs.CompactSize.{compact_size}
use Rattle.block_grammar.specs.Transaction.{Transaction, transaction_text, FitsTransaction}
use Rattle.block_grammar.specs.FaultRows.{IsLongSize, HasLongForm, IsFirst, TransactionByte, IsBeforeCoinbaseBranch, IsBeforePartSize, in_coinbase, in_coinbase_branch, in_chain_branch, PartByte, HeaderByte}
use Rattle.block_grammar.specs.PureHeader.{PureHeader, pure_header_text, FitsPureHeader, IsMerged}
use Rattle.block_grammar.specs.MergePart.{MergePart, branch_text, FitsBranch}
use Rattle.block_grammar.specs.Combinators.{◌>>=◌, Reader, then_from, map_from, many_from}
use Rattle.block_grammar.specs.Reading.{number_from, piece_from, size_from, transaction_from, fields_from, branch_from, merge_part_from, merged_from, header_from}
use Rattle.block_grammar.proofs.Readers.{IsBytes}
use Rattle.block_grammar.proofs.ReaderLaws.{ok_err, bind_err, made_err}
use Rattle.block_grammar.proofs.FieldLaws.{itself, HasLength, IsBelow, laws32, piece_laws, size_laws}
use Rattle.block_grammar.proofs.BodyLaws.{transaction_laws}
use Rattle.block_grammar.proofs.HeaderLaws.{fields_laws, branch_laws}
use Rattle.block_grammar.proofs.RowLaws.{ByTable}
use Rattle.block_grammar.proofs.SizeRowLaws.{Spot, OnlyCut, number_cut, piece_cut, then_cut, map_cut, many_cut, FieldFault, ends, longer, Sized, cut_sized, fault_as, fault_behind, then_sized, map_sized, size_sized, long_met, long_left}
use Rattle.block_grammar.proofs.RowsMet.{long_form_met}
use Rattle.block_grammar.proofs.RowsTold.{Answer, transaction_told}
use Rattle.block_grammar.proofs.FaultRowLaws.{transaction_bytes}

fields_cut : OnlyCut fields_from
unfolding fields_from
fields_cut =
    map_cut _ _ (then_cut (number_from w32) _ (number_cut w32) (λ _. then_cut (piece_from 32) _ (piece_cut 32) (λ _. then_cut (piece_from 32) _ (piece_cut 32) (λ _. then_cut (number_from w32) _ (number_cut w32) (λ _. then_cut (number_from w32) (λ _. number_from w32) (number_cut w32) (λ _. number_cut w32))))))

branch_sized : Sized IsFirst branch_from
unfolding branch_from
branch_sized =
    map_sized (λ x. x.1) (then_from size_from (many_from (piece_from 32))) IsFirst
    (then_sized compact_size (IsBelow (2 ^ 64)) size_from (many_from (piece_from 32)) IsFirst size_laws size_sized (λ n _. cut_sized (λ b. IsFirst (compact_size n ++ b)) (many_from (piece_from 32) n) (many_cut (piece_from 32) (piece_cut 32) n)))

-- what stands behind the coinbase
abbrev behind_chain : Reader TxKind (ℕ × PureHeader)
behind_chain = then_from (number_from w32) (λ _. fields_from)

abbrev behind_branch : Reader TxKind (ℕ × (List (List ℕ) × (ℕ × PureHeader)))
behind_branch = then_from (number_from w32) (λ _. then_from branch_from (λ _. behind_chain))

abbrev behind_coinbase : Reader TxKind (List ℕ × (List (List ℕ) × (ℕ × (List (List ℕ) × (ℕ × PureHeader)))))
behind_coinbase = then_from (piece_from 32) (λ _. then_from branch_from (λ _. behind_branch))

chain_cut : OnlyCut behind_chain
chain_cut = then_cut (number_from w32) (λ _. fields_from) (number_cut w32) (λ _. fields_cut)

-- behind the first branch
chain_sized : (first : List ℕ) → IsBeforeCoinbaseBranch first → (branch : List (List ℕ)) → FitsBranch branch → Sized (λ b. IsBeforePartSize (first ++ (branch_text branch ++ b))) behind_branch
chain_sized first is branch fits =
    then_sized (to_le_bytes w32) (IsBelow (2 ^ 32)) (number_from w32) (λ _. then_from branch_from (λ _. behind_chain)) (λ b. IsBeforePartSize (first ++ (branch_text branch ++ b))) laws32
    (cut_sized (λ b. IsBeforePartSize (first ++ (branch_text branch ++ b))) (number_from w32) (number_cut w32)) (λ index lt.
    then_sized branch_text FitsBranch branch_from (λ _. behind_chain) (λ b. IsBeforePartSize (first ++ (branch_text branch ++ (to_le_bytes w32 index ++ b)))) branch_laws
    (λ bytes e fits' h. fault_as IsFirst (λ b. IsBeforePartSize (first ++ (branch_text branch ++ (to_le_bytes w32 index ++ b)))) bytes e
    (λ before none. in_chain_branch (record {
      first = first;
      is_first = is;
      branch = branch;
      branch_fits = fits;
      index = index;
      index_fits = lt;
      text = ap (λ (b : List ℕ). first ++ (branch_text branch ++ b)) (ap (λ (b : List ℕ). to_le_bytes w32 index ++ b) none ∙ append-nil (to_le_bytes w32 index));
    })) (branch_sized bytes e fits' h))
    (λ chain _. cut_sized (λ b. IsBeforePartSize (first ++ (branch_text branch ++ (to_le_bytes w32 index ++ (branch_text chain ++ b))))) behind_chain chain_cut))

behind_sized : (coinbase : Transaction) → FitsTransaction coinbase → Sized (λ b. IsBeforePartSize (transaction_text coinbase ++ b)) behind_coinbase
behind_sized coinbase fits =
    let text = transaction_text coinbase in
    then_sized itself (HasLength 32) (piece_from 32) (λ _. then_from branch_from (λ _. behind_branch)) (λ b. IsBeforePartSize (text ++ b)) (piece_laws 32) (cut_sized (λ b. IsBeforePartSize (text ++ b)) (piece_from 32) (piece_cut 32)) (λ hash len.
    let here : IsBeforeCoinbaseBranch (text ++ hash) = record { coinbase = coinbase; coinbase_fits = fits; parent_hash = hash; parent_hash_is = len; text = refl } in
    then_sized branch_text FitsBranch branch_from (λ _. behind_branch) (λ b. IsBeforePartSize (text ++ (hash ++ b))) branch_laws
    (λ bytes e fits' h. fault_as IsFirst (λ b. IsBeforePartSize (text ++ (hash ++ b))) bytes e
    (λ before none. in_coinbase_branch (subst IsBeforeCoinbaseBranch (ap (λ (b : List ℕ). text ++ b) (sym (ap (λ (b : List ℕ). hash ++ b) none ∙ append-nil hash))) here)) (branch_sized bytes e fits' h))
    (λ branch fits' bytes e is h. fault_as (λ b. IsBeforePartSize ((text ++ hash) ++ (branch_text branch ++ b))) (λ b. IsBeforePartSize (text ++ (hash ++ (branch_text branch ++ b)))) bytes e
    (λ before p. subst IsBeforePartSize (append_assoc text hash (branch_text branch ++ before)) p) (chain_sized (text ++ hash) here branch fits' bytes e is h)))

abbrev PartTold : List ℕ → Spot → Type 0
PartTold bytes e = (e.0 ≡ Cut) ⊎ PartByte e.0 bytes e.1

part_field : (bytes : List ℕ) (e : Spot) → FieldFault IsBeforePartSize bytes e → PartTold bytes e
part_field bytes e (ends is) = inl is
part_field bytes e (longer is h) = inr (subst (λ (k : TxKind). PartByte k bytes e.1) (sym is) h)

-- a fault of the coinbase is one of the part
coinbase_byte : (bytes : List ℕ) (kind : TxKind) (rest : List ℕ) → TransactionByte kind bytes rest → PartByte kind bytes rest
coinbase_byte bytes Cut rest f = f
coinbase_byte bytes LongForm rest f = record { before = f.before; is_before = in_coinbase f.is_before; behind = f.behind; text = f.text; long = f.long }
coinbase_byte bytes BadFlag rest f = f
coinbase_byte bytes NoInput rest f = f
coinbase_byte bytes NoOutput rest f = f
coinbase_byte bytes EmptyWitness rest f = f

part_told : (bytes : List ℕ) (e : Spot) → IsBytes bytes → merge_part_from bytes ≡ Err e → PartTold bytes e
unfolding merge_part_from
part_told bytes e fits h =
    let inner : then_from transaction_from (λ _. behind_coinbase) bytes ≡ Err e = made_err (then_from transaction_from (λ _. behind_coinbase) bytes) (λ x. (record { coinbase = x.0.0; parent_hash = x.0.1.0; coinbase_branch = x.0.1.1.0; coinbase_index = x.0.1.1.1.0; chain_branch = x.0.1.1.1.1.0; chain_index = x.0.1.1.1.1.1.0; parent = x.0.1.1.1.1.1.1 }, x.1)) e h in
    elim (bind_err (transaction_from bytes) (λ x. behind_coinbase x.1 >>= λ y. Ok ((x.0, y.0), y.1)) e inner) [
      | inl w ↦ elim (transaction_told bytes e fits w) [
        | inl is ↦ inl is
        | inr f ↦ inr (coinbase_byte bytes e.0 e.1 f)
      ]
      | inr x ↦
          let t = transaction_laws.takes bytes x.0 fits x.1 in
          part_field bytes e (fault_behind IsBeforePartSize (transaction_text x.0.0) x.0.1 bytes e t.parts
          (behind_sized x.0.0 t.fits x.0.1 e t.rest_bytes (made_err (behind_coinbase x.0.1) (λ y. ((x.0.0, y.0), y.1)) e x.2)))
    ]

header_told : (bytes : List ℕ) (e : Spot) → IsBytes bytes → header_from bytes ≡ Err e → (e.0 ≡ Cut) ⊎ HeaderByte e.0 bytes e.1
unfolding header_from merged_from
header_told bytes e fits h =
    let inner = made_err (then_from fields_from (λ fields. merged_from fields.version) bytes) (λ (x : (PureHeader × Option MergePart) × List ℕ). (record { fields = x.0.0; merged = x.0.1 }, x.1)) e h in
    elim (bind_err (fields_from bytes) (λ (x : PureHeader × List ℕ). merged_from x.0.version x.1 >>= λ (y : Option MergePart × List ℕ). Ok ((x.0, y.0), y.1)) e inner) [
      | inl w ↦ inl (fields_cut bytes e w)
      | inr x ↦
          let t = fields_laws.takes bytes x.0 fits x.1 in
          let version = x.0.0.version in
          let part : merged_from version x.0.1 ≡ Err e = made_err (merged_from version x.0.1) (λ (y : Option MergePart × List ℕ). ((x.0.0, y.0), y.1)) e x.2 in
          elim (chosen {A = Answer (Option MergePart)} (eqb (bit_and version 0x100) 0) (Ok (None, x.0.1)) (map_from (λ m. Some m) merge_part_from x.0.1) (Err e) part) [
            | inl w ↦ absurd (ok_err (Ok (None, x.0.1)) (None, x.0.1) e refl w.1)
            | inr w ↦ elim (part_told x.0.1 e t.rest_bytes (made_err (merge_part_from x.0.1) (λ (y : MergePart × List ℕ). (Some y.0, y.1)) e w.1)) [
              | inl f ↦ inl f
              | inr f ↦ inr (record { fields = x.0.0; fields_fit = t.fits; merged = λ z. eqb-false (bit_and version 0x100) 0 w.0 z; body = x.0.1; text = t.parts; fault = f })
            ]
          ]
    ]

coinbase_met : (body : List ℕ) (e : Spot) → transaction_from body ≡ Err e → merge_part_from body ≡ Err e
unfolding merge_part_from
coinbase_met body e h = rw h refl

-- a branch that stops the reader, behind the coinbase and the hash
first_branch_met : (coinbase : Transaction) (hash body : List ℕ) (e : Spot) → FitsTransaction coinbase → length hash ≡ 32 → branch_from body ≡ Err e → merge_part_from (transaction_text coinbase ++ (hash ++ body)) ≡ Err e
unfolding merge_part_from
first_branch_met coinbase hash body e fits len h = rw (transaction_laws.again coinbase (hash ++ body) fits, (piece_laws 32).again hash body len, h) refl

-- and one behind the first branch and its index
record IsPart (coinbase : Transaction) (hash : List ℕ) (branch : List (List ℕ)) (index : ℕ) : Type 0 where
  coinbase_fits : FitsTransaction coinbase
  hash_is : length hash ≡ 32
  branch_fits : FitsBranch branch
  index_fits : index < 2 ^ 32

second_branch_met : (coinbase : Transaction) (hash : List ℕ) (branch : List (List ℕ)) (index : ℕ) (body : List ℕ) (e : Spot) → IsPart coinbase hash branch index → branch_from body ≡ Err e
    → merge_part_from (transaction_text coinbase ++ (hash ++ (branch_text branch ++ (to_le_bytes w32 index ++ body)))) ≡ Err e
unfolding merge_part_from
second_branch_met coinbase hash branch index body e p h =
    rw (
      transaction_laws.again coinbase (hash ++ (branch_text branch ++ (to_le_bytes w32 index ++ body))) p.coinbase_fits,
      (piece_laws 32).again hash (branch_text branch ++ (to_le_bytes w32 index ++ body)) p.hash_is,
      branch_laws.again branch (to_le_bytes w32 index ++ body) p.branch_fits,
      laws32.again index body p.index_fits,
      h,
    ) refl

branch_long : (behind rest : List ℕ) → IsLongSize behind rest → branch_from behind ≡ Err (LongForm, rest)
unfolding branch_from
branch_long behind rest long = rw (long_met behind rest long) refl

part_long_met : (bytes rest : List ℕ) → HasLongForm IsBeforePartSize bytes rest → merge_part_from bytes ≡ Err (LongForm, rest)
part_long_met bytes rest h = ap merge_part_from h.text ∙ by_part h.before h.behind h.long h.is_before
  where
    by_part : (before behind : List ℕ) → IsLongSize behind rest → IsBeforePartSize before → merge_part_from (before ++ behind) ≡ Err (LongForm, rest)
    by_part before behind long (in_coinbase c) =
        coinbase_met (before ++ behind) (LongForm, rest) (long_form_met (before ++ behind) rest (record { before = before; is_before = c; behind = behind; text = refl; long = long }))
    by_part before behind long (in_coinbase_branch c) =
        ap merge_part_from (ap (λ (b : List ℕ). b ++ behind) c.text ∙ append_assoc (transaction_text c.coinbase) c.parent_hash behind)
        ∙ first_branch_met c.coinbase c.parent_hash behind (LongForm, rest) c.coinbase_fits c.parent_hash_is (branch_long behind rest long)
    by_part before behind long (in_chain_branch c) =
        let f = c.is_first in
        let coinbase = transaction_text f.coinbase in
        let branch = branch_text c.branch in
        let index = to_le_bytes w32 c.index in
        ap merge_part_from (ap (λ (b : List ℕ). b ++ behind) (c.text ∙ ap (λ (b : List ℕ). b ++ (branch ++ index)) f.text) ∙ append_assoc (coinbase ++ f.parent_hash) (branch ++ index) behind
        ∙ append_assoc coinbase f.parent_hash ((branch ++ index) ++ behind) ∙ ap (λ (b : List ℕ). coinbase ++ (f.parent_hash ++ b)) (append_assoc branch index behind))
        ∙ second_branch_met f.coinbase f.parent_hash c.branch c.index behind (LongForm, rest)
        (record { coinbase_fits = f.coinbase_fits; hash_is = f.parent_hash_is; branch_fits = c.branch_fits; index_fits = c.index_fits }) (branch_long behind rest long)

part_met : (bytes : List ℕ) (kind : TxKind) (rest : List ℕ) → PartByte kind bytes rest → merge_part_from bytes ≡ Err (kind, rest)
part_met bytes Cut rest f = absurd f
part_met bytes LongForm rest f = part_long_met bytes rest f
part_met bytes BadFlag rest f = coinbase_met bytes (BadFlag, rest) (transaction_bytes.met bytes BadFlag rest f)
part_met bytes NoInput rest f = coinbase_met bytes (NoInput, rest) (transaction_bytes.met bytes NoInput rest f)
part_met bytes NoOutput rest f = coinbase_met bytes (NoOutput, rest) (transaction_bytes.met bytes NoOutput rest f)
part_met bytes EmptyWitness rest f = coinbase_met bytes (EmptyWitness, rest) (transaction_bytes.met bytes EmptyWitness rest f)

part_own : (bytes : List ℕ) (kind : TxKind) (rest : List ℕ) → PartByte kind bytes rest → is_cut kind ≡ false
part_own bytes Cut rest f = absurd f
part_own bytes LongForm rest f = refl
part_own bytes BadFlag rest f = refl
part_own bytes NoInput rest f = refl
part_own bytes NoOutput rest f = refl
part_own bytes EmptyWitness rest f = refl

part_some : (bytes : List ℕ) (kind : TxKind) (rest : List ℕ) → PartByte kind bytes rest → rest ≡ [] → ⊥
part_some bytes Cut rest f none = f
part_some bytes LongForm rest f none = long_left f.behind rest f.long none
part_some bytes BadFlag rest f none = transaction_bytes.some bytes BadFlag rest f none
part_some bytes NoInput rest f none = transaction_bytes.some bytes NoInput rest f none
part_some bytes NoOutput rest f none = transaction_bytes.some bytes NoOutput rest f none
part_some bytes EmptyWitness rest f none = transaction_bytes.some bytes EmptyWitness rest f none

merged_met : (version : ℕ) (body : List ℕ) (e : Spot) → IsMerged version → merge_part_from body ≡ Err e → merged_from version body ≡ Err e
unfolding merged_from
merged_met version body e is h = rw (ne_eqb (bit_and version 0x100) 0 is, h) refl

header_met : (fields : PureHeader) (body : List ℕ) (e : Spot) → FitsPureHeader fields → merged_from fields.version body ≡ Err e → header_from (pure_header_text fields ++ body) ≡ Err e
unfolding header_from
header_met fields body e fits h = rw (fields_laws.again fields body fits, h) refl

pub header_bytes : ByTable HeaderByte header_from
header_bytes = record {
  told = header_told;
  met = λ bytes kind rest f.
      ap header_from f.text
      ∙ header_met f.fields f.body (kind, rest) f.fields_fit (merged_met f.fields.version f.body (kind, rest) f.merged (part_met f.body kind rest f.fault));
  own = λ bytes kind rest f. part_own f.body kind rest f.fault;
  some = λ bytes kind rest f none. part_some f.body kind rest f.fault none;
}
