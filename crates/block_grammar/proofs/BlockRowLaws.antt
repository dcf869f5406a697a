-- The table of faults of a block, and the reader on lists.
use Rattle.std.proofs.Common.{◌≡◌, ℕ, ◌+◌, ◌-◌, ◌<◌, ◌≤◌, Bool, eqb, List, [], ◌∷◌, ◌++◌, length, drop, refl, sym, ap, subst, ◌∙◌, append_assoc, arith, inl, inr}
use Rattle.std.specs.Prelude.{Result, Ok, Err}
use Rattle.std.specs.List.{flat_map, AllByRecursion}
use Rattle.std.proofs.lemmas.Bool.{cases_Bool, eqb-true}
use Rattle.std.proofs.lemmas.List.{drop_at, drop-drop, length-drop, length-append}
use Rattle.nmc_base.proofs.TruthLemmas.{chosen}
use Rattle.block_grammar.specs.declared.kinds.TxKind.{TxKind}
use Rattle.block_grammar.specs.declared.kinds.BlockKind.{BlockKind}
use Rattle.block_grammar.specs.declared.kinds.BlockKind.TheVariants.{Header as in_header, Count as in_count, NoTransaction, Transaction as in_transaction, Trailing}
use Rattle.block_grammar.specs.Kinds.{is_cut, is_cut_block}
use Rattle.block_grammar.specs.CompactSize.{compact_size}
use Rattle.block_grammar.specs.Transaction.{Transaction, transaction_text, FitsTransaction}
use Rattle.block_grammar.specs.Header.{Header, header_text, FitsHeader}
use Rattle.block_grammar.specs.Block.{Block, block_text}
use Rattle.block_grammar.specs.FaultRows.{SizeByte, TransactionByte, HeaderByte, IsTableFault}
use Rattle.block_grammar.specs.BlockRows.{IsBehind, FitsSize, HasCountFault, HasNoTransaction, HasTransactionFault, HasTrailing, BlockFaultRow}
use Rattle.block_grammar.specs.Combinators.{◌>>=◌, Reader, then_from, many_from, retold, within}
use Rattle.block_grammar.specs.Reading.{size_from, transaction_from, header_from, count_from, block_front_from, block_from}
use Rattle.block_grammar.proofs.Readers.{IsBytes, IsBytes-drop}
use Rattle.block_grammar.proofs.ReaderLaws.{Reads, err_is, ok_err, bind_err, made_err}
use Rattle.block_grammar.proofs.FieldLaws.{size_laws}
use Rattle.block_grammar.proofs.BodyLaws.{transaction_laws}
use Rattle.block_grammar.proofs.HeaderLaws.{header_laws}
use Rattle.block_grammar.proofs.BlockLaws.{BlockSpot, count_laws, headed, headed_laws, carried, carried_laws, block_front_laws, ended_err}
use Rattle.block_grammar.proofs.PlaceLaws.{is_place}
use Rattle.block_grammar.proofs.RowLaws.{fault_at, fault_met}
use Rattle.block_grammar.proofs.ManyRowLaws.{many_stopped, many_met}
use Rattle.block_grammar.proofs.SizeRowLaws.{Spot}
use Rattle.block_grammar.proofs.FaultRowLaws.{size_bytes, transaction_bytes}
use Rattle.block_grammar.proofs.HeaderRowLaws.{header_bytes}

-- ---- from the reader to the table

-- what a part's fault is in its own kinds
record Within {K L : Type 0} (kind_of : K → L) (e : L × List ℕ) (A : Type 0) (r : Result (A × List ℕ) (K × List ℕ)) : Type 0 where
  spot : K × List ℕ
  stopped : r ≡ Err spot
  told : (kind_of spot.0, spot.1) ≡ e

within_err : {K L A : Type 0} (kind_of : K → L) (r : Result (A × List ℕ) (K × List ℕ)) (e : L × List ℕ) → retold kind_of r ≡ Err e → Within kind_of e A r
within_err kind_of (Ok x) e h = absurd cc
within_err kind_of (Err w) e h = record { spot = w; stopped = refl; told = err_is (kind_of w.0, w.1) e h }

-- the row at the place where reading stops
abbrev RowAt : List ℕ → BlockSpot → Type 0
RowAt bytes e = BlockFaultRow e.0 bytes (length bytes - length e.1)

behind_at : (front body bytes rest : List ℕ) (Fault : List ℕ → ℕ → Type 0) → bytes ≡ front ++ body → length rest ≤ length body → Fault body (length body - length rest)
    → IsBehind front Fault bytes (length bytes - length rest)
behind_at front body bytes rest Fault e le fault = record {
  body = body;
  text = e;
  inside = length body - length rest;
  fault = fault;
  place_is = omega (arith, ap length e, length-append front body, le);
}

no_longer : {K A : Type 0} (is_cut : K → Bool) (text : A → List ℕ) (Fits : A → Type 0) (read : Reader K A) → Reads is_cut text Fits read → (bytes : List ℕ) (e : K × List ℕ) → IsBytes bytes → read bytes ≡ Err e
    → length e.1 ≤ length bytes
no_longer is_cut text Fits read r bytes e fits h =
    let s = r.stops bytes e fits h in
    omega (arith, ap length s.parts, length-append s.front e.1)

size_told : (bytes body : List ℕ) (header : Header) (e : BlockSpot) → FitsHeader header → bytes ≡ header_text header ++ body → IsBytes body → within in_count size_from body ≡ Err e → RowAt bytes e
size_told bytes body header e header_fits text fits h =
    let w = within_err in_count (size_from body) e h in
    subst (RowAt bytes) w.told
    (record {
      header = header;
      header_fits = header_fits;
      behind = behind_at (header_text header) body bytes w.spot.1 (λ body inside. IsTableFault compact_size FitsSize SizeByte body w.spot.0 inside) text
          (no_longer is_cut compact_size FitsSize size_from size_laws body w.spot fits w.stopped) (fault_at compact_size FitsSize SizeByte size_from size_laws size_bytes body w.spot fits w.stopped);
    })

count_told : (bytes body : List ℕ) (header : Header) (e : BlockSpot) → FitsHeader header → bytes ≡ header_text header ++ body → IsBytes body → count_from body ≡ Err e → RowAt bytes e
unfolding count_from
count_told bytes [] header e header_fits text fits h = size_told bytes [] header e header_fits text fits h
count_told bytes (first ∷ rest) header e header_fits text fits h =
    elim (chosen {A = Result (ℕ × List ℕ) BlockSpot} (eqb first 0) (Err (NoTransaction, first ∷ rest)) (within in_count size_from (first ∷ rest)) (Err e) h) [
      | inl w ↦
          let spot : BlockSpot = (NoTransaction, first ∷ rest) in
          subst (RowAt bytes) (err_is spot e w.1)
          (record {
            header = header;
            header_fits = header_fits;
            more = rest;
            text = text ∙ ap (λ (b : ℕ). header_text header ++ (b ∷ rest)) (eqb-true first 0 w.0);
            place_is = omega (arith, ap length text, length-append (header_text header) (first ∷ rest));
          })
      | inr w ↦ size_told bytes (first ∷ rest) header e header_fits text fits w.1
    ]

many_told : (bytes body : List ℕ) (header : Header) (count : ℕ) (e : BlockSpot) → FitsHeader header → FitsSize count → bytes ≡ header_text header ++ (compact_size count ++ body) → IsBytes body
    → many_from carried count body ≡ Err e → RowAt bytes e
many_told bytes body header count e header_fits count_fits text fits h =
    let m = many_stopped is_cut_block transaction_text FitsTransaction carried carried_laws count body e fits h in
    let w = within_err in_transaction (transaction_from m.body) e m.stopped in
    let front = header_text header ++ (compact_size count ++ flat_map transaction_text m.before) in
    let whole : bytes ≡ front ++ m.body =
    text ∙ ap (λ (q : List ℕ). header_text header ++ (compact_size count ++ q)) m.parts
    ∙ ap (λ (q : List ℕ). header_text header ++ q) (sym (append_assoc (compact_size count) (flat_map transaction_text m.before) m.body))
    ∙ sym (append_assoc (header_text header) (compact_size count ++ flat_map transaction_text m.before) m.body) in
    subst (RowAt bytes) w.told
    (record {
      header = header;
      header_fits = header_fits;
      count = count;
      count_fits = count_fits;
      before = m.before;
      before_fit = m.fit;
      fewer = m.fewer;
      behind = behind_at front m.body bytes w.spot.1 (λ body inside. IsTableFault transaction_text FitsTransaction TransactionByte body w.spot.0 inside) whole
          (no_longer is_cut transaction_text FitsTransaction transaction_from transaction_laws m.body w.spot m.body_bytes w.stopped)
          (fault_at transaction_text FitsTransaction TransactionByte transaction_from transaction_laws transaction_bytes m.body w.spot m.body_bytes w.stopped);
    })

abbrev Parts : Type 0
Parts = Header × (ℕ × List Transaction)

front_told : (bytes : List ℕ) (e : BlockSpot) → IsBytes bytes → block_front_from bytes ≡ Err e → RowAt bytes e
unfolding block_front_from
front_told bytes e fits h =
    let inner = made_err (then_from headed (λ _. then_from count_from (many_from carried)) bytes) (λ (x : Parts × List ℕ). (record { header = x.0.0; transactions = x.0.1.1 }, x.1)) e h in
    elim (bind_err (headed bytes) (λ (x : Header × List ℕ). then_from count_from (many_from carried) x.1 >>= λ (y : (ℕ × List Transaction) × List ℕ). Ok ((x.0, y.0), y.1)) e inner) [
      | inl stopped ↦
          let w = within_err in_header (header_from bytes) e stopped in
          subst (RowAt bytes) w.told (fault_at header_text FitsHeader HeaderByte header_from header_laws header_bytes bytes w.spot fits w.stopped)
      | inr x ↦
          let t = headed_laws.takes bytes x.0 fits x.1 in
          let behind = made_err (then_from count_from (many_from carried) x.0.1) (λ (y : (ℕ × List Transaction) × List ℕ). ((x.0.0, y.0), y.1)) e x.2 in
          elim (bind_err (count_from x.0.1) (λ (y : ℕ × List ℕ). many_from carried y.0 y.1 >>= λ (z : List Transaction × List ℕ). Ok ((y.0, z.0), z.1)) e behind) [
            | inl stopped ↦ count_told bytes x.0.1 x.0.0 e t.fits t.parts t.rest_bytes stopped
            | inr y ↦
                let u = count_laws.takes x.0.1 y.0 t.rest_bytes y.1 in
                many_told bytes y.0.1 x.0.0 y.0.0 e t.fits u.fits.1 (t.parts ∙ ap (λ (q : List ℕ). header_text x.0.0 ++ q) u.parts) u.rest_bytes
                (made_err (many_from carried y.0.0 y.0.1) (λ (z : List Transaction × List ℕ). ((y.0.0, z.0), z.1)) e y.2)
          ]
    ]

trailing_told : (bytes : List ℕ) (b : Block) (byte : ℕ) (rest : List ℕ) → IsBytes bytes → block_front_from bytes ≡ Ok (b, byte ∷ rest) → HasTrailing bytes (length bytes - length (byte ∷ rest))
trailing_told bytes b byte rest fits e =
    let t = block_front_laws.takes bytes (b, byte ∷ rest) fits e in
    record { block = b; fits = t.fits; byte = byte; more = rest; text = t.parts; place_is = (is_place bytes (block_text b) (byte ∷ rest) t.parts).place }

row_at : (bytes : List ℕ) (e : BlockSpot) → IsBytes bytes → block_from bytes ≡ Err e → RowAt bytes e
unfolding block_from
row_at bytes e fits h =
    elim (ended_err (block_front_from bytes) e h) [
      | inl w ↦ front_told bytes e fits w
      | inr t ↦ subst (RowAt bytes) t.4 (trailing_told bytes t.0 t.1 t.2 fits t.3)
    ]

pub block_told : (bytes : List ℕ) (kind : BlockKind) (place : ℕ) → IsBytes bytes → place ≤ length bytes → block_from bytes ≡ Err (kind, drop place bytes) → BlockFaultRow kind bytes place
block_told bytes kind place fits le h =
    let count : length bytes - length (drop place bytes) ≡ place = omega (arith, length-drop place bytes, le) in
    subst (BlockFaultRow kind bytes) count (row_at bytes (kind, drop place bytes) fits h)

-- ---- from the table to the reader

-- what a reader of the part says, seen from the bytes' front
record IsMet (bytes : List ℕ) (kind : BlockKind) (place : ℕ) : Type 0 where
  stopped : block_from bytes ≡ Err (kind, drop place bytes)
  inside : place ≤ length bytes

left_behind : (front body : List ℕ) (inside : ℕ) → drop (length front + inside) (front ++ body) ≡ drop inside body
left_behind front body inside = sym (drop-drop inside (length front) (front ++ body)) ∙ ap (drop inside) (drop_at front body (length front) refl)

met_behind : (front body bytes : List ℕ) (kind : BlockKind) (inside place : ℕ) → bytes ≡ front ++ body → place ≡ length front + inside → inside ≤ length body
    → block_from (front ++ body) ≡ Err (kind, drop inside body) → IsMet bytes kind place
met_behind front body bytes kind inside place e is le h = record {
  stopped = ap block_from e ∙ h ∙ ap (λ (r : List ℕ). Err (kind, r)) (sym (ap (drop place) e ∙ ap (λ (p : ℕ). drop p (front ++ body)) is ∙ left_behind front body inside));
  inside = omega (arith, is, le, ap length e, length-append front body);
}

stopped_front : (bytes : List ℕ) (e : BlockSpot) → block_front_from bytes ≡ Err e → block_from bytes ≡ Err e
unfolding block_from
stopped_front bytes e h = rw h refl

header_stopped : (bytes : List ℕ) (kind : TxKind) (rest : List ℕ) → header_from bytes ≡ Err (kind, rest) → block_front_from bytes ≡ Err (in_header kind, rest)
unfolding block_front_from
header_stopped bytes kind rest h = rw h refl

count_stopped : (header : Header) (body : List ℕ) (e : BlockSpot) → FitsHeader header → count_from body ≡ Err e → block_from (header_text header ++ body) ≡ Err e
unfolding block_front_from
count_stopped header body e fits h = stopped_front (header_text header ++ body) e (rw (header_laws.again header body fits, h) refl)

zero_is_size : (first : ℕ) (more : List ℕ) (e : Spot) → first ≡ 0 → size_from (first ∷ more) ≡ Err e → ⊥
unfolding size_from
zero_is_size first more e z h = ok_err (size_from (0 ∷ more)) (0, more) e refl (ap (λ (b : ℕ). size_from (b ∷ more)) (sym z) ∙ h)

size_met : (body : List ℕ) (kind : TxKind) (rest : List ℕ) → size_from body ≡ Err (kind, rest) → count_from body ≡ Err (in_count kind, rest)
unfolding count_from
size_met [] kind rest h = rw h refl
size_met (first ∷ more) kind rest h =
    elim (cases_Bool (eqb first 0)) [
      | inl zero_it ↦ absurd (zero_is_size first more (kind, rest) (eqb-true first 0 zero_it) h)
      | inr other ↦ rw (other, h) refl
    ]

many_stopped_at : (header : Header) (count : ℕ) (before : List Transaction) (body : List ℕ) (kind : TxKind) (rest : List ℕ) → FitsHeader header → FitsSize count → length before < count
    → AllByRecursion FitsTransaction before → transaction_from body ≡ Err (kind, rest)
    → block_from (header_text header ++ (compact_size count ++ (flat_map transaction_text before ++ body))) ≡ Err (in_transaction kind, rest)
unfolding block_front_from
many_stopped_at header count before body kind rest header_fits count_fits fewer fit h =
    let told : carried body ≡ Err (in_transaction kind, rest) = rw h refl in
    let behind = flat_map transaction_text before ++ body in
    stopped_front (header_text header ++ (compact_size count ++ behind)) (in_transaction kind, rest)
    (rw (
      header_laws.again header (compact_size count ++ behind) header_fits,
      count_laws.again count behind (omega (arith, fewer), count_fits),
      many_met is_cut_block transaction_text FitsTransaction carried carried_laws count before body (in_transaction kind, rest) fewer fit told,
    ) refl)

bytes_behind : (front body bytes : List ℕ) → IsBytes bytes → bytes ≡ front ++ body → IsBytes body
bytes_behind front body bytes fits e = subst IsBytes (ap (drop (length front)) e ∙ drop_at front body (length front) refl) (IsBytes-drop (length front) bytes fits)

count_met : (bytes : List ℕ) (kind : TxKind) (place : ℕ) → IsBytes bytes → HasCountFault bytes kind place → IsMet bytes (in_count kind) place
count_met bytes kind place fits f =
    let b = f.behind in
    let front = header_text f.header in
    let m = fault_met compact_size FitsSize SizeByte size_from size_laws size_bytes b.body kind b.inside (bytes_behind front b.body bytes fits b.text) b.fault in
    met_behind front b.body bytes (in_count kind) b.inside place b.text b.place_is m.1
    (count_stopped f.header b.body (in_count kind, drop b.inside b.body) f.header_fits (size_met b.body kind (drop b.inside b.body) m.0))

none_met : (bytes : List ℕ) (place : ℕ) → HasNoTransaction bytes place → IsMet bytes NoTransaction place
unfolding count_from
none_met bytes place f =
    met_behind (header_text f.header) (0 ∷ f.more) bytes NoTransaction 0 place f.text (omega (arith, f.place_is)) (omega arith)
    (count_stopped f.header (0 ∷ f.more) (NoTransaction, 0 ∷ f.more) f.header_fits refl)

transaction_met : (bytes : List ℕ) (kind : TxKind) (place : ℕ) → IsBytes bytes → HasTransactionFault bytes kind place → IsMet bytes (in_transaction kind) place
transaction_met bytes kind place fits f =
    let b = f.behind in
    let texts = flat_map transaction_text f.before in
    let front = header_text f.header ++ (compact_size f.count ++ texts) in
    let m = fault_met transaction_text FitsTransaction TransactionByte transaction_from transaction_laws transaction_bytes b.body kind b.inside (bytes_behind front b.body bytes fits b.text) b.fault in
    let apart : front ++ b.body ≡ header_text f.header ++ (compact_size f.count ++ (texts ++ b.body)) =
    append_assoc (header_text f.header) (compact_size f.count ++ texts) b.body ∙ ap (λ (q : List ℕ). header_text f.header ++ q) (append_assoc (compact_size f.count) texts b.body) in
    met_behind front b.body bytes (in_transaction kind) b.inside place b.text b.place_is m.1
    (ap block_from apart ∙ many_stopped_at f.header f.count f.before b.body kind (drop b.inside b.body) f.header_fits f.count_fits f.fewer f.before_fit m.0)

trailing_met : (bytes : List ℕ) (place : ℕ) → HasTrailing bytes place → IsMet bytes Trailing place
unfolding block_from
trailing_met bytes place f =
    let read = block_front_laws.again f.block (f.byte ∷ f.more) f.fits in
    met_behind (block_text f.block) (f.byte ∷ f.more) bytes Trailing 0 place f.text (omega (arith, f.place_is)) (omega arith) (rw read refl)

header_met : (bytes : List ℕ) (kind : TxKind) (place : ℕ) → IsBytes bytes → IsTableFault header_text FitsHeader HeaderByte bytes kind place → IsMet bytes (in_header kind) place
header_met bytes kind place fits f =
    let m = fault_met header_text FitsHeader HeaderByte header_from header_laws header_bytes bytes kind place fits f in
    record { stopped = stopped_front bytes (in_header kind, drop place bytes) (header_stopped bytes kind (drop place bytes) m.0); inside = m.1 }

row_met : (bytes : List ℕ) (kind : BlockKind) (place : ℕ) → IsBytes bytes → BlockFaultRow kind bytes place → IsMet bytes kind place
row_met bytes (in_header kind) place fits f = header_met bytes kind place fits f
row_met bytes (in_count kind) place fits f = count_met bytes kind place fits f
row_met bytes NoTransaction place fits f = none_met bytes place f
row_met bytes (in_transaction kind) place fits f = transaction_met bytes kind place fits f
row_met bytes Trailing place fits f = trailing_met bytes place f

pub block_met : (bytes : List ℕ) (kind : BlockKind) (place : ℕ) → IsBytes bytes → BlockFaultRow kind bytes place → (block_from bytes ≡ Err (kind, drop place bytes)) × (place ≤ length bytes)
block_met bytes kind place fits f = let m = row_met bytes kind place fits f in (m.stopped, m.inside)
