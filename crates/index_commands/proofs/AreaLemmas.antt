-- The commands of an area, one more and one less.
use Rattle.std.proofs.Common.{◌≡◌, ◌⊎◌, inl, inr, ℕ, ◌+◌, ◌<◌, ◌≤◌, List, [], ◌∷◌, ◌++◌, length, take, get_or, sym, ◌∙◌, ap, subst, refl, arith, length-take, length-append}
use Rattle.std.specs.Prelude.{All}
use Rattle.std.specs.List.{AllByRecursion}
use Rattle.std.proofs.Math.Seq.{get_or-append_seam}
use Rattle.std.proofs.lemmas.List.{append-nil, take-take, take_at, get_or-take, get_or_at, get_or_append_left}
use Rattle.std.proofs.lemmas.Bool.{cases_lt}
use Rattle.gate_journal.specs.Gate.{IsRecordAt, IsOpen, IsClosed, record_text, behind_gate}
use Rattle.gate_journal.specs.Records.{Fits, HasRecords, HasRecordsTo}
use Rattle.gate_journal.proofs.RecordLemmas.{Begins, front-push, none_fit, pushed_fit, record_begun, record_unique}
use Rattle.gate_journal.proofs.GateLemmas.{none_to, next_to, all_to}
use Rattle.chain_commands.specs.Event.{Command, Connect, Disconnect}
use Rattle.chain_commands.specs.RunState.{grown_by, record_length}
use Rattle.index_commands.specs.Records.{record_of, records_of, HasSize}
use Rattle.index_commands.proofs.SizeLemmas.{record_told}
use Rattle.index_commands.specs.Commands.{area_text, gate_behind, HasCommands}

-- ---- sizes

-- one command more
pub area_text-push : (front : List ℕ) (commands : List Command) (command : Command) → area_text front (command ∷ commands) ≡ area_text front commands ++ record_text (record_of command)
area_text-push front commands command = front-push front (records_of commands) (record_of command)

grown : (front : List ℕ) (commands : List Command) (command : Command) → gate_behind front (command ∷ commands) ≡ gate_behind front commands + length (record_text (record_of command))
grown front commands command = ap length (area_text-push front commands command) ∙ length-append (area_text front commands) (record_text (record_of command))

pub record_size : (command : Command) → HasSize command → length (record_text (record_of command)) ≡ record_length command
record_size (Connect block) is = omega arith
record_size (Disconnect hash) is = omega (arith, is)

-- an append says its length so
pub kept_size : (command : Command) → HasSize command → 5 + length (record_of command) ≡ record_length command
kept_size (Connect block) is = omega arith
kept_size (Disconnect hash) is = omega (arith, is)

pub record_fits : (command : Command) → HasSize command → Fits (record_of command)
record_fits (Connect block) is = omega (arith, is)
record_fits (Disconnect hash) is = omega (arith, is)

pub records_fit : (commands : List Command) → AllByRecursion HasSize commands → All Fits (records_of commands)
records_fit [] are = none_fit
records_fit (command ∷ commands) are = pushed_fit (records_of commands) (record_of command) (records_fit commands are.1) (record_fits command are.0)

-- the length of the area is the place of the gate behind its records, and this gate
pub area_size : (front : List ℕ) (commands : List Command) → AllByRecursion HasSize commands → grown_by commands (length front + 1) ≡ gate_behind front commands + 1
area_size front [] are = omega (arith, length-append front [])
area_size front (command ∷ commands) are = omega (arith, area_size front commands are.1, record_size command are.0, grown front commands command)

-- ---- a file that has commands behind a front

-- a record stands behind an open gate
pub open_at : (area : List ℕ) (gate limit : ℕ) (record_is : List ℕ) → IsRecordAt area gate limit record_is → IsOpen area gate
open_at area gate limit record_is is =
    let low : gate < gate + length (record_text record_is) = omega arith in
    let size : gate ≡ length (take gate area) = omega (arith, length-take gate area, is.inside) in
    sym (get_or-take (gate + length (record_text record_is)) area gate 0 low) ∙ ap (λ (l : List ℕ). get_or l gate 0) is.reads ∙ get_or_at (take gate area) 1 (behind_gate record_is) 0 gate (sym size)

module _ (front : List ℕ) (limit : ℕ) (file : List ℕ) where
  -- where nothing was read yet
  pub none_read : take (length front) file ≡ front → length front < length file → length front < limit → HasCommands front limit file []
  none_read begins inside within = record {
    records = subst (λ (l : List ℕ). HasRecordsTo (length l) front [] file) (sym (append-nil front)) (none_to front file begins inside);
    within = subst (λ (l : List ℕ). length l < limit) (sym (append-nil front)) within;
  }

  pub read_more : (commands : List Command) (command : Command) → HasCommands front limit file commands → IsRecordAt file (gate_behind front commands) limit (record_of command)
      → HasCommands front limit file (command ∷ commands)
  read_more commands command has at =
      let size = grown front commands command in record {
        records = subst (λ (n : ℕ). HasRecordsTo n front (records_of (command ∷ commands)) file) (sym size) (next_to (gate_behind front commands) limit front (records_of commands) (record_of command) file has.records at);
        within = omega (arith, size, at.within);
      }

  -- with a closed gate behind them, they are all
  pub all_read : (commands : List Command) → HasCommands front limit file commands → IsClosed file (gate_behind front commands) → HasRecords front (records_of commands) file
  all_read commands has closed = all_to (gate_behind front commands) front (records_of commands) file has.records closed

  begun : (commands : List Command) → HasCommands front limit file commands → Begins (area_text front commands) file
  begun commands has = record { begins = has.records.begins; inside = has.records.inside }

  last_fits : (commands : List Command) (command : Command) → All Fits (records_of (command ∷ commands)) → All Fits (records_of commands) × Fits (record_of command)
  last_fits commands command fit =
      let records = records_of commands in
      let r = record_of command in
      let size = length-append records (r ∷ []) in (
        λ k d low. subst Fits (get_or_append_left records (r ∷ []) d k low) (fit k d (omega (arith, low, size))),
        subst Fits (get_or-append_seam records r [] r) (fit (length records) r (omega (arith, size))),
      )

  pub read_less : (commands : List Command) (command : Command) → HasCommands front limit file (command ∷ commands) → HasCommands front limit file commands
  read_less commands command has =
      let size = grown front commands command in
      let short : gate_behind front commands ≤ gate_behind front (command ∷ commands) = omega (arith, size) in
      record {
        records = record {
          begins = sym (take-take (gate_behind front commands) (gate_behind front (command ∷ commands)) file short)
              ∙ ap (take (gate_behind front commands)) (has.records.begins ∙ area_text-push front commands command)
              ∙ take_at (area_text front commands) (record_text (record_of command)) (gate_behind front commands) refl;
          inside = omega (arith, short, has.records.inside);
          fit = (last_fits commands command has.records.fit).0;
        };
        within = omega (arith, short, has.within);
      }

  pub read_next : (commands : List Command) (command : Command) → HasCommands front limit file (command ∷ commands) → IsRecordAt file (gate_behind front commands) limit (record_of command)
  read_next commands command has =
      let before = area_text front commands in
      let text = record_text (record_of command) in
      let whole : area_text front (command ∷ commands) ≡ before ++ (text ++ []) = area_text-push front commands command ∙ ap (λ (l : List ℕ). before ++ l) (sym (append-nil text)) in
      record_begun before (record_of command) [] file limit (subst (λ (l : List ℕ). Begins l file) whole (begun (command ∷ commands) has)) (last_fits commands command has.records.fit).1
      (subst (λ (l : List ℕ). length l < limit) whole has.within)

  -- as many commands are the same
  pub as_many : (xs ys : List Command) → HasCommands front limit file xs → HasCommands front limit file ys → length xs ≡ length ys → xs ≡ ys
  as_many [] [] a b e = refl
  as_many [] (y ∷ ys) a b e = absurd (omega (arith, e))
  as_many (x ∷ xs) [] a b e = absurd (omega (arith, e))
  as_many (x ∷ xs) (y ∷ ys) a b e =
      let same = as_many xs ys (read_less xs x a) (read_less ys y b) (omega (arith, e)) in
      let next = subst (λ (l : List Command). IsRecordAt file (gate_behind front l) limit (record_of y)) (sym same) (read_next ys y b) in
      λ i. record_told x y (record_unique file (record_of x) (record_of y) (gate_behind front xs) limit (read_next xs x a) next) i ∷ same i

-- ---- commands that others stand on

-- all of them, or all but the newest
pub data StandOn (xs : List Command) : List Command → Type 0 where
  all : StandOn xs xs
  fewer : (y : Command) (ys : List Command) → StandOn xs ys → StandOn xs (y ∷ ys)

-- all of them, or the next one stands on these too
pub one_further : (xs ys : List Command) → StandOn xs ys → (xs ≡ ys) ⊎ ((command : Command) × StandOn (command ∷ xs) ys)
one_further xs ys all = inl refl
one_further xs ys (fewer y below on) = elim (one_further xs below on) [
  | inl same ↦ inr (y, subst (λ (l : List Command). StandOn (y ∷ l) (y ∷ below)) (sym same) all)
  | inr next ↦ inr (next.0, fewer y below next.1)
]

module _ (front : List ℕ) (limit : ℕ) (file : List ℕ) where
  -- of two lists of commands that a file has, the shorter is the older part of the other
  pub compared : (xs ys : List Command) → HasCommands front limit file xs → HasCommands front limit file ys → length xs ≤ length ys → StandOn xs ys
  compared xs [] a b low = subst (StandOn xs) (as_many front limit file xs [] a b (omega (arith, low))) all
  compared xs (y ∷ ys) a b low = elim (cases_lt (length ys) (length xs)) [
    | inl more ↦ subst (StandOn xs) (as_many front limit file xs (y ∷ ys) a b (omega (arith, low, more))) all
    | inr less ↦ fewer y ys (compared xs ys a (read_less front limit file ys y b) less)
  ]

  pub older_read : (xs ys : List Command) → StandOn xs ys → HasCommands front limit file ys → HasCommands front limit file xs
  older_read xs ys all has = has
  older_read xs ys (fewer y below on) has = older_read xs below on (read_less front limit file below y has)
