-- Commands that are taken, and one that isn't.
use Rattle.std.proofs.Common.{◌≡◌, inl, inr, ℕ, ◌≤◌, List, ◌∷◌, length, sym, ◌∙◌, ap, subst, arith}
use Rattle.std.proofs.lemmas.Bool.{cases_lt}
use Rattle.gate_journal.specs.Gate.{IsOpen, IsClosed}
use Rattle.chain_state.specs.Chain.{Indexed, SameIndex}
use Rattle.chain_commands.specs.Event.{Command}
use Rattle.index_commands.specs.Records.{record_of}
use Rattle.index_commands.specs.Taking.{AreTaken}
use Rattle.index_commands.proofs.LeadLemmas.{lead_alike, led_taken}
use Rattle.index_commands.specs.Commands.{Origin, HasCommands, gate_behind}
use Rattle.index_commands.specs.Damage.{HasBadRecord}
use Rattle.index_commands.proofs.AreaLemmas.{StandOn, all, fewer, one_further, compared, older_read, read_next, open_at}

older_taken : (first : Indexed) (xs ys : List Command) → StandOn xs ys → AreTaken first ys → AreTaken first xs
older_taken first xs ys all are = are
older_taken first xs ys (fewer y below on) are = older_taken first xs below on are.0

module _ (first : Origin) (limit : ℕ) (file : List ℕ) where
  -- no record that the index refuses stands behind the older ones of commands that it takes
  older_all : (commands : List Command) → HasCommands first.front limit file commands → AreTaken first.index commands → (at : ℕ) → (bad : HasBadRecord first limit file at)
      → length bad.commands ≤ length commands → bad.commands ≡ commands
  older_all commands has are at bad low = elim (one_further bad.commands commands (compared first.front limit file bad.commands commands bad.read.has has low)) [
    | inl same ↦ same
    | inr next ↦ absurd (bad.no_next next.0 (record {
      stands = read_next first.front limit file bad.commands next.0 (older_read first.front limit file (next.0 ∷ bad.commands) commands next.1 has);
      taken = (older_taken first.index (next.0 ∷ bad.commands) commands next.1 are).1 bad.index bad.read.leads;
    }))
  ]

  -- so not behind commands that end at a closed gate
  pub ended_well : (commands : List Command) → HasCommands first.front limit file commands → AreTaken first.index commands → IsClosed file (gate_behind first.front commands) → (at : ℕ) → HasBadRecord first limit file at → ⊥
  ended_well commands has are closed at bad =
      let opens : IsOpen file (gate_behind first.front bad.commands) = subst (IsOpen file) bad.at_is bad.is_open in
      elim (cases_lt (length commands) (length bad.commands)) [
        | inl less ↦ elim (one_further commands bad.commands (compared first.front limit file commands bad.commands has bad.read.has (omega (arith, less)))) [
          | inl same ↦ closed (subst (λ (l : List Command). IsOpen file (gate_behind first.front l)) (sym same) opens)
          | inr next ↦ closed (open_at file (gate_behind first.front commands) limit (record_of next.0)
              (read_next first.front limit file commands next.0 (older_read first.front limit file (next.0 ∷ commands) bad.commands next.1 bad.read.has)))
        ]
        | inr more ↦ closed (subst (λ (l : List Command). IsOpen file (gate_behind first.front l)) (older_all commands has are at bad more) opens)
      ]

  -- and behind one list of commands alone
  pub one_record : (a b : ℕ) → HasBadRecord first limit file a → HasBadRecord first limit file b → a ≡ b
  one_record a b bad other =
      let taken = λ (at : ℕ) (is : HasBadRecord first limit file at). led_taken first.index is.index is.commands is.read.leads in
      let same : bad.commands ≡ other.commands = elim (cases_lt (length other.commands) (length bad.commands)) [
        | inl less ↦ sym (older_all bad.commands bad.read.has (taken a bad) b other (omega (arith, less)))
        | inr more ↦ older_all other.commands other.read.has (taken b other) a bad more
      ] in
      bad.at_is ∙ ap (gate_behind first.front) same ∙ sym other.at_is

-- the same index refuses the same record
pub bad_alike : (front : List ℕ) (a b : Indexed) → SameIndex a b → (limit : ℕ) (file : List ℕ) (at : ℕ) → HasBadRecord (record { front = front; index = a }) limit file at
    → HasBadRecord (record { front = front; index = b }) limit file at
bad_alike front a b same limit file at bad = record {
  commands = bad.commands;
  index = bad.index;
  read = record { has = bad.read.has; leads = lead_alike a b bad.index bad.commands same bad.read.leads };
  at_is = bad.at_is;
  is_open = bad.is_open;
  no_next = bad.no_next;
}
