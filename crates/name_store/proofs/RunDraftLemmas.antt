-- The run state of a save in slices: while it goes on, and behind it.
use Rattle.std.proofs.Common.{◌≡◌, ℕ, ◌+◌, ◌-◌, ◌<◌, ◌≤◌, List, [], ◌∷◌, ◌++◌, length, refl, sym, ◌∙◌, ap, subst, arith, append_assoc}
use Rattle.undo_records.specs.declared.version.Version.TheVariants.{Two}
use Rattle.chain_state.specs.Chain.{Indexed}
use Rattle.chain_state.specs.Standing.{AreValid}
use Rattle.chain_commands.specs.Chain.{Chain}
use Rattle.chain_commands.specs.Event.{Command}
use Rattle.chain_commands.specs.RunState.{RunState, after_commands, on_base, saved_chain, chain_of, area_of, grown_by, record_length, accepted, longest_area}
use Rattle.chain_commands.specs.Saving.{IsTextOf, of_chain, saved_before, longest_image, most_selections}
use Rattle.chain_commands.proofs.SavingLemmas.{after_both, chain_of_all}
use Rattle.image_slots.specs.Slotted.{Slotted, with_one_more}
use Rattle.image_files.specs.SavingIndex.{IsTextOfIndex}
use Rattle.index_commands.specs.Standing as chains
use Rattle.index_commands.specs.Allowed.{AreAllowed}
use Rattle.index_commands.proofs.LeadLemmas.{allowed_of_parts, parts_allowed}
use Rattle.name_store.specs.Drafting.{IsDraftFor}
use Rattle.name_store.specs.Host.{IsHostOf}
use Rattle.name_store.specs.Stands.{IsRunState}
use Rattle.name_store.specs.Stored.{Stored, StandsFor}
use Rattle.name_store.proofs.TextLemmas.{text_of}

-- ---- while it goes on

-- all commands of the run state are older than a save that is begun
pub for_begun : (store : Stored) (run : RunState) (image : List ℕ) → StandsFor store run → IsTextOfIndex store.index image → IsDraftFor run [] run.since store.area image
for_begun store run image s is_text = record { parts = refl; from_is = s.area; index = store.index; stands = s.index; is_text = is_text }

-- a command that is accepted is one of the newer ones
pub for_stays : (run : RunState) (newer older : List Command) (from : ℕ) (image : List ℕ) (command : Command) → IsDraftFor run newer older from image
    → IsDraftFor (accepted run command) (command ∷ newer) older from image
for_stays run newer older from image command is =
    record { parts = ap (λ (l : List Command). command ∷ l) is.parts; from_is = is.from_is; index = is.index; stands = is.stands; is_text = is.is_text }

-- ---- lengths

grown_parts : (newer older : List Command) (area : ℕ) → grown_by (newer ++ older) area ≡ grown_by newer (grown_by older area)
grown_parts [] older area = refl
grown_parts (command ∷ newer) older area = ap (λ (n : ℕ). record_length command + n) (grown_parts newer older area)

pub grown_sum : (commands : List Command) (a b : ℕ) → grown_by commands a + b ≡ grown_by commands b + a
grown_sum [] a b = omega arith
grown_sum (command ∷ commands) a b = omega (arith, grown_sum commands a b)

pub grown_least : (commands : List Command) (area : ℕ) → area ≤ grown_by commands area
grown_least [] area = omega arith
grown_least (command ∷ commands) area = omega (arith, grown_least commands area)

-- ---- behind it

module _ (store : Stored) (run : RunState) (s : StandsFor store run) (newer older : List Command) (from : ℕ) (image : List ℕ) (is : IsDraftFor run newer older from image) where
  abbrev behind : RunState
  behind = saved_before run newer older image

  -- the length of the store's area, and of its newer records behind another front
  pub area_parts : store.area ≡ grown_by newer from
  area_parts = s.area ∙ ap (λ (l : List Command). grown_by l (9 + length run.text)) is.parts ∙ grown_parts newer older (9 + length run.text) ∙ ap (grown_by newer) (sym is.from_is)

  pub from_low : from ≤ store.area
  from_low = omega (arith, area_parts, grown_least newer from)

  pub area_behind : area_of behind ≡ 9 + (length image + (store.area - from))
  area_behind = omega (arith, area_parts, grown_sum newer from (9 + length image), grown_least newer from)

  -- the saved chain is that of the older commands
  of_older : (P : Chain → Type 0) → P (after_commands (saved_chain run) older) → P (saved_chain behind)
  of_older P p = subst P (after_both (on_base run.base run.start) older run.saved) p

  pub chain_behind : chain_of run ≡ chain_of behind
  chain_behind =
      let first = on_base run.base run.start in
      chain_of_all run ∙ ap (λ (l : List Command). after_commands first (l ++ run.saved)) is.parts ∙ ap (after_commands first) (append_assoc newer older run.saved) ∙ sym (chain_of_all behind)

  pub allowed_parts : AreAllowed (saved_chain run) older × AreAllowed (after_commands (saved_chain run) older) newer
  allowed_parts = allowed_of_parts (saved_chain run) newer older (subst (AreAllowed (saved_chain run)) is.parts s.is_state.allowed)

  module _ (few : store.slots.count < most_selections) (short : length image ≤ longest_image) (within : 9 + (length image + (store.area - from)) ≤ longest_area) where
    pub state_behind : IsRunState behind
    state_behind =
        let chain = after_commands (saved_chain run) older in
        record {
          begun = s.is_state.begun;
          wide = s.is_state.wide;
          has_saved = record {
            text_is = of_chain Two (omega arith) (of_older (λ (c : Chain). IsTextOf Two c image) (text_of is.index chain is.stands image is.is_text));
            short = short;
            few = omega (arith, few, s.selections);
          };
          valid = of_older (λ (c : Chain). AreValid c.base c.start c.blocks) is.stands.valid;
          allowed_before = parts_allowed (on_base run.base run.start) older run.saved s.is_state.allowed_before allowed_parts.0;
          allowed = of_older (λ (c : Chain). AreAllowed c newer) allowed_parts.1;
          fits = omega (arith, area_behind, within);
        }

    -- the store behind the save
    pub stands_behind : (new : Stored) → new.index ≡ store.index → new.host ≡ store.host → new.slots ≡ with_one_more store.slots → new.area ≡ 9 + (length image + (store.area - from)) → StandsFor new behind
    stands_behind new index host slots area = record {
      index = subst (λ (i : Indexed). chains.StandsFor i (chain_of behind)) (sym index) (subst (chains.StandsFor store.index) chain_behind s.index);
      host = subst (IsHostOf run.host) (sym host) s.host;
      selections = ap (λ (s : Slotted). s.count) slots ∙ ap (λ (n : ℕ). n + 1) s.selections;
      area = area ∙ sym area_behind;
      is_state = state_behind;
    }
