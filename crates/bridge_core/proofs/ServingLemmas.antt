-- What an index serves is what the chain serves that it stands for.
use Rattle.std.proofs.Common.{◌≡◌, ◌+◌, List, ℕ, length, Option, ap, subst, ◌∙◌}
use Rattle.nmc_base.specs.declared.chain_ends.Base.{Base}
use Rattle.chain_names.specs.Log.{Log}
use Rattle.chain_names.specs.Coins.{Maps}
use Rattle.chain_names.specs.Index.{served_value}
use Rattle.chain_names.specs.Tables.{names_in}
use Rattle.chain_state.specs.Chain.{Indexed}
use Rattle.chain_state.specs.Standing.{StandsForChain, chain_maps}
use Rattle.dns_message.specs.declared.transport.Transport.{Transport}
use Rattle.kept_answers.specs.Answering.{Answering, AnswersMessage, zone_at}
use Rattle.bridge_core.specs.Serving.{served_by, served_on, AnswersBy, AnswersOn}

module _ (base : Base) (start : Log) (blocks : List (List ℕ)) (c : Indexed) (s : StandsForChain base start blocks c) where
  same_served : served_by c ≡ served_on base start blocks
  same_served =
      ap (λ (b : Base). served_value b.profile (names_in c.tables.names) c.tip.height) s.base_is
      ∙ ap (λ (m : Maps). served_value base.profile m.names c.tip.height) s.maps
      ∙ ap (served_value base.profile (chain_maps base start blocks).names) s.height

  pub answers_on : (host : List ℕ) (transport : Transport) (bytes : List ℕ) (old : Answering) (reply : Option (List ℕ)) (new : Answering)
      → AnswersBy c host transport bytes old reply new → AnswersOn base start blocks host transport bytes old reply new
  answers_on host transport bytes old reply new by =
      subst (λ live. AnswersMessage live (zone_at host (base.height + length blocks)) transport bytes old reply new) same_served
      (subst (λ height. AnswersMessage (served_by c) (zone_at host height) transport bytes old reply new) s.height by)
