-- The names of a report, and that the report of an index is that of the chain that it stands for.
use Rattle.std.proofs.Common.{◌≡◌, ℕ, ◌+◌, List, length, refl, sym, ap, subst, ◌∙◌}
use Rattle.std.specs.Prelude.{Result}
use Rattle.std.specs.Map.{keys_of}
use Rattle.std.specs.Option.{is_some}
use Rattle.byte_io.specs.Sink.{SinkSeen}
use Rattle.nmc_base.specs.declared.chain_ends.Base.{Base}
use Rattle.chain_names.specs.declared.coin.Item.{Item}
use Rattle.chain_names.specs.Coins.{Maps, entry_of}
use Rattle.chain_names.specs.Log.{Log}
use Rattle.chain_names.specs.Tables.{NameSlots, names_in, AreNamesFilled}
use Rattle.chain_state.specs.Chain.{Indexed}
use Rattle.name_tables.specs.Tables.{maps_by}
use Rattle.chain_state.specs.Standing.{hash_of, StandsForChain}
use Rattle.name_report.specs.Order.{has_name, Orders}
use Rattle.name_report.specs.Text.{Reported, report_text}
use Rattle.name_report.specs.Report.{AreNamesOf, IsReport, Reports, reported_by, reported_on}
use Rattle.name_report.specs.declared.reporting.ReportFault.{ReportFault}
use Rattle.name_report.proofs.OrderLemmas.{has_name-keys, one_order}

-- there is one list at most of the names that have an entry, in order
pub one_list : (histories : List ℕ → List Item) (a b : List (List ℕ)) → AreNamesOf histories a → AreNamesOf histories b → a ≡ b
one_list histories a b first second = one_order a b first.ascending second.ascending (λ name. first.each name ∙ sym (second.each name))

-- the names of a table, of which each place is filled, in order
pub are_names : (c : Indexed) (slots : NameSlots) (names : List (List ℕ)) → slots ≡ c.tables.names → AreNamesFilled slots → Orders (keys_of slots) names
    → AreNamesOf (names_in c.tables.names) names
are_names c slots names same filled orders = record {
  ascending = orders.ascending;
  each = λ name. subst (λ (s : NameSlots). has_name names name ≡ is_some (entry_of (names_in s name))) same (orders.same name ∙ has_name-keys slots name ∙ filled name);
}

pub is_report : (c : Indexed) (slots : NameSlots) (names : List (List ℕ)) → slots ≡ c.tables.names → AreNamesFilled slots → Orders (keys_of slots) names
    → IsReport (reported_by c) (report_text (reported_by c) names)
is_report c slots names same filled orders = record { names = names; are = are_names c slots names same filled orders; is = refl }

-- ---- a chain that the index stands for

same_reported : (base : Base) (start : Log) (blocks : List (List ℕ)) (c : Indexed) → StandsForChain base start blocks c → reported_by c ≡ reported_on base start blocks
same_reported base start blocks c s =
    let said = λ (b : Base) (height : ℕ) (hash : List ℕ) (maps : Maps). let it : Reported = record { profile = b.profile; height = height; hash = hash; histories = maps.names } in it in
    ap (λ (b : Base). said b c.tip.height c.tip.hash.0 (maps_by c.tables)) s.base_is
    ∙ ap (λ (height : ℕ). said base height c.tip.hash.0 (maps_by c.tables)) s.height
    ∙ ap (λ (hash : List ℕ). said base (base.height + length blocks) hash (maps_by c.tables)) s.hash
    ∙ ap (said base (base.height + length blocks) (hash_of base blocks)) s.maps

pub reports_on : (base : Base) (start : Log) (blocks : List (List ℕ)) (c : Indexed) (old new : SinkSeen) (r : Result (Unit {0}) ReportFault) → StandsForChain base start blocks c
    → Reports (reported_by c) old new r → Reports (reported_on base start blocks) old new r
reports_on base start blocks c old new r s reports = subst (λ (what : Reported). Reports what old new r) (same_reported base start blocks c s) reports
