use Rattle.std.proofs.Common.{List, ℕ, Bor, ap, sym, ◌∙◌}
use Rattle.std.proofs.lemmas.List.{length-map}
use Rattle.name_tables.specs.declared.tables.Tables.{Tables}
use Rattle.name_report.specs.Order.{bytes_of}
use Rattle.name_report.proofs.ReportLemmas.{are_names}
use Rattle.name_report.proofs.counting.count_names.Goals as goal

pub returns : goal.returns
returns c =
    let names = bytes_of c.in_ok-names.names.keys in
    record {
      names = names;
      are = are_names c.args.chain.now c.parts.result.now.names names (ap (λ (t : Tables). t.names) c.parts.ensures.parts.tables) c.parts.ensures.filled.names c.in_ok-names.ensures;
      all = c.len.ensures.len ∙ sym (length-map c.in_ok-names.names.keys (λ (n : Bor (List ℕ)). n.now));
      served = c.count_served-served.ensures;
    }
