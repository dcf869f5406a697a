use Rattle.std.proofs.Common.{ap, ◌∙◌}
use Rattle.bit_resolver.specs.Answers.{matching, record_items}
use Rattle.bit_resolver.proofs.SimpleLemmas.{only_ip, only_ip6, only_txt, only_tls, only_sshfp}
use Rattle.bit_resolver.proofs.simple.plain_item.Goals as goal

pub returns-then-kind-eq-A : goal.returns-then-kind-eq-A
returns-then-kind-eq-A c n = ap (λ kind. matching n kind record_items) c.if-kind-eq-A.true ∙ only_ip n

pub returns-then-kind-eq-AAAA : goal.returns-then-kind-eq-AAAA
returns-then-kind-eq-AAAA c n = ap (λ kind. matching n kind record_items) c.if-kind-eq-AAAA.true ∙ only_ip6 n

pub returns-then-kind-eq-TXT : goal.returns-then-kind-eq-TXT
returns-then-kind-eq-TXT c n = ap (λ kind. matching n kind record_items) c.if-kind-eq-TXT.true ∙ only_txt n

pub returns-then-kind-eq-TLSA : goal.returns-then-kind-eq-TLSA
returns-then-kind-eq-TLSA c n = ap (λ kind. matching n kind record_items) c.if-kind-eq-TLSA.true ∙ only_tls n

pub returns-then-kind-eq-SSHFP : goal.returns-then-kind-eq-SSHFP
returns-then-kind-eq-SSHFP c n = ap (λ kind. matching n kind record_items) c.if-kind-eq-SSHFP.true ∙ only_sshfp n
