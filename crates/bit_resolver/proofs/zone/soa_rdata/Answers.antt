use Rattle.std.proofs.Common.{◌≡◌, ℕ, List, [], ◌++◌, take, IfOk, subst, append_assoc, append-nil}
use Rattle.std.specs.Int.{w32, to_be_bytes}
use Rattle.bit_resolver.specs.Rdata.{soa_rdata, hostmaster}
use Rattle.bit_resolver.specs.declared.limits.TheConstants.{REFRESH, RETRY, EXPIRE, MINIMUM}
use Rattle.bit_resolver.proofs.zone.soa_rdata.Goals as goal

-- pieces that were written one behind the other
in_row : (host name a b c d e : List ℕ)
    → (((((((([] ++ host) ++ name) ++ host) ++ a) ++ b) ++ c) ++ d) ++ e) ≡ (((host ++ name) ++ host) ++ (a ++ (b ++ (c ++ (d ++ (e ++ []))))))
in_row host name a b c d e = simp (append_assoc, append-nil)

pub returns : goal.returns
returns c =
    let written : take c.put_number-end-5.result c.put_number-end-5.new.room ≡ soa_rdata c.args.host.now c.args.serial =
    rw (c.put_number-end-5.ensures.text, c.put_number-end-4.ensures.text, c.put_number-end-3.ensures.text, c.put_number-end-2.ensures.text, c.put_number-end.ensures.text, c.put-end-3.ensures.text, c.put-end-2.ensures.text, c.put-end.ensures.text)
    (in_row c.args.host.now hostmaster (to_be_bytes w32 c.args.serial) (to_be_bytes w32 REFRESH) (to_be_bytes w32 RETRY) (to_be_bytes w32 EXPIRE) (to_be_bytes w32 MINIMUM)) in
    subst (λ (text : List ℕ). IfOk c.copy_of.result (λ b. b ≡ text)) written c.copy_of.ensures
