use Rattle.std.proofs.Common.{◌≡◌, ◌<◌, take}
use Rattle.domain_text.specs.Ipv6.{hex_value}
use Rattle.domain_text.proofs.ipv6.hex_value.Given as goal

abbrev pub invariant-loop-digit : goal.invariant-loop-digit
invariant-loop-digit l = record {
  value : l.value ≡ hex_value (take l.digit-index l.text);
  none : l.digit-index ≡ 0 → l.value < 1;
  one : l.digit-index ≡ 1 → l.value < 16;
  two : l.digit-index ≡ 2 → l.value < 256;
  three : l.digit-index ≡ 3 → l.value < 4096;
  all : l.value < 65536;
}
