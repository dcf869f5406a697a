-- A buffer gives the message at its front.
use Rattle.std.proofs.Common.{◌≡◌, ℕ, ◌+◌, ◌-◌, ◌≤◌, List, ◌++◌, length, take, drop, sym, ap, ◌∙◌, append_assoc, length-append, arith}
use Rattle.std.proofs.Math.Seq.{take-add}
use Rattle.std.specs.Int.{w16, to_be_bytes}
use Rattle.std.proofs.lemmas.List.{drop-drop, take_at, drop_at}
use Rattle.dns_tcp.specs.Messages.{message_text, IsPartialMessage, BeginsWithBytes}
use Rattle.dns_tcp.specs.Buffer.{Turns}
use Rattle.dns_tcp.proofs.MessageLemmas.{length-message_text}

pub turned : (bytes : List ℕ) (start count : ℕ) → BeginsWithBytes (drop start bytes) count
    → Turns (record { given = take start bytes; left = drop start bytes }) count (record { given = take (start + (2 + count)) bytes; left = drop (start + (2 + count)) bytes })
turned bytes start count w =
    let left = drop start bytes in
    let b = w.begins in
    let long : length (message_text w.message) ≡ 2 + count = omega (arith, w.count_is, length-message_text w.message) in
    let behind : drop (start + (2 + count)) bytes ≡ b.rest =
    sym (drop-drop (2 + count) start bytes) ∙ ap (drop (2 + count)) b.whole ∙ drop_at (message_text w.message) b.rest (2 + count) long in
    let front : take (2 + count) left ≡ message_text w.message =
    ap (take (2 + count)) b.whole ∙ take_at (message_text w.message) b.rest (2 + count) long in
    record {
      message = w.message;
      is_message = b.is_message;
      count_is = w.count_is;
      left = b.whole ∙ ap (λ (q : List ℕ). message_text w.message ++ q) (sym behind);
      given = take-add start (2 + count) bytes ∙ ap (λ (q : List ℕ). take start bytes ++ q) front;
    }

-- the message that was given last stands at the end
pub last_given : (given message : List ℕ) → drop (length (given ++ message_text message) - length message) (given ++ message_text message) ≡ message
last_given given message =
    let head = to_be_bytes w16 (length message) in
    let e : given ++ message_text message ≡ (given ++ head) ++ message = sym (append_assoc given head message) in
    let long : length (given ++ head) ≡ length (given ++ message_text message) - length message =
    omega (arith, ap length e, length-append (given ++ head) message) in
    ap (drop (length (given ++ message_text message) - length message)) e ∙ drop_at (given ++ head) message (length (given ++ message_text message) - length message) long

-- a part of a message is shorter than the longest
pub partial_is_short : (left : List ℕ) → IsPartialMessage left → length left ≤ 65536
partial_is_short left p = omega (arith, p.cut, p.is_message, ap length p.whole, length-append left p.missing, length-message_text p.message)
