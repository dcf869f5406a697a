-- Bytes are whole messages and a rest, in one way.
use Rattle.std.proofs.Common.{◌≡◌, ℕ, ◌+◌, ◌<◌, ◌^◌, List, [], ◌∷◌, ◌++◌, length, take, drop, refl, sym, ap, ◌∙◌, append_assoc, length-append, arith}
use Rattle.std.specs.List.{AllByRecursion}
use Rattle.std.specs.Int.{w16, to_be_bytes, from_be_bytes}
use Rattle.std.proofs.lemmas.Nat.{from_be_bytes-to_be_bytes_2}
use Rattle.std.proofs.lemmas.List.{flat_map_more, append-nil, take_at, drop_at}
use Rattle.std.proofs.lemmas.List.Concat.{flat_map-append}
use Rattle.nmc_base.proofs.ListLemmas.{all-append, all-more}
use Rattle.dns_tcp.specs.Messages.{IsMessage, message_text, messages_text, Messages, IsPartialMessage, BeginsWith}

pub length-message_text : (message : List ℕ) → length (message_text message) ≡ 2 + length message
length-message_text message = omega (arith, length-append (to_be_bytes w16 (length message)) message)

-- ---- two lists that are each a front and a rest

record SameParts {A : Type 0} (a x b y : List A) : Type 0 where
  front : a ≡ b
  rest : x ≡ y

same_parts : {A : Type 0} (a x b y : List A) → length a ≡ length b → a ++ x ≡ b ++ y → SameParts a x b y
same_parts a x b y len e = record {
  front = sym (take_at a x (length b) len) ∙ ap (take (length b)) e ∙ take_at b y (length b) refl;
  rest = sym (drop_at a x (length b) len) ∙ ap (drop (length b)) e ∙ drop_at b y (length b) refl;
}

same_number : (m n : ℕ) → m < 2 ^ 16 → n < 2 ^ 16 → to_be_bytes w16 m ≡ to_be_bytes w16 n → m ≡ n
same_number m n fm fn e = sym (from_be_bytes-to_be_bytes_2 m fm) ∙ ap (from_be_bytes w16) e ∙ from_be_bytes-to_be_bytes_2 n fn

-- a message and what is behind it are told by the bytes
same_messages : (a x b y : List ℕ) → IsMessage a → IsMessage b → message_text a ++ x ≡ message_text b ++ y → SameParts a x b y
same_messages a x b y fa fb e =
    let apart : to_be_bytes w16 (length a) ++ (a ++ x) ≡ to_be_bytes w16 (length b) ++ (b ++ y) =
    sym (append_assoc (to_be_bytes w16 (length a)) a x) ∙ e ∙ append_assoc (to_be_bytes w16 (length b)) b y in
    let outer = same_parts (to_be_bytes w16 (length a)) (a ++ x) (to_be_bytes w16 (length b)) (b ++ y) refl apart in
    same_parts a x b y (same_number (length a) (length b) fa fb outer.front) outer.rest

-- what begins with a message is no part of one
pub whole_or_partial : (bytes message : List ℕ) → BeginsWith bytes message → IsPartialMessage bytes → ⊥
whole_or_partial bytes message b p =
    let e : message_text p.message ++ [] ≡ message_text message ++ (b.rest ++ p.missing) =
    append-nil (message_text p.message) ∙ p.whole ∙ ap (λ (q : List ℕ). q ++ p.missing) b.whole ∙ append_assoc (message_text message) b.rest p.missing in
    let same = same_messages p.message [] message (b.rest ++ p.missing) p.is_message b.is_message e in
    omega (arith, p.cut, ap length same.rest, length-append b.rest p.missing)

pub record SameSplitting (messages : List (List ℕ)) (rest : List ℕ) (others : List (List ℕ)) (left : List ℕ) : Type 0 where
  pub messages_are : messages ≡ others
  pub rest_is : rest ≡ left

same_splitting : (ms : List (List ℕ)) (r : List ℕ) (ns : List (List ℕ)) (s : List ℕ) → AllByRecursion IsMessage ms → IsPartialMessage r → AllByRecursion IsMessage ns → IsPartialMessage s
    → messages_text ms ++ r ≡ messages_text ns ++ s → SameSplitting ms r ns s
same_splitting [] r [] s ms-are r-is ns-are s-is e = record { messages_are = refl; rest_is = e }
same_splitting [] r (n ∷ ns) s ms-are r-is ns-are s-is e =
    absurd (whole_or_partial r n (record { rest = messages_text ns ++ s; is_message = ns-are.0; whole = e ∙ append_assoc (message_text n) (messages_text ns) s }) r-is)
same_splitting (m ∷ ms) r [] s ms-are r-is ns-are s-is e =
    absurd (whole_or_partial s m (record { rest = messages_text ms ++ r; is_message = ms-are.0; whole = sym e ∙ append_assoc (message_text m) (messages_text ms) r }) s-is)
same_splitting (m ∷ ms) r (n ∷ ns) s ms-are r-is ns-are s-is e =
    let first = same_messages m (messages_text ms ++ r) n (messages_text ns ++ s) ms-are.0 ns-are.0 (sym (append_assoc (message_text m) (messages_text ms) r) ∙ e ∙ append_assoc (message_text n) (messages_text ns) s) in
    let others = same_splitting ms r ns s ms-are.1 r-is ns-are.1 s-is first.rest in
    record { messages_are = cc (first.front, others.messages_are); rest_is = others.rest_is }

pub one_splitting : (bytes : List ℕ) (messages others : List (List ℕ)) (rest left : List ℕ) → Messages bytes messages rest → IsPartialMessage rest → Messages bytes others left → IsPartialMessage left
    → SameSplitting messages rest others left
one_splitting bytes messages others rest left s r-is t l-is =
    same_splitting messages rest others left s.are_messages r-is t.are_messages l-is (sym s.whole ∙ t.whole)

-- ---- bytes that grow, and a rest that loses its first message

pub fed : (bytes : List ℕ) (messages : List (List ℕ)) (left piece : List ℕ) → Messages bytes messages left → Messages (bytes ++ piece) messages (left ++ piece)
fed bytes messages left piece s = record {
  whole = ap (λ (q : List ℕ). q ++ piece) s.whole ∙ append_assoc (messages_text messages) left piece;
  are_messages = s.are_messages;
}

pub gave : (bytes : List ℕ) (messages : List (List ℕ)) (message left : List ℕ) → Messages bytes messages (message_text message ++ left) → IsMessage message → Messages bytes (messages ++ message ∷ []) left
gave bytes messages message left s fits = record {
  whole = s.whole ∙ sym (append_assoc (messages_text messages) (message_text message) left) ∙ ap (λ (q : List ℕ). q ++ left) (flat_map_more message_text [] messages message);
  are_messages = all-more IsMessage messages message s.are_messages fits;
}

pub joined : (bytes : List ℕ) (messages others : List (List ℕ)) (left piece rest : List ℕ) → Messages bytes messages left → Messages (left ++ piece) others rest
    → Messages (bytes ++ piece) (messages ++ others) rest
joined bytes messages others left piece rest s t = record {
  whole = (fed bytes messages left piece s).whole ∙ ap (λ (q : List ℕ). messages_text messages ++ q) t.whole ∙ sym (append_assoc (messages_text messages) (messages_text others) rest)
      ∙ ap (λ (q : List ℕ). q ++ rest) (sym (flat_map-append message_text messages others));
  are_messages = all-append IsMessage messages others s.are_messages t.are_messages;
}
