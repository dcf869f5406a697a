-- Bytes begin with a whole message or are less than one, which their first two tell.
use Rattle.std.proofs.Common.{◌≡◌, ◌⊎◌, inl, inr, ℕ, zero, suc, ◌+◌, ◌-◌, ◌<◌, ◌≤◌, ◌^◌, true, false, List, [], ◌∷◌, ◌++◌, length, get_or, take, drop, refl, sym, ap, subst, ◌∙◌, append_assoc, length-append, arith}
use Rattle.std.specs.Int.{w16, to_be_bytes, from_be_bytes}
use Rattle.std.proofs.Math.ListN.{replicate}
use Rattle.std.proofs.Math.Dec.{leb}
use Rattle.std.proofs.lemmas.Bool.Decides.{leb_tells}
use Rattle.std.proofs.lemmas.Nat.{be_bytes_2}
use Rattle.std.proofs.lemmas.List.{take-append-drop, length-take, length-replicate, get_or-drop, drop_at}
use Rattle.dns_tcp.specs.Messages.{message_text, messages_text, IsPartialMessage, BeginsWith, BeginsWithBytes, AreBytes, HasSplitting}
use Rattle.dns_tcp.proofs.MessageLemmas.{length-message_text}

two_fit : (h l : ℕ) → h < 256 → l < 256 → (i : ℕ) → get_or (h ∷ l ∷ []) i 0 < 256
two_fit h l fh fl zero = fh
two_fit h l fh fl (suc zero) = fl
two_fit h l fh fl (suc (suc i)) = omega arith

two_bytes : (h l n : ℕ) → h < 256 → l < 256 → n ≡ from_be_bytes w16 (h ∷ l ∷ []) → to_be_bytes w16 n ≡ h ∷ l ∷ []
two_bytes h l n fh fl e = be_bytes_2 (h ∷ l ∷ []) n refl (two_fit h l fh fl) e

two_bytes_fit : (h l : ℕ) → h < 256 → l < 256 → from_be_bytes w16 (h ∷ l ∷ []) < 2 ^ 16
two_bytes_fit h l fh fl = omega arith

-- at least two bytes, which tell a length
pub record TellsLength (bytes : List ℕ) (n : ℕ) : Type 0 where
  pub long : 2 ≤ length bytes
  pub fits : AreBytes bytes
  pub length_is : n ≡ from_be_bytes w16 (get_or bytes 0 0 ∷ get_or bytes 1 0 ∷ [])

is_length : (bytes : List ℕ) (n : ℕ) → TellsLength bytes n → n < 2 ^ 16
is_length bytes n t = omega (arith, t.length_is, two_bytes_fit (get_or bytes 0 0) (get_or bytes 1 0) (t.fits 0) (t.fits 1))

parted : (bytes : List ℕ) (n : ℕ) → TellsLength bytes n → bytes ≡ to_be_bytes w16 n ++ drop 2 bytes
parted [] n t = absurd (omega (arith, t.long))
parted (h ∷ []) n t = absurd (omega (arith, t.long))
parted (h ∷ l ∷ rest) n t = ap (λ (q : List ℕ). q ++ rest) (sym (two_bytes h l n (t.fits 0) (t.fits 1) t.length_is))

-- so many bytes stand behind them
pub whole_front : (bytes : List ℕ) (n : ℕ) → TellsLength bytes n → n ≤ length (drop 2 bytes) → BeginsWithBytes bytes n
whole_front bytes n t enough =
    let behind = drop 2 bytes in
    let message : List ℕ = take n behind in
    let long : length message ≡ n = omega (arith, length-take n behind) in
    record {
      message = message;
      count_is = sym long;
      begins = record {
        rest = drop n behind;
        is_message = omega (arith, long, is_length bytes n t);
        whole = parted bytes n t ∙ ap (λ (q : List ℕ). to_be_bytes w16 n ++ q) (sym (take-append-drop n behind)) ∙ sym (append_assoc (to_be_bytes w16 n) message (drop n behind))
            ∙ ap (λ (k : ℕ). (to_be_bytes w16 k ++ message) ++ drop n behind) (sym long);
      };
    }

-- fewer stand behind them
pub cut_front : (bytes : List ℕ) (n : ℕ) → TellsLength bytes n → length (drop 2 bytes) < n → IsPartialMessage bytes
cut_front bytes n t cut =
    let behind = drop 2 bytes in
    let missing : List ℕ = replicate (n - length behind) 0 in
    let many : length missing ≡ n - length behind = length-replicate (n - length behind) 0 in
    let long : length (behind ++ missing) ≡ n = omega (arith, many, length-append behind missing) in
    record {
      message = behind ++ missing;
      missing = missing;
      is_message = omega (arith, long, is_length bytes n t);
      whole = ap (λ (k : ℕ). to_be_bytes w16 k ++ (behind ++ missing)) long ∙ sym (append_assoc (to_be_bytes w16 n) behind missing) ∙ ap (λ (q : List ℕ). q ++ missing) (sym (parted bytes n t));
      cut = omega (arith, many);
    }

-- no two bytes are there
pub short_front : (bytes : List ℕ) → length bytes < 2 → AreBytes bytes → IsPartialMessage bytes
short_front [] short fits = record { message = []; missing = to_be_bytes w16 0; is_message = omega arith; whole = refl; cut = omega arith }
short_front (h ∷ []) short fits =
    let n = from_be_bytes w16 (h ∷ 0 ∷ []) in
    let message : List ℕ = replicate n 0 in
    let long : length message ≡ n = length-replicate n 0 in
    record {
      message = message;
      missing = 0 ∷ message;
      is_message = omega (arith, long, two_bytes_fit h 0 (fits 0) (omega arith));
      whole = ap (λ (q : List ℕ). q ++ message) (two_bytes h 0 (length message) (fits 0) (omega arith) long);
      cut = omega arith;
    }
short_front (h ∷ l ∷ rest) short fits = absurd (omega arith)

-- ---- any bytes are whole messages, and a part of one or nothing

data Front (bytes : List ℕ) : Type 0 where
  whole : (n : ℕ) → BeginsWithBytes bytes n → Front bytes
  partial : IsPartialMessage bytes → Front bytes

with_length : (bytes : List ℕ) (n : ℕ) → TellsLength bytes n
    → ((leb n (length (drop 2 bytes)) ≡ true) × (n ≤ length (drop 2 bytes))) ⊎ ((leb n (length (drop 2 bytes)) ≡ false) × (length (drop 2 bytes) < n)) → Front bytes
with_length bytes n t (inl h) = whole n (whole_front bytes n t h.1)
with_length bytes n t (inr h) = partial (cut_front bytes n t h.1)

front_of : (bytes : List ℕ) → AreBytes bytes → Front bytes
front_of [] fits = partial (short_front [] (omega arith) fits)
front_of (h ∷ []) fits = partial (short_front (h ∷ []) (omega arith) fits)
front_of (h ∷ l ∷ rest) fits =
    let n = from_be_bytes w16 (h ∷ l ∷ []) in
    with_length (h ∷ l ∷ rest) n (record { long = omega arith; fits = fits; length_is = refl }) (leb_tells n (length rest))

bytes_behind : (front rest : List ℕ) → AreBytes (front ++ rest) → AreBytes rest
bytes_behind front rest fits i =
    let e : drop (length front) (front ++ rest) ≡ rest = drop_at front rest (length front) refl in
    let h : get_or (drop (length front) (front ++ rest)) i 0 < 256 = rw (get_or-drop (length front) (front ++ rest) i 0) (fits (length front + i)) in
    subst (λ (xs : List ℕ). get_or xs i 0 < 256) e h

with_first : (bytes message : List ℕ) → (b : BeginsWith bytes message) → HasSplitting b.rest → HasSplitting bytes
with_first bytes message b s = record {
  messages = message ∷ s.messages;
  rest = s.rest;
  splits = record {
    whole = b.whole ∙ ap (λ (q : List ℕ). message_text message ++ q) s.splits.whole ∙ sym (append_assoc (message_text message) (messages_text s.messages) s.rest);
    are_messages = (b.is_message, s.splits.are_messages);
  };
  is_partial = s.is_partial;
}

split_on : (most : ℕ) (bytes : List ℕ) → length bytes ≤ suc most → AreBytes bytes → ((rest : List ℕ) → length rest ≤ most → AreBytes rest → HasSplitting rest) → Front bytes → HasSplitting bytes
split_on most bytes within fits on (partial p) = record { messages = []; rest = bytes; splits = record { whole = refl; are_messages = tt }; is_partial = p }
split_on most bytes within fits on (whole n w) =
    let b = w.begins in
    let shorter : length b.rest ≤ most = omega (arith, within, ap length b.whole, length-append (message_text w.message) b.rest, length-message_text w.message) in
    with_first bytes w.message b (on b.rest shorter (bytes_behind (message_text w.message) b.rest (subst AreBytes b.whole fits)))

split_within : (most : ℕ) (bytes : List ℕ) → length bytes ≤ most → AreBytes bytes → HasSplitting bytes
split_within zero bytes within fits =
    record { messages = []; rest = bytes; splits = record { whole = refl; are_messages = tt }; is_partial = short_front bytes (omega arith) fits }
split_within (suc most) bytes within fits = split_on most bytes within fits (split_within most) (front_of bytes fits)

pub has_splitting : (bytes : List ℕ) → AreBytes bytes → HasSplitting bytes
has_splitting bytes fits = split_within (length bytes) bytes (omega arith) fits
