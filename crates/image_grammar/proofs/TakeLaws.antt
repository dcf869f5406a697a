-- What is read of the values of an image was so written.
use Rattle.std.proofs.Common.{◌≡◌, ℕ, suc, ◌<◌, ◌≤◌, ◌^◌, Bool, true, false, cond, List, [], ◌∷◌, ◌++◌, length, take, length-append, refl, sym, ap, subst, ◌∙◌, append_assoc, arith}
use Rattle.std.specs.Prelude.{Option, Ok, Err, ◌==◌, nat_le}
use Rattle.std.specs.Int.{w32, to_le_bytes}
use Rattle.std.proofs.lemmas.Bool.{eqb-true}
use Rattle.std.proofs.Math.Seq.{take-append_seam}
use Rattle.block_grammar.specs.Combinators.{◌>>=◌, then_from, map_from}
use Rattle.block_grammar.proofs.Readers.{IsBytes, Took}
use Rattle.block_grammar.proofs.ReaderLaws.{ok_is, bind_ok, pair_text, PairFits}
use Rattle.nmc_base.specs.declared.chain_ends.Profile.{Profile}
use Rattle.nmc_base.specs.declared.hashes.OutPoint.{OutPoint}
use Rattle.chain_names.specs.declared.coin.Coin.{Coin}
use Rattle.chain_names.specs.declared.coin.Coin.TheVariants.{New, Named}
use Rattle.chain_names.specs.declared.coin.HeldCoin.{HeldCoin}
use Rattle.chain_names.specs.Writable.{IsWritableNew, IsWritableNamed}
use Rattle.undo_records.specs.declared.fault.FaultKind.{FaultKind}
use Rattle.undo_records.specs.declared.fault.FaultKind.TheVariants.{BadTag, Unsorted}
use Rattle.undo_records.specs.declared.version.Version.{Version}
use Rattle.undo_records.specs.Reading.{Reads, piece_from, byte_from, checked_from, new_coin_from, named_coin_from, is_after, later_point_from}
use Rattle.undo_records.specs.Text.{point_text, coin_text, held_text}
use Rattle.undo_records.proofs.Laws.{Part, Core}
use Rattle.undo_records.proofs.FieldLaws.{part32, core32, piece_part, piece_core, name_part, name_core, point_part, point_core}
use Rattle.undo_records.proofs.PartLaws.{new_coin_core, named_coin_core}
use Rattle.image_grammar.specs.Image.{IsWritableCoin, IsWritableEntry}
use Rattle.image_grammar.specs.Reading.{Head, first_other, same_or_fault, exactly_from, head_of, coin_from, entry_of_pair, entry_from, comes_after}
use Rattle.image_grammar.specs.Resuming.{Answer}
use Rattle.image_grammar.specs.Text.{magic, version_byte, version_of, is_version, profile_byte, profile_of, is_profile, head_text}

-- what is read is the text of a value that fits
abbrev pub TakesText : {A : Type 0} → (A → List ℕ) → (A → Type 0) → Reads A → Type 0
TakesText {A = A} text Fits read = (bytes : List ℕ) (x : A × List ℕ) → IsBytes bytes → read bytes ≡ Ok x → Took text Fits bytes x

pub record Value (A : Type 0) : Type 1 where
  pub text : A → List ℕ
  pub Fits : A → Type 0
  pub read : Reads A
  pub takes : TakesText text Fits read

-- ---- values of values

abbrev pub core_value : {A : Type 0} (p : Part A) → Core p → Value A
core_value p core = record { text = p.text; Fits = p.Fits; read = p.read; takes = core.takes }

module _ {A B : Type 0} (p : Value A) (q : A → Value B) where
  pub pair_takes : TakesText (pair_text p.text (λ x. (q x).text)) (PairFits p.Fits (λ x. (q x).Fits)) (then_from p.read (λ x. (q x).read))
  pair_takes bytes z are e =
      let a = bind_ok (p.read bytes) (λ (x : A × List ℕ). (q x.0).read x.1 >>= λ (y : B × List ℕ). Ok ((x.0, y.0), y.1)) z e in
      let b = bind_ok ((q a.0.0).read a.0.1) (λ (y : B × List ℕ). Ok ((a.0.0, y.0), y.1)) z a.2 in
      let t1 = p.takes bytes a.0 are a.1 in
      let t2 = (q a.0.0).takes a.0.1 b.0 t1.rest_bytes b.1 in
      let made : (A × B) × List ℕ = ((a.0.0, b.0.0), b.0.1) in
      subst (λ (y : (A × B) × List ℕ). Took (pair_text p.text (λ x. (q x).text)) (PairFits p.Fits (λ x. (q x).Fits)) bytes y) (ok_is made z b.2)
      (record {
        parts = t1.parts ∙ ap (λ (t : List ℕ). p.text a.0.0 ++ t) t2.parts ∙ sym (append_assoc (p.text a.0.0) ((q a.0.0).text b.0.0) b.0.1);
        fits = (t1.fits, t2.fits);
        rest_bytes = t2.rest_bytes;
      })

  abbrev pub pair_value : Value (A × B)
  pair_value = record { text = pair_text p.text (λ x. (q x).text); Fits = PairFits p.Fits (λ x. (q x).Fits); read = then_from p.read (λ x. (q x).read); takes = pair_takes }

module _ {A B : Type 0} (f : A → B) (p : Value A) (text : B → List ℕ) (Fits : B → Type 0) (spelled : (x : A) → p.Fits x → text (f x) ≡ p.text x) (fitted : (x : A) → p.Fits x → Fits (f x)) where
  pub seen_takes : TakesText text Fits (map_from f p.read)
  seen_takes bytes z are e =
      let a = bind_ok (p.read bytes) (λ (x : A × List ℕ). Ok (f x.0, x.1)) z e in
      let t = p.takes bytes a.0 are a.1 in
      let made : B × List ℕ = (f a.0.0, a.0.1) in
      subst (λ (y : B × List ℕ). Took text Fits bytes y) (ok_is made z a.2)
      (record { parts = t.parts ∙ ap (λ (l : List ℕ). l ++ a.0.1) (sym (spelled a.0.0 t.fits)); fits = fitted a.0.0 t.fits; rest_bytes = t.rest_bytes })

  abbrev pub seen_value : Value B
  seen_value = record { text = text; Fits = Fits; read = map_from f p.read; takes = seen_takes }

module _ {A : Type 0} (kind : FaultKind) (test : A → Bool) (p : Value A) where
  abbrev pub Passes : A → Type 0
  Passes x = p.Fits x × (test x ≡ true)

  pub checked_takes : TakesText p.text Passes (checked_from kind test p.read)
  checked_takes bytes z are e =
      let a = bind_ok (p.read bytes) (λ (x : A × List ℕ). cond (test x.0) (Ok x) (Err (kind, bytes))) z e in
      let t = p.takes bytes a.0 are a.1 in
      by a.0 t (test a.0.0) refl a.2
    where
      by : (x : A × List ℕ) → Took p.text p.Fits bytes x → (b : Bool) → test x.0 ≡ b → cond {A = Answer A} b (Ok x) (Err (kind, bytes)) ≡ Ok z → Took p.text Passes bytes z
      by x t true is e' = subst (λ (y : A × List ℕ). Took p.text Passes bytes y) (ok_is x z e') (record { parts = t.parts; fits = (t.fits, is); rest_bytes = t.rest_bytes })
      by x t false is e' = absurd cc

  abbrev pub checked_value : Value A
  checked_value = record { text = p.text; Fits = Passes; read = checked_from kind test p.read; takes = checked_takes }

-- ---- the head

pub byte_takes : TakesText (λ n. n ∷ []) (λ n. n < 256) byte_from
byte_takes [] x are e = absurd cc
byte_takes (b ∷ bytes) x are e = subst (λ (y : ℕ × List ℕ). Took (λ n. n ∷ []) (λ n. n < 256) (b ∷ bytes) y) (ok_is (b, bytes) x e) (record { parts = refl; fits = are 0; rest_bytes = λ i. are (suc i) })

abbrev byte_value : Value ℕ
byte_value = record { text = λ n. n ∷ []; Fits = λ n. n < 256; read = byte_from; takes = byte_takes }

-- bytes as long as those wanted, of which none differs
none_other : (want bytes : List ℕ) → length want ≤ length bytes → first_other want bytes ≡ [] → take (length want) bytes ≡ want
none_other [] bytes long e = refl
none_other (w ∷ want) [] long e = absurd (omega arith)
none_other (w ∷ want) (b ∷ bytes) long e = by (none_other want bytes (omega (arith, long))) (b == w) refl e
  where
    by : (first_other want bytes ≡ [] → take (length want) bytes ≡ want) → (t : Bool) → (b == w) ≡ t → cond t (first_other want bytes) (b ∷ bytes) ≡ [] → b ∷ take (length want) bytes ≡ w ∷ want
    by go true is e' = ap (λ (n : ℕ). n ∷ take (length want) bytes) (eqb-true b w is) ∙ ap (λ (l : List ℕ). w ∷ l) (go e')
    by go false is e' = absurd cc

pub exactly_takes : (want : List ℕ) → TakesText (λ bytes. bytes) (λ bytes. bytes ≡ want) (exactly_from want)
exactly_takes want bytes z are e =
    let a = bind_ok (piece_from (length want) bytes) (λ (x : List ℕ × List ℕ). same_or_fault x.0 x.1 (first_other want bytes)) z e in
    let t = (piece_core (length want)).takes bytes a.0 are a.1 in
    by a.0 t (first_other want bytes) refl a.2
  where
    by : (x : List ℕ × List ℕ) → Took (λ bytes. bytes) (λ b. length b ≡ length want) bytes x → (other : List ℕ) → first_other want bytes ≡ other → same_or_fault x.0 x.1 other ≡ Ok z
        → Took (λ bytes. bytes) (λ b. b ≡ want) bytes z
    by x t [] is e' =
        let long : length want ≤ length bytes = omega (arith, t.fits, ap length t.parts, length-append x.0 x.1) in
        let front : take (length want) bytes ≡ x.0 = ap (λ (n : ℕ). take n bytes) (sym t.fits) ∙ ap (take (length x.0)) t.parts ∙ take-append_seam x.0 x.1 in
        subst (λ (y : List ℕ × List ℕ). Took (λ bytes. bytes) (λ b. b ≡ want) bytes y) (ok_is x z e')
        (record { parts = t.parts; fits = sym front ∙ none_other want bytes long is; rest_bytes = t.rest_bytes })
    by x t (b ∷ other) is e' = absurd cc

abbrev magic_value : Value (List ℕ)
magic_value = record { text = λ bytes. bytes; Fits = λ bytes. bytes ≡ magic; read = exactly_from magic; takes = exactly_takes magic }

pub is_byte : (n m : ℕ) → (n == m) ≡ true → m ∷ [] ≡ n ∷ []
is_byte n m e = ap (λ (k : ℕ). k ∷ []) (sym (eqb-true n m e))

abbrev version_value : Value Version
version_value = seen_value version_of (checked_value BadTag is_version byte_value) (λ v. version_byte v ∷ []) (λ _. Unit {0}) (λ n fits. is_byte n (version_byte (version_of n)) fits.1) (λ n fits. tt)

abbrev profile_value : Value Profile
profile_value = seen_value profile_of (checked_value BadTag is_profile byte_value) (λ p. profile_byte p ∷ []) (λ _. Unit {0}) (λ n fits. is_byte n (profile_byte (profile_of n)) fits.1) (λ n fits. tt)

abbrev number_value : Value ℕ
number_value = core_value part32 core32

abbrev hash_value : Value (List ℕ)
hash_value = core_value (piece_part 32) (piece_core 32)

abbrev pub FitsHead : Head → Type 0
FitsHead h = (h.1.height < 2 ^ 32) × (length h.1.hash.0 ≡ 32)

abbrev head_value : Value Head
head_value = seen_value head_of
    (pair_value magic_value (λ _. pair_value version_value (λ _. pair_value profile_value (λ _. pair_value number_value (λ _. hash_value)))))
    (λ h. head_text h.0 h.1) FitsHead
    (λ x fits. ap (λ (m : List ℕ). m ++ (version_byte x.1.0 ∷ profile_byte x.1.1.0 ∷ (to_le_bytes w32 x.1.1.1.0 ++ x.1.1.1.1))) (sym fits.0))
    (λ x fits. (fits.1.1.1.0, fits.1.1.1.1))

abbrev pub opening_value : Value (Head × ℕ)
opening_value = pair_value head_value (λ _. number_value)

abbrev pub undo_head_value : Value (List ℕ × ℕ)
undo_head_value = pair_value hash_value (λ _. number_value)

-- ---- coins

new_is : (c : Coin) → IsWritableNew c → IsWritableCoin c
new_is (New hash height) fits = fits
new_is (Named name height) fits = absurd fits

named_is : (c : Coin) → IsWritableNamed c → IsWritableCoin c
named_is (New hash height) fits = absurd fits
named_is (Named name height) fits = fits

refit : {A : Type 0} {text : A → List ℕ} {F G : A → Type 0} {bytes : List ℕ} (x : A × List ℕ) → ((y : A) → F y → G y) → Took text F bytes x → Took text G bytes x
refit x to t = record { parts = t.parts; fits = to x.0 t.fits; rest_bytes = t.rest_bytes }

pub coin_takes : TakesText coin_text IsWritableCoin coin_from
coin_takes [] x are e = absurd cc
coin_takes (b ∷ bytes) x are e = by (b == 1) e
  where
    by : (t : Bool) → cond t (new_coin_from (b ∷ bytes)) (named_coin_from (b ∷ bytes)) ≡ Ok x → Took coin_text IsWritableCoin (b ∷ bytes) x
    by true e' = refit x new_is (new_coin_core.takes (b ∷ bytes) x are e')
    by false e' = refit x named_is (named_coin_core.takes (b ∷ bytes) x are e')

abbrev coin_value : Value Coin
coin_value = record { text = coin_text; Fits = IsWritableCoin; read = coin_from; takes = coin_takes }

abbrev FitsEntry : Option OutPoint → HeldCoin → Type 0
FitsEntry last held = IsWritableEntry held × (is_after last held.at ≡ true)

abbrev loose_entry : Option OutPoint → Value HeldCoin
loose_entry last = seen_value entry_of_pair (pair_value (checked_value Unsorted (is_after last) (core_value point_part point_core)) (λ _. coin_value))
    (λ held. point_text held.at ++ coin_text held.coin) (FitsEntry last) (λ x fits. refl) (λ x fits. (record { at = fits.0.0; coin = fits.1 }, fits.0.1))

pub entry_takes : (last : Option OutPoint) → TakesText held_text (FitsEntry last) (entry_from last)
unfolding held_text later_point_from
entry_takes last bytes x are e = (loose_entry last).takes bytes x are e

-- ---- names

abbrev pub history_head_value : Option (List ℕ) → Value (List ℕ × ℕ)
history_head_value last = pair_value (checked_value Unsorted (comes_after last) (core_value name_part name_core)) (λ _. checked_value BadTag (λ n. nat_le 1 n) number_value)
