-- The lines of words: what is read of one is so of no other command and of no other wrong word.
use Rattle.std.proofs.Common.{◌≡◌, ◌≢◌, ◌⊎◌, ℕ, zero, suc, ◌-◌, ◌<◌, ◌≤◌, ◌^◌, List, [], ◌∷◌, length, get_or, reverse, codes, Ok, Err, Result, Option, Some, None, IfOk, IfErr, IfSome, refl, sym, ap, subst, ◌∙◌, arith, inl, inr}
use Rattle.std.specs.Fmt.{decimal}
use Rattle.std.specs.Str.Parse.{AllDigits, digits_value}
use Rattle.std.proofs.lemmas.Fmt.{digits_value-decimal}
use Rattle.std.proofs.lemmas.Option.{none-some, same_Some}
use Rattle.std.proofs.lemmas.Str.Parse.{IsNumeralModel, numerals_by_value, tells_digits}
use Rattle.domain_text.proofs.HostLaws.{absolute_only}
use Rattle.domain_text.specs.Host.{absolute_name_of}
use Rattle.hex.specs.Hex.{decode_sized}
use Rattle.nmc_base.specs.Heights.{highest}
use Rattle.nmc_base.specs.declared.chain_ends.Base.{Base}
use Rattle.nmc_base.specs.declared.chain_ends.Profile.{Profile}
use Rattle.nmc_base.specs.declared.chain_ends.Profile.TheVariants.{Regtest, Main}
use Rattle.nmc_base.specs.declared.hashes.Hash32.{Hash32}
use Rattle.name_store.specs.Host.{IsHostOf}
use Rattle.bridge_commands.specs.Words.{IsNumber, IsHash, Asks, profile_word, start_word}
use Rattle.bridge_commands.specs.WrongWords.{AsksForHelp, IsFirstNot, IsNoCommand, IsOf, IsReadAs, IsWrong, missing, help, no_command, count, of_no_field, fields, form_word}
use Rattle.bridge_commands.specs.declared.words.Command.{Command}
use Rattle.bridge_commands.specs.declared.words.Command.TheVariants.{Replay, Listing, Dump, Init, Serve, SelfTest}
use Rattle.bridge_commands.specs.declared.words.Plan.{Plan}
use Rattle.bridge_commands.specs.declared.words.Start.{Start}
use Rattle.bridge_commands.specs.declared.words.Start.TheVariants.{Empty, Snapshot}
use Rattle.bridge_commands.specs.declared.words.Trial.{Trial}
use Rattle.bridge_commands.specs.declared.wrong.Field.{Field}
use Rattle.bridge_commands.specs.declared.wrong.Form.{Form}
use Rattle.bridge_commands.specs.declared.wrong.Form.TheVariants as form
use Rattle.bridge_commands.specs.declared.wrong.Wrong.{Wrong}
use Rattle.bridge_commands.specs.declared.wrong.Wrong.TheVariants as wrong
use Rattle.bridge_commands.specs.declared.wrong.WrongWord.{WrongWord}

-- ---- what was read of one word

module _ {T : Type 0} (P : List ℕ → T → Type 0) {slice word : List ℕ} {found : Option T} where
  -- the value of a word that was found
  pub holds_of : {x : T} → slice ≡ word → found ≡ Some x → IfSome found (P slice) → P word x
  holds_of {x} same e is = subst (λ (w : List ℕ). P w x) same (subst (λ (f : Option T). IfSome f (P slice)) e is)

  -- a word of which none was found has none
  pub none_of : slice ≡ word → found ≡ None → ((x : T) → P slice x → found ≡ Some x) → (x : T) × P word x → ⊥
  none_of same e one has = none-some has.0 (sym e ∙ one has.0 (subst (λ (w : List ℕ). P w has.0) (sym same) has.1))

-- ---- the items of a list by its length

module _ {A : Type 0} where
  pub items_1 : (xs : List A) (a : A) → length xs ≡ 1 → a ≡ get_or xs 0 a → xs ≡ a ∷ []
  items_1 (x ∷ []) a long at = ap (λ (y : A). y ∷ []) (sym at)
  items_1 xs a long at = absurd (omega (arith, long))

  pub items_2 : (xs : List A) (a b : A) → length xs ≡ 2 → a ≡ get_or xs 0 a → b ≡ get_or xs 1 b → xs ≡ a ∷ b ∷ []
  items_2 (x ∷ y ∷ []) a b long at at_b = ap (λ (z : A). z ∷ y ∷ []) (sym at) ∙ ap (λ (z : A). a ∷ z ∷ []) (sym at_b)
  items_2 xs a b long at at_b = absurd (omega (arith, long))

  pub items_3 : (xs : List A) (a b c : A) → length xs ≡ 3 → a ≡ get_or xs 0 a → b ≡ get_or xs 1 b → c ≡ get_or xs 2 c → xs ≡ a ∷ b ∷ c ∷ []
  items_3 (x ∷ xs) a b c long at at_b at_c = ap (λ (ys : List A). x ∷ ys) (items_2 xs b c (omega (arith, long)) at_b at_c) ∙ ap (λ (z : A). z ∷ b ∷ c ∷ []) (sym at)
  items_3 [] a b c long at at_b at_c = absurd (omega (arith, long))

  pub items_4 : (xs : List A) (a b c d : A) → length xs ≡ 4 → a ≡ get_or xs 0 a → b ≡ get_or xs 1 b → c ≡ get_or xs 2 c → d ≡ get_or xs 3 d → xs ≡ a ∷ b ∷ c ∷ d ∷ []
  items_4 (x ∷ xs) a b c d long at at_b at_c at_d = ap (λ (ys : List A). x ∷ ys) (items_3 xs b c d (omega (arith, long)) at_b at_c at_d) ∙ ap (λ (z : A). z ∷ b ∷ c ∷ d ∷ []) (sym at)
  items_4 [] a b c d long at at_b at_c at_d = absurd (omega (arith, long))

-- ---- a word is that of one form at most

same_form : (a b : Form) → form_word a ≡ form_word b → a ≡ b
same_form form.Init form.Init e = refl
same_form form.InitFrom form.InitFrom e = refl
same_form form.Serve form.Serve e = refl
same_form form.Replay form.Replay e = refl
same_form form.Listing form.Listing e = refl
same_form form.Dump form.Dump e = refl
same_form form.SelfTest form.SelfTest e = refl
same_form a b e = absurd (omega (arith, ap length e, ap (λ (w : List ℕ). get_or w 0 0) e))

-- and begins with no hyphen
no_hyphen : (f : Form) → get_or (form_word f) 0 0 ≢ 45
no_hyphen form.Init e = omega (arith, e)
no_hyphen form.InitFrom e = omega (arith, e)
no_hyphen form.Serve e = omega (arith, e)
no_hyphen form.Replay e = omega (arith, e)
no_hyphen form.Listing e = omega (arith, e)
no_hyphen form.Dump e = omega (arith, e)
no_hyphen form.SelfTest e = omega (arith, e)

no_help : (f : Form) → AsksForHelp (form_word f) → ⊥
no_help f (inl e) = no_hyphen f (ap (λ (w : List ℕ). get_or w 0 0) e)
no_help f (inr e) = no_hyphen f (ap (λ (w : List ℕ). get_or w 0 0) e)

-- ---- two first wrong words are one

first_once : (fs : List Field) (words : List (List ℕ)) (a b : ℕ) (f g : Field) → IsFirstNot fs words a f → IsFirstNot fs words b g → (a ≡ b) × (f ≡ g)
first_once [] words a b f g x y = absurd x
first_once (h ∷ fs) [] a b f g x y = absurd x
first_once (h ∷ fs) (w ∷ words) zero zero f g x y = (refl, x.0 ∙ sym y.0)
first_once (h ∷ fs) (w ∷ words) zero (suc b) f g x y = absurd (x.1 y.0)
first_once (h ∷ fs) (w ∷ words) (suc a) zero f g x y = absurd (y.1 x.0)
first_once (h ∷ fs) (w ∷ words) (suc a) (suc b) f g x y = let r = first_once fs words a b f g x.1 y.1 in (ap suc r.0, r.1)

none_missing : {words rest : List (List ℕ)} {word : List ℕ} {P : Type 0} → words ≡ [] → words ≡ word ∷ rest → P
none_missing e cons = absurd (omega (arith, ap length (sym e ∙ cons)))

heads : {words a b : List (List ℕ)} {u v : List ℕ} → words ≡ u ∷ a → words ≡ v ∷ b → u ≡ v
heads {u = u} x y = ap (λ (w : List (List ℕ)). get_or w 0 u) (sym x ∙ y)

abbrev tail_of : List (List ℕ) → List (List ℕ)
tail_of [] = []
tail_of (w ∷ words) = words

rests : {words a b : List (List ℕ)} {u v : List ℕ} → words ≡ u ∷ a → words ≡ v ∷ b → a ≡ b
rests x y = ap tail_of (sym x ∙ y)

-- the form of the same words is one
one_form : {words a b : List (List ℕ)} (f g : Form) → words ≡ form_word f ∷ a → words ≡ form_word g ∷ b → f ≡ g
one_form f g x y = same_form f g (heads x y)

-- words of a form ask for no help, and are no other command's
form_no_help : {words a b : List (List ℕ)} {word : List ℕ} {P : Type 0} (f : Form) → words ≡ word ∷ a → AsksForHelp word → words ≡ form_word f ∷ b → P
form_no_help f x asks y = absurd (no_help f (subst AsksForHelp (heads x y) asks))

form_no_command : {words a b : List (List ℕ)} {word : List ℕ} {P : Type 0} (f : Form) → words ≡ word ∷ a → IsNoCommand word → words ≡ form_word f ∷ b → P
form_no_command f x none y = absurd (none.no_form f (heads x y))

help_no_command : {words a b : List (List ℕ)} {u v : List ℕ} {P : Type 0} → words ≡ u ∷ a → AsksForHelp u → words ≡ v ∷ b → IsNoCommand v → P
help_no_command x asks y none = absurd (none.no_help (subst AsksForHelp (heads x y) asks))

-- there are as many words behind a form's as it has fields, or not
counted : {words a b : List (List ℕ)} {P : Type 0} (f g : Form) → words ≡ form_word f ∷ a → length a ≢ length (fields f) → words ≡ form_word g ∷ b → length b ≡ length (fields g) → P
counted f g x other y same =
    absurd (other (ap length (rests x y) ∙ same ∙ ap (λ (h : Form). length (fields h)) (sym (one_form f g x y))))

same_count : (f g : Form) → f ≡ g → ◌≡◌ {A = WrongWord} (record { place = 0; wrong = wrong.Count f }) (record { place = 0; wrong = wrong.Count g })
same_count f g e = let at : Form → WrongWord = λ h. record { place = 0; wrong = wrong.Count h } in ap at e

same_field : (m n : ℕ) (f g : Field) → (m ≡ n) × (f ≡ g) → ◌≡◌ {A = WrongWord} (record { place = suc m; wrong = wrong.Field f }) (record { place = suc n; wrong = wrong.Field g })
same_field m n f g e =
    let by_place : ℕ → WrongWord = λ k. record { place = suc k; wrong = wrong.Field f } in
    let by_field : Field → WrongWord = λ h. record { place = suc n; wrong = wrong.Field h } in
    ap by_place e.0 ∙ ap by_field e.1

fields_once : {words a b : List (List ℕ)} (f g : Form) (m n : ℕ) (s t : Field) → words ≡ form_word f ∷ a → IsFirstNot (fields f) a m s → words ≡ form_word g ∷ b → IsFirstNot (fields g) b n t → (m ≡ n) × (s ≡ t)
fields_once {a = a} {b = b} f g m n s t x first y other =
    let same : IsFirstNot (fields f) a n t = subst (λ (h : Form). IsFirstNot (fields h) a n t) (sym (one_form f g x y)) (subst (λ (r : List (List ℕ)). IsFirstNot (fields g) r n t) (sym (rests x y)) other) in
    first_once (fields f) a m n s t first same

wrong_once : (words : List (List ℕ)) (a b : WrongWord) → IsWrong words a → IsWrong words b → a ≡ b
wrong_once words a b (missing e x) (missing d y) = x ∙ sym y
wrong_once words a b (missing e x) (help w r d asks y) = none_missing e d
wrong_once words a b (missing e x) (no_command w r d none y) = none_missing e d
wrong_once words a b (missing e x) (count f r d other y) = none_missing e d
wrong_once words a b (missing e x) (of_no_field f r n s d long first y) = none_missing e d
wrong_once words a b (help w r e asks x) (missing d y) = none_missing d e
wrong_once words a b (help w r e asks x) (help v q d asked y) = x ∙ sym y
wrong_once words a b (help w r e asks x) (no_command v q d none y) = help_no_command e asks d none
wrong_once words a b (help w r e asks x) (count f q d other y) = form_no_help f e asks d
wrong_once words a b (help w r e asks x) (of_no_field f q n s d long first y) = form_no_help f e asks d
wrong_once words a b (no_command w r e none x) (missing d y) = none_missing d e
wrong_once words a b (no_command w r e none x) (help v q d asks y) = help_no_command d asks e none
wrong_once words a b (no_command w r e none x) (no_command v q d nothing y) = x ∙ sym y
wrong_once words a b (no_command w r e none x) (count f q d other y) = form_no_command f e none d
wrong_once words a b (no_command w r e none x) (of_no_field f q n s d long first y) = form_no_command f e none d
wrong_once words a b (count f r e other x) (missing d y) = none_missing d e
wrong_once words a b (count f r e other x) (help w q d asks y) = form_no_help f d asks e
wrong_once words a b (count f r e other x) (no_command w q d none y) = form_no_command f d none e
wrong_once words a b (count f r e other x) (count g q d others y) = x ∙ same_count f g (one_form f g e d) ∙ sym y
wrong_once words a b (count f r e other x) (of_no_field g q n s d long first y) = counted f g e other d long
wrong_once words a b (of_no_field f r n s e long first x) (missing d y) = none_missing d e
wrong_once words a b (of_no_field f r n s e long first x) (help w q d asks y) = form_no_help f d asks e
wrong_once words a b (of_no_field f r n s e long first x) (no_command w q d none y) = form_no_command f d none e
wrong_once words a b (of_no_field f r n s e long first x) (count g q d other y) = counted g f d other e long
wrong_once words a b (of_no_field f r n s e long first x) (of_no_field g q m t d fits other y) = x ∙ same_field n m s t (fields_once f g n m s t e first d other) ∙ sym y

-- ---- words that ask for a command are of a form

-- each of the words is of its field
abbrev AreOf : List Field → List (List ℕ) → Type 0
AreOf [] [] = Unit {0}
AreOf [] (w ∷ words) = ⊥
AreOf (f ∷ fs) [] = ⊥
AreOf (f ∷ fs) (w ∷ words) = IsOf f w × AreOf fs words

record IsFormed (words : List (List ℕ)) : Type 0 where
  pub form : Form
  pub rest : List (List ℕ)
  pub words_are : words ≡ form_word form ∷ rest
  pub are : AreOf (fields form) rest

formed : (words : List (List ℕ)) (asked : Command) → Asks words asked → IsFormed words
formed words Replay is = record { form = form.Replay; rest = []; words_are = is; are = tt }
formed words Dump is = record { form = form.Dump; rest = []; words_are = is; are = tt }
formed words (Listing size) is = record { form = form.Listing; rest = is.text ∷ []; words_are = is.words_are; are = ((size, is.size_is), tt) }
formed words (Serve plan) is = record {
  form = form.Serve;
  rest = is.udp ∷ (is.feed ∷ (is.turns ∷ []));
  words_are = is.words_are;
  are = ((plan.udp, is.numbers.udp_is), ((plan.feed, is.numbers.feed_is), ((plan.turns, is.numbers.turns_are), tt)));
}
formed words (SelfTest trial) is = record {
  form = form.SelfTest;
  rest = is.blocks ∷ (is.seed ∷ []);
  words_are = is.words_are;
  are = ((trial.blocks, is.numbers.blocks_are), ((trial.seed, is.numbers.seed_is), tt));
}
formed words (Init Empty base name) is = record {
  form = form.Init;
  rest = is.profile ∷ (is.height ∷ (is.hash ∷ (is.host ∷ [])));
  words_are = is.words_are;
  are = ((base.profile, is.fields.profile_is), ((base.height, is.fields.height_is), ((base.hash, is.fields.hash_is), ((name, is.fields.host_is), tt))));
}
formed words (Init Snapshot base name) is = record {
  form = form.InitFrom;
  rest = is.profile ∷ (is.height ∷ (is.hash ∷ (is.host ∷ [])));
  words_are = is.words_are;
  are = ((base.profile, is.fields.profile_is), ((base.height, is.fields.height_is), ((base.hash, is.fields.hash_is), ((name, is.fields.host_is), tt))));
}

as_many : (fs : List Field) (words : List (List ℕ)) → AreOf fs words → length words ≡ length fs
as_many [] [] are = refl
as_many [] (w ∷ words) are = absurd are
as_many (f ∷ fs) [] are = absurd are
as_many (f ∷ fs) (w ∷ words) are = ap suc (as_many fs words are.1)

none_first : (fs : List Field) (words : List (List ℕ)) (n : ℕ) (f : Field) → AreOf fs words → IsFirstNot fs words n f → ⊥
none_first [] words n f are first = first
none_first (h ∷ fs) [] n f are first = first
none_first (h ∷ fs) (w ∷ words) zero f are first = first.1 are.0
none_first (h ∷ fs) (w ∷ words) (suc n) f are first = none_first fs words n f are.1 first.1

formed_none : (words : List (List ℕ)) (first : WrongWord) → IsFormed words → IsWrong words first → ⊥
formed_none words first is (missing e x) = none_missing e is.words_are
formed_none words first is (help w r e asks x) = form_no_help is.form e asks is.words_are
formed_none words first is (no_command w r e none x) = form_no_command is.form e none is.words_are
formed_none words first is (count f r e other x) = counted f is.form e other is.words_are (as_many (fields is.form) is.rest is.are)
formed_none words first is (of_no_field f r n s e long not x) =
    let here : AreOf (fields f) r = subst (λ (h : Form). AreOf (fields h) r) (one_form is.form f is.words_are e) (subst (AreOf (fields is.form)) (rests is.words_are e) is.are) in
    none_first (fields f) r n s here not

-- ---- words ask for one command

own : IsNumeralModel (AllDigits 10) (digits_value 10)
own = numerals_by_value (AllDigits 10) tells_digits

number_once : (least most : ℕ) → most < 2 ^ 64 → (text other : List ℕ) → text ≡ other → (a b : ℕ) → IsNumber least most text a → IsNumber least most other b → a ≡ b
number_once least most fits text other same a b x y =
    let below_a : a < 2 ^ 64 = omega (arith, x.no_more, fits) in
    let below_b : b < 2 ^ 64 = omega (arith, y.no_more, fits) in
    sym (digits_value-decimal own a below_a) ∙ ap (digits_value 10) (sym x.spelled ∙ same ∙ y.spelled) ∙ digits_value-decimal own b below_b

same_ok : {A E : Type 0} (a b : A) → ◌≡◌ {A = Result A E} (Ok a) (Ok b) → a ≡ b
same_ok a b e = grind arith

hash_once : (text other : List ℕ) → text ≡ other → (a b : List ℕ) → IsHash text a → IsHash other b → a ≡ b
hash_once text other same a b x y =
    x.hash_is ∙ ap reverse (same_ok x.bytes y.bytes (sym x.spelled ∙ ap (λ (t : List ℕ). decode_sized t 32) same ∙ y.spelled)) ∙ sym y.hash_is

host_once : (text other : List ℕ) → text ≡ other → (a b : List ℕ) → IsHostOf text a → IsHostOf other b → a ≡ b
host_once text other same a b x y =
    same_Some a b (sym (absolute_only text a x.absolute) ∙ ap absolute_name_of same ∙ absolute_only other b y.absolute)

profile_once : (a b : Profile) → profile_word a ≡ profile_word b → a ≡ b
profile_once Regtest Regtest e = refl
profile_once Main Main e = refl
profile_once a b e = absurd (omega (arith, ap length e))

start_once : (a b : Start) → start_word a ≡ start_word b → a ≡ b
start_once Empty Empty e = refl
start_once Snapshot Snapshot e = refl
start_once a b e = absurd (omega (arith, ap length e))

word_at : {words a b : List (List ℕ)} (i : ℕ) → words ≡ a → words ≡ b → get_or a i [] ≡ get_or b i []
word_at i x y = ap (λ (w : List (List ℕ)). get_or w i []) (sym x ∙ y)

same_init : (s t : Start) (a b : Base) (m n : List ℕ) → s ≡ t → a.profile ≡ b.profile → a.height ≡ b.height → a.hash.0 ≡ b.hash.0 → m ≡ n → Init s a m ≡ Init t b n
same_init s t a b m n start profile height hash name =
    let by_profile : Profile → Base = λ p. record { profile = p; height = a.height; hash = a.hash } in
    let by_height : ℕ → Base = λ h. record { profile = b.profile; height = h; hash = a.hash } in
    let by_hash : List ℕ → Base = λ h. record { profile = b.profile; height = b.height; hash = record { 0 = h } } in
    let base : a ≡ b = ap by_profile profile ∙ ap by_height height ∙ ap by_hash hash in
    ap (λ (x : Start). Init x a m) start ∙ ap (λ (x : Base). Init t x m) base ∙ ap (Init t b) name

same_serve : (a b : Plan) → a.udp ≡ b.udp → a.feed ≡ b.feed → a.turns ≡ b.turns → Serve a ≡ Serve b
same_serve a b udp feed turns =
    let by_udp : ℕ → Plan = λ n. record { udp = n; feed = a.feed; turns = a.turns } in
    let by_feed : ℕ → Plan = λ n. record { udp = b.udp; feed = n; turns = a.turns } in
    let by_turns : ℕ → Plan = λ n. record { udp = b.udp; feed = b.feed; turns = n } in
    ap Serve (ap by_udp udp ∙ ap by_feed feed ∙ ap by_turns turns)

same_test : (a b : Trial) → a.blocks ≡ b.blocks → a.seed ≡ b.seed → SelfTest a ≡ SelfTest b
same_test a b blocks seed =
    let by_blocks : ℕ → Trial = λ n. record { blocks = n; seed = a.seed } in
    let by_seed : ℕ → Trial = λ n. record { blocks = b.blocks; seed = n } in
    ap SelfTest (ap by_blocks blocks ∙ ap by_seed seed)

-- how many words ask for the command
abbrev size_of : Command → ℕ
size_of Replay = 1
size_of Dump = 1
size_of (Listing size) = 2
size_of (Init start base name) = 5
size_of (Serve plan) = 4
size_of (SelfTest trial) = 3

sized : (words : List (List ℕ)) (asked : Command) → Asks words asked → length words ≡ size_of asked
sized words Replay is = ap length is
sized words Dump is = ap length is
sized words (Listing size) is = ap length is.words_are
sized words (Init start base name) is = ap length is.words_are
sized words (Serve plan) is = ap length is.words_are
sized words (SelfTest trial) is = ap length is.words_are

pub asked_once : (words : List (List ℕ)) (a b : Command) → Asks words a → Asks words b → a ≡ b
asked_once words Replay Replay x y = refl
asked_once words Dump Dump x y = refl
asked_once words Replay Dump x y = absurd (omega (arith, ap length (word_at 0 x y)))
asked_once words Dump Replay x y = absurd (omega (arith, ap length (word_at 0 x y)))
asked_once words (Listing m) (Listing n) x y = ap Listing (number_once 1 50 (omega arith) x.text y.text (word_at 1 x.words_are y.words_are) m n x.size_is y.size_is)
asked_once words (Init s a m) (Init t b n) x y =
    same_init s t a b m n
    (start_once s t (word_at 0 x.words_are y.words_are))
    (profile_once a.profile b.profile (sym x.fields.profile_is ∙ word_at 1 x.words_are y.words_are ∙ y.fields.profile_is))
    (number_once 0 highest (omega arith) x.height y.height (word_at 2 x.words_are y.words_are) a.height b.height x.fields.height_is y.fields.height_is)
    (hash_once x.hash y.hash (word_at 3 x.words_are y.words_are) a.hash.0 b.hash.0 x.fields.hash_is y.fields.hash_is)
    (host_once x.host y.host (word_at 4 x.words_are y.words_are) m n x.fields.host_is y.fields.host_is)
asked_once words (Serve a) (Serve b) x y =
    same_serve a b
    (number_once 1 65535 (omega arith) x.udp y.udp (word_at 1 x.words_are y.words_are) a.udp b.udp x.numbers.udp_is y.numbers.udp_is)
    (number_once 1 65535 (omega arith) x.feed y.feed (word_at 2 x.words_are y.words_are) a.feed b.feed x.numbers.feed_is y.numbers.feed_is)
    (number_once 1 1000000000 (omega arith) x.turns y.turns (word_at 3 x.words_are y.words_are) a.turns b.turns x.numbers.turns_are y.numbers.turns_are)
asked_once words (SelfTest a) (SelfTest b) x y =
    same_test a b
    (number_once 1 10000 (omega arith) x.blocks y.blocks (word_at 1 x.words_are y.words_are) a.blocks b.blocks x.numbers.blocks_are y.numbers.blocks_are)
    (number_once 0 (2 ^ 64 - 1) (omega arith) x.seed y.seed (word_at 2 x.words_are y.words_are) a.seed b.seed x.numbers.seed_is y.numbers.seed_is)
asked_once words a b x y = absurd (omega (arith, sym (sized words a x) ∙ sized words b y))

-- ---- what words are read as is one

pub asked_read : (words : List (List ℕ)) (read : Result Command WrongWord) → IsReadAs words read → (asked : Command) → Asks words asked → read ≡ Ok asked
asked_read words (Ok found) is asked asks = ap Ok (asked_once words found asked is asks)
asked_read words (Err first) is asked asks = absurd (formed_none words first (formed words asked asks) is)

pub wrong_read : (words : List (List ℕ)) (read : Result Command WrongWord) → IsReadAs words read → (first : WrongWord) → IsWrong words first → read ≡ Err first
wrong_read words (Ok found) is first wrongs = absurd (formed_none words first (formed words found is) wrongs)
wrong_read words (Err other) is first wrongs = ap Err (wrong_once words other first is wrongs)

pub read_found : (words : List (List ℕ)) (read : Result Command WrongWord) → IsReadAs words read → IfOk read (Asks words)
read_found words (Ok found) is = is
read_found words (Err first) is = tt

pub read_wrong : (words : List (List ℕ)) (read : Result Command WrongWord) → IsReadAs words read → IfErr read (IsWrong words)
read_wrong words (Ok found) is = tt
read_wrong words (Err first) is = is

-- ---- words that begin with one

-- a list with an item is its first and the rest
pub first_word : (words : List (List ℕ)) (word : List ℕ) → 1 ≤ length words → word ≡ get_or words 0 word → words ≡ word ∷ tail_of words
first_word [] word long at = absurd (omega (arith, long))
first_word (w ∷ words) word long at = ap (λ (v : List ℕ). v ∷ words) (sym at)

-- of which no form begins with the first
pub wrong_word : (words : List (List ℕ)) (word : List ℕ) → words ≡ word ∷ tail_of words → (slice : List ℕ) → slice ≡ word → (it : Wrong)
    → ((it ≡ wrong.Help) × AsksForHelp slice) ⊎ ((it ≡ wrong.NoCommand) × IsNoCommand slice)
    → (first : WrongWord) → first ≡ record { place = 0; wrong = it } → IsWrong words first
wrong_word words word cons slice same it (inl h) first at =
    let by : Wrong → WrongWord = λ w. record { place = 0; wrong = w } in
    help word (tail_of words) cons (subst AsksForHelp same h.1) (at ∙ ap by h.0)
wrong_word words word cons slice same it (inr h) first at =
    let by : Wrong → WrongWord = λ w. record { place = 0; wrong = w } in
    no_command word (tail_of words) cons (subst IsNoCommand same h.1) (at ∙ ap by h.0)
