use Rattle.std.proofs.Common.{ℕ, List, [], ◌∷◌, ◌≡◌, length, refl, sym, ap, subst, ◌∙◌, arith}
use Rattle.std.proofs.lemmas.Result.{err_from_is_err_and}
use Rattle.nmc_base.specs.declared.chain_ends.Profile.{Profile}
use Rattle.nmc_base.specs.declared.hashes.Hash32.{Hash32}
use Rattle.name_store.specs.Host.{IsHostOf}
use Rattle.bridge_commands.specs.Words.{IsHash, IsHeight, profile_word, start_word}
use Rattle.bridge_commands.specs.WrongWords.{IsFirstNot, count, of_no_field, fields}
use Rattle.bridge_commands.specs.declared.wrong.Field.{Field}
use Rattle.bridge_commands.specs.declared.wrong.Field.TheVariants as field
use Rattle.bridge_commands.proofs.LineLemmas.{holds_of, none_of, items_4}
use Rattle.bridge_commands.proofs.words.read_init.Goals.{in_default-via-then-behind-lt4, in_default-via-else-behind-lt4+else-behind-lt5}
use Rattle.bridge_commands.proofs.words.read_init.Goals as goal

abbrev IsProfile : List ℕ → Profile → Type 0
IsProfile word profile = word ≡ profile_word profile

abbrev IsHashOf : List ℕ → Hash32 → Type 0
IsHashOf word hash = IsHash word hash.0

pub returns-in_default : goal.returns-in_default
returns-in_default c =
    count c.args.form c.args.behind.now refl (λ e. let four : length c.args.behind.now ≡ 4 = e ∙ ap length c.requires.fields in elim c.in_default.branch [
      | in_default-via-then-behind-lt4 w ↦ grind (arith, four)
      | in_default-via-else-behind-lt4+else-behind-lt5 w ↦ grind (arith, four)
    ]) c.at.ensures

pub returns-in_err-profile : goal.returns-in_err-profile
returns-in_err-profile c =
    let p = err_from_is_err_and c.from_residual.result c.from_residual.ensures.1 in
    let items : c.args.behind.now ≡ c.profile-item.result ∷ c.height-item.result ∷ c.hash-item.result ∷ c.host-item.result ∷ [] = items_4 c.args.behind.now c.profile-item.result c.height-item.result c.hash-item.result c.host-item.result (omega (arith, c.in-len4.len_at_least, c.in-len4.len_below)) c.profile-item.is c.height-item.is c.hash-item.is c.host-item.is in
    let long : length c.args.behind.now ≡ 4 = omega (arith, c.in-len4.len_at_least, c.in-len4.len_below) in
    rw (p.1, p.2) (of_no_field c.args.form c.args.behind.now 0 field.Profile refl (long ∙ ap length (sym c.requires.fields)) (subst (λ (fs : List Field). IsFirstNot fs c.args.behind.now 0 field.Profile) (sym c.requires.fields)
    (subst (λ (words : List (List ℕ)). IsFirstNot (field.Profile ∷ field.Height ∷ field.Hash ∷ field.Host ∷ []) words 0 field.Profile) (sym items)
    (refl, none_of IsProfile c.as_slice.ensures c.in_err-profile.ensures.none.0 c.read_profile.ensures.one))) c.in_err-profile.ensures.none.1)

pub returns-in_err-height : goal.returns-in_err-height
returns-in_err-height c =
    let p = err_from_is_err_and c.from_residual-in_err-height.result c.from_residual-in_err-height.ensures.1 in
    let items : c.args.behind.now ≡ c.profile-item.result ∷ c.height-item.result ∷ c.hash-item.result ∷ c.host-item.result ∷ [] = items_4 c.args.behind.now c.profile-item.result c.height-item.result c.hash-item.result c.host-item.result (omega (arith, c.in-len4.len_at_least, c.in-len4.len_below)) c.profile-item.is c.height-item.is c.hash-item.is c.host-item.is in
    let long : length c.args.behind.now ≡ 4 = omega (arith, c.in-len4.len_at_least, c.in-len4.len_below) in
    rw (p.1, p.2) (of_no_field c.args.form c.args.behind.now 1 field.Height refl (long ∙ ap length (sym c.requires.fields)) (subst (λ (fs : List Field). IsFirstNot fs c.args.behind.now 1 field.Height) (sym c.requires.fields)
    (subst (λ (words : List (List ℕ)). IsFirstNot (field.Profile ∷ field.Height ∷ field.Hash ∷ field.Host ∷ []) words 1 field.Height) (sym items)
    ((c.in_ok-profile.profile, holds_of IsProfile c.as_slice.ensures c.in_ok-profile.ensures.value c.read_profile.ensures.found), (refl, none_of IsHeight c.as_slice-2.ensures c.in_err-height.ensures.none.0 c.read_height.ensures.one)))) c.in_err-height.ensures.none.1)

pub returns-in_err-hash : goal.returns-in_err-hash
returns-in_err-hash c =
    let p = err_from_is_err_and c.from_residual-in_err-hash.result c.from_residual-in_err-hash.ensures.1 in
    let items : c.args.behind.now ≡ c.profile-item.result ∷ c.height-item.result ∷ c.hash-item.result ∷ c.host-item.result ∷ [] = items_4 c.args.behind.now c.profile-item.result c.height-item.result c.hash-item.result c.host-item.result (omega (arith, c.in-len4.len_at_least, c.in-len4.len_below)) c.profile-item.is c.height-item.is c.hash-item.is c.host-item.is in
    let long : length c.args.behind.now ≡ 4 = omega (arith, c.in-len4.len_at_least, c.in-len4.len_below) in
    rw (p.1, p.2) (of_no_field c.args.form c.args.behind.now 2 field.Hash refl (long ∙ ap length (sym c.requires.fields)) (subst (λ (fs : List Field). IsFirstNot fs c.args.behind.now 2 field.Hash) (sym c.requires.fields)
    (subst (λ (words : List (List ℕ)). IsFirstNot (field.Profile ∷ field.Height ∷ field.Hash ∷ field.Host ∷ []) words 2 field.Hash) (sym items)
    ((c.in_ok-profile.profile, holds_of IsProfile c.as_slice.ensures c.in_ok-profile.ensures.value c.read_profile.ensures.found), ((c.in_ok-height.height, holds_of IsHeight c.as_slice-2.ensures c.in_ok-height.ensures.value c.read_height.ensures.found), (refl, none_of IsHashOf c.as_slice-3.ensures c.in_err-hash.ensures.none.0 (λ hash is. c.read_hash.ensures.one hash.0 is)))))) c.in_err-hash.ensures.none.1)

pub returns-in_err-host : goal.returns-in_err-host
returns-in_err-host c =
    let p = err_from_is_err_and c.from_residual-in_err-host.result c.from_residual-in_err-host.ensures.1 in
    let items : c.args.behind.now ≡ c.profile-item.result ∷ c.height-item.result ∷ c.hash-item.result ∷ c.host-item.result ∷ [] = items_4 c.args.behind.now c.profile-item.result c.height-item.result c.hash-item.result c.host-item.result (omega (arith, c.in-len4.len_at_least, c.in-len4.len_below)) c.profile-item.is c.height-item.is c.hash-item.is c.host-item.is in
    let long : length c.args.behind.now ≡ 4 = omega (arith, c.in-len4.len_at_least, c.in-len4.len_below) in
    rw (p.1, p.2) (of_no_field c.args.form c.args.behind.now 3 field.Host refl (long ∙ ap length (sym c.requires.fields)) (subst (λ (fs : List Field). IsFirstNot fs c.args.behind.now 3 field.Host) (sym c.requires.fields)
    (subst (λ (words : List (List ℕ)). IsFirstNot (field.Profile ∷ field.Height ∷ field.Hash ∷ field.Host ∷ []) words 3 field.Host) (sym items)
    ((c.in_ok-profile.profile, holds_of IsProfile c.as_slice.ensures c.in_ok-profile.ensures.value c.read_profile.ensures.found), ((c.in_ok-height.height, holds_of IsHeight c.as_slice-2.ensures c.in_ok-height.ensures.value c.read_height.ensures.found), ((c.in_ok-hash.hash, holds_of IsHashOf c.as_slice-3.ensures c.in_ok-hash.ensures.value c.read_hash.ensures.found), (refl, none_of IsHostOf c.as_slice-4.ensures c.in_err-host.ensures.none.0 c.read_host.ensures.one)))))) c.in_err-host.ensures.none.1)

pub returns : goal.returns
returns c =
    let items : c.args.behind.now ≡ c.profile-item.result ∷ c.height-item.result ∷ c.hash-item.result ∷ c.host-item.result ∷ [] = items_4 c.args.behind.now c.profile-item.result c.height-item.result c.hash-item.result c.host-item.result (omega (arith, c.in-len4.len_at_least, c.in-len4.len_below)) c.profile-item.is c.height-item.is c.hash-item.is c.host-item.is in
    record {
      profile = c.profile-item.result;
      height = c.height-item.result;
      hash = c.hash-item.result;
      host = c.host-item.result;
      words_are = ap (λ (word : List ℕ). word ∷ c.args.behind.now) c.requires.start ∙ ap (λ (words : List (List ℕ)). start_word c.args.start ∷ words) items;
      fields = record {
        profile_is = holds_of IsProfile c.as_slice.ensures c.in_ok-profile.ensures.value c.read_profile.ensures.found;
        height_is = holds_of IsHeight c.as_slice-2.ensures c.in_ok-height.ensures.value c.read_height.ensures.found;
        hash_is = holds_of IsHashOf c.as_slice-3.ensures c.in_ok-hash.ensures.value c.read_hash.ensures.found;
        host_is = holds_of IsHostOf c.as_slice-4.ensures c.in_ok-host.ensures.value c.read_host.ensures.found;
      };
    }
