-- Items that are given to a name.
use Rattle.std.proofs.Common.{◌≡◌, Bool, true, List, ℕ, [], ◌∷◌, ◌++◌, sym, ap, ◌∙◌}
use Rattle.std.proofs.Math.Path.{fun_ext}
use Rattle.std.specs.Option.{is_some}
use Rattle.std.specs.Str.{bytes_eq}
use Rattle.chain_names.specs.declared.coin.Item.{Item}
use Rattle.chain_names.specs.Coins.{entry_of}
use Rattle.chain_names.specs.Points.{changed}
use Rattle.chain_names.specs.Tables.{NameSlots, names_in, name_places, AreNamesFilled}
use Rattle.chain_names.proofs.Changed.{changed_mapped}
use Rattle.chain_names.proofs.HistoryLemmas.{entry_of-more}

pub item_added-same : (old same : List ℕ → List Item) (name : List ℕ) (item : Item) → same ≡ old
    → changed bytes_eq same name (same name ++ item ∷ []) ≡ changed bytes_eq old name (old name ++ item ∷ [])
item_added-same old same name item e = ap (λ (f : List ℕ → List Item). changed bytes_eq f name (f name ++ item ∷ [])) e

pub names_filled : (old new : NameSlots) (name : List ℕ) (item : Item) → names_in new ≡ changed bytes_eq (names_in old) name (names_in old name ++ item ∷ [])
    → name_places new ≡ changed bytes_eq (name_places old) name true → AreNamesFilled old → AreNamesFilled new
names_filled old new name item names places filled =
    let has : List Item → Bool = λ items. is_some (entry_of items) in
    let same : name_places old ≡ (λ (n : List ℕ). has (names_in old n)) = fun_ext filled in
    let held : (λ (n : List ℕ). has (names_in new n)) ≡ changed bytes_eq (λ (n : List ℕ). has (names_in old n)) name true =
    ap {B = List ℕ → Bool} (λ (f : List ℕ → List Item) (n : List ℕ). has (f n)) names ∙ changed_mapped bytes_eq has (names_in old) name (names_in old name ++ item ∷ [])
    ∙ ap (λ (o : _). changed bytes_eq (λ (n : List ℕ). has (names_in old n)) name (is_some o)) (entry_of-more (names_in old name) item) in
    let whole : name_places new ≡ (λ (n : List ℕ). has (names_in new n)) = places ∙ ap (λ (f : List ℕ → Bool). changed bytes_eq f name true) same ∙ sym held in
    λ n. ap (λ (f : List ℕ → Bool). f n) whole
