-- Places stay filled where a name gets a value more.
use Rattle.std.proofs.Common.{◌≡◌, Bool, true, List, ℕ, [], ◌∷◌, ◌++◌, sym, ap, ◌∙◌}
use Rattle.std.proofs.Math.Path.{fun_ext}
use Rattle.std.specs.Option.{is_some}
use Rattle.std.specs.Str.{bytes_eq}
use Rattle.chain_names.specs.declared.coin.Item.{Item}
use Rattle.chain_names.specs.Coins.{entry_of}
use Rattle.chain_names.specs.Points.{changed}
use Rattle.chain_names.specs.Tables.{NameSlots, names_in, name_places, AreNamesFilled}
use Rattle.chain_names.proofs.Changed.{changed_mapped}
use Rattle.chain_names.proofs.HistoryLemmas.{entry_of-more}

pub names_filled : (old new : NameSlots) (same : List ℕ → List Item) (name : List ℕ) (item : Item) → same ≡ names_in old
    → names_in new ≡ changed bytes_eq same name (same name ++ item ∷ []) → name_places new ≡ changed bytes_eq (name_places old) name true → AreNamesFilled old → AreNamesFilled new
names_filled old new same name item is names places filled =
    let has : List Item → Bool = λ items. is_some (entry_of items) in
    let held : (λ (n : List ℕ). has (names_in new n)) ≡ changed bytes_eq (λ (n : List ℕ). has (same n)) name true =
    ap {B = List ℕ → Bool} (λ (f : List ℕ → List Item) (n : List ℕ). has (f n)) names ∙ changed_mapped bytes_eq has same name (same name ++ item ∷ [])
    ∙ ap (λ (o : _). changed bytes_eq (λ (n : List ℕ). has (same n)) name (is_some o)) (entry_of-more (same name) item) in
    let before : name_places old ≡ (λ (n : List ℕ). has (same n)) =
    fun_ext filled ∙ ap {B = List ℕ → Bool} (λ (f : List ℕ → List Item) (n : List ℕ). has (f n)) (sym is) in
    let whole : name_places new ≡ (λ (n : List ℕ). has (names_in new n)) = places ∙ ap (λ (f : List ℕ → Bool). changed bytes_eq f name true) before ∙ sym held in
    λ n. ap (λ (f : List ℕ → Bool). f n) whole
