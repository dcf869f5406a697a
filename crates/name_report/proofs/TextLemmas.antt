-- The texts of lists, item by item.
use Rattle.std.proofs.Common.{◌≡◌, ℕ, suc, ◌+◌, ◌-◌, ◌<◌, Bool, List, [], ◌∷◌, ◌++◌, length, get_or, drop, refl, sym, ap, ◌∙◌, add-one, drop-cons, append_assoc, arith}
use Rattle.std.specs.Prelude.{◌==◌, true, false, codes, Option, Some, None}
use Rattle.std.proofs.lemmas.Bool.{true≢false}
use borrow.Author.Tests.{eqb-true}
use Rattle.std.specs.List.{slice_get}
use Rattle.std.specs.Option.{is_some, option_copied}
use denote.Ref.{Bor}
use Rattle.std.specs.Fmt.{decimal}
use Rattle.hex.specs.Hex.{encode_lower, encode_with}
use Rattle.nmc_base.specs.Hash.{display_text}
use Rattle.chain_names.specs.declared.coin.Item.{Item}
use Rattle.chain_names.specs.Coins.{entry_of}
use Rattle.chain_names.specs.Index.{value_of, served_item, served_value}
use Rattle.name_report.specs.Text.{Reported, bytes_text, state_text, tip_line, entry_line, item_line, item_lines, is_served, lines_with, name_lines}

-- ---- lists from a place on

pub encode_lower-next : (bytes : List ℕ) (i : ℕ) → i < length bytes → encode_lower (drop i bytes) ≡ encode_lower (get_or bytes i 0 ∷ []) ++ encode_lower (drop (i + 1) bytes)
unfolding encode_with
encode_lower-next bytes i within = rw (add-one, drop-cons bytes i 0) refl

pub item_lines-next : (items : List Item) (i : ℕ) (item : Item) → i < length items → item ≡ get_or items i item → item_lines (drop i items) ≡ item_line item ++ item_lines (drop (i + 1) items)
item_lines-next items i item within is = rw (add-one, drop-cons items i item) (ap (λ (x : Item). item_line x ++ item_lines (drop (suc i) items)) (sym is))

-- ---- lines, piece by piece

pub tip_line-pieces : (height : ℕ) (hash : List ℕ) → tip_line height hash ≡ codes "tip " ++ decimal height ++ (codes " " ++ (display_text hash ++ codes "\n"))
tip_line-pieces height hash = simp append_assoc

pub entry_line-pieces : (name : List ℕ) (entry : Item) (served : Bool)
    → entry_line name entry served ≡ codes "name " ++ bytes_text name ++ (codes " " ++ decimal entry.height ++ (state_text served ++ bytes_text entry.value ++ codes "\n"))
entry_line-pieces name entry served = simp append_assoc

pub item_line-pieces : (item : Item) → item_line item ≡ codes "  at " ++ decimal item.height ++ (codes " since " ++ decimal item.registered ++ (codes " " ++ bytes_text item.value ++ codes "\n"))
item_line-pieces item = simp append_assoc

-- ---- bytes, some or none

pub bytes_text-none : (bytes : List ℕ) → (length bytes == 0) ≡ true → bytes_text bytes ≡ codes "-"
bytes_text-none [] none = refl
bytes_text-none (byte ∷ bytes) none = absurd (omega (arith, eqb-true (length (byte ∷ bytes)) 0 none))

pub bytes_text-some : (bytes : List ℕ) → (length bytes == 0) ≡ false → bytes_text bytes ≡ encode_lower bytes
bytes_text-some [] some = absurd (true≢false some)
bytes_text-some (byte ∷ bytes) some = refl

-- ---- the lines of a name

-- the last item is the entry
pub slice_get-last : (items : List Item) → slice_get items (length items - 1) ≡ entry_of items
slice_get-last [] = refl
slice_get-last (item ∷ []) = refl
slice_get-last (item ∷ next ∷ items) =
    let past : length (item ∷ next ∷ items) - 1 ≡ suc (length (next ∷ items) - 1) = omega arith in
    rw past (slice_get-last (next ∷ items))

pub name_lines-none : (what : Reported) (name : List ℕ) (items : List Item) → what.histories name ≡ items → entry_of items ≡ None → name_lines what name ≡ []
name_lines-none what name items same none = ap (λ (l : List Item). lines_with what name l (entry_of l)) same ∙ ap (lines_with what name items) none

pub name_lines-some : (what : Reported) (name : List ℕ) (items : List Item) (entry : Item) (served : Bool) → what.histories name ≡ items → entry_of items ≡ Some entry
    → served ≡ is_served what name → name_lines what name ≡ entry_line name entry served ++ item_lines items
name_lines-some what name items entry served same some is =
    ap (λ (l : List Item). lines_with what name l (entry_of l)) same ∙ ap (lines_with what name items) some
    ∙ ap (λ (b : Bool). entry_line name entry b ++ item_lines items) (sym is)

-- an entry is served where its value is
is_some-value_of : (entry : Option Item) → is_some (value_of entry) ≡ is_some entry
is_some-value_of None = refl
is_some-value_of (Some item) = refl

is_some-copied : {X : Type 0} (o : Option (Bor X)) → is_some (option_copied o) ≡ is_some o
is_some-copied None = refl
is_some-copied (Some x) = refl

pub is_served-live : (what : Reported) (name : List ℕ) (live : Option (Bor (List ℕ))) (served : Bool) → served ≡ is_some live
    → option_copied live ≡ served_value what.profile what.histories what.height name → served ≡ is_served what name
is_served-live what name live served e is = e ∙ sym (is_some-copied live) ∙ ap is_some is ∙ is_some-value_of (served_item what.profile what.height (entry_of (what.histories name)))
