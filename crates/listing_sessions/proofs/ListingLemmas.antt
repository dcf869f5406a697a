-- A chain has one listing.
use Rattle.std.proofs.Common.{◌≡◌, List, ℕ, sym, ap, ◌∙◌}
use Rattle.std.specs.Cmp.Lexicographic.{slice_cmp, nat_list_cmp_total}
use Rattle.std.specs.Ordering.{nat_cmp, is_eq}
use Rattle.std.specs.declared.cmp.Ordering.TheVariants.{Equal}
use Rattle.std.proofs.lemmas.Map.Text.{is_eq-slice_cmp}
use Rattle.chain_names.proofs.Changed.{bytes_eq-true}
use Rattle.chain_commands.specs.Chain.{Chain}
use Rattle.shared_chunks.proofs.Lookups.{same_pairs}
use Rattle.pin_views.specs.declared.rows.Row.{Row}
use Rattle.listing_sessions.specs.Listing.{IsListing}

alike : (x y : List ℕ) → slice_cmp nat_cmp x y ≡ Equal → x ≡ y
alike x y e = bytes_eq-true x y (sym (is_eq-slice_cmp x y) ∙ ap is_eq e)

pub one_listing : (chain : Chain) (a b : List (List ℕ × Row)) → IsListing chain a → IsListing chain b → a ≡ b
one_listing chain a b one other = same_pairs nat_list_cmp_total alike a b one.order other.order (λ name. one.row name ∙ sym (other.row name))
