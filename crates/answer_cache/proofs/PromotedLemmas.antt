-- What is promoted stands first, and nothing moves where no key passes.
use Rattle.std.proofs.Common.{◌≡◌, Bool, true, false, List, slice_get, is_some, option_map, Option, Some, None, refl, sym, ap, ◌∙◌}
use Rattle.std.specs.Map.{lookup, lookup_entry}
use Rattle.lru.specs.LruCache.{promoted}
use Rattle.lru.proofs.Pairs.{lookup-lookup_entry}

module _ {K V : Type 0} (test : K → Bool) (entries : List (K × V)) where
  -- no key passes
  pub record Absent : Type 0 where
    pub none : lookup test entries ≡ None
    pub same : promoted test entries ≡ entries

  -- the entry is the first whose key passes
  pub record Stands (entry : K × V) : Type 0 where
    pub value : lookup test entries ≡ Some entry.1
    pub first : slice_get (promoted test entries) 0 ≡ Some entry

  absent : (one : Option (K × V)) → lookup_entry test entries ≡ one → false ≡ is_some (option_map (λ e. e.1) one) → Absent
  absent None e h = record { none = sym (lookup-lookup_entry test entries) ∙ ap (option_map (λ e. e.1)) e; same = rw e refl }
  absent (Some entry) e h = cc

  pub is_absent : false ≡ is_some (lookup test entries) → Absent
  is_absent h = absent (lookup_entry test entries) refl (h ∙ ap is_some (sym (lookup-lookup_entry test entries)))

  stands : (one : Option (K × V)) → lookup_entry test entries ≡ one → true ≡ is_some (option_map (λ e. e.1) one) → (entry : K × V) × Stands entry
  stands None e h = cc
  stands (Some entry) e h =
      (entry, record { value = sym (lookup-lookup_entry test entries) ∙ ap (option_map (λ e. e.1)) e; first = rw e refl })

  pub it_stands : true ≡ is_some (lookup test entries) → (entry : K × V) × Stands entry
  it_stands h = stands (lookup_entry test entries) refl (h ∙ ap is_some (sym (lookup-lookup_entry test entries)))
