-- Arrays that a closure went over: it leaves each as it was, or takes everything out.
use Rattle.std.proofs.Common.{◌≡◌, ℕ, Bool, true, false, cond, List, [], ◌∷◌, Option, Some, None, refl, sym, ap, subst, ◌∙◌}
use Rattle.std.specs.BTreeMap.{is_at}
use Rattle.std.specs.List.{AllZip}
use Rattle.std.specs.Map.{lookup}
use Rattle.std.specs.Map.Calls.{RetainsPairs}
use Rattle.std.specs.Option.{IsSomeAnd, MatchOption}
use Rattle.std.specs.Ordering.{nat_cmp}
use Rattle.std.proofs.lemmas.Map.Lookups.{exact_unsigned}
use Rattle.std.proofs.lemmas.Map.Views.{tells_apart}
use Rattle.ras_store.specs.declared.array.KeptArray.{KeptArray}
use Rattle.ras_store.specs.Kept.{IsLeft}

module _ (l : ℕ → Bool) where
  abbrev IsLeftEntry : ℕ × KeptArray → ℕ × KeptArray → Type 0
  IsLeftEntry d e = (e.0 ≡ d.0) × IsLeft (l d.0) d.1 e.1

  pub all_left : {F : Type 0} (T : F → ℕ → KeptArray → Bool → KeptArray → F → Type 0) (f : F)
      → ((k : ℕ) (v : KeptArray) (b : Bool) (w : KeptArray) (g : F) → T f k v b w g → (b ≡ true) × IsLeft (l k) v w × (g ≡ f))
      → (es kept : List (ℕ × KeptArray)) → RetainsPairs T f es kept → AllZip IsLeftEntry es kept
  all_left T f step [] kept calls = subst (AllZip IsLeftEntry []) (sym calls) tt
  all_left T f step (e ∷ es) kept calls =
      let here = step e.0 e.1 calls.0 calls.1 calls.2 calls.4 in
      let later = all_left T f step es calls.3 (subst (λ g. RetainsPairs T g es calls.3) here.2 calls.5) in
      subst (AllZip IsLeftEntry (e ∷ es)) (sym (calls.6 ∙ ap (λ b. cond b ((e.0, calls.1) ∷ calls.3) calls.3) here.0)) ((refl, here.1), later)

  abbrev IsLeftAt : ℕ → Option KeptArray → Option KeptArray → Type 0
  IsLeftAt q o n = MatchOption o (n ≡ None) (λ a. IsSomeAnd n (IsLeft (l q) a))

  found_at : (q k : ℕ) (b : Bool) (a w : KeptArray) (rest others : Option KeptArray) → is_at (nat_cmp q) k ≡ b → IsLeft (l k) a w → IsLeftAt q rest others
      → IsLeftAt q (cond b (Some a) rest) (cond b (Some w) others)
  found_at q k true a w rest others is left later = subst (λ x. IsLeft (l x) a w) (sym (tells_apart exact_unsigned q k is)) left
  found_at q k false a w rest others is left later = later

  pub found_left : (es kept : List (ℕ × KeptArray)) (q : ℕ) → AllZip IsLeftEntry es kept → IsLeftAt q (lookup (is_at (nat_cmp q)) es) (lookup (is_at (nat_cmp q)) kept)
  found_left [] [] q all = refl
  found_left [] (e ∷ kept) q all = absurd all
  found_left (d ∷ es) [] q all = absurd all
  found_left (d ∷ es) (e ∷ kept) q all =
      subst (λ k. IsLeftAt q (lookup (is_at (nat_cmp q)) (d ∷ es)) (cond (is_at (nat_cmp q) k) (Some e.1) (lookup (is_at (nat_cmp q)) kept))) (sym all.0.0)
      (found_at q d.0 (is_at (nat_cmp q) d.0) d.1 e.1 (lookup (is_at (nat_cmp q)) es) (lookup (is_at (nat_cmp q)) kept) refl all.0.1 (found_left es kept q all.1))
