-- Moved points.
use Rattle.std.proofs.Common.{◌≡◌, ◌<◌, ℤ, List, [], ◌∷◌, ◌++◌, length, refl, sym, ap, ◌∙◌, arith}
use Rattle.std.proofs.lemmas.List.{append-nil}
use Rattle.ras_domain.specs.Boxes.{moved_by}

moved-none : (ds p : List ℤ) → length p < 1 → moved_by ds p ≡ []
moved-none [] [] short = refl
moved-none (d ∷ ds) [] short = refl
moved-none ds (c ∷ p) short = absurd (omega (arith, short))

pub moved_nothing : (ds p q : List ℤ) → length p < 1 → q ≡ q ++ moved_by ds p
moved_nothing ds p q short = sym (append-nil q) ∙ ap (λ xs. q ++ xs) (sym (moved-none ds p short))
