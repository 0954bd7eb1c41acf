-- The answers that are taken from places, each of which holds one.
use Rattle.std.proofs.Common.{◌≡◌, ℕ, ◌<◌, List, ◌++◌, Option, Some, length, get_or, map, refl, ap, sym, ◌∙◌, arith}
use Rattle.std.specs.Fn.{Shared}
use Rattle.std.specs.Borrow.{Bor}
use Rattle.std.proofs.lemmas.List.{append-nil, length-map, get_or-map, nil_from_length}
use Rattle.ras_workers.specs.Pieces.{HoldsAnswers, AreAnswers}

-- once no place is left, the answers that were taken are those that the places held
pub AreAnswers-taken : {F T R : Type 0} (g : Shared F (ℕ × (Bor T × Unit {0})) R) (f : F) (pieces : List T) (places left : List (Option R)) (answers : List R) → HoldsAnswers g f pieces places
    → length places ≡ length pieces → map Some answers ++ left ≡ places → length left ≡ 0 → AreAnswers g f pieces answers
AreAnswers-taken g f pieces places left answers held long taken none i d within =
    let all : map Some answers ≡ places = sym (append-nil (map Some answers)) ∙ ap (λ xs. map Some answers ++ xs) (sym (nil_from_length left none)) ∙ taken in
    let inside : i < length answers = omega (arith, within, long, ap length all, length-map answers Some) in
    let here : get_or places i (Some d) ≡ Some (get_or answers i d) = rw (sym all) (get_or-map Some answers i d (Some d) inside) in
    (refl, rw here at (held i (Some d) within).1)
