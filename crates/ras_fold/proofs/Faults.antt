-- The least of some faults and others.
use Rattle.std.proofs.Common.{◌≡◌, ◌<◌, ◌≤◌, ⊎_elim, List, [], ◌∷◌, ◌++◌, Option, Some, None, refl, sym, ap, ◌∙◌, arith}
use Rattle.std.proofs.lemmas.Bool.{le-leb, lt-leb}
use Rattle.std.proofs.lemmas.Bool.Decides.{leb_tells}
use Rattle.ras_fold.specs.Summary.{Placed, earlier_of, least_fault}

pub first_of : (f g : Placed) → f.0 ≤ g.0 → earlier_of (Some f) (Some g) ≡ Some f
first_of f g h = rw (le-leb f.0 g.0 h) refl

pub second_of : (f g : Placed) → g.0 < f.0 → earlier_of (Some f) (Some g) ≡ Some g
second_of f g h = rw (lt-leb f.0 g.0 h) refl

three : (f g h : Placed) → earlier_of (earlier_of (Some f) (Some g)) (Some h) ≡ earlier_of (Some f) (earlier_of (Some g) (Some h))
three f g h =
    ⊎_elim
    (λ p. ⊎_elim
    (λ q. rw (p.0, q.0, p.0) (first_of f h (omega (arith, p.1, q.1))))
    (λ q. rw (p.0, q.0) refl)
    (leb_tells g.0 h.0))
    (λ p. ⊎_elim
    (λ q. rw (p.0, q.0) (sym (second_of f g p.1)))
    (λ q. rw (p.0, q.0) (sym (second_of f h (omega (arith, p.1, q.1)))))
    (leb_tells g.0 h.0))
    (leb_tells f.0 g.0)

pub earlier_of-assoc : (f g h : Option Placed) → earlier_of (earlier_of f g) h ≡ earlier_of f (earlier_of g h)
earlier_of-assoc None g h = refl
earlier_of-assoc (Some f) None h = refl
earlier_of-assoc (Some f) (Some g) (Some h) = three f g h
earlier_of-assoc (Some f) (Some g) None =
    ⊎_elim (λ p. rw p.0 refl) (λ p. rw p.0 refl) (leb_tells f.0 g.0)

pub least_fault-append : (faults others : List Placed) → least_fault (faults ++ others) ≡ earlier_of (least_fault faults) (least_fault others)
least_fault-append [] others = refl
least_fault-append (f ∷ faults) others =
    ap (earlier_of (Some f)) (least_fault-append faults others) ∙ sym (earlier_of-assoc (Some f) (least_fault faults) (least_fault others))
