-- The loop over the sources of a select.
use Rattle.std.proofs.Common.{◌≡◌, ℕ, ◌+◌, ◌<◌, ◌≤◌, List, [], ◌∷◌, ◌++◌, length, map, drop, get_or, sym, ap, ◌∙◌, append_assoc}
use Rattle.std.proofs.lemmas.List.{at_drop_more, at_drop_all, append-nil}
use Rattle.ras_syntax.specs.declared.statement.SourceName.{SourceName}
use Rattle.spec_statements.specs.Locks.{Lock}
use Rattle.spec_statements.specs.Machine.{read_lock}

pub read_turn : (sources : List SourceName) (i : ℕ) (d : SourceName) (done : List Lock) (lock : Lock) (w : List Lock) → i < length sources → lock ≡ read_lock (get_or sources i d)
    → done ++ map read_lock (drop i sources) ≡ w → (done ++ lock ∷ []) ++ map read_lock (drop (i + 1) sources) ≡ w
read_turn sources i d done lock w within is so_far =
    append_assoc done (lock ∷ []) (map read_lock (drop (i + 1) sources)) ∙ ap (λ one. done ++ one ∷ map read_lock (drop (i + 1) sources)) is
    ∙ sym (at_drop_more (λ rest. done ++ map read_lock rest) sources i d within) ∙ so_far

pub read_end : (sources : List SourceName) (i : ℕ) (done w : List Lock) → length sources ≤ i → done ++ map read_lock (drop i sources) ≡ w → done ≡ w
read_end sources i done w over so_far = sym (append-nil done) ∙ sym (at_drop_all (λ rest. done ++ map read_lock rest) sources i over) ∙ so_far

pub ruleset reading = (read_turn, read_end)
