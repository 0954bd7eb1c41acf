-- Lists whose items are checked from left to right.
use Rattle.std.specs.Prelude.{◌≡◌, ℕ, suc, ◌+◌, ◌<◌, ◌≤◌, List, [], ◌∷◌, ◌++◌, length, drop, Result, Ok, Err}
use Rattle.std.proofs.Common.{sym, ap, ◌∙◌, refl, get_or, add-one, append_assoc}
use Rattle.std.proofs.lemmas.List.{append-nil, drop_all}
use Rattle.std.proofs.Math.Seq.{drop-cons}
use Rattle.ras_cells.specs.Outcomes.{◌>>=◌}
use Rattle.ras_syntax.specs.declared.statement.SourceName.{SourceName}
use Rattle.spec_expressions.specs.Check.{CheckMisfit}
use Rattle.spec_statements.specs.CheckStatement.{Catalog, known_source, known_sources}
use Rattle.ras_catalog.specs.declared.fault.CheckError.{CheckError}
use Rattle.ras_catalog.specs.declared.fault.CheckError.TheVariants.{Fault, Memory}
use Rattle.ras_catalog.specs.Outcome.{IsChecked, each_of}

-- what is there already, and what follows
abbrev pub after : {B : Type 0} → List B → Result (List B) CheckMisfit → Result (List B) CheckMisfit
after done (Ok xs) = Ok (done ++ xs)
after done (Err f) = Err f

after_none : {B : Type 0} (r : Result (List B) CheckMisfit) → after [] r ≡ r
after_none (Ok xs) = refl
after_none (Err f) = refl

after_more : {B : Type 0} (done : List B) (x : B) (r : Result (List B) CheckMisfit) → after done (r >>= (λ xs. Ok (x ∷ xs))) ≡ after (done ++ x ∷ []) r
after_more done x (Ok xs) = ap Ok (sym (append_assoc done (x ∷ []) xs))
after_more done x (Err f) = refl

-- the items before a place were checked, and gave these
pub record IsListed {A B : Type 0} (step : A → Result B CheckMisfit) (items : List A) (place : ℕ) (done : List B) : Type 0 where
  pub rest : each_of step items ≡ after done (each_of step (drop place items))

module _ {A B : Type 0} (step : A → Result B CheckMisfit) (items : List A) where
  pub listed_none : IsListed step items 0 []
  listed_none = record { rest = sym (after_none (each_of step items)) }

  -- the item at the place comes next
  next : (place : ℕ) (done : List B) (item : A) → place < length items → get_or items place item ≡ item → IsListed step items place done
      → each_of step items ≡ after done (step item >>= (λ x. each_of step (drop (suc place) items) >>= (λ xs. Ok (x ∷ xs))))
  next place done item below is h =
      h.rest ∙ ap (λ rest. after done (each_of step rest)) (drop-cons items place item below)
      ∙ ap (λ first. after done (step first >>= (λ x. each_of step (drop (suc place) items) >>= (λ xs. Ok (x ∷ xs))))) is

  pub listed_more : (place : ℕ) (done : List B) (item : A) (x : B) → place < length items → get_or items place item ≡ item → IsListed step items place done
      → IsChecked (step item) (Ok x) → IsListed step items (place + 1) (done ++ x ∷ [])
  listed_more place done item x below is h k = rw add-one (record {
    rest =
        next place done item below is h
        ∙ ap (λ first. after done (first >>= (λ y. each_of step (drop (suc place) items) >>= (λ xs. Ok (y ∷ xs))))) k.tells
        ∙ after_more done x (each_of step (drop (suc place) items));
  })

  pub listed_stop : (place : ℕ) (done : List B) (item : A) (e : CheckError) → place < length items → get_or items place item ≡ item → IsListed step items place done
      → IsChecked (step item) (Err e) → IsChecked (each_of step items) (Err e)
  listed_stop place done item (Fault span fault) below is h k = record {
    tells =
        next place done item below is h
        ∙ ap (λ first. after done (first >>= (λ y. each_of step (drop (suc place) items) >>= (λ xs. Ok (y ∷ xs))))) k.tells;
  }
  listed_stop place done item Memory below is h k = record { tells = tt }

  pub listed_all : (place : ℕ) (done : List B) → length items ≤ place → IsListed step items place done → IsChecked (each_of step items) (Ok done)
  listed_all place done all h = record {
    tells =
        h.rest ∙ ap (λ rest. after done (each_of step rest)) (drop_all place items all) ∙ ap Ok (append-nil done);
  }

-- ---- the definition's lists

pub sources_is : (catalog : Catalog) (sources : List SourceName) → known_sources catalog sources ≡ each_of (known_source catalog) sources
sources_is catalog [] = refl
sources_is catalog (source ∷ sources) = ap (λ rest. known_source catalog source >>= (λ x. rest >>= (λ xs. Ok (x ∷ xs)))) (sources_is catalog sources)
