-- The arrays of the row at a place, source by source.
use Rattle.std.proofs.Common.{◌≡◌, ℕ, zero, suc, ◌+◌, ◌-◌, ◌*◌, ◌/◌, ◌%◌, ◌<◌, ◌≤◌, List, [], ◌∷◌, ◌++◌, length, map, drop, get_or, Some, refl, sym, ap, subst, ◌∙◌, arith, append_assoc}
use Rattle.std.specs.List.{slice_get}
use Rattle.std.specs.Option.{option_map}
use Rattle.std.proofs.lemmas.List.{append-nil, drop_all, drop_more, length-drop}
use Rattle.std.proofs.lemmas.Nat.{div_below, div-mul-add, mod_below}
use Rattle.std.proofs.lemmas.Option.{slice_get-map}
use Rattle.ras_syntax.specs.declared.typed.CheckedSource.{CheckedSource}
use Rattle.spec_expressions.specs.Database.{Member}
use Rattle.spec_statements.specs.Rows.{Row, combinations}
use Rattle.spec_shown.specs.Shown.{member_shown}
use Rattle.spec_views.specs.Holdings.{Holdings}
use Rattle.ras_rows.specs.RowsKept.{Oids, members_named, row_count}
use Rattle.ras_rows.proofs.Counts.{combination-at, length-rows}

-- what a list has at a place
at-place : {X : Type 0} (xs : List X) (k : ℕ) (d : X) → k < length xs → slice_get xs k ≡ Some (get_or xs k d)
at-place [] k d within = absurd (omega (arith, within))
at-place (x ∷ xs) zero d within = refl
at-place (x ∷ xs) (suc k) d within = at-place xs k d (omega (arith, within))

-- a place below a product that a source's arrays make with the rows of the others
pub record Splits (count place n others : ℕ) : Type 0 where
  pub some : 0 < n
  pub some_others : 0 < others
  pub quotient : count / n ≡ others
  pub below : place / others < n
  pub rest_below : place % others < others
  pub again : place ≡ place / others * others + place % others

pub splits : (count place n others : ℕ) → count ≡ n * others → place < count → Splits count place n others
splits count place zero others is within = absurd (omega (arith, is, within))
splits count place (suc n) zero is within = absurd (omega (arith, is, within))
splits count place (suc n) (suc m) is within =
    let swapped : suc n * suc m ≡ suc m * suc n + 0 = omega arith in
    let below : place / suc m < suc n = div_below place (suc m) (suc n) (omega arith) (omega (arith, is, within)) in
    record {
      some = omega arith;
      some_others = omega arith;
      quotient = ap (λ k. k / suc n) (is ∙ swapped) ∙ div-mul-add (suc m) (suc n) 0 (omega arith);
      below = below;
      rest_below = mod_below place (suc m) (omega arith);
      again = omega arith;
    }

-- the arrays so far are those with which the row at the place begins
pub record RowSoFar (holdings : Holdings) (sources : List CheckedSource) (oids : List Oids) (place : ℕ) (i count rest : ℕ) (row : Row) : Type 0 where
  pub each_source : length oids ≡ length sources
  pub counted : count ≡ row_count (drop i oids)
  pub within : rest < count
  pub begun : (others : Row) → slice_get (combinations (members_named holdings (drop i sources) (drop i oids))) rest ≡ Some others
      → slice_get (combinations (members_named holdings sources oids)) place ≡ Some (row ++ others)

pub row_starts : (holdings : Holdings) (sources : List CheckedSource) (oids : List Oids) (place count : ℕ) → length oids ≡ length sources → count ≡ row_count oids → place < count
    → RowSoFar holdings sources oids place 0 count place []
row_starts holdings sources oids place count each counted within =
    record { each_source = each; counted = counted; within = within; begun = λ others is. is }

module _ (holdings : Holdings) (sources : List CheckedSource) (oids : List Oids) (place i count rest : ℕ) (row : Row) (s : CheckedSource) (o : Oids)
    (at_source : i < length sources) (source_is : s ≡ get_or sources i s) (oids_is : o ≡ get_or oids i o) (so_far : RowSoFar holdings sources oids place i count rest row) where
  at_oids : i < length oids
  at_oids = omega (arith, at_source, so_far.each_source)

  sources_split : drop i sources ≡ s ∷ drop (i + 1) sources
  sources_split = drop_more sources i s at_source ∙ ap (λ x. x ∷ drop (i + 1) sources) (sym source_is)

  oids_split : drop i oids ≡ o ∷ drop (i + 1) oids
  oids_split = drop_more oids i o at_oids ∙ ap (λ x. x ∷ drop (i + 1) oids) (sym oids_is)

  others_long : length (drop (i + 1) oids) ≡ length (drop (i + 1) sources)
  others_long = length-drop (i + 1) oids ∙ ap (λ n. n - (i + 1)) so_far.each_source ∙ sym (length-drop (i + 1) sources)

  pub row_splits : Splits count rest (length o.items) (row_count (drop (i + 1) oids))
  row_splits = splits count rest (length o.items) (row_count (drop (i + 1) oids)) (so_far.counted ∙ ap row_count oids_split) so_far.within

  pub row_turn : (new_count id : ℕ) (m : Member) (new : Row) → new_count ≡ count / length o.items → slice_get o.items (rest / new_count) ≡ Some id
      → m ≡ member_shown holdings s id → new ≡ row ++ m ∷ [] → RowSoFar holdings sources oids place (i + 1) new_count (rest % new_count) new
  row_turn new_count id m new count_is id_is m_is new_is =
      let all = row_splits in
      let same : new_count ≡ row_count (drop (i + 1) oids) = count_is ∙ all.quotient in
      record {
        each_source = so_far.each_source;
        counted = same;
        within = subst (λ n. rest % n < n) (sym same) all.rest_below;
        begun = λ others is. turn others (subst (λ n. slice_get (combinations (members_named holdings (drop (i + 1) sources) (drop (i + 1) oids))) (rest % n) ≡ Some others) same is);
      }
    where
      turn : (others : Row) → slice_get (combinations (members_named holdings (drop (i + 1) sources) (drop (i + 1) oids))) (rest % row_count (drop (i + 1) oids)) ≡ Some others
          → slice_get (combinations (members_named holdings sources oids)) place ≡ Some (new ++ others)
      turn others is =
          let all = row_splits in
          let first : slice_get (map (member_shown holdings s) o.items) (rest / row_count (drop (i + 1) oids)) ≡ Some m =
          slice_get-map (member_shown holdings s) o.items (rest / row_count (drop (i + 1) oids))
          ∙ ap (option_map (member_shown holdings s)) (ap (λ n. slice_get o.items (rest / n)) (sym (count_is ∙ all.quotient)) ∙ id_is) ∙ ap Some (sym m_is) in
          let long = length-rows holdings (drop (i + 1) sources) (drop (i + 1) oids) others_long in
          let here : slice_get (combinations (members_named holdings (s ∷ drop (i + 1) sources) (o ∷ drop (i + 1) oids))) rest ≡ Some (m ∷ others) =
          combination-at (map (member_shown holdings s) o.items) (members_named holdings (drop (i + 1) sources) (drop (i + 1) oids))
          (rest / row_count (drop (i + 1) oids)) (rest % row_count (drop (i + 1) oids)) rest m others
          (all.again ∙ ap (λ n. rest / row_count (drop (i + 1) oids) * n + rest % row_count (drop (i + 1) oids)) (sym long)) first is in
          so_far.begun (m ∷ others)
          (ap (λ xs. slice_get (combinations (members_named holdings xs (drop i oids))) rest) sources_split
          ∙ ap (λ xs. slice_get (combinations (members_named holdings (s ∷ drop (i + 1) sources) xs)) rest) oids_split ∙ here)
          ∙ ap Some (sym (append_assoc row (m ∷ []) others) ∙ ap (λ r. r ++ others) (sym new_is))

  pub row_bound : (items : List ℕ) → items ≡ o.items → rest / (count / length items) < length items
  row_bound items is =
      let all = row_splits in
      let same : count / length items ≡ row_count (drop (i + 1) oids) = ap (λ (xs : List ℕ). count / length xs) is ∙ all.quotient in
      let long : length items ≡ length o.items = ap length is in
      let below : rest / (count / length items) < length o.items = subst (λ k. rest / k < length o.items) (sym same) all.below in
      omega (arith, below, long)

  pub row_goes : (items : List ℕ) (m : Member) (new : Row) → items ≡ o.items → m ≡ member_shown holdings s (get_or items (rest / (count / length items)) 0) → new ≡ row ++ m ∷ []
      → RowSoFar holdings sources oids place (i + 1) (count / length items) (rest % (count / length items)) new
  row_goes items m new is m_is new_is =
      row_turn (count / length items) (get_or items (rest / (count / length items)) 0) m new (ap (λ (xs : List ℕ). count / length xs) is)
      (ap (λ (xs : List ℕ). slice_get xs (rest / (count / length items))) (sym is) ∙ at-place items (rest / (count / length items)) 0 (row_bound items is)) m_is new_is

pub row_ends : (holdings : Holdings) (sources : List CheckedSource) (oids : List Oids) (place i count rest : ℕ) (row : Row) → length sources ≤ i
    → RowSoFar holdings sources oids place i count rest row → slice_get (combinations (members_named holdings sources oids)) place ≡ Some row
row_ends holdings sources oids place i count rest row end so_far =
    let no_sources : drop i sources ≡ [] = drop_all i sources end in
    let no_oids : drop i oids ≡ [] = drop_all i oids (omega (arith, end, so_far.each_source)) in
    let one : count ≡ 1 = so_far.counted ∙ ap row_count no_oids in
    let first : rest ≡ 0 = omega (arith, one, so_far.within) in
    so_far.begun []
    (ap (λ xs. slice_get (combinations (members_named holdings xs (drop i oids))) rest) no_sources
    ∙ ap (λ xs. slice_get (combinations (members_named holdings [] xs)) rest) no_oids ∙ ap (λ k. slice_get (combinations (members_named holdings [] [])) k) first)
    ∙ ap Some (append-nil row)
