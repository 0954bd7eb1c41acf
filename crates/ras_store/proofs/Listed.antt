-- Changes one after another, and the names of the collections that are there.
use Rattle.std.proofs.Common.{◌≡◌, ◌↔◌, ℕ, inl, inr, Bool, true, false, cond, List, [], ◌∷◌, ◌++◌, Contains, Option, Some, None, refl, sym, ap, subst, ◌∙◌, arith, Ordering, Less}
use Rattle.std.specs.BTreeMap.{IsOrdered, is_at}
use Rattle.std.specs.Cmp.{IsTotalOrder, nat_cmp_total}
use Rattle.std.specs.Cmp.Lexicographic.{slice_cmp}
use Rattle.std.specs.List.{AllByRecursion}
use Rattle.std.specs.List.Sorted.{IsStrictlySortedBy}
use Rattle.std.specs.Map.{keys_of, lookup}
use Rattle.std.specs.Option.{option_map, is_some, IsSome}
use Rattle.std.specs.Ordering.{is_eq, nat_cmp, ordering_reverse}
use Rattle.std.proofs.lemmas.Cmp.{lists_total, tied_itself}
use Rattle.std.proofs.lemmas.Map.Lookups.{exact_bytes}
use Rattle.std.proofs.lemmas.Map.Views.{tells_apart}
use Rattle.law_lists.proofs.Each.{each_contained}
use Rattle.law_lists.proofs.Elements.{Contains-here, Contains-there, first_or_later}
use Rattle.ras_domain.specs.declared.lock.LockName.{LockName}
use Rattle.ras_domain.specs.declared.lock.LockName.TheVariants.{Collection}
use Rattle.ras_store.specs.declared.change.Change.{Change}
use Rattle.ras_store.specs.declared.collection.CollectionInfo.{CollectionInfo}
use Rattle.ras_store.specs.declared.collection.KeptCollection.{KeptCollection}
use Rattle.ras_store.specs.declared.contents.Contents.{Contents}
use Rattle.ras_store.specs.Kept.{Kept, changed_by, changed_by_all, collection_kept, info_in, kept_in}

-- one change more
pub changed_by_all-push : (changes : List Change) (change : Change) (name : LockName) (kept : Option Kept)
    → changed_by_all (changes ++ change ∷ []) name kept ≡ changed_by change name (changed_by_all changes name kept)
changed_by_all-push [] change name kept = refl
changed_by_all-push (first ∷ changes) change name kept = changed_by_all-push changes change name (changed_by first name kept)

-- ---- the names of the collections whose information is kept

abbrev pub by_name : List ℕ → List ℕ → Ordering
by_name = slice_cmp nat_cmp

pub by_name_total : IsTotalOrder by_name
by_name_total = lists_total nat_cmp_total

abbrev pub Entry : Type 0
Entry = List ℕ × KeptCollection

abbrev pub named : List Entry → List (List ℕ)
named [] = []
named (e ∷ es) = cond (is_some e.1.info) (e.0 ∷ named es) (named es)

push_at : (b : Bool) (n : List ℕ) (rest more : List (List ℕ)) → cond b (n ∷ (rest ++ more)) (rest ++ more) ≡ cond b (n ∷ rest) rest ++ more
push_at true n rest more = refl
push_at false n rest more = refl

-- one entry more
pub named-push : (es : List Entry) (e : Entry) → named (es ++ e ∷ []) ≡ named es ++ named (e ∷ [])
named-push [] e = refl
named-push (first ∷ es) e =
    ap (λ rest. cond (is_some first.1.info) (first.0 ∷ rest) rest) (named-push es e) ∙ push_at (is_some first.1.info) first.0 (named es) (named (e ∷ []))

each_at : (P : List ℕ → Type 0) (b : Bool) (n : List ℕ) (rest : List (List ℕ)) → P n → AllByRecursion P rest → AllByRecursion P (cond b (n ∷ rest) rest)
each_at P true n rest here later = (here, later)
each_at P false n rest here later = later

each-named : (P : List ℕ → Type 0) (es : List Entry) → AllByRecursion P (keys_of es) → AllByRecursion P (named es)
each-named P [] all = tt
each-named P (e ∷ es) all = each_at P (is_some e.1.info) e.0 (named es) all.0 (each-named P es all.1)

sorted_at : (b : Bool) (n : List ℕ) (rest : List (List ℕ)) → AllByRecursion (λ m. by_name n m ≡ Less) rest → IsStrictlySortedBy by_name rest → IsStrictlySortedBy by_name (cond b (n ∷ rest) rest)
unfolding IsStrictlySortedBy
sorted_at true n rest below sorted = (below, sorted)
sorted_at false n rest below sorted = sorted

-- they ascend
pub sorted-named : (es : List Entry) → IsStrictlySortedBy by_name (keys_of es) → IsStrictlySortedBy by_name (named es)
unfolding IsStrictlySortedBy
sorted-named [] sorted = tt
sorted-named (e ∷ es) sorted =
    sorted_at (is_some e.1.info) e.0 (named es) (each-named (λ m. by_name e.0 m ≡ Less) es sorted.0) (sorted-named es sorted.1)

abbrev has_info : Option KeptCollection → Bool
has_info o = is_some (info_in o)

abbrev at_name : List Entry → List ℕ → Option KeptCollection
at_name es q = lookup (is_at (by_name q)) es

-- an entry that isn't the first of a name is found behind it
behind : (e : Entry) (es : List Entry) (q : List ℕ) → by_name e.0 q ≡ Less → at_name (e ∷ es) q ≡ at_name es q
behind e es q less = ap (λ r. cond (is_eq r) (Some e.1) (at_name es q)) (by_name_total.antisymm q e.0 ∙ ap ordering_reverse less)

ahead : (e : Entry) (es : List Entry) (q : List ℕ) → e.0 ≡ q → at_name (e ∷ es) q ≡ Some e.1
ahead e es q same = ap (λ n. cond (is_eq (by_name q n)) (Some e.1) (at_name es q)) same ∙ ap (λ r. cond (is_eq r) (Some e.1) (at_name es q)) (tied_itself by_name_total q)

-- a name that is listed is that of a collection whose information is kept
pub found-named : (es : List Entry) (q : List ℕ) → IsStrictlySortedBy by_name (keys_of es) → Contains (named es) q → has_info (at_name es q) ≡ true
unfolding IsStrictlySortedBy
found-named [] q sorted has = absurd (omega (arith, has.1))
found-named (e ∷ es) q sorted has =
    at (is_some e.1.info) refl has
    (λ rest. ap has_info (behind e es q (each_contained (λ m. by_name e.0 m ≡ Less) (named es) q (each-named (λ m. by_name e.0 m ≡ Less) es sorted.0) rest))
    ∙ found-named es q sorted.1 rest)
  where
    at : (b : Bool) → is_some e.1.info ≡ b → Contains (cond b (e.0 ∷ named es) (named es)) q
        → (Contains (named es) q → has_info (at_name (e ∷ es) q) ≡ true) → has_info (at_name (e ∷ es) q) ≡ true
    at true is rest later = elim (first_or_later q e.0 (named es) rest) [ inl same ↦ ap has_info (ahead e es q same) ∙ is | inr more ↦ later more ]
    at false is rest later = later rest

listed_at : (b : Bool) (n : List ℕ) (rest : List (List ℕ)) (q : List ℕ) → Contains rest q → Contains (cond b (n ∷ rest) rest) q
listed_at true n rest q has = Contains-there q n rest has
listed_at false n rest q has = has

-- and each such name is listed
pub listed-named : (es : List Entry) (q : List ℕ) → has_info (at_name es q) ≡ true → Contains (named es) q
listed-named [] q has = absurd (cc)
listed-named (e ∷ es) q has = at (is_at (by_name q) e.0) refl has (listed-named es q)
  where
    at : (b : Bool) → is_at (by_name q) e.0 ≡ b → has_info (cond b (Some e.1) (at_name es q)) ≡ true → (has_info (at_name es q) ≡ true → Contains (named es) q) → Contains (named (e ∷ es)) q
    at true is there rest =
        subst (λ b. Contains (cond b (e.0 ∷ named es) (named es)) q) (sym there)
        (subst (λ n. Contains (e.0 ∷ named es) n) (sym (tells_apart exact_bytes q e.0 is)) (Contains-here e.0 (named es)))
    at false is there rest = listed_at (is_some e.1.info) e.0 (named es) q (rest there)

some_kept : (o : Option CollectionInfo) → is_some (option_map collection_kept o) ≡ is_some o
some_kept None = refl
some_kept (Some i) = refl

-- the names are those under which a collection is kept
pub named-kept : (contents : Contents) (q : List ℕ) → IsOrdered by_name contents.collections
    → Contains (named contents.collections.entries) q ↔ IsSome (kept_in contents (Collection q))
named-kept contents q sorted = (
  λ has. some_kept (info_in (at_name contents.collections.entries q)) ∙ found-named contents.collections.entries q sorted has,
  λ some. listed-named contents.collections.entries q (sym (some_kept (info_in (at_name contents.collections.entries q))) ∙ some),
)
