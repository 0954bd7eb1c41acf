-- Rows over databases that agree on tiles have the same stored numbers at each point that the tiles are locked for.
use Rattle.std.proofs.Common.{◌≡◌, ℕ, zero, suc, ℤ, Bool, true, false, if◌then◌else◌, List, [], ◌∷◌, ◌++◌, map, filter, flat_map, length, slice_get, Contains, Option, Some, None, ⊎_elim, true≢false, refl, sym, ap, ◌∙◌, subst, arith}
use Rattle.std.specs.List.{list_any}
use Rattle.std.specs.Cmp.Derive.{both_true}
use Rattle.std.specs.Map.{lookup}
use Rattle.std.specs.Ordering.{int_cmp, is_eq}
use Rattle.std.specs.Cmp.Lexicographic.{slice_cmp}
use Rattle.std.proofs.lemmas.Bool.{cases_Bool, eq-eqb, false_from_ne_true}
use Rattle.std.proofs.lemmas.Map.{lookup-none}
use Rattle.std.proofs.lemmas.Map.Entries.{lookup-filter-keys}
use Rattle.ras_domain.specs.declared.lock.LockName.TheVariants.{Tile}
use Rattle.ras_domain.specs.declared.lock.Mode.TheVariants.{Shared}
use Rattle.ras_domain.specs.Region.{IsIn, points_of, is_empty, is_in}
use Rattle.ras_domain.specs.Boxes.{meet_of}
use Rattle.ras_domain.proofs.Points.{Contains-IsIn, length-from_IsIn}
use Rattle.ras_domain.proofs.PointSets.{IsOrdered-from_IsIn}
use Rattle.ras_grid.specs.Grid.{IsGrid, grid_box, places_meeting, tile_place}
use Rattle.ras_grid.proofs.Tiles.{IsIn-grid_box, length-tile_place}
use Rattle.ras_syntax.specs.declared.types.SetType.{SetType}
use Rattle.ras_syntax.specs.declared.typed.CheckedSource.{CheckedSource}
use Rattle.spec_expressions.specs.Database.{Array, Database, Member, stored_at}
use Rattle.spec_expressions.specs.Eval.{box_in, domains_in}
use Rattle.spec_expressions.specs.Reach.{Reached, reach_of}
use Rattle.spec_expressions.specs.Shape.{Box, shape_of}
use Rattle.spec_expressions.specs.Tree.{Tree}
use Rattle.ras_domain.proofs.BoxTests.{IsIn-is_in, not_empty}
use Rattle.spec_statements.specs.Agree.{Agrees, extents_in, lies_at, stored_in_tile, tile_seen}
use Rattle.spec_statements.specs.Phases.{extents_of, member_tiles, reached_tiles, read_tiles, tile_lock, tiles_met}
use Rattle.spec_statements.specs.Locks.{Lock}
use Rattle.spec_statements.specs.ReachLaw.{Names}
use Rattle.spec_statements.specs.Rows.{Row, environment_of}
use Rattle.law_lists.proofs.Each.{each_weaker, each_contained, each_itself}
use Rattle.law_lists.proofs.Elements.{Contains-map}
use Rattle.law_effects.proofs.Shown.{met_place, same_points}
use Rattle.law_reach.specs.Alike.{AreAlike, IsAlike, StoreSame}
use Rattle.law_reach.proofs.Moves.{IsIn-meet}
use Rattle.law_reach.proofs.Settings.{same_domains}
use Rattle.law_locks.proofs.Pairs.{AreListed, ArePairs, IsPair, pair_seen}
use Rattle.law_locks.proofs.Sides.{each_piece}

-- ---- the tile of a point

-- a box that has a point of the domain meets the point's tile
tile_met : (es : List ℕ) (domain axes : Box) (p : List ℤ) → IsGrid es → length domain ≡ length es → IsIn p axes → IsIn p domain → Contains (tiles_met es domain axes) (tile_place es p)
tile_met es domain axes p grid same within inside =
    let long : length p ≡ length es = length-from_IsIn p domain inside ∙ same in
    let met : IsIn p (meet_of axes domain) = IsIn-meet p axes domain within inside in
    let some : list_any is_empty (meet_of axes domain) ≡ false = not_empty p (meet_of axes domain) met in
    let place_long : length (tile_place es p) ≡ length es = length-tile_place es p long in
    subst (λ b. Contains (if b then [] else places_meeting es (meet_of axes domain)) (tile_place es p)) (sym some)
    (met_place es (tile_place es p) p (meet_of axes domain) grid (IsOrdered-from_IsIn (meet_of axes domain) p met) (sym (length-from_IsIn p (meet_of axes domain) met)
    ∙ long) (omega arith) (IsIn-grid_box es p grid long) met)

-- the point lies in its tile
lies_there : (es : List ℕ) (p : List ℤ) → IsGrid es → length p ≡ length es → lies_at es (tile_place es p) p ≡ true
lies_there es p grid long =
    both_true
    (eq-eqb (length (tile_place es p)) (length es) (length-tile_place es p long)) ((IsIn-is_in p (grid_box es (tile_place es p))).1 (IsIn-grid_box es p grid long))

-- ---- stored numbers

-- nothing is stored outside the domain
stored_outside : (array : Array) (p : List ℤ) → map (λ entry. entry.0) array.stored ≡ points_of array.domain → ¬ IsIn p array.domain → stored_at array p ≡ None
stored_outside array p points outside =
    lookup-none (λ q. is_eq (slice_cmp int_cmp p q)) array.stored
    (each_weaker (Contains array.stored) (λ entry. is_eq (slice_cmp int_cmp p entry.0) ≡ false)
    (λ entry has. false_from_ne_true (is_eq (slice_cmp int_cmp p entry.0)) (λ same.
    let there : Contains (points_of array.domain) entry.0 = subst (λ ps. Contains ps entry.0) points (Contains-map (λ (e : List ℤ × List ℤ). e.0) array.stored entry has) in
    outside (subst (λ q. IsIn q array.domain) (sym (same_points p entry.0 same)) ((Contains-IsIn array.domain entry.0).0 there))))
    array.stored (each_itself array.stored))

-- what a tile stores at its points is what the array stores
pub stored_kept : (array : Array) (p : List ℤ) (test : List ℤ → Bool) → test p ≡ true
    → lookup (λ q. is_eq (slice_cmp int_cmp p q)) (filter (λ entry. test entry.0) array.stored) ≡ stored_at array p
stored_kept array p test passes =
    lookup-filter-keys (λ q. is_eq (slice_cmp int_cmp p q)) test true (λ q same. subst (λ r. test r ≡ true) (same_points p q same) passes) array.stored

tile_same : (k l : ℕ) (x y : List (List ℤ × List ℤ)) → tile_seen k x ≡ tile_seen l y → x ≡ y
tile_same k l x y is = cc

module _ (types : List SetType) (one other : Database) (list : List Lock) (agrees : Agrees types list one other) where
  -- where the point's tile is locked
  stored_inside : (source : CheckedSource) (a b : Member) (p : List ℤ) → IsPair types one other source a b → IsIn p a.array.domain
      → Names list (Tile source.collection a.oid (record { items = tile_place source.of.extents.items p })) → stored_at a.array p ≡ stored_at b.array p
  stored_inside source a b p pair inside named =
      let es : List ℕ = source.of.extents.items in
      let place : List ℤ = tile_place es p in
      let long : length p ≡ length es = length-from_IsIn p a.array.domain inside ∙ pair.left.array.axes ∙ sym pair.over.type.each_extent in
      let test : List ℤ → Bool = lies_at es place in
      let passes : test p ≡ true = lies_there es p pair.over.type.some_extent long in
      let seen : stored_in_tile types pair.over.first place a.array ≡ stored_in_tile types pair.over.second place b.array =
      pair_seen types one other source a b pair (λ collection. stored_in_tile types collection place) (agrees (Tile source.collection a.oid (record { items = place })) named.0 named.1) in
      let left : filter (λ (entry : List ℤ × List ℤ). lies_at (extents_in (slice_get types pair.over.first.set_type)) place entry.0) a.array.stored ≡ filter
      (λ (entry : List ℤ × List ℤ). lies_at (extents_in (slice_get types pair.over.second.set_type)) place entry.0) b.array.stored = tile_same _ _ _ _ seen in
      let same : filter (λ (entry : List ℤ × List ℤ). test entry.0) a.array.stored ≡ filter (λ (entry : List ℤ × List ℤ). test entry.0) b.array.stored =
      subst (λ o. filter (λ (entry : List ℤ × List ℤ). test entry.0) a.array.stored ≡ filter (λ (entry : List ℤ × List ℤ). lies_at (extents_in o) place entry.0)
      b.array.stored) pair.over.second_in.type
      (subst (λ o. filter (λ (entry : List ℤ × List ℤ). lies_at (extents_in o) place entry.0) a.array.stored ≡ filter
      (λ (entry : List ℤ × List ℤ). lies_at (extents_in (slice_get types pair.over.second.set_type)) place entry.0) b.array.stored) pair.over.first_in.type left) in
      sym (stored_kept a.array p test passes) ∙ ap (lookup (λ q. is_eq (slice_cmp int_cmp p q))) same ∙ stored_kept b.array p test passes

  -- where the tiles that a box meets are locked
  stored_same : (source : CheckedSource) (a b : Member) (axes : Box) (p : List ℤ) → IsPair types one other source a b → IsAlike a b → IsIn p axes
      → AreListed list (map (tile_lock source.collection a.oid Shared) (tiles_met (extents_of a) a.array.domain axes))
      → stored_at a.array p ≡ stored_at b.array p
  stored_same source a b axes p pair alike within listed = ⊎_elim
      (λ is. let inside : IsIn p a.array.domain = (IsIn-is_in p a.array.domain).0 is in
      let es : List ℕ = source.of.extents.items in
      let met : Contains (tiles_met es a.array.domain axes) (tile_place es p) =
      tile_met es a.array.domain axes p pair.over.type.some_extent (pair.left.array.axes ∙ sym pair.over.type.each_extent) within inside in
      let here : Contains (tiles_met (extents_of a) a.array.domain axes) (tile_place es p) = subst
      (λ of. Contains (tiles_met of.extents.items a.array.domain axes) (tile_place es p)) (sym pair.left.of) met in
      stored_inside source a b p pair inside
      (each_contained (λ lock. Names list lock.0) (map (tile_lock source.collection a.oid Shared) (tiles_met (extents_of a) a.array.domain axes))
      (tile_lock source.collection a.oid Shared (tile_place es p)) listed
      (Contains-map (tile_lock source.collection a.oid Shared) (tiles_met (extents_of a) a.array.domain axes) (tile_place es p) here)))
      (λ is. let outside : ¬ IsIn p a.array.domain = λ inside. true≢false (sym ((IsIn-is_in p a.array.domain).1 inside) ∙ is) in
      stored_outside a.array p pair.left.array.each_point outside
      ∙ sym (stored_outside b.array p pair.right.array.each_point (λ inside. outside (subst (IsIn p) (sym alike.domain) inside))))
      (cases_Bool (is_in p a.array.domain))

  -- ---- rows

  -- the members at a place are a pair
  pair_at : (sources : List CheckedSource) (r s : Row) (i : ℕ) (a b : Member) → ArePairs types one other sources r s → AreAlike r s → slice_get r i ≡ Some a
      → slice_get s i ≡ Some b → (source : CheckedSource) × (slice_get sources i ≡ Some source) × IsPair types one other source a b × IsAlike a b
  pair_at [] [] [] i a b pairs alike left right = absurd cc
  pair_at [] [] (y ∷ ys) i a b pairs alike left right = absurd pairs
  pair_at [] (x ∷ xs) ys i a b pairs alike left right = absurd pairs
  pair_at (source ∷ sources) [] ys i a b pairs alike left right = absurd pairs
  pair_at (source ∷ sources) (x ∷ xs) [] i a b pairs alike left right = absurd pairs
  pair_at (source ∷ sources) (x ∷ xs) (y ∷ ys) zero a b pairs alike left right =
      let e : x ≡ a = cc in
      let f : y ≡ b = cc in
      (source, refl, subst (λ m. IsPair types one other source m b) e (subst (IsPair types one other source x) f pairs.0), subst (λ m. IsAlike m b) e (subst (IsAlike x) f alike.0))
  pair_at (source ∷ sources) (x ∷ xs) (y ∷ ys) (suc i) a b pairs alike left right = pair_at sources xs ys i a b pairs.1 alike.1 left right

  reach_same : (sources : List CheckedSource) (r s : Row) (reached : Reached) → ArePairs types one other sources r s → AreAlike r s
      → AreListed list (flat_map (reached_tiles sources r) reached) → StoreSame r s reached
  reach_same sources r s reached pairs alike listed place axes p a b has within left right =
      let (source, at, pair, like) = pair_at sources r s place a b pairs alike left right in
      let here : AreListed list (reached_tiles sources r (place, axes)) =
      each_contained (λ x. AreListed list (reached_tiles sources r x)) reached (place, axes) (each_piece (λ lock. Names list lock.0) (reached_tiles sources r) reached listed) has in
      stored_same source a b axes p pair like within (subst (λ (o : Option Member). AreListed list (member_tiles (Some source) o axes)) left
      (subst (λ (o : Option CheckedSource). AreListed list (member_tiles o (slice_get r place) axes)) at here))

  -- what is read of an expression in a row
  pub read_same : (sources : List CheckedSource) (e : Tree) (k : ℕ) (r s : Row) → ArePairs types one other sources r s → AreAlike r s → AreListed list (read_tiles sources e (k, r))
      → StoreSame r s (reach_of (domains_in (environment_of r)) [] e (box_in (shape_of (domains_in (environment_of r)) e)))
  read_same sources e k r s pairs alike listed = reach_same sources r s _ pairs alike listed

-- ---- the same tiles are read

abbrev AreAlikeOptions : Option Member → Option Member → Type 0
AreAlikeOptions None None = Unit {0}
AreAlikeOptions (Some a) (Some b) = IsAlike a b
AreAlikeOptions None (Some b) = ⊥
AreAlikeOptions (Some a) None = ⊥

alike_at : (r s : Row) (i : ℕ) → AreAlike r s → AreAlikeOptions (slice_get r i) (slice_get s i)
alike_at [] [] i alike = tt
alike_at [] (b ∷ bs) i alike = absurd alike
alike_at (a ∷ as_) [] i alike = absurd alike
alike_at (a ∷ as_) (b ∷ bs) zero alike = alike.0
alike_at (a ∷ as_) (b ∷ bs) (suc i) alike = alike_at as_ bs i alike.1

tiles_same : (source : Option CheckedSource) (a b : Option Member) (axes : Box) → AreAlikeOptions a b → member_tiles source a axes ≡ member_tiles source b axes
tiles_same None a b axes alike = refl
tiles_same (Some source) None None axes alike = refl
tiles_same (Some source) None (Some b) axes alike = absurd alike
tiles_same (Some source) (Some a) None axes alike = absurd alike
tiles_same (Some source) (Some a) (Some b) axes alike = λ i. map (tile_lock source.collection (alike.oid i) Shared) (tiles_met (alike.of i).extents.items (alike.domain i) axes)

reached_same : (sources : List CheckedSource) (r s : Row) (reached : Reached) → AreAlike r s → flat_map (reached_tiles sources r) reached ≡ flat_map (reached_tiles sources s) reached
reached_same sources r s [] alike = refl
reached_same sources r s (x ∷ reached) alike =
    let first : reached_tiles sources r x ≡ reached_tiles sources s x = tiles_same (slice_get sources x.0) (slice_get r x.0) (slice_get s x.0) x.1 (alike_at r s x.0 alike) in
    let rest : flat_map (reached_tiles sources r) reached ≡ flat_map (reached_tiles sources s) reached = reached_same sources r s reached alike in
    λ i. first i ++ rest i

pub domains_same : (r s : Row) → AreAlike r s → domains_in (environment_of r) ≡ domains_in (environment_of s)
domains_same r s alike = sym (same_domains r s alike)

pub read_tiles_same : (sources : List CheckedSource) (e : Tree) (k : ℕ) (r s : Row) → AreAlike r s → read_tiles sources e (k, r) ≡ read_tiles sources e (k, s)
read_tiles_same sources e k r s alike =
    reached_same sources r s (reach_of (domains_in (environment_of r)) [] e (box_in (shape_of (domains_in (environment_of r)) e))) alike
    ∙ ap (λ domains. flat_map (reached_tiles sources s) (reach_of domains [] e (box_in (shape_of domains e)))) (domains_same r s alike)
