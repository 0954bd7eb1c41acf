-- The loops of the walk: parts side by side, parts of a concat, and the positions of an index.
use Rattle.std.proofs.Common.{◌≡◌, ℕ, suc, ◌+◌, ◌-◌, ◌<◌, ◌≤◌, get_or, ℤ, List, [], ◌∷◌, ◌++◌, length, map, take, drop, Option, Some, None, Result, Ok, Err, Bool, true, false, refl, sym}
use Rattle.std.proofs.Common.{ap, ap₂, ◌∙◌, subst, arith}
use Rattle.std.specs.Prelude.{if◌then◌else◌}
use Rattle.std.proofs.Math.Seq.{drop-cons, take-append_seam}
use Rattle.arrayvec.specs.ArrayVec.{ArrayVec}
use Rattle.std.proofs.lemmas.List.{append-nil, append_assoc, drop_all, length_push, take_all}
use Rattle.ras_cells.specs.declared.cell.Cell.{Cell}
use Rattle.ras_cells.specs.declared.cell.Cell.TheVariants.{Null, Value}
use Rattle.ras_cells.specs.declared.cell.CellFault.{CellFault}
use Rattle.ras_cells.specs.declared.cell.CellFault.TheVariants.{IndexOut}
use Rattle.ras_cells.specs.Outcomes.{◌>>=◌}
use Rattle.ras_domain.specs.Region.{is_in}
use Rattle.spec_expressions.specs.Database.{Member}
use Rattle.spec_expressions.specs.Eval.{CellOutcome, composite_of, with_component, position_in, with_position, moved_between}
use Rattle.ras_values.specs.declared.error.CellError.{CellError}
use Rattle.ras_values.specs.declared.error.CellError.TheVariants.{Fault, Memory}
use Rattle.ras_values.specs.Folding.{added_to}
use Rattle.ras_values.specs.Given.{GivesCell, GivesSeen, StopsWith, point_seen}
use Rattle.ras_values.specs.Nodes.{NodeCells, PartCells, axes_kept, cells_of_node, composed_of, each_cell, joined_at, node_step, part_cells, part_step, position_cells, position_step}
use Rattle.ras_values.specs.Nodes.{positions_by, seen_at}
use Rattle.ras_values.specs.declared.node.Node.{Node}
use Rattle.ras_values.specs.declared.node.Node.TheOpen.{Position-F}
use Rattle.ras_values.specs.declared.node.Part.{Part, out-Part, fold_out-Part}
use Rattle.ras_values.specs.declared.node.Position.{Position, fold-roll-Position}
use Rattle.ras_values.specs.declared.node.Position.TheVariants as ps

-- without the last one of a list that was longer by one
pub take_back : {A : Type 0} (xs ys : List A) (x : A) → ys ≡ xs ++ x ∷ [] → take (length ys - 1) ys ≡ xs
take_back xs ys x e =
    let one : length ys - 1 ≡ length xs = omega (arith, ap length e ∙ length_push xs x) in
    rw one (rw e (take-append_seam xs (x ∷ [])))

-- the items from a place on
pub from_item : {A : Type 0} (xs : List A) (i : ℕ) (x : A) → i < length xs → x ≡ get_or xs i x → drop i xs ≡ x ∷ drop (i + 1) xs
from_item xs i x within is =
    let next : suc i ≡ i + 1 = omega arith in
    drop-cons xs i x within ∙ ap (λ y. y ∷ drop (suc i) xs) (sym is) ∙ ap (λ n. x ∷ drop n xs) next

-- the first item, whatever stands for none
pub get_first : {A : Type 0} (xs : List A) (d e : A) → 1 ≤ length xs → get_or xs 0 d ≡ get_or xs 0 e
get_first [] d e some = absurd (omega (arith, some))
get_first (x ∷ xs) d e some = refl

-- ---- what follows from a look

pub look_some : (cells : List ℤ → CellOutcome) (q : Result (Option (ArrayVec ℤ)) CellError) (v : ArrayVec ℤ) (result : Result Cell CellError) → q ≡ Ok (Some v) → GivesCell (cells v.items) result
    → (wanted : Result (Option (List ℤ)) CellFault) → GivesSeen point_seen wanted q → GivesCell (seen_at cells wanted) result
look_some cells q v result is k wanted h =
    let found : wanted ≡ Ok (Some v.items) = subst (λ r. GivesSeen point_seen wanted r) is h in
    subst (λ r. GivesCell (seen_at cells r) result) (sym found) k

pub look_none : (cells : List ℤ → CellOutcome) (q : Result (Option (ArrayVec ℤ)) CellError) → q ≡ Ok None
    → (wanted : Result (Option (List ℤ)) CellFault) → GivesSeen point_seen wanted q → seen_at cells wanted ≡ Ok Null
look_none cells q is wanted h =
    let found : wanted ≡ Ok None = subst (λ r. GivesSeen point_seen wanted r) is h in
    ap (seen_at cells) found

look-stops : (cells : List ℤ → CellOutcome) (e : CellError) (wanted : Result (Option (List ℤ)) CellFault) → StopsWith wanted e → StopsWith (seen_at cells wanted) e
look-stops cells (Fault f) wanted h = ap (seen_at cells) h
look-stops cells Memory wanted h = tt

pub look_error : (cells : List ℤ → CellOutcome) (q : Result (Option (ArrayVec ℤ)) CellError) (e : CellError) → q ≡ Err e
    → (wanted : Result (Option (List ℤ)) CellFault) → GivesSeen point_seen wanted q → StopsWith (seen_at cells wanted) e
look_error cells q e is wanted h = look-stops cells e wanted (subst (λ r. GivesSeen point_seen wanted r) is h)

-- ---- parts side by side

-- the cells so far side by side, and then those of the other parts
abbrev pub whole_with : Cell → Result (List Cell) CellFault → CellOutcome
whole_with whole cells = do
  xs ← cells
  Ok (with_component whole (composite_of xs))

nothing-first : (x : Cell) → with_component (Value (record { items = [] })) x ≡ x
nothing-first Null = refl
nothing-first (Value v) = refl

component-assoc : (a b c : Cell) → with_component a (with_component b c) ≡ with_component (with_component a b) c
component-assoc Null b c = refl
component-assoc (Value a) Null c = refl
component-assoc (Value a) (Value b) Null = refl
component-assoc (Value a) (Value b) (Value c) = ap (λ xs. Value (record { items = xs })) (sym (append_assoc a.items b.items c.items))

nothing-last : (x : Cell) → with_component x (Value (record { items = [] })) ≡ x
nothing-last Null = refl
nothing-last (Value v) = ap (λ xs. Value (record { items = xs })) (append-nil v.items)

pub whole_first : (cells : Result (List Cell) CellFault) → composed_of cells ≡ whole_with (Value (record { items = [] })) cells
whole_first (Ok xs) = ap Ok (sym (nothing-first (composite_of xs)))
whole_first (Err f) = refl

whole-turn : (whole x : Cell) (r : Result (List Cell) CellFault) → whole_with whole (r >>= λ xs. Ok (x ∷ xs)) ≡ whole_with (with_component whole x) r
whole-turn whole x (Ok xs) = ap Ok (component-assoc whole x (composite_of xs))
whole-turn whole x (Err f) = refl

module _ (row : List Member) (points : List (List ℤ)) (p : List ℤ) where
  pub whole_more : (whole x both : Cell) (e : NodeCells) (es : List NodeCells) → e row points p ≡ Ok x → both ≡ with_component whole x
      → whole_with whole (each_cell (e ∷ es) row points p) ≡ whole_with both (each_cell es row points p)
  whole_more whole x both e es is more =
      ap (λ (o : CellOutcome). whole_with whole (o >>= λ x. each_cell es row points p >>= λ xs. Ok (x ∷ xs))) is ∙ whole-turn whole x (each_cell es row points p)
      ∙ ap (λ w. whole_with w (each_cell es row points p)) (sym more)

  pub whole_stop : (whole : Cell) (error : CellError) (e : NodeCells) (es : List NodeCells) → StopsWith (e row points p) error → StopsWith (whole_with whole (each_cell (e ∷ es) row points p)) error
  whole_stop whole (Fault f) e es h = ap (λ (o : CellOutcome). whole_with whole (o >>= λ x. each_cell es row points p >>= λ xs. Ok (x ∷ xs))) h
  whole_stop whole Memory e es h = tt

whole_end : (whole : Cell) → whole_with whole (Ok []) ≡ Ok whole
whole_end whole = ap Ok (nothing-last whole)

pub whole_start : (numbers : ArrayVec ℤ) → numbers.items ≡ [] → (cells : Result (List Cell) CellFault) → composed_of cells ≡ whole_with (Value numbers) cells
whole_start numbers none cells = whole_first cells ∙ ap (λ xs. whole_with (Value (record { items = xs })) cells) (sym none)

module _ (row : List Member) (points : List (List ℤ)) (p : List ℤ) where
  pub whole_next : (parts : List Node) (i : ℕ) (x : Node) (whole both v : Cell) (total : CellOutcome) → i < length parts → x ≡ get_or parts i x → cells_of_node x row points p ≡ Ok v
      → both ≡ with_component whole v → total ≡ whole_with whole (each_cell (map cells_of_node (drop i parts)) row points p)
      → total ≡ whole_with both (each_cell (map cells_of_node (drop (i + 1) parts)) row points p)
  whole_next parts i x whole both v total within is cell more so_far =
      so_far ∙ ap (λ xs. whole_with whole (each_cell (map cells_of_node xs) row points p)) (from_item parts i x within is)
      ∙ whole_more row points p whole v both (cells_of_node x) (map cells_of_node (drop (i + 1) parts)) cell more

  pub whole_error : (parts : List Node) (i : ℕ) (x : Node) (whole : Cell) (e : CellError) (total : CellOutcome) → i < length parts → x ≡ get_or parts i x
      → StopsWith (cells_of_node x row points p) e → total ≡ whole_with whole (each_cell (map cells_of_node (drop i parts)) row points p) → StopsWith total e
  whole_error parts i x whole e total within is stops so_far =
      subst (λ r. StopsWith r e) (sym (so_far ∙ ap (λ xs. whole_with whole (each_cell (map cells_of_node xs) row points p)) (from_item parts i x within is)))
      (whole_stop row points p whole e (cells_of_node x) (map cells_of_node (drop (i + 1) parts)) stops)

  pub whole_over : (parts : List Node) (i : ℕ) (whole : Cell) (total : CellOutcome) → length parts ≤ i
      → total ≡ whole_with whole (each_cell (map cells_of_node (drop i parts)) row points p) → total ≡ Ok whole
  whole_over parts i whole total past so_far =
      so_far ∙ ap (λ xs. whole_with whole (each_cell (map cells_of_node xs) row points p)) (drop_all i parts past) ∙ whole_end whole

-- ---- positions

-- the coordinates so far, and then the others
abbrev pub point_before : Option (List ℤ) → Option (List ℤ) → Option (List ℤ)
point_before None rest = None
point_before (Some xs) None = None
point_before (Some xs) (Some ys) = Some (xs ++ ys)

abbrev pub point_with : Option (List ℤ) → Result (Option (List ℤ)) CellFault → Result (Option (List ℤ)) CellFault
point_with q rest = do
  more ← rest
  Ok (point_before q more)

no-first : (q : Option (List ℤ)) → point_before (Some []) q ≡ q
no-first None = refl
no-first (Some xs) = refl

pub point_first : (r : Result (Option (List ℤ)) CellFault) → r ≡ point_with (Some []) r
point_first (Ok q) = ap Ok (sym (no-first q))
point_first (Err f) = refl

before-assoc : (q : Option (List ℤ)) (z : Option ℤ) (rest : Option (List ℤ)) → point_before q (with_position z rest) ≡ point_before (added_to q z) rest
before-assoc None z rest = refl
before-assoc (Some xs) None rest = refl
before-assoc (Some xs) (Some z) None = refl
before-assoc (Some xs) (Some z) (Some ys) = ap Some (sym (append_assoc xs (z ∷ []) ys))

point-turn : (q : Option (List ℤ)) (z : Option ℤ) (r : Result (Option (List ℤ)) CellFault) → point_with q (r >>= λ rest. Ok (with_position z rest)) ≡ point_with (added_to q z) r
point-turn q z (Ok rest) = ap Ok (before-assoc q z rest)
point-turn q z (Err f) = refl

no-last : (q : Option (List ℤ)) → point_before q (Some []) ≡ q
no-last None = refl
no-last (Some xs) = ap Some (append-nil xs)

pub point_end : (q : Option (List ℤ)) → point_with q (Ok (Some [])) ≡ Ok q
point_end q = ap Ok (no-last q)

module _ (row : List Member) (points : List (List ℤ)) where
  pub point_number : (q more : Option (List ℤ)) (x : Cell) (e : NodeCells) (positions : List (Option NodeCells)) (p : List ℤ) → e row points [] ≡ Ok x → more ≡ added_to q (position_in x)
      → point_with q (positions_by (Some e ∷ positions) row points p) ≡ point_with more (positions_by positions row points p)
  point_number q more x e positions p is next =
      ap (λ (o : CellOutcome). point_with q (o >>= λ x. positions_by positions row points p >>= λ rest. Ok (with_position (position_in x) rest))) is
      ∙ point-turn q (position_in x) (positions_by positions row points p) ∙ ap (λ q. point_with q (positions_by positions row points p)) (sym next)

  pub point_number_stop : (q : Option (List ℤ)) (error : CellError) (e : NodeCells) (positions : List (Option NodeCells)) (p : List ℤ) → StopsWith (e row points []) error
      → StopsWith (point_with q (positions_by (Some e ∷ positions) row points p)) error
  point_number_stop q (Fault f) e positions p h =
      ap (λ (o : CellOutcome). point_with q (o >>= λ x. positions_by positions row points p >>= λ rest. Ok (with_position (position_in x) rest))) h
  point_number_stop q Memory e positions p h = tt

  pub point_kept : (q more : Option (List ℤ)) (c : ℤ) (positions : List (Option NodeCells)) (p : List ℤ) → more ≡ added_to q (Some c)
      → point_with q (positions_by (None ∷ positions) row points (c ∷ p)) ≡ point_with more (positions_by positions row points p)
  point_kept q more c positions p next =
      point-turn q (Some c) (positions_by positions row points p) ∙ ap (λ q. point_with q (positions_by positions row points p)) (sym next)

pub position_at : (e : Node) → position_cells (ps.At e) ≡ Some (cells_of_node e)
position_at e = ap position_cells (sym (ps.rolls-At e)) ∙ fold-roll-Position NodeCells (Option NodeCells) PartCells node_step position_step part_step (Position-F.At e)

pub position_kept : position_cells ps.Kept ≡ None
position_kept = ap position_cells (sym ps.rolls-Kept) ∙ fold-roll-Position NodeCells (Option NodeCells) PartCells node_step position_step part_step Position-F.Kept

module _ (row : List Member) (points : List (List ℤ)) where
  position-here : (positions : List Position) (i : ℕ) (x y : Position) (layer : Option NodeCells) (left : List ℤ) → i < length positions → x ≡ get_or positions i x → x ≡ y → position_cells y ≡ layer
      → positions_by (map position_cells (drop i positions)) row points left ≡ positions_by (layer ∷ map position_cells (drop (i + 1) positions)) row points left
  position-here positions i x y layer left within is form seen =
      ap (λ xs. positions_by (map position_cells xs) row points left) (from_item positions i x within is)
      ∙ ap (λ l. positions_by (l ∷ map position_cells (drop (i + 1) positions)) row points left) (ap position_cells form ∙ seen)

  pub number_next : (positions : List Position) (i : ℕ) (x : Position) (e : Node) (q more : Option (List ℤ)) (v : Cell) (left : List ℤ) (total : Result (Option (List ℤ)) CellFault)
      → i < length positions
      → x ≡ get_or positions i x → x ≡ ps.At e → cells_of_node e row points [] ≡ Ok v → more ≡ added_to q (position_in v)
      → total ≡ point_with q (positions_by (map position_cells (drop i positions)) row points left)
      → total ≡ point_with more (positions_by (map position_cells (drop (i + 1) positions)) row points left)
  number_next positions i x e q more v left total within is form cell next so_far =
      so_far ∙ ap (point_with q) (position-here positions i x (ps.At e) (Some (cells_of_node e)) left within is form (position_at e))
      ∙ point_number row points q more v (cells_of_node e) (map position_cells (drop (i + 1) positions)) left cell next

  pub number_error : (positions : List Position) (i : ℕ) (x : Position) (e : Node) (q : Option (List ℤ)) (error : CellError) (left : List ℤ) (total : Result (Option (List ℤ)) CellFault)
      → i < length positions → x ≡ get_or positions i x → x ≡ ps.At e → StopsWith (cells_of_node e row points []) error
      → total ≡ point_with q (positions_by (map position_cells (drop i positions)) row points left) → StopsWith total error
  number_error positions i x e q error left total within is form stops so_far =
      subst (λ r. StopsWith r error) (sym (so_far ∙ ap (point_with q) (position-here positions i x (ps.At e) (Some (cells_of_node e)) left within is form (position_at e))))
      (point_number_stop row points q error (cells_of_node e) (map position_cells (drop (i + 1) positions)) left stops)

  split : (left : List ℤ) (z : ℤ) → 1 ≤ length left → z ≡ get_or left 0 z → left ≡ z ∷ take (length left - 1) (drop 1 left)
  split [] z some is = absurd (omega (arith, some))
  split (y ∷ ys) z some is = ap₂ (λ x xs. x ∷ xs) (sym is) (sym (take_all (length (y ∷ ys) - 1) ys (omega arith)))

  pub kept_next : (positions : List Position) (i : ℕ) (x : Position) (q more : Option (List ℤ)) (z : ℤ) (left : List ℤ) (total : Result (Option (List ℤ)) CellFault) → i < length positions
      → x ≡ get_or positions i x → x ≡ ps.Kept → 1 ≤ length left → z ≡ get_or left 0 z → more ≡ added_to q (Some z)
      → total ≡ point_with q (positions_by (map position_cells (drop i positions)) row points left)
      → total ≡ point_with more (positions_by (map position_cells (drop (i + 1) positions)) row points (take (length left - 1) (drop 1 left)))
  kept_next positions i x q more z left total within is form some first next so_far =
      so_far ∙ ap (point_with q) (position-here positions i x ps.Kept None left within is form position_kept)
      ∙ ap (λ l. point_with q (positions_by (None ∷ map position_cells (drop (i + 1) positions)) row points l)) (split left z some first)
      ∙ point_kept row points q more z (map position_cells (drop (i + 1) positions)) (take (length left - 1) (drop 1 left)) next

  nothing-left : (es : List (Option NodeCells)) (left : List ℤ) → length left < 1 → positions_by (None ∷ es) row points left ≡ Ok (Some [])
  nothing-left es [] none = refl
  nothing-left es (c ∷ left) none = absurd (omega (arith, none))

  pub kept_out : (positions : List Position) (i : ℕ) (x : Position) (q : Option (List ℤ)) (left : List ℤ) (total : Result (Option (List ℤ)) CellFault) → i < length positions
      → x ≡ get_or positions i x → x ≡ ps.Kept → length left < 1 → total ≡ point_with q (positions_by (map position_cells (drop i positions)) row points left) → total ≡ Ok q
  kept_out positions i x q left total within is form none so_far =
      so_far ∙ ap (point_with q) (position-here positions i x ps.Kept None left within is form position_kept ∙ nothing-left (map position_cells (drop (i + 1) positions)) left none)
      ∙ point_end q

  pub positions_over : (positions : List Position) (i : ℕ) (q : Option (List ℤ)) (left : List ℤ) (total : Result (Option (List ℤ)) CellFault) → length positions ≤ i
      → total ≡ point_with q (positions_by (map position_cells (drop i positions)) row points left) → total ≡ Ok q
  positions_over positions i q left total past so_far =
      so_far ∙ ap (λ xs. point_with q (positions_by (map position_cells xs) row points left)) (drop_all i positions past) ∙ point_end q

-- ---- parts of a concat

abbrev pub part_layer : Part → PartCells
part_layer x = record { cells = cells_of_node (out-Part x).e; own = axes_kept (out-Part x).own; place = axes_kept (out-Part x).place }

pub part_is : (x : Part) → part_cells x ≡ part_layer x
part_is x = fold_out-Part NodeCells (Option NodeCells) PartCells node_step position_step part_step x

module _ (row : List Member) (points : List (List ℤ)) (p : List ℤ) where
  part-at : (parts : List Part) (i : ℕ) (x : Part) → i < length parts → x ≡ get_or parts i x
      → joined_at (map part_cells (drop i parts)) row points p ≡ joined_at (part_layer x ∷ map part_cells (drop (i + 1) parts)) row points p
  part-at parts i x within is =
      ap (λ xs. joined_at (map part_cells xs) row points p) (from_item parts i x within is)
      ∙ ap (λ y. joined_at (y ∷ map part_cells (drop (i + 1) parts)) row points p) (part_is x)

  pub joined_here : (parts : List Part) (i : ℕ) (x : Part) (b : Bool) (total : CellOutcome) → i < length parts → x ≡ get_or parts i x → b ≡ is_in p (axes_kept (out-Part x).place) → b ≡ true
      → total ≡ joined_at (map part_cells (drop i parts)) row points p
      → total ≡ cells_of_node (out-Part x).e row points (moved_between (axes_kept (out-Part x).place) (axes_kept (out-Part x).own) p)
  joined_here parts i x b total within is found yes_is so_far =
      so_far ∙ part-at parts i x within is
      ∙ ap (λ b. if b then cells_of_node (out-Part x).e row points (moved_between (axes_kept (out-Part x).place) (axes_kept (out-Part x).own) p) else joined_at (map part_cells (drop
      (i + 1) parts)) row points p)
      (sym found ∙ yes_is)

  pub joined_later : (parts : List Part) (i : ℕ) (x : Part) (b : Bool) (total : CellOutcome) → i < length parts → x ≡ get_or parts i x → b ≡ is_in p (axes_kept (out-Part x).place) → b ≡ false
      → total ≡ joined_at (map part_cells (drop i parts)) row points p → total ≡ joined_at (map part_cells (drop (i + 1) parts)) row points p
  joined_later parts i x b total within is found no_is so_far =
      so_far ∙ part-at parts i x within is
      ∙ ap (λ b. if b then cells_of_node (out-Part x).e row points (moved_between (axes_kept (out-Part x).place) (axes_kept (out-Part x).own) p) else joined_at (map part_cells (drop
      (i + 1) parts)) row points p)
      (sym found ∙ no_is)

  pub joined_over : (parts : List Part) (i : ℕ) (total : CellOutcome) → length parts ≤ i → total ≡ joined_at (map part_cells (drop i parts)) row points p → total ≡ Err IndexOut
  joined_over parts i total past so_far = so_far ∙ ap (λ xs. joined_at (map part_cells xs) row points p) (drop_all i parts past)
