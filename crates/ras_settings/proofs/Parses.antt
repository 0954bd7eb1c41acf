-- A parse of words of the form: it fails for want of memory alone, and finds the command's name and the value
-- of each option.
use Rattle.ras_settings.proofs.Forms.{not_given}
use Rattle.ras_settings.proofs.Booleans.{and_true, neither}
use Rattle.std.proofs.Common.{◌≡◌, ◌≢◌, ◌∙◌, ◌&&◌, ◌==◌, ℕ, Bool, true, false, cond, refl, sym, ap, subst, List, [], ◌∷◌, ◌++◌, map, drop, Option, Some, None, codes, ne_eqb, append_assoc, append-nil}
use Rattle.std.specs.Prelude.{fold, is_some}
use Rattle.std.specs.List.{flat_map, list_all}
use Rattle.std.specs.Str.{bytes_eq}
use Rattle.clap.proofs.WalkLemmas.{first_value-rows}
use Rattle.clap.specs.Values.{reading_of}
use Rattle.clap.specs.declared.parser.matches.Found.{Found}
use Rattle.ras_settings.specs.Values.{Finds}
use Rattle.clap.specs.Walk.{Row, Rule, Text, Walk, idle, option, at_row, finished, first_of, has_row, more_values, nothing_held, rows_of, settled_rows, walk, walk_from, walked, with_default, with_values, without}
use Rattle.clap.specs.Simple.{App, Shape, built, entered, is_simple, matches_of}
use Rattle.clap.specs.Takes.{default_passes, entered_passes, is_valid, settle_passes, takes, turn_passes, walk_passes}
use Rattle.clap.specs.declared.builder.value_parser.ValueParser.TheVariants as vp
use Rattle.clap.specs.declared.parser.matches.ValueSource.TheVariants.{CommandLine}
use Rattle.ras_settings.specs.declared.form.OptionName.{OptionName}
use Rattle.ras_settings.specs.declared.form.OptionName.TheVariants.{Workers, Schedule, Seed, Size}
use Rattle.ras_settings.specs.Form.{ArePairs, Given, HasForm, HasSomeForm, is_same_option, option_word, pair_words, given_value}
use Rattle.ras_settings.specs.App.{id_of, words_app}

abbrev top : Shape
top = (built words_app).top

abbrev args : List Rule
args = top.rules

-- what the parse keeps of a word
abbrev row : Text → Text → Row
row id value = record { id = id; values = value ∷ []; count = None; source = Some CommandLine; reading = reading_of vp.String }

abbrev pair_row : OptionName × Text → Row
pair_row pair = row (id_of pair.0) pair.1

abbrev name_row : Text → Row
name_row command = row (codes "command") command

-- between two pairs: the last word waits to be kept
abbrev between : List Row → Text × List Text → Walk
between rows pending = record {
  held = record { rows = rows; pending = Some pending; skip = 0 };
  waiting = idle;
  position = 2;
  is_trailing = false;
  stopped = None;
}

-- between an option and its value
abbrev within : List Row → Text → Walk
within rows id = record {
  held = record { rows = rows; pending = Some (id, []); skip = 0 };
  waiting = option id;
  position = 2;
  is_trailing = false;
  stopped = None;
}

opens : (name : OptionName) (rows : List Row) (pending : Text × List Text)
    → walked args [] (between rows pending) (option_word name) ≡ within (settled_rows args (Some pending) rows) (id_of name)
unfolding walked
opens Workers rows pending = refl
opens Schedule rows pending = refl
opens Seed rows pending = refl
opens Size rows pending = refl

closes : (name : OptionName) (rows : List Row) (first : ℕ) (rest : Text) → (first == 45) ≡ false
    → walked args [] (within rows (id_of name)) (first ∷ rest) ≡ between rows (id_of name, (first ∷ rest) ∷ [])
unfolding walked
closes Workers rows first rest ne = rw (ne, ne) refl
closes Schedule rows first rest ne = rw (ne, ne) refl
closes Seed rows first rest ne = rw (ne, ne) refl
closes Size rows first rest ne = rw (ne, ne) refl

begins : (first : ℕ) (rest : Text) → (first == 45) ≡ false
    → walked args [] (walk_from nothing_held) (first ∷ rest) ≡ between [] (codes "command", (first ∷ rest) ∷ [])
unfolding walked
begins first rest ne = rw (ne, ne) refl

-- ---- the rows

new_at : (id : Text) (change : Row → List Row) (missing rows : List Row) → has_row id rows ≡ false → at_row id change missing rows ≡ rows ++ missing
new_at id change missing [] none = refl
new_at id change missing (r ∷ rs) none =
    let other = neither (bytes_eq r.id id) _ none in
    let here : bytes_eq r.id id ≡ false = other.0 in
    rw here (ap (λ rest. r ∷ rest) (new_at id change missing rs other.1))

-- a value that was waiting is kept at the end
keeps : (id value : Text) (rows : List Row) → has_row id rows ≡ false
    → with_values id (reading_of vp.String) CommandLine (value ∷ []) (without id rows) ≡ rows ++ row id value ∷ []
keeps id value rows none =
    let less : without id rows ≡ rows = new_at id (λ _. []) [] rows none ∙ append-nil rows in
    ap (with_values id (reading_of vp.String) CommandLine (value ∷ [])) less ∙ new_at id (more_values CommandLine (value ∷ [])) (row id value ∷ []) rows none

settles : (name : OptionName) (value : Text) (rows : List Row) → has_row (id_of name) rows ≡ false
    → settled_rows args (Some (id_of name, value ∷ [])) rows ≡ rows ++ pair_row (name, value) ∷ []
settles Workers value rows none = keeps _ value rows none
settles Schedule value rows none = keeps _ value rows none
settles Seed value rows none = keeps _ value rows none
settles Size value rows none = keeps _ value rows none

-- ---- what passes

abbrev may_settle : List Row → Text × List Text → Bool
may_settle rows pending = settle_passes args false (between rows pending).held

new_may_settle : (name : OptionName) (value : Text) (rows : List Row) → has_row (id_of name) rows ≡ false
    → may_settle rows (id_of name, value ∷ []) ≡ true
new_may_settle Workers value rows none = rw none refl
new_may_settle Schedule value rows none = rw none refl
new_may_settle Seed value rows none = rw none refl
new_may_settle Size value rows none = rw none refl

passes_option : (name : OptionName) (rows : List Row) (pending : Text × List Text) → may_settle rows pending ≡ true
    → turn_passes top [] (between rows pending) (option_word name) ≡ true
passes_option Workers rows pending ok = rw ok refl
passes_option Schedule rows pending ok = rw ok refl
passes_option Seed rows pending ok = rw ok refl
passes_option Size rows pending ok = rw ok refl

passes_value : (name : OptionName) (rows : List Row) (first : ℕ) (rest : Text) → (first == 45) ≡ false
    → turn_passes top [] (within rows (id_of name)) (first ∷ rest) ≡ true
passes_value Workers rows first rest ne = rw (ne, ne) refl
passes_value Schedule rows first rest ne = rw (ne, ne) refl
passes_value Seed rows first rest ne = rw (ne, ne) refl
passes_value Size rows first rest ne = rw (ne, ne) refl

passes_name : (first : ℕ) (rest : Text) → (first == 45) ≡ false
    → turn_passes top [] (walk_from nothing_held) (first ∷ rest) ≡ true
passes_name first rest ne = rw (ne, ne) refl

-- ---- pairs

same_ids : (p q : OptionName) → bytes_eq (id_of p) (id_of q) ≡ is_same_option p q
same_ids Workers Workers = refl
same_ids Workers Schedule = refl
same_ids Workers Seed = refl
same_ids Workers Size = refl
same_ids Schedule Workers = refl
same_ids Schedule Schedule = refl
same_ids Schedule Seed = refl
same_ids Schedule Size = refl
same_ids Seed Workers = refl
same_ids Seed Schedule = refl
same_ids Seed Seed = refl
same_ids Seed Size = refl
same_ids Size Workers = refl
same_ids Size Schedule = refl
same_ids Size Seed = refl
same_ids Size Size = refl

is_same-sym : (p q : OptionName) → is_same_option p q ≡ is_same_option q p
is_same-sym Workers Workers = refl
is_same-sym Workers Schedule = refl
is_same-sym Workers Seed = refl
is_same-sym Workers Size = refl
is_same-sym Schedule Workers = refl
is_same-sym Schedule Schedule = refl
is_same-sym Schedule Seed = refl
is_same-sym Schedule Size = refl
is_same-sym Seed Workers = refl
is_same-sym Seed Schedule = refl
is_same-sym Seed Seed = refl
is_same-sym Seed Size = refl
is_same-sym Size Workers = refl
is_same-sym Size Schedule = refl
is_same-sym Size Seed = refl
is_same-sym Size Size = refl

-- no option of the pairs has a row
abbrev AreNew : Given → List Row → Type 0
AreNew [] rows = Unit {0}
AreNew (pair ∷ rest) rows = (has_row (id_of pair.0) rows ≡ false) × AreNew rest rows

has_row-last : (id : Text) (rows : List Row) (last : Row) → has_row id rows ≡ false → bytes_eq last.id id ≡ false → has_row id (rows ++ last ∷ []) ≡ false
has_row-last id [] last none other = rw other refl
has_row-last id (r ∷ rs) last none other =
    let parts = neither (bytes_eq r.id id) _ none in
    let here : bytes_eq r.id id ≡ false = parts.0 in
    rw here (has_row-last id rs last parts.1 other)

still_new : (given : Given) (rows : List Row) (name : OptionName) (value : Text) → AreNew given rows → given_value name given ≡ None
    → AreNew given (rows ++ pair_row (name, value) ∷ [])
still_new [] rows name value new none = tt
still_new (pair ∷ rest) rows name value new none =
    let parts = not_given pair rest name none in
    let other : bytes_eq (id_of name) (id_of pair.0) ≡ false = same_ids name pair.0 ∙ is_same-sym name pair.0 ∙ parts.0 in
    (has_row-last (id_of pair.0) rows (pair_row (name, value)) new.0 other, still_new rest rows name value new.1 parts.1)

-- where the walk over pairs ends
record Walked (rows : List Row) (pending : Text × List Text) (given : Given) : Type 0 where
  end_rows : List Row
  end_pending : Text × List Text
  walked_to : fold (walked args []) (between rows pending) (flat_map pair_words given) ≡ between end_rows end_pending
  kept : settled_rows args (Some end_pending) end_rows ≡ settled_rows args (Some pending) rows ++ map pair_row given
  settled : may_settle end_rows end_pending ≡ true
  passed : walk_passes top [] (between rows pending) (flat_map pair_words given) ≡ true

walk_pairs : (given : Given) (rows : List Row) (pending : Text × List Text) → ArePairs given → AreNew given (settled_rows args (Some pending) rows)
    → may_settle rows pending ≡ true → Walked rows pending given
unfolding walk_passes
walk_pairs [] rows pending pairs new ok = record {
  end_rows = rows;
  end_pending = pending;
  walked_to = refl;
  kept = sym (append-nil (settled_rows args (Some pending) rows));
  settled = ok;
  passed = refl;
}
walk_pairs ((name, []) ∷ rest) rows pending pairs new ok = absurd pairs.0
walk_pairs ((name, first ∷ tail) ∷ rest) rows pending pairs new ok =
    let base = settled_rows args (Some pending) rows in
    let value = first ∷ tail in
    let ne : (first == 45) ≡ false = ne_eqb first 45 pairs.0 in
    let kept = settles name value base new.0 in
    let next = walk_pairs rest base (id_of name, value ∷ []) pairs.2 (subst (AreNew rest) (sym kept) (still_new rest base name value new.1 pairs.1)) (new_may_settle name value base new.0) in
    let opened = opens name rows pending in
    let closed = ap (λ w. walked args [] w value) opened ∙ closes name base first tail ne in
    record {
      end_rows = next.end_rows;
      end_pending = next.end_pending;
      walked_to = ap (λ w. fold (walked args []) w (flat_map pair_words rest)) closed ∙ next.walked_to;
      kept = next.kept ∙ ap (λ r. r ++ map pair_row rest) kept ∙ append_assoc base (pair_row (name, value) ∷ []) (map pair_row rest);
      settled = next.settled;
      passed = and_true _ _ (passes_option name rows pending ok)
          (and_true _ _ (ap (λ w. turn_passes top [] w value) opened ∙ passes_value name base first tail ne)
          (ap (λ w. walk_passes top [] w (flat_map pair_words rest)) closed ∙ next.passed));
    }

-- ---- the whole

same : (b : Bool) (rows : List Row) → cond b rows rows ≡ rows
same true rows = refl
same false rows = refl

-- no argument has a default
finish : (rows : List Row) → fold with_default rows args ≡ rows
finish rows = ap (λ r. fold with_default r (drop 1 args)) (same _ rows) ∙ ap (λ r. fold with_default r (drop 2 args)) (same _ rows)
    ∙ ap (λ r. fold with_default r (drop 3 args)) (same _ rows) ∙ ap (λ r. fold with_default r (drop 4 args)) (same _ rows) ∙ same _ rows

found : (name : OptionName) (given : Given) (value : Option Text) → given_value name given ≡ value → first_of (id_of name) (map pair_row given) ≡ value
found name [] value e = e
found name (pair ∷ rest) value e = go (is_same_option pair.0 name) (same_ids pair.0 name) e (found name rest value)
  where
    go : (b : Bool) → bytes_eq (id_of pair.0) (id_of name) ≡ b → cond b (Some pair.1) (given_value name rest) ≡ value
        → (given_value name rest ≡ value → first_of (id_of name) (map pair_row rest) ≡ value) → first_of (id_of name) (map pair_row (pair ∷ rest)) ≡ value
    go true is v next = rw is v
    go false is v next = rw is (next v)

-- the rows of words of the form
abbrev rows_for : Text → Given → List Row
rows_for command given = name_row command ∷ map pair_row given

-- what the parse asks once the walk has ended
abbrev may_end : List Text → Walk → Bool
may_end words end = entered_passes (built words_app) end.stopped
    && (walk_passes top [] (walk_from nothing_held) words && (settle_passes args false end.held
    && (list_all default_passes args && is_valid top (finished args end.held) (is_some (entered (built words_app) end.stopped)))))

valid_with : (rows : List Row) (command : Text) (given : Given) → rows ≡ rows_for command given → is_valid top rows false ≡ true
valid_with rows command given e = ap (λ r. is_valid top r false) e

new_of : (given : Given) (command : Text) → AreNew given (name_row command ∷ [])
new_of [] command = tt
new_of ((Workers, value) ∷ rest) command = (refl, new_of rest command)
new_of ((Schedule, value) ∷ rest) command = (refl, new_of rest command)
new_of ((Seed, value) ∷ rest) command = (refl, new_of rest command)
new_of ((Size, value) ∷ rest) command = (refl, new_of rest command)

pub record Parsed (words : List Text) (command : Text) (given : Given) : Type 0 where
  pub taken : takes words_app words ≡ true
  pub name : first_of (codes "command") (matches_of words_app words) ≡ Some command
  pub values : (name : OptionName) → first_of (id_of name) (matches_of words_app words) ≡ given_value name given

not_name : (name : OptionName) (command : Text) (given : Given) → first_of (id_of name) (rows_for command given) ≡ first_of (id_of name) (map pair_row given)
not_name Workers command given = refl
not_name Schedule command given = refl
not_name Seed command given = refl
not_name Size command given = refl

whole : (first : ℕ) (tail : Text) (given : Given) → first ≢ 45 → ArePairs given → Parsed ((first ∷ tail) ∷ flat_map pair_words given) (first ∷ tail) given
unfolding walk_passes
whole first tail given differs pairs =
    let command = first ∷ tail in
    let words = command ∷ flat_map pair_words given in
    let ne : (first == 45) ≡ false = ne_eqb first 45 differs in
    let begun = begins first tail ne in
    let pending : Text × List Text = (codes "command", command ∷ []) in
    let end = walk_pairs given [] pending pairs (new_of given command) refl in
    let walked_to : walk args [] nothing_held words ≡ between end.end_rows end.end_pending = ap (λ w. fold (walked args []) w (flat_map pair_words given)) begun ∙ end.walked_to in
    let passed : walk_passes top [] (walk_from nothing_held) words ≡ true = and_true _ _ (passes_name first tail ne)
    (ap (λ w. walk_passes top [] w (flat_map pair_words given)) begun ∙ end.passed) in
    let rows : finished args (between end.end_rows end.end_pending).held ≡ rows_for command given = finish _ ∙ end.kept in
    let matched : matches_of words_app words ≡ rows_for command given = ap (λ (w : Walk). finished args w.held) walked_to ∙ rows in
    record {
      taken = ap (may_end words) walked_to ∙ and_true _ _ passed (and_true _ _ end.settled (valid_with _ command given rows));
      name = ap (first_of (codes "command")) matched;
      values = λ name. ap (first_of (id_of name)) matched ∙ not_name name command given ∙ found name given (given_value name given) refl;
    }

-- a parse of words of the form
pub parsed : (words : List Text) (command : Text) (given : Given) → HasForm words command given → Parsed words command given
parsed words [] given form = absurd form.named
parsed words (first ∷ tail) given form = subst (λ ws. Parsed ws (first ∷ tail) given) (sym form.in_order) (whole first tail given form.named form.pairs)

-- the same of a command with this meaning, and of what its parse found
pub finds : {X : Type 0} (app : App) (words : List Text) (kept : Found) (command : Text) (given : Given) → app ≡ words_app → HasForm words command given
    → (is_simple app ≡ true → (rows_of kept ≡ matches_of app words) × X) → Finds kept command given
finds app words kept command given is form matched =
    let rows : rows_of kept ≡ matches_of words_app words = (matched (ap is_simple is)).0 ∙ ap (λ a. matches_of a words) is in
    let all = parsed words command given form in
    record {
      name = first_value-rows kept (codes "command") ∙ ap (first_of (codes "command")) rows ∙ all.name;
      values = λ name. first_value-rows kept (id_of name) ∙ ap (first_of (id_of name)) rows ∙ all.values name;
    }

pub taken : (app : App) (words : List Text) → app ≡ words_app → HasSomeForm words → takes app words ≡ true
taken app words is (command, given, form) = ap (λ a. takes a words) is ∙ (parsed words command given form).taken
