-- The form of a command's words: a name, and then options, each followed by its value.
use Rattle.std.specs.Prelude.{◌≡◌, ◌≢◌, ℕ, Bool, true, false, List, [], ◌∷◌, Option, Some, None, codes, if◌then◌else◌, ◌==◌, ◌&&◌, ◌||◌, not}
use Rattle.std.specs.List.{flat_map, list_any}
use Rattle.std.specs.Str.{bytes_eq}
use Rattle.ras_settings.specs.declared.form.OptionName.{OptionName}
use Rattle.ras_settings.specs.declared.form.OptionName.TheVariants.{Workers, Schedule, Seed, Size}

-- an option, as it is written
abbrev pub option_word : OptionName → List ℕ
option_word Workers = codes "--workers"
option_word Schedule = codes "--schedule"
option_word Seed = codes "--seed"
option_word Size = codes "--size"

abbrev pub is_same_option : OptionName → OptionName → Bool
is_same_option Workers Workers = true
is_same_option Schedule Schedule = true
is_same_option Seed Seed = true
is_same_option Size Size = true
is_same_option _ _ = false

-- a word that may be a command's name or an option's value: not empty, and it doesn't begin with `-`
abbrev pub IsValue : List ℕ → Type 0
IsValue [] = ⊥
IsValue (first ∷ _) = first ≢ 45

-- options with their values, as they stand in the words
abbrev pub Given : Type 0
Given = List (OptionName × List ℕ)

-- the value of an option, where it is given
abbrev pub given_value : OptionName → Given → Option (List ℕ)
given_value name [] = None
given_value name (pair ∷ rest) = if is_same_option pair.0 name then Some pair.1 else given_value name rest

-- each value may be one, and no option is given twice
abbrev pub ArePairs : Given → Type 0
ArePairs [] = Unit {0}
ArePairs (pair ∷ rest) = IsValue pair.1 × (given_value pair.0 rest ≡ None) × ArePairs rest

abbrev pub pair_words : OptionName × List ℕ → List (List ℕ)
pair_words pair = option_word pair.0 ∷ pair.1 ∷ []

-- the words are a command's name and these options with their values
pub record HasForm (words : List (List ℕ)) (command : List ℕ) (given : Given) : Type 0 where
  pub in_order : words ≡ command ∷ flat_map pair_words given
  pub named : IsValue command
  pub pairs : ArePairs given

abbrev pub HasSomeForm : List (List ℕ) → Type 0
HasSomeForm words = (command : List ℕ) × (given : Given) × HasForm words command given

-- the value of each option, where it is given
pub record Asked : Type 0 where
  pub workers : Option (List ℕ)
  pub schedule : Option (List ℕ)
  pub seed : Option (List ℕ)
  pub size : Option (List ℕ)

abbrev pub options_asked_by : Given → Asked
options_asked_by given = record {
  workers = given_value Workers given;
  schedule = given_value Schedule given;
  seed = given_value Seed given;
  size = given_value Size given;
}

abbrev pub asked_value : OptionName → Asked → Option (List ℕ)
asked_value Workers asked = asked.workers
asked_value Schedule asked = asked.schedule
asked_value Seed asked = asked.seed
asked_value Size asked = asked.size

-- ---- the same, as tests

abbrev pub is_value : List ℕ → Bool
is_value [] = false
is_value (first ∷ _) = not (first == 45)

abbrev pub is_option : List ℕ → Bool
is_option word = bytes_eq word (option_word Workers) || (bytes_eq word (option_word Schedule)
    || (bytes_eq word (option_word Seed) || bytes_eq word (option_word Size)))

abbrev pub are_pairs : List (List ℕ) → Bool
are_pairs [] = true
are_pairs (option ∷ []) = false
are_pairs (option ∷ value ∷ rest) =
    is_option option && (is_value value && (not (list_any (λ word. bytes_eq word option) rest) && are_pairs rest))
