-- Words mean one thing.
use Rattle.std.proofs.Common.{◌≡◌, ◌∙◌, ◌==◌, ◌<◌, ◌^◌, ℕ, cond, refl, sym, ap, subst, inl, inr, List, Option, Some, None, Ok, Err, get_or, true≢false, arith}
use Rattle.std.proofs.lemmas.Fmt.{decimal_injective}
use Rattle.ras_settings.specs.declared.TheConstants.{MAX_WORKERS, USUAL_WORKERS, MAX_SEED, USUAL_SEED, MAX_SIZE, USUAL_SIZE}
use Rattle.ras_settings.specs.declared.command.CommandName.{CommandName}
use Rattle.ras_settings.specs.declared.command.CommandName.TheVariants.{Run, Check, Plan, Gen, Sample, Audit}
use Rattle.ras_settings.specs.declared.number.Numbers.{Numbers}
use Rattle.ras_settings.specs.declared.settings.WordsFault.TheVariants.{BadSchedule}
use Rattle.ras_settings.specs.declared.values.Values.{Values}
use Rattle.ras_settings.specs.Form.{Asked, Given, HasForm, HasSomeForm, options_asked_by}
use Rattle.ras_settings.specs.Schedule.{ScheduleText}
use Rattle.ras_settings.specs.Settings.{CommandMeans, HasOptionNumber, HasAskedNumbers, LacksNumber, LacksNumbers, Mean, NumbersMean, OptionsMean, Outcome, ScheduleMeans, command_word, settings_of}
use Rattle.ras_settings.specs.Values.{AreValues, options_asked}
use Rattle.ras_settings.proofs.Forms.{same_form}
use Rattle.ras_settings.proofs.Readings.{same_place, same_turns}

schedule_means_one : (name : CommandName) (numbers : Numbers) (schedule : Option ScheduleText) (a b : Outcome) → ScheduleMeans name numbers schedule a
    → ScheduleMeans name numbers schedule b → a ≡ b
schedule_means_one name numbers None a b one other = one ∙ sym other
schedule_means_one name numbers (Some text) a b (inl (turns, is, e)) (inl (turns', is', e')) =
    e ∙ ap (λ t. Ok (settings_of name numbers (Some t))) (same_turns text turns turns' is is') ∙ sym e'
schedule_means_one name numbers (Some text) a b (inl (turns, is, e)) (inr (place, breaks, e')) = absurd (breaks.no_schedule turns is)
schedule_means_one name numbers (Some text) a b (inr (place, breaks, e)) (inl (turns, is, e')) = absurd (breaks.no_schedule turns is)
schedule_means_one name numbers (Some text) a b (inr (place, breaks, e)) (inr (place', breaks', e')) =
    e ∙ ap (λ p. Err (BadSchedule p)) (same_place text place place' breaks breaks') ∙ sym e'

options_mean_one : (name : CommandName) (asked : Asked) (numbers : Numbers) (a b : Outcome) → OptionsMean name asked numbers a → OptionsMean name asked numbers b → a ≡ b
options_mean_one name asked numbers a b (inl (other, e)) (inl (other', e')) = e ∙ sym e'
options_mean_one name asked numbers a b (inl (other, e)) (inr (fits, is)) = absurd (true≢false (sym (fits other.0 other.1) ∙ other.2))
options_mean_one name asked numbers a b (inr (fits, is)) (inl (other, e)) = absurd (true≢false (sym (fits other.0 other.1) ∙ other.2))
options_mean_one name asked numbers a b (inr (fits, is)) (inr (fits', is')) = schedule_means_one name numbers asked.schedule a b is is'

-- the command whose name begins with this letter
begun_by : ℕ → CommandName
begun_by letter = cond (letter == 114) Run (cond (letter == 99) Check (cond (letter == 112) Plan (cond (letter == 103) Gen (cond (letter == 115) Sample Audit))))

begins : (name : CommandName) → begun_by (get_or (command_word name) 0 0) ≡ name
unfolding begun_by
begins Run = refl
begins Check = refl
begins Plan = refl
begins Gen = refl
begins Sample = refl
begins Audit = refl

same_command : (a b : CommandName) → command_word a ≡ command_word b → a ≡ b
same_command a b e = sym (begins a) ∙ ap (λ word. begun_by (get_or word 0 0)) e ∙ begins b

command_means_one : (word : ScheduleText) (asked : Asked) (numbers : Numbers) (a b : Outcome) → CommandMeans word asked numbers a → CommandMeans word asked numbers b → a ≡ b
command_means_one word asked numbers a b (inl (unknown, e)) (inl (unknown', e')) = e ∙ sym e'
command_means_one word asked numbers a b (inl (unknown, e)) (inr (name, is, means)) = absurd (unknown name is)
command_means_one word asked numbers a b (inr (name, is, means)) (inl (unknown, e)) = absurd (unknown name is)
command_means_one word asked numbers a b (inr (name, is, means)) (inr (name', is', means')) =
    let same = same_command name' name (sym is' ∙ is) in
    options_mean_one name asked numbers a b means (subst (λ n. OptionsMean n asked numbers b) same means')

same_number : (least most usual : ℕ) (value : Option ScheduleText) (m n : ℕ) → most < 2 ^ 64 → HasOptionNumber least most usual value m → HasOptionNumber least most usual value n → m ≡ n
same_number least most usual None m n small one other = one ∙ sym other
same_number least most usual (Some text) m n small one other =
    let m_small = one.at_most in
    let n_small = other.at_most in
    decimal_injective m n (omega arith) (omega arith) (sym one.written ∙ other.written)

same_numbers : (asked : Asked) (m n : Numbers) → HasAskedNumbers asked m → HasAskedNumbers asked n → m ≡ n
same_numbers asked m n one other =
    let workers = same_number 1 MAX_WORKERS USUAL_WORKERS asked.workers _ _ (omega arith) one.workers other.workers in
    let seed = same_number 0 MAX_SEED USUAL_SEED asked.seed _ _ (omega arith) one.seed other.seed in
    let size = same_number 1 MAX_SIZE USUAL_SIZE asked.size _ _ (omega arith) one.size other.size in
    λ i. record { workers = workers i; seed = seed i; size = size i }

no_number : (least most usual : ℕ) (value : Option ScheduleText) (n : ℕ) → LacksNumber least most value → HasOptionNumber least most usual value n → ⊥
no_number least most usual None n lacks has = lacks
no_number least most usual (Some text) n lacks has = lacks n has

no_numbers : (asked : Asked) (numbers : Numbers) → LacksNumbers asked → HasAskedNumbers asked numbers → ⊥
no_numbers asked numbers (inl lacks) has = no_number 1 MAX_WORKERS USUAL_WORKERS asked.workers _ lacks has.workers
no_numbers asked numbers (inr (inl lacks)) has = no_number 0 MAX_SEED USUAL_SEED asked.seed _ lacks has.seed
no_numbers asked numbers (inr (inr lacks)) has = no_number 1 MAX_SIZE USUAL_SIZE asked.size _ lacks has.size

numbers_mean_one : (word : ScheduleText) (asked : Asked) (a b : Outcome) → NumbersMean word asked a → NumbersMean word asked b → a ≡ b
numbers_mean_one word asked a b (inl (lacks, e)) (inl (lacks', e')) = e ∙ sym e'
numbers_mean_one word asked a b (inl (lacks, e)) (inr (numbers, has, means)) = absurd (no_numbers asked numbers lacks has)
numbers_mean_one word asked a b (inr (numbers, has, means)) (inl (lacks, e)) = absurd (no_numbers asked numbers lacks has)
numbers_mean_one word asked a b (inr (numbers, has, means)) (inr (numbers', has', means')) =
    command_means_one word asked numbers a b means (subst (λ n. CommandMeans word asked n b) (same_numbers asked numbers' numbers has' has) means')

pub means_one : (words : List ScheduleText) (a b : Outcome) → Mean words a → Mean words b → a ≡ b
means_one words a b (inl (none, e)) (inl (none', e')) = e ∙ sym e'
means_one words a b (inl (none, e)) (inr (word, given, form, means)) = absurd (none (word, given, form))
means_one words a b (inr (word, given, form, means)) (inl (none, e)) = absurd (none (word, given, form))
means_one words a b (inr (word, given, form, means)) (inr (word', given', form', means')) =
    let same = same_form words word' word given' given form' form in
    numbers_mean_one word (options_asked_by given) a b means
    (subst (λ w. NumbersMean w (options_asked_by given) b) same.0 (subst (λ g. NumbersMean word' (options_asked_by g) b) same.1 means'))

-- what the values of the words mean, the words mean
pub means : (words : List ScheduleText) (values : Values) (result : Outcome) → HasSomeForm words
    → ((command : ScheduleText) (given : Given) → HasForm words command given → AreValues values command given)
    → NumbersMean values.command.now (options_asked values) result → Mean words result
means words values result (command, given, form) found is =
    let values_are = found command given form in
    inr (command, given, form, subst (λ w. NumbersMean w (options_asked_by given) result) values_are.name (subst (λ a. NumbersMean values.command.now a result) values_are.asked is))
