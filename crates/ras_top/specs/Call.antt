-- What is promised of a whole call: of its words, of the bytes that the source had and the sink took,
-- of both counts of faults, and of the status that it answers.
use Rattle.std.specs.Prelude.{◌≡◌, ◌≢◌, ℕ, ◌<◌, ◌≤◌, ◌⊎◌, List, ◌++◌, length, Option, Some, Ok, Err}
use Rattle.std.specs.Io.KnownBytes.{Appends}
use Rattle.ras_edges.specs.Faults.{Rose}
use Rattle.ras_edges.specs.Sink.{IsFlushed}
use Rattle.ras_settings.specs.Schedule.{Turns}
use Rattle.ras_settings.specs.declared.settings.WordsFault.{WordsFault}
use Rattle.spec_commands.specs.Commands.{whole_workload_of}
use Rattle.spec_grammar.specs.Tokens.{Text}
use Rattle.spec_sessions.specs.Outcomes.{OutcomeValue}
use Rattle.spec_sessions.specs.Report.{report_text}
use Rattle.spec_workloads.specs.CheckText.{check_text}
use Rattle.spec_workloads.specs.Setup.{WorkloadFaultValue, WorkloadValue}
use Rattle.ras_top.specs.Commands.{AskFor}
use Rattle.ras_top.specs.Said.{IsDue, IsRunBy, Said, WasRead, cut_short, status_of, text_of}
use Rattle.ras_top.specs.declared.TheConstants.{MOST_BYTES}
use Rattle.ras_top.specs.declared.command.Command.{Command}
use Rattle.ras_top.specs.declared.command.Command.TheVariants.{Check, Run}

-- what can be seen of a call. Bytes are there where the source or the sink tells them
pub record Call : Type 0 where
  pub words : List Text
  -- the bytes that the source had left, when the call began and when it ended
  pub input : Option Text
  pub rest : Option Text
  -- how many reads had failed, at both times
  pub reads_before : ℕ
  pub reads_after : ℕ
  -- the bytes that the sink had taken, at both times, and how many were flushed in the end
  pub taken_before : Option Text
  pub taken_after : Option Text
  pub flushed : Option ℕ
  -- how many writes and flushes had failed, at both times
  pub writes_before : ℕ
  pub writes_after : ℕ

-- the call with these words, by what its source and its sink tell before it and after it
module _ {S K : Type 0} (left : S → Option Text) (reads_failed : S → ℕ) (taken : K → Option Text) (flushed : K → Option ℕ) (writes_failed : K → ℕ) where
  abbrev pub call_of : List Text → S → S → K → K → Call
  call_of words source source' sink sink' = record {
    words = words;
    input = left source;
    rest = left source';
    reads_before = reads_failed source;
    reads_after = reads_failed source';
    taken_before = taken sink;
    taken_after = taken sink';
    flushed = flushed sink';
    writes_before = writes_failed sink;
    writes_after = writes_failed sink';
  }

module _ (call : Call) where
  -- a read failed in this call; a write or a flush did
  abbrev pub ReadRose : Type 0
  ReadRose = Rose call.reads_before call.reads_after

  abbrev pub WriteRose : Type 0
  WriteRose = Rose call.writes_before call.writes_after

  -- this is the source's text, and it was read to its end
  abbrev pub WasReadIn : Text → Type 0
  WasReadIn = WasRead call.input call.rest call.reads_before call.reads_after

  abbrev pub IsDueIn : Said → Type 0
  IsDueIn said = IsDue call.input call.rest call.reads_before call.reads_after said call.words

  -- the sink took exactly this text in this call, and all is flushed
  abbrev pub Printed : Text → Type 0
  Printed text = Appends call.taken_before call.taken_after text × IsFlushed call.taken_after call.flushed

  -- the sink took a front of this text in this call
  abbrev pub PrintedFront : Text → Type 0
  PrintedFront text = (front : Text) × (rest : Text) × (text ≡ front ++ rest) × Appends call.taken_before call.taken_after front

  -- The source's text is that of a workload, and the sink took the report of an outcome that is one of running its sessions by
  -- the schedule: one legal history, whose committed transactions are, one after another, a run of one thread
  pub record HasRun (schedule : Turns) : Type 0 where
    pub text : Text
    pub workload : WorkloadValue
    pub outcome : OutcomeValue
    pub read : WasReadIn text
    pub found : whole_workload_of text ≡ Ok workload
    pub run : IsRunBy schedule workload outcome
    pub printed : Printed (report_text workload.scripts outcome)

  -- the source's text is that of a workload, and the sink took the check of its statements
  pub record HasChecked : Type 0 where
    pub text : Text
    pub workload : WorkloadValue
    pub read : WasReadIn text
    pub found : whole_workload_of text ≡ Ok workload
    pub printed : Printed (check_text workload)

  -- the promise
  pub record IsAnswered (status : ℕ) : Type 0 where
    -- done: what the words ask for was done
    pub ran : status ≡ 0 → (workers : ℕ) (schedule : Turns) → AskFor call.words (Ok (Run workers schedule)) → HasRun schedule
    pub checked : status ≡ 0 → AskFor call.words (Ok Check) → HasChecked
    -- each status but that of a cut text is the status of what is due, and the sink took its text and
    -- flushed it
    pub whole : status ≢ cut_short → (said : Said) × (status ≡ status_of said) × IsDueIn said × Printed (text_of said)
    -- the text was cut short only where a write or a flush failed, and the sink then took a front of a
    -- text that is due
    pub cut : status ≡ cut_short → WriteRose × ((said : Said) × IsDueIn said × PrintedFront (text_of said))
    -- a command, a workload's text and no fault: it is done, or there is want of memory
    pub done : (command : Command) (text : Text) (workload : WorkloadValue) → AskFor call.words (Ok command) → call.input ≡ Some text
        → length text ≤ MOST_BYTES → whole_workload_of text ≡ Ok workload → ¬ ReadRose → ¬ WriteRose → (status ≡ 0) ⊎ (status ≡ 5)
    -- a command, any other text and no fault: the text is refused, or there is want of memory
    pub refused : (command : Command) (text : Text) (fault : WorkloadFaultValue) → AskFor call.words (Ok command) → call.input ≡ Some text
        → whole_workload_of text ≡ Err fault → ¬ ReadRose → ¬ WriteRose → (status ≡ 1) ⊎ (status ≡ 5)
    pub refused_long : (command : Command) (text : Text) → AskFor call.words (Ok command) → call.input ≡ Some text
        → MOST_BYTES < length text → ¬ ReadRose → ¬ WriteRose → (status ≡ 1) ⊎ (status ≡ 5)
    -- other words and no fault: they are refused, or there is want of memory, and nothing is read
    pub other_words : (fault : WordsFault) → AskFor call.words (Err fault) → ¬ WriteRose → (status ≡ 2) ⊎ (status ≡ 5)
    pub unread : (fault : WordsFault) → AskFor call.words (Err fault) → (call.rest ≡ call.input) × (call.reads_after ≡ call.reads_before)
    -- no count falls
    pub reads_stay : call.reads_before ≤ call.reads_after
    pub writes_stay : call.writes_before ≤ call.writes_after
