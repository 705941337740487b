-- The words on outcomes and commands, computed for every outcome and every command.
use Rattle.std.proofs.Common.{◌≡◌, ℕ, true, false, List, [], ◌∷◌, map, refl, Option, Some, None}
use Rattle.std.specs.Prelude.{codes, replicate, Ok, Err}
use Rattle.scald_base.specs.Time.{Header}
use Rattle.scald_base.specs.declared.refusal.Refusal.{Refusal}
use Rattle.flat_circuit.specs.Circuit.{Circuit}
use Rattle.listing.specs.declared.case.Mode.{Mode}
use Rattle.listing.specs.declared.case.Mode.TheVariants.{Full, Waves, Faults}
use Rattle.design_gen.specs.Datapath.{datapath}
use Rattle.scald_base.specs.declared.outcome.Outcome.{Outcome}
use Rattle.scald_base.specs.declared.outcome.Outcome.TheVariants.{Clean, Faulty, Done, Refused, Unsettled, BadWords, TooLong, ReadFault, WriteFault, NoMemory}
use Rattle.program_call.specs.Program.{by_source, by_words}
use Rattle.scald_tool.specs.declared.words.Command.{Command}
use Rattle.scald_tool.specs.declared.words.Command.TheVariants.{Verify, Format, Upgrade, Bench}
use Rattle.scald_tool.specs.Words.{are_reading, command_of, reads}
use Rattle.program_call.specs.Answer.{is_finished, limit_for, verdict_of}
use Rattle.scald_tool.specs.Answer.{most_bytes}
use Rattle.scald_base.specs.Outcome.{status_of}
use Rattle.scald_tool.specs.Promise.{AreTold, asks_verify, evaluates, has_read, has_report, is_silent, may_answer, may_give, speaks, unlimited}

-- ---- outcomes

module _ (n : ℕ) (r : Refusal) (net round i : ℕ) where
  abbrev outcomes : List Outcome
  outcomes =
      Clean ∷ Faulty n ∷ Done ∷ Refused r ∷ Unsettled net round ∷
      BadWords i ∷ TooLong ∷ ReadFault ∷ WriteFault ∷ NoMemory ∷ []

  statuses : map status_of outcomes ≡ 0 ∷ 1 ∷ 0 ∷ 2 ∷ 3 ∷ 4 ∷ 5 ∷ 6 ∷ 7 ∷ 8 ∷ []
  statuses = refl

  speaking : map speaks outcomes ≡
      true ∷ true ∷ true ∷ true ∷ true ∷ false ∷ false ∷ false ∷ false ∷ false ∷ []
  speaking = refl

  silent : map is_silent outcomes ≡
      false ∷ false ∷ false ∷ false ∷ false ∷ true ∷ true ∷ true ∷ false ∷ true ∷ []
  silent = refl

  reporting : map has_report outcomes ≡
      true ∷ true ∷ false ∷ false ∷ false ∷ false ∷ false ∷ false ∷ false ∷ false ∷ []
  reporting = refl

  reading : map has_read outcomes ≡
      false ∷ false ∷ false ∷ false ∷ false ∷ false ∷ true ∷ true ∷ false ∷ false ∷ []
  reading = refl

  finished : map is_finished outcomes ≡
      true ∷ true ∷ true ∷ false ∷ false ∷ false ∷ false ∷ false ∷ false ∷ false ∷ []
  finished = refl

  given_by_verify : (mode : Mode) (rounds : Option ℕ) →
      map (may_give (Verify mode rounds)) outcomes ≡
      true ∷ true ∷ false ∷ true ∷ true ∷ false ∷ false ∷ false ∷ false ∷ false ∷ []
  given_by_verify mode rounds = refl

  given_by_format : map (may_give Format) outcomes ≡
      false ∷ false ∷ true ∷ true ∷ false ∷ false ∷ false ∷ false ∷ false ∷ false ∷ []
  given_by_format = refl

  given_by_upgrade : map (may_give Upgrade) outcomes ≡
      false ∷ false ∷ true ∷ true ∷ false ∷ false ∷ false ∷ false ∷ false ∷ false ∷ []
  given_by_upgrade = refl

  given_by_bench : (sections : ℕ) → map (may_give (Bench sections)) outcomes ≡
      false ∷ false ∷ true ∷ true ∷ true ∷ false ∷ false ∷ false ∷ false ∷ false ∷ []
  given_by_bench sections = refl

  -- words of a form are answered as it is, and others by none of these
  answered_by_form : (command : Command) →
      map (may_answer (Ok command)) outcomes ≡ map (may_give command) outcomes
  answered_by_form command = refl

  answered_by_none : (place : ℕ) → map (may_answer (Err place)) outcomes ≡ replicate 10 false
  answered_by_none place = refl

one_fault_is_faulty :
    verdict_of 0 ∷ verdict_of 1 ∷ verdict_of 458752 ∷ [] ≡ Clean ∷ Faulty 1 ∷ Faulty 458752 ∷ []
one_fault_is_faulty = refl

-- ---- commands

module _ (mode : Mode) (n limit : ℕ) where
  abbrev commands : List Command
  commands = Verify mode None ∷ Verify mode (Some limit) ∷ Format ∷ Upgrade ∷ Bench n ∷ []

  reading_forms : map reads commands ≡ true ∷ true ∷ true ∷ true ∷ false ∷ []
  reading_forms = refl

  -- what words are read as that are of a form, or go wrong at some word
  reading_words : map (λ (command : Command). are_reading (Ok command)) commands ≡ map reads commands
  reading_words = refl

  reading_no_form : (place : ℕ) → are_reading (Err place) ≡ false
  reading_no_form place = refl

  verifying : map asks_verify commands ≡ true ∷ true ∷ false ∷ false ∷ false ∷ []
  verifying = refl

  evaluating : map evaluates commands ≡ true ∷ true ∷ false ∷ false ∷ true ∷ []
  evaluating = refl

  -- without a limit of their own; the text of `bench` is not the one that is read
  limitless : (text : List ℕ) →
      map (λ (command : Command). unlimited command text) commands ≡
      Some text ∷ None ∷ None ∷ None ∷ Some (datapath n) ∷ []
  limitless text = refl

  limited : (c : Circuit) → limit_for c (Some limit) ≡ limit
  limited c = refl

-- a circuit's own limit: its elements, of which there is none here, four periods and 16
abbrev header : Header
header = record {
  units = 8;
  ticks = 50;
  wire = record { min = 0; max = 0 };
  pskew = (0, 0);
  cskew = (0, 0);
}

abbrev without_elements : Circuit
without_elements = record { header = header; nets = []; instances = []; order = [] }

own_limit : limit_for without_elements None ≡ 1616
own_limit = refl

bytes_of_a_text : most_bytes ≡ 4194304
bytes_of_a_text = refl

-- ---- words

abbrev verify : List ℕ
verify = codes "verify"

-- each with the number of the first word that no form has there, or the count of words
wrong_words :
    command_of [] ∷ command_of ([] ∷ []) ∷ command_of (codes "check" ∷ []) ∷
    command_of (codes "verify " ∷ []) ∷ command_of (codes "bench" ∷ []) ∷
    command_of (codes "format" ∷ [] ∷ []) ∷ command_of (codes "upgrade" ∷ codes "format" ∷ []) ∷
    command_of (verify ∷ codes "waves" ∷ codes "faults" ∷ []) ∷ [] ≡
    Err 0 ∷ Err 0 ∷ Err 0 ∷ Err 0 ∷ Err 1 ∷ Err 1 ∷ Err 1 ∷ Err 2 ∷ []
wrong_words = refl

words_of_forms :
    command_of (verify ∷ []) ∷ command_of (verify ∷ codes "waves" ∷ []) ∷
    command_of (verify ∷ codes "faults" ∷ []) ∷ command_of (codes "format" ∷ []) ∷
    command_of (codes "upgrade" ∷ []) ∷ [] ≡
    Ok (Verify Full None) ∷ Ok (Verify Waves None) ∷ Ok (Verify Faults None) ∷ Ok Format ∷ Ok Upgrade ∷ []
words_of_forms = refl

-- Words of a form that reads are told what the source has left, and nothing if it tells nothing.
told : (left : List ℕ) → AreTold (verify ∷ []) (Some left) left
told left = by_source refl

untold : (text : List ℕ) → ¬ AreTold (verify ∷ []) None text
untold text (by_source e) = absurd (cc)
untold text (by_words e) = absurd (cc)

only_told : (left text : List ℕ) → AreTold (verify ∷ []) (Some left) text → left ≡ text
only_told left text (by_source e) = cc
only_told left text (by_words e) = absurd (cc)

told_without_a_form : (text : List ℕ) → AreTold (codes "check" ∷ []) None text
told_without_a_form text = by_words refl
