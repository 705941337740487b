-- What the whole call promises.
use Rattle.std.specs.Prelude.{◌≡◌, ◌≢◌, ℕ, Bool, true, false, not, List, ◌++◌, Option, Some, None, Result, Ok, Err}
use Rattle.program_call.specs.Program as program
use Rattle.listing.specs.declared.case.Mode.{Mode}
use Rattle.design_gen.specs.Datapath.{datapath}
use Rattle.scald_base.specs.declared.outcome.Outcome.{Outcome}
use Rattle.scald_base.specs.declared.outcome.Outcome.TheVariants.{Clean, Faulty, Done, Refused, Unsettled, BadWords, TooLong, ReadFault, WriteFault, NoMemory}
use Rattle.scald_tool.specs.declared.words.Command.{Command}
use Rattle.scald_tool.specs.declared.words.Command.TheVariants.{Verify, Format, Upgrade, Bench}
use Rattle.scald_tool.specs.Words.{command_of}
use Rattle.timing_analysis.specs.Drawn.{IsLoopless}
use Rattle.scald_tool.specs.Answer.{Verified, verifier}

-- ---- the answer

-- What the words are answered to: the bytes that the source has left, if it tells them; and any
-- bytes if the words are of no form that reads, since then the answer is the same to all.
abbrev pub AreTold : List (List ℕ) → Option (List ℕ) → List ℕ → Type 0
AreTold = program.AreTold verifier

-- The outcome is the one that the words and the text have, and the sink took exactly its bytes.
abbrev pub IsAnswered : List (List ℕ) → List ℕ → Outcome → Option (List ℕ) → Option (List ℕ) →
    Type 0
IsAnswered = program.IsAnswered verifier

-- The outcome is the one that `verify` has for the text, in this mode and with this limit, and what
-- was there is followed by exactly its bytes.
pub record IsVerified (mode : Mode) (rounds : Option ℕ) (text : List ℕ) (o : Outcome)
    (before after : List ℕ) : Type 0 where
  pub bytes : List ℕ
  pub is : Verified mode rounds text o bytes
  pub only : (p : Outcome) (others : List ℕ) → Verified mode rounds text p others →
      (p ≡ o) × (others ≡ bytes)
  pub put : after ≡ before ++ bytes

-- an outcome that says something of the text, all of which was read and all of whose answer was
-- written
abbrev pub speaks : Outcome → Bool
speaks = program.speaks verifier

-- an outcome with which nothing is written
abbrev pub is_silent : Outcome → Bool
is_silent = program.is_silent verifier

-- an outcome that comes with a whole report
abbrev pub has_report : Outcome → Bool
has_report Clean = true
has_report (Faulty n) = true
has_report Done = false
has_report (Refused r) = false
has_report (Unsettled k limit) = false
has_report (BadWords i) = false
has_report TooLong = false
has_report ReadFault = false
has_report WriteFault = false
has_report NoMemory = false

-- an outcome that only reading the source can have
abbrev pub has_read : Outcome → Bool
has_read = program.has_read verifier

-- `verify` is asked for, in some mode and with some limit
abbrev pub asks_verify : Command → Bool
asks_verify (Verify mode rounds) = true
asks_verify Format = false
asks_verify Upgrade = false
asks_verify (Bench sections) = false

-- a circuit is evaluated: by `verify`, or by `bench`
abbrev pub evaluates : Command → Bool
evaluates (Verify mode rounds) = true
evaluates Format = false
evaluates Upgrade = false
evaluates (Bench sections) = true

-- Which outcomes a form has whose answer is written. Only `verify` judges a drawing by its faults,
-- and only the others are done with it. Each form may refuse its text, and what is evaluated may
-- not settle.
abbrev pub may_give : Command → Outcome → Bool
may_give command Clean = asks_verify command
may_give command (Faulty n) = asks_verify command
may_give command Done = not (asks_verify command)
may_give command (Refused r) = true
may_give command (Unsettled place round) = evaluates command
may_give command (BadWords i) = false
may_give command TooLong = false
may_give command ReadFault = false
may_give command WriteFault = false
may_give command NoMemory = false

abbrev pub may_answer : Result Command ℕ → Outcome → Bool
may_answer (Ok command) o = may_give command o
may_answer (Err i) o = false

-- the text whose circuit is evaluated, if no limit of rounds is asked for
abbrev pub unlimited : Command → List ℕ → Option (List ℕ)
unlimited (Verify mode None) text = Some text
unlimited (Verify mode (Some limit)) text = None
unlimited Format text = None
unlimited Upgrade text = None
unlimited (Bench sections) text = Some (datapath sections)

-- If the words set no limit, and the circuit of the text that is evaluated has no loop through
-- listening pins, its waves settle.
abbrev pub SettlesWithoutLoops : List (List ℕ) → List ℕ → Outcome → Type 0
SettlesWithoutLoops words text o =
    (command : Command) (evaluated : List ℕ) (place round : ℕ) → command_of words ≡ Ok command →
    unlimited command text ≡ Some evaluated → IsLoopless evaluated → o ≢ Unsettled place round
