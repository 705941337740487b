-- What the program answers to its words and to the bytes that it is given.
use Rattle.std.specs.Prelude.{◌≡◌, ℕ, List, Option, None}
use Rattle.scald_base.specs.Outcome.{ended, end_of}
use Rattle.program_call.specs.Program as program
use Rattle.program_call.specs.Program.{Meaning}
use Rattle.scald_base.specs.declared.refusal.Refusal.{Refusal}
use Rattle.drawing_tree.specs.Tree.{Drawing}
use Rattle.drawing_tree.specs.Canonical.{canonical}
use Rattle.drawing_grammar.specs.CanonicalDraws.{TextDraws}
use Rattle.flat_circuit.specs.Circuit.{Circuit}
use Rattle.listing.specs.declared.case.Mode.{Mode}
use Rattle.fixpoint_engine.specs.Reach.{reach}
use Rattle.case_analysis.specs.Tick.{tick}
use Rattle.listing.specs.Answer.{refusal_line, summary_line}
use Rattle.design_gen.specs.Datapath.{datapath}
use Rattle.format_upgrade.specs.Upgraded.{upgraded_text}
use Rattle.scald_base.specs.declared.outcome.Outcome.{Outcome}
use Rattle.scald_base.specs.declared.outcome.Outcome.TheVariants.{Done, Refused}
use Rattle.scald_tool.specs.declared.words.Command.{Command}
use Rattle.scald_tool.specs.declared.words.Command.TheVariants.{Verify, Format, Upgrade, Bench}
use Rattle.scald_tool.specs.Words.{command_of, reads}
use Rattle.drawing_grammar.specs.Refused.{IsRefusal}
use Rattle.timing_analysis.specs.Case.{Case, fault_count}
use Rattle.program_call.specs.Answer.{Evaluated, verdict_of}
use Rattle.scald_tool.specs.Report.{report}

-- the most bytes that are read
abbrev pub most_bytes : ℕ
most_bytes = 4194304

-- The report on a circuit that is drawn in this version of the language, and how many faults there
-- are.
pub record Reported (mode : Mode) (version : ℕ) (c : Circuit) (base : ℕ) (cases : List Case)
    (o : Outcome) (bytes : List ℕ) : Type 0 where
  pub outcome : o ≡ verdict_of (fault_count c cases)
  pub text : bytes ≡ report mode version c base cases

-- The numbers of the report on so many sections: the rounds of the base, the tick that is printed
-- for case 0, which takes no rounds, and the faults.
pub record Measured (sections : ℕ) (c : Circuit) (base : ℕ) (cases : List Case) (o : Outcome)
    (bytes : List ℕ) : Type 0 where
  pub outcome : o ≡ Done
  pub text : bytes ≡ summary_line c sections base (tick (reach c) base 0) (fault_count c cases)

-- What `verify` answers on a text.
abbrev pub Verified : Mode → Option ℕ → List ℕ → Outcome → List ℕ → Type 0
Verified mode = Evaluated (λ d. Reported mode d.version)

-- What `bench` answers, on the drawing of so many sections and at its own limit: what `verify` does
-- if that is refused or does not settle, and else its numbers.
abbrev pub Benched : ℕ → Outcome → List ℕ → Type 0
Benched sections = Evaluated (λ d. Measured sections) None (datapath sections)

-- What `format` answers on a text: the canonical text of the drawing that it draws, or why it draws
-- none.
pub data Formatted (text : List ℕ) : Outcome → List ℕ → Type 0 where
  undrawn : (r : Refusal) → IsRefusal text r → Formatted text (Refused r) (refusal_line r)
  drawn : (d : Drawing) → TextDraws text d → Formatted text Done (canonical d)

-- What `upgrade` answers on a text: the canonical text, in the last version of the language, of the
-- drawing that it draws, or why it draws none.
pub data Upgrades (text : List ℕ) : Outcome → List ℕ → Type 0 where
  unreadable : (r : Refusal) → IsRefusal text r → Upgrades text (Refused r) (refusal_line r)
  readable : (d : Drawing) → TextDraws text d → Upgrades text Done (upgraded_text d)

-- what each form answers on a text, `bench` on any
abbrev pub Replied : Command → List ℕ → Outcome → List ℕ → Type 0
Replied (Verify mode rounds) text = Verified mode rounds text
Replied Format text = Formatted text
Replied Upgrade text = Upgrades text
Replied (Bench sections) text = Benched sections

-- What the words ask for, and what is answered to a text.
abbrev pub verifier : Meaning Command Outcome
verifier = record {
  command_of = command_of;
  reads = reads;
  most_bytes = λ read. most_bytes;
  Replied = Replied;
  AreOne = λ o bytes p others. (o ≡ p) × (bytes ≡ others);
  ended = ended;
  end_of = end_of;
}

-- The outcome and the bytes that are written, to words and to the bytes of the input. A form that
-- does not read takes no text to be too long.
abbrev pub Answer : List (List ℕ) → List ℕ → Outcome → List ℕ → Type 0
Answer = program.Answer verifier
