-- A program that is asked for by its name alone, and replies to the text that it reads.
use Rattle.std.specs.Prelude.{◌≡◌, ℕ, true, List, [], ◌∷◌, None, Result, Ok, Err, if◌then◌else◌}
use Rattle.std.specs.Str.{bytes_eq}
use Rattle.scald_base.specs.declared.outcome.Outcome.{Outcome}
use Rattle.scald_base.specs.Outcome.{ended, end_of}
use Rattle.drawing_tree.specs.Tree.{Drawing}
use Rattle.program_call.specs.Program.{Meaning}
use Rattle.program_call.specs.declared.words.Request.{Request}
use Rattle.program_call.specs.declared.words.Request.TheVariants.{Reply}
use Rattle.program_call.specs.Answer.{Reporting, Evaluated}

-- any word after the name is one too many
abbrev pub no_more : List (List ℕ) → Result Request ℕ
no_more [] = Ok Reply
no_more (w ∷ ws) = Err 1

-- the first word is the name
abbrev pub by_name : List ℕ → List (List ℕ) → Result Request ℕ
by_name name [] = Err 0
by_name name (w ∷ ws) = if bytes_eq w name then no_more ws else Err 0

-- the most bytes that are read
abbrev pub most_bytes : ℕ
most_bytes = 4194304

-- which outcomes and bytes are the reply to a text
abbrev pub Replying : Type 1
Replying = List ℕ → Outcome → List ℕ → Type 0

-- It reads a text and has this reply to it, byte by byte.
abbrev pub wordless : List ℕ → Replying → Meaning Request Outcome
wordless name Replied = record {
  command_of = by_name name;
  reads = λ request. true;
  most_bytes = λ read. most_bytes;
  Replied = λ request. Replied;
  AreOne = λ o bytes p others. (o ≡ p) × (bytes ≡ others);
  ended = ended;
  end_of = end_of;
}

-- It replies what is reported of the circuit, by its drawing, at its own limit of rounds, or why
-- there is nothing to report.
abbrev pub reporting_program : List ℕ → (Drawing → Reporting) → Meaning Request Outcome
reporting_program name Reports = wordless name (Evaluated Reports None)
