-- What the simulator answers to its words and to the bytes that it is given.
use Rattle.std.specs.Prelude.{◌≡◌, ℕ, true, List, Result, Ok, Err}
use Rattle.program_call.specs.Program.{Meaning}
use Rattle.trace_tool.specs.declared.words.Command.{Command}
use Rattle.trace_tool.specs.declared.words.Command.TheVariants.{Run, Judge}
use Rattle.trace_tool.specs.declared.outcome.TraceOutcome.{TraceOutcome}
use Rattle.trace_tool.specs.declared.outcome.TraceOutcome.TheVariants.{Ended}
use Rattle.trace_tool.specs.Judged.{Judged}
use Rattle.trace_tool.specs.Outcome.{end_of}
use Rattle.trace_tool.specs.Ran.{Ran}
use Rattle.trace_tool.specs.Words.{command_of}

-- the most bytes that are read: a drawing, or a trace and a drawing
abbrev pub most_of : Command → ℕ
most_of (Run asked) = 4194304
most_of (Judge trial) = 16777216

abbrev pub most_bytes : Result Command ℕ → ℕ
most_bytes (Ok command) = most_of command
most_bytes (Err i) = 0

abbrev pub Replied : Command → List ℕ → TraceOutcome → List ℕ → Type 0
Replied (Run asked) text = Ran asked text
Replied (Judge trial) text = Judged trial text

-- Both forms read.
abbrev pub simulator : Meaning Command TraceOutcome
simulator = record {
  command_of = command_of;
  reads = λ command. true;
  most_bytes = most_bytes;
  Replied = Replied;
  AreOne = λ o bytes p others. (o ≡ p) × (bytes ≡ others);
  ended = Ended;
  end_of = end_of;
}
