-- A reply, if it was made.
use Rattle.std.proofs.Common.{ℕ, List, IfOk, Result}
use Rattle.scald_base.specs.declared.list.NoMemory.{NoMemory as OutOfMemory}
use Rattle.program_call.specs.declared.reply.Reply.{Reply}
use Rattle.trace_tool.specs.declared.outcome.TraceOutcome.{TraceOutcome}

abbrev pub Made : Type 0
Made = Result (Reply TraceOutcome) OutOfMemory

abbrev pub Gives : Made → (TraceOutcome → List ℕ → Type 0) → Type 0
Gives made Replies = IfOk made (λ reply. Replies reply.outcome reply.bytes)
