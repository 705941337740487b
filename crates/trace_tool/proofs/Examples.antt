-- The words on outcomes and words, computed.
use Rattle.std.proofs.Common.{◌≡◌, ℕ, List, [], ◌∷◌, map, refl, Option, Some, None}
use Rattle.std.specs.Prelude.{codes, Result, Ok, Err}
use Rattle.std.specs.Fmt.{digits}
use Rattle.scald_base.specs.declared.refusal.Refusal.{Refusal}
use Rattle.scald_base.specs.declared.call_end.CallEnd.TheVariants.{BadWords, TooLong, ReadFault, WriteFault, NoMemory}
use Rattle.trace_tool.specs.declared.outcome.TraceOutcome.TheVariants.{Done, Broken, Refused, NotRun, Ended, BadTrace, NoCase, TooBig}
use Rattle.trace_tool.specs.declared.words.Command.{Command}
use Rattle.trace_tool.specs.declared.words.Command.TheVariants.{Run, Judge}
use Rattle.trace_tool.specs.declared.asked.Format.TheVariants.{Trace, Dump}
use Rattle.trace_tool.specs.Outcome.{status_of}
use Rattle.trace_tool.specs.Words.{asked, command_of, extent_of, number_in, trial}
use Rattle.trace_tool.specs.declared.extent.Extent.{Extent}
use Rattle.trace_tool.specs.declared.extent.Extent.TheVariants.{Short, Long}
use Rattle.trace_tool.specs.declared.tick.Count.{Count}
use Rattle.trace_tool.specs.declared.tick.Count.TheVariants.{One, Ten, Hundred}
use Rattle.trace_tool.specs.declared.tick.Unit.{Unit}
use Rattle.trace_tool.specs.declared.tick.Unit.TheVariants.{Seconds, Microseconds, Nanoseconds}
use Rattle.trace_tool.specs.declared.tick.TickLength.{TickLength}

-- ---- outcomes

module _ (r : Refusal) (i : ℕ) where
  statuses : map status_of
      (Done ∷ Broken ∷ Refused r ∷ NotRun ∷ Ended (BadWords i) ∷ Ended TooLong ∷ Ended ReadFault ∷ Ended WriteFault ∷ Ended NoMemory ∷ BadTrace i ∷ NoCase i ∷ TooBig ∷ [])
      ≡ 0 ∷ 1 ∷ 2 ∷ 3 ∷ 4 ∷ 5 ∷ 6 ∷ 7 ∷ 8 ∷ 9 ∷ 10 ∷ 11 ∷ []
  statuses = refl

-- ---- numbers

abbrev numbers : ℕ → ℕ → List (List ℕ) → List (Option ℕ)
numbers least most texts = map (number_in least most) texts

seeds : numbers 0 18446744073709551615
    (codes "0" ∷ codes "00" ∷ codes "7" ∷ codes "07" ∷ codes "18446744073709551615" ∷ codes "18446744073709551616" ∷ codes "" ∷ codes "-1" ∷ codes "1x" ∷ [])
    ≡ Some 0 ∷ None ∷ Some 7 ∷ None ∷ Some 18446744073709551615 ∷ None ∷ None ∷ None ∷ None ∷ []
unfolding digits number_in
seeds = refl

ticks : numbers 1 4096 (codes "0" ∷ codes "1" ∷ codes "4096" ∷ codes "4097" ∷ []) ≡ None ∷ Some 1 ∷ Some 4096 ∷ None ∷ []
unfolding digits number_in
ticks = refl

-- ---- words

abbrev commands : List (List (List ℕ)) → List (Result Command ℕ)
commands texts = map command_of texts

forms : commands (
    (codes "run" ∷ codes "6" ∷ codes "0" ∷ [])
    ∷ (codes "run" ∷ codes "6" ∷ codes "0" ∷ codes "case=2" ∷ [])
    ∷ (codes "judge" ∷ codes "0" ∷ [])
    ∷ (codes "judge" ∷ codes "4096" ∷ []) ∷ [])
    ≡ Ok (Run (asked Trace 6 0 None)) ∷ Ok (Run (asked Trace 6 0 (Some 2))) ∷ Ok (Judge (trial 0 Short)) ∷ Ok (Judge (trial 4096 Short)) ∷ []
unfolding digits number_in
forms = refl

-- `long` is the last word
extents : map extent_of (
    []
    ∷ (codes "long" ∷ [])
    ∷ (codes "Long" ∷ [])
    ∷ (codes "0" ∷ codes "long" ∷ [])
    ∷ (codes "long" ∷ codes "0" ∷ []) ∷ [])
    ≡ Short ∷ Long ∷ Short ∷ Long ∷ Short ∷ []
extents = refl

long : commands (
    (codes "run" ∷ codes "4096" ∷ codes "0" ∷ [])
    ∷ (codes "run" ∷ codes "6" ∷ codes "0" ∷ codes "long" ∷ [])
    ∷ (codes "run" ∷ codes "4097" ∷ codes "0" ∷ codes "long" ∷ [])
    ∷ (codes "run" ∷ codes "1048576" ∷ codes "0" ∷ codes "case=2" ∷ codes "long" ∷ [])
    ∷ (codes "judge" ∷ codes "0" ∷ codes "long" ∷ [])
    ∷ (codes "judge" ∷ codes "1048576" ∷ codes "long" ∷ []) ∷ [])
    ≡ Ok (Run (asked Trace 4096 0 None)) ∷ Ok (Run (asked Trace 6 0 None)) ∷ Ok (Run (asked Trace 4097 0 None)) ∷ Ok (Run (asked Trace 1048576 0 (Some 2)))
    ∷ Ok (Judge (trial 0 Long)) ∷ Ok (Judge (trial 1048576 Long)) ∷ []
unfolding digits number_in
long = refl

wrong_long : commands (
    (codes "run" ∷ codes "4097" ∷ codes "0" ∷ [])
    ∷ (codes "run" ∷ codes "1048577" ∷ codes "0" ∷ codes "long" ∷ [])
    ∷ (codes "run" ∷ codes "6" ∷ codes "long" ∷ [])
    ∷ (codes "run" ∷ codes "6" ∷ codes "0" ∷ codes "long" ∷ codes "long" ∷ [])
    ∷ (codes "run" ∷ codes "6" ∷ codes "0" ∷ codes "long" ∷ codes "case=2" ∷ [])
    ∷ (codes "run" ∷ codes "4097" ∷ codes "0" ∷ codes "long" ∷ codes "case=2" ∷ [])
    ∷ (codes "run" ∷ codes "6" ∷ codes "0" ∷ codes "case=2" ∷ codes "long" ∷ codes "long" ∷ [])
    ∷ (codes "run" ∷ codes "6" ∷ codes "0" ∷ codes "LONG" ∷ []) ∷ [])
    ≡ Err 1 ∷ Err 1 ∷ Err 2 ∷ Err 4 ∷ Err 4 ∷ Err 1 ∷ Err 5 ∷ Err 3 ∷ []
unfolding digits number_in
wrong_long = refl

wrong_trials : commands (
    (codes "judge" ∷ codes "1048577" ∷ codes "long" ∷ [])
    ∷ (codes "judge" ∷ codes "long" ∷ [])
    ∷ (codes "judge" ∷ codes "0" ∷ codes "long" ∷ codes "long" ∷ [])
    ∷ (codes "judge" ∷ codes "0" ∷ codes "long" ∷ codes "1" ∷ []) ∷ [])
    ≡ Err 1 ∷ Err 1 ∷ Err 3 ∷ Err 3 ∷ []
unfolding digits number_in
wrong_trials = refl

-- a dump is never long
long_dumps : commands (
    (codes "vcd" ∷ codes "6" ∷ codes "7" ∷ codes "long" ∷ [])
    ∷ (codes "vcd" ∷ codes "4097" ∷ codes "7" ∷ codes "long" ∷ [])
    ∷ (codes "vcd" ∷ codes "6" ∷ codes "7" ∷ codes "tick=1ns" ∷ codes "long" ∷ []) ∷ [])
    ≡ Err 3 ∷ Err 1 ∷ Err 4 ∷ []
unfolding digits number_in
long_dumps = refl

abbrev of : Count → Unit → TickLength
of count unit = record { count = count; unit = unit }

dumps : commands (
    (codes "vcd" ∷ codes "6" ∷ codes "7" ∷ [])
    ∷ (codes "vcd" ∷ codes "6" ∷ codes "7" ∷ codes "case=2" ∷ [])
    ∷ (codes "vcd" ∷ codes "6" ∷ codes "7" ∷ codes "tick=10us" ∷ [])
    ∷ (codes "vcd" ∷ codes "6" ∷ codes "7" ∷ codes "case=2" ∷ codes "tick=100s" ∷ []) ∷ [])
    ≡ Ok (Run (asked (Dump (of One Nanoseconds)) 6 7 None)) ∷ Ok (Run (asked (Dump (of One Nanoseconds)) 6 7 (Some 2)))
    ∷ Ok (Run (asked (Dump (of Ten Microseconds)) 6 7 None)) ∷ Ok (Run (asked (Dump (of Hundred Seconds)) 6 7 (Some 2))) ∷ []
unfolding digits number_in
dumps = refl

wrong_dumps : commands (
    (codes "vcd" ∷ codes "6" ∷ [])
    ∷ (codes "vcd" ∷ codes "6" ∷ codes "7" ∷ codes "tick=2ns" ∷ [])
    ∷ (codes "vcd" ∷ codes "6" ∷ codes "7" ∷ codes "tick=1 ns" ∷ [])
    ∷ (codes "vcd" ∷ codes "6" ∷ codes "7" ∷ codes "tick=1000ns" ∷ [])
    ∷ (codes "vcd" ∷ codes "6" ∷ codes "7" ∷ codes "case=2" ∷ codes "case=2" ∷ [])
    ∷ (codes "vcd" ∷ codes "6" ∷ codes "7" ∷ codes "tick=1ns" ∷ codes "case=2" ∷ [])
    ∷ (codes "vcd" ∷ codes "6" ∷ codes "7" ∷ codes "case=2" ∷ codes "tick=1ns" ∷ codes "x" ∷ [])
    ∷ (codes "run" ∷ codes "6" ∷ codes "7" ∷ codes "tick=1ns" ∷ []) ∷ [])
    ≡ Err 2 ∷ Err 3 ∷ Err 3 ∷ Err 3 ∷ Err 4 ∷ Err 4 ∷ Err 5 ∷ Err 3 ∷ []
unfolding digits number_in
wrong_dumps = refl

missing : commands ([] ∷ (codes "run" ∷ []) ∷ (codes "run" ∷ codes "6" ∷ []) ∷ (codes "judge" ∷ []) ∷ [])
    ≡ Err 0 ∷ Err 1 ∷ Err 2 ∷ Err 1 ∷ []
unfolding digits number_in
missing = refl

wrong : commands (
    (codes "verify" ∷ [])
    ∷ (codes "run" ∷ codes "0" ∷ codes "0" ∷ [])
    ∷ (codes "run" ∷ codes "06" ∷ codes "0" ∷ [])
    ∷ (codes "run" ∷ codes "6" ∷ codes "case=1" ∷ [])
    ∷ (codes "run" ∷ codes "6" ∷ codes "0" ∷ codes "case=0" ∷ [])
    ∷ (codes "run" ∷ codes "6" ∷ codes "0" ∷ codes "case=257" ∷ [])
    ∷ (codes "run" ∷ codes "6" ∷ codes "0" ∷ codes "CASE=1" ∷ [])
    ∷ (codes "run" ∷ codes "6" ∷ codes "0" ∷ codes "case=1" ∷ codes "x" ∷ [])
    ∷ (codes "judge" ∷ codes "4097" ∷ [])
    ∷ (codes "judge" ∷ codes "1" ∷ codes "1" ∷ []) ∷ [])
    ≡ Err 0 ∷ Err 1 ∷ Err 1 ∷ Err 2 ∷ Err 3 ∷ Err 3 ∷ Err 3 ∷ Err 4 ∷ Err 1 ∷ Err 2 ∷ []
unfolding digits number_in
wrong = refl
