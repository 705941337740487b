-- The lines of notes on a circuit that has no case, worked out on paper: with notes and with none.
use Rattle.std.specs.Prelude.{◌≡◌, ℕ, false, [], ◌∷◌, codes, None}
use Rattle.std.specs.Fmt.{digits}
use Rattle.std.proofs.Common.{refl}
use Rattle.element_kinds.specs.declared.kind.Kind.TheVariants.{SetupHold}
use Rattle.flat_circuit.specs.Circuit.{Circuit}
use Rattle.listing.specs.Head.{period_line}
use Rattle.drawing_notes.specs.declared.reply.Kept.{Kept}
use Rattle.drawing_notes.specs.Idle.{idle_line}
use Rattle.drawing_notes.specs.Ways.{Ways}
use Rattle.drawing_omissions.proofs.ExamplesParts.{instance, on}
use Rattle.drawing_notes.proofs.ExamplesCircuit.{three}
use Rattle.drawing_notes.specs.Unclocked.{unclocked_line}
use Rattle.drawing_notes.specs.Report.{count_line, note_lines, notes}
use Rattle.flat_circuit.specs.declared.limits.Limits.TheVariants.{Edges}

-- nothing leads to anything
abbrev no_ways : Ways
no_ways = record { together = λ i j. false; arrival = λ net. None; launched = λ ws clock net. false; clocks = λ net. false; timed = λ net. false }

-- a checker of nothing on a clock that never comes
abbrev idle_checker : Circuit
idle_checker =
    three (instance (codes "c1") SetupHold (Edges 0 0) (on 0 ∷ on 1 ∷ []) None ∷ []) None None None

-- the drawing has no FOR, no case, and spreads nothing
abbrev kept : ℕ → Kept
kept version = record { version = version; found = []; fors = []; cases = [] }

two_notes : note_lines 2 idle_checker (notes no_ways (kept 2) idle_checker [])
    ≡ codes "SCALD 2 PERIOD 8\nNOTE UNCLOCKED c1<0> PIN 0 A<0>\nNOTE IDLE c1<0>\nNOTES 2\n"
unfolding digits period_line unclocked_line idle_line count_line
two_notes = refl

no_note : note_lines 1 (three [] None None None) (notes no_ways (kept 1) (three [] None None None) []) ≡
    codes "SCALD 1 PERIOD 8\nCLEAN\n"
unfolding digits period_line count_line
no_note = refl
