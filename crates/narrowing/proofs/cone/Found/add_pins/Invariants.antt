use Rattle.std.proofs.Common.{take}
use Rattle.case_analysis.specs.Found.{Extends}
use Rattle.narrowing.specs.Cone.{any_leads}
use Rattle.narrowing.proofs.cone.Found.add_pins.Given as goal

abbrev pub invariant-loop-place : goal.invariant-loop-place
invariant-loop-place l =
    Extends (λ i. any_leads l.through l.kind i 0 (take l.place l.pins)) l.initial.self l.self
