use Rattle.std.proofs.Common.{◌≡◌, ℕ, ◌==◌, ◌&&◌, ◌||◌, length, drop, Some, true}
use Rattle.flat_circuit.specs.Alike.{class_of}
use Rattle.fixpoint_engine.specs.Members.{leads_in}
use Rattle.fixpoint_engine.specs.Work.{hears_from}
use Rattle.fixpoint_engine.specs.Worklist.{among}
use Rattle.fixpoint_engine.specs.Hearers.{row_of}
use Rattle.fixpoint_engine.proofs.hearers.add_pins.Given as goal

-- what the pins add that are left
abbrev pub invariant-loop-place : goal.invariant-loop-place
invariant-loop-place l = record {
  long : length l.rows.items ≡ length l.initial.rows.items;
  left : (first i : ℕ) → leads_in (Some l.classes) first ≡ true →
      (among (row_of l.rows.items first) i || (hears_from (λ j. class_of l.classes first == class_of l.classes j) l.kind l.place (drop l.place l.pins) && (l.net == i)))
      ≡ (among (row_of l.initial.rows.items first) i || (hears_from (λ j. class_of l.classes first == class_of l.classes j) l.kind 0 l.pins && (l.net == i)));
}
