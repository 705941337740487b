use Rattle.std.proofs.Common.{◌++◌, List, ap, ◌∙◌, append-nil, sym}
use Rattle.std.specs.List.{flat_map}
use Rattle.std.proofs.lemmas.List.{take_all}
use Rattle.flat_circuit.specs.declared.fault.Fault.{Fault}
use Rattle.flat_circuit.specs.declared.fault.Fault.TheVariants.{Point}
use Rattle.flat_circuit.specs.declared.fault.PointKind.TheVariants.{Setup}
use Rattle.listing.specs.Fault.{fault_line}
use Rattle.listing.specs.Lines.{lines_text}
use Rattle.listing.proofs.Kept.{behind_taken}
use Rattle.listing.proofs.lines.Lines.add_again.Goals as goal

pub loop-fault-init : goal.loop-fault-init
loop-fault-init c = record {
  text = sym (append-nil (lines_text c.args.self.now));
  are = c.requires;
}

pub loop-fault-preserved : goal.loop-fault-preserved
loop-fault-preserved c = record {
  text = behind_taken (fault_line c.args.c.now) c.args.faults.now c.loop-fault.fault-index
      (Point Setup 0 0 0 0) (lines_text c.args.self.now) (lines_text c.loop-fault.self) _
      c.loop-fault-test.true c.loop-fault.invariant.text c.in_ok-add_fault.ensures.text;
  are = c.in_ok-add_fault.ensures.are;
}

pub returns-clause-text : goal.returns-clause-text
returns-clause-text c =
    c.loop-fault.invariant.text
    ∙ ap (λ (fs : List Fault). lines_text c.args.self.now ++ flat_map (fault_line c.args.c.now) fs)
    (take_all c.loop-fault.fault-index c.args.faults.now c.loop-fault-test.false)
