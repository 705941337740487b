-- The lines of a report while it is written.
use Rattle.std.specs.Prelude.{◌≡◌, ℕ, ◌≤◌, List, ◌++◌, length}
use Rattle.std.specs.List.{AllByRecursion}
use Rattle.listing.specs.declared.output.Part.{Part}
use Rattle.listing.specs.Output.{part_of, text_of}
use Rattle.flat_circuit.specs.declared.fault.Fault.{Fault}
use Rattle.flat_circuit.specs.Circuit.{Circuit}
use Rattle.listing.specs.Fault.{fault_line}
use Rattle.listing.specs.declared.known.Known.{Known}
use Rattle.listing.specs.declared.lines.Lines.{Lines}

abbrev pub lines_text : Lines → List ℕ
lines_text l = text_of l.kept l.parts ++ part_of l.kept l.last

pub record IsWithin (kept : List ℕ) (p : Part) : Type 0 where
  pub up : p.from ≤ p.to
  pub within : p.to ≤ length kept

-- This part is the line of the fault.
pub record IsLine (c : Circuit) (kept : List ℕ) (f : Fault) (p : Part) : Type 0 where
  pub within : IsWithin kept p
  pub is : part_of kept p ≡ fault_line c f

abbrev pub HasLine : Circuit → List ℕ → Known → Type 0
HasLine c kept k = IsLine c kept k.fault k.part

-- Each part lies within what is kept, and each line that is known is that of its fault.
pub record AreLines (c : Circuit) (l : Lines) : Type 0 where
  pub parts : AllByRecursion (IsWithin l.kept) l.parts
  pub last : IsWithin l.kept l.last
  pub known : AllByRecursion (HasLine c l.kept) l.known.lines

-- These bytes came after all that was kept, as this part, and the lines are as before.
pub record Keeps (c : Circuit) (old new : Lines) (bytes : List ℕ) (p : Part) : Type 0 where
  pub are : AreLines c new
  pub text : lines_text new ≡ lines_text old
  pub within : IsWithin new.kept p
  pub is : part_of new.kept p ≡ bytes
