-- The lines that stand in place of a report.
use Rattle.std.specs.Prelude.{ℕ, List, [], ◌∷◌, length, codes, decimal}
use Rattle.scald_base.specs.Refusal.{number_of, name_of}
use Rattle.scald_base.specs.declared.refusal.Refusal.{Refusal}
use Rattle.flat_circuit.specs.Instances.{outputs, checkers}
use Rattle.flat_circuit.specs.Circuit.{Circuit}
use Rattle.flat_circuit.specs.Name.{net_at}
use Rattle.listing.specs.Text.{line}
use Rattle.listing.specs.Names.{net_text}

-- why a text is refused, and at which line and column
unfoldable pub refusal_line : Refusal → List ℕ
refusal_line r = line (
    codes "REFUSED " ∷ decimal (number_of r.kind) ∷ codes " " ∷ name_of r.kind ∷ codes " "
    ∷ decimal r.place.line ∷ codes ":" ∷ decimal r.place.col ∷ [])

-- the first net, by its place in the order of names, that still changes, and the round at the limit
unfoldable pub unsettled_line : Circuit → ℕ → ℕ → List ℕ
unsettled_line c place round =
    line (codes "UNSETTLED " ∷ net_text c (net_at c.order place) ∷ codes " ROUND " ∷ decimal round
    ∷ [])

-- the numbers of a report on a circuit of so many sections: its bits of nets, of instances with an
-- output and of checkers, the rounds of its base, the tick from which on its waves hold, and its
-- faults
unfoldable pub summary_line : Circuit → ℕ → ℕ → ℕ → ℕ → List ℕ
summary_line c sections base tick faults = line (
    codes "BENCH " ∷ decimal sections ∷ codes " NETS " ∷ decimal (length c.nets)
    ∷ codes " INSTANCES " ∷ decimal (outputs c.instances) ∷ codes " CHECKS "
    ∷ decimal (checkers c.instances)
    ∷ codes " ROUNDS " ∷ decimal base ∷ codes " T " ∷ decimal tick ∷ codes " FAULTS "
    ∷ decimal faults ∷ [])
