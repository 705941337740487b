-- The last line of the report: how many faults there are over all cases, or that there is none.
use Rattle.std.specs.Prelude.{ℕ, List, [], ◌∷◌, ◌==◌, codes, decimal, if◌then◌else◌}
use Rattle.listing.specs.Text.{line}

unfoldable pub last_line : ℕ → List ℕ
last_line total =
    if total == 0 then line (codes "CLEAN" ∷ []) else line (codes "FAULTS " ∷ decimal total ∷ [])
