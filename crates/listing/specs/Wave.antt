-- The lines of waves.
use Rattle.std.specs.Prelude.{ℕ, List, [], ◌∷◌, codes, decimal}
use Rattle.std.specs.List.{flat_map}
use Rattle.step_values.specs.declared.value.Value.{Value}
use Rattle.skew_algebra.specs.Wave.{Wave}
use Rattle.flat_circuit.specs.Circuit.{Circuit}
use Rattle.listing.specs.Text.{line}
use Rattle.listing.specs.Names.{net_text}
use Rattle.listing.specs.Run.{runs_text}

-- the skew of a net's wave, and its runs
unfoldable pub wave_line : Circuit → (ℕ → Wave Value) → ℕ → List ℕ
wave_line c waves i =
    line (codes "WAVE " ∷ net_text c i ∷ codes " SKEW " ∷ decimal (waves i).skew
    ∷ runs_text (waves i).cells ∷ [])

-- a line for each net, in the order of names
abbrev pub wave_lines : Circuit → (ℕ → Wave Value) → List ℕ
wave_lines c waves = flat_map (wave_line c waves) c.order
