-- Texts of commands, one after another.
use Rattle.std.proofs.Common.{◌≡◌, ℕ, Bool, List, [], ◌∷◌, ◌++◌, map, refl, ap, ◌∙◌}
use Rattle.std.specs.List.{flat_map}
use Rattle.std.proofs.lemmas.List.Concat.{flat_map-append}
use Rattle.flat_circuit.specs.Circuit.{Circuit}
use Rattle.trace_tool.specs.declared.stretch.Stretch.{Stretch}
use Rattle.trace_tool.specs.Change.{Command, command_text, value_if, value_of}
use Rattle.trace_tool.specs.Dump.{texts}

pub texts_append : (a b : List Command) → texts (a ++ b) ≡ texts a ++ texts b
texts_append a b = flat_map-append command_text a b

pub texts_map : {X : Type 0} (f : X → Command) (xs : List X) → texts (map f xs) ≡ flat_map (λ (x : X). command_text (f x)) xs
texts_map f [] = refl
texts_map f (x ∷ xs) = ap (λ (l : List ℕ). command_text (f x) ++ l) (texts_map f xs)

pub texts_flat_map : {X : Type 0} (f : X → List Command) (xs : List X) → texts (flat_map f xs) ≡ flat_map (λ (x : X). texts (f x)) xs
texts_flat_map f [] = refl
texts_flat_map f (x ∷ xs) = texts_append (f x) (flat_map f xs) ∙ ap (λ (l : List ℕ). texts (f x) ++ l) (texts_flat_map f xs)

-- ---- the texts of a stretch

abbrev pub all_text : Circuit → List (List Bool) → ℕ → Stretch → List ℕ
all_text c rows t s = command_text (value_of c rows t s)

abbrev pub if_text : Circuit → List (List Bool) → ℕ → Stretch → List ℕ
if_text c rows t s = texts (value_if c rows t s)
