-- What is said on standard error, and with which status the program ends if it has no words.
use Rattle.std.specs.Prelude.{ℕ, Bool, true, false, List, [], ◌∷◌, codes}
use Rattle.std.specs.Str.{bytes_eq}
use Rattle.trace_tool.specs.Reading.{HasNoTrace, HasTrace}
use Rattle.scald.specs.declared.unstarted.Unstarted.{Unstarted}
use Rattle.scald.specs.declared.unstarted.Unstarted.TheVariants.{NoArguments, NoMemory}

-- no outcome has the status 20
abbrev pub unstarted_status : Unstarted → ℕ
unstarted_status NoArguments = 20
unstarted_status NoMemory = 8

abbrev pub asks_to_judge : List (List ℕ) → Bool
asks_to_judge [] = false
asks_to_judge (first ∷ others) = bytes_eq first (codes "judge")

-- the drawing in what was read: what follows the trace if one is to be judged, and else all of it
pub data IsDrawingIn : Bool → List ℕ → List ℕ → Type 0 where
  whole : (text : List ℕ) → IsDrawingIn false text text
  untraced : (text : List ℕ) → HasNoTrace text → IsDrawingIn true text text
  traced : (text : List ℕ) (lines : List (List ℕ)) (drawing : List ℕ) →
      HasTrace text lines drawing → IsDrawingIn true text drawing
