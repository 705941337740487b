-- The forms of words: `draw` with `faults`, `waves`, `case=K`, `N` or `worst=N` or none of them,
-- after `waves` with `under=PATH` or without it, then `rounds=N`, which may be left out.
use Rattle.std.specs.Prelude.{ℕ, ◌+◌, ◌≤◌, Bool, false, List, [], ◌∷◌, codes, Option, Some, None, IfSome, Result, Ok, Err, is_some, if◌then◌else◌, ⊤}
use Rattle.std.specs.Str.{bytes_eq}
use Rattle.program_call.specs.Numbers.{after_front, most_rounds, number_after, number_in, rounds_of}
use Rattle.draw_report.specs.declared.asked.Asked.{Asked}
use Rattle.draw_report.specs.declared.asked.Asked.TheVariants.{Case, Limits}
use Rattle.draw_report.specs.declared.asked.Limits.{Limits as OfLimits}
use Rattle.draw_report.specs.declared.asked.Limits.TheVariants.{Page, Row}
use Rattle.draw_report.specs.declared.request.Request.{Request}
use Rattle.draw_report.specs.declared.asked.Among.{Among}
use Rattle.draw_report.specs.declared.asked.Among.TheVariants.{All as AnyRow, Broken}
use Rattle.draw_report.specs.declared.asked.Shows.TheVariants.{All, Faults, Waves}

-- the highest number of a case, and of a row
abbrev pub most_cases : ℕ
most_cases = 256

abbrev pub most_rows : ℕ
most_rows = 65536

-- the K of `case=K`, which may be 0
abbrev pub case_in : Option (List ℕ) → Option ℕ
case_in None = None
case_in (Some digits) =
    if bytes_eq digits (codes "0") then Some 0 else number_in most_cases digits

abbrev pub of_case : Option ℕ → Option Asked
of_case None = None
of_case (Some case) = Some (Case case)

abbrev pub case_of : List ℕ → Option Asked
case_of word = of_case (case_in (after_front (codes "case=") word))

-- the N of `worst=N`, or the word itself
abbrev pub of_row : Among → Option ℕ → Option Asked
of_row among None = None
of_row among (Some number) = Some (Limits (Row (record { among = among; number = number })))

abbrev pub row_of : List ℕ → Option Asked
row_of word =
    if is_some (after_front (codes "worst=") word)
    then of_row AnyRow (number_after most_rows (after_front (codes "worst=") word))
    else of_row Broken (number_in most_rows word)

abbrev pub page_of : List ℕ → Option Asked
page_of word =
    if bytes_eq word (codes "faults") then Some (Limits (Page Faults))
    else if bytes_eq word (codes "waves") then Some (Limits (Page Waves))
    else None

abbrev pub asked_of : List ℕ → Option Asked
asked_of word =
    if is_some (page_of word) then page_of word
    else if is_some (case_of word) then case_of word
    else row_of word

abbrev pub request : Asked → Option ℕ → Request
request asked rounds = record { asked = asked; rounds = rounds }

-- no word follows those of the form; the first that did would have this number
abbrev pub alone : Request → ℕ → List (List ℕ) → Result Request ℕ
alone r place [] = Ok r
alone r place (w ∷ ws) = Err place

abbrev pub with_rounds : Asked → ℕ → Option ℕ → List (List ℕ) → Result Request ℕ
with_rounds asked place None ws = Err place
with_rounds asked place (Some limit) ws = alone (request asked (Some limit)) (place + 1) ws

abbrev pub after_asked : Asked → ℕ → List (List ℕ) → Result Request ℕ
after_asked asked place [] = Ok (request asked None)
after_asked asked place (w ∷ ws) = with_rounds asked place (rounds_of w) ws

-- a path, any bytes, may follow if waves are shown
abbrev pub path_of : List ℕ → Option (List ℕ)
path_of word = after_front (codes "under=") word

abbrev pub takes_path : Asked → List ℕ → Bool
takes_path (Case case) word = false
takes_path (Limits (Page All)) word = false
takes_path (Limits (Page Faults)) word = false
takes_path (Limits (Page Waves)) word = is_some (path_of word)
takes_path (Limits (Row wanted)) word = false

abbrev pub after_shown : Asked → List (List ℕ) → Result Request ℕ
after_shown asked [] = after_asked asked 2 []
after_shown asked (w ∷ ws) =
    if takes_path asked w then after_asked asked 3 ws else after_asked asked 2 (w ∷ ws)

-- a whole page, if the words do not say what
abbrev pub with_asked : Option Asked → List (List ℕ) → List (List ℕ) → Result Request ℕ
with_asked None words others = after_asked (Limits (Page All)) 1 words
with_asked (Some asked) words others = after_shown asked others

abbrev pub after_name : List (List ℕ) → Result Request ℕ
after_name [] = after_asked (Limits (Page All)) 1 []
after_name (w ∷ ws) = with_asked (asked_of w) (w ∷ ws) ws

-- What the words ask for. Of other words it is the number of the first with which no form goes on.
abbrev pub request_of : List (List ℕ) → Result Request ℕ
request_of [] = Err 0
request_of (w ∷ ws) = if bytes_eq w (codes "draw") then after_name ws else Err 0

-- the path that they ask for, if they do
abbrev pub under_of : List (List ℕ) → Option (List ℕ)
under_of [] = None
under_of (d ∷ []) = None
under_of (d ∷ w ∷ []) = None
under_of (d ∷ w ∷ u ∷ ws) = if bytes_eq w (codes "waves") then path_of u else None

-- What is asked for, with the path.
pub record Asking : Type 0 where
  pub request : Request
  pub under : Option (List ℕ)

abbrev pub asking : Option (List ℕ) → Request → Asking
asking under r = record { request = r; under = under }

abbrev pub asking_in : Option (List ℕ) → Result Request ℕ → Result Asking ℕ
asking_in under (Ok r) = Ok (asking under r)
asking_in under (Err i) = Err i

abbrev pub asking_of : List (List ℕ) → Result Asking ℕ
asking_of words = asking_in (under_of words) (request_of words)

-- the number is one that may be asked for
abbrev pub IsRow : OfLimits → Type 0
IsRow (Page shows) = ⊤
IsRow (Row wanted) = (1 ≤ wanted.number) × (wanted.number ≤ most_rows)

abbrev pub IsNumbered : Asked → Type 0
IsNumbered (Case case) = case ≤ most_cases
IsNumbered (Limits limits) = IsRow limits

-- no later case or row and no more rounds are asked for than may be
pub record IsWithin (r : Request) : Type 0 where
  pub numbered : IsNumbered r.asked
  pub rounds : IfSome r.rounds (λ n. n ≤ most_rounds)
