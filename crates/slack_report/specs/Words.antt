-- The forms of words that both programs have: `slack` or `explain`, then `worst=N`, then
-- `rounds=N`, of which each may be left out.
use Rattle.std.specs.Prelude.{ℕ, ◌+◌, ◌≤◌, List, [], ◌∷◌, codes, Option, Some, None, IfSome, Result, Ok, Err, if◌then◌else◌}
use Rattle.std.specs.Str.{bytes_eq}
use Rattle.program_call.specs.Numbers.{after_front, most_rounds, number_after, rounds_of}
use Rattle.slack_report.specs.declared.request.Part.{Part}
use Rattle.slack_report.specs.declared.request.Part.TheVariants.{Table, Paragraphs}
use Rattle.slack_report.specs.declared.request.Request.{Request}

-- the most rows that may be asked for
abbrev pub most_rows : ℕ
most_rows = 65536

abbrev pub part_of : List ℕ → Option Part
part_of name =
    if bytes_eq name (codes "slack") then Some Table
    else (if bytes_eq name (codes "explain") then Some Paragraphs else None)

-- the N of `worst=N`
abbrev pub worst_of : List ℕ → Option ℕ
worst_of word = number_after most_rows (after_front (codes "worst=") word)

abbrev pub request : Part → Option ℕ → Option ℕ → Request
request part worst rounds = record { part = part; worst = worst; rounds = rounds }

-- no word follows those of the form; the first that did would have this number
abbrev pub alone : Request → ℕ → List (List ℕ) → Result Request ℕ
alone r place [] = Ok r
alone r place (w ∷ ws) = Err place

abbrev pub with_rounds : Part → Option ℕ → ℕ → Option ℕ → List (List ℕ) → Result Request ℕ
with_rounds part worst place None others = Err place
with_rounds part worst place (Some n) others =
    alone (request part worst (Some n)) (place + 1) others

-- the words from this number on, if it is known how many rows are asked for
abbrev pub after_worst : Part → Option ℕ → ℕ → List (List ℕ) → Result Request ℕ
after_worst part worst place [] = Ok (request part worst None)
after_worst part worst place (w ∷ ws) = with_rounds part worst place (rounds_of w) ws

abbrev pub with_worst : Part → Option ℕ → List ℕ → List (List ℕ) → Result Request ℕ
with_worst part None w ws = after_worst part None 1 (w ∷ ws)
with_worst part (Some n) w ws = after_worst part (Some n) 2 ws

abbrev pub after_name : Part → List (List ℕ) → Result Request ℕ
after_name part [] = Ok (request part None None)
after_name part (w ∷ ws) = with_worst part (worst_of w) w ws

abbrev pub with_part : Option Part → List (List ℕ) → Result Request ℕ
with_part None words = Err 0
with_part (Some part) words = after_name part words

-- What the words ask for. Of other words it is the number of the first with which no form goes on.
abbrev pub request_of : List (List ℕ) → Result Request ℕ
request_of [] = Err 0
request_of (w ∷ ws) = with_part (part_of w) ws

-- no more rows or rounds are asked for than may be
pub record IsWithin (r : Request) : Type 0 where
  pub worst : IfSome r.worst (λ n. (1 ≤ n) × (n ≤ most_rows))
  pub rounds : IfSome r.rounds (λ n. n ≤ most_rounds)
