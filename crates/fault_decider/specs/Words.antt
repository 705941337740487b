-- The form of words that asks for decisions: `decide`, then `effort=N`, then `trace=I`, of which
-- each may be left out.
use Rattle.std.specs.Prelude.{ℕ, ◌+◌, ◌-◌, ◌^◌, ◌≤◌, List, [], ◌∷◌, codes, Option, Some, None, IfSome, Result, Ok, Err, if◌then◌else◌}
use Rattle.std.specs.Str.{bytes_eq}
use Rattle.program_call.specs.Numbers.{after_front, number_after}
use Rattle.fault_decider.specs.declared.words.Request.{Request}

abbrev pub most_effort : ℕ
most_effort = 1000

-- how many faults may be counted
abbrev pub most_faults : ℕ
most_faults = 2 ^ 32 - 1

-- the N of `effort=N`
abbrev pub effort_of : List ℕ → Option ℕ
effort_of word = number_after most_effort (after_front (codes "effort=") word)

-- the I of `trace=I`
abbrev pub trace_of : List ℕ → Option ℕ
trace_of word = number_after most_faults (after_front (codes "trace=") word)

abbrev pub request : ℕ → Option ℕ → Request
request effort trace = record { effort = effort; trace = trace }

-- no word follows those of the form; the first that did would have this number
abbrev pub alone : Request → ℕ → List (List ℕ) → Result Request ℕ
alone r place [] = Ok r
alone r place (w ∷ ws) = Err place

abbrev pub with_trace : ℕ → ℕ → Option ℕ → List (List ℕ) → Result Request ℕ
with_trace effort place None others = Err place
with_trace effort place (Some i) others = alone (request effort (Some i)) (place + 1) others

-- the words from this number on, if the effort is known
abbrev pub after_effort : ℕ → ℕ → List (List ℕ) → Result Request ℕ
after_effort effort place [] = Ok (request effort None)
after_effort effort place (w ∷ ws) = with_trace effort place (trace_of w) ws

abbrev pub with_effort : Option ℕ → List ℕ → List (List ℕ) → Result Request ℕ
with_effort None w ws = after_effort 1 1 (w ∷ ws)
with_effort (Some effort) w ws = after_effort effort 2 ws

abbrev pub after_name : List (List ℕ) → Result Request ℕ
after_name [] = Ok (request 1 None)
after_name (w ∷ ws) = with_effort (effort_of w) w ws

-- What the words ask for. Of other words it is the number of the first with which no form goes on.
abbrev pub request_of : List (List ℕ) → Result Request ℕ
request_of [] = Err 0
request_of (w ∷ ws) = if bytes_eq w (codes "decide") then after_name ws else Err 0

pub record IsWithin (r : Request) : Type 0 where
  pub some_effort : 1 ≤ r.effort
  pub effort : r.effort ≤ most_effort
  pub trace : IfSome r.trace (λ i. 1 ≤ i)
