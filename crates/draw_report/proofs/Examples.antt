-- Words, statuses and answers, worked out on paper.
use Rattle.std.proofs.Common.{◌≡◌, ℕ, true, false, List, [], ◌∷◌, map, refl, arith, Some, None}
use Rattle.std.specs.Prelude.{codes, Result, Ok, Err}
use Rattle.std.specs.Fmt.{digits}
use Rattle.scald_base.specs.declared.refusal.Refusal.{Refusal}
use Rattle.scald_base.specs.declared.outcome.Outcome.TheVariants.{Clean, Faulty, Refused, Unsettled, BadWords, TooLong, ReadFault, WriteFault, NoMemory}
use Rattle.flat_circuit.specs.Circuit.{Circuit}
use Rattle.fixpoint_engine.specs.Waves.{Waves}
use Rattle.timing_analysis.specs.Case.{Case, printed_tick}
use Rattle.program_call.specs.Numbers.{number_in}
use Rattle.draw_report.specs.declared.asked.Among.{Among}
use Rattle.draw_report.specs.declared.asked.Among.TheVariants.{All as AnyRow, Broken}
use Rattle.draw_report.specs.declared.asked.Asked.{Asked}
use Rattle.draw_report.specs.declared.asked.Asked.TheVariants.{Case as OfCase, Limits as OfLimits}
use Rattle.draw_report.specs.declared.asked.Limits.TheVariants.{Page as OnPage, Row}
use Rattle.draw_report.specs.declared.asked.Shows.{Shows}
use Rattle.draw_report.specs.declared.asked.Shows.TheVariants.{All, Faults, Waves as Panels}
use Rattle.draw_report.specs.declared.drawn.Drawn.TheVariants.{Much as MuchDrawn, NoRow, Picture as PictureDrawn}
use Rattle.draw_report.specs.declared.outcome.DrawOutcome.TheVariants.{Drawing, Limits, NoCase, NoNet, NoRow as LacksRow, TooMuch}
use Rattle.draw_report.specs.declared.request.Request.{Request}
use Rattle.draw_report.specs.declared.sought.Found.{Found}
use Rattle.draw_report.specs.declared.sought.Found.TheVariants.{Much, Nothing, Picture}
use Rattle.draw_report.specs.Answer.{AreOne}
use Rattle.draw_report.specs.Case.{Answered, answered, found_among, found_on, next_found, settled_head}
use Rattle.draw_report.specs.Drawn.{IsDrawn, answered as answered_told, answered_below}
use Rattle.draw_report.specs.Outcome.{status_of}
use Rattle.draw_report.specs.Words.{asking, asking_of, request, request_of}

-- ---- words

abbrev requests : List (List (List ℕ)) → List (Result Request ℕ)
requests words = map request_of words

abbrev row : Among → ℕ → Asked
row among number = OfLimits (Row (record { among = among; number = number }))

abbrev shows : Shows → Asked
shows some = OfLimits (OnPage some)

pages : requests (
    (codes "draw" ∷ [])
    ∷ (codes "draw" ∷ codes "faults" ∷ [])
    ∷ (codes "draw" ∷ codes "waves" ∷ [])
    ∷ (codes "draw" ∷ codes "rounds=30" ∷ [])
    ∷ (codes "draw" ∷ codes "waves" ∷ codes "rounds=30" ∷ []) ∷ [])
    ≡ Ok (request (shows All) None) ∷ Ok (request (shows Faults) None) ∷ Ok (request (shows Panels) None)
    ∷ Ok (request (shows All) (Some 30)) ∷ Ok (request (shows Panels) (Some 30)) ∷ []
unfolding digits number_in
pages = refl

cases : requests (
    (codes "draw" ∷ codes "case=0" ∷ [])
    ∷ (codes "draw" ∷ codes "case=1" ∷ [])
    ∷ (codes "draw" ∷ codes "case=256" ∷ [])
    ∷ (codes "draw" ∷ codes "case=7" ∷ codes "rounds=30" ∷ []) ∷ [])
    ≡ Ok (request (OfCase 0) None) ∷ Ok (request (OfCase 1) None) ∷ Ok (request (OfCase 256) None)
    ∷ Ok (request (OfCase 7) (Some 30)) ∷ []
unfolding digits number_in
cases = refl

limits : requests (
    (codes "draw" ∷ codes "1" ∷ [])
    ∷ (codes "draw" ∷ codes "worst=2" ∷ [])
    ∷ (codes "draw" ∷ codes "65536" ∷ codes "rounds=30" ∷ []) ∷ [])
    ≡ Ok (request (row Broken 1) None) ∷ Ok (request (row AnyRow 2) None)
    ∷ Ok (request (row Broken 65536) (Some 30)) ∷ []
unfolding digits number_in
limits = refl

other_names : requests ([] ∷ (codes "verify" ∷ codes "case=0" ∷ []) ∷ (codes "case=0" ∷ []) ∷ [])
    ≡ Err 0 ∷ Err 0 ∷ Err 0 ∷ []
other_names = refl

nothing_to_draw : requests (
    (codes "draw" ∷ codes "wave" ∷ [])
    ∷ (codes "draw" ∷ codes "case=" ∷ [])
    ∷ (codes "draw" ∷ codes "case=00" ∷ [])
    ∷ (codes "draw" ∷ codes "case=257" ∷ [])
    ∷ (codes "draw" ∷ codes "0" ∷ [])
    ∷ (codes "draw" ∷ codes "01" ∷ [])
    ∷ (codes "draw" ∷ codes "65537" ∷ [])
    ∷ (codes "draw" ∷ codes "worst=" ∷ [])
    ∷ (codes "draw" ∷ codes "worst=0" ∷ []) ∷ [])
    ≡ Err 1 ∷ Err 1 ∷ Err 1 ∷ Err 1 ∷ Err 1 ∷ Err 1 ∷ Err 1 ∷ Err 1 ∷ Err 1 ∷ []
unfolding digits number_in
nothing_to_draw = refl

no_rounds : requests (
    (codes "draw" ∷ codes "case=0" ∷ codes "rounds=0" ∷ [])
    ∷ (codes "draw" ∷ codes "1" ∷ codes "rounds=10000001" ∷ [])
    ∷ (codes "draw" ∷ codes "faults" ∷ codes "waves" ∷ [])
    ∷ (codes "draw" ∷ codes "rounds=1" ∷ codes "waves" ∷ [])
    ∷ (codes "draw" ∷ codes "waves" ∷ codes "rounds=1" ∷ codes "rounds=1" ∷ []) ∷ [])
    ≡ Err 2 ∷ Err 2 ∷ Err 2 ∷ Err 2 ∷ Err 3 ∷ []
unfolding digits number_in
no_rounds = refl

paths : map asking_of (
    (codes "draw" ∷ codes "waves" ∷ codes "under=u1/" ∷ [])
    ∷ (codes "draw" ∷ codes "waves" ∷ codes "under=" ∷ codes "rounds=30" ∷ [])
    ∷ (codes "draw" ∷ codes "waves" ∷ codes "rounds=30" ∷ [])
    ∷ (codes "draw" ∷ codes "faults" ∷ [])
    ∷ (codes "draw" ∷ codes "waves" ∷ codes "under=A" ∷ codes "x" ∷ []) ∷ [])
    ≡ Ok (asking (Some (codes "u1/")) (request (shows Panels) None))
    ∷ Ok (asking (Some []) (request (shows Panels) (Some 30)))
    ∷ Ok (asking None (request (shows Panels) (Some 30)))
    ∷ Ok (asking None (request (shows Faults) None)) ∷ Err 3 ∷ []
unfolding digits number_in
paths = refl

no_paths : requests (
    (codes "draw" ∷ codes "under=A" ∷ [])
    ∷ (codes "draw" ∷ codes "faults" ∷ codes "under=A" ∷ [])
    ∷ (codes "draw" ∷ codes "1" ∷ codes "under=A" ∷ [])
    ∷ (codes "draw" ∷ codes "case=0" ∷ codes "under=A" ∷ [])
    ∷ (codes "draw" ∷ codes "waves" ∷ codes "under" ∷ [])
    ∷ (codes "draw" ∷ codes "waves" ∷ codes "rounds=1" ∷ codes "under=A" ∷ [])
    ∷ (codes "draw" ∷ codes "waves" ∷ codes "under=A" ∷ codes "under=A" ∷ [])
    ∷ (codes "draw" ∷ codes "waves" ∷ codes "under=A" ∷ codes "rounds=1" ∷ codes "x" ∷ []) ∷ [])
    ≡ Err 1 ∷ Err 2 ∷ Err 2 ∷ Err 2 ∷ Err 2 ∷ Err 3 ∷ Err 3 ∷ Err 4 ∷ []
unfolding digits number_in
no_paths = refl

-- ---- statuses

module _ (r : Refusal) (i : ℕ) where
  verified : map (λ o. status_of (Drawing o))
      (Clean ∷ Faulty i ∷ Refused r ∷ Unsettled i i ∷ BadWords i ∷ TooLong ∷ ReadFault ∷ WriteFault ∷ NoMemory ∷ [])
      ≡ 0 ∷ 1 ∷ 2 ∷ 3 ∷ 4 ∷ 5 ∷ 6 ∷ 7 ∷ 8 ∷ []
  verified = refl

  undrawn : map status_of (NoCase i ∷ LacksRow i ∷ NoNet ∷ TooMuch ∷ []) ≡ 10 ∷ 10 ∷ 10 ∷ 11 ∷ []
  undrawn = refl

-- ---- which case is drawn

unnumbered : settled_head 0 7 ≡ record { number = None; tick = 7 }
unnumbered = refl

numbered : settled_head 3 7 ≡ record { number = Some 3; tick = 7 }
numbered = refl

module _ (c : Circuit) (base : ℕ) (ws vs : Waves) where
  -- the case of a number, with these waves
  abbrev case : ℕ → Waves → Case
  case number waves =
      record { listed = record { number = number; values = [] }; rounds = 2; waves = waves }

  abbrev two : List Case
  two = case 1 ws ∷ case 2 vs ∷ []

  the_second : found_among c base 2 two
      ≡ found_on c vs (record { number = Some 2; tick = printed_tick c base (case 2 vs) })
  the_second = refl

  the_only : found_among c base 0 (case 0 ws ∷ [])
      ≡ found_on c ws (record { number = None; tick = printed_tick c base (case 0 ws) })
  the_only = refl

  none : map (λ asked. found_among c base asked two) (0 ∷ 3 ∷ []) ≡ Nothing ∷ Nothing ∷ []
  none = refl

-- ---- with one case more

asked_for : map (λ found. next_found found true (Picture (65 ∷ []))) (Nothing ∷ Much ∷ Picture (66 ∷ []) ∷ [])
    ≡ Picture (65 ∷ []) ∷ Much ∷ Picture (66 ∷ []) ∷ []
asked_for = refl

not_asked_for : map (λ found. next_found found false (Picture (65 ∷ []))) (Nothing ∷ Much ∷ Picture (66 ∷ []) ∷ [])
    ≡ Nothing ∷ Much ∷ Picture (66 ∷ []) ∷ []
not_asked_for = refl

-- ---- answers: of two cases, with so many faults

abbrev answer : Found → ℕ → Answered
answer found faults = answered found 2 faults

answers : map (λ found. answer found 0) (Nothing ∷ Much ∷ Picture (65 ∷ []) ∷ [])
    ≡ record { outcome = NoCase 2; bytes = [] } ∷ record { outcome = TooMuch; bytes = [] }
    ∷ record { outcome = Drawing Clean; bytes = 65 ∷ [] } ∷ []
answers = refl

with_faults : answer (Picture (65 ∷ [])) 5 ≡ record { outcome = Drawing (Faulty 5); bytes = 65 ∷ [] }
with_faults = refl

-- ---- answers of limits, with so many faults

told_clean : map (λ drawn. answered_told drawn 0) (NoRow 3 ∷ MuchDrawn ∷ PictureDrawn (65 ∷ []) ∷ [])
    ≡ record { outcome = LacksRow 3; bytes = [] } ∷ record { outcome = TooMuch; bytes = [] }
    ∷ record { outcome = Limits Clean; bytes = 65 ∷ [] } ∷ []
told_clean = refl

told_faulty : answered_told (PictureDrawn (65 ∷ [])) 2
    ≡ record { outcome = Limits (Faulty 2); bytes = 65 ∷ [] }
told_faulty = refl

below_none : map (λ has. answered_below has (PictureDrawn (65 ∷ [])) 0) (false ∷ true ∷ [])
    ≡ record { outcome = NoNet; bytes = [] }
    ∷ record { outcome = Limits Clean; bytes = 65 ∷ [] } ∷ []
below_none = refl

-- the second row is not there if there is one, and may not be said to lack if there are two
no_second : IsDrawn (Row (record { among = Broken; number = 2 })) (NoRow 1)
no_second = omega arith

some_second : IsDrawn (Row (record { among = Broken; number = 2 })) (NoRow 2) → ⊥
some_second never = omega (arith, never)

page_has_no_rows : IsDrawn (OnPage All) (NoRow 0) → ⊥
page_has_no_rows never = never

-- ---- one answer

one_verdict : AreOne (Limits (Faulty 2)) (65 ∷ []) (Limits (Faulty 2)) (66 ∷ [])
one_verdict = refl

one_much : AreOne TooMuch [] (LacksRow 3) []
one_much = tt

no_net : AreOne NoNet [] TooMuch [] → ⊥
no_net is = let same = is.0 in absurd (cc)

some_net : AreOne TooMuch [] NoNet [] → ⊥
some_net is = is

shown_net : AreOne (Limits Clean) [] NoNet [] → ⊥
shown_net is = is

other_kind : AreOne (Drawing Clean) [] (Limits Clean) [] → ⊥
other_kind is = let same = is.0 in absurd (cc)

other_bytes : AreOne (Drawing Clean) [] (Drawing Clean) (66 ∷ []) → ⊥
other_bytes is = let same = is.1 in absurd (cc)

other_verdict : AreOne (Limits Clean) [] (Limits (Faulty 2)) [] → ⊥
other_verdict same = absurd (cc)

other_lack : AreOne (NoCase 2) [] (LacksRow 2) [] → ⊥
other_lack is = let same = is.0 in absurd (cc)
