-- What the words of both programs ask for, and the lines of answers.
use Rattle.std.proofs.Common.{◌≡◌, [], ◌∷◌, codes, refl, Some, None, Ok, Err}
use Rattle.std.specs.Fmt.{digits}
use Rattle.slack_report.specs.declared.request.Part.TheVariants.{Table, Paragraphs}
use Rattle.slack_report.specs.Answer.{last_lines}
use Rattle.slack_report.specs.Words.{request, request_of}
use Rattle.program_call.specs.Numbers.{number_in}

-- ---- words

alone : request_of (codes "slack" ∷ []) ≡ Ok (request Table None None)
alone = refl

with_both : request_of (codes "explain" ∷ codes "worst=12" ∷ codes "rounds=7" ∷ [])
    ≡ Ok (request Paragraphs (Some 12) (Some 7))
unfolding digits number_in
with_both = refl

with_rounds : request_of (codes "slack" ∷ codes "rounds=7" ∷ []) ≡ Ok (request Table None (Some 7))
unfolding digits number_in
with_rounds = refl

in_the_other_order : request_of (codes "slack" ∷ codes "rounds=7" ∷ codes "worst=1" ∷ []) ≡ Err 2
unfolding digits number_in
in_the_other_order = refl

no_rows : request_of (codes "slack" ∷ codes "worst=0" ∷ []) ≡ Err 1
unfolding digits number_in
no_rows = refl

zeros_in_front : request_of (codes "slack" ∷ codes "worst=01" ∷ []) ≡ Err 1
unfolding digits number_in
zeros_in_front = refl

more_rows : request_of (codes "slack" ∷ codes "worst=65536" ∷ codes "worst=1" ∷ []) ≡ Err 2
unfolding digits number_in
more_rows = refl

too_many_rows : request_of (codes "slack" ∷ codes "worst=65537" ∷ []) ≡ Err 1
unfolding digits number_in
too_many_rows = refl

no_word : request_of [] ≡ Err 0
no_word = refl

another_word : request_of (codes "verify" ∷ []) ≡ Err 0
another_word = refl

-- ---- lines

met : last_lines Table 0 0 2 ≡ codes "\nMET 2\n"
unfolding digits last_lines
met = refl

broken : last_lines Paragraphs 4 3 7 ≡ codes "\nBROKEN 3\n"
unfolding digits last_lines
broken = refl

with_free : last_lines Table 4 0 2 ≡ codes "4 limits that nothing can break\n\nMET 2\n"
unfolding digits last_lines
with_free = refl
