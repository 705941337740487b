-- A text of sections has one answer, and none that is an end of a call.
use Rattle.std.proofs.Common.{◌≡◌, ℕ, zero, suc, ◌+◌, ◌-◌, ◌<◌, Bool, true, false, cond, List, [], ◌∷◌, length}
use Rattle.std.proofs.Common.{slice_get, refl, sym, ap, subst, ◌∙◌, arith, inl, inr, Some, None}
use Rattle.std.specs.Prelude.{◌==◌, ◌⊎◌}
use Rattle.std.specs.List.{AllZip}
use Rattle.scald_base.specs.declared.refusal.Refusal.{Refusal}
use Rattle.drawing_tree.specs.Tree.{Drawing}
use Rattle.drawing_grammar.proofs.TextLaws.{one_drawing, not_both as no_drawing}
use Rattle.flat_circuit.specs.Circuit.{Circuit}
use Rattle.flat_circuit.proofs.Names.{below}
use Rattle.macro_expander.specs.Stands.{IsCircuitOf}
use Rattle.fixpoint_engine.specs.Start.{default_limit}
use Rattle.timing_analysis.specs.Drawn as drawn
use Rattle.timing_analysis.specs.Drawn.{IsTextRefused}
use Rattle.timing_analysis.proofs.OneCircuit.{one_circuit}
use Rattle.timing_analysis.proofs.OneText.{no_stop, one_refusal}
use Rattle.program_call.specs.Program.{IsLawful}
use Rattle.timing_analysis.proofs.SettlesOneWay.{one_place, settles_once, same_waves}
use Rattle.section_compose.specs.declared.outcome.SectionsOutcome.{SectionsOutcome}
use Rattle.section_compose.specs.declared.outcome.SectionsOutcome.TheVariants.{Clean, Faulty, Refused, Unsettled, BadSection}
use Rattle.section_compose.specs.declared.rules.Broken.{Broken}
use Rattle.section_compose.specs.declared.section.Section.{Section}
use Rattle.section_compose.specs.Answer as answer
use Rattle.section_compose.specs.Answer.{AreEnough, Concluded, Joined, RefusesFirst, composer}
use Rattle.section_compose.specs.Cut.{sections_of}
use Rattle.section_compose.specs.Evaluated.{AllSettled, IsSettled, NeverSettles, Settling, StopsAt, all_faults, section_round}
use Rattle.section_compose.specs.Lines.{broken_line, refused_lines, report, unsettled_lines}
use Rattle.section_compose.specs.Outcome.{end_of, verdict_of}
use Rattle.section_compose.proofs.Fronts.{settled_at}
use Rattle.section_compose.specs.Drawn as section
use Rattle.section_compose.specs.Drawn.{DrawsSection, IsSectionRefused, is_listed}
use Rattle.section_compose.specs.Rule.{number_of}
use Rattle.section_compose.specs.Rules.{circuits}

-- ---- one section

as_text : (text : List ℕ) (r : Refusal) → IsSectionRefused text r → IsTextRefused text r
as_text text r (section.undrawn is) = drawn.undrawn is
as_text text r (section.unexpanded d draws stop) = drawn.unexpanded d draws stop

one_section : (text : List ℕ) (x y : Section) → DrawsSection text x → DrawsSection text y → x ≡ y
one_section text x y a b =
    let same : b.drawing ≡ a.drawing = one_drawing text b.drawing a.drawing b.draws.drawn a.draws.drawn in
    let circuits : x.circuit ≡ y.circuit =
    one_circuit a.drawing x.circuit y.circuit a.draws.circuit (subst (λ (d : Drawing). IsCircuitOf d y.circuit) same b.draws.circuit) a.draws.is_circuit b.draws.is_circuit in
    let cases : x.has_case ≡ y.has_case = a.cases ∙ ap (λ (d : Drawing). is_listed d.cases) (sym same) ∙ sym b.cases in
    let versions : x.version ≡ y.version = a.version ∙ ap (λ (d : Drawing). d.version) (sym same) ∙ sym b.version in
    λ k. record { version = versions k; circuit = circuits k; has_case = cases k }

not_both : (text : List ℕ) (r : Refusal) (x : Section) → IsSectionRefused text r → DrawsSection text x → ⊥
not_both text r x (section.undrawn is) d = no_drawing text r d.drawing is d.draws.drawn
not_both text r x (section.unexpanded e draws stop) d =
    no_stop e r x.circuit stop
    (subst (λ (z : Drawing). IsCircuitOf z x.circuit) (one_drawing text d.drawing e d.draws.drawn draws) d.draws.circuit) d.draws.is_circuit

-- ---- all sections

one_list : (texts : List (List ℕ)) (xs ys : List Section) → AllZip DrawsSection texts xs → AllZip DrawsSection texts ys → xs ≡ ys
one_list [] [] [] a b = refl
one_list [] [] (y ∷ ys) a b = absurd b
one_list [] (x ∷ xs) ys a b = absurd a
one_list (text ∷ texts) [] ys a b = absurd a
one_list (text ∷ texts) (x ∷ xs) [] a b = absurd b
one_list (text ∷ texts) (x ∷ xs) (y ∷ ys) a b =
    let head : x ≡ y = one_section text x y a.0 b.0 in
    let tail : xs ≡ ys = one_list texts xs ys a.1 b.1 in
    λ k. head k ∷ tail k

drawn_at : (texts : List (List ℕ)) (xs : List Section) (s : ℕ) (text : List ℕ) → AllZip DrawsSection texts xs →
    slice_get texts s ≡ Some text → (x : Section) × DrawsSection text x
drawn_at [] xs s text d is = absurd (cc)
drawn_at (t ∷ texts) [] s text d is = absurd d
drawn_at (t ∷ texts) (x ∷ xs) zero text d is =
    let same : t ≡ text = cc in (x, subst (λ (z : List ℕ). DrawsSection z x) same d.0)
drawn_at (t ∷ texts) (x ∷ xs) (suc s) text d is = drawn_at texts xs s text d.1 is

refused_or_drawn : (texts : List (List ℕ)) (xs : List Section) (s : ℕ) (r : Refusal) → RefusesFirst texts s r → AllZip DrawsSection texts xs → ⊥
refused_or_drawn texts xs s r first d =
    let x = drawn_at texts xs s first.text d first.text_is in not_both first.text r x.0 first.refused x.1

sooner : (texts : List (List ℕ)) (s s' : ℕ) (r r' : Refusal) → s < s' → RefusesFirst texts s r → RefusesFirst texts s' r' → ⊥
sooner texts s s' r r' less a b =
    let x = b.before s a.text less a.text_is in not_both a.text r x.0 a.refused x.1

one_first : (texts : List (List ℕ)) (s s' : ℕ) (r r' : Refusal) → RefusesFirst texts s r → RefusesFirst texts s' r' → (s ≡ s') × (r ≡ r')
one_first texts s s' r r' a b = (places, causes places)
  where
    places : s ≡ s'
    places = elim (below s s') as (λ _. s ≡ s') [
      | inl l ↦ absurd (sooner texts s s' r r' l a b)
      | inr m ↦ elim (below s' s) as (λ _. s ≡ s') [ inl l ↦ absurd (sooner texts s' s r' r l b a) | inr n ↦ omega arith ]
    ]

    causes : s ≡ s' → r ≡ r'
    causes same =
        let e : Some a.text ≡ Some b.text = sym a.text_is ∙ ap (slice_get texts) same ∙ b.text_is in
        let texts_same : b.text ≡ a.text = cc in
        one_refusal a.text r r' (as_text a.text r a.refused)
        (as_text a.text r' (subst (λ (t : List ℕ). IsSectionRefused t r') texts_same b.refused))

-- ---- settled sections

one_settling : (whole : List Circuit) (c : Circuit) (x y : Settling) → IsSettled whole c x → IsSettled whole c y → x ≡ y
one_settling whole c x y a b =
    let rounds : x.rounds ≡ y.rounds = settles_once (section_round whole c) (default_limit c) (default_limit c) x.rounds y.rounds a.settles b.settles in
    let mine : x.waves ≡ section_round whole c x.rounds = same_waves x.waves (section_round whole c x.rounds) a.waves in
    let other : y.waves ≡ section_round whole c y.rounds = same_waves y.waves (section_round whole c y.rounds) b.waves in
    let waves : x.waves ≡ y.waves = mine ∙ ap (section_round whole c) rounds ∙ sym other in
    λ k. record { rounds = rounds k; waves = waves k }

one_settled : (whole sections : List Circuit) (xs ys : List Settling) → AllSettled whole sections xs → AllSettled whole sections ys → xs ≡ ys
one_settled whole [] [] [] a b = refl
one_settled whole [] [] (y ∷ ys) a b = absurd b
one_settled whole [] (x ∷ xs) ys a b = absurd a
one_settled whole (c ∷ sections) [] ys a b = absurd a
one_settled whole (c ∷ sections) (x ∷ xs) [] a b = absurd b
one_settled whole (c ∷ sections) (x ∷ xs) (y ∷ ys) a b =
    let head : x ≡ y = one_settling whole c x y a.0 b.0 in
    let tail : xs ≡ ys = one_settled whole sections xs ys a.1 b.1 in
    λ k. head k ∷ tail k

settled_or_never : (whole : List Circuit) (c : Circuit) (place : ℕ) (settling : Settling) → IsSettled whole c settling → NeverSettles whole c place → ⊥
settled_or_never whole c place settling at never = never.never settling.rounds at.settles.within at.settles.still

stops_sooner : (whole : List Circuit) (s s' place place' : ℕ) → s < s' → StopsAt whole s place → StopsAt whole s' place' → ⊥
stops_sooner whole s s' place place' less a b =
    let x = b.before s a.circuit less a.circuit_is in settled_or_never whole a.circuit place x.0 x.1 a.never

-- the same section, with the same net
one_stop : (whole : List Circuit) (s s' place place' : ℕ) (a : StopsAt whole s place) (b : StopsAt whole s' place') →
    (s ≡ s') × (a.circuit ≡ b.circuit) × (place ≡ place')
one_stop whole s s' place place' a b = (sections, circuit, nets)
  where
    sections : s ≡ s'
    sections = elim (below s s') as (λ _. s ≡ s') [
      | inl l ↦ absurd (stops_sooner whole s s' place place' l a b)
      | inr m ↦ elim (below s' s) as (λ _. s ≡ s') [ inl l ↦ absurd (stops_sooner whole s' s place' place l b a) | inr n ↦ omega arith ]
    ]

    circuit : a.circuit ≡ b.circuit
    circuit = let e : Some a.circuit ≡ Some b.circuit = sym a.circuit_is ∙ ap (slice_get whole) sections ∙ b.circuit_is in cc

    nets : place ≡ place'
    nets =
        let other : NeverSettles whole a.circuit place' = subst (λ (c : Circuit). NeverSettles whole c place') (sym circuit) b.never in
        one_place a.circuit.order (section_round whole a.circuit (default_limit a.circuit)) (section_round whole a.circuit (suc (default_limit a.circuit)))
        place place' a.never.first other.first

-- ---- answers

one_concluded : (sections : List Section) (o o' : SectionsOutcome) (bytes bytes' : List ℕ) → Concluded sections o bytes →
    Concluded sections o' bytes' → (o ≡ o') × (bytes ≡ bytes')
one_concluded sections _ _ _ _ (answer.broken b c is at) (answer.broken b' c' is' at') =
    let e : Some b ≡ Some b' = sym is ∙ is' in
    let same : b ≡ b' = cc in
    let f : Some c ≡ Some c' = sym at ∙ ap (λ (x : Broken). slice_get (circuits sections) (x.section - 1)) same ∙ at' in
    let circuit : c ≡ c' = cc in (
      ap (λ (x : Broken). BadSection x.section (number_of x.rule) x.net) same,
      (λ k. broken_line (same k).rule (same k).section (circuit k) (same k).net),
    )
one_concluded sections _ _ _ _ (answer.broken b c is at) (answer.unsettled s place kept stops) = absurd (cc (is, kept))
one_concluded sections _ _ _ _ (answer.broken b c is at) (answer.settled settlings kept settling) = absurd (cc (is, kept))
one_concluded sections _ _ _ _ (answer.unsettled s place kept stops) (answer.broken b c is at) = absurd (cc (is, kept))
one_concluded sections _ _ _ _ (answer.unsettled s place kept stops) (answer.unsettled s' place' kept' stops') =
    let one = one_stop (circuits sections) s s' place place' stops stops' in (
      (λ k. Unsettled (one.0 k + 1) (one.2 k) (default_limit (one.1 k))),
      (λ k. unsettled_lines (one.0 k + 1) (one.1 k) (one.2 k)),
    )
one_concluded sections _ _ _ _ (answer.unsettled s place kept stops) (answer.settled settlings kept' settling) =
    let x = settled_at (circuits sections) (circuits sections) settlings settling s stops.circuit stops.circuit_is in
    absurd (settled_or_never (circuits sections) stops.circuit place x.0 x.1 stops.never)
one_concluded sections _ _ _ _ (answer.settled settlings kept settling) (answer.broken b c is at) = absurd (cc (is, kept))
one_concluded sections _ _ _ _ (answer.settled settlings kept settling) (answer.unsettled s place kept' stops) =
    let x = settled_at (circuits sections) (circuits sections) settlings settling s stops.circuit stops.circuit_is in
    absurd (settled_or_never (circuits sections) stops.circuit place x.0 x.1 stops.never)
one_concluded sections _ _ _ _ (answer.settled settlings kept settling) (answer.settled settlings' kept' settling') =
    let one : settlings ≡ settlings' = one_settled (circuits sections) (circuits sections) settlings settlings' settling settling' in
    (ap (λ (xs : List Settling). verdict_of (all_faults (circuits sections) xs)) one, ap (report sections) one)

few_or_enough : (count : ℕ) → (count < 2) ⊎ (64 < count) → AreEnough count → ⊥
few_or_enough count (inl few) enough = let least = enough.least in omega (arith, few, least)
few_or_enough count (inr many) enough = let most = enough.most in omega (arith, many, most)

one_joined : (text : List ℕ) (o o' : SectionsOutcome) (bytes bytes' : List ℕ) → Joined text o bytes → Joined text o' bytes' →
    (o ≡ o') × (bytes ≡ bytes')
one_joined text _ _ _ _ (answer.bad_count wrong) (answer.bad_count wrong') = (refl, refl)
one_joined text _ _ _ _ (answer.bad_count wrong) (answer.refused s r enough first) = absurd (few_or_enough (length (sections_of text)) wrong enough)
one_joined text _ _ _ _ (answer.bad_count wrong) (answer.drawn sections o bytes has is) = absurd (few_or_enough (length (sections_of text)) wrong has.enough)
one_joined text _ _ _ _ (answer.refused s r enough first) (answer.bad_count wrong) = absurd (few_or_enough (length (sections_of text)) wrong enough)
one_joined text _ _ _ _ (answer.refused s r enough first) (answer.refused s' r' enough' first') =
    let one = one_first (sections_of text) s s' r r' first first' in
    ((λ k. Refused (one.0 k + 1) (one.1 k)), (λ k. refused_lines (one.0 k + 1) (one.1 k)))
one_joined text _ _ _ _ (answer.refused s r enough first) (answer.drawn sections o bytes has is) =
    absurd (refused_or_drawn (sections_of text) sections s r first has.drawn)
one_joined text _ _ _ _ (answer.drawn sections o bytes has is) (answer.bad_count wrong) = absurd (few_or_enough (length (sections_of text)) wrong has.enough)
one_joined text _ _ _ _ (answer.drawn sections o bytes has is) (answer.refused s r enough first) =
    absurd (refused_or_drawn (sections_of text) sections s r first has.drawn)
one_joined text _ _ _ _ (answer.drawn sections o bytes has is) (answer.drawn sections' o' bytes' has' is') =
    let same : sections' ≡ sections = one_list (sections_of text) sections' sections has'.drawn has.drawn in
    one_concluded sections o o' bytes bytes' is (subst (λ (xs : List Section). Concluded xs o' bytes') same is')

-- ---- no reply is an end of the call

verdict_speaks : (n : ℕ) → end_of (verdict_of n) ≡ None
verdict_speaks n = by (n == 0)
  where
    by : (none : Bool) → end_of (cond none Clean (Faulty n)) ≡ None
    by true = refl
    by false = refl

concluded_speaks : (sections : List Section) (o : SectionsOutcome) (bytes : List ℕ) → Concluded sections o bytes → end_of o ≡ None
concluded_speaks sections _ _ (answer.broken b c is at) = refl
concluded_speaks sections _ _ (answer.unsettled s place kept stops) = refl
concluded_speaks sections _ _ (answer.settled settlings kept settling) = verdict_speaks (all_faults (circuits sections) settlings)

joined_speaks : (text : List ℕ) (o : SectionsOutcome) (bytes : List ℕ) → Joined text o bytes →
    end_of o ≡ None
joined_speaks text _ _ (answer.bad_count wrong) = refl
joined_speaks text _ _ (answer.refused s r enough first) = refl
joined_speaks text _ _ (answer.drawn sections o bytes has is) = concluded_speaks sections o bytes is

pub composer_lawful : IsLawful composer
composer_lawful = record {
  ends = λ end. refl;
  replies = λ request. joined_speaks;
  one = λ request. one_joined;
  same = λ o bytes. (refl, refl);
  unread = λ request text other o bytes none replied. absurd (cc);
}
