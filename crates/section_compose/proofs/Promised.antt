-- If the report on the sections of a text is that nothing is wrong, nothing of their whole breaks.
use Rattle.std.proofs.Common.{◌≡◌, ℕ, zero, suc, ◌<◌, Bool, true, false, cond, List, [], ◌∷◌, slice_get, refl, subst, Some, None}
use Rattle.std.specs.Prelude.{◌==◌, Err, IfOk, Ok, Result}
use Rattle.std.specs.List.{AllZip}
use Rattle.std.proofs.lemmas.Bool.{eqb-true}
use Rattle.std.proofs.lemmas.List.Elements.{All-head, All-tail}
use Rattle.scald_base.specs.Time.{period}
use Rattle.flat_circuit.specs.Circuit.{Circuit, IsCircuit}
use Rattle.section_compose.specs.declared.outcome.SectionsOutcome.{SectionsOutcome}
use Rattle.section_compose.specs.declared.outcome.SectionsOutcome.TheVariants.{Clean, Faulty}
use Rattle.section_compose.specs.declared.section.Section.{Section}
use Rattle.section_compose.specs.Answer.{Concluded, HasSections, broken, unsettled, settled}
use Rattle.section_compose.specs.Evaluated.{Settling, AllSettled, all_faults, greatest_tick}
use Rattle.section_compose.specs.Outcome.{verdict_of}
use Rattle.section_compose.specs.Promise.{NeverBreaksJoined}
use Rattle.section_compose.specs.Reading.{AreTimed}
use Rattle.section_compose.specs.Drawn.{DrawsSection}
use Rattle.section_compose.specs.Rules.{circuits, first_broken}
use Rattle.section_compose.proofs.Facts.{each_settles}
use Rattle.section_compose.proofs.Joined.{never_breaks}
use Rattle.section_compose.proofs.Kept.{rules_hold}

drawn_are : (texts : List (List ℕ)) (sections : List Section) → AllZip DrawsSection texts sections →
    (s : ℕ) (c : Circuit) → slice_get (circuits sections) s ≡ Some c → IsCircuit c
drawn_are [] [] drawn s c is = absurd (cc)
drawn_are [] (x ∷ sections) drawn s c is = absurd drawn
drawn_are (text ∷ texts) [] drawn s c is = absurd drawn
drawn_are (text ∷ texts) (x ∷ sections) drawn zero c is =
    let same : x.circuit ≡ c = cc in subst IsCircuit same drawn.0.draws.is_circuit
drawn_are (text ∷ texts) (x ∷ sections) drawn (suc s) c is = drawn_are texts sections drawn.1 s c is

timed_are : (sections : List Section) → AreTimed sections → (s : ℕ) (c : Circuit) → slice_get (circuits sections) s ≡ Some c →
    0 < period c.header
timed_are [] timed s c is = absurd (cc)
timed_are (x ∷ sections) timed zero c is =
    let same : x.circuit ≡ c = cc in
    subst (λ (y : Circuit). 0 < period y.header) same (All-head (λ (s : Section). 0 < period s.circuit.header) x sections timed)
timed_are (x ∷ sections) timed (suc s) c is =
    timed_are sections (All-tail (λ (s : Section). 0 < period s.circuit.header) x sections timed) s c is

no_faults : (n : ℕ) → verdict_of n ≡ Clean → n ≡ 0
no_faults n clean = eqb-true n 0 (by (n == 0) clean)
  where
    by : (none : Bool) → cond none Clean (Faulty n) ≡ Clean → none ≡ true
    by true e = refl
    by false e = cc

never_breaks_settled : (text : List ℕ) (sections : List Section) (settlings : List Settling) → HasSections text sections → AreTimed sections →
    first_broken sections ≡ None → AllSettled (circuits sections) (circuits sections) settlings →
    all_faults (circuits sections) settlings ≡ 0 → NeverBreaksJoined text
never_breaks_settled text sections settlings has timed kept settling none = record {
  sections = sections;
  drawn = has;
  joined = kept;
  settlings = settlings;
  settled = settling;
  never =
      never_breaks (circuits sections) (greatest_tick (circuits sections) settlings)
      (rules_hold sections kept (drawn_are _ sections has.drawn))
      (drawn_are _ sections has.drawn) (timed_are sections timed)
      (each_settles (circuits sections) (circuits sections) settlings settling none);
}

pub clean_never_breaks : (text : List ℕ) (sections : List Section) (o : SectionsOutcome) (bytes : List ℕ) → HasSections text sections →
    AreTimed sections → Concluded sections o bytes → o ≡ Clean → NeverBreaksJoined text
clean_never_breaks text sections _ _ has timed (broken b c is at) clean = cc
clean_never_breaks text sections _ _ has timed (unsettled s place kept stops) clean = cc
clean_never_breaks text sections _ _ has timed (settled settlings kept settling) clean =
    never_breaks_settled text sections settlings has timed kept settling (no_faults (all_faults (circuits sections) settlings) clean)

pub replied_clean : {A E : Type 0} (r : Result A E) (outcome : A → SectionsOutcome) (bytes : A → List ℕ) (text : List ℕ) (sections : List Section) →
    HasSections text sections → AreTimed sections → IfOk r (λ x. Concluded sections (outcome x) (bytes x)) →
    IfOk r (λ x. outcome x ≡ Clean → NeverBreaksJoined text)
replied_clean (Ok x) outcome bytes text sections has timed is = clean_never_breaks text sections (outcome x) (bytes x) has timed is
replied_clean (Err e) outcome bytes text sections has timed is = tt
