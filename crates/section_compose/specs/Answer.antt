-- What is answered to the bytes of several drawings.
use Rattle.std.specs.Prelude.{◌≡◌, ◌⊎◌, ℕ, ◌+◌, ◌-◌, ◌<◌, ◌≤◌, true, List}
use Rattle.std.specs.Prelude.{[], length, slice_get, codes, Some, None}
use Rattle.std.specs.List.{AllZip}
use Rattle.scald_base.specs.declared.refusal.Refusal.{Refusal}
use Rattle.flat_circuit.specs.Circuit.{Circuit}
use Rattle.fixpoint_engine.specs.Start.{default_limit}
use Rattle.program_call.specs.Program.{Meaning}
use Rattle.program_call.specs.Wordless.{by_name, most_bytes}
use Rattle.program_call.specs.declared.words.Request.{Request}
use Rattle.section_compose.specs.declared.outcome.SectionsOutcome.{SectionsOutcome}
use Rattle.section_compose.specs.declared.outcome.SectionsOutcome.TheVariants.{Refused, Unsettled, Ended, BadCount, BadSection}
use Rattle.section_compose.specs.declared.rules.Broken.{Broken}
use Rattle.section_compose.specs.declared.section.Section.{Section}
use Rattle.section_compose.specs.Cut.{sections_of}
use Rattle.section_compose.specs.Drawn.{DrawsSection, IsSectionRefused}
use Rattle.section_compose.specs.Evaluated.{Settling, AllSettled, StopsAt, all_faults}
use Rattle.section_compose.specs.Lines.{broken_line, refused_lines, unsettled_lines, report}
use Rattle.section_compose.specs.Outcome.{end_of, verdict_of}
use Rattle.section_compose.specs.Rule.{number_of}
use Rattle.section_compose.specs.Rules.{circuits, first_broken}

-- ---- sections that are drawn

-- What is answered: the first rule that they break; or the first that never settles; or the report.
pub data Concluded (sections : List Section) : SectionsOutcome → List ℕ → Type 0 where
  broken : (b : Broken) (c : Circuit) → first_broken sections ≡ Some b →
      slice_get (circuits sections) (b.section - 1) ≡ Some c →
      Concluded sections (BadSection b.section (number_of b.rule) b.net)
      (broken_line b.rule b.section c b.net)
  unsettled : (s place : ℕ) → first_broken sections ≡ None →
      (stops : StopsAt (circuits sections) s place) →
      Concluded sections (Unsettled (s + 1) place (default_limit stops.circuit))
      (unsettled_lines (s + 1) stops.circuit place)
  settled : (settlings : List Settling) → first_broken sections ≡ None →
      AllSettled (circuits sections) (circuits sections) settlings →
      Concluded sections (verdict_of (all_faults (circuits sections) settlings))
      (report sections settlings)

-- ---- all sections

-- there are 2 to 64
pub record AreEnough (count : ℕ) : Type 0 where
  pub least : 2 ≤ count
  pub most : count ≤ 64

-- The first section that is refused, counted from 0; each before it is drawn.
pub record RefusesFirst (texts : List (List ℕ)) (s : ℕ) (r : Refusal) : Type 0 where
  pub text : List ℕ
  pub text_is : slice_get texts s ≡ Some text
  pub refused : IsSectionRefused text r
  pub before : (k : ℕ) (earlier : List ℕ) → k < s → slice_get texts k ≡ Some earlier →
      (section : Section) × DrawsSection earlier section

-- A text has these sections, each drawn, and 2 to 64 of them.
pub record HasSections (text : List ℕ) (sections : List Section) : Type 0 where
  pub enough : AreEnough (length (sections_of text))
  pub drawn : AllZip DrawsSection (sections_of text) sections

-- ---- the answer to a text

-- What is answered, by outcome and bytes: how many sections there are, if there are too few or
-- too many; or why the first section is refused that is; or what is said of drawn sections: the
-- first rule that they break, or the first that never settles, or the report.
pub data Joined (text : List ℕ) : SectionsOutcome → List ℕ → Type 0 where
  bad_count : (length (sections_of text) < 2) ⊎ (64 < length (sections_of text)) →
      Joined text (BadCount (length (sections_of text))) []
  refused : (s : ℕ) (r : Refusal) → AreEnough (length (sections_of text)) →
      RefusesFirst (sections_of text) s r →
      Joined text (Refused (s + 1) r) (refused_lines (s + 1) r)
  drawn : (sections : List Section) (o : SectionsOutcome) (bytes : List ℕ) →
      HasSections text sections →
      Concluded sections o bytes → Joined text o bytes

-- What is answered to words and a text.
abbrev pub composer : Meaning Request SectionsOutcome
composer = record {
  command_of = by_name (codes "sections");
  reads = λ request. true;
  most_bytes = λ read. most_bytes;
  Replied = λ request. Joined;
  AreOne = λ o bytes p others. (o ≡ p) × (bytes ≡ others);
  ended = Ended;
  end_of = end_of;
}
