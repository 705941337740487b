-- The answer to a text, from how many sections it has, from the first that is refused, or from what is
-- concluded of drawn ones.
use Rattle.std.proofs.Common.{◌≡◌, ℕ, ◌-◌, ◌<◌, true, List, [], length, get_or, refl, sym, ap, subst, ◌∙◌, arith, Some}
use Rattle.std.specs.Prelude.{◌⊎◌, Err, IfOk, Ok, Result, option_map, slice_get}
use Rattle.std.proofs.lemmas.List.{length-map}
use Rattle.std.proofs.lemmas.Option.{slice_get-map, slice_get_read, slice_get_within}
use Rattle.std.specs.List.{AllZip}
use Rattle.scald_base.specs.declared.refusal.Refusal.{Refusal}
use Rattle.flat_circuit.specs.Circuit.{Circuit}
use Rattle.section_compose.specs.declared.rules.Broken.{Broken}
use Rattle.section_compose.specs.declared.section.Section.{Section}
use Rattle.section_compose.specs.Broken.{IsOfSection}
use Rattle.section_compose.specs.Cut.{sections_of}
use Rattle.section_compose.specs.Drawn.{DrawsSection}
use Rattle.section_compose.specs.Rule.{is_of_net}
use Rattle.section_compose.specs.Rules.{circuits}
use Rattle.section_compose.specs.declared.answer.End.TheVariants as end
use Rattle.section_compose.specs.declared.outcome.SectionsOutcome.{SectionsOutcome}
use Rattle.section_compose.specs.declared.outcome.SectionsOutcome.TheVariants.{BadCount, Refused, Unsettled}
use Rattle.section_compose.specs.Answer.{AreEnough, HasSections, Joined, RefusesFirst, bad_count}
use Rattle.section_compose.specs.Answer.{drawn, refused}
use Rattle.section_compose.specs.Answer.{Concluded}
use Rattle.section_compose.specs.Lines.{refused_lines}
use Rattle.section_compose.specs.Reading.{IsRefusedIn}

-- what holds of an outcome and its bytes holds of a reply that has them
pub replied_so : {A E : Type 0} (r : Result A E) (outcome : A → SectionsOutcome) (bytes : A → List ℕ) (o : SectionsOutcome) (out : List ℕ)
    (P : SectionsOutcome → List ℕ → Type 0) → IfOk r (λ x. outcome x ≡ o) → IfOk r (λ x. bytes x ≡ out) → P o out →
    IfOk r (λ x. P (outcome x) (bytes x))
replied_so (Ok x) outcome bytes o out P is bytes_are holds = subst (λ (b : List ℕ). P (outcome x) b) (sym bytes_are) (subst (λ (o : SectionsOutcome). P o out) (sym is) holds)
replied_so (Err e) outcome bytes o out P is bytes_are holds = tt

-- and what follows of an outcome that is not the one
pub never_so : {A E : Type 0} (r : Result A E) (outcome : A → SectionsOutcome) (o other : SectionsOutcome) (P : Type 0) →
    IfOk r (λ x. outcome x ≡ o) → (o ≡ other → ⊥) → IfOk r (λ x. outcome x ≡ other → P)
never_so (Ok x) outcome o other P is differ = λ same. absurd (differ (sym is ∙ same))
never_so (Err e) outcome o other P is differ = tt

-- the same if the numbers, or the refusal, are called otherwise
pub unsettled_so : {A E : Type 0} (r : Result A E) (outcome : A → SectionsOutcome) (bytes : A → List ℕ) (section n k n' k' : ℕ) (line : ℕ → ℕ → List ℕ)
    (P : SectionsOutcome → List ℕ → Type 0) → n' ≡ n → k' ≡ k → IfOk r (λ x. outcome x ≡ Unsettled section n' k') → IfOk r (λ x. bytes x ≡ line n' k') →
    P (Unsettled section n k) (line n k) → IfOk r (λ x. P (outcome x) (bytes x))
unsettled_so r outcome bytes section n k n' k' line P same round is bytes_are holds =
    replied_so r outcome bytes (Unsettled section n' k') (line n' k') P is bytes_are
    (subst (λ (m : ℕ). P (Unsettled section m k') (line m k')) (sym same) (subst (λ (m : ℕ). P (Unsettled section n m) (line n m)) (sym round) holds))

pub refused_as : {A E : Type 0} (r : Result A E) (outcome : A → SectionsOutcome) (bytes : A → List ℕ) (n n' : ℕ) (why why' : Refusal)
    (P : SectionsOutcome → List ℕ → Type 0) → n' ≡ n → why' ≡ why → IfOk r (λ x. outcome x ≡ Refused n' why') →
    IfOk r (λ x. bytes x ≡ refused_lines n' why') → P (Refused n why) (refused_lines n why) → IfOk r (λ x. P (outcome x) (bytes x))
refused_as r outcome bytes n n' why why' P same reason is bytes_are holds =
    replied_so r outcome bytes (Refused n' why') (refused_lines n' why') P is bytes_are
    (subst (λ (m : ℕ). P (Refused m why') (refused_lines m why')) (sym same) (subst (λ (w : Refusal). P (Refused n w) (refused_lines n w)) (sym reason) holds))

-- ---- the section whose rule is broken

module _ (sections : List Section) (b : Broken) (found : IsOfSection (circuits sections) 1 b) where
  place_is : b.section - 1 ≡ found.place
  place_is = let numbered = found.section in omega (arith, numbered)

  pub broken_below : b.section - 1 < length sections
  broken_below =
      let within = slice_get_within (circuits sections) found.place found.circuit found.is in
      let long = length-map sections (λ (s : Section). s.circuit) in
      let place = place_is in
      omega (arith, within, long, place)

  pub broken_circuit : (x : Section) → x ≡ get_or sections (b.section - 1) x → slice_get (circuits sections) (b.section - 1) ≡ Some x.circuit
  broken_circuit x is =
      slice_get-map (λ (s : Section). s.circuit) sections (b.section - 1)
      ∙ ap (option_map (λ (s : Section). s.circuit)) (slice_get_read sections (length sections) (b.section - 1) x refl broken_below is)

  pub broken_place : (x : Section) → x ≡ get_or sections (b.section - 1) x → is_of_net b.rule ≡ true → b.net < length x.circuit.order
  broken_place x is of_net = subst (λ (c : Circuit). b.net < length c.order) same (found.net of_net)
    where
      same : found.circuit ≡ x.circuit
      same =
          let e : Some found.circuit ≡ Some x.circuit = sym found.is ∙ ap (slice_get (circuits sections)) (sym place_is) ∙ broken_circuit x is in cc

-- ---- all sections

module _ (text : List ℕ) (texts : List (List ℕ)) (are : texts ≡ sections_of text) where
  pub wrong_count : (n : ℕ) (o : SectionsOutcome) (out : List ℕ) → n ≡ length texts → (n < 2) ⊎ (64 < n) → o ≡ BadCount n → out ≡ [] → Joined text o out
  wrong_count n o out long wrong is none =
      subst (λ (o : SectionsOutcome). Joined text o out) (sym (is ∙ ap BadCount count))
      (subst (Joined text (BadCount (length (sections_of text)))) (sym none) (bad_count (subst (λ (k : ℕ). (k < 2) ⊎ (64 < k)) count wrong)))
    where
      count : n ≡ length (sections_of text)
      count = long ∙ ap length are

  pub has_sections : (sections : List Section) → AreEnough (length texts) → AllZip DrawsSection texts sections → HasSections text sections
  has_sections sections enough draws = record {
    enough = subst (λ (xs : List (List ℕ)). AreEnough (length xs)) are enough;
    drawn = subst (λ (xs : List (List ℕ)). AllZip DrawsSection xs sections) are draws;
  }

  pub refused_so : (section : ℕ) (r : Refusal) → AreEnough (length texts) → IsRefusedIn texts (end.Refused section r) →
      Joined text (Refused section r) (refused_lines section r)
  refused_so section r enough is =
      subst (λ (n : ℕ). Joined text (Refused n r) (refused_lines n r)) (sym is.0)
      (refused (section - 1) r (subst (λ (xs : List (List ℕ)). AreEnough (length xs)) are enough)
      (subst (λ (xs : List (List ℕ)). RefusesFirst xs (section - 1) r) are is.1))

  pub drawn_so : {A E : Type 0} (r : Result A E) (outcome : A → SectionsOutcome) (bytes : A → List ℕ) (sections : List Section) → HasSections text sections →
      IfOk r (λ x. Concluded sections (outcome x) (bytes x)) → IfOk r (λ x. Joined text (outcome x) (bytes x))
  drawn_so (Ok x) outcome bytes sections has is = drawn sections (outcome x) (bytes x) has is
  drawn_so (Err e) outcome bytes sections has is = tt
