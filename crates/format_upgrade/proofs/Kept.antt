-- The upgraded text draws a drawing with the same flat circuit and the same cases.
use Rattle.std.proofs.Common.{◌≡◌, ℕ, ◌∙◌, List, map, Result, Ok, Err, refl, ap, sym, subst, ⊎_elim}
use Rattle.std.specs.Prelude.{IfOk}
use Rattle.drawing_tree.specs.Tree.{Drawing}
use Rattle.drawing_tree.specs.Places.{unplaced_case, unplaced}
use Rattle.drawing_grammar.specs.CanonicalDraws.{IsShallowDrawing, DrawsAgain}
use Rattle.drawing_grammar.specs.Reordered.{IsReordered}
use Rattle.drawing_grammar.proofs.Different.{well_formed}
use Rattle.drawing_grammar.proofs.Reordered.{law}
use Rattle.macro_expander.specs.Named.{State}
use Rattle.macro_expander.specs.Outcome.{Gives}
use Rattle.macro_expander.specs.Flat.{flat}
use Rattle.format_upgrade.specs.Upgraded.{upgraded, upgraded_text}
use Rattle.format_upgrade.specs.SameCircuit.{SameCircuit}
use Rattle.format_upgrade.specs.Upgrade.{DrawsSame, KeepsCircuit}
use Rattle.format_upgrade.proofs.Exchange.{AreAlike}
use Rattle.format_upgrade.proofs.Following.{GivesAlike, Follows}
use Rattle.format_upgrade.proofs.Like.{Way, Kept, Turned, IsDrawingLike, is_unplaced, is_placed, statements_turned, macros_turned, statements_alike, macros_alike}
use Rattle.format_upgrade.proofs.Carried.{flat_follows}
use Rattle.format_upgrade.proofs.CaseNets.{has_same, same_cases}
use Rattle.format_upgrade.proofs.Reversing.{statements_reordered, statements_itself, macros_reordered, macros_itself, statements_shallow, macros_shallow}

-- ---- circuits that are alike

alike_through : (s t u : State) → AreAlike s t → AreAlike t u → AreAlike s u
alike_through s t u h k = record { first = h.first; second = k.second; same = k.same ∙ h.same }

same_circuit : (s t : State) → AreAlike s t → SameCircuit s t
same_circuit s t h = record {
  header = ap (λ v. v.header) h.same;
  instances = ap (λ v. v.instances) h.same;
  count = ap (λ v. v.count) h.same;
  names = has_same s t h;
  wires = λ name. ap (λ v. v.wires name) h.same;
  assertions = λ text. ap (λ v. v.specs text) h.same;
}

-- from a drawing to one that is like it
carried : (way : Way) (d e : Drawing) (s : State) → IsDrawingLike way d e → flat d ≡ Gives tt s → GivesAlike tt s (flat e)
carried way d e s like h = subst (λ o. Follows o (flat e)) h (flat_follows way d e like)

-- ---- by the version of the drawing

-- the drawing in version 2, as one that is like it, is drawn by its text and has the same cases
record IsCarried (d e : Drawing) : Type 0 where
  pub way : Way
  pub like : IsDrawingLike way d e
  pub reordered : IsReordered d e
  pub shallow : IsShallowDrawing e
  pub cases : e.cases ≡ d.cases

first_carried : (d : Drawing) → d.version ≡ 1 → IsShallowDrawing d → IsCarried d (upgraded d)
first_carried d h shallow = rw h (record {
  way = Turned;
  like = record {
    versions = (refl, refl);
    header = refl;
    consts = refl;
    places = refl;
    macros = macros_turned d.macros;
    body = statements_turned d.body;
  };
  reordered = record {
    version = refl;
    rest = refl;
    macros = macros_reordered d.macros;
    body = statements_reordered d.body;
  };
  shallow = record { consts = shallow.consts; macros = macros_shallow d.macros shallow.macros; body = statements_shallow d.body shallow.body };
  cases = refl;
})

second_carried : (d : Drawing) → d.version ≡ 2 → IsShallowDrawing d → IsCarried d (upgraded d)
second_carried d h shallow =
    let same : upgraded d ≡ d = rw h refl in
    subst (λ e. IsCarried d e) (sym same) (record {
      way = Kept;
      like = record { versions = refl; header = refl; consts = refl; places = refl; macros = macros_alike d.macros; body = statements_alike d.body };
      reordered = record { version = h; rest = refl; macros = macros_itself d.macros; body = statements_itself d.body };
      shallow = shallow;
      cases = refl;
    })

-- ---- the whole

module _ (d : Drawing) (circuit : State) (expanded : flat d ≡ Gives tt circuit) where
  kept_by : (e : Drawing) (text : List ℕ) → IsCarried d e → DrawsAgain text e → e.version ≡ 2 → DrawsSame text d circuit
  kept_by e text c again second =
      let same : unplaced e ≡ unplaced again.drawing = again.same in
      let first = carried c.way d e circuit c.like expanded in
      let middle = carried Kept e (unplaced e) first.state (is_unplaced e) first.is in
      let moved : flat (unplaced again.drawing) ≡ Gives tt middle.state = subst (λ x. flat x ≡ Gives tt middle.state) same middle.is in
      let last = carried Kept (unplaced again.drawing) again.drawing middle.state (is_placed again.drawing) moved in
      let alike = alike_through circuit middle.state last.state (alike_through circuit first.state middle.state first.alike middle.alike) last.alike in
      record {
        drawing = again.drawing;
        drawn = again.draws;
        version = ap (λ (x : Drawing). x.version) (sym same) ∙ second;
        state = last.state;
        expanded = last.is;
        same = same_circuit circuit last.state alike;
        cases = same_cases circuit last.state alike d again.drawing (sym (ap (λ (x : Drawing). x.cases) same) ∙ ap (map unplaced_case) c.cases);
      }

-- If some text draws a drawing, the upgraded text draws one with the same flat circuit and the same cases.
pub keeps_circuit : (d : Drawing) → KeepsCircuit d (upgraded_text d)
keeps_circuit d source circuit draws shallow expanded =
    let good = well_formed source draws.tokens d draws.are draws.draws in
    let c = ⊎_elim (λ h. first_carried d h shallow) (λ h. second_carried d h shallow) good.version in
    kept_by d circuit expanded (upgraded d) (upgraded_text d) c (law source d (upgraded d) draws c.reordered c.shallow) c.reordered.version

-- So does a text that is made, if one is.
pub kept_text : {E : Type 0} (d : Drawing) (made : Result (List ℕ) E) → IfOk made (λ text. text ≡ upgraded_text d) → IfOk made (KeepsCircuit d)
kept_text d (Ok text) is = subst (KeepsCircuit d) (sym is) (keeps_circuit d)
kept_text d (Err e) is = tt
