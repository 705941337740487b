use Rattle.std.proofs.Common.{◌≡◌, ℕ, ◌+◌, ◌-◌, ◌<◌, false, true, List, length, map, sym, subst, ◌∙◌, arith, rules}
use Rattle.drawing_tree.specs.declared.statement.Assign.{Assign}
use Rattle.drawing_tree.specs.Tree.{assignment_of, macro_of}
use Rattle.macro_expander.specs.Macros.{has_parameter}
use Rattle.macro_expander.specs.Primitives.{are_of}
use Rattle.macro_expander.specs.Parameters.{KnownBehind}
use Rattle.macro_expander.proofs.Leading.{Place}
use Rattle.macro_expander.proofs.Parameters.{stays_known, is_unknown, found_behind, comes_twice}
use Rattle.macro_expander.proofs.formal.are_many_parameters.Goals as goal

pub returns-then-not-is_known : goal.returns-then-not-is_known
returns-then-not-is_known c =
    let known = has_parameter (macro_of c.args.definition.now) in
    let params = c.as_slice-params.result.now in
    let i = c.loop-place.place - 1 in
    let below : i < length params = omega arith in
    let off : c.is_known.result ≡ false = search rules in
    sym (
    subst (λ (xs : List Assign). are_of known (map assignment_of xs) ≡ false) c.as_slice-params.ensures
    (is_unknown known params i c.index-params-place.result below c.index-params-place.is c.name-name.result.now c.is_known.result c.name-name.ensures c.is_known.ensures off))

pub returns-then-is_some : goal.returns-then-is_some
returns-then-is_some c =
    let known = has_parameter (macro_of c.args.definition.now) in
    let params = c.as_slice-params.result.now in
    let x = c.index-params-place.result in
    let i = c.loop-place.place - 1 in
    let below : i < length params = omega arith in
    let next : c.loop-place.place ≡ i + 1 = omega arith in
    let found = found_behind known params i x below c.index-params-place.is c.loop-place.behind.entries c.loop-place.place
    c.name-name.result.now c.led.result c.is_some.result next c.name-name.ensures c.loop-place.invariant.leads c.led.ensures c.is_some.ensures in
    sym (
    subst (λ (xs : List Assign). are_of known (map assignment_of xs) ≡ false) c.as_slice-params.ensures
    (comes_twice known params i x below c.index-params-place.is (sym found ∙ c.if-is_some.true)))

pub loop-place-preserved : goal.loop-place-preserved
loop-place-preserved c =
    let known = has_parameter (macro_of c.args.definition.now) in
    let params = c.as_slice-params.result.now in
    let x = c.index-params-place.result in
    let i = c.loop-place.place - 1 in
    let below : i < length params = omega arith in
    let next : c.loop-place.place ≡ i + 1 = omega arith in
    let found = found_behind known params i x below c.index-params-place.is c.loop-place.behind.entries c.loop-place.place
    c.name-name.result.now c.led.result c.is_some.result next c.name-name.ensures c.loop-place.invariant.leads c.led.ensures c.is_some.ensures in
    let on : c.is_known.result ≡ true = search rules in
    let is_one : known x.name ≡ true = sym (subst (λ (n : List ℕ). c.is_known.result ≡ known n) c.name-name.ensures c.is_known.ensures) ∙ on in
    subst (λ (es : List Place). KnownBehind known params es i) (sym c.in_ok-insert.ensures.entries)
    (stays_known known params i x below c.index-params-place.is c.loop-place.behind.entries
    c.in_ok-key.key is_one (sym found ∙ c.if-is_some.false) (c.in_ok-key.ensures.items ∙ c.name-name.ensures)
    (subst (λ (n : ℕ). KnownBehind known params c.loop-place.behind.entries n) next c.loop-place.invariant))
