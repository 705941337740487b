use Rattle.std.proofs.Common.{◌≡◌, ℕ, get_or, ap, sym, ◌∙◌}
use Rattle.std.specs.Int.{abs_diff}
use Rattle.std.proofs.lemmas.Option.{get_or_from_slice_get}
use Rattle.macro_expander.proofs.Running.{place_past, place_other, place_here}
use Rattle.macro_expander.proofs.scope.place_of.Goals as goal

pub returns-then-found-number : goal.returns-then-found-number
returns-then-found-number c =
    let first : get_or c.args.numbers.now 0 0 ≡ c.in_ok-first.field-0.now = get_or_from_slice_get c.args.numbers.now 0 c.in_ok-first.field-0.now 0 (sym c.in_ok-first.ensures.value) in
    let apart : c.from-place.result ≡ abs_diff (get_or c.args.numbers.now 0 0) c.args.number =
    c.from-place.ensures ∙ c.abs_diff.ensures ∙ ap (λ (n : ℕ). abs_diff n c.args.number) (sym first) in
    place_here c.args.numbers.now c.args.number c.requires c.from-place.result apart c.in-Some.found.now c.in-Some.ensures.lookup.3.0 (c.in-Some.ensures.lookup.3.1 0) c.if-found-number.true

pub returns-else-found-number : goal.returns-else-found-number
returns-else-found-number c =
    let first : get_or c.args.numbers.now 0 0 ≡ c.in_ok-first.field-0.now = get_or_from_slice_get c.args.numbers.now 0 c.in_ok-first.field-0.now 0 (sym c.in_ok-first.ensures.value) in
    let apart : c.from-place.result ≡ abs_diff (get_or c.args.numbers.now 0 0) c.args.number =
    c.from-place.ensures ∙ c.abs_diff.ensures ∙ ap (λ (n : ℕ). abs_diff n c.args.number) (sym first) in
    place_other c.args.numbers.now c.args.number c.requires c.from-place.result apart c.in-Some.found.now (c.in-Some.ensures.lookup.3.1 0) c.if-found-number.false

pub returns-in-None : goal.returns-in-None
returns-in-None c =
    let first : get_or c.args.numbers.now 0 0 ≡ c.in_ok-first.field-0.now = get_or_from_slice_get c.args.numbers.now 0 c.in_ok-first.field-0.now 0 (sym c.in_ok-first.ensures.value) in
    let apart : c.from-place.result ≡ abs_diff (get_or c.args.numbers.now 0 0) c.args.number =
    c.from-place.ensures ∙ c.abs_diff.ensures ∙ ap (λ (n : ℕ). abs_diff n c.args.number) (sym first) in
    place_past c.args.numbers.now c.args.number c.requires c.from-place.result apart c.in-None.ensures.lookup.3
