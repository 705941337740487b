use Rattle.std.proofs.Common.{ℕ, List, ◌++◌, length, map, sym, ◌∙◌, subst}
use Rattle.std.proofs.lemmas.List.{length-map}
use Rattle.std.specs.Prelude.{MatchResult}
use Rattle.std.proofs.lemmas.Result.{err_from_is_err_and}
use Rattle.drawing_tree.specs.declared.drawing.MacroDef.{MacroDef}
use Rattle.drawing_tree.specs.Tree.{assignment_of, macro_of, statements_of}
use Rattle.drawing_grammar.specs.DoubleNames.{Key, primitives, constants, macros_declared, labels, keys_of, Declares, IsStopAt}
use Rattle.drawing_grammar.proofs.Doubles.{stop_first, stop_later, given_later}
use Rattle.drawing_grammar.proofs.Distinct.{distinct_stop, distinct_given}
use Rattle.drawing_reader.proofs.Climbing.{body_fresh, distinct_made}
use Rattle.drawing_reader.proofs.Slices.{constants_of_slices, constant_stop_of_slices}
use Rattle.drawing_reader.proofs.double_names.distinct_names.Goals as goal

pub returns-in_err-constants : goal.returns-in_err-constants
returns-in_err-constants c =
    let p = err_from_is_err_and c.from_residual.result c.from_residual.ensures.1 in
    let ms = c.args.macros.now in let s = c.in_err-constants.field-0.0 in
    let own = constants (map assignment_of c.args.consts.now.consts) c.args.consts.now.name_places in
    let more = macros_declared 0 (map macro_of ms) c.args.heads.now ++ labels (length (map macro_of ms)) (statements_of c.args.body.now) in
    let G : List Key → Type 0 = λ ks. IsStopAt ks own s in
    rw (p.1, p.2) (distinct_stop (own ++ more) s (stop_first primitives own more s
    (subst G c.new-declarations.ensures (constant_stop_of_slices _ _ _ _ _ s c.as_slice.ensures c.as_slice-2.ensures c.in_err-constants.ensures))))

pub returns-in_err-definitions : goal.returns-in_err-definitions
returns-in_err-definitions c =
    let p = err_from_is_err_and c.from_residual-in_err-definitions.result c.from_residual-in_err-definitions.ensures.1 in
    let ms = c.args.macros.now in let s = c.in_err-definitions.field-0.0 in
    let mid = c.constants.new.self in
    let own = constants (map assignment_of c.args.consts.now.consts) c.args.consts.now.name_places in
    let first = macros_declared 0 (map macro_of ms) c.args.heads.now in
    let body = labels (length (map macro_of ms)) (statements_of c.args.body.now) in
    let F : List MacroDef → Type 0 = λ xs. IsStopAt mid (macros_declared 0 (map macro_of xs) c.args.heads.now) s in
    let G : List Key → Type 0 = λ ks. Declares ks mid own in
    rw (p.1, p.2) (distinct_stop (own ++ (first ++ body)) s (stop_later primitives mid own (first ++ body) s
    (subst G c.new-declarations.ensures (constants_of_slices _ _ _ _ _ _ c.as_slice.ensures c.as_slice-2.ensures c.in_ok-constants.ensures))
    (stop_first mid first body s (subst F c.as_slice-3.ensures c.in_err-definitions.ensures))))

pub returns : goal.returns
returns c =
    let ms = c.args.macros.now in let r = c.statements.result in let mid = c.constants.new.self in let now = c.definitions.new.self in
    let own = constants (map assignment_of c.args.consts.now.consts) c.args.consts.now.name_places in
    let first = macros_declared 0 (map macro_of ms) c.args.heads.now in
    let body = statements_of c.args.body.now in
    let last = labels (length (map macro_of ms)) body in
    let F : List MacroDef → Type 0 = λ xs. Declares mid now (macros_declared 0 (map macro_of xs) c.args.heads.now) in
    let G : List Key → Type 0 = λ ks. Declares ks mid own in
    let H : ℕ → Type 0 = λ n. MatchResult r (λ _. Declares now c.statements.new.self (labels n body)) (IsStopAt now (labels n body)) in
    distinct_given r c.statements.new.self (own ++ (first ++ last))
    (given_later r primitives mid c.statements.new.self own (first ++ last)
    (subst G c.new-declarations.ensures (constants_of_slices _ _ _ _ _ _ c.as_slice.ensures c.as_slice-2.ensures c.in_ok-constants.ensures))
    (given_later r mid now c.statements.new.self first last (subst F c.as_slice-3.ensures c.in_ok-definitions.ensures)
    (subst H (c.len.ensures ∙ sym (length-map ms macro_of)) c.statements.ensures)))

pub returns-then-are_ascending : goal.returns-then-are_ascending
returns-then-are_ascending c =
    let ms = c.args.macros.now in let mid = c.constants.new.self in let now = c.definitions.new.self in
    let cs = map assignment_of c.args.consts.now.consts in
    let own = constants cs c.args.consts.now.name_places in
    let first = macros_declared 0 (map macro_of ms) c.args.heads.now in
    let body = statements_of c.args.body.now in
    let n = length (map macro_of ms) in
    let F : List MacroDef → Type 0 = λ xs. Declares mid now (macros_declared 0 (map macro_of xs) c.args.heads.now) in
    let G : List Key → Type 0 = λ ks. Declares ks mid own in
    let made = body_fresh cs c.args.consts.now.name_places (map macro_of ms) c.args.heads.now body mid now (c.are_ascending.ensures c.if-are_ascending.true n)
    (subst G c.new-declarations.ensures (constants_of_slices _ _ _ _ _ _ c.as_slice.ensures c.as_slice-2.ensures c.in_ok-constants.ensures))
    (subst F c.as_slice-3.ensures c.in_ok-definitions.ensures) in
    distinct_made (now ++ keys_of (labels n body)) (own ++ (first ++ labels n body)) made
