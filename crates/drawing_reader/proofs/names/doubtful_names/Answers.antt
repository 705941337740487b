use Rattle.std.proofs.Common.{◌≡◌, ◌∙◌, false, ◌+◌, List, ◌++◌, map, drop, subst, sym}
use Rattle.std.proofs.lemmas.List.{get_or_default}
use Rattle.scald_lex.specs.declared.token.Token as lex
use Rattle.drawing_grammar.specs.Lexeme.{lexeme_of, lexemes, terminal}
use Rattle.drawing_grammar.specs.Names.{Naming, names_at, head_behind, names_from}
use Rattle.drawing_reader.specs.Sifted.{Sifting, naming_of}
use Rattle.drawing_reader.proofs.Naming.{blank_token, next_names, no_names}
use Rattle.drawing_reader.proofs.Sifting.{nothing_yet, sifted_all}
use Rattle.drawing_reader.proofs.names.doubtful_names.Goals as goal

pub tokens-init : goal.tokens-init
tokens-init c =
    let all = names_from false (lexemes c.args.text.now c.args.tokens.now) in
    rw c.new-doubtful.ensures (nothing_yet all)

pub tokens-preserved : goal.tokens-preserved
tokens-preserved c =
    let text = c.args.text.now in let ts = c.args.tokens.now in
    let i = c.tokens.token-index in let head = c.tokens.in_head in
    let next = c.in_ok-in_head.in_head in
    let same = c.token.ensures ∙ c.token-item.is
    ∙ get_or_default ts i c.token-item.result blank_token c.tokens-test.true in
    let all = names_from false (lexemes text ts) in
    let more = names_from next (lexemes text (drop (i + 1) ts)) in
    let behind = subst (λ (x : lex.Token). next ≡ head_behind head (terminal (lexeme_of text x)))
    same c.in_ok-in_head.ensures.next in
    let before = subst (λ (ns : List Naming). Sifting (map naming_of c.tokens.doubtful) all ns)
    (next_names text ts i head next c.tokens-test.true behind) c.tokens.invariant in
    c.in_ok-in_head.ensures.sifted all more
    (subst (λ (x : lex.Token). Sifting (map naming_of c.tokens.doubtful) all
    (names_at head (terminal (lexeme_of text x)) (lexeme_of text x) ++ more)) (sym same) before)

pub returns : goal.returns
returns c =
    let text = c.args.text.now in let ts = c.args.tokens.now in
    let i = c.tokens.token-index in let head = c.tokens.in_head in
    sifted_all (map naming_of c.tokens.doubtful) (names_from false (lexemes text ts))
    (names_from head (lexemes text (drop i ts))) c.tokens.invariant
    (no_names text ts i head c.tokens-test.false)
