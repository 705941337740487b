-- What holds of a slice holds of the list that it is of.
use Rattle.std.proofs.Common.{◌≡◌, ℕ, List, map, false, refl, subst}
use Rattle.scald_base.specs.Time.{Header}
use Rattle.scald_base.specs.declared.refusal.Place.{Place}
use Rattle.scald_base.specs.declared.refusal.Stop.{Stop}
use Rattle.drawing_tree.specs.Tree as tree
use Rattle.scald_lex.specs.declared.token.Token as lex
use Rattle.drawing_grammar.specs.Lexeme.{lexemes}
use Rattle.drawing_grammar.specs.Names.{names_from, AreGood, IsNameStop}
use Rattle.drawing_reader.specs.declared.names.Doubtful.{Doubtful}
use Rattle.drawing_reader.specs.Sifted.{Sifted, naming_of}
use Rattle.drawing_grammar.specs.DoubleNames.{Key, Declaration, constants, declared, Declares, IsStopAt, IsDistinct, IsDoubleStop}
use Rattle.drawing_grammar.specs.declared.head.Head.{Head}
use Rattle.drawing_tree.specs.declared.statement.Assign.{Assign}
use Rattle.drawing_tree.specs.declared.statement.Stmt.{Stmt}

pub wrong_of_few : (h : Header) (text : List ℕ) (slice tokens : List lex.Token) (some few : List Doubtful) (stop : Stop) →
    some ≡ few → slice ≡ tokens → Sifted (map naming_of few) (names_from false (lexemes text slice)) →
    IsNameStop h (map naming_of some) stop → IsNameStop h (names_from false (lexemes text tokens)) stop
wrong_of_few h text slice tokens some few stop same all sifted found =
    subst (λ (ts : List lex.Token). IsNameStop h (names_from false (lexemes text ts)) stop) all
    (sifted.stop h stop (subst (λ (ds : List Doubtful). IsNameStop h (map naming_of ds) stop) same found))

pub good_of_few : (h : Header) (text : List ℕ) (slice tokens : List lex.Token) (some few : List Doubtful) →
    some ≡ few → slice ≡ tokens → Sifted (map naming_of few) (names_from false (lexemes text slice)) →
    AreGood h (map naming_of some) → AreGood h (names_from false (lexemes text tokens))
good_of_few h text slice tokens some few same all sifted good =
    subst (λ (ts : List lex.Token). AreGood h (names_from false (lexemes text ts))) all
    (sifted.good h (subst (λ (ds : List Doubtful). AreGood h (map naming_of ds)) same good))

doubles_same : (consts : List tree.Assignment) (places : List Place) (macros : List tree.Macro) (slice heads : List Head) (body items : List Stmt) → slice ≡ heads → body ≡ items →
    declared consts places macros slice (tree.statements_of body) ≡ declared consts places macros heads (tree.statements_of items)
doubles_same consts places macros slice heads body items a b = rw (a, b) refl

pub double_of_slices : (consts : List tree.Assignment) (places : List Place) (macros : List tree.Macro) (slice heads : List Head) (body items : List Stmt) (stop : Stop) →
    slice ≡ heads → body ≡ items →
    IsDoubleStop (declared consts places macros slice (tree.statements_of body)) stop → IsDoubleStop (declared consts places macros heads (tree.statements_of items)) stop
double_of_slices consts places macros slice heads body items stop a b found =
    let F : List Declaration → Type 0 = λ ds. IsDoubleStop ds stop in subst F (doubles_same consts places macros slice heads body items a b) found

pub distinct_of_slices : (consts : List tree.Assignment) (places : List Place) (macros : List tree.Macro) (slice heads : List Head) (body items : List Stmt) → slice ≡ heads → body ≡ items →
    IsDistinct (declared consts places macros slice (tree.statements_of body)) → IsDistinct (declared consts places macros heads (tree.statements_of items))
distinct_of_slices consts places macros slice heads body items a b distinct =
    let F : List Declaration → Type 0 = λ ds. IsDistinct ds in subst F (doubles_same consts places macros slice heads body items a b) distinct

constants_same : (slice consts : List Assign) (places all : List Place) → slice ≡ consts → places ≡ all →
    constants (map tree.assignment_of slice) places ≡ constants (map tree.assignment_of consts) all
constants_same slice consts places all a b = rw (a, b) refl

pub constants_of_slices : (taken now : List Key) (slice consts : List Assign) (places all : List Place) → slice ≡ consts → places ≡ all →
    Declares taken now (constants (map tree.assignment_of slice) places) → Declares taken now (constants (map tree.assignment_of consts) all)
constants_of_slices taken now slice consts places all a b made =
    let F : List Declaration → Type 0 = λ ds. Declares taken now ds in subst F (constants_same slice consts places all a b) made

pub constant_stop_of_slices : (taken : List Key) (slice consts : List Assign) (places all : List Place) (stop : Stop) → slice ≡ consts → places ≡ all →
    IsStopAt taken (constants (map tree.assignment_of slice) places) stop → IsStopAt taken (constants (map tree.assignment_of consts) all) stop
constant_stop_of_slices taken slice consts places all stop a b found =
    let F : List Declaration → Type 0 = λ ds. IsStopAt taken ds stop in subst F (constants_same slice consts places all a b) found
