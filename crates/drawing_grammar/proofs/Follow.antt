-- What may follow each part: nothing with which the part would go on.
use Rattle.std.proofs.Common.{◌≡◌, ℕ, Bool, true, not, ◌&&◌, ◌||◌, if◌then◌else◌, None, List, [], ◌∷◌, refl}
use Rattle.std.specs.Prelude.{is_some}
use Rattle.std.specs.List.{list_any}
use Rattle.drawing_grammar.specs.declared.terminal.Terminal.{Terminal}
use Rattle.drawing_grammar.specs.declared.terminal.Terminal.TheVariants as is
use Rattle.drawing_grammar.specs.declared.edition.Edition.TheVariants.{First, Second}
use Rattle.drawing_grammar.specs.Grammar.{Part, Group, Need, mark, item, keyword, fresh, part, group, Choice, following, lead, others}
use Rattle.drawing_grammar.specs.Grammar as g
use Rattle.drawing_grammar.specs.Absent.{absent_value, absent_group}
use Rattle.drawing_grammar.specs.Machine.{same, choice}
use Rattle.drawing_grammar.proofs.Terminals.{at_each}

-- the terminals with which a part would go on
abbrev pub extends : Part → List Terminal
extends g.Unary = []
extends g.Factors = is.Star ∷ is.Slash ∷ []
extends g.Terms = is.Star ∷ is.Slash ∷ is.Plus ∷ is.Minus ∷ []
extends g.Comparison = is.Star ∷ is.Slash ∷ is.Plus ∷ is.Minus ∷ is.Equals ∷ is.Exclamation ∷ is.Less ∷ is.Greater ∷ []
extends g.OrEqual = is.Equals ∷ []
extends g.Range = is.Less ∷ []
extends g.RangeEnd = is.Colon ∷ is.Star ∷ is.Slash ∷ is.Plus ∷ is.Minus ∷ []
extends g.Parameters = is.OpenBrace ∷ []
extends g.Assign = is.Star ∷ is.Slash ∷ is.Plus ∷ is.Minus ∷ []
extends g.MoreAssigns = is.Comma ∷ is.Star ∷ is.Slash ∷ is.Plus ∷ is.Minus ∷ []
extends g.Formal = is.Less ∷ []
extends g.MoreFormals = is.Comma ∷ is.Less ∷ []
extends g.FormalOutputs = is.Arrow ∷ []
extends g.Delay = is.OpenBracket ∷ []
extends g.Fall = is.Comma ∷ is.Star ∷ is.Slash ∷ is.Plus ∷ is.Minus ∷ []
extends g.Term = is.Less ∷ []
extends g.Atom = is.Less ∷ []
extends g.MoreTerms = is.Ampersand ∷ is.Less ∷ []
extends g.Hold = is.Exclamation ∷ []
extends g.MoreConns = is.Comma ∷ is.Ampersand ∷ is.Exclamation ∷ is.Less ∷ []
extends g.Outputs = is.Arrow ∷ []
extends g.Constant = []
extends (g.Statement v) = []
extends (g.Otherwise v) = is.Else ∷ is.Word ∷ is.Wire ∷ is.If ∷ []
extends (g.Macro v) = []
extends g.Index = is.Less ∷ []
extends g.Entry = []
extends g.MoreEntries = is.Comma ∷ []
extends g.CaseStatement = []
extends g.WireBounds = is.Wire ∷ []
extends g.PrecisionSkew = is.Pskew ∷ []
extends g.ClockSkew = is.Cskew ∷ []
extends (g.Text v) = []

abbrev pub extends_group : Group → List Terminal
extends_group g.Product = is.Star ∷ is.Slash ∷ []
extends_group g.Sum = is.Star ∷ is.Slash ∷ is.Plus ∷ is.Minus ∷ []
extends_group g.Expr = is.Star ∷ is.Slash ∷ is.Plus ∷ is.Minus ∷ is.Equals ∷ is.Exclamation ∷ is.Less ∷ is.Greater ∷ []
extends_group g.Conn = is.Less ∷ is.Ampersand ∷ is.Exclamation ∷ []
extends_group g.SomeConns = is.Less ∷ is.Ampersand ∷ is.Exclamation ∷ is.Comma ∷ []
extends_group g.SomeFormals = is.Less ∷ is.Comma ∷ []
extends_group g.Assigns = is.Star ∷ is.Slash ∷ is.Plus ∷ is.Minus ∷ is.Comma ∷ []
extends_group g.Entries = is.Comma ∷ []
extends_group g.Conns = is.Less ∷ is.Ampersand ∷ is.Exclamation ∷ is.Comma ∷ is.Minus ∷ is.Zero ∷ is.One ∷ is.Name ∷ []
extends_group g.Formals = is.Less ∷ is.Comma ∷ is.Name ∷ []
extends_group g.Constants = is.Word ∷ []
extends_group (g.Statements v) = is.Word ∷ is.Wire ∷ is.If ∷ []
extends_group (g.Macros v) = is.Macro ∷ []
extends_group g.Cases = is.Case ∷ []

abbrev pub among : List Terminal → Terminal → Bool
among ls l = list_any (λ k. same l k) ls

-- whether a token can begin what is written, if f tells what can begin what comes after
abbrev pub starts : List Need → (Terminal → Bool) → Terminal → Bool
starts [] f l = f l
starts (mark k ∷ rest) f l = same l k
starts (item k ∷ rest) f l = same l k
starts (keyword word ∷ rest) f l = same l is.Word
starts (fresh ∷ rest) f l = starts rest f l
starts (part p n ∷ rest) f l = is_some (choice p l) || (is_some (absent_value p) && starts rest f l)
starts (group h n ∷ rest) f l = is_some (choice (lead h) l) || (is_some (absent_group h) && starts rest f l)

-- no token goes on with the one and begins the other
abbrev pub apart : List Terminal → List Need → List Terminal → Bool
apart ls rest behind = at_each (λ l. if starts rest (λ k. not (among behind k)) l then not (among ls l) else true)

-- No part is followed by what it would go on with, if what comes after begins with none of these.
abbrev pub well_chained : List Need → List Terminal → Bool
well_chained [] behind = true
well_chained (mark k ∷ rest) behind = well_chained rest behind
well_chained (item k ∷ rest) behind = well_chained rest behind
well_chained (keyword word ∷ rest) behind = well_chained rest behind
well_chained (fresh ∷ rest) behind = well_chained rest behind
well_chained (part p n ∷ rest) behind = apart (extends p) rest behind && well_chained rest behind
well_chained (group h n ∷ rest) behind = apart (extends_group h) rest behind && well_chained rest behind

pub choice_chained : {p : Part} (c : Choice p) (n : ℕ) → well_chained (following c n) (extends p) ≡ true
choice_chained g.number n = refl
choice_chained g.parameter n = refl
choice_chained g.negated n = refl
choice_chained g.bracketed n = refl
choice_chained g.times n = refl
choice_chained g.divided n = refl
choice_chained g.plus n = refl
choice_chained g.less n = refl
choice_chained g.equal n = refl
choice_chained g.unequal n = refl
choice_chained g.below n = refl
choice_chained g.above n = refl
choice_chained g.or_equal n = refl
choice_chained g.range n = refl
choice_chained g.last n = refl
choice_chained g.parameters n = refl
choice_chained g.assign n = refl
choice_chained g.next_assign n = refl
choice_chained g.formal n = refl
choice_chained g.next_formal n = refl
choice_chained g.formal_outputs n = refl
choice_chained g.delay n = refl
choice_chained g.fall n = refl
choice_chained g.complement n = refl
choice_chained g.zero_term n = refl
choice_chained g.one_term n = refl
choice_chained g.named_term n = refl
choice_chained g.zero_atom n = refl
choice_chained g.one_atom n = refl
choice_chained g.named_atom n = refl
choice_chained g.next_term n = refl
choice_chained g.hold n = refl
choice_chained g.next_conn n = refl
choice_chained g.outputs n = refl
choice_chained g.constant n = refl
choice_chained g.use_ n = refl
choice_chained g.wire n = refl
choice_chained g.if_ n = refl
choice_chained g.for_ n = refl
choice_chained g.else_ n = refl
choice_chained g.macro n = refl
choice_chained g.index n = refl
choice_chained g.entry n = refl
choice_chained g.next_entry n = refl
choice_chained g.case_ n = refl
choice_chained g.wire_bounds n = refl
choice_chained g.precision_skew n = refl
choice_chained g.clock_skew n = refl
choice_chained (g.text {v = First}) n = refl
choice_chained (g.text {v = Second}) n = refl

pub group_chained : (h : Group) (n : ℕ) → well_chained (part (lead h) n ∷ others h n) (extends_group h) ≡ true
group_chained g.Product n = refl
group_chained g.Sum n = refl
group_chained g.Expr n = refl
group_chained g.Conn n = refl
group_chained g.Conns n = refl
group_chained g.SomeConns n = refl
group_chained g.SomeFormals n = refl
group_chained g.Assigns n = refl
group_chained g.Entries n = refl
group_chained g.Formals n = refl
group_chained g.Constants n = refl
group_chained (g.Statements v) n = refl
group_chained (g.Macros v) n = refl
group_chained g.Cases n = refl

-- a part that may be left out goes on with what it begins with
abbrev pub goes_on : Part → Terminal → Bool
goes_on p l = if is_some (absent_value p) && is_some (choice p l) then among (extends p) l else true

pub part_goes_on : (p : Part) → at_each (goes_on p) ≡ true
part_goes_on g.Unary = refl
part_goes_on g.Factors = refl
part_goes_on g.Terms = refl
part_goes_on g.Comparison = refl
part_goes_on g.OrEqual = refl
part_goes_on g.Range = refl
part_goes_on g.RangeEnd = refl
part_goes_on g.Parameters = refl
part_goes_on g.Assign = refl
part_goes_on g.MoreAssigns = refl
part_goes_on g.Formal = refl
part_goes_on g.MoreFormals = refl
part_goes_on g.FormalOutputs = refl
part_goes_on g.Delay = refl
part_goes_on g.Fall = refl
part_goes_on g.Term = refl
part_goes_on g.Atom = refl
part_goes_on g.MoreTerms = refl
part_goes_on g.Hold = refl
part_goes_on g.MoreConns = refl
part_goes_on g.Outputs = refl
part_goes_on g.Constant = refl
part_goes_on (g.Statement v) = refl
part_goes_on (g.Otherwise v) = refl
part_goes_on (g.Macro v) = refl
part_goes_on g.Index = refl
part_goes_on g.Entry = refl
part_goes_on g.MoreEntries = refl
part_goes_on g.CaseStatement = refl
part_goes_on g.WireBounds = refl
part_goes_on g.PrecisionSkew = refl
part_goes_on g.ClockSkew = refl
part_goes_on (g.Text v) = refl

abbrev pub group_goes : Group → Terminal → Bool
group_goes h l = if is_some (absent_group h) && is_some (choice (lead h) l) then among (extends_group h) l else true

pub group_goes_on : (h : Group) → at_each (group_goes h) ≡ true
group_goes_on g.Product = refl
group_goes_on g.Sum = refl
group_goes_on g.Expr = refl
group_goes_on g.Conn = refl
group_goes_on g.Conns = refl
group_goes_on g.SomeConns = refl
group_goes_on g.SomeFormals = refl
group_goes_on g.Assigns = refl
group_goes_on g.Entries = refl
group_goes_on g.Formals = refl
group_goes_on g.Constants = refl
group_goes_on (g.Statements v) = refl
group_goes_on (g.Macros v) = refl
group_goes_on g.Cases = refl

pub leads : (h : Group) → absent_value (lead h) ≡ None
leads g.Product = refl
leads g.Sum = refl
leads g.Expr = refl
leads g.Conn = refl
leads g.Conns = refl
leads g.SomeConns = refl
leads g.SomeFormals = refl
leads g.Assigns = refl
leads g.Entries = refl
leads g.Formals = refl
leads g.Constants = refl
leads (g.Statements v) = refl
leads (g.Macros v) = refl
leads g.Cases = refl
