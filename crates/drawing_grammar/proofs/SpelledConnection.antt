-- The tokens of canonical connections, parameters and delays.
use Rattle.std.proofs.Common.{◌≡◌, Bool, true, false, List, [], ◌∷◌, ◌++◌, Option, Some, None, refl}
use Rattle.std.specs.Prelude.{codes, IfSome}
use Rattle.std.specs.List.{join_by}
use Rattle.drawing_tree.specs.Expression.{Expression}
use Rattle.assertion_syntax.specs.declared.name.SignalName.{SignalName}
use Rattle.assertion_syntax.specs.Name.{IsName, name_text}
use Rattle.drawing_tree.specs.Tree.{Range, Item, Zero, One, Named, Term, Connection, Assignment, EachDelay}
use Rattle.drawing_tree.specs.ExpressionText.{sum_text}
use Rattle.drawing_tree.specs.Canonical.{quoted, bounds_text, last_text, range_text, signal_text, item_text, minus_text, term_text, hold_text, connection_text, bracketed, bracketed_if_some, assignment_text, params_text, fall_text, delay_text}
use Rattle.drawing_grammar.proofs.Cutting.{stops, Spells, Closes, closed, nothing_closes, before, before_closed, then_, then_closed}
use Rattle.drawing_grammar.proofs.Leaves.{word_spells, name_closes}
use Rattle.drawing_grammar.proofs.NameBytes.{name_holds}
use Rattle.drawing_grammar.proofs.Literals.{colon_closes, comma_closes, equals_closes, less_closes, greater_closes, ampersand_closes, open_bracket_closes, close_bracket_closes, open_brace_closes, close_brace_closes, zero_spells, one_spells, hold_spells, is_plain_first, minus_before}
use Rattle.drawing_grammar.proofs.SpelledExpression.{sum_spells, bounds_spell}
use Rattle.drawing_grammar.proofs.SpelledLists.{all_map, Each, joined_spells, bracketed_if_some_closes}
use Rattle.drawing_grammar.proofs.CanonicalTokens.{word, name, colon, comma, equals, ampersand, less, greater, open_bracket, close_bracket, open_brace, close_brace, sum_tokens, bounds_tokens, last_tokens, range_tokens, signal_tokens, item_tokens, minus_tokens, term_tokens, hold_tokens, connection_tokens, assignment_tokens, params_tokens, fall_tokens, delay_tokens}
use Rattle.drawing_grammar.proofs.Drawable.{IsDrawn, IsDrawnRange, IsDrawnItem, IsDrawnTerm, IsDrawnConnection, IsDrawnAssignment}

last_stops : (last : Option Expression) → stops (last_text last) ≡ true
last_stops None = refl
last_stops (Some last) = refl

last_spells : (last : Option Expression) → IfSome last IsDrawn → Spells (last_text last) (last_tokens last)
last_spells None is = closed [] [] nothing_closes
last_spells (Some last) is = before (codes ":") (sum_text last) colon (sum_tokens last) colon_closes (sum_spells last is)

pub range_closes : (range : Option Range) → IfSome range IsDrawnRange → Closes (range_text range) (range_tokens range)
range_closes None is = nothing_closes
range_closes (Some range) is =
    then_closed (codes "<" ++ sum_text range.first ++ last_text range.last) (codes ">") (less ++ sum_tokens range.first ++ last_tokens range.last) greater
    (then_ (codes "<" ++ sum_text range.first) (last_text range.last) (less ++ sum_tokens range.first) (last_tokens range.last)
    (before (codes "<") (sum_text range.first) less (sum_tokens range.first) less_closes (sum_spells range.first is.first))
    (last_spells range.last is.last) (last_stops range.last)) greater_closes refl

pub signal_closes : (n : SignalName) (range : Option Range) → IsName n → IfSome range IsDrawnRange → Closes (signal_text n range) (signal_tokens n range)
signal_closes n range is are =
    before_closed (quoted (name_text n)) (range_text range) (name (name_text n)) (range_tokens range)
    (name_closes (name_text n) (name_holds n is)) (range_closes range are)

item_spells : (item : Item) → IsDrawnItem item → Spells (item_text item) (item_tokens item)
item_spells Zero is = zero_spells
item_spells One is = one_spells
item_spells (Named n range) is = closed (signal_text n range) (signal_tokens n range) (signal_closes n range is.0 is.1)

item_is_plain : (item : Item) → is_plain_first (item_text item) ≡ true
item_is_plain Zero = refl
item_is_plain One = refl
item_is_plain (Named n range) = refl

complemented_spells : (complemented : Bool) (item : Item) → Spells (item_text item) (item_tokens item) →
    Spells (minus_text complemented ++ item_text item) (minus_tokens complemented ++ item_tokens item)
complemented_spells true item is = minus_before (item_text item) (item_tokens item) is (item_is_plain item)
complemented_spells false item is = is

pub term_spells : (t : Term) → IsDrawnTerm t → Spells (term_text t) (term_tokens t)
term_spells t is = complemented_spells t.minus t.item (item_spells t.item is)

held_spells : (hold : Bool) → Spells (hold_text hold) (hold_tokens hold)
held_spells true = hold_spells
held_spells false = closed [] [] nothing_closes

held_stops : (hold : Bool) → stops (hold_text hold) ≡ true
held_stops true = refl
held_stops false = refl

pub connection_spells : (c : Connection) → IsDrawnConnection c → Spells (connection_text c) (connection_tokens c)
connection_spells c is =
    then_ (join_by term_text (codes " & ") c.terms) (hold_text c.hold) (join_by term_tokens ampersand c.terms) (hold_tokens c.hold)
    (joined_spells (codes " & ") ampersand term_text term_tokens ampersand_closes refl c.terms
    (all_map IsDrawnTerm (λ t. Spells (term_text t) (term_tokens t)) term_spells c.terms is.terms)) (held_spells c.hold) (held_stops c.hold)

pub assignment_spells : (a : Assignment) → IsDrawnAssignment a → Spells (assignment_text a) (assignment_tokens a)
assignment_spells a is =
    before (a.name ++ codes "=") (sum_text a.value) (word a.name ++ equals) (sum_tokens a.value)
    (then_closed a.name (codes "=") (word a.name) equals (word_spells a.name is.name.is_word) equals_closes refl) (sum_spells a.value is.value)

pub params_close : (params : List Assignment) → Each assignment_text assignment_tokens params → Closes (params_text params) (params_tokens params)
params_close params is = bracketed_if_some_closes (codes " {") (codes "}") open_brace close_brace assignment_text assignment_tokens open_brace_closes close_brace_closes refl params is

pub params_stop : (params : List Assignment) → stops (params_text params) ≡ true
unfolding bracketed bracketed_if_some
params_stop [] = refl
params_stop (param ∷ params) = refl

fall_stops : (fall : Option (Expression × Expression)) → stops (fall_text fall) ≡ true
fall_stops None = refl
fall_stops (Some fall) = refl

fall_spells : (fall : Option (Expression × Expression)) → IfSome fall (λ f. IsDrawn f.0 × IsDrawn f.1) → Spells (fall_text fall) (fall_tokens fall)
fall_spells None is = closed [] [] nothing_closes
fall_spells (Some fall) is = before (codes ", ") (bounds_text fall.0 fall.1) comma (bounds_tokens fall.0 fall.1) comma_closes (bounds_spell fall.0 fall.1 is.0 is.1)

pub delay_closes : (delay fall : Option (Expression × Expression)) → EachDelay IsDrawn delay fall → Closes (delay_text delay fall) (delay_tokens delay fall)
delay_closes None fall is = nothing_closes
delay_closes (Some delay) fall is =
    then_closed (codes " [" ++ bounds_text delay.0 delay.1 ++ fall_text fall) (codes "]") (open_bracket ++ bounds_tokens delay.0 delay.1 ++ fall_tokens fall) close_bracket
    (then_ (codes " [" ++ bounds_text delay.0 delay.1) (fall_text fall) (open_bracket ++ bounds_tokens delay.0 delay.1) (fall_tokens fall)
    (before (codes " [") (bounds_text delay.0 delay.1) open_bracket (bounds_tokens delay.0 delay.1) open_bracket_closes (bounds_spell delay.0 delay.1 is.0.0 is.0.1))
    (fall_spells fall is.1) (fall_stops fall)) close_bracket_closes refl

pub delay_stops : (delay fall : Option (Expression × Expression)) → stops (delay_text delay fall) ≡ true
delay_stops None fall = refl
delay_stops (Some delay) fall = refl
