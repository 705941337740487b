-- What stands for a part or a group of the grammar that is left out.
use Rattle.std.specs.Prelude.{false, [], Option, Some, None}
use Rattle.drawing_tree.specs.Tree as tree
use Rattle.drawing_grammar.specs.Grammar.{Part, Group}
use Rattle.drawing_grammar.specs.Grammar as g
use Rattle.drawing_grammar.specs.Sketch.{Meaning, GroupMeaning, no_constants, no_delays, no_items}

-- What a part stands for if it is left out; a part without such a value is never left out.
abbrev pub absent_value : (p : Part) → Option (Meaning p)
absent_value g.Unary = None
absent_value g.Factors = Some (λ left. left)
absent_value g.Terms = Some (λ left. left)
absent_value g.Comparison = Some (λ left. left)
absent_value g.OrEqual = Some false
absent_value g.Range = Some None
absent_value g.RangeEnd = Some None
absent_value g.Parameters = Some no_items
absent_value g.Assign = None
absent_value g.MoreAssigns = Some no_items
absent_value g.Formal = None
absent_value g.MoreFormals = Some no_items
absent_value g.FormalOutputs = Some no_items
absent_value g.Delay = Some no_delays
absent_value g.Fall = Some None
absent_value g.Term = None
absent_value g.Atom = None
absent_value g.MoreTerms = Some []
absent_value g.Hold = Some false
absent_value g.MoreConns = Some []
absent_value g.Outputs = Some []
absent_value g.Constant = None
absent_value (g.Statement v) = None
absent_value (g.Otherwise v) = Some tree.no_else
absent_value (g.Macro v) = None
absent_value g.Index = Some 0
absent_value g.Entry = None
absent_value g.MoreEntries = Some []
absent_value g.CaseStatement = None
absent_value g.WireBounds = Some None
absent_value g.PrecisionSkew = Some None
absent_value g.ClockSkew = Some None
absent_value (g.Text v) = None

-- What a group stands for if it is left out; a group without such a value is never left out.
abbrev pub absent_group : (g : Group) → Option (GroupMeaning g)
absent_group g.Product = None
absent_group g.Sum = None
absent_group g.Expr = None
absent_group g.Conn = None
absent_group g.SomeConns = None
absent_group g.Conns = Some []
absent_group g.SomeFormals = None
absent_group g.Formals = Some no_items
absent_group g.Assigns = None
absent_group g.Entries = None
absent_group g.Constants = Some no_constants
absent_group (g.Statements v) = Some tree.nil
absent_group (g.Macros v) = Some (record { macros = []; heads = [] })
absent_group g.Cases = Some []
