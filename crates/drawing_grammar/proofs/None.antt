-- No choice of a part begins with a token that is none of its own.
use Rattle.std.proofs.Common.{◌≡◌, ◌≢◌, None, refl}
use Rattle.drawing_grammar.specs.declared.terminal.Terminal.{Terminal}
use Rattle.drawing_grammar.specs.declared.terminal.Terminal.TheVariants as is
use Rattle.drawing_grammar.specs.declared.edition.Edition.{Edition}
use Rattle.drawing_grammar.specs.Grammar as g
use Rattle.drawing_grammar.specs.Machine.{choice}

pub no_unary : (l : Terminal) → l ≢ is.Number → l ≢ is.Word → l ≢ is.Minus → l ≢ is.OpenParenthesis → choice g.Unary l ≡ None
no_unary is.Number h0 h1 h2 h3 = absurd (h0 refl)
no_unary is.Word h0 h1 h2 h3 = absurd (h1 refl)
no_unary is.Minus h0 h1 h2 h3 = absurd (h2 refl)
no_unary is.OpenParenthesis h0 h1 h2 h3 = absurd (h3 refl)
no_unary _ h0 h1 h2 h3 = refl

pub no_factors : (l : Terminal) → l ≢ is.Star → l ≢ is.Slash → choice g.Factors l ≡ None
no_factors is.Star h0 h1 = absurd (h0 refl)
no_factors is.Slash h0 h1 = absurd (h1 refl)
no_factors _ h0 h1 = refl

pub no_terms : (l : Terminal) → l ≢ is.Plus → l ≢ is.Minus → choice g.Terms l ≡ None
no_terms is.Plus h0 h1 = absurd (h0 refl)
no_terms is.Minus h0 h1 = absurd (h1 refl)
no_terms _ h0 h1 = refl

pub no_comparison : (l : Terminal) → l ≢ is.Equals → l ≢ is.Exclamation → l ≢ is.Less → l ≢ is.Greater → choice g.Comparison l ≡ None
no_comparison is.Equals h0 h1 h2 h3 = absurd (h0 refl)
no_comparison is.Exclamation h0 h1 h2 h3 = absurd (h1 refl)
no_comparison is.Less h0 h1 h2 h3 = absurd (h2 refl)
no_comparison is.Greater h0 h1 h2 h3 = absurd (h3 refl)
no_comparison _ h0 h1 h2 h3 = refl

pub no_or_equal : (l : Terminal) → l ≢ is.Equals → choice g.OrEqual l ≡ None
no_or_equal is.Equals h0 = absurd (h0 refl)
no_or_equal _ h0 = refl

pub no_range : (l : Terminal) → l ≢ is.Less → choice g.Range l ≡ None
no_range is.Less h0 = absurd (h0 refl)
no_range _ h0 = refl

pub no_range_end : (l : Terminal) → l ≢ is.Colon → choice g.RangeEnd l ≡ None
no_range_end is.Colon h0 = absurd (h0 refl)
no_range_end _ h0 = refl

pub no_parameters : (l : Terminal) → l ≢ is.OpenBrace → choice g.Parameters l ≡ None
no_parameters is.OpenBrace h0 = absurd (h0 refl)
no_parameters _ h0 = refl

pub no_assign : (l : Terminal) → l ≢ is.Word → choice g.Assign l ≡ None
no_assign is.Word h0 = absurd (h0 refl)
no_assign _ h0 = refl

pub no_more_assigns : (l : Terminal) → l ≢ is.Comma → choice g.MoreAssigns l ≡ None
no_more_assigns is.Comma h0 = absurd (h0 refl)
no_more_assigns _ h0 = refl

pub no_formal : (l : Terminal) → l ≢ is.Name → choice g.Formal l ≡ None
no_formal is.Name h0 = absurd (h0 refl)
no_formal _ h0 = refl

pub no_more_formals : (l : Terminal) → l ≢ is.Comma → choice g.MoreFormals l ≡ None
no_more_formals is.Comma h0 = absurd (h0 refl)
no_more_formals _ h0 = refl

pub no_formal_outputs : (l : Terminal) → l ≢ is.Arrow → choice g.FormalOutputs l ≡ None
no_formal_outputs is.Arrow h0 = absurd (h0 refl)
no_formal_outputs _ h0 = refl

pub no_delay : (l : Terminal) → l ≢ is.OpenBracket → choice g.Delay l ≡ None
no_delay is.OpenBracket h0 = absurd (h0 refl)
no_delay _ h0 = refl

pub no_fall : (l : Terminal) → l ≢ is.Comma → choice g.Fall l ≡ None
no_fall is.Comma h0 = absurd (h0 refl)
no_fall _ h0 = refl

pub no_term : (l : Terminal) → l ≢ is.Minus → l ≢ is.Zero → l ≢ is.One → l ≢ is.Name → choice g.Term l ≡ None
no_term is.Minus h0 h1 h2 h3 = absurd (h0 refl)
no_term is.Zero h0 h1 h2 h3 = absurd (h1 refl)
no_term is.One h0 h1 h2 h3 = absurd (h2 refl)
no_term is.Name h0 h1 h2 h3 = absurd (h3 refl)
no_term _ h0 h1 h2 h3 = refl

pub no_atom : (l : Terminal) → l ≢ is.Zero → l ≢ is.One → l ≢ is.Name → choice g.Atom l ≡ None
no_atom is.Zero h0 h1 h2 = absurd (h0 refl)
no_atom is.One h0 h1 h2 = absurd (h1 refl)
no_atom is.Name h0 h1 h2 = absurd (h2 refl)
no_atom _ h0 h1 h2 = refl

pub no_more_terms : (l : Terminal) → l ≢ is.Ampersand → choice g.MoreTerms l ≡ None
no_more_terms is.Ampersand h0 = absurd (h0 refl)
no_more_terms _ h0 = refl

pub no_hold : (l : Terminal) → l ≢ is.Exclamation → choice g.Hold l ≡ None
no_hold is.Exclamation h0 = absurd (h0 refl)
no_hold _ h0 = refl

pub no_more_conns : (l : Terminal) → l ≢ is.Comma → choice g.MoreConns l ≡ None
no_more_conns is.Comma h0 = absurd (h0 refl)
no_more_conns _ h0 = refl

pub no_outputs : (l : Terminal) → l ≢ is.Arrow → choice g.Outputs l ≡ None
no_outputs is.Arrow h0 = absurd (h0 refl)
no_outputs _ h0 = refl

pub no_constant : (l : Terminal) → l ≢ is.Word → choice g.Constant l ≡ None
no_constant is.Word h0 = absurd (h0 refl)
no_constant _ h0 = refl

pub no_statement : (v : Edition) (l : Terminal) → l ≢ is.Word → l ≢ is.Wire → l ≢ is.If → choice (g.Statement v) l ≡ None
no_statement v is.Word h0 h1 h2 = absurd (h0 refl)
no_statement v is.Wire h0 h1 h2 = absurd (h1 refl)
no_statement v is.If h0 h1 h2 = absurd (h2 refl)
no_statement v _ h0 h1 h2 = refl

pub no_otherwise : (v : Edition) (l : Terminal) → l ≢ is.Else → choice (g.Otherwise v) l ≡ None
no_otherwise v is.Else h0 = absurd (h0 refl)
no_otherwise v _ h0 = refl

pub no_macro : (v : Edition) (l : Terminal) → l ≢ is.Macro → choice (g.Macro v) l ≡ None
no_macro v is.Macro h0 = absurd (h0 refl)
no_macro v _ h0 = refl

pub no_index : (l : Terminal) → l ≢ is.Less → choice g.Index l ≡ None
no_index is.Less h0 = absurd (h0 refl)
no_index _ h0 = refl

pub no_entry : (l : Terminal) → l ≢ is.Name → choice g.Entry l ≡ None
no_entry is.Name h0 = absurd (h0 refl)
no_entry _ h0 = refl

pub no_more_entries : (l : Terminal) → l ≢ is.Comma → choice g.MoreEntries l ≡ None
no_more_entries is.Comma h0 = absurd (h0 refl)
no_more_entries _ h0 = refl

pub no_case_statement : (l : Terminal) → l ≢ is.Case → choice g.CaseStatement l ≡ None
no_case_statement is.Case h0 = absurd (h0 refl)
no_case_statement _ h0 = refl

pub no_wire_bounds : (l : Terminal) → l ≢ is.Wire → choice g.WireBounds l ≡ None
no_wire_bounds is.Wire h0 = absurd (h0 refl)
no_wire_bounds _ h0 = refl

pub no_precision_skew : (l : Terminal) → l ≢ is.Pskew → choice g.PrecisionSkew l ≡ None
no_precision_skew is.Pskew h0 = absurd (h0 refl)
no_precision_skew _ h0 = refl

pub no_clock_skew : (l : Terminal) → l ≢ is.Cskew → choice g.ClockSkew l ≡ None
no_clock_skew is.Cskew h0 = absurd (h0 refl)
no_clock_skew _ h0 = refl

pub no_text : (v : Edition) (l : Terminal) → l ≢ is.Scald → choice (g.Text v) l ≡ None
no_text v is.Scald h0 = absurd (h0 refl)
no_text v _ h0 = refl
