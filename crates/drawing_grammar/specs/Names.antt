-- The names of a text in its order, and the first of them that is refused.
use Rattle.std.specs.Prelude.{◌≡◌, Bool, true, false, List, [], ◌∷◌, ◌++◌, ℕ, ⊤}
use Rattle.scald_base.specs.Time.{Header}
use Rattle.scald_base.specs.Fitting.{IntervalsFit, EdgesOverlap as Overlap, Fits}
use Rattle.scald_base.specs.declared.assertion.AssertSpec.TheVariants.{None as Unasserted}
use Rattle.scald_base.specs.declared.refusal.Place.{Place}
use Rattle.scald_base.specs.declared.refusal.Refusal.{Refusal}
use Rattle.scald_base.specs.declared.refusal.RefusalKind.{RefusalKind}
use Rattle.scald_base.specs.declared.refusal.RefusalKind.TheVariants.{BadName, EdgesOverlap}
use Rattle.scald_base.specs.declared.refusal.Stop.{Stop}
use Rattle.scald_base.specs.declared.refusal.Stop.TheVariants.{Refused, NoMemory}
use Rattle.assertion_syntax.specs.declared.name.SignalName.{SignalName}
use Rattle.assertion_syntax.specs.Name.{IsTextOf}
use Rattle.drawing_grammar.specs.declared.terminal.Terminal.{Terminal}
use Rattle.drawing_grammar.specs.declared.terminal.Terminal.TheVariants.{Name, Macro, Semicolon}
use Rattle.drawing_grammar.specs.Lexeme.{Lexeme, terminal}
use Rattle.drawing_grammar.specs.Grammar.{Need, Choice}
use Rattle.drawing_grammar.specs.Grammar as g
use Rattle.drawing_grammar.specs.Sketch.{unquoted}
use Rattle.drawing_grammar.specs.Written.{Written, nothing, marked, token, worded, begun, chosen, left_out, grouped, lacking}

-- a name as it is written, without its quotes, and whether it is a formal's
pub record Naming : Type 0 where
  pub text : List ℕ
  pub of_formal : Bool
  pub place : Place

abbrev pub named : List ℕ → Bool → Place → Naming
named text of_formal place = record { text = text; of_formal = of_formal; place = place }

abbrev pub naming : Bool → Lexeme → Naming
naming of_formal t = named (unquoted t.text) of_formal t.place

-- ---- the names of what is written

-- the name that a choice begins with
abbrev pub choice_names : {p : _} → Choice p → Lexeme → List Naming
choice_names g.number t = []
choice_names g.parameter t = []
choice_names g.negated t = []
choice_names g.bracketed t = []
choice_names g.times t = []
choice_names g.divided t = []
choice_names g.plus t = []
choice_names g.less t = []
choice_names g.equal t = []
choice_names g.unequal t = []
choice_names g.below t = []
choice_names g.above t = []
choice_names g.or_equal t = []
choice_names g.range t = []
choice_names g.last t = []
choice_names g.parameters t = []
choice_names g.assign t = []
choice_names g.next_assign t = []
choice_names g.formal t = naming true t ∷ []
choice_names g.next_formal t = []
choice_names g.formal_outputs t = []
choice_names g.delay t = []
choice_names g.fall t = []
choice_names g.complement t = []
choice_names g.zero_term t = []
choice_names g.one_term t = []
choice_names g.named_term t = naming false t ∷ []
choice_names g.zero_atom t = []
choice_names g.one_atom t = []
choice_names g.named_atom t = naming false t ∷ []
choice_names g.next_term t = []
choice_names g.hold t = []
choice_names g.next_conn t = []
choice_names g.outputs t = []
choice_names g.constant t = []
choice_names g.use_ t = []
choice_names g.wire t = []
choice_names g.if_ t = []
choice_names g.for_ t = []
choice_names g.else_ t = []
choice_names g.macro t = []
choice_names g.index t = []
choice_names g.entry t = naming false t ∷ []
choice_names g.next_entry t = []
choice_names g.case_ t = []
choice_names g.wire_bounds t = []
choice_names g.precision_skew t = []
choice_names g.clock_skew t = []
choice_names g.text t = []

-- the name that stands by itself, as after WIRE
abbrev pub item_names : Terminal → Lexeme → List Naming
item_names Name t = naming false t ∷ []
item_names _ t = []

abbrev pub names : {needs : List Need} → Written needs → List Naming
names nothing = []
names (marked t e w) = names w
names (token {l = l} t e w) = item_names l t ++ names w
names (worded t e f w) = names w
names (begun w) = names w
names (chosen c t e w) = choice_names c t ++ names w
names (left_out v e w) = names w
names (grouped w) = names w
names (lacking v e w) = names w

-- ---- the same by the tokens alone: the names of a macro's head, from MACRO up to the semicolon,
-- are its formals

abbrev pub names_at : Bool → Terminal → Lexeme → List Naming
names_at in_head Name t = naming in_head t ∷ []
names_at in_head _ t = []

abbrev pub head_behind : Bool → Terminal → Bool
head_behind in_head Macro = true
head_behind in_head Semicolon = false
head_behind in_head _ = in_head

unfoldable pub names_from : Bool → List Lexeme → List Naming
names_from in_head [] = []
names_from in_head (t ∷ ts) =
    names_at in_head (terminal t) t ++ names_from (head_behind in_head (terminal t)) ts

-- ---- which of them are refused

-- neither global nor with an assertion
pub record IsPlain (name : SignalName) : Type 0 where
  pub local : name.global ≡ false
  pub bare : name.spec ≡ Unasserted

-- a formal's name is plain
abbrev pub MayStand : Bool → SignalName → Type 0
MayStand of_formal name = of_formal ≡ true → IsPlain name

-- It is the text of a name whose assertion fits the header, and a formal's is plain.
pub record IsGood (h : Header) (n : Naming) : Type 0 where
  pub name : SignalName
  pub spelled : IsTextOf name n.text
  pub plain : MayStand n.of_formal name
  pub fits : Fits h name.spec

-- Why a name is refused: as a formal's it is not plain, an interval is none of the header's, or
-- else edges overlap.
pub data IsNameFault (h : Header) (of_formal : Bool) (name : SignalName) : RefusalKind →
    Type 0 where
  no_formal : (MayStand of_formal name → ⊥) → IsNameFault h of_formal name BadName
  no_interval : (IntervalsFit h name.spec → ⊥) → IsNameFault h of_formal name BadName
  overlapping : MayStand of_formal name → IntervalsFit h name.spec → Overlap h name.spec →
      IsNameFault h of_formal name EdgesOverlap

-- The text is of no name, or of one that is refused.
pub data IsFault (h : Header) (n : Naming) : RefusalKind → Type 0 where
  no_name : ((name : SignalName) → IsTextOf name n.text → ⊥) → IsFault h n BadName
  bad_name : {kind : RefusalKind} (name : SignalName) → IsTextOf name n.text →
      IsNameFault h n.of_formal name kind → IsFault h n kind

abbrev pub AreGood : Header → List Naming → Type 0
AreGood h [] = ⊤
AreGood h (n ∷ ns) = IsGood h n × AreGood h ns

-- The refusal is at the first name that has a fault.
pub record IsBadName (h : Header) (ns : List Naming) (r : Refusal) : Type 0 where
  pub before : List Naming
  pub bad : Naming
  pub after : List Naming
  pub parts : ns ≡ before ++ bad ∷ after
  pub good : AreGood h before
  pub fault : IsFault h bad r.kind
  pub place : r.place ≡ bad.place

abbrev pub IsNameStop : Header → List Naming → Stop → Type 0
IsNameStop h ns (Refused r) = IsBadName h ns r
IsNameStop h ns NoMemory = ⊤

-- These were judged so far, and the rest is still to come.
pub record Judged (h : Header) (all rest : List Naming) : Type 0 where
  pub done : List Naming
  pub parts : all ≡ done ++ rest
  pub good : AreGood h done
