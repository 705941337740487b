-- A text draws one circuit at most, or is refused in one way.
use Rattle.std.proofs.Common.{◌≡◌, ◌<◌, refl, sym, ap, subst, ◌∙◌, arith, List, [], ◌∷◌, length, map, Result, Ok, Err, inl, inr}
use Rattle.std.specs.List.{All}
use Rattle.std.proofs.lemmas.List.{length-map}
use Rattle.std.proofs.lemmas.List.Elements.{All-head, All-tail}
use Rattle.scald_base.specs.declared.refusal.Refusal.{Refusal}
use Rattle.scald_base.specs.declared.refusal.Stop.TheVariants.{Refused as Stopped}
use Rattle.drawing_tree.specs.Tree.{Drawing}
use Rattle.drawing_grammar.proofs.TextLaws.{one_drawing, not_both, one_refusal as one_cause}
use Rattle.drawing_grammar.proofs.Unique.{one_refusal_by}
use Rattle.flat_circuit.specs.declared.case.CaseValue.{CaseValue}
use Rattle.flat_circuit.specs.Name.{name_at}
use Rattle.flat_circuit.specs.Circuit.{Circuit, IsCircuit, net_name, net_names}
use Rattle.macro_expander.specs.Named.{State}
use Rattle.macro_expander.specs.Outcome.{Gives}
use Rattle.macro_expander.specs.Flat.{flat}
use Rattle.macro_expander.specs.Cases.{CaseBit, cases_of}
use Rattle.macro_expander.specs.Stands.{IsCircuitOf, IsStopOf, IsNumbered}
use Rattle.case_analysis.specs.Case.{NetsExist}
use Rattle.case_analysis.specs.Listed.{IsListed, bit_of, bits_of}
use Rattle.timing_analysis.specs.Drawn.{undrawn, unexpanded, wrong_cases}
use Rattle.timing_analysis.specs.CircuitLaws.{NotBoth, OneCircuit, OneRefusal}
use Rattle.timing_analysis.proofs.OneCircuit.{one_circuit, one_break, no_break}

-- ---- circuits

-- a drawing has one list of cases, or one refusal of them
one_listed : (d d' : Drawing) (s s' : State) (r r' : Result (List (List CaseBit)) Refusal) → d' ≡ d →
    flat d ≡ Gives tt s → flat d' ≡ Gives tt s' → cases_of s d ≡ r → cases_of s' d' ≡ r' → r ≡ r'
one_listed d d' s s' r r' same gives gives' is is' =
    let e : Gives tt s' ≡ Gives tt s = sym gives' ∙ ap flat same ∙ gives in
    let states : s' ≡ s = cc in
    sym is ∙ ap (λ (x : State). cases_of x d) (sym states) ∙ ap (cases_of s') (sym same) ∙ is'

value_by : (v w : CaseValue) → v.net ≡ w.net → v.one ≡ w.one → v ≡ w
value_by v w net one = grind arith

module _ (c : Circuit) (known : IsCircuit c) where
  same_values : (vs ws : List CaseValue) → NetsExist c vs → NetsExist c ws → bits_of c.nets vs ≡ bits_of c.nets ws → vs ≡ ws
  same_values [] [] a b e = refl
  same_values [] (w ∷ ws) a b e = absurd (cc)
  same_values (v ∷ vs) [] a b e = absurd (cc)
  same_values (v ∷ vs) (w ∷ ws) a b e =
      let long = length-map c.nets net_name in
      let first : bit_of c.nets v ≡ bit_of c.nets w = cc in
      let names : name_at (net_names c.nets) v.net ≡ name_at (net_names c.nets) w.net = ap (λ (x : CaseBit). x.name) first in
      let mine : v.net < length c.nets = All-head (λ (x : CaseValue). x.net < length c.nets) v vs a in
      let other : w.net < length c.nets = All-head (λ (x : CaseValue). x.net < length c.nets) w ws b in
      let nets : v.net ≡ w.net = known.distinct v.net w.net (omega (arith, long, mine)) (omega (arith, long, other)) names in
      let later : bits_of c.nets vs ≡ bits_of c.nets ws = cc in
      let head : v ≡ w = value_by v w nets (ap (λ (x : CaseBit). x.one) first) in
      let tail : vs ≡ ws = same_values vs ws (All-tail (λ (x : CaseValue). x.net < length c.nets) v vs a) (All-tail (λ (x : CaseValue). x.net < length c.nets) w ws b) later in
      cc

  same_cases : (xs ys : List (List CaseValue)) → All (IsListed c) xs → All (IsListed c) ys → map (bits_of c.nets) xs ≡ map (bits_of c.nets) ys → xs ≡ ys
  same_cases [] [] a b e = refl
  same_cases [] (y ∷ ys) a b e = absurd (cc)
  same_cases (x ∷ xs) [] a b e = absurd (cc)
  same_cases (x ∷ xs) (y ∷ ys) a b e =
      let first : bits_of c.nets x ≡ bits_of c.nets y = cc in
      let later : map (bits_of c.nets) xs ≡ map (bits_of c.nets) ys = cc in
      let head : x ≡ y = same_values x y (All-head (IsListed c) x xs a).exist (All-head (IsListed c) y ys b).exist first in
      let tail : xs ≡ ys = same_cases xs ys (All-tail (IsListed c) x xs a) (All-tail (IsListed c) y ys b) later in
      cc

pub text_draws_one_circuit : OneCircuit
text_draws_one_circuit text c c' cases cases' a b =
    let same : b.drawing ≡ a.drawing = one_drawing text b.drawing a.drawing b.draws.drawn a.draws.drawn in
    let circuits : c ≡ c' = one_circuit a.drawing c c' a.draws.circuit (subst (λ (d : Drawing). IsCircuitOf d c') same b.draws.circuit) a.draws.is_circuit b.draws.is_circuit in
    let listed : Ok (map (bits_of c.nets) cases) ≡ Ok (map (bits_of c'.nets) cases') =
    one_listed a.drawing b.drawing a.draws.circuit.state b.draws.circuit.state (Ok (map (bits_of c.nets) cases)) (Ok (map (bits_of c'.nets) cases')) same
    a.draws.circuit.expanded b.draws.circuit.expanded a.are b.are in
    let bits : map (bits_of c.nets) cases ≡ map (bits_of c'.nets) cases' = cc in
    let here : map (bits_of c.nets) cases ≡ map (bits_of c.nets) cases' = bits ∙ ap (λ (x : Circuit). map (bits_of x.nets) cases') (sym circuits) in
    (circuits, same_cases c a.draws.is_circuit cases cases' a.listed (subst (λ (x : Circuit). All (IsListed x) cases') (sym circuits) b.listed) here)

-- ---- refusals

one_stop : (d : Drawing) (r q : Refusal) → IsStopOf d (Stopped r) → IsStopOf d (Stopped q) → r ≡ q
one_stop d r q (inl e) (inl f) =
    let kind : r.kind ≡ q.kind = cc (e, f) in
    let place : r.place ≡ q.place = cc (e, f) in
    one_refusal_by r q kind place
one_stop d r q (inl e) (inr b) = absurd (cc (e, b.expanded))
one_stop d r q (inr a) (inl f) = absurd (cc (f, a.expanded))
one_stop d r q (inr a) (inr b) =
    let same : b.state ≡ a.state = cc (a.expanded, b.expanded) in
    one_break a.state a.numbered b.numbered r q a.is_numbered (subst (λ (s : State). IsNumbered s b.numbered) same b.is_numbered) a.is_built b.is_built a.broken b.broken

pub no_stop : (d : Drawing) (r : Refusal) (c : Circuit) → IsStopOf d (Stopped r) → IsCircuitOf d c → IsCircuit c → ⊥
no_stop d r c (inl e) is fit = absurd (cc (e, is.expanded))
no_stop d r c (inr b) is fit =
    let same : b.state ≡ is.state = cc (b.expanded, is.expanded) in
    no_break is.state b.numbered c r (subst (λ (s : State). IsNumbered s b.numbered) same b.is_numbered) b.is_built is.stands fit b.broken

pub one_refusal : OneRefusal
one_refusal text r q (undrawn a) (undrawn b) = one_cause text r q a b
one_refusal text r q (undrawn a) (unexpanded e draws stop) = absurd (not_both text r e a draws)
one_refusal text r q (undrawn a) (wrong_cases e c draws is) = absurd (not_both text r e a draws.drawn)
one_refusal text r q (unexpanded d draws stop) (undrawn b) = absurd (not_both text q d b draws)
one_refusal text r q (unexpanded d draws stop) (unexpanded e draws' stop') =
    one_stop d r q stop (subst (λ (z : Drawing). IsStopOf z (Stopped q)) (one_drawing text e d draws' draws) stop')
one_refusal text r q (unexpanded d draws stop) (wrong_cases e c draws' is) =
    absurd (no_stop d r c stop (subst (λ (z : Drawing). IsCircuitOf z c) (one_drawing text e d draws'.drawn draws) draws'.circuit) draws'.is_circuit)
one_refusal text r q (wrong_cases d c draws is) (undrawn b) = absurd (not_both text q d b draws.drawn)
one_refusal text r q (wrong_cases d c draws is) (unexpanded e draws' stop') =
    absurd (no_stop e q c stop' (subst (λ (z : Drawing). IsCircuitOf z c) (one_drawing text d e draws.drawn draws') draws.circuit) draws.is_circuit)
one_refusal text r q (wrong_cases d c draws is) (wrong_cases e c' draws' is') =
    let both : Err r ≡ Err q = one_listed d e draws.circuit.state draws'.circuit.state
    (Err r) (Err q) (one_drawing text e d draws'.drawn draws.drawn) draws.circuit.expanded draws'.circuit.expanded is is' in
    cc

pub not_refused : NotBoth
not_refused text r c cases (undrawn a) drawn = not_both text r drawn.drawing a drawn.draws.drawn
not_refused text r c cases (unexpanded d draws stop) drawn =
    no_stop d r c stop (subst (λ (z : Drawing). IsCircuitOf z c) (one_drawing text drawn.drawing d drawn.draws.drawn draws) drawn.draws.circuit) drawn.draws.is_circuit
not_refused text r c cases (wrong_cases d c' draws is) drawn =
    let both : Err r ≡ Ok (map (bits_of c.nets) cases) =
    one_listed d drawn.drawing draws.circuit.state drawn.draws.circuit.state (Err r) (Ok (map (bits_of c.nets) cases)) (one_drawing text drawn.drawing d drawn.draws.drawn draws.drawn)
    draws.circuit.expanded drawn.draws.circuit.expanded is drawn.are in
    absurd (cc)
