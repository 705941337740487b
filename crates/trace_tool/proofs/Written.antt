-- Lines that are put together of pieces.
use Rattle.std.proofs.Common.{◌≡◌, ℕ, List, [], ◌∷◌, ◌++◌, append_assoc, append-nil, codes, map, length, take, ◌+◌, ◌<◌, ◌≤◌, Some, None, subst, refl, ap, sym, ◌∙◌, Bool}
use Rattle.std.specs.Prelude.{slice_get}
use Rattle.std.specs.List.{flat_map}
use Rattle.std.proofs.lemmas.List.{take_all}
use Rattle.std.proofs.lemmas.Option.{get_or_from_slice_get, slice_get-get_or, slice_get_within}
use Rattle.flat_circuit.specs.declared.instance.Instance.{Instance}
use Rattle.flat_circuit.specs.Split.{two_delays}
use Rattle.flat_circuit.specs.Circuit.{Circuit}
use Rattle.listing.specs.Text.{HasPart, bit_text}
use Rattle.listing.proofs.Parts.{item_added, part_of_item}
use Rattle.listing.specs.Names.{instance_name, net_text}
use Rattle.trace_tool.specs.declared.trace.Trace.{Trace}
use Rattle.trace_tool.specs.declared.line.Line.{Line}
use Rattle.trace_tool.specs.declared.line.Line.TheVariants.{End}
use Rattle.trace_tool.specs.Trace.{delay_text, digit_text, instance_line, line_text, net_line, text_of_lines, trace_text, line_order, wires_text}

-- nothing is a part of each text
pub part_none : (old new text : List ℕ) → new ≡ old → HasPart old new text
part_none old new text same = record { part = []; rest = text; added = same ∙ sym (append-nil old); is = refl }

name_apart : (name space digits : List ℕ) → (name ++ (space ++ [])) ++ digits ≡ name ++ (space ++ (digits ++ []))
name_apart name space digits = simp (append_assoc, append-nil) refl

pub net_line_is : (c : Circuit) (n : ℕ) (row : List Bool) (name : List ℕ) → name ≡ net_text c n →
    (name ++ (codes " " ++ [])) ++ flat_map digit_text row ≡ net_line c n row
unfolding net_line
net_line_is c n row name is =
    name_apart name (codes " ") (flat_map digit_text row)
    ∙ ap (λ (l : List ℕ). l ++ (codes " " ++ (flat_map digit_text row ++ []))) is

delays_apart : (name space p q r colon wires : List ℕ) →
    (name ++ (space ++ (p ++ (q ++ (r ++ (colon ++ [])))))) ++ wires ≡ name ++ (space ++ ((p ++ (q ++ (r ++ []))) ++ (colon ++ (wires ++ []))))
delays_apart name space p q r colon wires = simp (append_assoc, append-nil) refl

-- what stands before the wires
abbrev pub front_text : List ℕ → ℕ → List ℕ → List ℕ → List ℕ → List ℕ
front_text path bit p q r = bit_text (record { text = path; bit = bit }) ++ (codes " " ++ (p ++ (q ++ (r ++ (codes " :" ++ [])))))

pub instance_line_is : (i : Instance) (pick : ℕ × ℕ) (wires path p q r : List ℕ) → path ≡ i.path →
    p ++ (q ++ (r ++ [])) ≡ delay_text i.kind (two_delays i.kind i.split) pick →
    front_text path i.bit p q r ++ wires_text wires ≡ instance_line i pick wires
unfolding instance_line
instance_line_is i pick wires path p q r named is =
    ap (λ (l : List ℕ). front_text l i.bit p q r ++ wires_text wires) named
    ∙ delays_apart (bit_text (instance_name i)) (codes " ") p q r (codes " :") (wires_text wires)
    ∙ ap (λ (l : List ℕ). bit_text (instance_name i) ++ (codes " " ++ (l ++ (codes " :" ++ (wires_text wires ++ []))))) is

-- ---- the lines, one after another

abbrev pub ended : Circuit → Trace → Line → List ℕ
ended c trace of = line_text c trace of ++ 10 ∷ []

ended_lines : (c : Circuit) (trace : Trace) (lines : List Line) → flat_map (ended c trace) lines ≡ text_of_lines (map (line_text c trace) lines)
ended_lines c trace [] = refl
ended_lines c trace (of ∷ lines) = ap (λ (l : List ℕ). ended c trace of ++ l) (ended_lines c trace lines)

whole_text : (c : Circuit) (trace : Trace) → flat_map (ended c trace) (line_order c) ≡ trace_text c trace
whole_text c trace = ended_lines c trace (line_order c)

-- what stands after so many lines
abbrev pub AreWritten : Circuit → Trace → ℕ → List ℕ → List ℕ → Type 0
AreWritten c trace place old out = out ≡ old ++ flat_map (ended c trace) (take place (line_order c))

pub line_added : (c : Circuit) (trace : Trace) (place : ℕ) (old between new : List ℕ) (of : Line) → slice_get (line_order c) place ≡ Some of →
    AreWritten c trace place old between → new ≡ between ++ ended c trace of → AreWritten c trace (place + 1) old new
line_added c trace place old between new of has before added =
    item_added (ended c trace) (line_order c) place End old between new (slice_get_within (line_order c) place of has) before
    (added ∙ ap (λ (l : Line). between ++ ended c trace l) (sym (get_or_from_slice_get (line_order c) place of End has)))

pub line_stopped : (c : Circuit) (trace : Trace) (place : ℕ) (old between new : List ℕ) (of : Line) → slice_get (line_order c) place ≡ Some of →
    AreWritten c trace place old between → HasPart between new (ended c trace of) → HasPart old new (trace_text c trace)
line_stopped c trace place old between new of has before part =
    subst (HasPart old new) (whole_text c trace)
    (part_of_item (ended c trace) (line_order c) place End old between new (slice_get_within (line_order c) place of has) before
    (subst (λ (l : Line). HasPart between new (ended c trace l)) (sym (get_or_from_slice_get (line_order c) place of End has)) part))

pub no_line_added : (c : Circuit) (trace : Trace) (place : ℕ) (old out : List ℕ) → place < length (line_order c) → slice_get (line_order c) place ≡ None →
    AreWritten c trace (place + 1) old out
no_line_added c trace place old out below none =
    absurd (let has = slice_get-get_or (line_order c) place End below in let clash = sym none ∙ has in cc)

pub all_added : (c : Circuit) (trace : Trace) (place : ℕ) (old out : List ℕ) → length (line_order c) ≤ place → AreWritten c trace place old out →
    out ≡ old ++ trace_text c trace
all_added c trace place old out past before =
    before ∙ ap (λ (l : List Line). old ++ flat_map (ended c trace) l) (take_all place (line_order c) past)
    ∙ ap (λ (l : List ℕ). old ++ l) (whole_text c trace)
