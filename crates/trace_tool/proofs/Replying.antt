-- From what is replied to a circuit and in a case to what is replied to a text.
use Rattle.std.proofs.Common.{◌≡◌, ℕ, zero, suc, ◌-◌, ◌*◌, ◌<◌, ◌≤◌, true, List, [], ◌∷◌, length, Some, None, Option, IfOk, IfSome, Ok, Err, ap, subst, sym, ◌∙◌, arith}
use Rattle.std.specs.Prelude.{slice_get}
use Rattle.std.specs.List.{All}
use Rattle.std.proofs.lemmas.List.Elements.{All-nil}
use Rattle.std.proofs.lemmas.Option.{get_or_from_slice_get, same_Some, slice_get_within}
use Rattle.scald_base.specs.declared.refusal.Refusal.{Refusal}
use Rattle.flat_circuit.specs.declared.case.CaseValue.{CaseValue}
use Rattle.flat_circuit.specs.Circuit.{Circuit}
use Rattle.case_analysis.specs.Listed.{IsListed, is_free, none}
use Rattle.listing.specs.Answer.{refusal_line}
use Rattle.timing_analysis.specs.Drawn.{IsTextRefused}
use Rattle.trace_tool.specs.declared.trace.Trace.{Trace}
use Rattle.trace_tool.specs.declared.asked.Asked.{Asked}
use Rattle.trace_tool.specs.declared.outcome.TraceOutcome.{TraceOutcome}
use Rattle.trace_tool.specs.declared.outcome.TraceOutcome.TheVariants.{Done, NoCase, Refused, TooBig}
use Rattle.trace_tool.specs.Ran as ran
use Rattle.trace_tool.proofs.Made.{Gives, Made}
use Rattle.trace_tool.specs.Ran.{IsNamed, IsTraced, Ran, RanIn, RanOn, case_asked, most_bits, written}

pub refused_reply : (asked : Asked) (text : List ℕ) (made : Made) (r : Refusal) → IsTextRefused text r →
    IfOk made (λ reply. reply.outcome ≡ Refused r) → IfOk made (λ reply. reply.bytes ≡ refusal_line r) →
    Gives made (Ran asked text)
refused_reply asked text (Ok reply) r is outcome bytes =
    subst (λ (o : TraceOutcome). Ran asked text o reply.bytes) (sym outcome)
    (subst (Ran asked text (Refused r)) (sym bytes) (ran.refused r is))
refused_reply asked text (Err e) r is outcome bytes = tt

on_named : (asked : Asked) (text name : List ℕ) (o : TraceOutcome) (bytes : List ℕ) (c : Circuit) (cases : List (List CaseValue)) →
    IsNamed text name c cases → RanOn asked name c cases o bytes → Ran asked text o bytes
on_named asked text name o bytes c cases named on =
    ran.on_circuit c cases o bytes named.draws (subst (λ (n : List ℕ). RanOn asked n c cases o bytes) (sym named.is) on)

pub circuit_reply : (asked : Asked) (text name : List ℕ) (made : Made) (c : Circuit) (cases : List (List CaseValue)) →
    IsNamed text name c cases → Gives made (RanOn asked name c cases) → Gives made (Ran asked text)
circuit_reply asked text name (Ok reply) c cases named on = on_named asked text name reply.outcome reply.bytes c cases named on
circuit_reply asked text name (Err e) c cases named on = tt

pub case_reply : (asked : Asked) (name : List ℕ) (c : Circuit) (cases : List (List CaseValue)) (made : Made) (values : List CaseValue) →
    case_asked asked.case cases ≡ Some values → Gives made (RanIn asked name c values) → Gives made (RanOn asked name c cases)
case_reply asked name c cases (Ok reply) values found on = ran.in_case values reply.outcome reply.bytes found on
case_reply asked name c cases (Err e) values found on = tt

pub none_reply : (asked : Asked) (name : List ℕ) (c : Circuit) (cases : List (List CaseValue)) (made : Made) (values : List CaseValue) →
    asked.case ≡ None → values ≡ [] → Gives made (RanIn asked name c values) → Gives made (RanOn asked name c cases)
none_reply asked name c cases made values is empty on =
    case_reply asked name c cases made values
    (ap (λ (o : Option ℕ). case_asked o cases) is ∙ ap (λ (vs : List CaseValue). Some vs) (sym empty)) on

pub some_reply : (asked : Asked) (name : List ℕ) (c : Circuit) (cases : List (List CaseValue)) (made : Made) (k : ℕ) (values : List CaseValue) →
    asked.case ≡ Some k → slice_get cases (k - 1) ≡ Some values → Gives made (RanIn asked name c values) → Gives made (RanOn asked name c cases)
some_reply asked name c cases made k values is found on =
    case_reply asked name c cases made values (ap (λ (o : Option ℕ). case_asked o cases) is ∙ found) on

pub no_case_reply : (asked : Asked) (name : List ℕ) (c : Circuit) (cases : List (List CaseValue)) (k : ℕ) (o : TraceOutcome) (bytes : List ℕ) →
    asked.case ≡ Some k → length cases < k → o ≡ NoCase (length cases) → bytes ≡ [] → RanOn asked name c cases o bytes
no_case_reply asked name c cases k o bytes is past outcome silent =
    subst (λ (p : TraceOutcome). RanOn asked name c cases p bytes) (sym outcome)
    (subst (RanOn asked name c cases (NoCase (length cases))) (sym silent) (ran.no_case k is past))

pub big_reply : (asked : Asked) (name : List ℕ) (c : Circuit) (values : List CaseValue) (o : TraceOutcome) (bytes : List ℕ) →
    most_bits < length c.nets * asked.ticks → o ≡ TooBig → bytes ≡ [] → RanIn asked name c values o bytes
big_reply asked name c values o bytes more outcome silent =
    subst (λ (p : TraceOutcome). RanIn asked name c values p bytes) (sym outcome)
    (subst (RanIn asked name c values TooBig) (sym silent) (ran.too_big more))

pub done_reply : (asked : Asked) (name : List ℕ) (c : Circuit) (values : List CaseValue) (trace : Trace) (bytes : List ℕ) →
    length c.nets * asked.ticks ≤ most_bits → IsTraced c values asked.ticks asked.seed trace →
    bytes ≡ written asked.format name c trace → RanIn asked name c values Done bytes
done_reply asked name c values trace bytes few is text =
    subst (RanIn asked name c values Done) (sym text) (ran.done trace few is)

-- ---- cases

pub nothing_listed : (c : Circuit) → IsListed c []
nothing_listed c = record {
  exist = All-nil (λ (v : CaseValue). v.net < length c.nets);
  free = All-nil (λ (v : CaseValue). is_free (slice_get c.nets v.net) ≡ true);
  once = none;
}

pub listed_at : (c : Circuit) (cases : List (List CaseValue)) (j : ℕ) (values : List CaseValue) → All (IsListed c) cases →
    slice_get cases j ≡ Some values → IsListed c values
listed_at c cases j values listed found =
    subst (IsListed c) (get_or_from_slice_get cases j values values found) (listed j values (slice_get_within cases j values found))

none_past : (cases : List (List CaseValue)) (j : ℕ) → slice_get cases j ≡ None → length cases ≤ j
none_past [] j gone = omega arith
none_past (v ∷ vs) zero gone = absurd (cc)
none_past (v ∷ vs) (suc j) gone = let past = none_past vs j gone in omega (arith, past)

pub past_last : (cases : List (List CaseValue)) (case : Option ℕ) (k : ℕ) → case ≡ Some k → IfSome case (λ k. 1 ≤ k) →
    slice_get cases (k - 1) ≡ None → length cases < k
past_last cases None k is from gone = absurd (cc)
past_last cases (Some j) k is from gone =
    let same : j ≡ k = same_Some j k is in
    let past = none_past cases (k - 1) gone in omega (arith, same, past, from)
