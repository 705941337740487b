-- The nets of one class begin with one wave, if the nets that come from elsewhere are a case by which
-- the classes are stable.
use Rattle.std.proofs.Common.{◌≡◌, ℕ, Bool, true, false, List, [], ◌∷◌, sym, ap, ◌∙◌, slice_get, Option, Some, is_some}
use Rattle.std.proofs.lemmas.List.Elements.{All-head}
use Rattle.scald_base.specs.Time.{Header}
use Rattle.step_values.specs.declared.value.Value.{Value}
use Rattle.skew_algebra.specs.Wave.{Wave}
use Rattle.flat_circuit.specs.declared.case.CaseValue.{CaseValue}
use Rattle.flat_circuit.specs.declared.net.Net.{Net}
use Rattle.flat_circuit.specs.Circuit.{Circuit, IsCircuit}
use Rattle.flat_circuit.specs.Alike.{value_in}
use Rattle.flat_circuit.specs.Stable.{IsStable}
use Rattle.fixpoint_engine.specs.Classes.{HaveOneWave}
use Rattle.fixpoint_engine.specs.Start.{base_start}
use Rattle.fixpoint_engine.proofs.Classes.{net_of}
use Rattle.case_analysis.specs.Case.{is_set}
use Rattle.case_analysis.proofs.Together.{set_is, start_together}
use Rattle.section_compose.specs.Evaluated.{start_with, wave_across, wave_in}

-- what comes in has its wave by what it asserts alone
same_in : (h : Header) (b : Bool) (m n : Net) (v w : Wave Value) → m.spec ≡ n.spec → v ≡ w →
    wave_in h b (Some m) v ≡ wave_in h b (Some n) w
same_in h true m n v w spec alone = ap (wave_across h) spec
same_in h false m n v w spec alone = alone

pub start_alike : (c : Circuit) (case : List CaseValue) (ks : List ℕ) → IsCircuit c → IsStable c (case ∷ []) ks →
    HaveOneWave c ks (start_with c (is_set case))
start_alike c case ks known stable i j below below' same =
    let m = net_of c i below in
    let n = net_of c j below' in
    let alike = stable i j same m.0 n.0 m.1 n.1 in
    let set : is_set case i ≡ is_set case j =
    sym (set_is case i) ∙ ap is_some (All-head (λ (vs : List CaseValue). value_in vs i ≡ value_in vs j) case [] alike.values) ∙ set_is case j in
    ap (λ (o : Option Net). wave_in c.header (is_set case i) o (base_start c i)) m.1
    ∙ same_in c.header (is_set case i) m.0 n.0 (base_start c i) (base_start c j) alike.spec
    (start_together c (case ∷ []) ks known stable i j below below' same)
    ∙ sym (ap (λ (o : Option Net). wave_in c.header (is_set case i) o (base_start c j)) n.1)
    ∙ ap (λ (b : Bool). wave_in c.header b (slice_get c.nets j) (base_start c j)) set
