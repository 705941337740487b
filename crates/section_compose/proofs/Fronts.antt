-- A report while it is made, section by section.
use Rattle.std.proofs.Common.{◌≡◌, ℕ, zero, suc, ◌+◌, ◌*◌, ◌<◌, ◌≤◌, max, List, [], ◌∷◌, ◌++◌, length, get_or}
use Rattle.std.proofs.Common.{take, refl, sym, ap, subst, ◌∙◌, arith, slice_get, Some, None}
use Rattle.std.specs.Prelude.{option_map}
use Rattle.std.proofs.lemmas.List.{append-nil, append_assoc, length-map, length-take, map_push, take_all, take_more}
use Rattle.std.proofs.lemmas.Option.{slice_get-map, slice_get_read}
use Rattle.flat_circuit.specs.Circuit.{Circuit}
use Rattle.fixpoint_engine.specs.Start.{default_limit}
use Rattle.listing.specs.Answer.{unsettled_line}
use Rattle.listing.specs.End.{last_line}
use Rattle.section_compose.specs.declared.section.Section.{Section}
use Rattle.section_compose.specs.Rules.{circuits, first_broken}
use Rattle.section_compose.specs.declared.outcome.SectionsOutcome.{SectionsOutcome}
use Rattle.section_compose.specs.declared.outcome.SectionsOutcome.TheVariants.{Unsettled}
use Rattle.section_compose.specs.Answer as answer
use Rattle.section_compose.specs.Answer.{Concluded}
use Rattle.section_compose.specs.Evaluated.{AllSettled, IsSettled, NeverSettles, Settling, StopsAt, all_faults, faults_in, greatest_tick, tick_of}
use Rattle.section_compose.specs.Lines.{all_lines, report, section_line, section_lines, sections_line, unsettled_lines}
use Rattle.section_compose.specs.Outcome.{verdict_of}
use Rattle.section_compose.proofs.Read.{get_taken}

-- The sections so far have settled, and so has one more.
pub settled_more : (whole sections : List Circuit) (settlings : List Settling) (c : Circuit) (settling : Settling) → AllSettled whole sections settlings →
    IsSettled whole c settling → AllSettled whole (sections ++ c ∷ []) (settlings ++ settling ∷ [])
settled_more whole [] [] c settling settled at = (at, tt)
settled_more whole [] (r ∷ settlings) c settling settled at = absurd settled
settled_more whole (d ∷ sections) [] c settling settled at = absurd settled
settled_more whole (d ∷ sections) (r ∷ settlings) c settling settled at = (settled.0, settled_more whole sections settlings c settling settled.1 at)

-- as many as there are sections
pub settled_long : (whole sections : List Circuit) (settlings : List Settling) → AllSettled whole sections settlings → length settlings ≡ length sections
settled_long whole [] [] settled = refl
settled_long whole [] (r ∷ settlings) settled = absurd settled
settled_long whole (d ∷ sections) [] settled = absurd settled
settled_long whole (d ∷ sections) (r ∷ settlings) settled = ap suc (settled_long whole sections settlings settled.1)

pub lines_more : (first : ℕ) (sections : List Section) (settlings : List Settling) (s : Section) (settling : Settling) → length settlings ≡ length sections →
    all_lines first (sections ++ s ∷ []) (settlings ++ settling ∷ []) ≡ all_lines first sections settlings ++ section_lines (first + length sections) s settling
lines_more first [] [] s settling long =
    append-nil (section_lines first s settling) ∙ ap (λ (n : ℕ). section_lines n s settling) (let e : first ≡ first + 0 = omega arith in e)
lines_more first [] (r ∷ settlings) s settling long = absurd (omega (arith, long))
lines_more first (d ∷ sections) [] s settling long = absurd (omega (arith, long))
lines_more first (d ∷ sections) (r ∷ settlings) s settling long =
    ap (λ (xs : List ℕ). section_lines first d r ++ xs) (lines_more (first + 1) sections settlings s settling (omega (arith, long)))
    ∙ sym (append_assoc (section_lines first d r) (all_lines (first + 1) sections settlings) (section_lines (first + 1 + length sections) s settling))
    ∙ ap (λ (n : ℕ). section_lines first d r ++ all_lines (first + 1) sections settlings ++ section_lines n s settling)
    (let e : first + 1 + length sections ≡ first + suc (length sections) = omega arith in e)

pub tick_more : (sections : List Circuit) (settlings : List Settling) (c : Circuit) (settling : Settling) → length settlings ≡ length sections →
    greatest_tick (sections ++ c ∷ []) (settlings ++ settling ∷ []) ≡ max (greatest_tick sections settlings) (tick_of c settling)
tick_more [] [] c settling long = omega arith
tick_more [] (r ∷ settlings) c settling long = absurd (omega (arith, long))
tick_more (d ∷ sections) [] c settling long = absurd (omega (arith, long))
tick_more (d ∷ sections) (r ∷ settlings) c settling long = let later = tick_more sections settlings c settling (omega (arith, long)) in omega (arith, later)

pub faults_more : (sections : List Circuit) (settlings : List Settling) (c : Circuit) (settling : Settling) → length settlings ≡ length sections →
    all_faults (sections ++ c ∷ []) (settlings ++ settling ∷ []) ≡ all_faults sections settlings + length (faults_in c settling)
faults_more [] [] c settling long = omega arith
faults_more [] (r ∷ settlings) c settling long = absurd (omega (arith, long))
faults_more (d ∷ sections) [] c settling long = absurd (omega (arith, long))
faults_more (d ∷ sections) (r ∷ settlings) c settling long = let later = faults_more sections settlings c settling (omega (arith, long)) in omega (arith, later)

-- three parts added one after the other
pub lines_joined : (old one two three a b c : List ℕ) → one ≡ old ++ a → two ≡ one ++ b → three ≡ two ++ c → three ≡ old ++ (a ++ (b ++ c))
lines_joined old one two three a b c first second third =
    third
    ∙ ap (λ (xs : List ℕ). xs ++ c) (second ∙ ap (λ (xs : List ℕ). xs ++ b) first)
    ∙ append_assoc (old ++ a) b c ∙ append_assoc old a (b ++ c)

-- ---- what code has of it

-- the first so many sections have settled, and these are their lines, the greatest of their ticks, and how
-- many faults they have
pub record IsFront (sections : List Section) (s : ℕ) (bytes : List ℕ) (tick total : ℕ) : Type 0 where
  pub settlings : List Settling
  pub settled : AllSettled (circuits sections) (circuits (take s sections)) settlings
  pub lines : bytes ≡ all_lines 1 (take s sections) settlings
  pub latest : tick ≡ greatest_tick (circuits (take s sections)) settlings
  pub counted : total ≡ all_faults (circuits (take s sections)) settlings
  pub few : total ≤ 458752 * s

pub front_none : (sections : List Section) (bytes : List ℕ) (tick total : ℕ) → bytes ≡ [] → tick ≡ 0 → total ≡ 0 → IsFront sections 0 bytes tick total
front_none sections bytes tick total none first zero_faults = record {
  settlings = [];
  settled = tt;
  lines = none;
  latest = first;
  counted = zero_faults;
  few = omega (arith, zero_faults);
}

circuits_long : (sections : List Section) → length (circuits sections) ≡ length sections
circuits_long sections = length-map sections (λ (s : Section). s.circuit)

module _ (sections : List Section) (s : ℕ) (bytes : List ℕ) (tick total : ℕ) (so_far : IsFront sections s bytes tick total)
    (x : Section) (below : s < length sections) (is : x ≡ get_or sections s x) where
  next : take (s + 1) sections ≡ take s sections ++ x ∷ []
  next = take_more sections s x below ∙ ap (λ (y : Section). take s sections ++ y ∷ []) (sym is)

  next_circuits : circuits (take (s + 1) sections) ≡ circuits (take s sections) ++ x.circuit ∷ []
  next_circuits = ap circuits next ∙ map_push (λ (y : Section). y.circuit) (take s sections) x

  settlings_long : length so_far.settlings ≡ length (circuits (take s sections))
  settlings_long = settled_long (circuits sections) (circuits (take s sections)) so_far.settlings so_far.settled

  settlings_many : length so_far.settlings ≡ length (take s sections)
  settlings_many = settlings_long ∙ circuits_long (take s sections)

  taken : length (take s sections) ≡ s
  taken = let long = length-take s sections in omega (arith, long, below)

  pub front_more : (settling : Settling) (bytes' : List ℕ) (tick' total' number : ℕ) → IsSettled (circuits sections) x.circuit settling →
      number ≡ s + 1 → bytes' ≡ bytes ++ section_lines number x settling →
      tick' ≡ max tick (tick_of x.circuit settling) → total' ≡ total + length (faults_in x.circuit settling) → length (faults_in x.circuit settling) ≤ 458752 →
      IsFront sections (s + 1) bytes' tick' total'
  front_more settling bytes' tick' total' number at numbered bytes_are later more small = record {
    settlings = so_far.settlings ++ settling ∷ [];
    settled =
        subst (λ (cs : List Circuit). AllSettled (circuits sections) cs (so_far.settlings ++ settling ∷ [])) (sym next_circuits)
        (settled_more (circuits sections) (circuits (take s sections)) so_far.settlings x.circuit settling so_far.settled at);
    lines =
        bytes_are
        ∙ (λ k. so_far.lines k ++ section_lines ((numbered ∙ (let e : s + 1 ≡ 1 + length (take s sections) = omega (arith, taken) in e)) k) x settling)
        ∙ sym (lines_more 1 (take s sections) so_far.settlings x settling settlings_many)
        ∙ ap (λ (xs : List Section). all_lines 1 xs (so_far.settlings ++ settling ∷ [])) (sym next);
    latest =
        later
        ∙ ap (λ (n : ℕ). max n (tick_of x.circuit settling)) so_far.latest
        ∙ sym (tick_more (circuits (take s sections)) so_far.settlings x.circuit settling settlings_long)
        ∙ ap (λ (cs : List Circuit). greatest_tick cs (so_far.settlings ++ settling ∷ [])) (sym next_circuits);
    counted =
        more
        ∙ ap (λ (n : ℕ). n + length (faults_in x.circuit settling)) so_far.counted
        ∙ sym (faults_more (circuits (take s sections)) so_far.settlings x.circuit settling settlings_long)
        ∙ ap (λ (cs : List Circuit). all_faults cs (so_far.settlings ++ settling ∷ [])) (sym next_circuits);
    few = let before = so_far.few in omega (arith, more, small, before);
  }

pub settled_at : (whole sections : List Circuit) (settlings : List Settling) → AllSettled whole sections settlings → (k : ℕ) (c : Circuit) → slice_get sections k ≡ Some c →
    (settling : Settling) × IsSettled whole c settling
settled_at whole [] settlings settled k c is = absurd (cc)
settled_at whole (d ∷ sections) [] settled k c is = absurd settled
settled_at whole (d ∷ sections) (r ∷ settlings) settled zero c is = let same : d ≡ c = cc in (r, subst (λ (e : Circuit). IsSettled whole e r) same settled.0)
settled_at whole (d ∷ sections) (r ∷ settlings) settled (suc k) c is = settled_at whole sections settlings settled.1 k c is

-- the next one never settles
pub front_stops : (sections : List Section) (s : ℕ) (bytes : List ℕ) (tick total : ℕ) → IsFront sections s bytes tick total →
    (x : Section) → s < length sections → x ≡ get_or sections s x →
    (place : ℕ) → NeverSettles (circuits sections) x.circuit place → (stops : StopsAt (circuits sections) s place) × (stops.circuit ≡ x.circuit)
front_stops sections s bytes tick total so_far x below is place never = (
  record {
    circuit = x.circuit;
    circuit_is = slice_get-map (λ (y : Section). y.circuit) sections s ∙ ap (option_map (λ (y : Section). y.circuit)) (slice_get_read sections (length sections) s x refl below is);
    before = λ k c sooner at. settled_at (circuits sections) (circuits (take s sections)) so_far.settlings so_far.settled k c (front_get k c sooner at);
    never = never;
  },
  refl,
)
  where
    front_get : (k : ℕ) (c : Circuit) → k < s → slice_get (circuits sections) k ≡ Some c → slice_get (circuits (take s sections)) k ≡ Some c
    front_get k c sooner at =
        slice_get-map (λ (y : Section). y.circuit) (take s sections) k
        ∙ ap (option_map (λ (y : Section). y.circuit)) (get_taken sections s k sooner)
        ∙ sym (slice_get-map (λ (y : Section). y.circuit) sections k) ∙ at

-- all have settled: the report
pub front_whole : (sections : List Section) (s : ℕ) (bytes : List ℕ) (tick total : ℕ) → IsFront sections s bytes tick total → length sections ≤ s → first_broken sections ≡ None →
    (o : SectionsOutcome) (out : List ℕ) → o ≡ verdict_of total → out ≡ bytes ++ (sections_line (length sections) tick ++ last_line total) → Concluded sections o out
front_whole sections s bytes tick total so_far past kept o out is bytes_are =
    subst (λ (o : SectionsOutcome). Concluded sections o out) (sym (is ∙ ap verdict_of count))
    (subst (Concluded sections (verdict_of (all_faults (circuits sections) so_far.settlings))) (sym text)
    (answer.settled so_far.settlings kept (subst (λ (xs : List Section). AllSettled (circuits sections) (circuits xs) so_far.settlings) whole so_far.settled)))
  where
    whole : take s sections ≡ sections
    whole = take_all s sections past

    count : total ≡ all_faults (circuits sections) so_far.settlings
    count = so_far.counted ∙ ap (λ (xs : List Section). all_faults (circuits xs) so_far.settlings) whole

    latest : tick ≡ greatest_tick (circuits sections) so_far.settlings
    latest = so_far.latest ∙ ap (λ (xs : List Section). greatest_tick (circuits xs) so_far.settlings) whole

    lines : bytes ≡ all_lines 1 sections so_far.settlings
    lines = so_far.lines ∙ ap (λ (xs : List Section). all_lines 1 xs so_far.settlings) whole

    text : out ≡ report sections so_far.settlings
    text = bytes_are ∙ (λ k. lines k ++ (sections_line (length sections) (latest k) ++ last_line (count k)))

pub stops_so : (sections : List Section) (s place round section : ℕ) (c : Circuit) → first_broken sections ≡ None →
    ((stops : StopsAt (circuits sections) s place) × (stops.circuit ≡ c)) → section ≡ s + 1 → round ≡ default_limit c →
    (o : SectionsOutcome) (out : List ℕ) → o ≡ Unsettled section place round → out ≡ section_line section ++ unsettled_line c place round → Concluded sections o out
stops_so sections s place round section c kept stops numbered limit o out is bytes_are =
    subst (λ (o : SectionsOutcome). Concluded sections o out) (sym (is ∙ (λ k. Unsettled (numbered k) place (round_is k))))
    (subst (Concluded sections (Unsettled (s + 1) place (default_limit stops.0.circuit))) (sym text) (answer.unsettled s place kept stops.0))
  where
    round_is : round ≡ default_limit stops.0.circuit
    round_is = limit ∙ ap default_limit (sym stops.1)

    text : out ≡ unsettled_lines (s + 1) stops.0.circuit place
    text = bytes_are ∙ (λ k. section_line (numbered k) ++ unsettled_line (sym stops.1 k) place (round_is k))
