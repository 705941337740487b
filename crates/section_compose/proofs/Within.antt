-- A broken rule is of a section that there is, and if it is one of nets of a place in their order.
use Rattle.std.proofs.Common.{◌≡◌, ℕ, suc, ◌+◌, ◌<◌, Bool, true, false, if◌then◌else◌, List, [], ◌∷◌, ◌++◌, length}
use Rattle.std.proofs.Common.{slice_get, refl, sym, ap, ◌∙◌, arith, true≢false, Option, Some, None}
use Rattle.scald_base.specs.Time.{Header}
use Rattle.flat_circuit.specs.declared.net.Net.{Net}
use Rattle.flat_circuit.specs.Circuit.{Circuit}
use Rattle.section_compose.specs.declared.rules.Broken.{Broken}
use Rattle.section_compose.specs.declared.rules.Rule.{Rule}
use Rattle.section_compose.specs.declared.rules.Rule.TheVariants.{Case, Clock}
use Rattle.section_compose.specs.declared.section.Section.{Section}
use Rattle.section_compose.specs.Broken.{IsOfSection}
use Rattle.section_compose.specs.Rule.{is_of_net}
use Rattle.section_compose.specs.Rules.{broken_by_header, broken_crossings, broken_globals, broken_headers, broken_nets, circuits, crossing_rule}
use Rattle.section_compose.specs.Rules.{first_broken, global_rule, header_break, header_rule, net_break, or_else, rule_at}
use Rattle.section_compose.specs.Same.{same_clocks}

of_later : (c : Circuit) (rest : List Circuit) (n : ℕ) (b : Broken) → IsOfSection rest (n + 1) b → IsOfSection (c ∷ rest) n b
of_later c rest n b found = record {
  place = suc found.place;
  circuit = found.circuit;
  is = found.is;
  section = let same = found.section in omega (arith, same);
  net = found.net;
}

-- ---- a rule of sections

not_of_net : (has same : Bool) (r : Rule) → (if has then Some Case else (if same then None else Some Clock)) ≡ Some r → is_of_net r ≡ false
not_of_net true same r e = let is : Case ≡ r = cc in sym (ap is_of_net is)
not_of_net false true r e = absurd (cc)
not_of_net false false r e = let is : Clock ≡ r = cc in sym (ap is_of_net is)

header_within : (found : Option Rule) (c : Circuit) (rest : List Circuit) (n : ℕ) (later : Option Broken) (b : Broken) →
    ((r : Rule) → found ≡ Some r → is_of_net r ≡ false) → header_break found n later ≡ Some b → (later ≡ Some b → IsOfSection rest (n + 1) b) →
    IsOfSection (c ∷ rest) n b
header_within None c rest n later b kind e more = of_later c rest n b (more e)
header_within (Some r) c rest n later b kind e more =
    let is : record { rule = r; section = n; net = 0 } ≡ b = cc in
    record {
      place = 0;
      circuit = c;
      is = refl;
      section = let same : n ≡ b.section = ap (λ (x : Broken). x.section) is in omega (arith, same);
      net = λ of_net. absurd (true≢false (sym of_net ∙ sym (ap (λ (x : Broken). is_of_net x.rule) is) ∙ kind r refl));
    }

headers_within : (first : Header) (n : ℕ) (sections : List Section) (b : Broken) → broken_headers first n sections ≡ Some b →
    IsOfSection (circuits sections) n b
headers_within first n [] b e = absurd (cc)
headers_within first n (s ∷ rest) b e =
    header_within (header_rule first s) s.circuit (circuits rest) n (broken_headers first (n + 1) rest) b
    (not_of_net s.has_case (same_clocks first s.circuit.header)) e (headers_within first (n + 1) rest b)

by_header_within : (sections : List Section) (b : Broken) → broken_by_header sections ≡ Some b → IsOfSection (circuits sections) 1 b
by_header_within [] b e = absurd (cc)
by_header_within (s ∷ rest) b e = headers_within s.circuit.header 1 (s ∷ rest) b e

-- ---- a rule of nets

net_within : (r : Option Rule) (n place more : ℕ) (later : Option Broken) (b : Broken) → net_break r n place later ≡ Some b →
    (later ≡ Some b → (b.section ≡ n) × (b.net < place + 1 + more)) → (b.section ≡ n) × (b.net < place + suc more)
net_within None n place more later b e found = let f = found e in let low = f.1 in (f.0, omega (arith, low))
net_within (Some x) n place more later b e found =
    let is : record { rule = x; section = n; net = place } ≡ b = cc in
    let net : place ≡ b.net = ap (λ (y : Broken). y.net) is in
    (sym (ap (λ (y : Broken). y.section) is), omega (arith, net))

nets_within : (rule : Net → Option Rule) (c : Circuit) (n place : ℕ) (order : List ℕ) (b : Broken) → broken_nets rule c n place order ≡ Some b →
    (b.section ≡ n) × (b.net < place + length order)
nets_within rule c n place [] b e = absurd (cc)
nets_within rule c n place (i ∷ rest) b e =
    net_within (rule_at rule (slice_get c.nets i)) n place (length rest) (broken_nets rule c n (place + 1) rest) b e
    (nets_within rule c n (place + 1) rest b)

of_first : (c : Circuit) (rest : List Circuit) (n : ℕ) (b : Broken) → (b.section ≡ n) × (b.net < 0 + length c.order) → IsOfSection (c ∷ rest) n b
of_first c rest n b found = record {
  place = 0;
  circuit = c;
  is = refl;
  section = let same = found.0 in omega (arith, same);
  net = λ of_net. let low = found.1 in omega (arith, low);
}

or_within : (c : Circuit) (rest : List Circuit) (n : ℕ) (first later : Option Broken) (b : Broken) → or_else first later ≡ Some b →
    (first ≡ Some b → (b.section ≡ n) × (b.net < 0 + length c.order)) → (later ≡ Some b → IsOfSection rest (n + 1) b) → IsOfSection (c ∷ rest) n b
or_within c rest n None later b e here more = of_later c rest n b (more e)
or_within c rest n (Some x) later b e here more = of_first c rest n b (here e)

globals_within : (before : List Circuit) (n : ℕ) (sections : List Circuit) (b : Broken) → broken_globals before n sections ≡ Some b →
    IsOfSection sections n b
globals_within before n [] b e = absurd (cc)
globals_within before n (c ∷ rest) b e =
    or_within c rest n (broken_nets (global_rule before) c n 0 c.order) (broken_globals (before ++ c ∷ []) (n + 1) rest) b e
    (nets_within (global_rule before) c n 0 c.order b) (globals_within (before ++ c ∷ []) (n + 1) rest b)

crossings_within : (whole : List Circuit) (n : ℕ) (sections : List Circuit) (b : Broken) → broken_crossings whole n sections ≡ Some b →
    IsOfSection sections n b
crossings_within whole n [] b e = absurd (cc)
crossings_within whole n (c ∷ rest) b e =
    or_within c rest n (broken_nets (crossing_rule whole c) c n 0 c.order) (broken_crossings whole (n + 1) rest) b e
    (nets_within (crossing_rule whole c) c n 0 c.order b) (crossings_within whole (n + 1) rest b)

-- ---- the first of all

either : {P : Type 0} (first later : Option Broken) (b : Broken) → or_else first later ≡ Some b → (first ≡ Some b → P) → (later ≡ Some b → P) → P
either None later b e here more = more e
either (Some x) later b e here more = here e

pub first_within : (sections : List Section) (b : Broken) → first_broken sections ≡ Some b → IsOfSection (circuits sections) 1 b
first_within sections b e =
    let whole = circuits sections in
    either (broken_by_header sections) (or_else (broken_globals [] 1 whole) (broken_crossings whole 1 whole)) b e
    (by_header_within sections b)
    (λ nets. either (broken_globals [] 1 whole) (broken_crossings whole 1 whole) b nets
    (globals_within [] 1 whole b) (crossings_within whole 1 whole b))
