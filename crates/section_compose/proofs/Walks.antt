-- The first rule that is broken, looked for one section and one net after the other.
use Rattle.std.proofs.Common.{◌≡◌, ℕ, suc, ◌+◌, ◌<◌, ◌≤◌, List, [], ◌∷◌, ◌++◌, length, get_or, drop, take, sym, ap, ◌∙◌, arith}
use Rattle.std.specs.Prelude.{Option, Some, None, slice_get}
use Rattle.std.proofs.lemmas.List.{drop_all, map_push, take_more}
use Rattle.std.proofs.Math.Seq.{drop-cons}
use Rattle.scald_base.specs.Time.{Header}
use Rattle.flat_circuit.specs.declared.net.Net.{Net}
use Rattle.flat_circuit.specs.Circuit.{Circuit}
use Rattle.flat_circuit.specs.Name.{net_at}
use Rattle.section_compose.specs.declared.rules.Broken.{Broken}
use Rattle.section_compose.specs.declared.rules.Rule.{Rule}
use Rattle.section_compose.specs.declared.section.Section.{Section}
use Rattle.section_compose.specs.Rules.{broken_crossings, broken_globals, broken_headers, broken_nets, circuits}
use Rattle.section_compose.specs.Rules.{crossing_rule, global_rule, header_break, header_rule, net_break, or_else, rule_at}
use Rattle.section_compose.proofs.Lists.{drop_item}

-- ---- nets in their order

place_next : (order : List ℕ) (place : ℕ) → place < length order → drop place order ≡ net_at order place ∷ drop (place + 1) order
place_next order place below =
    drop-cons order place 0 below
    ∙ ap (λ (n : ℕ). net_at order place ∷ drop n order) (let e : suc place ≡ place + 1 = omega arith in e)

module _ (rule : Net → Option Rule) (c : Circuit) (n place : ℕ) where
  net_next : place < length c.order → broken_nets rule c n place (drop place c.order)
      ≡ net_break (rule_at rule (slice_get c.nets (net_at c.order place))) n place (broken_nets rule c n (place + 1) (drop (place + 1) c.order))
  net_next below = ap (broken_nets rule c n place) (place_next c.order place below)

  pub net_goes_on : place < length c.order → rule_at rule (slice_get c.nets (net_at c.order place)) ≡ None →
      broken_nets rule c n place (drop place c.order) ≡ broken_nets rule c n (place + 1) (drop (place + 1) c.order)
  net_goes_on below none =
      net_next below ∙ ap (λ (r : Option Rule). net_break r n place (broken_nets rule c n (place + 1) (drop (place + 1) c.order))) none

  pub net_stops : (r : Rule) → place < length c.order → rule_at rule (slice_get c.nets (net_at c.order place)) ≡ Some r →
      broken_nets rule c n place (drop place c.order) ≡ Some (record { rule = r; section = n; net = place })
  net_stops r below some =
      net_next below ∙ ap (λ (o : Option Rule). net_break o n place (broken_nets rule c n (place + 1) (drop (place + 1) c.order))) some

  pub nets_end : length c.order ≤ place → broken_nets rule c n place (drop place c.order) ≡ None
  nets_end past = ap (broken_nets rule c n place) (drop_all place c.order past)

-- ---- sections in theirs

module _ (first : Header) (sections : List Section) (s : ℕ) where
  module _ (x : Section) (below : s < length sections) (is : x ≡ get_or sections s x) where
    header_next : broken_headers first (s + 1) (drop s sections)
        ≡ header_break (header_rule first x) (s + 1) (broken_headers first (s + 1 + 1) (drop (s + 1) sections))
    header_next = ap (broken_headers first (s + 1)) (drop_item sections s x below is)

    pub header_goes_on : header_rule first x ≡ None →
        broken_headers first (s + 1) (drop s sections) ≡ broken_headers first (s + 1 + 1) (drop (s + 1) sections)
    header_goes_on none =
        header_next ∙ ap (λ (r : Option Rule). header_break r (s + 1) (broken_headers first (s + 1 + 1) (drop (s + 1) sections))) none

    pub header_stops : (r : Rule) → header_rule first x ≡ Some r →
        broken_headers first (s + 1) (drop s sections) ≡ Some (record { rule = r; section = s + 1; net = 0 })
    header_stops r some =
        header_next ∙ ap (λ (o : Option Rule). header_break o (s + 1) (broken_headers first (s + 1 + 1) (drop (s + 1) sections))) some

  pub headers_end : length sections ≤ s → broken_headers first (s + 1) (drop s sections) ≡ None
  headers_end past = ap (broken_headers first (s + 1)) (drop_all s sections past)

module _ (sections : List Section) (s : ℕ) where
  -- what is looked at after so many sections
  abbrev pub globals_from : Option Broken
  globals_from = broken_globals (circuits (take s sections)) (s + 1) (circuits (drop s sections))

  abbrev pub crossings_from : Option Broken
  crossings_from = broken_crossings (circuits sections) (s + 1) (circuits (drop s sections))

module _ (sections : List Section) (s : ℕ) (x : Section) (below : s < length sections) (is : x ≡ get_or sections s x) where
  rest_next : circuits (drop s sections) ≡ x.circuit ∷ circuits (drop (s + 1) sections)
  rest_next = ap circuits (drop_item sections s x below is)

  before_next : circuits (take s sections) ++ x.circuit ∷ [] ≡ circuits (take (s + 1) sections)
  before_next =
      sym (map_push (λ (y : Section). y.circuit) (take s sections) x)
      ∙ ap circuits (ap (λ (y : Section). take s sections ++ y ∷ []) is ∙ sym (take_more sections s x below))

  globals_next : globals_from sections s
      ≡ or_else (broken_nets (global_rule (circuits (take s sections))) x.circuit (s + 1) 0 x.circuit.order) (globals_from sections (s + 1))
  globals_next =
      ap (broken_globals (circuits (take s sections)) (s + 1)) rest_next
      ∙ ap (λ (before : List Circuit).
      or_else (broken_nets (global_rule (circuits (take s sections))) x.circuit (s + 1) 0 x.circuit.order)
      (broken_globals before (s + 1 + 1) (circuits (drop (s + 1) sections)))) before_next

  pub globals_go_on : broken_nets (global_rule (circuits (take s sections))) x.circuit (s + 1) 0 x.circuit.order ≡ None →
      globals_from sections s ≡ globals_from sections (s + 1)
  globals_go_on none = globals_next ∙ ap (λ (b : Option Broken). or_else b (globals_from sections (s + 1))) none

  pub globals_stop : (b : Broken) → broken_nets (global_rule (circuits (take s sections))) x.circuit (s + 1) 0 x.circuit.order ≡ Some b →
      globals_from sections s ≡ Some b
  globals_stop b some = globals_next ∙ ap (λ (o : Option Broken). or_else o (globals_from sections (s + 1))) some

  crossings_next : crossings_from sections s
      ≡ or_else (broken_nets (crossing_rule (circuits sections) x.circuit) x.circuit (s + 1) 0 x.circuit.order) (crossings_from sections (s + 1))
  crossings_next = ap (broken_crossings (circuits sections) (s + 1)) rest_next

  pub crossings_go_on : broken_nets (crossing_rule (circuits sections) x.circuit) x.circuit (s + 1) 0 x.circuit.order ≡ None →
      crossings_from sections s ≡ crossings_from sections (s + 1)
  crossings_go_on none = crossings_next ∙ ap (λ (b : Option Broken). or_else b (crossings_from sections (s + 1))) none

  pub crossings_stop : (b : Broken) → broken_nets (crossing_rule (circuits sections) x.circuit) x.circuit (s + 1) 0 x.circuit.order ≡ Some b →
      crossings_from sections s ≡ Some b
  crossings_stop b some = crossings_next ∙ ap (λ (o : Option Broken). or_else o (crossings_from sections (s + 1))) some

module _ (sections : List Section) (s : ℕ) (past : length sections ≤ s) where
  pub globals_end : globals_from sections s ≡ None
  globals_end = ap (λ (rest : List Section). broken_globals (circuits (take s sections)) (s + 1) (circuits rest)) (drop_all s sections past)

  pub crossings_end : crossings_from sections s ≡ None
  crossings_end = ap (λ (rest : List Section). broken_crossings (circuits sections) (s + 1) (circuits rest)) (drop_all s sections past)
