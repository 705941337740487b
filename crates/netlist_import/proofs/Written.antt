-- The text of statements and macros, and what is written of cells from one place on.
use Rattle.std.proofs.Common.{◌≡◌, ℕ, zero, suc, ◌+◌, ◌<◌, List, [], ◌∷◌, ◌++◌, length, map, drop, slice_get, get_or, codes, refl, sym, ap, ◌∙◌, arith, Option, Some, None, option_map}
use Rattle.std.specs.Borrow.{Bor}
use Rattle.std.specs.Slice.{IsItemAt}
use Rattle.std.proofs.lemmas.Option.{slice_get_past, slice_get_read}
use Rattle.std.proofs.lemmas.List.{append_assoc, append-nil}
use Rattle.drawing_tree.specs.Tree as tree
use Rattle.drawing_tree.specs.Canonical.{body_lines, bracketed, bracketed_if_some, connection_text, formal_text, inputs_text, line, macro_head, macro_lines, outputs_text, statement_lines, statements_lines, use_head, use_text}
use Rattle.netlist_import.specs.declared.netlist.Cell.{Cell}
use Rattle.netlist_import.specs.declared.netlist.Module.{Module}
use Rattle.netlist_import.specs.Nets.{numbered_from, own_nets}
use Rattle.netlist_import.specs.declared.nets.Nets.{Nets}
use Rattle.drawing_tree.specs.ExpressionText.{condition_text, sum_text}
use Rattle.std.proofs.lemmas.Fmt.{decimal_digit}
use Rattle.netlist_import.specs.Body.{Written, number, all_outlets, and_then, body, buffer, buffer_labels, buffers, cell_labels, cell_use, cell_written, cells_written, connected, connection_of, formals_named, listed, macro_of, of_way, plain_macro, use_of}
use Rattle.netlist_import.specs.Fresh.{names_after}
use Rattle.netlist_import.specs.declared.nets.Net.{Net}
use Rattle.netlist_import.specs.declared.nets.Wired.TheVariants as wired
use Rattle.netlist_import.specs.declared.outlets.Outlet.{Outlet}
use Rattle.netlist_import.specs.Design.{macros_text}
use Rattle.netlist_import.specs.declared.shapes.Formal.{Formal}
use Rattle.netlist_import.specs.declared.shapes.Shape.{Shape}
use Rattle.netlist_import.specs.declared.netlist.Direction.TheVariants.{Input, Output}

-- ---- lists from a place on

pub drop_get : {A : Type 0} (xs : List A) (i : ℕ) (x : A) → slice_get xs i ≡ Some x → drop i xs ≡ x
    ∷ drop (i + 1) xs
drop_get [] i x e = absurd (cc)
drop_get {A} (y ∷ ys) zero x e = let same : y ≡ x = cc in ap (λ (z : A). z ∷ ys) same
drop_get (y ∷ ys) (suc i) x e =
    let same : suc (i + 1) ≡ suc i + 1 = omega arith in
    drop_get ys i x e ∙ ap (λ (k : ℕ). x ∷ drop k (y ∷ ys)) same

pub drop_none : {A : Type 0} (xs : List A) (i : ℕ) → slice_get xs i ≡ None → drop i xs ≡ []
drop_none [] zero e = refl
drop_none [] (suc i) e = refl
drop_none (y ∷ ys) zero e = absurd (cc)
drop_none (y ∷ ys) (suc i) e = drop_none ys i e

-- ---- texts

pub lines_both : (margin : List ℕ) (ss ts : List tree.Statement) →
    statements_lines margin (listed (ss ++ ts)) ≡ statements_lines margin (listed ss)
    ++ statements_lines margin (listed ts)
unfolding statements_lines listed
lines_both margin [] ts = refl
lines_both margin (s ∷ ss) ts =
    ap (λ (text : List ℕ). statement_lines margin s ++ text) (lines_both margin ss ts)
    ∙ sym (append_assoc (statement_lines margin s) (statements_lines margin (listed ss))
    (statements_lines margin (listed ts)))

pub macros_both : (ms ns : List tree.Macro) → macros_text (ms ++ ns) ≡ macros_text ms
    ++ macros_text ns
macros_both [] ns = refl
macros_both (m ∷ ms) ns =
    ap (λ (text : List ℕ). macro_lines m ++ text) (macros_both ms ns)
    ∙ sym (append_assoc (macro_lines m) (macros_text ms) (macros_text ns))

-- a number in a delay or a range
pub zero_text : sum_text (number 0) ≡ codes "0"
unfolding condition_text
zero_text = decimal_digit 0 (omega arith)

-- the use that a cell is
cell_plain : (out label kind read led : List ℕ) →
    out ++ codes "  " ++ label ++ codes " : " ++ kind ++ read ++ led ++ codes ";\n"
    ≡ out ++ ((codes "  " ++ (label ++ codes " : " ++ kind ++ [] ++ [] ++ read ++ led ++ codes ";")
    ++ 10 ∷ []) ++ [])
cell_plain out label kind read led =
    let more = append_assoc read (led ++ codes ";") (10 ∷ [])
    ∙ ap (λ (t : List ℕ). read ++ t) (append_assoc led (codes ";") (10 ∷ [])) in
    let line_end : (kind ++ (read ++ (led ++ codes ";"))) ++ 10 ∷ []
    ≡ kind ++ (read ++ (led ++ codes ";\n")) =
    append_assoc kind (read ++ (led ++ codes ";")) (10 ∷ []) ∙ ap (λ (t : List ℕ). kind ++ t) more
    in
    simp (append_assoc, append-nil)
    (ap (λ (t : List ℕ). out ++ (codes "  " ++ (label ++ (codes " : " ++ t)))) (sym line_end))

pub cell_text : (label kind : List ℕ) (ins outs : List tree.Connection)
    (out head with_ins with_outs end : List ℕ) →
    head ≡ out ++ codes "  " ++ label ++ codes " : " ++ kind →
    with_ins ≡ head ++ inputs_text connection_text ins →
    with_outs ≡ with_ins ++ outputs_text connection_text outs → end ≡ with_outs ++ codes ";\n" →
    end ≡ out ++ statements_lines (codes "  ") (listed (tree.Use (use_of label kind ins outs) ∷ []))
unfolding statements_lines statement_lines listed use_text use_head bracketed_if_some
cell_text label kind ins outs out head with_ins with_outs end h i o e =
    let read = inputs_text connection_text ins in
    let led = outputs_text connection_text outs in
    let spelled : end ≡ out ++ codes "  " ++ label ++ codes " : " ++ kind ++ read ++ led
    ++ codes ";\n" = rw (e, o, i, h) (simp append_assoc) in
    spelled ∙ cell_plain out label kind read led

-- the same, by the cell and what it uses
module _ (cell : Cell) (label : List ℕ) (shape : Shape) (ports others : List Formal)
    (nets next : Nets) where
  pub cell_use_text : (name out head with_ins with_outs end : List ℕ) → name ≡ shape.name →
      ports ≡ shape.ports → others ≡ shape.ports →
      head ≡ out ++ codes "  " ++ label ++ codes " : " ++ name →
      with_ins ≡ head ++ inputs_text connection_text
      (connected cell (of_way Input ports) nets).connections →
      next ≡ (connected cell (of_way Input ports) nets).nets →
      with_outs ≡ with_ins ++ outputs_text connection_text
      (connected cell (of_way Output others) next).connections →
      end ≡ with_outs ++ codes ";\n" →
      end ≡ out ++ statements_lines (codes "  ")
      (listed (cell_use cell label shape nets).statements)
  cell_use_text name out head with_ins with_outs end n p q h i m o e =
      let ins = connected cell (of_way Input shape.ports) nets in
      let outs = connected cell (of_way Output shape.ports) ins.nets in
      cell_text label shape.name ins.connections outs.connections out head with_ins with_outs end
      (h ∙ ap (λ (k : List ℕ). out ++ codes "  " ++ label ++ codes " : " ++ k) n)
      (i ∙ ap (λ (fs : List Formal). head ++ inputs_text connection_text
      (connected cell (of_way Input fs) nets).connections) p)
      (o ∙ ap (λ (fs : List Formal). with_ins
      ++ outputs_text connection_text (connected cell (of_way Output fs) next).connections) q
      ∙ ap (λ (s : Nets). with_ins ++ outputs_text connection_text
      (connected cell (of_way Output shape.ports) s).connections)
      (m ∙ ap (λ (fs : List Formal). (connected cell (of_way Input fs) nets).nets) p))
      e

  pub cell_use_nets : (end : Nets) → ports ≡ shape.ports → others ≡ shape.ports →
      next ≡ (connected cell (of_way Input ports) nets).nets →
      end ≡ (connected cell (of_way Output others) next).nets →
      end ≡ (cell_use cell label shape nets).nets
  cell_use_nets end p q m e =
      e ∙ ap (λ (fs : List Formal). (connected cell (of_way Output fs) next).nets) q
      ∙ ap (λ (s : Nets). (connected cell (of_way Output shape.ports) s).nets)
      (m ∙ ap (λ (fs : List Formal). (connected cell (of_way Input fs) nets).nets) p)

-- the buffer of an outlet
buffer_plain : (out label first then_led : List ℕ) →
    out ++ codes "  " ++ label ++ codes " : BUF [0:0] (" ++ first ++ codes ") -> (" ++ then_led
    ++ codes ");\n"
    ≡ out ++ (codes "  " ++ (label ++ codes " : " ++ codes "BUF" ++ (codes " ["
    ++ (codes "0" ++ codes ":" ++ codes "0") ++ [] ++ codes "]") ++ [] ++ (codes " (" ++ first
    ++ codes ")") ++ (codes " -> (" ++ then_led ++ codes ")") ++ codes ";") ++ 10 ∷ [])
buffer_plain out label first then_led = simp (append_assoc, append-nil)

one_read : (x : tree.Connection) →
    codes " (" ++ connection_text x ++ codes ")" ≡ inputs_text connection_text (x ∷ [])
unfolding bracketed
one_read x = ap (λ (t : List ℕ). codes " (" ++ t ++ codes ")")
    (sym (append-nil (connection_text x)))

one_led : (x : tree.Connection) →
    codes " -> (" ++ connection_text x ++ codes ")" ≡ outputs_text connection_text (x ∷ [])
unfolding bracketed bracketed_if_some
one_led x =
    ap (λ (t : List ℕ). codes " -> (" ++ t ++ codes ")") (sym (append-nil (connection_text x)))

pub buffer_text : (nets : List Net) (label : List ℕ) (o : Outlet)
    (out a b c d e f end : List ℕ) →
    a ≡ out ++ codes "  " → b ≡ a ++ label → c ≡ b ++ codes " : BUF [0:0] (" →
    d ≡ c ++ connection_text (connection_of nets (o.from ∷ [])) → e ≡ d ++ codes ") -> (" →
    f ≡ e ++ connection_text (connection_of nets (wired.Bit o.to ∷ [])) →
    end ≡ f ++ codes ");\n" →
    end ≡ out ++ statement_lines (codes "  ") (buffer nets label o)
unfolding statement_lines use_text use_head bracketed_if_some
buffer_text nets label o out a b c d e f end ha hb hc hd he hf h =
    let from = connection_of nets (o.from ∷ []) in
    let to = connection_of nets (wired.Bit o.to ∷ []) in
    let line_of : List ℕ → List ℕ → List ℕ → List ℕ = λ zero read led.
    out ++ (codes "  " ++ (label ++ codes " : " ++ codes "BUF"
    ++ (codes " [" ++ (zero ++ codes ":"
    ++ zero) ++ [] ++ codes "]") ++ [] ++ read ++ led ++ codes ";") ++ 10 ∷ []) in
    let spelled : end ≡ out ++ codes "  " ++ label ++ codes " : BUF [0:0] (" ++ connection_text from
    ++ codes ") -> (" ++ connection_text to ++ codes ");\n" =
    rw (h, hf, he, hd, hc, hb, ha) refl in
    spelled ∙ buffer_plain out label (connection_text from) (connection_text to)
    ∙ ap (λ (t : List ℕ). line_of (codes "0") t (codes " -> (" ++ connection_text to ++ codes ")"))
    (one_read from)
    ∙ ap (λ (t : List ℕ). line_of (codes "0") (inputs_text connection_text (from ∷ [])) t)
    (one_led to)
    ∙ ap (λ (t : List ℕ). line_of t (inputs_text connection_text (from ∷ []))
    (outputs_text connection_text (to ∷ []))) (sym zero_text)

-- the first line of a macro
pub head_text : (name : List ℕ) (ins outs : List tree.Formal)
    (out a b with_ins with_outs end : List ℕ) →
    a ≡ out ++ codes "MACRO " → b ≡ a ++ name → with_ins ≡ b ++ inputs_text formal_text ins →
    with_outs ≡ with_ins ++ outputs_text formal_text outs → end ≡ with_outs ++ codes ";\n" →
    end ≡ out ++ line [] (macro_head (plain_macro name ins outs tree.nil))
unfolding macro_head bracketed_if_some
head_text name ins outs out a b with_ins with_outs end ha hb i o e =
    rw (e, o, i, hb, ha) (simp (append_assoc, append-nil))

-- ---- cells

module _ (cells : List Cell) (labels : List (List ℕ)) (targets : List ℕ) (shapes : List Shape)
    (i : ℕ) (s : Nets) where
  -- those from this place on
  abbrev rest : ℕ → Nets → Written
  rest k nets = cells_written (drop k cells) (drop k labels)
      (map (slice_get shapes) (drop k targets)) nets

  pub cells_here : (c : Cell) (label : List ℕ) (target : ℕ) → slice_get cells i ≡ Some c →
      slice_get labels i ≡ Some label →
      slice_get targets i ≡ Some target → rest i s
      ≡ and_then (cell_written c label (slice_get shapes target) s) (rest (i + 1))
  unfolding cells_written
  cells_here c label target hc hl ht = rw (
    drop_get cells i c hc,
    drop_get labels i label hl,
    drop_get targets i target ht,
  ) refl

  -- where a label or a target is missing nothing more is written
  pub cells_unlabelled : (c : Cell) → slice_get cells i ≡ Some c → slice_get labels i ≡ None →
      rest i s ≡ record { statements = []; nets = s }
  unfolding cells_written
  cells_unlabelled c hc hl = rw (drop_get cells i c hc, drop_none labels i hl) refl

  pub cells_untargeted : (c : Cell) (label : List ℕ) → slice_get cells i ≡ Some c →
      slice_get labels i ≡ Some label → slice_get targets i ≡ None →
      rest i s ≡ record { statements = []; nets = s }
  unfolding cells_written
  cells_untargeted c label hc hl ht = rw (
    drop_get cells i c hc,
    drop_get labels i label hl,
    drop_none targets i ht,
  ) refl

  pub cells_all : slice_get cells i ≡ None → rest i s ≡ record { statements = []; nets = s }
  unfolding cells_written
  cells_all hc = rw (drop_none cells i hc) refl

  abbrev text : Written → List ℕ
  text w = statements_lines (codes "  ") (listed w.statements)

  module _ (c : Cell) (label : List ℕ) (target : ℕ) (hc : slice_get cells i ≡ Some c)
      (hl : slice_get labels i ≡ Some label)
      (ht : slice_get targets i ≡ Some target) (next : Nets) where
    abbrev here : Written
    here = cell_written c label (slice_get shapes target) s

    pub text_more : (all out end : List ℕ) → end ≡ out ++ text here → next ≡ here.nets →
        all ≡ out ++ text (rest i s) →
        all ≡ end ++ text (rest (i + 1) next)
    text_more all out end p n e =
        let later = rest (i + 1) here.nets in
        e ∙ ap (λ (w : Written). out ++ text w) (cells_here c label target hc hl ht)
        ∙ ap (λ (t : List ℕ). out ++ t) (lines_both (codes "  ") here.statements later.statements)
        ∙ sym (append_assoc out (text here) (text later))
        ∙ ap (λ (t : List ℕ). t ++ text later) (sym p)
        ∙ ap (λ (ns : Nets). end ++ text (rest (i + 1) ns)) (sym n)

    pub nets_more : (all : Nets) → next ≡ here.nets → all ≡ (rest i s).nets →
        all ≡ (rest (i + 1) next).nets
    nets_more all n e =
        e ∙ ap (λ (w : Written). w.nets) (cells_here c label target hc hl ht)
        ∙ ap (λ (ns : Nets). (rest (i + 1) ns).nets) (sym n)

  -- where nothing more is written
  pub text_end : (all out : List ℕ) → rest i s ≡ record { statements = []; nets = s } →
      all ≡ out ++ text (rest i s) → out ≡ all
  unfolding statements_lines listed
  text_end all out none e = sym (e ∙ ap (λ (w : Written). out ++ text w) none ∙ append-nil out)

  pub nets_end : (all : Nets) → rest i s ≡ record { statements = []; nets = s } →
      all ≡ (rest i s).nets → s ≡ all
  nets_end all none e = sym (e ∙ ap (λ (w : Written). w.nets) none)

-- ---- a whole macro

-- the labels of its cells, which are the first in their place
pub labels_given : (m : Module) (cells : List Cell) (none labels : List (List ℕ)) → none ≡ [] →
    cells ≡ m.cells → labels ≡ none ++ names_after none (cell_labels 0 cells) →
    labels ≡ names_after [] (cell_labels 0 m.cells)
labels_given m cells none labels n c e =
    e ∙ ap (λ (t : List (List ℕ)). t ++ names_after t (cell_labels 0 cells)) n
    ∙ ap (λ (cs : List Cell). names_after [] (cell_labels 0 cs)) c

-- what stands in it, cells and then buffers
pub body_text : (m : Module) (targets given : List ℕ) (shapes : List Shape) (own nets : Nets)
    (labels : List (List ℕ)) (out middle end : List ℕ) → own ≡ own_nets m → given ≡ targets →
    labels ≡ names_after [] (cell_labels 0 m.cells) →
    middle ≡ out ++ statements_lines (codes "  ") (listed (cells_written m.cells
    (names_after [] (cell_labels 0 m.cells)) (map (slice_get shapes) given) own).statements) →
    nets ≡ (cells_written m.cells (names_after [] (cell_labels 0 m.cells))
    (map (slice_get shapes) given) own).nets →
    end ≡ middle ++ statements_lines (codes "  ") (listed (buffers nets.list
    (names_after labels (buffer_labels 0 (all_outlets nets (numbered_from 0 m.ports))))
    (all_outlets nets (numbered_from 0 m.ports)))) →
    end ≡ out ++ statements_lines (codes "  ") (body m (map (slice_get shapes) targets))
body_text m targets given shapes own nets labels out middle end w g l d n e =
    let names = names_after [] (cell_labels 0 m.cells) in
    let made = cells_written m.cells names (map (slice_get shapes) targets) (own_nets m) in
    let led = all_outlets made.nets (numbered_from 0 m.ports) in
    let more = buffers made.nets.list (names_after names (buffer_labels 0 led)) led in
    let first = statements_lines (codes "  ") (listed made.statements) in
    rw (e, d, n, l, g, w)
    (append_assoc out first (statements_lines (codes "  ") (listed more))
    ∙ ap (λ (t : List ℕ). out ++ t) (sym (lines_both (codes "  ") made.statements more)))

-- What stands in a macro does not show in its first line.
head_same : (name : List ℕ) (ins outs : List tree.Formal) (inside : tree.Statements) →
    macro_head (plain_macro name ins outs tree.nil) ≡ macro_head (plain_macro name ins outs inside)
unfolding macro_head
head_same name ins outs inside = refl

macro_parts : (m : tree.Macro) (out head inside end : List ℕ) →
    head ≡ out ++ line [] (macro_head m) →
    inside ≡ head ++ statements_lines (codes "  ") m.body → end ≡ inside ++ codes "END;\n" →
    end ≡ out ++ macro_lines m
unfolding macro_lines body_lines
macro_parts m out head inside end h i e =
    let first = macro_head m ++ 10 ∷ [] in
    let lines = statements_lines (codes "  ") m.body in
    e ∙ ap (λ (t : List ℕ). t ++ codes "END;\n") (i ∙ ap (λ (t : List ℕ). t ++ lines) h)
    ∙ append_assoc (out ++ first) lines (codes "END;\n")
    ∙ append_assoc out first (lines ++ codes "END;\n")

pub module_text : (shape : Shape) (m : Module) (used : List (Option Shape)) (nets : Nets)
    (name : List ℕ) (ports : List Formal) (names : List (List ℕ)) (out head inside end : List ℕ) →
    nets ≡ own_nets m → name ≡ shape.name → ports ≡ shape.ports → names ≡ nets.taken →
    head ≡ out
    ++ line [] (macro_head (plain_macro name (formals_named Input ports names)
    (formals_named Output ports names) tree.nil)) →
    inside ≡ head ++ statements_lines (codes "  ") (body m used) → end ≡ inside ++ codes "END;\n" →
    end ≡ out ++ macro_lines (macro_of shape m used)
module_text shape m used nets name ports names out head inside end w n p s h i e =
    let head_of : List ℕ → List Formal → List (List ℕ) → List ℕ = λ k fs ns.
    out ++ line [] (macro_head (plain_macro k (formals_named Input fs ns)
    (formals_named Output fs ns) tree.nil)) in
    let taken : names ≡ (own_nets m).taken = s ∙ ap (λ (x : Nets). x.taken) w in
    macro_parts (macro_of shape m used) out head inside end
    (h ∙ ap (λ (k : List ℕ). head_of k ports names) n
    ∙ ap (λ (fs : List Formal). head_of shape.name fs names) p
    ∙ ap (λ (ns : List (List ℕ)). head_of shape.name shape.ports ns) taken
    ∙ ap (λ (t : List ℕ). out ++ line [] t) (head_same shape.name
    (formals_named Input shape.ports (own_nets m).taken)
    (formals_named Output shape.ports (own_nets m).taken) (body m used))) i e

-- ---- what a look-up gives

pub got_option : {A : Type 0} (r : Option (Bor A)) (xs : List A) (i : ℕ) → IsItemAt xs i r →
    option_map (λ (b : Bor A). b.now) r ≡ slice_get xs i
got_option None xs i h = sym (slice_get_past xs i h.3)
got_option (Some b) xs i h = sym (slice_get_read xs (length xs) i b.now refl h.3.0 h.1)

pub got : {A : Type 0} (xs : List A) (i : ℕ) (x : A) → i < length xs → x ≡ get_or xs i x →
    slice_get xs i ≡ Some x
got xs i x h is = slice_get_read xs (length xs) i x refl h is
