-- A text has one trace, whose lines are wrong in one way or are those of one run.
use Rattle.std.proofs.Common.{◌≡◌, ◌≢◌, ℕ, zero, suc, ◌-◌, ◌<◌, ◌≤◌, List, [], ◌∷◌, ◌++◌, length, drop, Option, Some, refl, ap, sym, subst, ◌∙◌, arith, inl, inr}
use Rattle.std.specs.Prelude.{slice_get, option_map, ◌⊎◌}
use Rattle.std.specs.List.{All}
use Rattle.std.proofs.lemmas.Bool.{cases_order}
use Rattle.std.proofs.lemmas.List.{length-map}
use Rattle.std.proofs.lemmas.List.Elements.{All-append, All-cons, All-head, All-nil, All-tail}
use Rattle.std.proofs.lemmas.Option.{slice_get-map}
use Rattle.std.proofs.Math.Seq.{drop-append_seam}
use Rattle.flat_circuit.specs.declared.instance.Instance.{Instance}
use Rattle.flat_circuit.specs.Circuit.{Circuit, IsCircuit}
use Rattle.trace_tool.specs.declared.extent.Extent.{Extent}
use Rattle.trace_tool.specs.declared.trace.Trace.{Trace}
use Rattle.trace_tool.specs.declared.line.Line.{Line}
use Rattle.trace_tool.specs.declared.line.Line.TheVariants.{Head, Delays, Bits, End}
use Rattle.trace_tool.specs.Trace.{end_line, line_order, line_text, pick_at, text_of_lines, wires_at}
use Rattle.trace_tool.specs.Reading.{HasFirst, HasTrace, IsLine, IsReadAs, IsRight, IsTrace, IsWithin, IsWrongLine, PickIsFit}
use Rattle.trace_tool.specs.Scan.{lines_of}
use Rattle.trace_tool.specs.Taking.{IsLineOf}
use Rattle.trace_tool.proofs.Cutting.{each_byte, lines_cut}
use Rattle.trace_tool.proofs.Distinct.{line_is_of, place_of}

-- ---- where a trace ends

abbrev Other : List ℕ → Type 0
Other line = line ≢ end_line

same_front : (xs ys rest more : List (List ℕ)) → All Other xs → All Other ys → (xs ++ end_line ∷ []) ++ rest ≡ (ys ++ end_line ∷ []) ++ more → xs ≡ ys
same_front [] [] rest more first second same = refl
same_front [] (y ∷ ys) rest more first second same =
    let is : end_line ≡ y = cc in absurd (All-head Other y ys second (sym is))
same_front (x ∷ xs) [] rest more first second same =
    let is : x ≡ end_line = cc in absurd (All-head Other x xs first is)
same_front (x ∷ xs) (y ∷ ys) rest more first second same =
    let head : x ≡ y = cc in
    let tails : (xs ++ end_line ∷ []) ++ rest ≡ (ys ++ end_line ∷ []) ++ more = cc in
    ap (λ (l : List ℕ). l ∷ xs) head
    ∙ ap (λ (ls : List (List ℕ)). y ∷ ls) (same_front xs ys rest more (All-tail Other x xs first) (All-tail Other y ys second) tails)

each_line : (text : List ℕ) (lines : List (List ℕ)) (drawing : List ℕ) → HasTrace text lines drawing → All IsLine lines
each_line text lines drawing h =
    subst (All IsLine) (sym h.are) (All-append IsLine h.before (end_line ∷ []) h.each (All-cons IsLine end_line [] (each_byte end_line refl) (All-nil IsLine)))

pub one_split : (text : List ℕ) (lines others : List (List ℕ)) (drawing more : List ℕ) → HasTrace text lines drawing → HasTrace text others more →
    (lines ≡ others) × (drawing ≡ more)
one_split text lines others drawing more h g =
    let first = sym (lines_cut lines drawing (each_line text lines drawing h)) ∙ ap lines_of (sym h.is ∙ g.is) ∙ lines_cut others more (each_line text others more g) in
    let fronts : h.before ≡ g.before =
    same_front h.before g.before (lines_of drawing) (lines_of more) h.none_ends g.none_ends
    (sym (ap (λ (ls : List (List ℕ)). ls ++ lines_of drawing) h.are) ∙ first ∙ ap (λ (ls : List (List ℕ)). ls ++ lines_of more) g.are) in
    let same : lines ≡ others = h.are ∙ ap (λ (ls : List (List ℕ)). ls ++ end_line ∷ []) fronts ∙ sym g.are in
    let texts : text_of_lines lines ++ drawing ≡ text_of_lines lines ++ more =
    sym h.is ∙ g.is ∙ ap (λ (ls : List (List ℕ)). text_of_lines ls ++ more) (sym same) in (
      same,
      sym (drop-append_seam (text_of_lines lines) drawing) ∙ ap (drop (length (text_of_lines lines))) texts ∙ drop-append_seam (text_of_lines lines) more,
    )

-- ---- lines that are wrong

fewer : (e : Extent) (c : Circuit) (lines : List (List ℕ)) (m n : ℕ) → m ≤ n → HasFirst e c lines n → HasFirst e c lines m
fewer e c lines m n less h = record { trace = h.trace; each = λ j below. h.each j (omega (arith, below, less)) }

pub one_wrong : (e : Extent) (c : Circuit) (lines : List (List ℕ)) (i j : ℕ) → IsWrongLine e c lines i → IsWrongLine e c lines j → i ≡ j
one_wrong e c lines i j w v = by (cases_order i j)
  where
    by : (i ≡ j) ⊎ ((i < j) ⊎ (j < i)) → i ≡ j
    by (inl same) = same
    by (inr (inl less)) = absurd (w.here (fewer e c lines i (j - 1) (omega (arith, less)) v.before))
    by (inr (inr more)) = absurd (v.here (fewer e c lines j (i - 1) (omega (arith, more)) w.before))

-- ---- lines that are right

pub record Has {X : Type 0} (xs : List X) (k : ℕ) : Type 0 where
  pub item : X
  pub is : slice_get xs k ≡ Some item

pub has_item : {X : Type 0} (xs : List X) (k : ℕ) → k < length xs → Has xs k
has_item [] k below = absurd (omega arith)
has_item (x ∷ xs) zero below = record { item = x; is = refl }
has_item (x ∷ xs) (suc k) below = let h = has_item xs k (omega (arith, below)) in record { item = h.item; is = h.is }

within : (e : Extent) (c : Circuit) (trace : Trace) (of : Line) → IsTrace e c trace → IsLineOf c of → IsWithin e c trace of
within e c trace Head is exists = (is.some, is.few)
within e c trace (Delays k) is exists =
    let i = has_item c.instances k exists in
    subst (λ (o : Option Instance). PickIsFit c o (pick_at trace k) (wires_at trace k)) (sym i.is) (is.fit k i.item i.is)
within e c trace (Bits n) is exists = let rows = is.bits.rows in is.bits.long n [] (omega (arith, exists, rows))
within e c trace End is exists = tt

pub read_not_wrong : (e : Extent) (c : Circuit) (lines : List (List ℕ)) (trace : Trace) (i : ℕ) → IsCircuit c → IsReadAs e c lines trace → IsWrongLine e c lines i → ⊥
read_not_wrong e c lines trace i known read w = w.here (record { trace = trace; each = right })
  where
    long : length lines ≡ length (line_order c)
    long = ap length read.are ∙ length-map (line_order c) (line_text c trace)

    right : (j : ℕ) → j < i → IsRight e c trace (slice_get (line_order c) j) (slice_get lines j)
    right j below =
        let inside = w.inside in
        let of = has_item (line_order c) j (omega (arith, below, inside, long)) in
        let line : slice_get lines j ≡ Some (line_text c trace of.item) =
        ap (λ (ls : List (List ℕ)). slice_get ls j) read.are ∙ slice_get-map (line_text c trace) (line_order c) j ∙ ap (option_map (line_text c trace)) of.is in
        let stands : IsRight e c trace (Some of.item) (Some (line_text c trace of.item)) =
        (within e c trace of.item read.is_trace (line_is_of c known j of.item (place_of c j of.item of.is)), refl) in
        subst (λ (o : Option Line). IsRight e c trace o (slice_get lines j)) (sym of.is)
        (subst (IsRight e c trace (Some of.item)) (sym line) stands)
