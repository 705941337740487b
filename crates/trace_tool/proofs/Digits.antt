-- Bits that were written are read back.
use Rattle.std.proofs.Common.{◌≡◌, ℕ, ◌==◌, Bool, true, false, List, [], ◌∷◌, ◌++◌, length, drop, map, codes, refl, ap, sym, ◌∙◌, arith, append_assoc, append-nil}
use Rattle.std.specs.List.{flat_map}
use Rattle.std.proofs.Math.Seq.{drop-append_seam}
use Rattle.flat_circuit.specs.Circuit.{Circuit}
use Rattle.listing.specs.Names.{net_text}
use Rattle.trace_tool.specs.Trace.{digit_text, net_line}

abbrev ones : List ℕ → List Bool
ones text = map (λ b. b == 49) text

digits_back : (row : List Bool) → ones (flat_map digit_text row) ≡ row
digits_back [] = refl
digits_back (true ∷ row) = ap (λ (r : List Bool). true ∷ r) (digits_back row)
digits_back (false ∷ row) = ap (λ (r : List Bool). false ∷ r) (digits_back row)

digits_long : (row : List Bool) → length (flat_map digit_text row) ≡ length row
digits_long [] = refl
digits_long (true ∷ row) = let rest = digits_long row in omega (arith, rest)
digits_long (false ∷ row) = let rest = digits_long row in omega (arith, rest)

apart : (name space digits : List ℕ) → (name ++ (space ++ ([] ++ []))) ++ digits ≡ name ++ (space ++ (digits ++ []))
apart name space digits = simp (append_assoc, append-nil) refl

-- the line of a net, as its front and its digits
pub net_line_more : (c : Circuit) (n : ℕ) (row : List Bool) → net_line c n [] ++ flat_map digit_text row ≡ net_line c n row
unfolding net_line
net_line_more c n row = apart (net_text c n) (codes " ") (flat_map digit_text row)

-- what stands after the front of the line
pub digits_behind : (c : Circuit) (n count : ℕ) (row : List Bool) (line digits : List ℕ) → line ≡ net_line c n row → count ≡ length (net_line c n []) →
    digits ≡ drop count line → digits ≡ flat_map digit_text row
digits_behind c n count row line digits is long behind =
    behind ∙ ap (λ (k : ℕ). drop k line) long ∙ ap (drop (length (net_line c n []))) (is ∙ sym (net_line_more c n row))
    ∙ drop-append_seam (net_line c n []) (flat_map digit_text row)

pub digits_count : (row : List Bool) (digits : List ℕ) → digits ≡ flat_map digit_text row → length digits ≡ length row
digits_count row digits is = ap length is ∙ digits_long row

pub digits_are : (row : List Bool) (digits : List ℕ) → digits ≡ flat_map digit_text row → ones digits ≡ row
digits_are row digits is = ap ones is ∙ digits_back row
