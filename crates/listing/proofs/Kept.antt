-- Lines that are kept once.
use Rattle.std.proofs.Common.{◌≡◌, ℕ, zero, suc, ◌+◌, ◌<◌, ◌≤◌, Bool, true, false, if◌then◌else◌, List, [], ◌∷◌, ◌++◌, length, take, get_or, Some, slice_get, refl, sym, ap, ap₂, ◌∙◌, subst, append_assoc, append-nil, arith, length-append}
use Rattle.std.specs.List.{AllByRecursion, flat_map}
use Rattle.std.proofs.lemmas.List.{flat_map_more, take_more}
use Rattle.listing.specs.declared.output.Part.{Part}
use Rattle.listing.specs.Output.{part_of, text_of}
use Rattle.listing.proofs.Pieces.{part_stays, part_added, parts_joined}
use Rattle.flat_circuit.specs.declared.fault.Fault.{Fault}
use Rattle.flat_circuit.specs.Circuit.{Circuit}
use Rattle.listing.specs.declared.case.Mode.{Mode}
use Rattle.listing.specs.Case.{shows_faults}
use Rattle.listing.specs.declared.known.Known.{Known}
use Rattle.listing.specs.declared.known.KnownLines.{KnownLines}
use Rattle.listing.specs.declared.lines.Lines.{Lines}
use Rattle.listing.specs.Lines.{lines_text, IsWithin, IsLine, HasLine, AreLines, Keeps}

-- ---- bytes that come after what is kept

within_still : (kept more : List ℕ) (p : Part) → IsWithin kept p → IsWithin (kept ++ more) p
within_still kept more p w = record {
  up = w.up;
  within = omega (arith, length-append kept more, w.within);
}

all_within : (kept more : List ℕ) (ps : List Part) → AllByRecursion (IsWithin kept) ps →
    AllByRecursion (IsWithin (kept ++ more)) ps
all_within kept more [] ws = tt
all_within kept more (p ∷ ps) ws = (within_still kept more p ws.0, all_within kept more ps ws.1)

lines_still : (c : Circuit) (kept more : List ℕ) (ks : List Known) →
    AllByRecursion (HasLine c kept) ks → AllByRecursion (HasLine c (kept ++ more)) ks
lines_still c kept more [] ls = tt
lines_still c kept more (k ∷ ks) ls = (
  record {
    within = within_still kept more k.part ls.0.within;
    is = part_stays kept more k.part.from k.part.to ls.0.within.up ls.0.within.within ∙ ls.0.is;
  },
  lines_still c kept more ks ls.1,
)

text_still : (kept more : List ℕ) (ps : List Part) → AllByRecursion (IsWithin kept) ps →
    text_of (kept ++ more) ps ≡ text_of kept ps
text_still kept more [] ws = refl
text_still kept more (p ∷ ps) ws =
    ap₂ (λ (xs ys : List ℕ). xs ++ ys) (part_stays kept more p.from p.to ws.0.up ws.0.within)
    (text_still kept more ps ws.1)

keeps_behind : (c : Circuit) (l : Lines) (more : List ℕ) (from to : ℕ) → from ≡ length l.kept →
    to ≡ length (l.kept ++ more) → AreLines c l →
    Keeps c l (record l { kept = l.kept ++ more }) more (record { from = from; to = to })
keeps_behind c l more from to begins ends are = record {
  are = record {
    parts = all_within l.kept more l.parts are.parts;
    last = within_still l.kept more l.last are.last;
    known = lines_still c l.kept more l.known.lines are.known;
  };
  text = ap₂ (λ (xs ys : List ℕ). xs ++ ys) (text_still l.kept more l.parts are.parts)
      (part_stays l.kept more l.last.from l.last.to are.last.up are.last.within);
  within = record {
    up = omega (arith, begins, ends, length-append l.kept more);
    within = omega (arith, ends);
  };
  is = part_added l.kept more from to begins ends;
}

pub keeps : (c : Circuit) (l : Lines) (kept more : List ℕ) (from to : ℕ) →
    kept ≡ l.kept ++ more → from ≡ length l.kept → to ≡ length kept → AreLines c l →
    Keeps c l (record l { kept = kept }) more (record { from = from; to = to })
keeps c l kept more from to added begins ends are =
    subst (λ (k : List ℕ). Keeps c l (record l { kept = k }) more (record { from = from; to = to }))
    (sym added) (keeps_behind c l more from to begins (ends ∙ ap length added) are)

-- ---- parts that are put at the end of the lines

pub joined_text : (l : Lines) (p : Part) → l.last.to ≡ p.from → IsWithin l.kept p →
    IsWithin l.kept l.last →
    lines_text (record l { last = record { from = l.last.from; to = p.to } })
    ≡ lines_text l ++ part_of l.kept p
joined_text l p beside w last =
    let up : l.last.from ≤ p.from = omega (arith, last.up, beside) in
    let both : part_of l.kept (record { from = l.last.from; to = p.to })
    ≡ part_of l.kept l.last ++ part_of l.kept p =
    parts_joined l.kept l.last.from p.from p.to up w.up
    ∙ ap (λ (n : ℕ). part_of l.kept (record { from = l.last.from; to = n })
    ++ part_of l.kept p) (sym beside) in
    ap (λ (xs : List ℕ). text_of l.kept l.parts ++ xs) both
    ∙ sym (append_assoc (text_of l.kept l.parts) (part_of l.kept l.last) (part_of l.kept p))

pub joined_are : (c : Circuit) (l : Lines) (p : Part) → l.last.to ≡ p.from → IsWithin l.kept p →
    AreLines c l → AreLines c (record l { last = record { from = l.last.from; to = p.to } })
joined_are c l p beside w are = record {
  parts = are.parts;
  last = record { up = omega (arith, are.last.up, beside, w.up); within = w.within };
  known = are.known;
}

pub pushed_text : (l : Lines) (parts : List Part) (p : Part) → parts ≡ l.parts ++ l.last ∷ [] →
    lines_text (record l { parts = parts; last = p }) ≡ lines_text l ++ part_of l.kept p
pushed_text l parts p e =
    ap (λ (ps : List Part). text_of l.kept ps ++ part_of l.kept p) e
    ∙ ap (λ (xs : List ℕ). xs ++ part_of l.kept p)
    (sym (flat_map_more (part_of l.kept) [] l.parts l.last))

all_pushed : (P : Part → Type 0) (ps : List Part) (p : Part) → AllByRecursion P ps → P p →
    AllByRecursion P (ps ++ p ∷ [])
all_pushed P [] p all one = (one, tt)
all_pushed P (q ∷ ps) p all one = (all.0, all_pushed P ps p all.1 one)

pub pushed_are : (c : Circuit) (l : Lines) (parts : List Part) (p : Part) →
    parts ≡ l.parts ++ l.last ∷ [] → IsWithin l.kept p → AreLines c l →
    AreLines c (record l { parts = parts; last = p })
pushed_are c l parts p e w are = record {
  parts = subst (λ (ps : List Part). AllByRecursion (IsWithin l.kept) ps) (sym e)
      (all_pushed (IsWithin l.kept) l.parts l.last are.parts are.last);
  last = w;
  known = are.known;
}

-- ---- lines that are known

pub known_at : (c : Circuit) (kept : List ℕ) (ks : List Known) (at before : ℕ) (f : Fault)
    (p : Part) → AllByRecursion (HasLine c kept) ks →
    slice_get ks at ≡ Some (record { fault = f; part = p; before = before }) →
    IsLine c kept f p
known_at c kept [] at before f p ls e = absurd cc
known_at c kept (k ∷ ks) zero before f p ls e =
    let same : k ≡ record { fault = f; part = p; before = before } = cc in
    subst (λ (x : Known). HasLine c kept x) same ls.0
known_at c kept (k ∷ ks) (suc at) before f p ls e = known_at c kept ks at before f p ls.1 e

all_known : (P : Known → Type 0) (ks : List Known) (k : Known) → AllByRecursion P ks → P k →
    AllByRecursion P (ks ++ k ∷ [])
all_known P [] k all one = (one, tt)
all_known P (q ∷ ks) k all one = (all.0, all_known P ks k all.1 one)

pub known_more : (c : Circuit) (kept : List ℕ) (ks now : List Known) (k : Known) →
    now ≡ ks ++ k ∷ [] → AllByRecursion (HasLine c kept) ks → IsLine c kept k.fault k.part →
    AllByRecursion (HasLine c kept) now
known_more c kept ks now k e all one =
    subst (λ (xs : List Known). AllByRecursion (HasLine c kept) xs) (sym e)
    (all_known (HasLine c kept) ks k all one)

-- ---- what a call puts at the end

pub put_behind : (c : Circuit) (old mid : Lines) (bytes : List ℕ) (p : Part) (now : List ℕ) →
    Keeps c old mid bytes p → now ≡ lines_text mid ++ part_of mid.kept p →
    now ≡ lines_text old ++ bytes
put_behind c old mid bytes p now k e = e ∙ ap₂ (λ (xs ys : List ℕ). xs ++ ys) k.text k.is

pub more_known : (c : Circuit) (l : Lines) (now : List Known) (known : KnownLines) (k : Known) →
    known.lines ≡ now → now ≡ l.known.lines ++ k ∷ [] → AreLines c l →
    IsLine c l.kept k.fault k.part → AreLines c (record l { known = known })
more_known c l now known k same e are one = record {
  parts = are.parts;
  last = are.last;
  known = known_more c l.kept l.known.lines known.lines k (same ∙ e) are.known one;
}

pub same_known : (c : Circuit) (l : Lines) (known : KnownLines) → known.lines ≡ l.known.lines →
    AreLines c l → AreLines c (record l { known = known })
same_known c l known same are = record {
  parts = are.parts;
  last = are.last;
  known = subst (λ (ks : List Known). AllByRecursion (HasLine c l.kept) ks) (sym same) are.known;
}

pub text_ended : (l : Lines) (parts : List Part) → parts ≡ l.parts ++ l.last ∷ [] →
    text_of l.kept parts ≡ lines_text l
text_ended l parts e =
    ap (text_of l.kept) e ∙ sym (flat_map_more (part_of l.kept) [] l.parts l.last)

pub taken_more : {X : Type 0} (f : X → List ℕ) (xs : List X) (i : ℕ) (d : X) → i < length xs →
    flat_map f (take (i + 1) xs) ≡ flat_map f (take i xs) ++ f (get_or xs i d)
taken_more f xs i d below =
    ap (flat_map f) (take_more xs i d below)
    ∙ sym (flat_map_more f [] (take i xs) (get_or xs i d))

pub behind_taken : {X : Type 0} (f : X → List ℕ) (xs : List X) (i : ℕ) (d : X)
    (old before now : List ℕ) → i < length xs → before ≡ old ++ flat_map f (take i xs) →
    now ≡ before ++ f (get_or xs i d) → now ≡ old ++ flat_map f (take (i + 1) xs)
behind_taken f xs i d old before now below so e =
    e ∙ (ap (λ (b : List ℕ). b ++ f (get_or xs i d)) so
    ∙ (append_assoc old (flat_map f (take i xs)) (f (get_or xs i d))
    ∙ ap (λ (b : List ℕ). old ++ b) (sym (taken_more f xs i d below))))

pub with_faults : (old head faults now mid : List ℕ) (mode : Mode) → shows_faults mode ≡ true →
    mid ≡ old ++ head → now ≡ mid ++ faults →
    now ≡ old ++ (head ++ (if shows_faults mode then faults else []))
with_faults old head faults now mid mode shows first second =
    second ∙ (ap (λ (b : List ℕ). b ++ faults) first
    ∙ (append_assoc old head faults
    ∙ ap (λ (b : Bool). old ++ (head ++ (if b then faults else []))) (sym shows)))

pub without_faults : (old head faults now : List ℕ) (mode : Mode) → shows_faults mode ≡ false →
    now ≡ old ++ head → now ≡ old ++ (head ++ (if shows_faults mode then faults else []))
without_faults old head faults now mode hides first =
    first ∙ (ap (λ (b : List ℕ). old ++ b) (sym (append-nil head))
    ∙ ap (λ (b : Bool). old ++ (head ++ (if b then faults else []))) (sym hides))
