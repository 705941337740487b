-- Parts of some bytes, one after another.
use Rattle.std.proofs.Common.{◌≡◌, ℕ, ◌+◌, ◌-◌, ◌<◌, ◌≤◌, List, [], ◌∷◌, ◌++◌, length, get_or, take, drop, Option, sym, ap, ◌∙◌, subst, refl, append-nil, arith, length-append, length-drop, drop-drop}
use Rattle.std.specs.Prelude.{slice_range}
use Rattle.std.specs.Io.KnownBytes.{Appends}
use Rattle.std.proofs.KnownBytes.{Appends-trans}
use Rattle.std.proofs.lemmas.List.{take_more, drop_more, take_all, take_at, drop_at, take-append-le, drop-append-le, take-append-drop}
use Rattle.std.proofs.lemmas.List.Concat.{flat_map-append}
use Rattle.std.proofs.Math.Seq.{take-add}
use Rattle.listing.specs.declared.output.Part.{Part}
use Rattle.scald_base.specs.Device.{TakesFront}
use Rattle.listing.specs.Output.{part_of, text_of}

-- ---- parts of bytes that grow

-- a part stays as it was when bytes come after all
pub part_stays : (kept more : List ℕ) (from to : ℕ) → from ≤ to → to ≤ length kept →
    slice_range (kept ++ more) from to ≡ slice_range kept from to
part_stays kept more from to up within =
    ap (λ (xs : List ℕ). take (to - from) xs) (drop-append-le from kept more (omega arith))
    ∙ take-append-le (to - from) (drop from kept) more (omega (arith, length-drop from kept))

-- what came after all, as a part
pub part_added : (kept more : List ℕ) (from to : ℕ) → from ≡ length kept →
    to ≡ length (kept ++ more) → slice_range (kept ++ more) from to ≡ more
part_added kept more from to begins ends =
    ap (λ (xs : List ℕ). take (to - from) xs) (drop_at kept more from (sym begins))
    ∙ take_all (to - from) more (omega (arith, length-append kept more))

-- two parts side by side are one
pub parts_joined : (kept : List ℕ) (from mid to : ℕ) → from ≤ mid → mid ≤ to →
    slice_range kept from to ≡ slice_range kept from mid ++ slice_range kept mid to
parts_joined kept from mid to up on =
    ap (λ (n : ℕ). take n (drop from kept)) (split from mid to up on)
    ∙ (take-add (mid - from) (to - mid) (drop from kept)
    ∙ ap (λ (xs : List ℕ). take (mid - from) (drop from kept) ++ take (to - mid) xs)
    (drop-drop (mid - from) from kept ∙ ap (λ (n : ℕ). drop n kept) (reached from mid up)))
  where
    split : (from mid to : ℕ) → from ≤ mid → mid ≤ to → to - from ≡ (mid - from) + (to - mid)
    split from mid to up on = omega arith

    reached : (from mid : ℕ) → from ≤ mid → from + (mid - from) ≡ mid
    reached from mid up = omega arith

-- ---- parts that are written

pub text_more : (kept : List ℕ) (parts : List Part) (i : ℕ) (d : Part) → i < length parts →
    text_of kept (take (i + 1) parts)
    ≡ text_of kept (take i parts) ++ part_of kept (get_or parts i d)
text_more kept parts i d below =
    ap (text_of kept) (take_more parts i d below)
    ∙ (flat_map-append (part_of kept) (take i parts) (get_or parts i d ∷ [])
    ∙ ap (λ (xs : List ℕ). text_of kept (take i parts) ++ xs)
    (append-nil (part_of kept (get_or parts i d))))

text_split : (kept : List ℕ) (parts : List Part) (i : ℕ) (d : Part) → i < length parts →
    text_of kept parts ≡ text_of kept (take i parts)
    ++ (part_of kept (get_or parts i d) ++ text_of kept (drop (i + 1) parts))
text_split kept parts i d below =
    ap (text_of kept) (sym (take-append-drop i parts))
    ∙ (flat_map-append (part_of kept) (take i parts) (drop i parts)
    ∙ ap (λ (ps : List Part). text_of kept (take i parts) ++ text_of kept ps)
    (drop_more parts i d below))

pub wrote_more : (a b c : Option (List ℕ)) (kept : List ℕ) (parts : List Part) (i : ℕ) (d : Part) →
    i < length parts → Appends a b (text_of kept (take i parts)) →
    Appends b c (part_of kept (get_or parts i d)) →
    Appends a c (text_of kept (take (i + 1) parts))
wrote_more a b c kept parts i d below before now =
    subst (Appends a c) (sym (text_more kept parts i d below))
    (Appends-trans a b c (text_of kept (take i parts)) (part_of kept (get_or parts i d)) before now)

pub wrote_all : (a b : Option (List ℕ)) (kept : List ℕ) (parts : List Part) (i : ℕ) →
    length parts ≤ i → Appends a b (text_of kept (take i parts)) →
    Appends a b (text_of kept parts)
wrote_all a b kept parts i past wrote =
    subst (λ (ps : List Part). Appends a b (text_of kept ps)) (take_all i parts past) wrote

front_of : (xs ys zs : List ℕ) (n : ℕ) → n ≤ length ys →
    take (length xs + n) (xs ++ (ys ++ zs)) ≡ xs ++ take n ys
front_of xs ys zs n within =
    take-add (length xs) n (xs ++ (ys ++ zs))
    ∙ (ap (λ (us : List ℕ). us ++ take n (drop (length xs) (xs ++ (ys ++ zs))))
    (take_at xs (ys ++ zs) (length xs) refl)
    ∙ ap (λ (us : List ℕ). xs ++ us)
    (ap (take n) (drop_at xs (ys ++ zs) (length xs) refl) ∙ take-append-le n ys zs within))

pub stopped_in : (a b c : Option (List ℕ)) (kept : List ℕ) (parts : List Part) (i : ℕ) (d : Part) →
    i < length parts → Appends a b (text_of kept (take i parts)) →
    TakesFront b c (part_of kept (get_or parts i d)) → TakesFront a c (text_of kept parts)
stopped_in a b c kept parts i d below before front =
    let xs = text_of kept (take i parts) in
    let ys = part_of kept (get_or parts i d) in
    let zs = text_of kept (drop (i + 1) parts) in
    let all = text_split kept parts i d below in
    let within : front.count ≤ length ys = omega (arith, front.within) in
    record {
      count = length xs + front.count;
      within = rw all (omega (arith, front.within, length-append xs (ys ++ zs), length-append ys zs));
      bytes = rw all (subst (Appends a c) (sym (front_of xs ys zs front.count within))
          (Appends-trans a b c xs (take front.count ys) before front.bytes));
    }
