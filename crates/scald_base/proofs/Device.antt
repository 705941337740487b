-- What several calls of a source or a sink did together.
use Rattle.std.proofs.Common.{◌≡◌, ℕ, ◌+◌, ◌-◌, ◌<◌, ◌≤◌, min, List, ◌++◌, length, take, drop, Result, Ok, Err, OnErr, IfSome, None, Some, append-nil, ap, ◌∙◌, subst, sym, arith, length-append, length-drop}
use Rattle.std.specs.Prelude.{Option}
use Rattle.std.specs.Io.KnownBytes.{Appends, Consumes, IsAtEnd}
use Rattle.std.proofs.KnownBytes.{Appends-trans, Consumes-trans}
use Rattle.std.proofs.lemmas.List.{length-take, length-take-le, take_all, take_at, drop_at, take-append-drop, drop-drop, nil_from_length}
use Rattle.std.proofs.Math.Seq.{take-add}
use Rattle.scald_base.specs.Device.{Gives, ReadsAll, ReadsFront, ReadsPast, Takes}

-- a source that told what it had left still tells it
pub told_still : (a b : Option (List ℕ)) (bytes : List ℕ) (P : Type 0) → Consumes a b bytes → IfSome b (λ _. P) → IfSome a (λ _. P)
told_still None b bytes P moved p = tt
told_still (Some x) None bytes P moved p = absurd moved
told_still (Some x) (Some y) bytes P moved p = p

-- a further read that gave nothing, at the end
pub reads_all : (a b c : Option (List ℕ)) (limit n : ℕ) (all room : List ℕ) → Consumes a b all → Consumes b c (take n room)
    → n ≡ 0 → IfSome b (λ _. IsAtEnd c) → length all ≤ limit → ReadsAll a c limit all
reads_all a b c limit n all room before now none end within = record {
  bytes = subst (Consumes a c) (ap (λ (k : ℕ). all ++ take k room) none ∙ append-nil all) (Consumes-trans a b c all (take n room) before now);
  to_end = told_still a b all (IsAtEnd c) before end;
  within = within;
}

-- a further read that stays within one past the limit
pub reads_front : (a b c : Option (List ℕ)) (limit n : ℕ) (all room : List ℕ) → Consumes a b all → Consumes b c (take n room)
    → n ≤ length room → length all + n ≤ limit + 1 → ReadsFront a c limit
reads_front a b c limit n all room before now fits within = record {
  front = all ++ take n room;
  bytes = Consumes-trans a b c all (take n room) before now;
  within = omega (arith, length-append all (take n room), length-take-le n room fits);
}

-- a further read that ends at one past the limit
pub reads_past : (a b c : Option (List ℕ)) (limit n : ℕ) (all room : List ℕ) → Consumes a b all → Consumes b c (take n room)
    → n ≤ length room → length all + n ≡ limit + 1 → ReadsPast a c limit
reads_past a b c limit n all room before now fits past = record {
  front = all ++ take n room;
  bytes = Consumes-trans a b c all (take n room) before now;
  past = omega (arith, length-append all (take n room), length-take-le n room fits);
}

-- what is true anyway is true at an error
pub at_err : {T E P : Type 0} (r : Result T E) → P → OnErr r P
at_err (Ok x) p = tt
at_err (Err e) p = p

-- all that is left of a list, as a slice to its end
pub rest_of : (m : ℕ) (all : List ℕ) → take (length all - m) (drop m all) ≡ drop m all
rest_of m all = take_all (length all - m) (drop m all) (omega (arith, length-drop m all))

-- a further write, of all that the writes before left
pub takes_more : (a b c : Option (List ℕ)) (m n : ℕ) (all : List ℕ) → Appends a b (take m all)
    → Takes b c (take (length all - m) (drop m all)) n → Appends a c (take (m + n) all)
takes_more a b c m n all before now =
    let bytes : Appends b c (take n (drop m all)) = subst (λ (piece : List ℕ). Appends b c (take n piece)) (rest_of m all) now.bytes in
    subst (Appends a c) (sym (take-add m n all)) (Appends-trans a b c (take m all) (take n (drop m all)) before bytes)

-- it stays within all the bytes
pub takes_within : (b c : Option (List ℕ)) (m n : ℕ) (all : List ℕ) → m ≤ length all
    → Takes b c (take (length all - m) (drop m all)) n → m + n ≤ length all
takes_within b c m n all within now = omega (arith, now.fits, length-take (length all - m) (drop m all))

-- a read of the next n bytes of a list, of which some were given before
pub gives_next : (bytes left room copied : List ℕ) (given piece n : ℕ) → left ≡ drop given bytes → copied ≡ take n left
    → n ≡ min piece (min (length room) (length left)) → 0 < piece
    → Gives (Some left) (Some (drop (given + n) bytes)) room (copied ++ drop n room) n
gives_next bytes left room copied given piece n e c count some =
    let size : length copied ≡ n = ap length c ∙ length-take-le n left (omega arith) in
    let behind : drop (given + n) bytes ≡ drop n left = sym (drop-drop n given bytes) ∙ ap (drop n) (sym e) in
    record {
      fits = omega (arith, length-append copied (drop n room), size);
      bytes = rw (take_at copied (drop n room) n size) (sym (take-append-drop n left) ∙ ap (λ (l : List ℕ). l ++ drop n left) (sym c) ∙ ap (λ (l : List ℕ). copied ++ l) (sym behind));
      none = λ nothing asked. behind ∙ nil_from_length (drop n left) (omega (arith, length-drop n left, length-append copied (drop n room), length-drop n room, size));
      rest = drop_at copied (drop n room) n size;
    }
