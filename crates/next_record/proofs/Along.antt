-- The loop over operands: what is due is kept in the bits of a number.
use Rattle.std.specs.Prelude.{Option as Optional, Some, None, Result, Ok, Err, IsErrAnd}
use Rattle.std.specs.Result.{IsErr}
use Rattle.syntax.specs.Refusals.{number}
use mathlib.Core.Path.{◌≡◌, refl, sym, ap, ◌∙◌}
use Prim.Native.Nat.{ℕ, zero, suc, ◌+◌, ◌*◌, ◌-◌, ◌/◌, ◌%◌, ◌^◌, ◌≤◌, ◌<◌}
use mathlib.Core.Bool.{Bool, true, false}
use mathlib.Core.List.{List, [], ◌∷◌}
use lib.Count.{count_trailing_zeros, trailing_le}
use lib.Pow.{pow_pos, pow-lt, shr-shr, shr_le}
use mir.Syntax.{w32, w64}
use mir.Val.{Fits}
use native.Mathlib.Nat.{pow-suc, mul_assoc, mul-one, one-mul, div-one, mod-eq_of_lt, le-div_iff_mul-le}
use native.Mathlib.Omega.{arith}
use Rattle.definition.specs.Syntax.{Bytes}
use Rattle.definition.specs.Reader.{got, byte}
use Rattle.syntax.specs.declared.Place.{Place}
use Rattle.next_record.specs.Places.{record_past}
use Rattle.next_record.specs.Folds.{Head, Fold, fold_of, head_at, head_with, on_fold, operands_by, folded_at, PastAt, NextAt}
use Rattle.next_record.specs.declared.record.Does.{Does}
use Rattle.next_record.specs.declared.record.FaultAt.{FaultAt}
use Rattle.next_record.specs.declared.head.Due as Next
use Rattle.next_record.specs.Answers.{refused_here}
use Rattle.syntax.specs.declared.Fault.{Fault}
use Rattle.next_record.specs.Folds as L
use Rattle.next_record.proofs.Folding.{foldings, fold_handed, with_operands, PassedBy, folded_passes}
use Rattle.next_record.proofs.Heads.{head_few}

-- ## One record

module _ (left : ℕ) (s : Bytes) (does : Does) (p : Place) (due : ℕ) where
  pub next-refused : (e : FaultAt Fault) → L.stopped (number e.fault) e.place ≡ folded_at left s does p → NextAt left s does p due (Err e)
  unfolding NextAt
  next-refused e h = sym h

  pub next-handed : (r : Result (Optional Next.Due) (FaultAt Fault)) (n : Fault) → r ≡ Err (refused_here p n) → L.stopped (number n) p ≡ folded_at left s does p → NextAt left s does p due r
  unfolding NextAt
  next-handed r n e g = rw e (sym g)

  pub next_full : 1 ≤ left → NextAt left s does p due (Ok None)
  unfolding NextAt
  next_full h = h

-- what there is room for
fits_in : (due n : ℕ) → due ≤ 18446744073709551615 / 2 ^ n → due * 2 ^ n < 2 ^ 64
fits_in due n h = let a = (le-div_iff_mul-le (pow_pos n)).0 h in omega arith

module _ (left : ℕ) (s : Bytes) (does : Does) (p : Place) (due : ℕ) (b at : ℕ) (told : byte s p.at ≡ got b at) (e : b ≡ 0xF0)
    (l : p.rec < 4096) (h : 1 ≤ left) (r : Head) (head : r ≡ head_with does (head_at s at)) where
  pub next_here : (m : Does) (n next : ℕ) (o : Place) → r ≡ L.head m n next → due ≤ 18446744073709551615 / 2 ^ n → o ≡ record_past p next p.depth
      → NextAt left s does p due (Ok (Some (record { does = m; count = n; place = o })))
  unfolding NextAt record_past
  next_here m n next o g i j =
      record {
        same = sym (with_operands left s does p (operands_by (folded_at (left - 1) s) n m o) b at told e l h r head m n next o g j refl);
        nests = h;
        few = head_few s at does m n next (sym head ∙ g);
        room = fits_in due n i;
        later = let z : o.rec ≡ p.rec + 1 = ap (λ (x : Place). x.rec) j in omega arith;
        most = let z : o.rec ≡ p.rec + 1 = ap (λ (x : Place). x.rec) j in omega arith;
        deep = ap (λ (x : Place). x.depth) j;
      }

-- its count was read
pub few-count : (s : Bytes) (at : ℕ) (does m : Does) (n next : ℕ) → L.head m n next ≡ head_with does (head_at s at) → n ≤ 16
few-count s at does m n next h = head_few s at does m n next (sym h)

pub one_less : (left : ℕ) → left ≤ 32 → left - 1 ≤ 32
one_less left h = omega arith

-- no shift is too far
pub few_bits : (s : Bytes) (at : ℕ) (does m : Does) (n next : ℕ) → L.head m n next ≡ head_with does (head_at s at) → n < 64
few_bits s at does m n next h = omega (arith, few-count s at does m n next h)

pub ruleset nexts = (next-refused, next-handed, next_full, next_here, foldings)

-- ## What is due, in bits

-- from the lowest: a one is an operand, a zero the end of the operands of a record
abbrev pub value : List Bool → ℕ
value [] = 0
value (true ∷ bs) = 1 + 2 * value bs
value (false ∷ bs) = 2 * value bs

-- the operands read one after the other; after the last of a record one more may be nested
abbrev pub along : Bytes → List Bool → ℕ → Does → Place → Fold
along s [] left d p = L.passed d p
along s (true ∷ bs) left d p = on_fold (folded_at left s d p) (λ e q. along s bs left e q)
along s (false ∷ bs) left d p = along s bs (suc left) d p

-- zero: nothing is due
none-due : (s : Bytes) (bs : List Bool) (left : ℕ) (d : Does) (p : Place) → value bs ≡ 0 → along s bs left d p ≡ L.passed d p
none-due s [] left d p h = refl
none-due s (true ∷ bs) left d p h = absurd (omega arith)
none-due s (false ∷ bs) left d p h = none-due s bs (suc left) d p (omega arith)

-- so many operands, and then what was due before
abbrev puts : ℕ → List Bool → List Bool
puts zero bs = bs
puts (suc n) bs = true ∷ puts n bs

puts_value : (n : ℕ) (bs : List Bool) → value (puts n bs) + 1 ≡ (value bs + 1) * 2 ^ n
puts_value zero bs = let z = mul-one (value bs + 1) in omega arith
puts_value (suc n) bs =
    let i = puts_value n bs in
    let z : (value bs + 1) * 2 ^ suc n ≡ (value bs + 1) * 2 ^ n * 2 = ap (λ k. (value bs + 1) * k) (pow-suc 2 n) ∙ sym (mul_assoc (value bs + 1) (2 ^ n) 2) in
    omega arith

along_puts : (s : Bytes) (n : ℕ) (bs : List Bool) (left : ℕ) (d : Does) (p : Place)
    → along s (puts n bs) left d p ≡ on_fold (operands_by (folded_at left s) n d p) (λ e q. along s bs left e q)
unfolding operands_by
along_puts s zero bs left d p = refl
along_puts s (suc n) bs left d p = go (folded_at left s d p) (λ e q. along_puts s n bs left e q)
  where
    go : (x : Fold) → ((e : Does) (q : Place) → along s (puts n bs) left e q ≡ on_fold (operands_by (folded_at left s) n e q) (λ o r. along s bs left o r))
        → on_fold x (λ e q. along s (puts n bs) left e q) ≡ on_fold (on_fold x (λ e q. operands_by (folded_at left s) n e q)) (λ e q. along s bs left e q)
    go (L.passed e q) h = h e q
    go (L.stopped k q) h = refl

-- how many records wait for the end of their operands
abbrev pub levels : List Bool → ℕ
levels [] = 0
levels (true ∷ bs) = levels bs
levels (false ∷ bs) = suc (levels bs)

puts_levels : (n : ℕ) (bs : List Bool) → levels (puts n bs) ≡ levels bs
puts_levels zero bs = refl
puts_levels (suc n) bs = puts_levels n bs

-- `t` records have had all their operands: what is due then begins with one
record Ended (s : Bytes) (bs : List Bool) (t : ℕ) : Type 0 where
  rest : List Bool
  is : value bs / 2 ^ t ≡ value (true ∷ rest)
  same : (left : ℕ) (d : Does) (p : Place) → along s (true ∷ rest) (left + t) d p ≡ along s bs left d p
  fewer : levels bs ≡ t + levels rest

-- a number that is odd has none, and twice a number one more
odd_none : (k v : ℕ) → count_trailing_zeros (suc k) (1 + 2 * v) ≡ 0
unfolding count_trailing_zeros
odd_none k v = let z : (1 + 2 * v) % 2 ≡ 1 = omega arith in rw z

twice-more : (k v : ℕ) → count_trailing_zeros (suc k) (2 * v) ≡ suc (count_trailing_zeros k v)
unfolding count_trailing_zeros
twice-more k v = let z : 2 * v % 2 ≡ 0 = omega arith in let y : 2 * v / 2 ≡ v = omega arith in rw (z, y)

ended_now : (s : Bytes) (bs : List Bool) → Ended s (true ∷ bs) 0
ended_now s bs = record { rest = bs; is = div-one (1 + 2 * value bs); same = λ left d p. let y : left + 0 ≡ left = omega arith in rw y; fewer = omega arith }

ended-more : (s : Bytes) (bs : List Bool) (t : ℕ) → Ended s bs t → Ended s (false ∷ bs) (suc t)
ended-more s bs t e =
    record {
      rest = e.rest;
      is =
          let y : 2 * value bs / 2 ≡ value bs = omega arith in
          let z : 1 + t ≡ suc t = omega arith in
          (rw z at (sym (shr-shr (2 * value bs) 1 t))) ∙ ap (λ v. v / 2 ^ t) y ∙ e.is;
      same = λ left d p. let y : left + suc t ≡ suc left + t = omega arith in rw y (e.same (suc left) d p);
      fewer = omega (arith, e.fewer);
    }

-- the zeros at the low end
ended : (s : Bytes) (k : ℕ) (bs : List Bool) → 0 < value bs → value bs < 2 ^ k → Ended s bs (count_trailing_zeros k (value bs))
ended s k [] h l = absurd (omega arith)
ended s zero (b ∷ bs) h l = absurd (omega arith)
ended s (suc k) (true ∷ bs) h l = rw (odd_none k (value bs)) (ended_now s bs)
ended s (suc k) (false ∷ bs) h l =
    let g : 2 ^ suc k ≡ 2 ^ k * 2 = pow-suc 2 k in
    rw (twice-more k (value bs)) (ended-more s bs (count_trailing_zeros k (value bs)) (ended s k bs (omega arith) (omega arith)))

-- are fewer than all
ended-few : (k : ℕ) (bs : List Bool) → 0 < value bs → value bs < 2 ^ k → count_trailing_zeros k (value bs) < k
ended-few k [] h l = absurd (omega arith)
ended-few zero (b ∷ bs) h l = absurd (omega arith)
ended-few (suc k) (true ∷ bs) h l = rw (odd_none k (value bs)) (omega arith)
ended-few (suc k) (false ∷ bs) h l =
    let g : 2 ^ suc k ≡ 2 ^ k * 2 = pow-suc 2 k in
    let i = ended-few k bs (omega arith) (omega arith) in
    rw (twice-more k (value bs)) (omega (arith, i))

-- ## The loop

-- what is due, and that it comes to what the operands from `p` on come to
pub record Due (nesting : ℕ) (s : Bytes) (p : Place) (n : ℕ) (does : Does) (at rec left due : ℕ) (d : Does) : Type 0 where
  pub bits : List Bool
  pub is : due ≡ value bits
  pub room : due < 2 ^ 64
  pub same : along s bits left d (record { at = at; rec = rec; depth = p.depth }) ≡ operands_by (folded_at nesting s) n does p
  pub level : left + levels bits ≡ nesting
  pub shallow : nesting ≤ 32

onward-is : (x : Fold) → on_fold x (λ d q. L.passed d q) ≡ x
onward-is (L.passed d q) = refl
onward-is (L.stopped n q) = refl

-- all of them
one_shifted : (n : ℕ) → n ≤ 16 → (1 * 2 ^ n) % 2 ^ 64 ≡ value (puts n []) + 1
one_shifted n h =
    let z : 1 * 2 ^ n ≡ value (puts n []) + 1 = sym (puts_value n []) in
    mod-eq_of_lt (rw z (let y = pow-lt (lt_64 h) in let w = one-mul (2 ^ n) in omega (arith, z))) ∙ z
  where
    lt_64 : n ≤ 16 → n < 64
    lt_64 g = omega arith

pub first-due : (n : ℕ) → n ≤ 16 → 1 ≤ (1 * 2 ^ n) % 2 ^ 64
first-due n h = omega (arith, one_shifted n h)

pub due-begin : (nesting : ℕ) (s : Bytes) (p : Place) (n : ℕ) (does : Does) → n ≤ 16 → nesting ≤ 32
    → Due nesting s p n does p.at p.rec nesting ((1 * 2 ^ n) % 2 ^ 64 - 1) does
due-begin nesting s p n does h g =
    record {
      bits = puts n [];
      is = omega (arith, one_shifted n h);
      room = omega arith;
      same = along_puts s n [] nesting does p ∙ onward-is (operands_by (folded_at nesting s) n does p);
      level = omega (arith, puts_levels n []);
      shallow = g;
    }

module _ {nesting : ℕ} {s : Bytes} {p : Place} {n : ℕ} {does : Does} {at rec left due : ℕ} {d : Does} (v : Due nesting s p n does at rec left due d) where
  abbrev Here : Place
  Here = record { at = at; rec = rec; depth = p.depth }

  abbrev zeros : ℕ
  zeros = count_trailing_zeros 64 due

  pub due-none : (o : Place) → due ≤ 0 → o ≡ Here → L.passed d o ≡ operands_by (folded_at nesting s) n does p
  due-none o h i = let z : value v.bits ≡ 0 = omega (arith, v.is) in rw i (sym (none-due s v.bits left d Here z) ∙ v.same)

  pub left-fits : Fits w32 (left + zeros)
  left-fits = let z = trailing_le 64 due in omega (arith, v.level, v.shallow)

  pub zeros_fit : Fits w64 zeros
  zeros_fit = let z = trailing_le 64 due in omega arith

  module _ (h : 0 < due) where
    begins : Ended s v.bits zeros
    begins = let e = v.is in rw (← e) at (ended s 64 v.bits (omega (arith, e)) (omega (arith, e, v.room)))

    pub zeros_few : zeros < 64
    zeros_few = let e = v.is in rw (← e) at (ended-few 64 v.bits (omega (arith, e)) (omega (arith, e, v.room)))

    -- what is due begins with an operand
    record Begun : Type 0 where
      rest : List Bool
      is : due / 2 ^ zeros ≡ value (true ∷ rest)
      same : on_fold (folded_at (left + zeros) s d Here) (λ e q. along s rest (left + zeros) e q) ≡ operands_by (folded_at nesting s) n does p
      level : left + zeros + levels rest ≡ nesting

    begun : Begun
    begun =
        let e = begins in
        record {
          rest = e.rest;
          is = ap (λ x. x / 2 ^ zeros) v.is ∙ e.is;
          same = e.same left d Here ∙ v.same;
          level = omega (arith, v.level, e.fewer);
        }

    left-nested : left + zeros ≤ nesting
    left-nested = omega (arith, begun.level)

    pub left_falls : (t : ℕ) → 2 * nesting + 1 ≡ t → 2 * (left + zeros) < t
    left_falls t e = omega (arith, left-nested)

    pub left_shallow : left + zeros ≤ 32
    left_shallow = omega (arith, begun.level, v.shallow)

    pub some-due : 1 ≤ due / 2 ^ zeros
    some-due = omega (arith, begun.is)

    -- a fault is handed on
    stops-there : (r : Result (Does × Place) (FaultAt Fault)) (e : FaultAt Fault) → folded_at (left + zeros) s d Here ≡ L.stopped (number e.fault) e.place → IsErr r → IsErrAnd r (λ z. z ≡ e)
        → fold_of r ≡ operands_by (folded_at nesting s) n does p
    stops-there r e g i h = fold_handed _ r e i h (sym (ap (λ y. on_fold y (λ o q. along s begun.rest (left + zeros) o q)) g) ∙ begun.same)

    -- the operands of a record have taken its place
    goes_on : (e : Does) (m : ℕ) (q : Place) (x : ℕ) → folded_at (left + zeros) s d Here ≡ operands_by (folded_at (left + zeros - 1) s) m e q → 1 ≤ left + zeros
        → q.depth ≡ p.depth → x < 2 ^ 64 → x ≡ value (puts m (false ∷ begun.rest)) → Due nesting s p n does q.at q.rec (left + zeros - 1) x e
    goes_on e m q x f w g r i =
        record {
          bits = puts m (false ∷ begun.rest);
          is = i;
          room = r;
          same =
              let y : suc (left + zeros - 1) ≡ left + zeros = omega arith in
              let o : ◌≡◌ {A = Place} (record { at = q.at; rec = q.rec; depth = p.depth }) q = rw (← g) refl in
              let u : along s (puts m (false ∷ begun.rest)) (left + zeros - 1) e q ≡ on_fold (operands_by (folded_at (left + zeros - 1) s) m e q) (λ o r. along s begun.rest (suc (left + zeros - 1)) o r) =
              along_puts s m (false ∷ begun.rest) (left + zeros - 1) e q in
              rw o (u ∙ rw y (ap (λ x. on_fold x (λ o r. along s begun.rest (left + zeros) o r)) (sym f) ∙ begun.same));
          level = omega (arith, begun.level, puts_levels m (false ∷ begun.rest));
          shallow = v.shallow;
        }

    pub due-refused : (r : Result (Does × Place) (FaultAt Fault)) (e : FaultAt Fault) → NextAt (left + zeros) s d Here (due / 2 ^ zeros) (Err e) → IsErr r → IsErrAnd r (λ z. z ≡ e)
        → fold_of r ≡ operands_by (folded_at nesting s) n does p
    unfolding NextAt
    due-refused r e told i h = stops-there r e told i h

    pub full_refused : (r : Result (Does × Place) (FaultAt Fault)) (e : FaultAt Fault) → L.stopped (number e.fault) e.place ≡ folded_at (left + zeros) s d Here → IsErr r → IsErrAnd r (λ z. z ≡ e)
        → fold_of r ≡ operands_by (folded_at nesting s) n does p
    full_refused r e is i h = stops-there r e (sym is) i h

    module _ (x : Optional Next.Due) (told : NextAt (left + zeros) s d Here (due / 2 ^ zeros) (Ok x)) where
      module _ (y : Next.Due) (g : x ≡ Some y) where
        was_past : PastAt (left + zeros) s d Here (due / 2 ^ zeros) y.does y.count y.place
        unfolding NextAt
        was_past = rw g at told

        pub few-operands : y.count < 64
        few-operands = omega (arith, was_past.few)

        pub left-some : 1 ≤ left + zeros
        left-some = was_past.nests

        taken : (due / 2 ^ zeros * 2 ^ y.count) % 2 ^ 64 ≡ value (puts y.count (false ∷ begun.rest)) + 1
        taken = mod-eq_of_lt was_past.room ∙ ap (λ k. k * 2 ^ y.count) (begun.is ∙ one_more (value begun.rest)) ∙ sym (puts_value y.count (false ∷ begun.rest))
          where
            one_more : (k : ℕ) → 1 + 2 * k ≡ 2 * k + 1
            one_more k = omega arith

        pub one-due : 1 ≤ (due / 2 ^ zeros * 2 ^ y.count) % 2 ^ 64
        one-due = omega (arith, taken)

        pub due_less : 4096 - y.place.rec < 4096 - rec
        due_less = omega (arith, was_past.later, was_past.most)

        pub due_again : Due nesting s p n does y.place.at y.place.rec (left + zeros - 1) ((due / 2 ^ zeros * 2 ^ y.count) % 2 ^ 64 - 1) y.does
        due_again = goes_on y.does y.count y.place _ was_past.same was_past.nests was_past.deep (omega arith) (omega (arith, taken))

      -- there is no room: it is read with all its operands
      module _ (g : x ≡ None) where
        pub full_nests : 1 ≤ left + zeros
        unfolding NextAt
        full_nests = rw g at told

        module _ (e : Does) (q : Place) (is : L.passed e q ≡ folded_at (left + zeros) s d Here) where
          after_it : PassedBy Here (L.passed e q)
          after_it = rw (sym is) at (folded_passes (left + zeros) s d Here)

          pub full_less : 4096 - q.rec < 4096 - rec
          full_less = omega (arith, after_it.1, after_it.0.most)

          pub full_again : Due nesting s p n does q.at q.rec (left + zeros - 1) (due / 2 ^ zeros - 1) e
          unfolding operands_by
          full_again = goes_on e 0 q _ (sym is) full_nests after_it.0.deep (omega (arith, v.room, smaller)) (omega (arith, begun.is))
            where
              smaller : due / 2 ^ zeros ≤ due
              smaller = shr_le due zeros
