-- A length put before bytes that were written first.
use Rattle.std.specs.Prelude.{if◌then◌else◌}
use Prim.Native.Nat.{ℕ, suc, ◌+◌, ◌-◌, ◌*◌, ◌/◌, ◌%◌, ◌≤◌, ◌<◌, ◌^◌}
use mathlib.Core.Bool.{Bool, true, false}
use mathlib.Core.Path.{◌≡◌, refl, sym, ◌∙◌, ap}
use mathlib.Core.List.{List, [], ◌∷◌, ◌++◌, append_assoc}
use lib.Dec.{ltb}
use lib.ListN.{length, set, take, drop, length-append, length-drop}
use lib.Seq.{sets, set-set, sets-eq, length-sets, length-take-le, drop_at, take-append_seam}
use borrow.Author.Tests.{lt-ltb}
use native.Mathlib.Omega.{arith}
use native.Mathlib.Decide.{dec_le}
use Rattle.definition.specs.Syntax.{Bytes}
use Rattle.definition.specs.Binary.{unsigned, u, sized}
use Rattle.laws.proofs.Sets.{sets-append}
use Rattle.emit.specs.Put.{Put, past}
use Rattle.emit.proofs.Laws.{sets_out, set_before}

-- ## Bytes stored over bytes

-- a run before a run may be stored after it
pub sets-before : (xs l : List ℕ) (i j : ℕ) (ys : List ℕ) → i + length xs ≤ j → sets (sets l j ys) i xs ≡ sets (sets l i xs) j ys
sets-before [] l i j ys h = refl
sets-before (x ∷ xs) l i j ys h = ap (λ z. sets z (suc i) xs) (set_before l i j x ys (omega arith)) ∙ sets-before xs (set l i x) (suc i) j ys (omega arith)

-- a run that has room is read back
pub sets-part : (l : List ℕ) (i : ℕ) (xs : List ℕ) → i + length xs ≤ length l → take (length xs) (drop i (sets l i xs)) ≡ xs
sets-part l i xs h =
    ap (λ z. take (length xs) (drop i z)) (sets-eq xs l i h ∙ append_assoc (take i l) xs (drop (i + length xs) l))
    ∙ ap (take (length xs)) (drop_at (take i l) (xs ++ drop (i + length xs) l) i (length-take-le i l (omega arith)))
    ∙ take-append_seam xs (drop (i + length xs) l)

-- a run that lies within a later one is gone
pub sets_over : (ys l : List ℕ) (i p : ℕ) (xs : List ℕ) → i ≤ p → p + length xs ≤ i + length ys → sets (sets l p xs) i ys ≡ sets l i ys
sets_over [] l i p [] h k = refl
sets_over [] l i p (x ∷ xs) h k = absurd (omega arith)
sets_over (y ∷ ys) l i p [] h k = refl
sets_over (y ∷ ys) l i p (x ∷ xs) h k = go (dec_le p i) (sets_over ys)
  where
    go : Dec (p ≤ i) → ((m : List ℕ) (j q : ℕ) (zs : List ℕ) → j ≤ q → q + length zs ≤ j + length ys → sets (sets m q zs) j ys ≡ sets m j ys)
        → sets (sets l p (x ∷ xs)) i (y ∷ ys) ≡ sets l i (y ∷ ys)
    go (no g) f = ap (λ z. sets z (suc i) ys) (set_before l i p y (x ∷ xs) (omega arith)) ∙ f (set l i y) (suc i) p (x ∷ xs) (omega arith) (omega arith)
    go (yes g) f =
        let e : p ≡ i = omega arith in
        let d : set (sets (set l i x) (suc i) xs) i y ≡ sets (set l i y) (suc i) xs = set_before (set l i x) i (suc i) y xs (omega arith) ∙ ap (λ z. sets z (suc i) xs) (set-set l i x y) in
        ap (λ q. sets (sets l q (x ∷ xs)) i (y ∷ ys)) e ∙ ap (λ z. sets z (suc i) ys) d ∙ f (set l i y) (suc i) (suc i) xs (omega arith) (omega arith)

-- ## A length

-- it has a group at least
u-some : (n : ℕ) → 1 ≤ length (u n)
unfolding u unsigned
u-some n = go (ltb n 128)
  where
    go : (t : Bool) → 1 ≤ length (if t then n ∷ [] else (n % 128 + 128) ∷ unsigned 8 (n / 128))
    go true = omega arith
    go false = omega arith

pub some-groups : (n g : ℕ) → g ≡ length (u n) → 1 ≤ g
some-groups n g e = omega (arith, u-some n)

-- and below 128 it is one
u-one : (n : ℕ) → n < 128 → u n ≡ n ∷ []
unfolding u unsigned
u-one n h = rw (lt-ltb n 128 h)

-- ## Places

-- far enough a place saturates
past_far : (at n : ℕ) → at ≤ 2 ^ 63 → 2 ^ 63 ≤ at + n → past at n ≡ 2 ^ 63
unfolding past
past_far at n h k = omega arith

-- and stays there
past_over : (at n : ℕ) → 2 ^ 63 ≤ at → past at n ≡ at
unfolding past
past_over at n h = omega arith

past-within : (at n : ℕ) → at ≤ 2 ^ 63 → past at n ≤ 2 ^ 63
unfolding past
past-within at n h = omega arith

past_then : (at k m : ℕ) → past (past at k) m ≡ past at (k + m)
unfolding past
past_then at k m = omega arith

past_exact : (n k : ℕ) → n ≡ past 0 k → k < 2 ^ 63 → n ≡ k
unfolding past
past_exact n k e h = omega (arith, e)

-- past the end nothing is stored
pub put-beyond : {l bs : List ℕ} {at r : ℕ} → length l ≤ at → length l < 2 ^ 63 → r ≡ past at (length bs) → Put l at bs r l
put-beyond {l} {bs} {at} h s e = record { place = e; bytes = λ _. sym (sets_out l at bs h); long = refl; short = s }

module _ {old mid bs : List ℕ} {at b n : ℕ} (h : at < length old) (x : Put old (at + 1) bs b mid) (e : n ≡ b - (at + 1)) where
  -- one group
  pub put-short : {r : ℕ} {new : List ℕ} → n < 128 → Put mid at (n ∷ []) r new → Put old at (sized bs) b new
  unfolding past sized
  put-short {r} {new} k y = go (dec_le (2 ^ 63) (at + 1 + length bs))
    where
      go : Dec (2 ^ 63 ≤ at + 1 + length bs) → Put old at (u (length bs) ++ bs) b new
      go (yes g) = record {
        place = omega (arith, x.place, x.short, length-append (u (length bs)) bs, u-some (length bs));
        bytes = λ f. absurd (omega (arith, length-append (u (length bs)) bs, u-some (length bs)));
        long = y.long ∙ x.long;
        short = x.short;
      }
      go (no g) =
          let i : n ≡ length bs = omega (arith, x.place, x.short) in
          let j : u (length bs) ≡ n ∷ [] = rw (← i) (u-one n k) in
          let c : at + 1 ≡ suc at = omega arith in
          let d : mid ≡ sets old (suc at) bs = x.bytes (omega arith) ∙ rw c refl in
          rw j record {
            place = omega (arith, x.place, x.short);
            bytes = λ f. y.bytes (omega arith) ∙ rw d (set_before old at (suc at) n bs (omega arith));
            long = y.long ∙ x.long;
            short = x.short;
          }

  -- more: the bytes are put once more, and cover the first
  pub put_again_lem : {q : ℕ} {new : List ℕ} → Put mid at (u n ++ bs) q new → Put old at (sized bs) q new
  unfolding past sized
  put_again_lem {q} {new} y = go (dec_le (2 ^ 63) (at + 1 + length bs))
    where
      go : Dec (2 ^ 63 ≤ at + 1 + length bs) → Put old at (u (length bs) ++ bs) q new
      go (yes g) = record {
        place = y.place
            ∙ past_far at (length (u n ++ bs)) (omega (arith, x.short)) (omega (arith, length-append (u n) bs, u-some n))
            ∙ sym (past_far at (length (u (length bs) ++ bs)) (omega (arith, x.short)) (omega (arith, length-append (u (length bs)) bs, u-some (length bs))));
        bytes = λ f. absurd (omega (arith, length-append (u (length bs)) bs, u-some (length bs)));
        long = y.long ∙ x.long;
        short = x.short;
      }
      go (no g) =
          let i : n ≡ length bs = omega (arith, x.place, x.short) in
          let d : mid ≡ sets old (at + 1) bs = x.bytes (omega arith) in
          let z = rw i at y in
          record {
            place = z.place;
            bytes = λ f. z.bytes f ∙ rw d (sets_over (u (length bs) ++ bs) old at (at + 1) bs (omega arith) (omega (arith, length-append (u (length bs)) bs, u-some (length bs))));
            long = y.long ∙ x.long;
            short = x.short;
          }

  -- more, and all has room: the bytes are moved up, not put once more
  pub put_moved : {k q : ℕ} {new : List ℕ} → k ≡ past b (length (u n) - 1) → k ≤ length mid → Put mid at (u n ++ take n (drop (at + 1) mid)) q new → Put old at (sized bs) q new
  unfolding past
  put_moved {k} {q} {new} f g y =
      let i : n ≡ length bs = omega (arith, x.place, x.short, x.long, f) in
      let d : mid ≡ sets old (at + 1) bs = x.bytes (omega (arith, x.place, x.short, x.long, f)) in
      let p : take n (drop (at + 1) mid) ≡ bs = rw (d, i) (sets-part old (at + 1) bs (omega (arith, x.place, x.short, x.long, f))) in
      put_again_lem (rw p at y)

  -- the length and the bytes have that room
  pub moved_room : {k : ℕ} → k ≡ past b (length (u n) - 1) → k ≤ length mid → at + length (u n) + n ≤ length mid
  unfolding past
  moved_room {k} f g = omega (arith, x.place, x.short, x.long, f, u-some n)

-- the place after bytes that were written after one group, by all the groups of their length
pub groups_end : (b n g r : ℕ) → g ≡ length (u n) → r ≡ past b (g - 1) → r ≡ past b (length (u n) - 1)
groups_end b n g r i e = rw (← i) e

-- bytes that stand after one group are moved up by the other groups of their length, which is then put before them
module _ (old : List ℕ) (at n g : ℕ) (i : g ≡ length (u n)) (h : at + length (u n) + n ≤ length old) where
  pub length-room : at + 1 + n + (g - 1) ≤ length old
  length-room = omega (arith, u-some n)

  module _ (s : length old * 1 < 2 ^ 63) (mid : List ℕ) (m : mid ≡ sets old (at + 1 + (g - 1)) (take n (drop (at + 1) old))) (c : ℕ) (new : List ℕ) (y : Put mid at (u n) c new) where
    after : c ≡ at + length (u n)
    unfolding past
    after = omega (arith, y.place)

    pub length-put : {r : ℕ} → r ≡ past c n → Put old at (u n ++ take n (drop (at + 1) old)) r new
    unfolding past
    length-put {r} f =
        let bs = take n (drop (at + 1) old) in
        let l : length bs ≡ n = length-take-le n (drop (at + 1) old) (rw length-drop (omega (arith, u-some n))) in
        let e : at + 1 + (g - 1) ≡ at + length (u n) = omega (arith, u-some n) in
        let d : mid ≡ sets old (at + length (u n)) bs = m ∙ rw e refl in
        record {
          place = omega (arith, after, f, l, length-append (u n) bs);
          bytes = λ _. y.bytes (omega arith) ∙ ap (λ z. sets z at (u n)) d ∙ sets-before (u n) old at (at + length (u n)) bs (omega arith) ∙ sym (sets-append old at (u n) bs);
          long = y.long ∙ ap length d ∙ length-sets old (at + length (u n)) bs;
          short = omega arith;
        }

-- the place after bytes and their length, by their measure
pub sized-place : (at n c r : ℕ) (bs : Bytes) → n ≡ past 0 (length bs) → c ≡ past at (length (u n)) → r ≡ past c n → r ≡ past at (length (sized bs))
unfolding sized
sized-place at n c r bs e d g = go (dec_le (2 ^ 63) (length bs)) (dec_le (2 ^ 63) at)
  where
    all : length (u (length bs) ++ bs) ≡ length (u (length bs)) + length bs
    all = length-append (u (length bs)) bs

    go : Dec (2 ^ 63 ≤ length bs) → Dec (2 ^ 63 ≤ at) → r ≡ past at (length (u (length bs) ++ bs))
    go (yes h) (yes k) = let m : c ≡ at = d ∙ past_over at _ k in g ∙ past_over c n (omega (arith, m)) ∙ m ∙ sym (past_over at _ k)
    go (yes h) (no k) =
        let m : n ≡ 2 ^ 63 = e ∙ past_far 0 (length bs) (omega arith) (omega arith) in
        let i : c ≤ 2 ^ 63 = rw d (past-within at (length (u n)) (omega arith)) in
        g ∙ past_far c n i (omega (arith, m)) ∙ sym (past_far at _ (omega arith) (omega (arith, all)))
    go (no h) k =
        let i : n ≡ length bs = past_exact n (length bs) e (omega arith) in
        g ∙ ap (λ z. past z n) d ∙ past_then at (length (u n)) n ∙ ap (past at) (ap (λ z. length (u z) + z) i ∙ sym all)
