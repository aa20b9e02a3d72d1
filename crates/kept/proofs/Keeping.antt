-- The kept bytes: where the parts begin, what is changed where one is lent, and what entries keep.
use Prim.Native.Nat.{ℕ, zero, suc, ◌+◌, ◌-◌, ◌*◌, ◌/◌, ◌^◌, ◌≤◌, ◌<◌}
use mathlib.Core.Path.{◌≡◌, refl, sym, ◌∙◌, ap}
use mathlib.Core.Bool.{Bool, true, false}
use mathlib.Core.List.{List, [], ◌∷◌, ◌++◌, map, append_assoc}
use lib.ListN.{length, get_or, take, drop, length-drop, length-take}
use lib.Seq.{take_at, drop_at, take-take, drop-drop, length-take-le}
use lib.Dec.{leb, eqb}
use mir.Syntax.{w64}
use mir.Val.{Fits}
use mir.Facts.{Fits-le}
use borrow.Author.Tests.{leb-true, leb-false, eq-eqb, ne_eqb, eqb-true, eqb-false}
use borrow.Rule.Slice.PartMut.{put_mid, same_len_mid, mid_len, take_put, drop_put}
use native.Mathlib.Nat.{le_trans, mul-le-mul_left}
use native.Mathlib.Omega.{arith}
use Rattle.definition.specs.Basic.{concat_map}
use Rattle.definition.specs.Syntax.{Bytes}
use Rattle.definition.specs.Binary.{in_section, joined}
use Rattle.laws.proofs.Exits.{if_either}
use Rattle.laws.proofs.Table.{everywhere}
use Rattle.laws.proofs.TypeSection.{section-append}
use Rattle.emit.specs.Put.{past, Put}
use Rattle.emit.proofs.Laws.{put-none, put_then}
use Rattle.deinline.specs.Entry.{Entries}
use Rattle.kept.specs.Sections.{SECTIONS}
use Rattle.kept.specs.Parts.{units_of, start_of, part_in}
use Rattle.kept.specs.Tally.{added, reached, tallies, Slots, Keeps}
use Rattle.kept.specs.declared.tally.Tally.{Tally}
use Rattle.kept.proofs.Tallies.{past-none, tallies-append, tallies-one, size_is}

-- ## Where the parts begin

units_up : (k : ℕ) → k < SECTIONS → units_of k ≤ units_of (k + 1)
unfolding units_of
units_up k h = leb-true _ _ (everywhere (λ k. leb (units_of k) (units_of (k + 1))) SECTIONS tt k h)

units_most : (k : ℕ) → units_of k ≤ 32
unfolding units_of
units_most k =
    if_either (λ x. x ≤ 32) (leb k 7) (λ e. omega (arith, leb-true k 7 e))
    (λ _. if_either (λ x. x ≤ 32) (leb k 10) (λ e. omega (arith, leb-true k 10 e))
    (λ _. if_either (λ x. x ≤ 32) (eqb k 11) (λ _. omega arith) (λ _. omega arith)))

units_later : (j d : ℕ) → j + d ≤ SECTIONS → units_of j ≤ units_of (j + d)
units_later j zero h = let e : j + 0 ≡ j = omega arith in rw e (omega arith)
units_later j (suc d) h =
    let e : j + suc d ≡ (j + d) + 1 = omega arith in
    rw e (le_trans (units_later j d (omega arith)) (units_up (j + d) (omega arith)))

-- a part begins before the next one
pub start_up : (len k : ℕ) → k < SECTIONS → start_of len k ≤ start_of len (k + 1)
unfolding start_of
start_up len k h = mul-le-mul_left (len / 32) (units_up k h)

-- and before all later ones
pub start-later : (len j k : ℕ) → j ≤ k → k ≤ SECTIONS → start_of len j ≤ start_of len k
unfolding start_of
start-later len j k h b =
    let e : j + (k - j) ≡ k = omega arith in
    mul-le-mul_left (len / 32) (let z = units_later j (k - j) (omega arith) in rw e at z)

-- the last one ends within the kept bytes
pub start-within : (len k : ℕ) → start_of len k ≤ len
unfolding start_of
start-within len k = let z = mul-le-mul_left (len / 32) (units_most k) in omega arith

-- a part stands in order and within the kept bytes
pub part-order : (kept : Bytes) (k a b : ℕ) → k < SECTIONS → a ≡ start_of (length kept) k → b ≡ start_of (length kept) (k + 1) → a ≤ b
part-order kept k a b h from to = rw (from, to) (start_up (length kept) k h)

pub part-within : (kept : Bytes) (k a : ℕ) → a ≡ start_of (length kept) k → a ≤ length kept
part-within kept k a e = rw e (start-within (length kept) k)

-- as the code computes it
pub start_fits : (len k r : ℕ) → r ≡ units_of k → Fits w64 len → Fits w64 ((len / 32) * r)
unfolding start_of
start_fits len k r e f = rw e (Fits-le (start-within len k) f)

pub start_is : (len k r : ℕ) → r ≡ units_of k → (len / 32) * r ≡ start_of len k
unfolding start_of
start_is len k r e = rw e refl

-- ## Parts of a list

-- as great as k at most, and not k
below : (j k : ℕ) → j ≤ k → (j ≡ k → ⊥) → j < k
below j k h d = omega arith

-- what stands before a place
before-place : (m n a : ℕ) (l : Bytes) → n + m ≤ a → take m (drop n l) ≡ take m (drop n (take a l))
before-place m zero a l h = sym (take-take m a l (omega arith))
before-place m (suc n) zero l h = absurd (omega arith)
before-place m (suc n) (suc a) [] h = refl
before-place m (suc n) (suc a) (x ∷ l) h = before-place m n a l (omega arith)

part-before : (x y : Bytes) (m n a : ℕ) → n + m ≤ a → take a x ≡ take a y → take m (drop n x) ≡ take m (drop n y)
part-before x y m n a h e = before-place m n a x h ∙ ap (λ (z : Bytes). take m (drop n z)) e ∙ sym (before-place m n a y h)

drop-later : (x y : Bytes) (n b : ℕ) → b ≤ n → drop b x ≡ drop b y → drop n x ≡ drop n y
drop-later x y n b h e = sym (whole x) ∙ ap (λ (z : Bytes). drop (n - b) z) e ∙ whole y
  where
    sum : b + (n - b) ≡ n
    sum = omega arith

    whole : (l : Bytes) → drop (n - b) (drop b l) ≡ drop n l
    whole l = drop-drop (n - b) b l ∙ ap (λ k. drop k l) sum

part-short : (kept : Bytes) (k : ℕ) → length (part_in kept k) ≤ length kept
unfolding part_in
part-short kept k =
    let a = start_of (length kept) k in
    let b = start_of (length kept) (k + 1) in
    let d = length-drop a kept in
    let e = length-take (b - a) (drop a kept) in
    omega arith

-- ## A part is lent and changed

module _ (old new : Bytes) (k a b : ℕ) (h : k < SECTIONS) (from : a ≡ start_of (length old) k) (to : b ≡ start_of (length old) (k + 1)) (l : length new ≡ length (take (b - a) (drop a old))) where
  in_order : a ≤ b
  in_order = rw (from, to) (start_up (length old) k h)

  inside : b ≤ length old
  inside = rw to (start-within (length old) (k + 1))

  as_long : length new ≡ b - a
  as_long = l ∙ mid_len a b old inside

  -- the kept bytes are as many as they were
  pub lent-long : length (put_mid a (b - a) old new) ≡ length old
  lent-long = same_len_mid a (b - a) old new l

  -- the part is what it was changed to
  pub lent-here : part_in (put_mid a (b - a) old new) k ≡ new
  unfolding part_in
  lent-here =
      rw (lent-long, sym from, sym to, drop_at (take a old) (new ++ drop (b - a) (drop a old)) a (length-take-le a old (le_trans in_order inside)))
      (take_at new (drop (b - a) (drop a old)) (b - a) as_long)

  -- and every other one is what it was
  pub lent-there : (j : ℕ) → j < SECTIONS → (j ≡ k → ⊥) → part_in (put_mid a (b - a) old new) j ≡ part_in old j
  unfolding part_in
  lent-there j g d = rw lent-long (go (leb j k) refl)
    where
      go : (t : Bool) → leb j k ≡ t → take (start_of (length old) (j + 1) - start_of (length old) j) (drop (start_of (length old) j) (put_mid a (b - a) old new))
          ≡ take (start_of (length old) (j + 1) - start_of (length old) j) (drop (start_of (length old) j) old)
      go true e =
          let z : j < k = below j k (leb-true _ _ e) d in
          let u = start_up (length old) j g in
          let v = start-later (length old) (j + 1) k (omega arith) (omega arith) in
          part-before (put_mid a (b - a) old new) old (start_of (length old) (j + 1) - start_of (length old) j) (start_of (length old) j) a (omega arith) (take_put a (b - a) old new (le_trans in_order inside))
      go false e =
          let z : k < j = leb-false _ _ e in
          let v = start-later (length old) (k + 1) j (omega arith) (omega arith) in
          ap (take (start_of (length old) (j + 1) - start_of (length old) j)) (drop-later (put_mid a (b - a) old new) old (start_of (length old) j) b (omega arith) (drop_put a b old new in_order inside as_long))

-- ## The entries of one section

pub section-own : (k : ℕ) (bs : List Bytes) → in_section k (map (λ b. (k, b)) bs) ≡ bs
unfolding in_section
section-own k [] = refl
section-own k (b ∷ bs) = rw (eq-eqb k k refl) (ap (λ (z : List Bytes). b ∷ z) (section-own k bs))

pub section-other : (j k : ℕ) (bs : List Bytes) → (j ≡ k → ⊥) → in_section j (map (λ b. (k, b)) bs) ≡ []
unfolding in_section
section-other j k [] d = refl
section-other j k (b ∷ bs) d = rw (ne_eqb j k d) (section-other j k bs d)

pub joined-append : (xs ys : List Bytes) → joined (xs ++ ys) ≡ joined xs ++ joined ys
unfolding joined concat_map
joined-append [] ys = refl
joined-append (b ∷ xs) ys = ap (λ (l : Bytes). b ++ l) (joined-append xs ys) ∙ sym (append_assoc b (joined xs) (joined ys))

joined-none : joined [] ≡ []
unfolding joined concat_map
joined-none = refl

-- the place that was reached is the tally of the entries that were put
pub reached-is : (t : Tally) (k to n : ℕ) (es : List Bytes) → k < SECTIONS → Slots t → to ≡ past (get_or t.sizes k 0) (length (joined es)) → n ≡ length es → reached t k to n ≡ tallies t (map (λ b. (k, b)) es)
unfolding reached added
reached-is t k to n es h w d e = rw (d, e) (sym (tallies-one t k es h w))

-- ## What entries keep

-- none: nothing changes
pub keeps-none : (kept : Bytes) (t : Tally) → length kept * 1 < 2 ^ 63 → Keeps kept t [] kept
unfolding in_section tallies
keeps-none kept t s =
    record { each = λ k h. (let z = part-short kept k in rw joined-none (put-none (get_or t.sizes k 0) (omega arith))); long = refl }

-- one list after another
pub keeps_then : (a b c : Bytes) (t t₁ : Tally) (es fs : Entries) → t₁ ≡ tallies t es → Keeps a t es b → Keeps b t₁ fs c → Keeps a t (es ++ fs) c
keeps_then a b c t t₁ es fs e x y =
    record {
      each = λ k h. rw (tallies-append t es fs, section-append k es fs, joined-append (in_section k es) (in_section k fs)) (put_then (x.each k h) (let z = y.each k h in rw e at z));
      long = y.long ∙ x.long;
    }

-- the entries of one section, put into its part
pub keeps-one : (old new : Bytes) (t : Tally) (k to : ℕ) (es : List Bytes) → k < SECTIONS → Slots t → length old * 1 < 2 ^ 63 → Put (part_in old k) (get_or t.sizes k 0) (joined es) to (part_in new k)
    → ((j : ℕ) → j < SECTIONS → (j ≡ k → ⊥) → part_in new j ≡ part_in old j) → length new ≡ length old → Keeps old t (map (λ b. (k, b)) es) new
keeps-one old new t k to es h w s p o l = record { each = λ j g. go j g (eqb j k) refl; long = l }
  where
    go : (j : ℕ) → j < SECTIONS → (x : Bool) → eqb j k ≡ x
        → Put (part_in old j) (get_or t.sizes j 0) (joined (in_section j (map (λ b. (k, b)) es))) (get_or (tallies t (map (λ b. (k, b)) es)).sizes j 0) (part_in new j)
    go j g true e = let z : j ≡ k = eqb-true _ _ e in rw (z, size_is k h t (map (λ b. (k, b)) es) w, section-own k es, sym p.place) p
    go j g false e =
        let z = part-short old j in
        let d : j ≡ k → ⊥ = eqb-false _ _ e in
        rw (size_is j g t (map (λ b. (k, b)) es) w, section-other j k es d, joined-none, o j g d, past-none (get_or t.sizes j 0)) (put-none (get_or t.sizes j 0) (omega arith))

-- the same, as a part is lent for it
pub keeps-lent : (old new : Bytes) (t : Tally) (k a b to : ℕ) (es : List Bytes) → k < SECTIONS → Slots t → length old * 1 < 2 ^ 63 → a ≡ start_of (length old) k → b ≡ start_of (length old) (k + 1)
    → Put (take (b - a) (drop a old)) (get_or t.sizes k 0) (joined es) to new → Keeps old t (map (λ b. (k, b)) es) (put_mid a (b - a) old new)
unfolding part_in
keeps-lent old new t k a b to es h w s d e p =
    keeps-one old (put_mid a (b - a) old new) t k to es h w s (rw (lent-here old new k a b h d e p.long, sym d, sym e) p) (lent-there old new k a b h d e p.long) (lent-long old new k a b h d e p.long)
