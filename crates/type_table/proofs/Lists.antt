-- Plain mathematics of lists of value types.
use Rattle.std.specs.Prelude.{if◌then◌else◌, Option, Some, None, Ok, Err}
use Prim.Native.Nat.{ℕ, zero, suc, ◌+◌, ◌-◌, ◌≤◌, ◌<◌}
use mathlib.Core.Path.{◌≡◌, refl, sym, ◌∙◌, ap}
use mathlib.Core.Bool.{Bool, true, false, ◌&&◌}
use mathlib.Core.List.{List, [], ◌∷◌, map}
use lib.ListN.{length}
use lib.Dec.{eqb, leb, ltb}
use borrow.Author.Tests.{eq-eqb, ne_eqb, lt-ltb, ltb-true, ltb-false}
use mir.Syntax.{w32}
use mir.Val.{Fits}
use native.Mathlib.Omega.{arith}
use Rattle.definition.specs.Basic.{same, same_bytes}
use Rattle.definition.specs.Syntax as Syntax
use Rattle.definition.specs.Syntax.{Bytes, Identifier, ValType}
use Rattle.definition.specs.Reader.{Step, got, fault, Reader, onward}
use Rattle.definition.specs.Token.{param, val_type}
use Rattle.definition.specs.Types.{is_short, is_inline}
use Rattle.syntax.specs.Reads.{Read}
use Rattle.syntax.specs.Tokens.{byte_at}
use Rattle.syntax.specs.declared.Fault.{Fault}
use Rattle.syntax.specs.TypeUses.{local_at, on_step, elements, use_of}
use Rattle.syntax.specs.declared.Local.{Local}
use Rattle.syntax.specs.declared.List as Code
use Rattle.syntax.specs.declared.TypeUse.{TypeUse}
use Rattle.type_table.specs.Table.{types_of, typed, types_next, Left, both_next, Both}
use Rattle.type_table.specs.declared.list.NextBoth.{NextBoth}
use Rattle.type_table.specs.declared.list.NextBoth.TheVariants as B

-- ## The next type

elements_cons : {A : Type 0} (p : Reader A) (s : Bytes) (at n : ℕ) → (n ≡ 0 → ⊥) → elements p s at n ≡ on_step (p s at) (λ x next. x ∷ elements p s next (n - 1)) []
unfolding elements
elements_cons p s at zero h = absurd (h refl)
elements_cons p s at (suc n) h = let e : suc n - 1 ≡ n = omega arith in rw e

module _ (s : Bytes) (at left : ℕ) (named : Bool) where
  pub next_zero : left ≡ 0 → elements (typed named) s at left ≡ types_next named left s None
  unfolding elements
  next_zero e = rw e

  module _ (h : left ≡ 0 → ⊥) where
    pub next_param : (r : Read Local) (l : Local) (q : ℕ) → named ≡ true → param s at ≡ local_at s r → r ≡ Ok (l, q) → elements (typed named) s at left ≡ types_next named left s (Some (l.value, q))
    next_param r l q d e f = elements_cons (typed named) s at left h ∙ rw (d, e, f)

    pub next_no_param : (r : Read Local) (n : Fault) → named ≡ true → param s at ≡ local_at s r → r ≡ Err n → elements (typed named) s at left ≡ types_next named left s None
    next_no_param r n d e f = elements_cons (typed named) s at left h ∙ rw (d, e, f)

    pub next-type : (r : Read ℕ) (t q : ℕ) → named ≡ false → val_type s at ≡ byte_at r → r ≡ Ok (t, q) → elements (typed named) s at left ≡ types_next named left s (Some (t, q))
    next-type r t q d e f = elements_cons (typed named) s at left h ∙ rw (d, e, f)

    pub next_no_type : (r : Read ℕ) (n : Fault) → named ≡ false → val_type s at ≡ byte_at r → r ≡ Err n → elements (typed named) s at left ≡ types_next named left s None
    next_no_type r n d e f = elements_cons (typed named) s at left h ∙ rw (d, e, f)

pub ruleset nexts = (next_zero, next_param, next_no_param, next-type, next_no_type)

module _ (s : Bytes) (at left : ℕ) (named : Bool) (r : Option (ℕ × ℕ)) (told : elements (typed named) s at left ≡ types_next named left s r) where
  -- a type was read: one was left
  pub next-some : (t q : ℕ) → r ≡ Some (t, q) → 1 ≤ left
  unfolding elements
  next-some t q d = go left (told ∙ ap (types_next named left s) d)
    where
      go : (n : ℕ) → elements (typed named) s at n ≡ t ∷ elements (typed named) s q (left - 1) → 1 ≤ n
      go zero e = let z : ◌≡◌ {A = ℕ} 0 1 = cc in absurd (omega arith)
      go (suc n) e = omega arith

  pub next_less : (t q : ℕ) → r ≡ Some (t, q) → left - 1 < left
  next_less t q d = let h = next-some t q d in omega arith

-- ## A list is its types one by one

param-types : (s : Bytes) (n at : ℕ) → map (λ p. p.type) (elements param s at n) ≡ elements (typed true) s at n
unfolding elements
param-types s zero at = refl
param-types s (suc n) at = go (λ next. param-types s n next) (param s at)
  where
    go : ((next : ℕ) → map (λ p. p.type) (elements param s next n) ≡ elements (typed true) s next n) → (st : Step (Syntax.Local Identifier))
        → map (λ p. p.type) (on_step st (λ x next. x ∷ elements param s next n) []) ≡ on_step (onward (λ p next. got p.type next) st) (λ x next. x ∷ elements (typed true) s next n) []
    go f (got x next) = ap (λ (l : List ValType). x.type ∷ l) (f next)
    go f (fault k) = refl

pub types_are : (named : Bool) (s : Bytes) (l : Code.List) → types_of named s l ≡ elements (typed named) s l.at l.count
unfolding types_of
types_are true s l = param-types s l.count l.at
types_are false s l = refl

-- ## Two lists

-- a type that was read was left
pub next-left : (s : Bytes) (named : Bool) (l : Code.List) (m : Option (ℕ × ℕ)) → elements (typed named) s l.at l.count ≡ types_next named l.count s m → Left l m
next-left s named l m told = record { some = next-some s l.at l.count named m told }

pub left-some : (l : Code.List) (m : Option (ℕ × ℕ)) → Left l m → (t q : ℕ) → m ≡ Some (t, q) → 1 ≤ l.count
left-some l m v t q d = v.some t q d

module _ (a : Code.List) (m : Option (ℕ × ℕ)) (b : Code.List) (n : Option (ℕ × ℕ)) where
  -- both have ended
  pub step_end : m ≡ None → n ≡ None → B.End ≡ both_next a m b n
  unfolding both_next
  step_end d e = rw (d, e)

  -- only the first has
  pub step_long : (y h : ℕ) → m ≡ None → n ≡ Some (y, h) → B.Differ ≡ both_next a m b n
  unfolding both_next
  step_long y h d e = rw (d, e)

  module _ (x k : ℕ) (d : m ≡ Some (x, k)) where
    -- only the other has
    pub step_short : n ≡ None → B.Differ ≡ both_next a m b n
    unfolding both_next
    step_short e = rw (d, e)

    module _ (y h : ℕ) (e : n ≡ Some (y, h)) where
      -- a type that differs
      pub step_differ : (x ≡ y → ⊥) → B.Differ ≡ both_next a m b n
      unfolding both_next
      step_differ f = rw (d, e, ne_eqb _ _ f)

      -- a type that agrees
      pub step_same : x ≡ y → B.Same (record { at = k; count = a.count - 1 }) (record { at = h; count = b.count - 1 }) ≡ both_next a m b n
      unfolding both_next
      step_same f = rw (d, e, eq-eqb _ _ f)

pub ruleset steps = (step_end, step_long, step_short, step_differ, step_same)

-- what the comparison tells
module _ (s : Bytes) (named : Bool) (a : Code.List) (other : Bool) (b : Code.List) where
  both_of : (m n : Option (ℕ × ℕ)) → elements (typed named) s a.at a.count ≡ types_next named a.count s m
      → elements (typed other) s b.at b.count ≡ types_next other b.count s n → Both s named a other b (both_next a m b n)
  unfolding both_next same_bytes same
  both_of (Some (x, k)) (Some (y, h)) p q = go (eqb x y) (rw (types_are named s a, types_are other s b, p, q))
    where
      go : (t : Bool) → same_bytes (types_of named s a) (types_of other s b) ≡ (t && same_bytes (elements (typed named) s k (a.count - 1)) (elements (typed other) s h (b.count - 1)))
          → Both s named a other b (if t then B.Same (record { at = k; count = a.count - 1 }) (record { at = h; count = b.count - 1 }) else B.Differ)
      go true e = record {
        same = e ∙ rw (types_are named s (record { at = k; count = a.count - 1 }), types_are other s (record { at = h; count = b.count - 1 }));
        fewer = next_less s a.at a.count named (Some (x, k)) p x k refl;
      }
      go false e = record { same = e; fewer = tt }
  both_of (Some (x, k)) None p q = record { same = rw (types_are named s a, types_are other s b, p, q); fewer = tt }
  both_of None (Some (y, h)) p q = record { same = rw (types_are named s a, types_are other s b, p, q); fewer = tt }
  both_of None None p q = record { same = rw (types_are named s a, types_are other s b, p, q); fewer = tt }

  pub both_told : (m n : Option (ℕ × ℕ)) (r : NextBoth) → elements (typed named) s a.at a.count ≡ types_next named a.count s m
      → elements (typed other) s b.at b.count ≡ types_next other b.count s n → r ≡ both_next a m b n → Both s named a other b r
  both_told m n r p q e = rw e (both_of m n p q)

-- two lists are as equal as what is left of them
pub record InStep (s : Bytes) (named : Bool) (a : Code.List) (other : Bool) (b x y : Code.List) : Type 0 where
  pub same : same_bytes (types_of named s a) (types_of other s b) ≡ same_bytes (types_of named s x) (types_of other s y)

pub in_step_begin : (s : Bytes) (named : Bool) (a : Code.List) (other : Bool) (b : Code.List) → InStep s named a other b a b
in_step_begin s named a other b = record { same = refl }

module _ (s : Bytes) (named : Bool) (a : Code.List) (other : Bool) (b x y : Code.List) (v : InStep s named a other b x y) (r : NextBoth) (e : Both s named x other y r) where
  pub in_step_again : (p q : Code.List) → r ≡ B.Same p q → InStep s named a other b p q
  in_step_again p q d = record { same = v.same ∙ (rw d at e.same) }

  pub in_step_less : (p q : Code.List) → r ≡ B.Same p q → p.count < x.count
  in_step_less p q d = rw d at e.fewer

  pub in_step_differ : r ≡ B.Differ → false ≡ same_bytes (types_of named s a) (types_of other s b)
  in_step_differ d = sym (v.same ∙ (rw d at e.same))

  pub in_step_end : r ≡ B.End → true ≡ same_bytes (types_of named s a) (types_of other s b)
  in_step_end d = sym (v.same ∙ (rw d at e.same))

-- ## The number of types

pub record Counting (s : Bytes) (named : Bool) (a c at left n : ℕ) : Type 0 where
  pub sum : n + left ≡ c
  pub same : n + length (elements (typed named) s at left) ≡ length (elements (typed named) s a c)

pub count-begin : (s : Bytes) (named : Bool) (a c : ℕ) → Counting s named a c a c 0
count-begin s named a c = record { sum = omega arith; same = omega arith }

module _ (s : Bytes) (named : Bool) (a c at left n : ℕ) (v : Counting s named a c at left n)
    (r : Option (ℕ × ℕ)) (told : elements (typed named) s at left ≡ types_next named left s r) where
  pub count_again : (t q : ℕ) → r ≡ Some (t, q) → Counting s named a c q (left - 1) (n + 1)
  count_again t q d =
      let h = next-some s at left named r told t q d in
      let e : length (elements (typed named) s at left) ≡ suc (length (elements (typed named) s q (left - 1))) = ap length (told ∙ ap (types_next named left s) d) in
      record { sum = omega (arith, v.sum); same = omega (arith, v.same) }

  pub count_fits : (t q : ℕ) → r ≡ Some (t, q) → Fits w32 c → Fits w32 (n + 1)
  count_fits t q d f = let h = next-some s at left named r told t q d in let g = f.fits in record { fits = omega (arith, v.sum) }

module _ (s : Bytes) (named : Bool) (l : Code.List) (at left n : ℕ) (v : Counting s named l.at l.count at left n)
    (r : Option (ℕ × ℕ)) (told : elements (typed named) s at left ≡ types_next named left s r) where
  pub count-done : r ≡ None → n ≡ length (types_of named s l)
  count-done d =
      let e : length (elements (typed named) s at left) ≡ 0 = ap length (told ∙ ap (types_next named left s) d) in
      let f : length (types_of named s l) ≡ length (elements (typed named) s l.at l.count) = ap length (types_are named s l) in
      omega (arith, v.same)

-- ## Any type

module _ (s : Bytes) (named : Bool) (l : Code.List) (r : Option (ℕ × ℕ)) (told : elements (typed named) s l.at l.count ≡ types_next named l.count s r) where
  pub any_yes : (t q : ℕ) → r ≡ Some (t, q) → true ≡ ltb 0 (length (types_of named s l))
  any_yes t q e =
      sym (ap (λ (z : List ValType). ltb 0 (length z)) (types_are named s l ∙ told ∙ ap (types_next named l.count s) e) ∙ lt-ltb 0 (suc (length (elements (typed named) s q (l.count - 1)))) (omega arith))

  pub any_no : r ≡ None → false ≡ ltb 0 (length (types_of named s l))
  any_no e = sym (ap (λ (z : List ValType). ltb 0 (length z)) (types_are named s l ∙ told) ∙ rw e)

-- ## What the counts tell of a type use

params-length : (s : Bytes) (n at : ℕ) → length (map (λ p. p.type) (elements param s at n)) ≡ length (elements param s at n)
unfolding elements
params-length s zero at = refl
params-length s (suc n) at = go (λ next. params-length s n next) (param s at)
  where
    go : ((next : ℕ) → length (map (λ p. p.type) (elements param s next n)) ≡ length (elements param s next n)) → (st : Step (Syntax.Local Identifier))
        → length (map (λ p. p.type) (on_step st (λ x next. x ∷ elements param s next n) [])) ≡ length (on_step st (λ x next. x ∷ elements param s next n) [])
    go f (got x next) = ap suc (f next)
    go f (fault k) = refl

module _ (s : Bytes) (t : TypeUse) (p : Bool) (e : p ≡ ltb 0 (length (types_of true s t.params))) where
  params-any : p ≡ ltb 0 (length (elements param s t.params.at t.params.count))
  unfolding types_of
  params-any = e ∙ ap (ltb 0) (params-length s t.params.count t.params.at)

  pub short_no : p ≡ true → false ≡ is_short (use_of s t)
  unfolding is_short
  short_no h = let b = ltb-true 0 (length (elements param s t.params.at t.params.count)) (sym params-any ∙ h) in sym (rw (ne_eqb (length (elements param s t.params.at t.params.count)) 0 (λ z. omega arith)))

  pub inline_params : p ≡ true → true ≡ is_inline (use_of s t)
  unfolding is_inline
  inline_params h =
      let b = ltb-true 0 (length (elements param s t.params.at t.params.count)) (sym params-any ∙ h) in
      sym (lt-ltb 0 (length (elements param s t.params.at t.params.count) + length (elements val_type s t.results.at t.results.count)) (omega arith))

  module _ (h : p ≡ false) where
    params_none : length (elements param s t.params.at t.params.count) ≡ 0
    params_none = let b = ltb-false 0 (length (elements param s t.params.at t.params.count)) (sym params-any ∙ h) in omega arith

    pub short-results : (m : ℕ) → m ≡ length (types_of false s t.results) → leb m 1 ≡ is_short (use_of s t)
    unfolding is_short types_of
    short-results m f = sym (rw (params_none, f))

    pub inline_results : (q : Bool) → q ≡ ltb 0 (length (types_of false s t.results)) → q ≡ is_inline (use_of s t)
    unfolding is_inline types_of
    inline_results q f =
        let z : length (elements param s t.params.at t.params.count) + length (elements val_type s t.results.at t.results.count) ≡ length (elements val_type s t.results.at t.results.count) =
        omega (arith, params_none) in
        f ∙ sym (ap (ltb 0) z)

pub ruleset shorts = (short_no, short-results, inline_params, inline_results)
