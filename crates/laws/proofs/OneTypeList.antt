-- Section 1 of a module holds one list of types: bytes that hold two lists hold the same twice.
use Rattle.std.specs.Prelude.{if◌then◌else◌}
use Prim.Native.Nat.{ℕ, zero, suc, ◌+◌, ◌/◌, ◌%◌}
use mathlib.Core.Path.{◌≡◌, refl, sym, ◌∙◌, ap}
use mathlib.Core.Bool.{Bool, true, false}
use mathlib.Core.List.{List, [], ◌∷◌, ◌++◌, map, append_assoc}
use mathlib.Core.Option.{some}
use lib.Dec.{ltb}
use lib.ListN.{length}
use borrow.Author.Tests.{ltb-true}
use native.Mathlib.Omega.{arith}
use Rattle.definition.specs.Basic.{concat_map, at}
use Rattle.definition.specs.Syntax.{Bytes, FuncType}
use Rattle.definition.specs.Binary.{unsigned, u, vec, sized, byte, func_type, joined, content, section_of, preamble}
use Rattle.laws.specs.TypeLists.{HoldsTypes}

-- ## What stands before other bytes can be told from them

u_apart : (k n m : ℕ) (x y : Bytes) → unsigned k n ++ x ≡ unsigned k m ++ y → (n ≡ m) × (x ≡ y)
unfolding unsigned
u_apart zero n m x y e = (cc, cc)
u_apart (suc k) n m x y e = go (ltb n 128) refl (ltb m 128) refl e (u_apart k (n / 128) (m / 128) x y)
  where
    go : (a : Bool) → ltb n 128 ≡ a → (b : Bool) → ltb m 128 ≡ b
        → (if a then n ∷ [] else (n % 128 + 128) ∷ unsigned k (n / 128)) ++ x ≡ (if b then m ∷ [] else (m % 128 + 128) ∷ unsigned k (m / 128)) ++ y
        → (unsigned k (n / 128) ++ x ≡ unsigned k (m / 128) ++ y → (n / 128 ≡ m / 128) × (x ≡ y)) → (n ≡ m) × (x ≡ y)
    go true p true q e f = (cc, cc)
    go true p false q e f = let z : n ≡ m % 128 + 128 = cc in absurd (omega (arith, ltb-true n 128 p))
    go false p true q e f = let z : n % 128 + 128 ≡ m = cc in absurd (omega (arith, ltb-true m 128 q))
    go false p false q e f =
        let z : n % 128 + 128 ≡ m % 128 + 128 = cc in
        let w : unsigned k (n / 128) ++ x ≡ unsigned k (m / 128) ++ y = cc in
        (omega (arith, z, (f w).0), (f w).1)

-- a vector's elements, as many as its count says
bytes_apart : (xs ys x y : Bytes) → length xs ≡ length ys → concat_map byte xs ++ x ≡ concat_map byte ys ++ y → (xs ≡ ys) × (x ≡ y)
unfolding concat_map byte
bytes_apart [] [] x y l e = (refl, e)
bytes_apart [] (b ∷ ys) x y l e = absurd (omega arith)
bytes_apart (a ∷ xs) [] x y l e = absurd (omega arith)
bytes_apart (a ∷ xs) (b ∷ ys) x y l e =
    let d : a ≡ b = cc in
    let w : concat_map byte xs ++ x ≡ concat_map byte ys ++ y = cc in
    let f = bytes_apart xs ys x y (omega arith) w in
    let g = f.0 in (cc, f.1)

vec_apart : (xs ys x y : Bytes) → vec byte xs ++ x ≡ vec byte ys ++ y → (xs ≡ ys) × (x ≡ y)
unfolding vec u
vec_apart xs ys x y e =
    let d = sym (append_assoc (unsigned 9 (length xs)) (concat_map byte xs) x) ∙ e ∙ append_assoc (unsigned 9 (length ys)) (concat_map byte ys) y in
    let f = u_apart 9 (length xs) (length ys) (concat_map byte xs ++ x) (concat_map byte ys ++ y) d in
    bytes_apart xs ys x y f.0 f.1

type_apart : (t v : FuncType) (x y : Bytes) → func_type t ++ x ≡ func_type v ++ y → (t ≡ v) × (x ≡ y)
unfolding func_type
type_apart t v x y e =
    let c : (vec byte t.params ++ vec byte t.results) ++ x ≡ (vec byte v.params ++ vec byte v.results) ++ y = cc in
    let d = sym (append_assoc (vec byte t.params) (vec byte t.results) x) ∙ c ∙ append_assoc (vec byte v.params) (vec byte v.results) y in
    let f = vec_apart t.params v.params (vec byte t.results ++ x) (vec byte v.results ++ y) d in
    let g = vec_apart t.results v.results x y f.1 in
    (λ i. record { params = f.0 i; results = g.0 i }, g.1)

types_apart : (ts vs : List FuncType) (x y : Bytes) → length (map func_type ts) ≡ length (map func_type vs)
    → joined (map func_type ts) ++ x ≡ joined (map func_type vs) ++ y → ts ≡ vs
unfolding joined concat_map
types_apart [] [] x y l e = refl
types_apart [] (v ∷ vs) x y l e = absurd (omega arith)
types_apart (t ∷ ts) [] x y l e = absurd (omega arith)
types_apart (t ∷ ts) (v ∷ vs) x y l e =
    let d = sym (append_assoc (func_type t) (joined (map func_type ts)) x) ∙ e ∙ append_assoc (func_type v) (joined (map func_type vs)) y in
    let f = type_apart t v (joined (map func_type ts) ++ x) (joined (map func_type vs) ++ y) d in
    let g = f.0 in
    let h = types_apart ts vs x y (omega arith) f.1 in cc

-- ## Section 1

-- a section's contents
sized_apart : (ts vs : List FuncType) (x y : Bytes) → sized (content 1 (map func_type ts)) ++ x ≡ sized (content 1 (map func_type vs)) ++ y → ts ≡ vs
unfolding sized content u
sized_apart ts vs x y e =
    let c = content 1 (map func_type ts) in
    let b = content 1 (map func_type vs) in
    let d = sym (append_assoc (unsigned 9 (length c)) c x) ∙ e ∙ append_assoc (unsigned 9 (length b)) b y in
    let f = u_apart 9 (length c) (length b) (c ++ x) (b ++ y) d in
    let n = length (map func_type ts) in
    let m = length (map func_type vs) in
    let g = sym (append_assoc (unsigned 9 n) (joined (map func_type ts)) x) ∙ f.1 ∙ append_assoc (unsigned 9 m) (joined (map func_type vs)) y in
    let h = u_apart 9 n m (joined (map func_type ts) ++ x) (joined (map func_type vs) ++ y) g in
    types_apart ts vs x y h.0 h.1

section_apart : (ts vs : List FuncType) (x y : Bytes) → (at x 0 ≡ some 1 → ⊥) → (at y 0 ≡ some 1 → ⊥)
    → section_of 1 (map func_type ts) ++ x ≡ section_of 1 (map func_type vs) ++ y → ts ≡ vs
unfolding at
section_apart [] [] x y p q e = refl
section_apart [] (v ∷ vs) x y p q e = absurd (p (ap (λ bs. at bs 0) e))
section_apart (t ∷ ts) [] x y p q e = absurd (q (ap (λ bs. at bs 0) (sym e)))
section_apart (t ∷ ts) (v ∷ vs) x y p q e =
    let d : sized (content 1 (map func_type (t ∷ ts))) ++ x ≡ sized (content 1 (map func_type (v ∷ vs))) ++ y = cc in
    sized_apart (t ∷ ts) (v ∷ vs) x y d

same_front : (xs ys zs : Bytes) → xs ++ ys ≡ xs ++ zs → ys ≡ zs
same_front [] ys zs e = e
same_front (x ∷ xs) ys zs e = let d : xs ++ ys ≡ xs ++ zs = cc in same_front xs ys zs d

pub one-type_list : (ts vs : List FuncType) (m : Bytes) → HoldsTypes ts m → HoldsTypes vs m → ts ≡ vs
one-type_list ts vs m h k =
    let one = section_of 1 (map func_type ts) in
    let two = section_of 1 (map func_type vs) in
    let e = sym (append_assoc preamble one h.after) ∙ sym h.is ∙ k.is ∙ append_assoc preamble two k.after in
    section_apart ts vs h.after k.after h.no_other k.no_other (same_front preamble (one ++ h.after) (two ++ k.after) e)
