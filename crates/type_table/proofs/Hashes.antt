-- Plain mathematics of hashes: their steps fit, and a list is hashed type by type.
use Rattle.std.specs.Prelude.{Option, Some, None}
use Prim.Native.Nat.{ℕ, suc, ◌+◌, ◌-◌, ◌*◌, ◌%◌, ◌≤◌, ◌<◌}
use mathlib.Core.Path.{◌≡◌, refl, sym, ◌∙◌, ap}
use mathlib.Core.Bool.{Bool, false}
use mathlib.Core.List.{List}
use lib.ListN.{length}
use mir.Syntax.{w64}
use mir.Val.{Fits}
use native.Mathlib.Nat.{mul-le-mul_right}
use native.Mathlib.Omega.{arith}
use Rattle.definition.specs.Syntax.{Bytes, FuncType}
use Rattle.syntax.specs.TypeUses.{elements}
use Rattle.syntax.specs.declared.List as Code
use Rattle.type_table.specs.Hash.{HALF, START, crossed, mixed, hash_from, hashed_list, hash_of}
use Rattle.type_table.specs.Known.{Passable, Rest}
use Rattle.type_table.specs.Size.{hashed}
use Rattle.type_table.specs.declared.index.Hashed.{Hashed}
use Rattle.type_table.specs.declared.index.HashedList.{HashedList}
use Rattle.type_table.specs.Table.{types_of, typed, types_next, signature_of}
use Rattle.type_table.specs.declared.entry.Signature.{Signature}
use Rattle.type_table.proofs.Lists.{types_are, next-some}

-- ## One type

-- two halves make no more than a hash
crossed-most : (a b : ℕ) → a < HALF → b < HALF → crossed a b < HALF * HALF
crossed-most a b h k = let m : a * b ≤ 4294967295 * b = mul-le-mul_right b (omega arith) in omega arith

pub product_fits : (x y : ℕ) → Fits w64 (x % HALF * (y % HALF))
product_fits x y = let m = crossed-most (x % HALF) (y % HALF) (omega arith) (omega arith) in record { fits = omega arith }

pub product_one_fits : (x y : ℕ) → Fits w64 (x % HALF * (y % HALF) + x % HALF)
product_one_fits x y = let m = crossed-most (x % HALF) (y % HALF) (omega arith) (omega arith) in record { fits = omega arith }

pub product_both_fits : (x y : ℕ) → Fits w64 (x % HALF * (y % HALF) + x % HALF + y % HALF)
product_both_fits x y = let m = crossed-most (x % HALF) (y % HALF) (omega arith) (omega arith) in record { fits = omega arith }

pub ruleset products = (product_fits, product_one_fits, product_both_fits)

-- ## A list

-- what is left is hashed after what was, and counted with it
pub record Hashing (s : Bytes) (named : Bool) (start a c at left h : ℕ) : Type 0 where
  pub same : hash_from start (elements (typed named) s a c) ≡ hash_from h (elements (typed named) s at left)
  pub low : left ≤ c
  pub count : (c - left) + length (elements (typed named) s at left) ≡ length (elements (typed named) s a c)
  pub known : Passable named s at left

pub hash_begin : (s : Bytes) (named : Bool) (start a c : ℕ) → Passable named s a c → Hashing s named start a c a c start
hash_begin s named start a c k = record { same = refl; low = omega arith; count = omega arith; known = k }

module _ (s : Bytes) (named : Bool) (start a c at left h : ℕ) (v : Hashing s named start a c at left h) where
  pub hash_low : left ≤ c
  hash_low = v.low

  module _ (r : Option (ℕ × ℕ)) (told : elements (typed named) s at left ≡ types_next named left s r) where
    pub hash_again : Rest named left s r → (t q h' : ℕ) → r ≡ Some (t, q) → h' ≡ mixed h t → Hashing s named start a c q (left - 1) h'
    unfolding hash_from
    hash_again k t q h' d e =
        let some = next-some s at left named r told t q d in
        let one : length (elements (typed named) s at left) ≡ suc (length (elements (typed named) s q (left - 1))) = ap length (told ∙ ap (types_next named left s) d) in
        record {
          same = v.same ∙ ap (hash_from h) (told ∙ ap (types_next named left s) d) ∙ rw e;
          low = omega (arith, v.low);
          count = omega (arith, v.low, v.count);
          known = k.rest t q d;
        }

    hash_end : r ≡ None → h ≡ hash_from start (elements (typed named) s a c)
    unfolding hash_from
    hash_end d = sym (v.same ∙ ap (hash_from h) (told ∙ ap (types_next named left s) d))

    count_end : r ≡ None → c - left ≡ length (elements (typed named) s a c)
    count_end d = let none : length (elements (typed named) s at left) ≡ 0 = ap length (told ∙ ap (types_next named left s) d) in omega (arith, v.count)

pub hash_done : (s : Bytes) (named : Bool) (start : ℕ) (l : Code.List) (at left h : ℕ) → Hashing s named start l.at l.count at left h
    → (r : Option (ℕ × ℕ)) → elements (typed named) s at left ≡ types_next named left s r → r ≡ None → record { hash = h; count = l.count - left } ≡ hashed_list start (types_of named s l)
hash_done s named start l at left h v r told d =
    rw (types_are named s l, ← hash_end s named start l.at l.count at left h v r told d, ← count_end s named start l.at l.count at left h v r told d)

-- ## A signature

pub hash_signature : (s : Bytes) (x : Signature) (p : HashedList) (m : ℕ) (q : HashedList) → p ≡ hashed_list START (types_of x.named s x.params) → m ≡ mixed p.hash 0
    → q ≡ hashed_list m (types_of false s x.results) → record { hash = q.hash; params = p.count; results = q.count } ≡ hashed (signature_of s x)
unfolding hash_of signature_of
hash_signature s x p m q d e f = rw (f, e, d)

-- what it tells of the hash
pub hash_told : (h : Hashed) (t : FuncType) → h ≡ hashed t → h.hash ≡ hash_of t
hash_told h t e = rw e
