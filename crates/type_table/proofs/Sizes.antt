-- The size beside the types (document 02, §10): what one type more adds to it, and that it fits its word.
use Rattle.std.specs.Prelude.{if◌then◌else◌}
use Prim.Native.Nat.{ℕ, zero, suc, ◌+◌, ◌-◌, ◌*◌, ◌/◌, ◌%◌, ◌^◌, ◌≤◌, ◌<◌, min}
use mathlib.Core.Path.{◌≡◌, refl, sym, ◌∙◌, ap}
use mathlib.Core.Bool.{Bool, true, false}
use mathlib.Core.List.{List, [], ◌∷◌, ◌++◌, map}
use lib.Dec.{ltb}
use lib.ListN.{length, get_or, set, length-append, length-map}
use borrow.Author.Tests.{lt-ltb, le-ltb}
use mir.Syntax.{w32}
use mir.Val.{Fits}
use native.Mathlib.Omega.{arith}
use native.Mathlib.Decide.{dec_lt}
use Rattle.definition.specs.Basic.{concat_map}
use Rattle.definition.specs.Syntax.{Bytes, FuncType}
use Rattle.definition.specs.Binary.{unsigned, u, vec, sized, byte, func_type, joined, content, section_of, types_size}
use Rattle.area.specs.Layout.{BYTES, SIZE, TOTAL, TYPES}
use Rattle.type_table.specs.Size.{hashed, count_size, more, list_size, signature_size, size_words}
use Rattle.type_table.specs.Table.{signature_of, entry_in, type_table, types_in, Indexed}
use Rattle.type_table.specs.declared.entry.Signature.{Signature}
use Rattle.type_table.specs.declared.index.Hashed.{Hashed}
use Rattle.type_table.proofs.Bounds.{types-few}
use Rattle.type_table.proofs.Types.{table-length}

-- ## The groups of the count

-- a number below 128 has one group, and from there on to 256 two
one_group : (n : ℕ) → n < 128 → length (u n) ≡ 1
unfolding u unsigned
one_group n h = rw (lt-ltb n 128 h) refl

two_groups : (n : ℕ) → 128 ≤ n → n ≤ 256 → length (u n) ≡ 2
unfolding u unsigned
two_groups n h w = rw (le-ltb n 128 h, lt-ltb (n / 128) 128 (omega arith)) refl

-- none without types, then one, and from 128 on two
count-one : (n : ℕ) → 0 < n → n < 128 → count_size n ≡ 1
count-one zero h w = absurd (omega arith)
count-one (suc n) h w = one_group (suc n) w

count_two : (n : ℕ) → 128 ≤ n → n ≤ 256 → count_size n ≡ 2
count_two zero h w = absurd (omega arith)
count_two (suc n) h w = two_groups (suc n) h w

-- the first type brings the first group, the 128th the second, and no other of 256 brings one
module _ (n : ℕ) where
  pub more-first : n ≡ 0 → 1 ≡ more n
  unfolding more
  more-first e = rw (e, one_group 1 (omega arith)) refl

  pub more-second : n ≡ 127 → 1 ≡ more n
  unfolding more
  more-second e = rw (e, two_groups 128 (omega arith) (omega arith), count-one 127 (omega arith) (omega arith)) refl

  pub more-none : n < 256 → (n ≡ 0 → ⊥) → (n ≡ 127 → ⊥) → 0 ≡ more n
  unfolding more
  more-none h f g = go (dec_lt n 127)
    where
      go : Dec (n < 127) → 0 ≡ count_size (suc n) - count_size n
      go (yes l) = rw (count-one (suc n) (omega arith) (omega arith), count-one n (omega arith) (omega arith)) refl
      go (no l) = rw (count_two (suc n) (omega arith) (omega arith), count_two n (omega arith) (omega arith)) refl

pub ruleset mores = (more-first, more-second, more-none)

count_next : (n : ℕ) → n < 256 → count_size (suc n) ≡ count_size n + more n
count_next n h = go (dec_lt n 127) (dec_lt n 1)
  where
    go : Dec (n < 127) → Dec (n < 1) → count_size (suc n) ≡ count_size n + more n
    go a (yes l) = let e : n ≡ 0 = omega arith in rw e (omega (arith, one_group 1 (omega arith), more-first 0 refl))
    go (yes a) (no l) = omega (arith, count-one (suc n) (omega arith) (omega arith), count-one n (omega arith) (omega arith), more-none n h (λ e. omega arith) (λ e. omega arith))
    go (no a) (no l) = again (dec_lt 127 n)
      where
        again : Dec (127 < n) → count_size (suc n) ≡ count_size n + more n
        again (yes b) = omega (arith, count_two (suc n) (omega arith) (omega arith), count_two n (omega arith) (omega arith), more-none n h (λ e. omega arith) (λ e. omega arith))
        again (no b) = omega (arith, count_two (suc n) (omega arith) (omega arith), count-one n (omega arith) (omega arith), more-second n (omega arith))

-- ## The bytes of the types

bytes-length : (xs : List ℕ) → length (concat_map byte xs) ≡ length xs
unfolding concat_map byte
bytes-length [] = refl
bytes-length (x ∷ xs) = ap suc (bytes-length xs)

vec-length : (xs : List ℕ) → length (vec byte xs) ≡ list_size (length xs)
unfolding vec list_size
vec-length xs = length-append (u (length xs)) (concat_map byte xs) ∙ rw (bytes-length xs) refl

-- a walk over a signature has told its size
pub signature-size : (t : FuncType) → length (func_type t) ≡ signature_size (hashed t)
unfolding func_type signature_size
signature-size t = omega (arith, length-append (vec byte t.params) (vec byte t.results), vec-length t.params, vec-length t.results)

-- the word with a type more
pub size_words_lem : (w : List ℕ) (count : ℕ) (h : Hashed) (m n : ℕ) → m ≡ more count → n ≡ signature_size h → set w SIZE (get_or w SIZE 0 + m + n) ≡ size_words w count h
unfolding size_words
size_words_lem w count h m n e d = rw (e, d)

-- the bytes of all
sum : List FuncType → ℕ
sum [] = 0
sum (t ∷ ts) = length (func_type t) + sum ts

sum_joined : (ts : List FuncType) → length (joined (map func_type ts)) ≡ sum ts
unfolding joined concat_map sum
sum_joined [] = refl
sum_joined (t ∷ ts) = length-append (func_type t) _ ∙ ap (λ n. length (func_type t) + n) (sum_joined ts)

sum_add : (ts : List FuncType) (t : FuncType) → sum (ts ++ (t ∷ [])) ≡ sum ts + length (func_type t)
unfolding sum
sum_add [] t = omega arith
sum_add (x ∷ ts) t = omega (arith, sum_add ts t)

-- ## The size

size_is : (ts : List FuncType) → types_size ts ≡ count_size (length ts) + sum ts
unfolding types_size content
size_is [] = unfold sum in refl
size_is (t ∷ ts) = length-append (u (length (map func_type (t ∷ ts)))) _ ∙ rw (length-map (t ∷ ts) func_type, sum_joined (t ∷ ts)) refl

-- it stands before the section's content; without types the section is omitted
pub types-written : (t : FuncType) (ts : List FuncType) → section_of 1 (map func_type (t ∷ ts)) ≡ 1 ∷ u (types_size (t ∷ ts)) ++ content 1 (map func_type (t ∷ ts))
unfolding types_size sized
types-written t ts = refl

-- a type that is added brings its own bytes, and what the count's groups grow by
pub size_add : (ts : List FuncType) (t : FuncType) → length ts < 256 → types_size (ts ++ (t ∷ [])) ≡ types_size ts + more (length ts) + length (func_type t)
size_add ts t h =
    let l : length (ts ++ (t ∷ [])) ≡ suc (length ts) = omega (arith, length-append ts (t ∷ [])) in
    let a = size_is (ts ++ (t ∷ [])) in
    let b = size_is ts in
    let c : count_size (length (ts ++ (t ∷ []))) ≡ count_size (length ts) + more (length ts) = ap count_size l ∙ count_next (length ts) h in
    let e = sum_add ts t in
    omega arith

-- ## It fits its word

unsigned-few : (m n : ℕ) → length (unsigned m n) ≤ suc m
unfolding unsigned
unsigned-few zero n = omega arith
unsigned-few (suc m) n = go (ltb n 128) (unsigned-few m (n / 128))
  where
    go : (t : Bool) → length (unsigned m (n / 128)) ≤ suc m → length (if t then n ∷ [] else (n % 128 + 128) ∷ unsigned m (n / 128)) ≤ suc (suc m)
    go true h = omega arith
    go false h = omega arith

-- ten groups at most
pub u-few : (n : ℕ) → length (u n) ≤ 10
unfolding u
u-few n = unsigned-few 9 n

count-few : (n : ℕ) → count_size n ≤ 10
count-few zero = omega arith
count-few (suc n) = u-few (suc n)

-- a type of a stream has no more value types in a list than the stream has bytes
type-few : (s : Bytes) (x : Signature) → length s ≤ BYTES → length (func_type (signature_of s x)) ≤ 2 * BYTES + 21
unfolding list_size signature_size signature_of
type-few s x h =
    omega (
      arith,
      signature-size (signature_of s x),
      types-few x.named s x.params,
      types-few false s x.results,
      u-few (length (signature_of s x).params),
      u-few (length (signature_of s x).results),
    )

sum_few : (n : ℕ) (s w : List ℕ) (at : ℕ) → length s ≤ BYTES → sum (type_table n s w at) ≤ n * (2 * BYTES + 21)
unfolding sum type_table
sum_few zero s w at h = omega arith
sum_few (suc n) s w at h = omega (arith, type-few s (entry_in w at) h, sum_few n s w (at + 5) h)

-- so the size of all types is small
pub all_small : (s w : List ℕ) → length s ≤ BYTES → types_size (types_in s w) < 2 ^ 32
unfolding types_in
all_small s w h =
    let n = min (get_or w TOTAL 0) 256 in
    omega (arith, size_is (type_table n s w TYPES), count-few (length (type_table n s w TYPES)), sum_few n s w TYPES h)

module _ (s w : List ℕ) (count : ℕ) (x : Signature) (h : Hashed) (walked : h ≡ hashed (signature_of s x)) (short : length s ≤ BYTES) where
  pub added-size : Indexed s w count → count < 256 → get_or w SIZE 0 + more count + signature_size h ≡ types_size (type_table count s w TYPES ++ (signature_of s x ∷ []))
  added-size v few =
      let l = table-length count s w TYPES in
      rw (walked, ← signature-size (signature_of s x), v.size)
      (sym (size_add (type_table count s w TYPES) (signature_of s x) (omega arith) ∙ rw l refl))

  -- so does the size with a type more
  pub size_fits : Indexed s w count → count < 256 → Fits w32 (get_or w SIZE 0 + more count + signature_size h)
  size_fits v few =
      let ts = type_table count s w TYPES in
      let a = added-size v few in
      let b = size_is (ts ++ (signature_of s x ∷ [])) in
      let c = sum_add ts (signature_of s x) in
      let d = count-few (length (ts ++ (signature_of s x ∷ []))) in
      let e = sum_few count s w TYPES short in
      let f = type-few s x short in
      record { fits = omega arith }
