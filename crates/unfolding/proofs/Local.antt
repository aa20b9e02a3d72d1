-- A reader that reads something goes by the bytes it takes and by nothing else: wherever they stand it reads the same.
use Rattle.std.specs.Prelude.{if◌then◌else◌}
use mathlib.Core.Path.{◌≡◌, refl, ◌∙◌, sym, ap}
use Prim.Native.Nat.{ℕ, zero, suc, ◌+◌, ◌-◌, ◌*◌, ◌%◌, ◌<◌}
use mathlib.Core.Bool.{Bool, true, false}
use mathlib.Core.List.{[], ◌∷◌, ◌++◌, append_assoc}
use lib.Dec.{ltb}
use lib.ListN.{length, get_or, drop, length-append, length-drop}
use lib.Seq.{slice, take-append_seam, drop-cons, drop-drop, drop-append_seam, get_or-drop}
use borrow.Author.Tests.{ltb-true, lt-ltb}
use native.Mathlib.Omega.{arith}
use Rattle.definition.specs.Syntax.{Bytes}
use Rattle.definition.specs.Reader.{got, fault, Reader, ◌>>=◌, give, refuse, require, byte, many}
use Rattle.definition.specs.Token.{needed, groups}
use Rattle.laws.proofs.Backwards.{came}

-- what was read at a place: the bytes that it took there, and that it is read wherever they stand
pub record Takes {A : Type 0} (p : Reader A) (s : Bytes) (here : ℕ) (x : A) (next : ℕ) : Type 0 where
  pub bytes : Bytes
  pub size : next ≡ here + length bytes
  pub stand : drop here s ≡ bytes ++ drop next s
  pub again : (t : Bytes) (there : ℕ) (rest : Bytes) → drop there t ≡ bytes ++ rest → p t there ≡ got x (there + length bytes)

pub record Local {A : Type 0} (p : Reader A) : Type 0 where
  pub takes : (s : Bytes) (here : ℕ) (x : A) (next : ℕ) → p s here ≡ got x next → Takes p s here x next

module _ {A : Type 0} where
  pub local-give : (a : A) → Local (give a)
  local-give a = record {
    takes = λ s here x next e.
        let d : a ≡ x = cc in
        let q : here ≡ next = cc in
        record {
          bytes = [];
          size = omega arith;
          stand = ap (λ n. drop n s) q;
          again = λ t there rest h. let z : there + 0 ≡ there = omega arith in rw (d, z) refl;
        };
  }

  pub local-refuse : (n : ℕ) → Local (refuse {A = A} n)
  local-refuse n = record { takes = λ s here x next e. let z : ◌≡◌ {A = ℕ} 0 1 = cc in absurd (omega arith) }

  pub local_if : (t : Bool) (p q : Reader A) → Local p → Local q → Local (if t then p else q)
  local_if true p q h w = h
  local_if false p q h w = w

-- what stands after the first of two runs of bytes
pub beyond : (xs ys : Bytes) (t : Bytes) (there : ℕ) → drop there t ≡ xs ++ ys → drop (there + length xs) t ≡ ys
beyond xs ys t there h = sym (drop-drop (length xs) there t) ∙ ap (drop (length xs)) h ∙ drop-append_seam xs ys

pub local_then : {A B : Type 0} {m : Reader A} {k : A → Reader B} → Local m → ((a : A) → Local (k a)) → Local (m >>= k)
local_then {m = m} {k} h w = record {
  takes = λ s here x next e.
      let c = came (m s here) e in
      let a = h.takes s here c.value c.next c.first in
      let b = (w c.value).takes s c.next x next c.rest in
      record {
        bytes = a.bytes ++ b.bytes;
        size = omega (arith, a.size, b.size, length-append a.bytes b.bytes);
        stand = a.stand ∙ ap (λ l. a.bytes ++ l) b.stand ∙ sym (append_assoc a.bytes b.bytes (drop next s));
        again = λ t there rest g.
            let f : drop there t ≡ a.bytes ++ (b.bytes ++ rest) = g ∙ append_assoc a.bytes b.bytes rest in
            let u = a.again t there (b.bytes ++ rest) f in
            let v = b.again t (there + length a.bytes) rest (beyond a.bytes (b.bytes ++ rest) t there f) in
            let z : there + length a.bytes + length b.bytes ≡ there + length (a.bytes ++ b.bytes) = omega (arith, length-append a.bytes b.bytes) in
            rw (u, v, z) refl;
      };
}

pub local-require : (n : ℕ) (t : Bool) → Local (require n t)
local-require n true = local-give tt
local-require n false = local-refuse n

-- a byte that stands at a place
pub byte_at : (t : Bytes) (there b : ℕ) (rest : Bytes) → drop there t ≡ b ∷ rest → byte t there ≡ got b (there + 1)
unfolding byte
byte_at t there b rest h =
    let l : length t - there ≡ suc (length rest) = sym (length-drop there t) ∙ ap length h in
    let z : there + 0 ≡ there = omega arith in
    let v : get_or t there 0 ≡ b = rw z at (sym (get_or-drop there t 0 0) ∙ ap (λ l. get_or l 0 0) h) in
    rw (lt-ltb there (length t) (omega arith), v) refl

pub local-byte : Local byte
unfolding byte
local-byte = record { takes = λ s here x next e. go s here x next (ltb here (length s)) refl e }
  where
    go : (s : Bytes) (here x next : ℕ) (t : Bool) → ltb here (length s) ≡ t → (if t then got (get_or s here 0) (here + 1) else fault 2) ≡ got x next → Takes byte s here x next
    go s here x next true d e =
        let l = ltb-true here (length s) d in
        let q : here + 1 ≡ next = cc in
        let v : get_or s here 0 ≡ x = cc in
        let n : suc here ≡ next = omega arith in
        record {
          bytes = x ∷ [];
          size = omega arith;
          stand = rw (← v, ← n) (drop-cons s here 0 l);
          again = λ t there rest h. byte_at t there x rest h;
        }
    go s here x next false d e = let z : ◌≡◌ {A = ℕ} 0 1 = cc in absurd (omega arith)

pub local-many : {A : Type 0} (n : ℕ) (p : Reader A) → Local p → Local (many n p)
unfolding many
local-many zero p h = local-give []
local-many (suc n) p h = local_then h (λ x. local_then (local-many n p h) (λ xs. local-give (x ∷ xs)))

pub local-groups : (left bound scale value : ℕ) → Local (groups left bound scale value)
unfolding groups
local-groups zero bound scale value = local-refuse 3
local-groups (suc left) bound scale value =
    local_then local-byte (λ b.
    local_then (local-require 3 (ltb (value + b % 128 * scale) bound)) (λ _.
    local_if (ltb b 128) _ _ (local_then (local-require 19 (needed scale b)) (λ _. local-give _)) (local-groups left bound (scale * 128) (value + b % 128 * scale))))

pub ruleset locals = (local-give, local-refuse, local_if, local_then, local-require, local-byte, local-many)

-- ## The bytes of what was read

-- some bytes are read as x, wherever they stand
pub record Spells {A : Type 0} (p : Reader A) (bytes : Bytes) (x : A) : Type 0 where
  pub some : 0 < length bytes
  pub reads : (t : Bytes) (there : ℕ) (rest : Bytes) → drop there t ≡ bytes ++ rest → p t there ≡ got x (there + length bytes)

slice_is : (bs : Bytes) (s : Bytes) (here : ℕ) (rest : Bytes) → drop here s ≡ bs ++ rest → slice here (here + length bs) s ≡ bs
slice_is bs s zero rest e = let z : 0 + length bs ≡ length bs = omega arith in rw (z, e) (take-append_seam bs rest)
slice_is bs [] (suc here) rest e = let z : suc here + length bs ≡ suc (here + length bs) = omega arith in rw z (none_of bs e)
  where
    none_of : (bs : Bytes) → [] ≡ bs ++ rest → [] ≡ bs
    none_of [] e = refl
    none_of (b ∷ bs) e = let z : ◌≡◌ {A = ℕ} 0 1 = cc in absurd (omega arith)
slice_is bs (b ∷ s) (suc here) rest e = let z : suc here + length bs ≡ suc (here + length bs) = omega arith in rw z (slice_is bs s here rest e)

-- what was read took the bytes up to the next place
pub takes_slice : {A : Type 0} {p : Reader A} {s : Bytes} {here : ℕ} {x : A} {next : ℕ} (t : Takes p s here x next) → slice here next s ≡ t.bytes
takes_slice {s = s} {here} {next = next} t = ap (λ n. slice here n s) t.size ∙ slice_is t.bytes s here (drop next s) t.stand

-- and they spell it, if the reader reads nothing in an empty stream
pub spells : {A : Type 0} {p : Reader A} → Local p → (k : ℕ) → p [] 0 ≡ fault k
    → (s : Bytes) (here : ℕ) (x : A) (next : ℕ) → p s here ≡ got x next → Spells p (slice here next s) x
spells {p = p} h k none s here x next e =
    let t = h.takes s here x next e in
    rw (takes_slice t) (record { some = go t.bytes (t.again [] 0 []); reads = t.again })
  where
    go : (bs : Bytes) → ([] ≡ bs ++ [] → p [] 0 ≡ got x (0 + length bs)) → 0 < length bs
    go [] f = let d = f refl in let z : ◌≡◌ {A = ℕ} 0 1 = cc in absurd (omega arith)
    go (b ∷ bs) f = omega arith
