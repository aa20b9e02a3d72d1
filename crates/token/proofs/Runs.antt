-- Runs of bytes of a class: what a loop over them shows, and that they are the part of the stream that starts at their first byte.
use Rattle.std.specs.Prelude.{if◌then◌else◌}
use mathlib.Core.Path.{◌≡◌, refl, sym, ◌∙◌}
use mathlib.Core.Bool.{Bool, true, false, not}
use mathlib.Core.List.{List, ◌∷◌}
use Prim.Native.Nat.{ℕ, zero, suc, ◌+◌, ◌-◌, ◌≤◌, ◌<◌}
use native.Mathlib.Omega.{arith}
use native.Mathlib.Nat.{add-zero}
use native.Mathlib.Decide.{dec_le}
use lib.ListN.{length, get_or, take, drop}
use lib.Seq.{drop-cons}
use lib.Dec.{ltb}
use borrow.Author.Tests.{ltb-true, not-true, not-false}
use Rattle.definition.specs.Basic.{between}
use Rattle.definition.specs.Syntax.{Bytes}
use Rattle.definition.specs.Reader.{Step, got, fault, Reader, onward, byte, byte_of, many}
use Rattle.definition.specs.Token.{idchar, id_byte, string_byte}
use Rattle.laws.specs.Steps.{stops}
use Rattle.laws.proofs.Readers.{byte_in, byte_out, many-got, many-fault, many_zero}
use Rattle.laws.proofs.Backwards.{came, passed}
use Rattle.laws.proofs.Exits.{between_in, between-low, between_high}
use Rattle.syntax.specs.Tokens.{part}

-- ## One byte of a class

module _ (n : ℕ) (test : ℕ → Bool) (s : Bytes) (at : ℕ) where
  pub class_end : length s ≤ at → byte_of n test s at ≡ fault 2
  class_end h = rw (byte_out s at h)

  pub class_in : at < length s → test (get_or s at 0) ≡ true → byte_of n test s at ≡ got (get_or s at 0) (at + 1)
  class_in h t = rw (byte_in s at h, t)

  pub class_out : at < length s → test (get_or s at 0) ≡ false → byte_of n test s at ≡ fault n
  class_out h t = rw (byte_in s at h, t)

-- of an identifier: where the loop over them goes
module _ (s : Bytes) (at : ℕ) where
  pub id_end : length s ≤ at → stops (id_byte s at) ≡ fault 2
  unfolding id_byte
  id_end h = rw (class_end 5 idchar s at h)

  pub id_in : (r : Bool) → at < length s → r ≡ idchar (get_or s at 0) → not r ≡ false → stops (id_byte s at) ≡ got tt (at + 1)
  unfolding id_byte
  id_in r h e t = rw (class_in 5 idchar s at h (sym e ∙ not-false r t))

  pub id_out : (r : Bool) → at < length s → r ≡ idchar (get_or s at 0) → not r ≡ true → stops (id_byte s at) ≡ fault 5
  unfolding id_byte
  id_out r h e t = rw (class_out 5 idchar s at h (sym e ∙ not-true r t))

  -- of a string
  pub string_end : length s ≤ at → stops (string_byte s at) ≡ fault 2
  unfolding string_byte
  string_end h = rw (class_end 6 (between 0x20 0x7E) s at h)

  pub string_in : at < length s → 0x20 ≤ get_or s at 0 → get_or s at 0 ≤ 0x7E → stops (string_byte s at) ≡ got tt (at + 1)
  unfolding string_byte
  string_in h l g = rw (class_in 6 (between 0x20 0x7E) s at h (between_in 0x20 0x7E (get_or s at 0) l g))

  pub string-low : at < length s → get_or s at 0 < 0x20 → stops (string_byte s at) ≡ fault 6
  unfolding string_byte
  string-low h l = rw (class_out 6 (between 0x20 0x7E) s at h (between-low 0x20 0x7E (get_or s at 0) l))

  pub string_high : at < length s → 0x20 ≤ get_or s at 0 → 0x7E < get_or s at 0 → stops (string_byte s at) ≡ fault 6
  unfolding string_byte
  string_high h l g = rw (class_out 6 (between 0x20 0x7E) s at h (between_high 0x20 0x7E (get_or s at 0) l g))

-- ## A run that was passed over is a part of the stream

-- a reader of one byte, whatever it refuses
pub record Single (p : Reader ℕ) : Type 0 where
  pub one : (s : Bytes) (at b q : ℕ) → p s at ≡ got b q → (at < length s) × (b ≡ get_or s at 0) × (q ≡ at + 1)

pub byte-single : Single byte
unfolding byte
byte-single = record { one = λ s at b q. go s at b q (ltb at (length s)) refl }
  where
    go : (s : Bytes) (at b q : ℕ) (t : Bool) → ltb at (length s) ≡ t → (if t then got (get_or s at 0) (at + 1) else fault 2) ≡ got b q
        → (at < length s) × (b ≡ get_or s at 0) × (q ≡ at + 1)
    go s at b q true d e = (ltb-true _ _ d, cc, cc)
    go s at b q false d e = let z : ◌≡◌ {A = ℕ} 0 1 = cc in absurd (omega arith)

pub class_single : (n : ℕ) (test : ℕ → Bool) → Single (byte_of n test)
class_single n test = record { one = λ s at b q e. go s at b q e }
  where
    go : (s : Bytes) (at b q : ℕ) → byte_of n test s at ≡ got b q → (at < length s) × (b ≡ get_or s at 0) × (q ≡ at + 1)
    go s at b q e =
        let c = came (byte s at) e in
        let t = passed _ n (test c.value) s c.next c.rest in
        let g = byte-single.one s at c.value c.next c.first in
        let h = t.1 in
        (g.0, cc (g.1, h), cc (g.2, h))

pub id-single : Single id_byte
unfolding id_byte
id-single = class_single 5 idchar

pub string-single : Single string_byte
unfolding string_byte
string-single = class_single 6 (between 0x20 0x7E)

-- the bytes that a run gives
pub many-part : (p : Reader ℕ) → Single p → (n : ℕ) (s : Bytes) (at q : ℕ) → stops (many n p s at) ≡ got tt q → many n p s at ≡ got (part s at n) q
unfolding many part
many-part p i zero s at q e = cc
many-part p i (suc n) s at q e = go (p s at) refl e (λ next. many-part p i n s next q)
  where
    tail : (x : ℕ) (st : Step (List ℕ)) → stops (onward (λ xs next. got (x ∷ xs) next) st) ≡ got tt q → stops st ≡ got tt q
    tail x (got xs next) e = e
    tail x (fault k) e = e

    go : (st : Step ℕ) → p s at ≡ st → stops (onward (λ x next. onward (λ xs next. got (x ∷ xs) next) (many n p s next)) st) ≡ got tt q
        → ((next : ℕ) → stops (many n p s next) ≡ got tt q → many n p s next ≡ got (take n (drop next s)) q)
        → onward (λ x next. onward (λ xs next. got (x ∷ xs) next) (many n p s next)) (p s at) ≡ got (take (suc n) (drop at s)) q
    go (fault k) d e f = let z : ◌≡◌ {A = ℕ} 0 1 = cc in absurd (omega arith)
    go (got b next) d e f =
        let g = i.one s at b next d in
        let h : next ≡ suc at = omega (arith, g.2) in
        let c : drop at s ≡ get_or s at 0 ∷ drop (suc at) s = drop-cons s at 0 g.0 in
        rw (d, f next (tail b (many n p s next) e), h, c, g.1)

-- the same as rules for `search`
module _ (p : Reader ℕ) (i : Single p) (n : ℕ) (s : Bytes) (at : ℕ) where
  pub run_is : (x : Step Bytes) (q : ℕ) → stops (many n p s at) ≡ got tt q → got (part s at n) q ≡ x → many n p s at ≡ x
  run_is x q e h = many-part p i n s at q e ∙ h

  pub run_not : (x : Step Bytes) (k : ℕ) → stops (many n p s at) ≡ fault k → fault k ≡ x → many n p s at ≡ x
  run_not x k e h = go (many n p s at) e ∙ h
    where
      go : (st : Step Bytes) → stops st ≡ fault k → st ≡ fault k
      go (got a q) z = let y : ◌≡◌ {A = ℕ} 0 1 = cc in absurd (omega arith)
      go (fault f) z = let y : f ≡ k = cc in rw y

  module _ {B : Type 0} (x : Step B) (k : Bytes → ℕ → Step B) where
    pub run-got : (q : ℕ) → stops (many n p s at) ≡ got tt q → k (part s at n) q ≡ x → onward k (many n p s at) ≡ x
    run-got q e h = rw (run_is (got (part s at n) q) q e refl) h

    pub run-fault : (e : ℕ) → stops (many n p s at) ≡ fault e → fault e ≡ x → onward k (many n p s at) ≡ x
    run-fault e d h = rw (run_not (fault e) e d refl) h

-- the same for `grind`
module _ (n : ℕ) (s : Bytes) (at q : ℕ) where
  pub id_run : stops (many n id_byte s at) ≡ got tt q → many n id_byte s at ≡ got (part s at n) q
  id_run e = many-part id_byte id-single n s at q e

  pub string_run : stops (many n string_byte s at) ≡ got tt q → many n string_byte s at ≡ got (part s at n) q
  string_run e = many-part string_byte string-single n s at q e

  pub byte_run : stops (many n byte s at) ≡ got tt q → many n byte s at ≡ got (part s at n) q
  byte_run e = many-part byte byte-single n s at q e

pub ruleset runs = (id-single, string-single, byte-single, run_is, run_not, run-got, run-fault, id_run, string_run, byte_run)

-- ## Bytes of any kind: their end is computed

pub bytes_in_lem : (n : ℕ) (s : Bytes) (at : ℕ) → at + n ≤ length s → stops (many n byte s at) ≡ got tt (at + n)
bytes_in_lem zero s at h = many_zero byte 0 s at refl ∙ rw add-zero
bytes_in_lem (suc n) s at h =
    let m : suc n - 1 ≡ n = omega arith in
    let g : at + 1 + n ≡ at + suc n = omega arith in
    many-got byte (suc n) s at (omega arith) (byte_in s at (omega arith)) ∙ rw m (bytes_in_lem n s (at + 1) (omega arith) ∙ rw g)

pub bytes_out : (n : ℕ) (s : Bytes) (at : ℕ) → 0 < n → length s < at + n → stops (many n byte s at) ≡ fault 2
bytes_out zero s at p h = absurd (omega arith)
bytes_out (suc n) s at p h = go (dec_le (length s) at) (bytes_out n s (at + 1))
  where
    go : Dec (length s ≤ at) → (0 < n → length s < at + 1 + n → stops (many n byte s (at + 1)) ≡ fault 2) → stops (many (suc n) byte s at) ≡ fault 2
    go (yes l) f = many-fault byte (suc n) s at p (byte_out s at l)
    go (no l) f =
        let m : suc n - 1 ≡ n = omega arith in
        many-got byte (suc n) s at p (byte_in s at (omega arith)) ∙ rw m (f (omega arith) (omega arith))
