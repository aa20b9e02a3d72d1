-- What lists and type uses that are known to be readable tell.
use Rattle.std.specs.Prelude.{Ok}
use Rattle.syntax.specs.Reads.{Read}
use mathlib.Core.Path.{◌≡◌, refl, ◌∙◌, subst}
use mathlib.Core.List.{List}
use mathlib.Core.Option.{Option}
use Prim.Native.Nat.{ℕ, zero, suc, ◌+◌, ◌-◌, ◌*◌, ◌^◌, ◌≤◌, ◌<◌}
use native.Mathlib.Omega.{arith}
use lib.ListN.{length}
use mir.Syntax.{w64}
use mir.Val.{Fits}
use Rattle.definition.specs.Syntax.{Bytes, Identifier, Local, Index}
use Rattle.definition.specs.Reader.{got, fault, Reader, byte, many}
use Rattle.definition.specs.Token.{u32, up_to, counted, is_val, val_type, identifier, param, string, optional, type_use}
use Rattle.laws.specs.Steps.{stops}
use Rattle.laws.proofs.Backwards.{came, passed}
use Rattle.laws.proofs.Groups.{u32-within}
use Rattle.laws.proofs.Passing.{Passing, pass-begin, pass_again}
use Rattle.token.specs.Known.{Gets}
use Rattle.syntax.specs.Tokens.{part}
use Rattle.syntax.proofs.Ways.{fault_handed}
use Rattle.token.proofs.Runs.{Single, class_single}
use Rattle.token.proofs.Skips.{gave_at}
use Rattle.token.proofs.Gets.{gets_first, gets_rest, length-is, length_then, run-known, run_fits}
use Rattle.typeuse.specs.Known.{Readable, ReadableList, ReadableUse}
use Rattle.syntax.specs.TypeUses.{elements}
use Rattle.syntax.specs.declared.List as Code
use Rattle.syntax.specs.declared.TypeUse.{TypeUse}
use Rattle.typeuse.proofs.Lists.{elements_are}

-- ## So many of a thing

-- the first of them
many-one : {A : Type 0} (p : Reader A) (n : ℕ) (s : Bytes) (at : ℕ) → 0 < n → Gets (many n p s at) → Gets (p s at)
unfolding many
many-one p zero s at h g = absurd (omega arith)
many-one p (suc n) s at h g = gets_first _ (p s at) g

-- and those after it
many_more : {A : Type 0} (p : Reader A) (n : ℕ) (s : Bytes) (at next : ℕ) → 0 < n → Gets (many n p s at) → stops (p s at) ≡ got tt next → Gets (many (n - 1) p s next)
unfolding many
many_more p zero s at next h g e = absurd (omega arith)
many_more p (suc n) s at next h g e =
    let m : suc n - 1 ≡ n = omega arith in
    let f = gave_at (p s at) next e in
    rw m (gets_first _ (many n p s next) (gets_rest _ (p s at) g f.value next f.is))

-- a loop over them: those that are left get something
pub record Knowing {A : Type 0} (p : Reader A) (n : ℕ) (s : Bytes) (at left here : ℕ) : Type 0 where
  pub passing : Passing p n s at left here
  pub gets : Gets (many left p s here)

pub know_begin : {A : Type 0} (p : Reader A) (n : ℕ) (s : Bytes) (at : ℕ) → Gets (many n p s at) → Knowing p n s at n at
know_begin p n s at g = record { passing = pass-begin p n s at; gets = g }

module _ (n : ℕ) (s : Bytes) (at left here : ℕ) where
  pub know_local : Knowing param n s at left here → 0 < left → Gets (param s here)
  know_local v h = many-one param left s here h v.gets

  pub know_string : Knowing string n s at left here → 0 < left → Gets (string s here)
  know_string v h = many-one string left s here h v.gets

  pub know_again : {A : Type 0} (p : Reader A) → Knowing p n s at left here → 0 < left → (next : ℕ) → stops (p s here) ≡ got tt next → Knowing p n s at (left - 1) next
  know_again p v h next e = record { passing = pass_again p n s at left here v.passing next h e; gets = many_more p left s here next h v.gets e }

-- the same with `i` of them so far
module _ (n : ℕ) (s : Bytes) (at : ℕ) where
  pub none_known : {A : Type 0} (p : Reader A) → Gets (many n p s at) → Knowing p n s at (n - 0) at
  none_known p g = let m : n - 0 ≡ n = omega arith in rw m (know_begin p n s at g)

  module _ (i here : ℕ) where
    pub next_local : Knowing param n s at (n - i) here → i < n → Gets (param s here)
    next_local v h = know_local n s at (n - i) here v (omega arith)

    pub next_string : Knowing string n s at (n - i) here → i < n → Gets (string s here)
    next_string v h = know_string n s at (n - i) here v (omega arith)

    pub one_known : {A : Type 0} (p : Reader A) → Knowing p n s at (n - i) here → i < n → (next : ℕ) → stops (p s here) ≡ got tt next → Knowing p n s at (n - (i + 1)) next
    one_known p v h next e = let m : n - (i + 1) ≡ n - i - 1 = omega arith in rw m (know_again n s at (n - i) here p v (omega arith) next e)

pub ruleset knows = (none_known, next_local, next_string, one_known)

-- ## A value type

-- one that is known to be readable is the byte
val_known : (s : Bytes) (at : ℕ) → Gets (val_type s at) → val_type s at ≡ byte s at
unfolding val_type
val_known s at g =
    let c = came (byte s at) g.is in
    rw (c.first, (passed _ 4 (is_val c.value) s c.next c.rest).0)

val_single : Single val_type
unfolding val_type
val_single = class_single 4 is_val

-- ## A parameter or a local

module _ (s : Bytes) (at : ℕ) where
  pub local_gets : Gets (param s at) → Gets (identifier s at)
  unfolding param
  local_gets g = gets_first _ (identifier s at) g

  module _ (i : Option Identifier) (n : ℕ) (e : identifier s at ≡ got i n) (g : Gets (param s at)) where
    type_is : val_type s n ≡ byte s n
    unfolding param
    type_is = val_known s n (gets_first _ (val_type s n) (gets_rest _ (identifier s at) g i n e))

    pub local_is : (t q : ℕ) → byte s n ≡ got t q → param s at ≡ got (record { id = i; type = t }) q
    unfolding param
    local_is t q d = rw (e, type_is, d)

    pub local_no_type : (k : ℕ) → byte s n ≡ fault k → param s at ≡ fault k
    unfolding param
    local_no_type k d = rw (e, type_is, d)

  pub local_refused : (k : ℕ) → identifier s at ≡ fault k → param s at ≡ fault k
  unfolding param
  local_refused k e = rw e

  module _ (n : ℕ) (e : stops (identifier s at) ≡ got tt n) (g : Gets (param s at)) where
    type_gets : Gets (val_type s n)
    unfolding param
    type_gets =
        let i = gave_at (identifier s at) n e in
        gets_first _ (val_type s n) (gets_rest _ (identifier s at) g i.value n i.is)

    -- its type is one byte
    type-one : (n < length s) × (type_gets.next ≡ n + 1)
    type-one = let o = val_single.one s n type_gets.value type_gets.next type_gets.is in (o.0, o.2)

    pub local_passed : stops (param s at) ≡ got tt (n + 1)
    unfolding param
    local_passed =
        let i = gave_at (identifier s at) n e in
        rw (i.is, type_gets.is, type-one.1)

    pub local_fits : length s * 1 < 2 ^ 63 → Fits w64 (n + 1)
    local_fits h = record { fits = omega (arith, type-one.0) }

pub ruleset known_locals = (local_gets, local_is, local_no_type, local_refused, local_passed, local_fits, fault_handed)

-- ## A count, and so many

module _ {A : Type 0} (ceiling : ℕ) (p : Reader A) (s : Bytes) (at : ℕ) where
  module _ (n next : ℕ) (e : u32 s at ≡ got n next) (g : Gets (counted ceiling p s at)) where
    pub counted_gets : Gets (many n p s next)
    unfolding counted
    counted_gets = length_then _ 7 ceiling s at n next g e

    pub counted_is : counted ceiling p s at ≡ many n p s next
    unfolding counted
    counted_is = rw (length-is _ 7 ceiling s at n next g e)

  pub counted_refused : (k : ℕ) → u32 s at ≡ fault k → counted ceiling p s at ≡ fault k
  unfolding counted up_to
  counted_refused k e = rw e

-- value types end so many bytes on
module _ (ceiling : ℕ) (s : Bytes) (at n next : ℕ) (e : u32 s at ≡ got n next) (g : Gets (counted ceiling val_type s at)) where
  inside : next ≤ length s
  inside = (u32-within s at e).inside

  run : Gets (many n val_type s next)
  run = counted_gets ceiling val_type s at n next e g

  pub types_known : counted ceiling val_type s at ≡ got (elements val_type s next n) (next + n)
  types_known =
      let k : many n val_type s next ≡ got (part s next n) (next + n) = run-known val_type val_single n s next inside run in
      let l : elements val_type s next n ≡ part s next n = elements_are val_type n s next (part s next n) (next + n) k in
      counted_is ceiling val_type s at n next e g ∙ rw l k

  pub types_fit : length s * 1 < 2 ^ 63 → Fits w64 (next + n)
  types_fit h = run_fits val_type val_single n s next inside run h

pub ruleset known_lists = (refl, counted_gets, counted_is, counted_refused, types_known, types_fit, fault_handed)

-- ## A type use

module _ (s : Bytes) (at : ℕ) where
  pub use_index : Gets (type_use s at) → Gets (optional s at)
  unfolding type_use
  use_index g = gets_first _ (optional s at) g

  module _ (x : Index Identifier) (a : ℕ) (e : optional s at ≡ got x a) where
    pub use_params : Gets (type_use s at) → Gets (counted 64 param s a)
    unfolding type_use
    use_params g = gets_first _ (counted 64 param s a) (gets_rest _ (optional s at) g x a e)

    pub use_results : (ps : List (Local Identifier)) (b : ℕ) → counted 64 param s a ≡ got ps b → Gets (type_use s at) → Gets (counted 16 val_type s b)
    unfolding type_use
    use_results ps b f g =
        gets_first _ (counted 16 val_type s b)
        (gets_rest _ (counted 64 param s a) (gets_rest _ (optional s at) g x a e) ps b f)

pub ruleset known_uses = (use_index, use_params, use_results)

-- ## Lists that were read can be read

pub list_readable : (s : Bytes) (r : Read Code.List) (l : Code.List) (a : ℕ) → r ≡ Ok (l, a) → ReadableList s r → Readable s l
list_readable s r l a d v = subst (ReadableList s) d v

pub use_readable : (s : Bytes) (r : Read TypeUse) (t : TypeUse) (a : ℕ) → r ≡ Ok (t, a) → ReadableUse s r → Readable s t.params
use_readable s r t a d v = subst (ReadableUse s) d v

pub ruleset readables = (list_readable, use_readable)
