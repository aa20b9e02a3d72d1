-- What is known to be readable: the parts of a reader that gets something, and where the bytes of a name or a string end.
use Rattle.std.specs.Prelude.{if◌then◌else◌}
use mathlib.Core.Path.{◌≡◌, refl, ap, sym, ◌∙◌}
use mathlib.Core.Bool.{Bool, true, false}
use mathlib.Core.Option.{none, some}
use Prim.Native.Nat.{ℕ, zero, suc, ◌+◌, ◌*◌, ◌^◌, ◌≤◌, ◌<◌}
use native.Mathlib.Omega.{arith}
use lib.ListN.{length}
use lib.Dec.{eqb, leb}
use mir.Syntax.{w64}
use mir.Val.{Fits}
use borrow.Author.Tests.{ne_eqb, leb-true}
use Rattle.definition.specs.Syntax as Syntax
use Rattle.definition.specs.Syntax.{Bytes, Identifier, absent}
use Rattle.definition.specs.Reader.{Step, got, fault, Reader, onward, require, byte, many}
use Rattle.definition.specs.Token.{u32, up_to, id_byte, identifier, identifier₁, string_byte, string, number_index, named_index, present, optional}
use Rattle.laws.specs.Steps.{stops}
use Rattle.laws.proofs.Backwards.{came, passed}
use Rattle.laws.proofs.Groups.{groups-fault, u32-within}
use Rattle.laws.proofs.OneSpelling.{u32-byte}
use Rattle.syntax.specs.Tokens.{part}
use Rattle.syntax.proofs.Ways.{fault_handed, skip_handed}
use Rattle.token.specs.Readers.{given}
use Rattle.token.specs.Known.{Gets}
use Rattle.token.proofs.Runs.{Single, id-single, string-single, many-part}
use Rattle.token.proofs.Skips.{stops-made}

-- ## One reader after another

module _ {A B : Type 0} (k : A → ℕ → Step B) (m : Step A) (g : Gets (onward k m)) where
  -- the first of them gets something
  pub gets_first : Gets m
  gets_first = let c = came m g.is in record { value = c.value; next = c.next; is = c.first }

  -- and so does the rest, after what the first gives
  pub gets_rest : (a : A) (n : ℕ) → m ≡ got a n → Gets (k a n)
  gets_rest a n e = record { value = g.value; next = g.next; is = rw e at g.is }

-- a test that was required has passed, and the rest gets something
module _ {B : Type 0} (k : Unit {0} → ℕ → Step B) (n : ℕ) (t : Bool) (s : Bytes) (here : ℕ) (g : Gets (onward k (require n t s here))) where
  pub gets_passed : t ≡ true
  gets_passed = (passed k n t s here g.is).0

  pub gets_after : Gets (k tt here)
  gets_after = record { value = g.value; next = g.next; is = (passed k n t s here g.is).1 }

-- ## A length, and so many bytes of a class

-- a length that is known to be allowed is the number that is read, and the rest gets something after it
module _ {B : Type 0} (k : ℕ → ℕ → Step B) (refusal ceiling : ℕ) (s : Bytes) (at n next : ℕ) (g : Gets (onward k (up_to refusal ceiling s at))) (e : u32 s at ≡ got n next) where
  pub length-is : up_to refusal ceiling s at ≡ got n next
  unfolding up_to
  length-is =
      let u : Gets (up_to refusal ceiling s at) = gets_first k (up_to refusal ceiling s at) g in
      let t : leb n ceiling ≡ true = gets_passed _ refusal (leb n ceiling) s next (gets_rest _ (u32 s at) u n next e) in
      rw (e, t)

  pub length_then : Gets (k n next)
  length_then = gets_rest k (up_to refusal ceiling s at) g n next length-is

-- a run ends so many bytes on, within the stream
run_ends : (p : Reader ℕ) → Single p → (n : ℕ) (s : Bytes) (at : ℕ) (xs : Bytes) (q : ℕ) → at ≤ length s → many n p s at ≡ got xs q → (q ≡ at + n) × (q ≤ length s)
unfolding many
run_ends p i zero s at xs q h e = let z : at ≡ q = cc in (omega arith, omega arith)
run_ends p i (suc n) s at xs q h e =
    let c = came (p s at) e in
    let b = i.one s at c.value c.next c.first in
    let d = came (many n p s c.next) c.rest in
    let z : d.next ≡ q = cc d.rest in
    let r = run_ends p i n s c.next d.value d.next (omega (arith, b.0, b.2)) d.first in
    (omega (arith, r.0, b.2), omega (arith, r.1))

module _ (p : Reader ℕ) (i : Single p) (n : ℕ) (s : Bytes) (at : ℕ) (h : at ≤ length s) (g : Gets (many n p s at)) where
  -- its bytes are the part of the stream that starts here
  pub run-known : many n p s at ≡ got (part s at n) (at + n)
  run-known =
      let e = (run_ends p i n s at g.value g.next h g.is).0 in
      many-part p i n s at (at + n) (ap stops g.is ∙ ap (got tt) e)

  pub run_fits : length s * 1 < 2 ^ 63 → Fits w64 (at + n)
  run_fits f = let r = run_ends p i n s at g.value g.next h g.is in record { fits = omega (arith, r.0, r.1) }

-- ## Identifiers: the length is at most 64, and so a byte

module _ (s : Bytes) (at : ℕ) where
  module _ (n next : ℕ) (e : byte s at ≡ got n next) where
    -- the number that is known to be allowed is that byte
    one_byte : {A : Type 0} (k : ℕ → ℕ → Step A) → Gets (onward k (up_to 5 64 s at)) → u32 s at ≡ got n next
    unfolding up_to
    one_byte k g =
        let u : Gets (up_to 5 64 s at) = gets_first k (up_to 5 64 s at) g in
        let m : Gets (u32 s at) = gets_first _ (u32 s at) u in
        let l : m.value ≤ 64 = leb-true _ _ (gets_passed _ 5 (leb m.value 64) s m.next (gets_rest _ (u32 s at) u m.value m.next m.is)) in
        let b : byte s at ≡ got m.value m.next = u32-byte s at (omega arith) m.is in
        m.is ∙ sym b ∙ e

    module _ (g : Gets (identifier s at)) where
      id-length : u32 s at ≡ got n next
      unfolding identifier
      id-length = one_byte _ g

      id-run : Gets (many n id_byte s next)
      unfolding identifier
      id-run = gets_first _ (many n id_byte s next) (length_then _ 5 64 s at n next g id-length)

      pub id-known : identifier s at ≡ got (if eqb n 0 then none else some (part s next n)) (next + n)
      unfolding identifier
      id-known = rw (length-is _ 5 64 s at n next g id-length, run-known id_byte id-single n s next (u32-within s at id-length).inside id-run)

      pub id_skipped : stops (identifier s at) ≡ got tt (next + n)
      id_skipped = ap stops id-known

      pub id-fits : length s * 1 < 2 ^ 63 → Fits w64 (next + n)
      id-fits h = run_fits id_byte id-single n s next (u32-within s at id-length).inside id-run h

    module _ (g : Gets (identifier₁ s at)) where
      name_length_lem : u32 s at ≡ got n next
      unfolding identifier₁
      name_length_lem = one_byte _ g

      name_test : Gets (onward (λ _ q. many n id_byte s q) (require 5 (leb 1 n) s next))
      unfolding identifier₁
      name_test = length_then _ 5 64 s at n next g name_length_lem

      name_run : Gets (many n id_byte s next)
      name_run = gets_after _ 5 (leb 1 n) s next name_test

      pub name_known : identifier₁ s at ≡ got (part s next n) (next + n)
      unfolding identifier₁
      name_known = rw (length-is _ 5 64 s at n next g name_length_lem, gets_passed _ 5 (leb 1 n) s next name_test, run-known id_byte id-single n s next (u32-within s at name_length_lem).inside name_run)

      pub name_fits : length s * 1 < 2 ^ 63 → Fits w64 (next + n)
      name_fits h = run_fits id_byte id-single n s next (u32-within s at name_length_lem).inside name_run h

  -- no byte is left
  module _ (k : ℕ) (e : byte s at ≡ fault k) where
    no_length : u32 s at ≡ fault k
    unfolding u32
    no_length = groups-fault (2 ^ 32) 1 0 s at 5 (omega arith) e

    pub id-refused : identifier s at ≡ fault k
    unfolding identifier up_to
    id-refused = rw no_length

    pub id-stopped : stops (identifier s at) ≡ fault k
    id-stopped = ap stops id-refused

    pub name_refused : identifier₁ s at ≡ fault k
    unfolding identifier₁ up_to
    name_refused = rw no_length

pub ruleset known_names = (id-known, id_skipped, id-fits, id-refused, id-stopped, name_known, name_fits, name_refused, fault_handed, skip_handed)

-- ## Strings

module _ (s : Bytes) (at : ℕ) where
  module _ (n next : ℕ) (read : u32 s at ≡ got n next) (g : Gets (string s at)) where
    inside : next ≤ length s
    inside = (u32-within s at read).inside

    string-run : Gets (many n string_byte s next)
    unfolding string
    string-run = length_then _ 6 255 s at n next g read

    pub string-known : string s at ≡ got (part s next n) (next + n)
    unfolding string
    string-known = rw (length-is _ 6 255 s at n next g read, run-known string_byte string-single n s next inside string-run)

    pub string-fits : length s * 1 < 2 ^ 63 → Fits w64 (next + n)
    string-fits h = run_fits string_byte string-single n s next inside string-run h

  -- a length that is refused
  pub string-refused : (k : ℕ) → u32 s at ≡ fault k → string s at ≡ fault k
  unfolding string up_to
  string-refused k e = rw e

pub ruleset known_strings = (string-known, string-fits, string-refused, fault_handed)

-- ## Indices

module _ (b : ℕ) (s : Bytes) (at : ℕ) where
  -- given as a number
  pub given-number-is : (x : Step (Syntax.Index Identifier)) → b ≡ 1 → number_index s at ≡ x → given b s at ≡ x
  unfolding given
  given-number-is x d p = rw d p

  -- what is known to be given, and not as a number, is given as a name
  module _ (g : Gets (given b s at)) (f : b ≡ 1 → ⊥) where
    by_name : given b s at ≡ named_index s at
    unfolding given
    by_name = rw (ne_eqb b 1 f) (go (eqb b 2) (rw (ne_eqb b 1 f) at g.is))
      where
        go : (t : Bool) → (if t then named_index else (λ _ _. fault 4)) s at ≡ got g.value g.next → (if t then named_index else (λ _ _. fault 4)) s at ≡ named_index s at
        go true e = refl
        go false e = let z : ◌≡◌ {A = ℕ} 0 1 = cc in absurd (omega arith)

    pub given_gets : Gets (identifier₁ s at)
    unfolding named_index
    given_gets = gets_first _ (identifier₁ s at) (record { value = g.value; next = g.next; is = sym by_name ∙ g.is })

    pub given_name_is : (x : Step (Syntax.Index Identifier)) → named_index s at ≡ x → given b s at ≡ x
    given_name_is x p = by_name ∙ p

module _ (s : Bytes) (at : ℕ) where
  module _ (b next : ℕ) (e : byte s at ≡ got b next) where
    pub present_gets : Gets (present s at) → Gets (given b s next)
    unfolding present given
    present_gets g = gets_rest _ (byte s at) g b next e

    pub named_gets : Gets (present s at) → (b ≡ 1 → ⊥) → Gets (identifier₁ s next)
    named_gets g f = given_gets b s next (present_gets g) f

    present_step : present s at ≡ given b s next
    unfolding present given
    present_step = rw e

    -- an optional index that is there is present
    pub optional_gets : Gets (optional s at) → (b ≡ 0 → ⊥) → Gets (present s at)
    unfolding optional given
    optional_gets g f = rw present_step (rw (ne_eqb b 0 f) at (gets_rest _ (byte s at) g b next e))

    pub optional-absent : b ≡ 0 → optional s at ≡ got absent next
    unfolding optional
    optional-absent f = rw (e, f)

    module _ (x : Step (Syntax.Index Identifier)) where
      pub present-is : given b s next ≡ x → present s at ≡ x
      unfolding present given
      present-is p = rw e p

      pub optional-is : (b ≡ 0 → ⊥) → present s at ≡ x → optional s at ≡ x
      unfolding optional given
      optional-is f p = rw (e, ne_eqb b 0 f) (sym present_step ∙ p)

    -- one that is there by its number, or by its name, ends where that does
    pub number_past : b ≡ 1 → stops (present s at) ≡ stops (u32 s next)
    unfolding given number_index
    number_past d = let z : given b s next ≡ number_index s next = rw d in ap stops (present_step ∙ z) ∙ stops-made _ (u32 s next)

    module _ (g : Gets (present s at)) (f : b ≡ 1 → ⊥) where
      by_its_name : stops (present s at) ≡ stops (identifier₁ s next)
      unfolding named_index
      by_its_name = ap stops (present_step ∙ by_name b s next (present_gets g) f) ∙ stops-made _ (identifier₁ s next)

      pub named_past : (i : Identifier) (n : ℕ) → identifier₁ s next ≡ got i n → stops (present s at) ≡ got tt n
      named_past i n d = by_its_name ∙ ap stops d

      pub named_not : (n : ℕ) → identifier₁ s next ≡ fault n → stops (present s at) ≡ fault n
      named_not n d = by_its_name ∙ ap stops d

  module _ (k : ℕ) (e : byte s at ≡ fault k) where
    pub present-refused : present s at ≡ fault k
    unfolding present
    present-refused = rw e

    pub present-stopped : stops (present s at) ≡ fault k
    present-stopped = ap stops present-refused

    pub optional-refused : optional s at ≡ fault k
    unfolding optional
    optional-refused = rw e

pub ruleset known_indices = (refl, given-number-is, given_gets, given_name_is, present_gets, present-is, present-refused, optional_gets, optional-absent, optional-is, optional-refused, fault_handed)

pub ruleset skipped_indices = (refl, named_gets, number_past, named_past, named_not, present-stopped, skip_handed)
