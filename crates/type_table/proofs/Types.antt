-- Plain mathematics of the table of types: found, added, taken.
use Rattle.std.specs.Prelude.{Ok, Err, Option as Optional, Some}
use Rattle.std.specs.Prelude.{if◌then◌else◌}
use Prim.Native.Nat.{ℕ, zero, suc, ◌+◌, ◌-◌, ◌*◌, ◌≤◌, ◌<◌, min}
use mathlib.Core.Path.{◌≡◌, refl, sym, ◌∙◌, ap}
use mathlib.Core.Bool.{Bool, true, false}
use mathlib.Core.List.{List, [], ◌∷◌, ◌++◌}
use mathlib.Core.Option.{Option, none, some}
use lib.ListN.{length, get_or}
use borrow.Author.Tests.{lt-leb, le-leb, eq-eqb}
use native.Mathlib.Omega.{arith}
use Rattle.definition.specs.Basic.{at, same, same_bytes, first_at, later}
use Rattle.definition.specs.Syntax.{Bytes, FuncType}
use Rattle.definition.specs.Types.{same_type, type_at, signature}
use Rattle.definition.specs.Names.{param_count}
use Rattle.syntax.specs.Refusals.{refusal}
use Rattle.syntax.specs.declared.Fault.TheVariants as F
use Rattle.area.specs.Layout.{NAMED, TOTAL, TYPES, USES}
use Rattle.syntax.specs.TypeUses.{use_of}
use Rattle.syntax.specs.declared.TypeUse.{TypeUse}
use Rattle.area.specs.Kept.{Kept}
use Rattle.area.proofs.Kept.{kept_word}
use Rattle.type_table.specs.Table.{types_of, signature_of, of_use, entry_in, type_table, types_in, number_of, agreeing, type_words, Indexed, Fresh, Adds, Interns}
use Rattle.type_table.specs.declared.entry.Signature.{Signature}
use Rattle.type_table.specs.declared.index.Hashed.{Hashed}
use Rattle.type_table.specs.declared.table.Agreement.TheVariants as A
use Rattle.type_table.proofs.Entries.{use_signature, inside-same, entry_kept, type-inside, type-written}
use Rattle.syntax.specs.declared.Refusal.{Refusal}

-- ## The table

pub table-length : (n : ℕ) (s w : List ℕ) (base : ℕ) → length (type_table n s w base) ≡ n
unfolding type_table
table-length zero s w base = refl
table-length (suc n) s w base = ap suc (table-length n s w (base + 5))

-- the first entry, and the others
table_cons : (n : ℕ) (s w : List ℕ) (base : ℕ) → 0 < n → type_table n s w base ≡ signature_of s (entry_in w base) ∷ type_table (n - 1) s w (base + 5)
unfolding type_table
table_cons zero s w base h = absurd (omega arith)
table_cons (suc n) s w base h = let e : suc n - 1 ≡ n = omega arith in rw e

-- the last entry, after the others
table_snoc : (n : ℕ) (s w : List ℕ) (base : ℕ) → type_table (suc n) s w base ≡ type_table n s w base ++ (signature_of s (entry_in w (base + 5 * n)) ∷ [])
unfolding type_table
table_snoc zero s w base = (let e : base + 5 * 0 ≡ base = omega arith in rw e)
table_snoc (suc n) s w base =
    (let e : base + 5 + 5 * n ≡ base + 5 * suc n = omega arith in
    ap (λ (l : List FuncType). signature_of s (entry_in w base) ∷ l) (table_snoc n s w (base + 5) ∙ rw e))

-- words after the table do not matter to it
pub table_kept : (n : ℕ) (s : Bytes) {w w' : List ℕ} (base m : ℕ) → base + 5 * n ≤ m → Kept m w w' → type_table n s w' base ≡ type_table n s w base
unfolding type_table
table_kept zero s base m h k = refl
table_kept (suc n) s {w} {w'} base m h k =
    rw (entry_kept {w = w} {w' = w'} base m (omega arith) k, table_kept n s {w = w} {w' = w'} (base + 5) m (omega arith) k)

-- nor do words after the number of types
pub types-kept : (n : ℕ) (s : Bytes) {w w' : List ℕ} → NAMED ≤ n → Kept n w w' → types_in s w' ≡ types_in s w
unfolding types_in
types-kept n s {w} {w'} h k =
    rw (kept_word k TOTAL (omega arith)) (table_kept (min (get_or w TOTAL 0) 256) s {w = w} {w' = w'} TYPES n (omega arith) k)

-- the entry at a number
table_at : (n : ℕ) (s w : List ℕ) (base k : ℕ) → k < n → at (type_table n s w base) k ≡ some (signature_of s (entry_in w (base + 5 * k)))
unfolding type_table at
table_at zero s w base k h = absurd (omega arith)
table_at (suc n) s w base zero h = (let e : base + 5 * 0 ≡ base = omega arith in rw e)
table_at (suc n) s w base (suc k) h = (let e : base + 5 + 5 * k ≡ base + 5 * suc k = omega arith in table_at n s w (base + 5) k (omega arith) ∙ rw e)

table-past : (n : ℕ) (s w : List ℕ) (base k : ℕ) → n ≤ k → at (type_table n s w base) k ≡ none
unfolding type_table at
table-past zero s w base k h = refl
table-past (suc n) s w base zero h = absurd (omega arith)
table-past (suc n) s w base (suc k) h = table-past n s w (base + 5) k (omega arith)

-- ## One more

-- an entry was written after the others
pub table_more : (s w : List ℕ) (count : ℕ) (x : Signature) → TYPES + 5 * count + 4 < length w
    → type_table (count + 1) s (type_words s w (TYPES + 5 * count) x) TYPES ≡ type_table count s w TYPES ++ (signature_of s x ∷ [])
table_more s w count x l =
    let c : count + 1 ≡ suc count = omega arith in
    let i = type-inside s w (TYPES + 5 * count) x (TYPES + 5 * count) (TYPES + 5 * count + 5) (omega arith) (omega arith) in
    let a : type_table count s (type_words s w (TYPES + 5 * count) x) TYPES ≡ type_table count s w TYPES = table_kept count s TYPES (TYPES + 5 * count) (omega arith) i.kept in
    rw (c, table_snoc count s (type_words s w (TYPES + 5 * count) x) TYPES, a, type-written s w (TYPES + 5 * count) x l)

-- a list is equal to itself
same_bytes_lem : (bs : List ℕ) → same_bytes bs bs ≡ true
unfolding same_bytes same
same_bytes_lem [] = refl
same_bytes_lem (b ∷ bs) = rw (eq-eqb b b refl, same_bytes_lem bs)

-- what is found nowhere is found where it is added
first_new : {A : Type 0} (p : A → Bool) (xs : List A) (y : A) → first_at p xs ≡ none → p y ≡ true → first_at p (xs ++ (y ∷ [])) ≡ some (length xs)
unfolding first_at
first_new p [] y e h = rw h
first_new p (x ∷ xs) y e h = go (p x) (first_at p xs) (λ d. first_new p xs y d h) e
  where
    go : (b : Bool) (o : Option ℕ) → (o ≡ none → first_at p (xs ++ (y ∷ [])) ≡ some (length xs)) → (if b then some 0 else later o) ≡ none
        → (if b then some 0 else later (first_at p (xs ++ (y ∷ [])))) ≡ some (suc (length xs))
    go true o f e = let z : ◌≡◌ {A = ℕ} 0 1 = cc in absurd (omega arith)
    go false none f e = let m : length xs + 1 ≡ suc (length xs) = omega arith in rw (f refl, m)
    go false (some n) f e = let z : ◌≡◌ {A = ℕ} 0 1 = cc in absurd (omega arith)

pub new_number : (ts : List FuncType) (t : FuncType) → type_at t ts ≡ none → type_at t (ts ++ (t ∷ [])) ≡ some (length ts)
unfolding type_at same_type
new_number ts t e = first_new (same_type t) ts t e (rw (same_bytes_lem t.params, same_bytes_lem t.results))

module _ (s w : List ℕ) (count : ℕ) (t : TypeUse) (r : ℕ) (x : Signature) (q : Optional ℕ) (of : x ≡ of_use t) (told : type_at (signature_of s x) (type_table count s w TYPES) ≡ number_of q) where
  used : type_at (signature (use_of s t)) (type_table count s w TYPES) ≡ number_of q
  used = ap (λ z. type_at z (type_table count s w TYPES)) (sym (ap (signature_of s) of ∙ use_signature s t)) ∙ told

  pub intern_takes : (n : ℕ) → q ≡ Some n → Indexed s w count → Interns s w count t r (Ok (n, count)) w
  unfolding Interns
  intern_takes n d h = record {
    types = rw (used, d);
    number = used ∙ ap number_of d;
    indexed = h;
    inside = inside-same (TYPES + 5 * count) USES w;
  }

module _ (s w : List ℕ) (count : ℕ) (t : TypeUse) (r : ℕ) (h : Hashed) (fresh : Fresh s w count (of_use t) h) where
  unused : type_at (signature (use_of s t)) (type_table count s w TYPES) ≡ none
  unused = ap (λ z. type_at z (type_table count s w TYPES)) (sym (use_signature s t)) ∙ fresh.missing

  pub intern_full : (z : Refusal) → 256 ≤ count → z ≡ refusal F.TooManyTypes r → Interns s w count t r (Err z) w
  unfolding Interns
  intern_full z k e = record { says = rw (unused, table-length count s w TYPES, le-leb 256 count k, e); area = refl }

  -- the signature that is added
  pub use_fresh : (x : Signature) → x ≡ of_use t → Fresh s w count x h
  use_fresh x e = rw e fresh

  pub intern_adds : (x : Signature) (w' : List ℕ) → x ≡ of_use t → count < 256 → Adds s w count x w' → Interns s w count t r (Ok (count, (count + 1))) w'
  unfolding Interns
  intern_adds x w' of k a =
      let e : type_table (count + 1) s w' TYPES ≡ type_table count s w TYPES ++ (signature (use_of s t) ∷ []) =
      a.types ∙ ap (λ z. type_table count s w TYPES ++ (z ∷ [])) (ap (signature_of s) of ∙ use_signature s t) in
      let n : type_at (signature (use_of s t)) (type_table count s w TYPES ++ (signature (use_of s t) ∷ [])) ≡ some count =
      new_number (type_table count s w TYPES) (signature (use_of s t)) unused ∙ ap some (table-length count s w TYPES) in
      record {
        types = rw (unused, table-length count s w TYPES, lt-leb 256 count k, e);
        number = rw e n;
        indexed = a.indexed;
        inside = a.inside;
      }

pub ruleset interns = (intern_full, intern_adds)

-- ## A type by its number

module _ (s w : List ℕ) (n m : ℕ) (total : m ≡ min (get_or w TOTAL 0) 256) where
  no_type : m ≤ n → at (types_in s w) n ≡ none
  unfolding types_in
  no_type h = table-past (min (get_or w TOTAL 0) 256) s w TYPES n (omega arith)

  pub no_params : m ≤ n → 0 ≡ param_count (at (types_in s w) n)
  no_params h = sym (rw (no_type h))

  pub type-missing : (t : TypeUse) → m ≤ n → A.NoType ≡ agreeing (signature (use_of s t)) (at (types_in s w) n)
  type-missing t h = sym (rw (no_type h))

  module _ (y : Signature) (e : y ≡ entry_in w (TYPES + 5 * n)) (h : n < m) where
    type-there : at (types_in s w) n ≡ some (signature_of s y)
    unfolding types_in
    type-there = table_at (min (get_or w TOTAL 0) 256) s w TYPES n (omega arith) ∙ rw e

    pub its_params : (r : ℕ) → r ≡ length (types_of y.named s y.params) → r ≡ param_count (at (types_in s w) n)
    unfolding signature_of
    its_params r d = d ∙ sym (rw type-there)

    module _ (t : TypeUse) (x : Signature) (b : Bool) (d : x ≡ of_use t) (f : b ≡ same_type (signature_of s x) (signature_of s y)) where
      compared : agreeing (signature (use_of s t)) (at (types_in s w) n) ≡ (if b then A.Same else A.Differs)
      compared = rw (type-there, f, d, use_signature s t)

      pub type-agrees : b ≡ true → A.Same ≡ agreeing (signature (use_of s t)) (at (types_in s w) n)
      type-agrees g = sym (compared ∙ rw g)

      pub type_differs : b ≡ false → A.Differs ≡ agreeing (signature (use_of s t)) (at (types_in s w) n)
      type_differs g = sym (compared ∙ rw g)

pub ruleset numbers = (no_params, its_params, type-missing, type-agrees, type_differs)
