-- A list has no more value types than the stream has bytes: each that is read moves the place on.
use Prim.Native.Nat.{ℕ, zero, suc, ◌+◌, ◌-◌, ◌*◌, ◌%◌, ◌≤◌, ◌<◌}
use mathlib.Core.Path.{◌≡◌, ap}
use mathlib.Core.Bool.{Bool, true, false}
use mathlib.Core.List.{List, [], ◌∷◌}
use mathlib.Core.Option.{Option}
use lib.Dec.{leb, ltb}
use lib.ListN.{length}
use borrow.Author.Tests.{ltb-true}
use native.Mathlib.Omega.{arith}
use Rattle.definition.specs.Basic.{at}
use Rattle.definition.specs.Syntax.{Bytes, Identifier, Local}
use Rattle.definition.specs.Reader.{Step, got, fault, Reader, onward, require, byte, many}
use Rattle.definition.specs.Token.{param, val_type, is_val, identifier, id_byte, idchar, up_to, u32, groups, needed}
use Rattle.definition.specs.Names.{param_count}
use Rattle.laws.proofs.Exits.{if_either}
use Rattle.area.specs.Layout.{TYPES}
use Rattle.syntax.specs.TypeUses.{on_step, elements}
use Rattle.syntax.specs.declared.List as Code
use Rattle.type_table.specs.Table.{types_of, typed, signature_of, entry_in, type_table, types_in}
use Rattle.type_table.proofs.Lists.{types_are}

-- ## A reader never goes back

abbrev After : {A : Type 0} → ℕ → Step A → Type 0
After p (got x q) = p ≤ q
After p (fault n) = Unit {0}

after_bind : {A B : Type 0} (p : ℕ) (m : Step A) (k : A → ℕ → Step B) → After p m → ((a : A) (n : ℕ) → p ≤ n → After p (k a n)) → After p (onward k m)
after_bind p (got a n) k h f = f a n h
after_bind p (fault n) k h f = tt

byte-after : (p : ℕ) (s : Bytes) (q : ℕ) → p ≤ q → After p (byte s q)
unfolding byte
byte-after p s q h = if_either (λ (st : Step ℕ). After p st) (ltb q (length s)) (λ _. omega arith) (λ _. tt)

require-after : (p n : ℕ) (t : Bool) (s : Bytes) (q : ℕ) → p ≤ q → After p (require n t s q)
require-after p n true s q h = h
require-after p n false s q h = tt

groups-after : (left bound scale value p : ℕ) (s : Bytes) (q : ℕ) → p ≤ q → After p (groups left bound scale value s q)
unfolding groups
groups-after zero bound scale value p s q h = tt
groups-after (suc left) bound scale value p s q h =
    after_bind p (byte s q) _ (byte-after p s q h) (λ b n g.
    after_bind p (require 3 (ltb (value + b % 128 * scale) bound) s n) _ (require-after p 3 (ltb (value + b % 128 * scale) bound) s n g) (λ _ m f.
    if_either (λ (r : Reader ℕ). After p (r s m)) (ltb b 128) (λ _. after_bind p (require 19 (needed scale b) s m) _ (require-after p 19 (needed scale b) s m f) (λ _ j d. d))
    (λ _. groups-after left bound (scale * 128) (value + b % 128 * scale) p s m f)))

many-after : {A : Type 0} (r : Reader A) (p : ℕ) (s : Bytes) → ((q : ℕ) → p ≤ q → After p (r s q)) → (n q : ℕ) → p ≤ q → After p (many n r s q)
unfolding many
many-after r p s f zero q h = h
many-after r p s f (suc n) q h =
    after_bind p (r s q) _ (f q h) (λ x m g. after_bind p (many n r s m) _ (many-after r p s f n m g) (λ xs k e. e))

identifier-after : (p : ℕ) (s : Bytes) (q : ℕ) → p ≤ q → After p (identifier s q)
unfolding identifier up_to u32 id_byte
identifier-after p s q h =
    after_bind p (up_to 5 64 s q) _
    (after_bind p (u32 s q) _ (groups-after 5 _ 1 0 p s q h) (λ k n g. after_bind p (require 5 (leb k 64) s n) _ (require-after p 5 (leb k 64) s n g) (λ _ m f. f)))
    (λ k n g. after_bind p (many k id_byte s n) _
    (many-after id_byte p s (λ i e. after_bind p (byte s i) _ (byte-after p s i e) (λ b m f. after_bind p (require 5 (idchar b) s m) _ (require-after p 5 (idchar b) s m f) (λ _ j d. d))) k n g)
    (λ cs m f. f))

-- ## A value type moves on, within the stream

abbrev On : {A : Type 0} → ℕ → ℕ → Step A → Type 0
On p end (got x q) = (p < q) × (q ≤ end)
On p end (fault n) = Unit {0}

on_bind : {A B : Type 0} (p end : ℕ) (m : Step A) (k : A → ℕ → Step B) → On p end m → ((a : A) (n : ℕ) → p < n → n ≤ end → On p end (k a n)) → On p end (onward k m)
on_bind p end (got a n) k h f = f a n h.0 h.1
on_bind p end (fault n) k h f = tt

byte_on : (p : ℕ) (s : Bytes) (q : ℕ) → p ≤ q → On p (length s) (byte s q)
unfolding byte
byte_on p s q h = if_either (λ (st : Step ℕ). On p (length s) st) (ltb q (length s)) (λ d. let l = ltb-true q (length s) d in (omega arith, omega arith)) (λ _. tt)

type_on : (p : ℕ) (s : Bytes) (q : ℕ) → p ≤ q → On p (length s) (val_type s q)
unfolding val_type
type_on p s q h = on_bind p (length s) (byte s q) _ (byte_on p s q h) (λ b n g l. go (is_val b) b n g l)
  where
    go : (t : Bool) (b n : ℕ) → p < n → n ≤ length s → On p (length s) (onward (λ _ m. got b m) (require 4 t s n))
    go true b n g l = (g, l)
    go false b n g l = tt

typed_on : (named : Bool) (s : Bytes) (p : ℕ) → On p (length s) (typed named s p)
unfolding param
typed_on false s p = type_on p s p (omega arith)
typed_on true s p = go (identifier s p) (identifier-after p s p (omega arith))
  where
    last : (i : Option (List ℕ)) (st : Step ℕ) → On p (length s) st → On p (length s) (onward (λ (x : Local Identifier) m. got x.type m) (onward (λ t m. got (record { id = i; type = t }) m) st))
    last i (got t m) h = h
    last i (fault n) h = tt

    go : (st : Step (Option (List ℕ))) → After p st
        → On p (length s) (onward (λ (x : Local Identifier) m. got x.type m) (onward (λ i n. onward (λ t m. got (record { id = i; type = t }) m) (val_type s n)) st))
    go (got i n) h = last i (val_type s n) (type_on p s n h)
    go (fault n) h = tt

elements-few : (named : Bool) (s : Bytes) (n p : ℕ) → length (elements (typed named) s p n) ≤ length s - p
unfolding elements
elements-few named s zero p = omega arith
elements-few named s (suc n) p = go (typed named s p) (typed_on named s p) (λ q. elements-few named s n q)
  where
    go : (st : Step ℕ) → On p (length s) st → ((q : ℕ) → length (elements (typed named) s q n) ≤ length s - q)
        → length (on_step st (λ x next. x ∷ elements (typed named) s next n) []) ≤ length s - p
    go (got x q) h f = let a = h.0 in let b = h.1 in let e = f q in omega arith
    go (fault k) h f = omega arith

pub types-few : (named : Bool) (s : Bytes) (l : Code.List) → length (types_of named s l) ≤ length s
types-few named s l = let e = elements-few named s l.count l.at in let d : length (types_of named s l) ≡ length (elements (typed named) s l.at l.count) = ap length (types_are named s l) in omega arith

-- ## The parameters of a type

table-few : (n : ℕ) (s w : List ℕ) (base k : ℕ) → param_count (at (type_table n s w base) k) ≤ length s
unfolding type_table at signature_of
table-few zero s w base k = omega arith
table-few (suc n) s w base zero = types-few (entry_in w base).named s (entry_in w base).params
table-few (suc n) s w base (suc k) = table-few n s w (base + 5) k

pub params-few : (s w : List ℕ) (n : ℕ) → param_count (at (types_in s w) n) ≤ length s
unfolding types_in
params-few s w n = table-few _ s w TYPES n
