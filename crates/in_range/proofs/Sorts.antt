-- What was read has the operand that its opcode tells, and no index that only de-inlining writes: the laws of reading on which the spaces of
-- indices rest.
use mathlib.Core.Path.{◌≡◌, refl}
use Prim.Native.Nat.{ℕ, zero, suc, ◌<◌}
use mathlib.Core.List.{List, [], ◌∷◌, map}
use mathlib.Core.Option.{Option, none, some}
use Rattle.definition.specs.Basic.{between}
use Rattle.definition.specs.Syntax.{Bytes, Identifier, Space, mems, same_space, Index, absent, number, named, own_index, TypeUse}
use Rattle.definition.specs.Syntax.{Operand, nothing, label, labels, local, item, items, access, int32, int64, raw, Plain, Instr, opens, elses, ends, indirect, plain, Body}
use Rattle.definition.specs.Reader.{Step, onward, require, byte, many}
use Rattle.definition.specs.Token.{counted, number_index, named_index, present, optional, type_use}
use Rattle.definition.specs.Instructions.{Operands, bare, labelidx, labelidxs, localidx, funcidx, globalidx, memidx, memarg, i32, i64, f32, f64, heaptype, bulk}
use Rattle.definition.specs.Instructions.{Form, opening, elsing, ending, calling, operands, opcodes, form_in, form_of, spaces_of, index_in, indices, bulk_of, plain_of, constant, instruction, Inside, admits, formed, may_fold, operator_of, operator}
use Rattle.in_range.specs.InRange.{Every, operand_space}
use Rattle.in_range.proofs.Gives.{Gives, gives, gives_none, gives_if, gives_by, gives_then, givings}

-- ## Indices

-- an index that a stream tells: no item's own number
abbrev pub Told : {I : Type 0} → Index I → Type 0
Told absent = Unit {0}
Told (number n) = Unit {0}
Told (named i) = Unit {0}
Told (own_index n) = ⊥

-- an item's own number must be below a limit
abbrev pub OwnBelow : {I : Type 0} → ℕ → Index I → Type 0
OwnBelow limit absent = Unit {0}
OwnBelow limit (number n) = Unit {0}
OwnBelow limit (named i) = Unit {0}
OwnBelow limit (own_index n) = n < limit

pub told_below : {I : Type 0} (limit : ℕ) (x : Index I) → Told x → OwnBelow limit x
told_below limit absent h = tt
told_below limit (number n) h = tt
told_below limit (named i) h = tt
told_below limit (own_index n) h = absurd h

present-told : (s : Bytes) (at : ℕ) → Gives Told (present s at)
unfolding present number_index named_index
present-told s at = search givings depth 12

optional-told : (s : Bytes) (at : ℕ) → Gives Told (optional s at)
unfolding optional number_index named_index
optional-told s at = search givings depth 12

-- the index of a type use
abbrev pub UseTold : {I : Type 0} → TypeUse I → Type 0
UseTold t = Told t.index

many-told : (n : ℕ) (s : Bytes) (at : ℕ) → Gives (Every Told) (many n present s at)
unfolding many
many-told zero s at = gives [] at tt
many-told (suc n) s at = gives_by Told (present-told s at) λ x m h. gives_by (Every Told) (many-told n s m) λ xs l g. gives (x ∷ xs) l (h, g)

counted-told : (ceiling : ℕ) (s : Bytes) (at : ℕ) → Gives (Every Told) (counted ceiling present s at)
unfolding counted
counted-told ceiling s at = search (givings, many-told)

-- a reader after an index, after several, and after a type use
module _ {B : Type 0} {P : B → Type 0} (s : Bytes) (at : ℕ) where
  pub present_then : (k : Index Identifier → ℕ → Step B)
      → ((x : Index Identifier) (n : ℕ) → Told x → Gives P (k x n)) → Gives P (onward k (present s at))
  present_then k f = gives_by Told (present-told s at) f

  pub optional_then : (k : Index Identifier → ℕ → Step B)
      → ((x : Index Identifier) (n : ℕ) → Told x → Gives P (k x n)) → Gives P (onward k (optional s at))
  optional_then k f = gives_by Told (optional-told s at) f

  pub counted_then : (ceiling : ℕ) (k : List (Index Identifier) → ℕ → Step B)
      → ((xs : List (Index Identifier)) (n : ℕ) → Every Told xs → Gives P (k xs n)) → Gives P (onward k (counted ceiling present s at))
  counted_then ceiling k f = gives_by (Every Told) (counted-told ceiling s at) f

use_told : (s : Bytes) (at : ℕ) → Gives UseTold (type_use s at)
unfolding type_use
use_told s at = search (optional_then, givings)

pub use_then : {B : Type 0} {P : B → Type 0} (s : Bytes) (at : ℕ) (k : TypeUse Identifier → ℕ → Step B)
    → ((t : TypeUse Identifier) (n : ℕ) → UseTold t → Gives P (k t n)) → Gives P (onward k (type_use s at))
use_then s at k f = gives_by UseTold (use_told s at) f

-- two premises at once
pub both : {A B : Type 0} → A → B → A × B
both a b = (a, b)

-- by which `search` follows a reader whose indices are told
pub ruleset tellings = (present_then, optional_then, counted_then, use_then, both, givings)

-- ## Sorts of operands

-- indices with their spaces: these, in their order
abbrev pub OfSpaces : {I : Type 0} → List Space → List (Space × Index I) → Type 0
OfSpaces ks xs = (map (λ x. x.0) xs ≡ ks) × Every (λ x. Told x.1) xs

-- an item's space is the one that its sort names, those of several the ones that the second byte names
abbrev pub Suits : {I : Type 0} → Operands → Operand I → Type 0
Suits w nothing = Unit {0}
Suits w (label x) = Told x
Suits w (labels xs x) = Every Told xs × Told x
Suits w (local x) = Told x
Suits w (item k x) = (operand_space w ≡ some k) × Told x
Suits w (items b xs) = (w ≡ bulk) × (spaces_of b ≡ some (map (λ x. x.0) xs)) × Every (λ x. Told x.1) xs
Suits w (access e o x) = Told x
Suits w (int32 n) = Unit {0}
Suits w (int64 n) = Unit {0}
Suits w (raw bs) = Unit {0}

-- the operand of an instruction is of the sort that its opcode tells
pub record Sorted {I : Type 0} (p : Plain I) : Type 0 where
  pub sort : Operands
  pub form : form_of p.opcode ≡ some (operands sort)
  pub suits : Suits sort p.operand

sorted : (op : ℕ) (w : Operands) (x : Operand Identifier) → form_of op ≡ some (operands w) → Suits w x → Sorted (record { opcode = op; operand = x })
sorted op w x e h = record { sort = w; form = e; suits = h }

-- of an instruction: what opens a block has its opcode's form too
abbrev pub InstrSorted : {I : Type 0} → Instr I → Type 0
InstrSorted (opens op l t) = (form_of op ≡ some opening) × UseTold t
InstrSorted (elses l) = Unit {0}
InstrSorted (ends l) = Unit {0}
InstrSorted (indirect x t) = Told x × UseTold t
InstrSorted (plain p) = Sorted p

-- a body's instructions
abbrev pub BodySorted : {I : Type 0} → Body I → Type 0
BodySorted b = Every (λ x. InstrSorted x.1) b

-- ## Instructions and constants

index-told : (k : Space) (s : Bytes) (at : ℕ) → Gives Told (index_in k s at)
unfolding index_in
index-told k s at = gives_if (same_space k mems) optional present s at (optional-told s at) (present-told s at)

indices-told : (ks : List Space) (s : Bytes) (at : ℕ) → Gives (OfSpaces ks) (indices ks s at)
unfolding indices
indices-told [] s at = gives [] at (refl, tt)
indices-told (k ∷ ks) s at =
    gives_by Told (index-told k s at) λ x n h.
    gives_by (OfSpaces ks) (indices-told ks s n) λ xs m g.
    gives ((k, x) ∷ xs) m (rw g.0 refl, (h, g.1))

-- what is read after FC and a second byte
bulk_sorted : (b : ℕ) (o : Option (List Space)) → spaces_of b ≡ o → (s : Bytes) (at : ℕ) → Gives (Suits bulk) (bulk_of b o s at)
bulk_sorted b none e s at = gives_none 4
bulk_sorted b (some ks) e s at = gives_by (OfSpaces ks) (indices-told ks s at) λ xs n h. gives (items b xs) n (refl, rw h.0 e, h.1)

-- what is read after an opcode by its sort
plain_sorted : (op : ℕ) (w : Operands) → form_of op ≡ some (operands w) → (s : Bytes) (at : ℕ) → Gives Sorted (plain_of op w s at)
unfolding plain_of
plain_sorted op bare e s at = search (tellings, sorted)
plain_sorted op labelidx e s at = search (tellings, sorted)
plain_sorted op labelidxs e s at = search (tellings, sorted)
plain_sorted op localidx e s at = search (tellings, sorted)
plain_sorted op funcidx e s at = search (tellings, sorted)
plain_sorted op globalidx e s at = search (tellings, sorted)
plain_sorted op memidx e s at = search (tellings, sorted)
plain_sorted op memarg e s at = search (tellings, sorted) depth 8
plain_sorted op i32 e s at = search (tellings, sorted)
plain_sorted op i64 e s at = search (tellings, sorted)
plain_sorted op f32 e s at = search (tellings, sorted)
plain_sorted op f64 e s at = search (tellings, sorted)
plain_sorted op heaptype e s at = search (tellings, sorted)
plain_sorted op bulk e s at =
    gives_then (byte s at) _ λ b n.
    gives_by (Suits bulk) (bulk_sorted b (spaces_of b) refl s n) λ x m h.
    gives _ m (sorted op bulk x e h)

-- a constant is one of seven
constant_sorted : (s : Bytes) (at : ℕ) → Gives Sorted (constant s at)
unfolding constant form_of form_in opcodes between
constant_sorted s at = search (givings, plain_sorted) depth 20

-- what is read after an opcode by its form
instruction_sorted : (op : ℕ) (form : Form) → form_of op ≡ some form → (s : Bytes) (at : ℕ) → Gives InstrSorted (instruction op form s at)
unfolding instruction
instruction_sorted op opening e s at = search tellings
instruction_sorted op elsing e s at = search tellings
instruction_sorted op ending e s at = search tellings
instruction_sorted op calling e s at = search tellings
instruction_sorted op (operands w) e s at = gives_by Sorted (plain_sorted op w e s at) λ p n h. gives (plain p) n h

formed_sorted : (i : Inside) (op : ℕ) (form : Option Form) → form_of op ≡ form → (s : Bytes) (at : ℕ) → Gives InstrSorted (formed i op form s at)
formed_sorted i op none e s at = gives_none 4
formed_sorted i op (some form) e s at = gives_then (admits i form s at) _ λ _ n. instruction_sorted op form e s n

-- a reader after a constant, and after an instruction
pub constant_then : {B : Type 0} {P : B → Type 0} (s : Bytes) (at : ℕ) (k : Plain Identifier → ℕ → Step B)
    → ((c : Plain Identifier) (n : ℕ) → Sorted c → Gives P (k c n)) → Gives P (onward k (constant s at))
constant_then s at k f = gives_by Sorted (constant_sorted s at) f

pub formed_then : {B : Type 0} {P : B → Type 0} (i : Inside) (op : ℕ) (s : Bytes) (at : ℕ) (k : Instr Identifier → ℕ → Step B)
    → ((x : Instr Identifier) (n : ℕ) → InstrSorted x → Gives P (k x n)) → Gives P (onward k (formed i op (form_of op) s at))
formed_then i op s at k f = gives_by InstrSorted (formed_sorted i op (form_of op) refl s at) f

-- the operator of a folded record, and a reader after it
opcode_sorted : (op : ℕ) (form : Option Form) → form_of op ≡ form → (s : Bytes) (at : ℕ) → Gives InstrSorted (operator_of op form s at)
opcode_sorted op none e s at = gives_none 4
opcode_sorted op (some form) e s at = gives_then (require 4 (may_fold form) s at) _ λ _ n. instruction_sorted op form e s n

operator_sorted : (s : Bytes) (at : ℕ) → Gives InstrSorted (operator s at)
unfolding operator
operator_sorted s at = gives_then (byte s at) _ λ b n. opcode_sorted b (form_of b) refl s n

pub operator_then : {B : Type 0} {P : B → Type 0} (s : Bytes) (at : ℕ) (k : Instr Identifier → ℕ → Step B)
    → ((x : Instr Identifier) (n : ℕ) → InstrSorted x → Gives P (k x n)) → Gives P (onward k (operator s at))
operator_then s at k f = gives_by InstrSorted (operator_sorted s at) f
