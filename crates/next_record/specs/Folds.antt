-- Folded records in the reading pass: one is read with all its operands.
use Rattle.std.specs.Prelude.{◌≡◌, ℕ, zero, suc, ◌-◌, ◌*◌, ◌^◌, ◌≤◌, ◌<◌, true, false, ◌||◌, eqb, leb, get_or, if◌then◌else◌, Option as Optional, Some, None, Result, Ok, Err}
use Rattle.std.proofs.Math.Option.{Option, none, some}
use Rattle.definition.specs.Basic.{Answer, ok, refused}
use Rattle.definition.specs.Syntax.{Bytes, Identifier, Instr, Rec, field, instr, folded, body_end}
use Rattle.definition.specs.Reader.{Step, got, fault, byte}
use Rattle.definition.specs.Instructions.{Form, opening, elsing, ending, calling, operands, form_of, fold}
use Rattle.syntax.specs.declared.Marks.{Marks}
use Rattle.syntax.specs.declared.Place.{Place}
use Rattle.syntax.specs.declared.Fault.{Fault}
use Rattle.next_record.specs.Uses.{may_use, names_data, sort_names}
use Rattle.next_record.specs.Places.{record_past, body_record_at}
use Rattle.next_record.specs.Answers.{Kept, some_folded, kept_at}
use Rattle.syntax.specs.Reads.{Read}
use Rattle.syntax.specs.Refusals.{number}
use Rattle.next_record.specs.declared.record.Does.{Does}
use Rattle.next_record.specs.declared.record.FaultAt.{FaultAt}
use Rattle.next_record.specs.declared.head.Due.{Due}

-- ## What instructions do

unfoldable pub does_of : Instr Identifier → Does
does_of x = record { uses = may_use x; names = names_data x }

abbrev pub none_do : Does
none_do = record { uses = false; names = false }

unfoldable pub both_do : Does → Does → Does
both_do a b = record { uses = a.uses || b.uses; names = a.names || b.names }

-- by what stands after an opcode, and the byte there
abbrev pub form_does : Option Form → ℕ → Does
form_does none b = none_do
form_does (some opening) b = none_do
form_does (some elsing) b = none_do
form_does (some ending) b = none_do
form_does (some calling) b = record { uses = true; names = false }
form_does (some (operands w)) b = record { uses = false; names = sort_names w b }

abbrev pub byte_does : Bytes → Step ℕ → Does
byte_does s (got b a) = form_does (form_of b) (get_or s a 0)
byte_does s (fault n) = none_do

-- an operator, by its opcode and the byte after it
unfoldable pub does_at : Bytes → ℕ → Does
does_at s at = byte_does s (byte s at)

-- what stands after F0: what the operator does, the count of operands and where they begin; or a fault
pub data Head : Type 0 where
  head : Does → ℕ → ℕ → Head
  no_head : ℕ → Head

abbrev pub head_of : Step (Rec Identifier) → Head
head_of (got (folded x n) next) = head (does_of x) n next
head_of (got (field f) next) = no_head 0
head_of (got (instr x) next) = no_head 0
head_of (got body_end next) = no_head 0
head_of (fault n) = no_head n

unfoldable pub head_at : Bytes → ℕ → Head
head_at s at = head_of (fold s at)

-- together with what came before it
abbrev pub head_with : Does → Head → Head
head_with does (head d n next) = head (both_do does d) n next
head_with does (no_head n) = no_head n

-- as the code answers
abbrev pub head_is : Read (Does × ℕ) → Head
head_is (Ok x) = head x.0.0 x.0.1 x.1
head_is (Err e) = no_head (number e)

-- ## A folded record and its operands

-- what came of it: what it does and the place after it, or a fault and the place of its record
pub data Fold : Type 0 where
  passed : Does → Place → Fold
  stopped : ℕ → Place → Fold

-- as the code answers
abbrev pub fold_of : Result (Does × Place) (FaultAt Fault) → Fold
fold_of (Ok x) = passed x.0 x.1
fold_of (Err e) = stopped (number e.fault) e.place

abbrev pub on_head : Head → (Does → ℕ → ℕ → Fold) → (ℕ → Fold) → Fold
on_head (head d n next) f g = f d n next
on_head (no_head n) f g = g n

abbrev pub on_fold : Fold → (Does → Place → Fold) → Fold
on_fold (passed d p) f = f d p
on_fold (stopped n p) f = stopped n p

abbrev pub on_byte : Step ℕ → (ℕ → ℕ → Fold) → (ℕ → Fold) → Fold
on_byte (got b next) f g = f b next
on_byte (fault n) f g = g n

-- so many operands from a place on, each by `f`
unfoldable pub operands_by : (Does → Place → Fold) → ℕ → Does → Place → Fold
operands_by f zero does p = passed does p
operands_by f (suc n) does p = on_fold (f does p) (λ d q. operands_by f n d q)

-- F0, where there may be one record more, and what stands after it by `f`
unfoldable pub after_f0 : (ℕ → Fold) → Bytes → Place → Fold
after_f0 f s p =
    on_byte (byte s p.at)
    (λ b a. if eqb b 0xF0 then (if leb 4096 p.rec then stopped 7 p else f a) else stopped 4 p)
    (λ n. stopped n p)

-- a folded record in which so many may be nested, itself included, and all its operands
unfoldable pub folded_at : ℕ → Bytes → Does → Place → Fold
folded_at zero s does p = after_f0 (λ a. stopped 7 p) s p
folded_at (suc left) s does p =
    after_f0
    (λ a. on_head (head_at s a) (λ d n next. operands_by (folded_at left s) n (both_do does d) (record_past p next p.depth)) (λ n. stopped n p)) s p

-- ## One record of it

-- one that was passed: `n` of its operands are due from `q` on, nested one deeper, and fit into 64 bits together with what was due
pub record PastAt (left : ℕ) (s : Bytes) (does : Does) (p : Place) (due : ℕ) (d : Does) (n : ℕ) (q : Place) : Type 0 where
  pub same : folded_at left s does p ≡ operands_by (folded_at (left - 1) s) n d q
  pub nests : 1 ≤ left
  pub few : n ≤ 16
  pub room : due * 2 ^ n < 2 ^ 64
  pub later : p.rec < q.rec
  pub most : q.rec ≤ 4096
  pub deep : q.depth ≡ p.depth

unfoldable pub NextAt : ℕ → Bytes → Does → Place → ℕ → Result (Optional Due) (FaultAt Fault) → Type 0
NextAt left s does p due (Ok (Some d)) = PastAt left s does p due d.does d.count d.place
NextAt left s does p due (Ok None) = 1 ≤ left
NextAt left s does p due (Err e) = folded_at left s does p ≡ stopped (number e.fault) e.place

-- ## A turn of the pass

abbrev pub kept_fold : Fold → Answer Kept × Place
kept_fold (passed d p) = (ok (some_folded d), p)
kept_fold (stopped n p) = (refused n p.rec, p)

-- a record of a body, and of a folded one all
unfoldable pub turn_at : Place → Marks → Bytes → Answer Kept × Place
turn_at p m s = if eqb (get_or s p.at 0) 0xF0 then kept_fold (folded_at 32 s none_do p) else kept_at (body_record_at p m s)
