-- A folded record's operator stands by itself where no operand is due: it is read there, and leaves everything as it is.
use Rattle.std.specs.Prelude.{if◌then◌else◌}
use mathlib.Core.Path.{◌≡◌, refl, ◌∙◌, sym, ap₂}
use Prim.Native.Nat.{ℕ, ◌+◌, ◌-◌}
use mathlib.Core.Bool.{Bool, true, false, not, false≢true}
use mathlib.Core.List.{[]}
use mathlib.Core.Option.{Option, none, some}
use lib.Dec.{eqb, ltb, leb}
use lib.ListN.{length, get_or}
use lib.Seq.{slice}
use borrow.Author.Tests.{eqb-true, leb-true}
use native.Mathlib.Omega.{arith}
use Rattle.definition.specs.Basic as Basic
use Rattle.definition.specs.Syntax.{Bytes, Identifier, Instr, opens, elses, ends, indirect, plain, instr, folded, body_end}
use Rattle.definition.specs.Reader.{Step, got, fault, onward, ◌>>=◌, ◌>>◌, give, require, byte}
use Rattle.definition.specs.Token.{u32, up_to}
use Rattle.definition.specs.Instructions as Instructions
use Rattle.definition.specs.Instructions.{Form, opening, elsing, ending, calling, operands, form_of, instruction, Inside, Blocks, is_open, is_due, admits, open_after, formed, may_fold, operator_of, operator, fold, folded_rec, unfolded_rec, body_rec}
use Rattle.laws.proofs.Backwards.{came, passed}
use Rattle.laws.proofs.Bodies.{Foldable, folds}
use Rattle.laws.proofs.OneSpelling.{u32-byte}
use Rattle.unfolding.proofs.Local.{Spells, spells}
use Rattle.unfolding.proofs.LocalReaders.{local-operator}

-- ## The operator by itself

-- a place of a body where no operand is due
abbrev pub level : Blocks → Inside
level bs = record { blocks = bs; due = [] }

-- neither F0 nor FF is an opcode
not_opcodes : (form_of 0xF0 ≡ none) × (form_of 0xFF ≡ none)
unfolding form_of Instructions.form_in Instructions.opcodes Basic.between
not_opcodes = (refl, refl)

another : (b c : ℕ) (form : Form) → form_of b ≡ some form → form_of c ≡ none → eqb b c ≡ false
another b c form e d = go (eqb b c) refl
  where
    go : (t : Bool) → eqb b c ≡ t → t ≡ false
    go true f = let v = eqb-true b c f in let g : form_of b ≡ none = rw v d in let z : ◌≡◌ {A = ℕ} 0 1 = cc in absurd (omega arith)
    go false f = refl

-- read by itself it is read as a record
alone : (bs : Blocks) (t : Bytes) (there q : ℕ) (x : Instr Identifier) → operator t there ≡ got x q → body_rec (level bs) t there ≡ got (instr x) q
unfolding operator body_rec unfolded_rec is_due
alone bs t there q x e = let c = came (byte t there) e in rw c.first (go c.value c.next (form_of c.value) refl c.rest)
  where
    admitted : (b next : ℕ) (form : Form) → may_fold form ≡ true → instruction b form t next ≡ got x q → (admits (level bs) form >> instruction b form) t next ≡ got x q
    admitted b next opening f e = absurd (false≢true (unfold may_fold in f))
    admitted b next elsing f e = absurd (false≢true (unfold may_fold in f))
    admitted b next ending f e = absurd (false≢true (unfold may_fold in f))
    admitted b next calling f e = unfold admits in e
    admitted b next (operands w) f e = unfold admits in e

    go : (b next : ℕ) (form : Option Form) → form_of b ≡ form → operator_of b form t next ≡ got x q
        → (if eqb b 0xF0 then folded_rec (level bs) else unfolded_rec (level bs) b) t next ≡ got (instr x) q
    go b next none d e = let z : ◌≡◌ {A = ℕ} 0 1 = cc in absurd (omega arith)
    go b next (some form) d e =
        let p = passed _ 4 (may_fold form) t next e in
        rw (another b 0xF0 form d not_opcodes.0, another b 0xFF form d not_opcodes.1, d, admitted b next form p.0 p.1) refl

-- what may be folded opens and closes no block
same_blocks : (x : Instr Identifier) (bs : Blocks) → Foldable x → open_after x bs ≡ bs
unfolding open_after
same_blocks (opens op l t) bs f = absurd f
same_blocks (elses l) bs f = absurd f
same_blocks (ends l) bs f = absurd f
same_blocks (indirect x t) bs f = refl
same_blocks (plain p) bs f = refl

-- ## A folded record

byte_next : (s : Bytes) (here b q : ℕ) → byte s here ≡ got b q → q ≡ here + 1
unfolding byte
byte_next s here b q e = go (ltb here (length s)) e
  where
    go : (t : Bool) → (if t then got (get_or s here 0) (here + 1) else fault 2) ≡ got b q → q ≡ here + 1
    go true e = cc
    go false e = let z : ◌≡◌ {A = ℕ} 0 1 = cc in absurd (omega arith)

-- the count of operands is one byte
count_next : (s : Bytes) (here n q : ℕ) → up_to 7 16 s here ≡ got n q → q ≡ here + 1
unfolding up_to
count_next s here n q e =
    let c = came (u32 s here) e in
    let p = passed _ 7 (leb c.value 16) s c.next c.rest in
    let l = leb-true c.value 16 p.0 in
    let d = p.1 in
    let z : c.next ≡ q = cc in
    sym z ∙ byte_next s here c.value c.next (u32-byte s here (omega arith) c.first)

-- F0 stands before it
after-fold : (i : Inside) (s : Bytes) (here : ℕ) (x : Instr Identifier) (n next : ℕ) → body_rec i s here ≡ got (folded x n) next → fold s (here + 1) ≡ got (folded x n) next
unfolding body_rec folded_rec unfolded_rec
after-fold i s here x n next e =
    let c = came (byte s here) e in
    let k = byte_next s here c.value c.next c.first in
    rw k at (go (eqb c.value 0xF0) c.value c.next c.rest)
  where
    not_folded : (m : Step (Instr Identifier)) → onward (λ y n. got (instr y) n) m ≡ got (folded x n) next → ⊥
    not_folded (got y q) e = let z : ◌≡◌ {A = ℕ} 0 1 = cc in omega arith
    not_folded (fault j) e = let z : ◌≡◌ {A = ℕ} 0 1 = cc in omega arith

    unfolded_not : (t : Bool) (b q : ℕ)
        → (if t then (require 8 (not (is_open i.blocks)) >> give body_end) else (formed i b (form_of b) >>= λ y. give (instr y))) s q ≡ got (folded x n) next → ⊥
    unfolded_not true b q e = let d = (passed _ 8 (not (is_open i.blocks)) s q e).1 in let z : ◌≡◌ {A = ℕ} 0 1 = cc in omega arith
    unfolded_not false b q e = not_folded (formed i b (form_of b) s q) e

    go : (t : Bool) (b q : ℕ) → (if t then folded_rec i else (require 4 (not (is_due i.due)) >> unfolded_rec i b)) s q ≡ got (folded x n) next → fold s q ≡ got (folded x n) next
    go true b q e = (passed _ 7 (ltb (length i.due) 32) s q e).1
    go false b q e = absurd (unfolded_not (eqb b 0xFF) b q (passed _ 4 (not (is_due i.due)) s q e).1)

-- without F0 and the count its bytes are its operator's, at any place of a body where no operand is due, and no block is opened or closed
pub record Folding (s : Bytes) (here : ℕ) (x : Instr Identifier) (next : ℕ) : Type 0 where
  pub spells : (bs : Blocks) → Spells (body_rec (level bs)) (slice (here + 1) (next - 1) s) (instr x)
  pub stays : (bs : Blocks) → open_after x bs ≡ bs

pub folding : (i : Inside) (s : Bytes) (here : ℕ) (x : Instr Identifier) (n next : ℕ) → body_rec i s here ≡ got (folded x n) next → Folding s here x next
folding i s here x n next e =
    let f = folds s (here + 1) (folded x n) next (after-fold i s here x n next e) in
    let d = f.is in
    let u : f.read ≡ x = cc in
    let c = count_next s f.next f.count next f.counts in
    let m : f.next ≡ (next - 1) = omega arith in
    let r : operator s (here + 1) ≡ got x (next - 1) = f.reads ∙ ap₂ got u m in
    let k = spells local-operator 2 (unfold operator byte in refl) s (here + 1) x (next - 1) r in
    record {
      spells = λ bs. record { some = k.some; reads = λ t there rest h. alone bs t there _ x (k.reads t there rest h) };
      stays = λ bs. same_blocks x bs (rw u at f.foldable);
    }
