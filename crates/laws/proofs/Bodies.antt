-- What a record of a body that was read tells: how it was read, where its end stands, that it was admitted, and that it is read again by the depth
-- alone.
use Rattle.std.specs.Prelude.{if◌then◌else◌}
use mathlib.Core.Path.{◌≡◌, refl, ap, sym, ◌∙◌}
use Prim.Native.Nat.{ℕ, zero, suc, ◌+◌, ◌-◌, ◌≤◌, ◌<◌}
use mathlib.Core.Bool.{Bool, true, false, not, false≢true}
use mathlib.Core.List.{List, [], ◌∷◌}
use mathlib.Core.Option.{Option, none, some}
use lib.Dec.{eqb, leb, ltb}
use lib.ListN.{length, get_or, length-replicate}
use borrow.Author.Tests.{leb-true, ltb-true, lt-ltb}
use native.Mathlib.Omega.{arith}
use Rattle.definition.specs.Syntax.{Bytes, Identifier, Instr, opens, elses, ends, indirect, plain, FieldRec, Rec, field, instr, folded, body_end}
use Rattle.definition.specs.Reader.{Step, got, fault, onward, require, give, byte, ◌>>=◌, ◌>>◌}
use Rattle.definition.specs.Token.{u32, up_to, identifier, type_use, optional}
use Rattle.definition.specs.Instructions.{Form, opening, elsing, ending, calling, operands, form_of, plain_of, instruction}
use Rattle.definition.specs.Instructions.{Blocks, Inside, is_open, may_else, admits, opened, elsed, open_after, formed, unfolded_rec, may_fold, operator_of, operator, fold, folded_rec, is_due, body_rec}
use Rattle.laws.specs.Depths.{deep, depth_after}
use Rattle.laws.proofs.Backwards.{came, passed}

byte_inside : (s : Bytes) (at b q : ℕ) → byte s at ≡ got b q → q ≤ length s
unfolding byte
byte_inside s at b q e = go (ltb at (length s)) refl e
  where
    go : (t : Bool) → ltb at (length s) ≡ t → (if t then got (get_or s at 0) (at + 1) else fault 2) ≡ got b q → q ≤ length s
    go true d e = let h = ltb-true at (length s) d in let z : at + 1 ≡ q = cc in omega arith
    go false d e = let z : ◌≡◌ {A = ℕ} 0 1 = cc in absurd (omega arith)

-- an instruction that was read as a record
instr-rec : (m : Step (Instr Identifier)) (x : Instr Identifier) (q : ℕ) → onward (λ y n. got (instr y) n) m ≡ got (instr x) q → m ≡ got x q
instr-rec (got y n) x q e = cc
instr-rec (fault k) x q e = let z : ◌≡◌ {A = ℕ} 0 1 = cc in absurd (omega arith)

-- ## Folded records

-- an instruction that may be folded opens and closes no block
abbrev pub Foldable : Instr Identifier → Type 0
Foldable (opens op l t) = ⊥
Foldable (elses l) = ⊥
Foldable (ends l) = ⊥
Foldable (indirect x t) = Unit {0}
Foldable (plain p) = Unit {0}

module _ (s : Bytes) (q : ℕ) where
  same_foldable : (x y : Instr Identifier) (n : ℕ) → got y n ≡ got x q → Foldable y → Foldable x
  same_foldable x y n e h = let z : y ≡ x = cc in rw z at h

  form_foldable : (b : ℕ) (form : Form) (at : ℕ) (x : Instr Identifier) → may_fold form ≡ true → instruction b form s at ≡ got x q → Foldable x
  unfolding may_fold instruction
  form_foldable b opening at x f e = absurd (false≢true f)
  form_foldable b elsing at x f e = absurd (false≢true f)
  form_foldable b ending at x f e = absurd (false≢true f)
  form_foldable b calling at x f e =
      let c = came (optional s at) e in
      same_foldable x _ _ (came (type_use s c.next) c.rest).rest tt
  form_foldable b (operands w) at x f e = same_foldable x _ _ (came (plain_of b w s at) e).rest tt

  opcode_foldable : (b : ℕ) (form : Option Form) (at : ℕ) (x : Instr Identifier) → operator_of b form s at ≡ got x q → Foldable x
  opcode_foldable b none at x e = let z : ◌≡◌ {A = ℕ} 0 1 = cc in absurd (omega arith)
  opcode_foldable b (some form) at x e = let p = passed _ 4 (may_fold form) s at e in form_foldable b form at x p.0 p.1

  pub operator_foldable : (at : ℕ) (x : Instr Identifier) → operator s at ≡ got x q → Foldable x
  unfolding operator
  operator_foldable at x e = let b = came (byte s at) e in opcode_foldable b.value (form_of b.value) b.next x b.rest

up_to_lem : (ceiling : ℕ) (s : Bytes) (at n q : ℕ) → up_to 7 ceiling s at ≡ got n q → n ≤ ceiling
unfolding up_to
up_to_lem ceiling s at n q e =
    let c = came (u32 s at) e in
    let p = passed _ 7 (leb c.value ceiling) s c.next c.rest in
    let d = p.1 in
    let z : c.value ≡ n = cc in
    rw z at (leb-true c.value ceiling p.0)

-- what stands after F0: an operator that may be folded, and at most 16 operands
pub record Folds (s : Bytes) (at : ℕ) (x : Rec Identifier) (q : ℕ) : Type 0 where
  pub read : Instr Identifier
  pub count : ℕ
  pub next : ℕ
  pub is : x ≡ folded read count
  pub reads : operator s at ≡ got read next
  pub counts : up_to 7 16 s next ≡ got count q
  pub foldable : Foldable read
  pub few : count ≤ 16

pub folds : (s : Bytes) (at : ℕ) (x : Rec Identifier) (q : ℕ) → fold s at ≡ got x q → Folds s at x q
unfolding fold
folds s at x q e =
    let o = came (operator s at) e in
    let n = came (up_to 7 16 s o.next) o.rest in
    let d = n.rest in
    let z : n.next ≡ q = cc in
    record {
      read = o.value;
      count = n.value;
      next = o.next;
      is = cc;
      reads = o.first;
      counts = n.first ∙ ap (got n.value) z;
      foldable = operator_foldable s o.next at o.value o.first;
      few = up_to_lem 16 s o.next n.value n.next n.first;
    }

-- ## How a record was read

-- after F0, where fewer than 32 folded records wait for operands; or, where none waits, by another first byte
pub data Reads (i : Inside) (s : Bytes) (x : Rec Identifier) (q : ℕ) : Type 0 where
  by_fold : (next : ℕ) → length i.due < 32 → fold s next ≡ got x q → Reads i s x q
  by_byte : (b next : ℕ) → next ≤ length s → i.due ≡ [] → unfolded_rec i b s next ≡ got x q → Reads i s x q

none-due : (ns : List ℕ) → not (is_due ns) ≡ true → ns ≡ []
unfolding is_due
none-due [] e = refl
none-due (n ∷ ns) e = absurd (false≢true e)

pub how-read : (i : Inside) (s : Bytes) (at : ℕ) (x : Rec Identifier) (q : ℕ) → body_rec i s at ≡ got x q → Reads i s x q
unfolding body_rec folded_rec
how-read i s at x q e =
    let c = came (byte s at) e in
    go (eqb c.value 0xF0) c.value c.next (byte_inside s at c.value c.next c.first) c.rest
  where
    go : (t : Bool) (b next : ℕ) → next ≤ length s
        → (if t then folded_rec i else (require 4 (not (is_due i.due)) >> unfolded_rec i b)) s next ≡ got x q → Reads i s x q
    go true b next h e = let p = passed _ 7 (ltb (length i.due) 32) s next e in by_fold next (ltb-true (length i.due) 32 p.0) p.1
    go false b next h e = let p = passed _ 4 (not (is_due i.due)) s next e in by_byte b next h (none-due i.due p.0) p.1

module _ (i : Inside) (s : Bytes) (at : ℕ) where
  -- a body's end is within the stream
  pub end_inside : (q : ℕ) → body_rec i s at ≡ got body_end q → q ≤ length s
  unfolding unfolded_rec
  end_inside q e = by (how-read i s at body_end q e)
    where
      not_end : (m : Step (Instr Identifier)) → onward (λ y n. got (instr y) n) m ≡ got body_end q → ⊥
      not_end (got y n) e = let z : ◌≡◌ {A = ℕ} 0 1 = cc in omega arith
      not_end (fault j) e = let z : ◌≡◌ {A = ℕ} 0 1 = cc in omega arith

      go : (t : Bool) (b next : ℕ) → next ≤ length s
          → (if t then (require 8 (not (is_open i.blocks)) >> give body_end) else (formed i b (form_of b) >>= λ x. give (instr x))) s next ≡ got body_end q → q ≤ length s
      go true b next h e = let p = passed _ 8 (not (is_open i.blocks)) s next e in let d = p.1 in let z : next ≡ q = cc in omega arith
      go false b next h e = absurd (not_end (formed i b (form_of b) s next) e)

      by : Reads i s body_end q → q ≤ length s
      by (by_fold next l e) = let d = (folds s next body_end q e).is in let z : ◌≡◌ {A = ℕ} 0 1 = cc in absurd (omega arith)
      by (by_byte b next h n e) = go (eqb b 0xFF) b next h e

  -- no field stands in a body
  pub no_field : (f : FieldRec Identifier) (q : ℕ) → body_rec i s at ≡ got (field f) q → ⊥
  unfolding unfolded_rec
  no_field f q e = by (how-read i s at (field f) q e)
    where
      not_field : (m : Step (Instr Identifier)) → onward (λ y n. got (instr y) n) m ≡ got (field f) q → ⊥
      not_field (got y n) e = let z : ◌≡◌ {A = ℕ} 0 1 = cc in omega arith
      not_field (fault j) e = let z : ◌≡◌ {A = ℕ} 0 1 = cc in omega arith

      go : (t : Bool) (b next : ℕ)
          → (if t then (require 8 (not (is_open i.blocks)) >> give body_end) else (formed i b (form_of b) >>= λ x. give (instr x))) s next ≡ got (field f) q → ⊥
      go true b next e = let p = passed _ 8 (not (is_open i.blocks)) s next e in let d = p.1 in let z : ◌≡◌ {A = ℕ} 0 1 = cc in omega arith
      go false b next e = not_field (formed i b (form_of b) s next) e

      by : Reads i s (field f) q → ⊥
      by (by_fold next l e) = let d = (folds s next (field f) q e).is in let z : ◌≡◌ {A = ℕ} 0 1 = cc in omega arith
      by (by_byte b next h n e) = go (eqb b 0xFF) b next e

  -- an instruction stands after its opcode
  pub instr-formed : (x : Instr Identifier) (q : ℕ) → body_rec i s at ≡ got (instr x) q → (b : ℕ) × (next : ℕ) × (formed i b (form_of b) s next ≡ got x q)
  unfolding unfolded_rec
  instr-formed x q e = by (how-read i s at (instr x) q e)
    where
      Formed : Type 0
      Formed = (b : ℕ) × (next : ℕ) × (formed i b (form_of b) s next ≡ got x q)

      go : (t : Bool) (b next : ℕ)
          → (if t then (require 8 (not (is_open i.blocks)) >> give body_end) else (formed i b (form_of b) >>= λ x. give (instr x))) s next ≡ got (instr x) q
          → Formed
      go true b next e = let p = passed _ 8 (not (is_open i.blocks)) s next e in let d = p.1 in let z : ◌≡◌ {A = ℕ} 0 1 = cc in absurd (omega arith)
      go false b next e = (b, next, instr-rec (formed i b (form_of b) s next) x q e)

      by : Reads i s (instr x) q → Formed
      by (by_fold next l e) = let d = (folds s next (instr x) q e).is in let z : ◌≡◌ {A = ℕ} 0 1 = cc in absurd (omega arith)
      by (by_byte b next h n e) = go (eqb b 0xFF) b next e

  -- where an operand is due neither a body's end nor an instruction stands
  pub end_not_due : (q : ℕ) → body_rec i s at ≡ got body_end q → i.due ≡ []
  end_not_due q e = by (how-read i s at body_end q e)
    where
      by : Reads i s body_end q → i.due ≡ []
      by (by_fold next l e) = let d = (folds s next body_end q e).is in let z : ◌≡◌ {A = ℕ} 0 1 = cc in absurd (omega arith)
      by (by_byte b next h n e) = n

  pub instr_not_due : (x : Instr Identifier) (q : ℕ) → body_rec i s at ≡ got (instr x) q → i.due ≡ []
  instr_not_due x q e = by (how-read i s at (instr x) q e)
    where
      by : Reads i s (instr x) q → i.due ≡ []
      by (by_fold next l e) = let d = (folds s next (instr x) q e).is in let z : ◌≡◌ {A = ℕ} 0 1 = cc in absurd (omega arith)
      by (by_byte b next h n e) = n

  -- a folded record stands after F0
  pub folded-fold : (x : Instr Identifier) (n q : ℕ) → body_rec i s at ≡ got (folded x n) q → (length i.due < 32) × (next : ℕ) × (fold s next ≡ got (folded x n) q)
  unfolding unfolded_rec
  folded-fold x n q e = by (how-read i s at (folded x n) q e)
    where
      Fold : Type 0
      Fold = (length i.due < 32) × (next : ℕ) × (fold s next ≡ got (folded x n) q)

      not_folded : (m : Step (Instr Identifier)) → onward (λ y n. got (instr y) n) m ≡ got (folded x n) q → ⊥
      not_folded (got y n) e = let z : ◌≡◌ {A = ℕ} 0 1 = cc in omega arith
      not_folded (fault j) e = let z : ◌≡◌ {A = ℕ} 0 1 = cc in omega arith

      go : (t : Bool) (b next : ℕ)
          → (if t then (require 8 (not (is_open i.blocks)) >> give body_end) else (formed i b (form_of b) >>= λ x. give (instr x))) s next ≡ got (folded x n) q → ⊥
      go true b next e = let p = passed _ 8 (not (is_open i.blocks)) s next e in let d = p.1 in let z : ◌≡◌ {A = ℕ} 0 1 = cc in omega arith
      go false b next e = not_folded (formed i b (form_of b) s next) e

      by : Reads i s (folded x n) q → Fold
      by (by_fold next l e) = (l, next, e)
      by (by_byte b next h d e) = absurd (go (eqb b 0xFF) b next e)

-- ## What was read was admitted

-- what opens a block was read where fewer than 128 are open, an else where one may come, and an end where a block is open
abbrev pub Fits : Blocks → Instr Identifier → Type 0
Fits bs (opens op l t) = length bs < 128
Fits bs (elses l) = may_else bs ≡ true
Fits bs (ends l) = is_open bs ≡ true
Fits bs (indirect x t) = Unit {0}
Fits bs (plain p) = Unit {0}

pub open_some : (bs : Blocks) → is_open bs ≡ true → 0 < length bs
unfolding is_open
open_some [] e = absurd (false≢true e)
open_some (b ∷ bs) e = omega arith

module _ (i : Inside) (s : Bytes) (q : ℕ) where
  -- an answer that was given is the instruction that it gives
  same-fits : (x y : Instr Identifier) (n : ℕ) → got y n ≡ got x q → Fits i.blocks y → Fits i.blocks x
  same-fits x y n e h = let z : y ≡ x = cc in rw z at h

  fits_form : (b : ℕ) (form : Form) (at : ℕ) (x : Instr Identifier) → (admits i form >> instruction b form) s at ≡ got x q → Fits i.blocks x
  unfolding admits instruction
  fits_form b opening at x e =
      let p = passed _ 7 (ltb (length i.blocks) 128) s at e in
      let c = came (identifier s at) p.1 in
      let f = came (type_use s c.next) c.rest in
      same-fits x _ _ f.rest (ltb-true (length i.blocks) 128 p.0)
  fits_form b elsing at x e =
      let p = passed _ 8 (may_else i.blocks) s at e in
      same-fits x _ _ (came (identifier s at) p.1).rest p.0
  fits_form b ending at x e =
      let p = passed _ 8 (is_open i.blocks) s at e in
      same-fits x _ _ (came (identifier s at) p.1).rest p.0
  fits_form b calling at x e =
      let c = came (optional s at) e in
      let f = came (type_use s c.next) c.rest in
      same-fits x _ _ f.rest tt
  fits_form b (operands w) at x e = same-fits x _ _ (came (plain_of b w s at) e).rest tt

  fits-formed : (b : ℕ) (form : Option Form) (at : ℕ) (x : Instr Identifier) → formed i b form s at ≡ got x q → Fits i.blocks x
  fits-formed b none at x e = let z : ◌≡◌ {A = ℕ} 0 1 = cc in absurd (omega arith)
  fits-formed b (some form) at x e = fits_form b form at x e

  pub read_fits : (x : Instr Identifier) (at : ℕ) → body_rec i s at ≡ got (instr x) q → Fits i.blocks x
  read_fits x at e = let f = instr-formed i s at x q e in fits-formed f.0 (form_of f.0) f.1 x f.2

-- ## Read again by the depth alone

pub deep-length : (k : ℕ) → length (deep k).blocks ≡ k
unfolding deep
deep-length k = length-replicate k true

pub deep_open : (k : ℕ) → is_open (deep k).blocks ≡ ltb 0 k
unfolding deep is_open
deep_open zero = refl
deep_open (suc k) = sym (lt-ltb 0 (suc k) (omega arith))

pub deep_else : (k : ℕ) → may_else (deep k).blocks ≡ ltb 0 k
unfolding deep may_else
deep_else zero = refl
deep_else (suc k) = sym (lt-ltb 0 (suc k) (omega arith))

-- so many are open after an instruction
pub after-length : (x : Instr Identifier) (bs : Blocks) → length (open_after x bs) ≡ depth_after x (length bs)
unfolding open_after opened elsed depth_after
after-length (opens op l t) bs = omega arith
after-length (elses l) [] = refl
after-length (elses l) (b ∷ bs) = refl
after-length (ends l) [] = refl
after-length (ends l) (b ∷ bs) = omega arith
after-length (indirect x t) bs = refl
after-length (plain p) bs = refl

is_open_lem : (bs : Blocks) → is_open bs ≡ ltb 0 (length bs)
unfolding is_open
is_open_lem [] = refl
is_open_lem (b ∷ bs) = sym (lt-ltb 0 (suc (length bs)) (omega arith))

-- an else that may come has a block
else_some : (bs : Blocks) → may_else bs ≡ true → 0 < length bs
unfolding may_else
else_some [] e = absurd (false≢true e)
else_some (b ∷ bs) e = omega arith

module _ (i : Inside) (s : Bytes) (q : ℕ) where
  abbrev again : Inside
  again = deep (length i.blocks)

  same_open : is_open again.blocks ≡ is_open i.blocks
  same_open = deep_open (length i.blocks) ∙ sym (is_open_lem i.blocks)

  deep_form : (b : ℕ) (form : Form) (at : ℕ) (x : Instr Identifier) → (admits i form >> instruction b form) s at ≡ got x q → (admits again form >> instruction b form) s at ≡ got x q
  unfolding admits
  deep_form b opening at x e = rw (deep-length (length i.blocks)) e
  deep_form b elsing at x e =
      let p = passed _ 8 (may_else i.blocks) s at e in
      rw (deep_else (length i.blocks), lt-ltb 0 (length i.blocks) (else_some i.blocks p.0)) p.1
  deep_form b ending at x e = rw same_open e
  deep_form b calling at x e = e
  deep_form b (operands w) at x e = e

  deep-formed : (b : ℕ) (form : Option Form) (at : ℕ) (x : Instr Identifier) → formed i b form s at ≡ got x q → formed again b form s at ≡ got x q
  deep-formed b none at x e = e
  deep-formed b (some form) at x e = deep_form b form at x e

  as_instr : (b next : ℕ) (m : Step (Instr Identifier)) (x : Rec Identifier) → formed i b (form_of b) s next ≡ m → onward (λ y n. got (instr y) n) m ≡ got x q
      → onward (λ y n. got (instr y) n) (formed again b (form_of b) s next) ≡ got x q
  as_instr b next (got y n) x f e =
      let z : n ≡ q = cc in
      rw (deep-formed b (form_of b) next y (f ∙ ap (got y) z)) (ap (got (instr y)) (sym z) ∙ e)
  as_instr b next (fault j) x f e = let z : ◌≡◌ {A = ℕ} 0 1 = cc in absurd (omega arith)

  deep-unfolded : (b next : ℕ) (x : Rec Identifier) → unfolded_rec i b s next ≡ got x q → unfolded_rec again b s next ≡ got x q
  unfolding unfolded_rec
  deep-unfolded b next x e = go (eqb b 0xFF) e
    where
      go : (t : Bool)
          → (if t then (require 8 (not (is_open i.blocks)) >> give body_end) else (formed i b (form_of b) >>= λ y. give (instr y))) s next ≡ got x q
          → (if t then (require 8 (not (is_open again.blocks)) >> give body_end) else (formed again b (form_of b) >>= λ y. give (instr y))) s next ≡ got x q
      go true e = rw same_open e
      go false e = as_instr b next (formed i b (form_of b) s next) x refl e

  -- a record that was read is read the same, whatever operands were due
  pub reads-deep : (at : ℕ) (x : Rec Identifier) → body_rec i s at ≡ got x q → body_rec again s at ≡ got x q
  unfolding body_rec folded_rec deep is_due
  reads-deep at x e = let c = came (byte s at) e in rw c.first (go (eqb c.value 0xF0) c.value c.next c.rest)
    where
      go : (t : Bool) (b next : ℕ)
          → (if t then folded_rec i else (require 4 (not (is_due i.due)) >> unfolded_rec i b)) s next ≡ got x q
          → (if t then folded_rec again else (require 4 (not (is_due again.due)) >> unfolded_rec again b)) s next ≡ got x q
      go true b next e = (passed _ 7 (ltb (length i.due) 32) s next e).1
      go false b next e = deep-unfolded b next x (passed _ 4 (not (is_due i.due)) s next e).1
