-- A record of a body that is passed over: what the pass keeps of it, along what the calls of the code answered.
use Rattle.std.specs.Prelude.{Result, Err, IsErrAnd, if◌then◌else◌}
use Rattle.std.specs.Result.{IsErr}
use Rattle.syntax.specs.Refusals.{number}
use Rattle.syntax.specs.declared.Fault.{Fault}
use Rattle.syntax.specs.declared.Fault.TheVariants as F
use mathlib.Core.Path.{◌≡◌, refl, ap, sym, ◌∙◌}
use Prim.Native.Nat.{ℕ, zero, suc, ◌+◌, ◌-◌, ◌≤◌, ◌<◌}
use mathlib.Core.Bool.{Bool, true, false, not}
use mathlib.Core.Option.{Option, none, some}
use lib.Dec.{eqb, ltb}
use lib.ListN.{length, get_or}
use borrow.Author.Tests.{lt-ltb, le-ltb, ltb-false, eq-eqb, ne_eqb}
use native.Mathlib.Omega.{arith}
use Rattle.definition.specs.Basic.{Answer, ok, refused}
use Rattle.definition.specs.Syntax as Syntax
use Rattle.definition.specs.Syntax.{Bytes, Identifier, instr}
use Rattle.definition.specs.Reader.{Step, got, fault, onward, byte}
use Rattle.definition.specs.Token.{identifier, optional, type_use}
use Rattle.definition.specs.Instructions.{Form, opening, elsing, ending, calling, operands, plain_of, instruction, is_open, may_else, admits, formed, form_of, unfolded_rec, folded_rec, is_due, body_rec}
use Rattle.definition.specs.Types.{is_short}
use Rattle.laws.specs.Steps.{stops}
use Rattle.laws.proofs.Readers.{get_or_out}
use Rattle.laws.specs.Depths.{depth_after}
use Rattle.token.proofs.Skips.{gave_at, stopped_at}
use Rattle.syntax.specs.TypeUses.{use_of}
use Rattle.syntax.specs.declared.TypeUse.{TypeUse}
use Rattle.syntax.specs.Plain.{operands_is}
use Rattle.syntax.specs.declared.Operands.{Operands}
use Rattle.expr.proofs.Skips.{any-opcode}
use Rattle.syntax.specs.Instructions.{form_is}
use Rattle.syntax.specs.declared.Form as Code
use Rattle.syntax.specs.declared.Form.TheVariants as FM
use Rattle.next_record.specs.Uses.{may_use, sort_names}
use Rattle.next_record.specs.Places.{record_past, place_after, moved_by, body_record_at}
use Rattle.next_record.specs.Answers.{Kept, an_instr, some_folded, an_end, kept_of, kept_at, kept_instr, stay, name_data, open_one, opens_in, elses_in, ends_in, plain_inside, fault_at, inside_kept, inside_answer, on_past, refused_here}
use Rattle.next_record.specs.Folds.{Fold, none_do, on_fold, operands_by, folded_at, kept_fold, turn_at}
use Rattle.next_record.specs.declared.record.Does.{Does}
use Rattle.next_record.specs.Folds as L
use Rattle.next_record.specs.declared.record.Inside.{Inside}
use Rattle.next_record.specs.declared.record.Inside.TheVariants as N
use Rattle.next_record.specs.declared.record.FaultAt.{FaultAt}
use Rattle.syntax.specs.declared.Place.{Place}
use Rattle.syntax.specs.Marks.{inside_of, marks_in}
use Rattle.syntax.specs.declared.Marks.{Marks}
use Rattle.next_record.specs.Marks.{mark_of, innermost_of}
use Rattle.next_record.specs.declared.marks.Innermost.{Innermost}
use Rattle.next_record.proofs.Bits.{inside-length, innermost_same}
use Rattle.next_record.proofs.Naming.{read_names}
use Rattle.next_record.proofs.Steps.{handed_as}

-- ## Instructions

-- where none may come, and where there is no room for one more
pub opens_full : (p : Place) (s : Bytes) (at op : ℕ) (e : FaultAt Fault) → 128 < p.depth → e ≡ refused_here p F.TooMany → kept_instr p (opens_in (p.depth - 1) op s at) ≡ fault_at e
unfolding opens_in
opens_full p s at op e h a = rw (le-ltb (p.depth - 1) 128 (omega arith), a)

pub elses-none : (p : Place) (s : Bytes) (at : ℕ) (m : Marks) (t : Bool) (e : FaultAt Fault) → t ≡ may_else (inside_of (p.depth - 1) m).blocks → t ≡ false → e ≡ refused_here p F.BrokenBlocks
    → kept_instr p (elses_in (p.depth - 1) m s at) ≡ fault_at e
unfolding elses_in
elses-none p s at m t e f h a = rw (sym f ∙ h, a)

pub ends-none : (p : Place) (s : Bytes) (at : ℕ) (e : FaultAt Fault) → p.depth < 2 → e ≡ refused_here p F.BrokenBlocks → kept_instr p (ends_in (p.depth - 1) s at) ≡ fault_at e
unfolding ends_in
ends-none p s at e h a = rw (le-ltb 0 (p.depth - 1) (omega arith), a)

pub form_none : (p : Place) (m : Marks) (s : Bytes) (at op : ℕ) (r : Code.Form) (e : FaultAt Fault) → form_of op ≡ form_is r → r ≡ FM.NoOpcode → e ≡ refused_here p F.UnknownByte
    → kept_instr p (formed (inside_of (p.depth - 1) m) op (form_of op) s at) ≡ fault_at e
form_none p m s at op r e told d a = rw (told, d, a)

module _ (p : Place) (s : Bytes) (at : ℕ) (o : 1 ≤ p.depth) (x : Result (Inside × Place) (FaultAt Fault)) where
  kept_on : (y : Syntax.Instr Identifier) (next d : ℕ) (v : Inside) → d ≡ depth_after y (p.depth - 1) + 1 → ((q : Place) → ◌≡◌ {A = Answer Kept × Place} (ok (kept_of (instr y)), q) (ok (inside_kept v), q))
      → x ≡ on_past p next d v → kept_instr p (got y next) ≡ inside_answer x
  unfolding place_after on_past
  kept_on y next d v l m a = rw (a, l) (m (record_past p next (depth_after y (p.depth - 1) + 1)))

  kept_not : (n : Fault) → x ≡ Err (refused_here p n) → kept_instr p (fault (number n)) ≡ inside_answer x
  kept_not n a = rw a

  -- a block opens
  module _ (op : ℕ) where
    module _ (h : p.depth ≤ 128) where
      pub opens_no_label : (n : Fault) → stops (identifier s at) ≡ fault (number n) → x ≡ Err (refused_here p n) → kept_instr p (opens_in (p.depth - 1) op s at) ≡ inside_answer x
      unfolding opens_in instruction
      opens_no_label n d a = rw (lt-ltb (p.depth - 1) 128 (omega arith), stopped_at (identifier s at) (number n) d) (kept_not n a)

      module _ (b : ℕ) (d : stops (identifier s at) ≡ got tt b) where
        pub opens_no_use : (n : Fault) → type_use s b ≡ fault (number n) → x ≡ Err (refused_here p n) → kept_instr p (opens_in (p.depth - 1) op s at) ≡ inside_answer x
        unfolding opens_in instruction
        opens_no_use n g a = let l = gave_at (identifier s at) b d in rw (lt-ltb (p.depth - 1) 128 (omega arith), l.is, g) (kept_not n a)

        pub opens_on : (t : TypeUse) (next : ℕ) (f : Bool) → type_use s b ≡ got (use_of s t) next → f ≡ is_short (use_of s t) → x ≡ on_past p next (p.depth + 1) (N.Opens (not f) (eqb op 0x04))
            → kept_instr p (opens_in (p.depth - 1) op s at) ≡ inside_answer x
        unfolding opens_in instruction depth_after may_use
        opens_on t next f g m a =
            let l = gave_at (identifier s at) b d in
            rw (lt-ltb (p.depth - 1) 128 (omega arith), l.is, g)
            (kept_on (Syntax.opens op l.value (use_of s t)) next (p.depth + 1) (N.Opens (not f) (eqb op 0x04)) (omega arith) (λ q. ap (λ (u : Bool). (ok (an_instr (not u) (open_one (eqb op 0x04))), q)) (sym m)) a)

  -- an else
  module _ (m : Marks) (t : Bool) (f : t ≡ may_else (inside_of (p.depth - 1) m).blocks) where
    module _ (h : t ≡ true) where
      pub elses_not : (n : Fault) → stops (identifier s at) ≡ fault (number n) → x ≡ Err (refused_here p n) → kept_instr p (elses_in (p.depth - 1) m s at) ≡ inside_answer x
      unfolding elses_in instruction
      elses_not n d a = rw (sym f ∙ h, stopped_at (identifier s at) (number n) d) (kept_not n a)

      pub elses_on : (next : ℕ) → stops (identifier s at) ≡ got tt next → x ≡ on_past p next p.depth N.Elses → kept_instr p (elses_in (p.depth - 1) m s at) ≡ inside_answer x
      unfolding elses_in instruction depth_after may_use
      elses_on next d a =
          let l = gave_at (identifier s at) next d in
          rw (sym f ∙ h, l.is) (kept_on (Syntax.elses l.value) next p.depth N.Elses (omega arith) (λ q. refl) a)

  -- an end
  module _ (h : 2 ≤ p.depth) where
    pub ends_not : (n : Fault) → stops (identifier s at) ≡ fault (number n) → x ≡ Err (refused_here p n) → kept_instr p (ends_in (p.depth - 1) s at) ≡ inside_answer x
    unfolding ends_in instruction
    ends_not n d a = rw (lt-ltb 0 (p.depth - 1) (omega arith), stopped_at (identifier s at) (number n) d) (kept_not n a)

    pub ends_on : (next : ℕ) → stops (identifier s at) ≡ got tt next → x ≡ on_past p next (p.depth - 1) N.Ends → kept_instr p (ends_in (p.depth - 1) s at) ≡ inside_answer x
    unfolding ends_in instruction depth_after may_use
    ends_on next d a =
        let l = gave_at (identifier s at) next d in
        rw (lt-ltb 0 (p.depth - 1) (omega arith), l.is) (kept_on (Syntax.ends l.value) next (p.depth - 1) N.Ends (omega arith) (λ q. refl) a)

  -- an indirect call
  pub indirect_not : (n : Fault) → stops (optional s at) ≡ fault (number n) → x ≡ Err (refused_here p n) → kept_instr p (instruction 0x11 calling s at) ≡ inside_answer x
  unfolding instruction
  indirect_not n d a = rw (stopped_at (optional s at) (number n) d) (kept_not n a)

  module _ (b : ℕ) (d : stops (optional s at) ≡ got tt b) where
    pub indirect_no_use : (n : Fault) → type_use s b ≡ fault (number n) → x ≡ Err (refused_here p n) → kept_instr p (instruction 0x11 calling s at) ≡ inside_answer x
    unfolding instruction
    indirect_no_use n g a = let l = gave_at (optional s at) b d in rw (l.is, g) (kept_not n a)

    pub indirect_on : (t : TypeUse) (next : ℕ) → type_use s b ≡ got (use_of s t) next → x ≡ on_past p next p.depth (N.On true) → kept_instr p (instruction 0x11 calling s at) ≡ inside_answer x
    unfolding instruction depth_after may_use
    indirect_on t next g a =
        let l = gave_at (optional s at) b d in
        rw (l.is, g) (kept_on (Syntax.indirect l.value (use_of s t)) next p.depth (N.On true) (omega arith) (λ q. refl) a)

pub ruleset skims = (handed_as, opens_full, opens_no_label, opens_no_use, opens_on, elses-none, elses_not, elses_on, ends-none, ends_not, ends_on, indirect_not, indirect_no_use, indirect_on)

-- ## What stands after an opcode

inside_open : (k : ℕ) (m : Marks) → is_open (inside_of k m).blocks ≡ ltb 0 k
unfolding inside_of marks_in is_open
inside_open zero m = refl
inside_open (suc k) m = sym (lt-ltb 0 (suc k) (omega arith))

-- whether it names a data segment
named-kept : (t : Bool) (q : Place) → ◌≡◌ {A = Answer Kept × Place} (ok (an_instr false (if t then name_data else stay)), q) (ok (inside_kept (if t then N.Data else N.On false)), q)
named-kept true q = refl
named-kept false q = refl

module _ (p : Place) (m : Marks) (s : Bytes) (at op : ℕ) (o : 1 ≤ p.depth) (x : Result (Inside × Place) (FaultAt Fault)) (r : Code.Form) (told : form_of op ≡ form_is r) where
  pub form_opening : r ≡ FM.Opening → kept_instr p (opens_in (p.depth - 1) op s at) ≡ inside_answer x → kept_instr p (formed (inside_of (p.depth - 1) m) op (form_of op) s at) ≡ inside_answer x
  unfolding opens_in admits
  form_opening d a = rw (told, d, inside-length (p.depth - 1) m) a

  pub form_elsing : r ≡ FM.Elsing → kept_instr p (elses_in (p.depth - 1) m s at) ≡ inside_answer x → kept_instr p (formed (inside_of (p.depth - 1) m) op (form_of op) s at) ≡ inside_answer x
  unfolding elses_in admits instruction
  form_elsing d a = rw (told, d) a

  pub form_ending : r ≡ FM.Ending → kept_instr p (ends_in (p.depth - 1) s at) ≡ inside_answer x → kept_instr p (formed (inside_of (p.depth - 1) m) op (form_of op) s at) ≡ inside_answer x
  unfolding ends_in admits instruction
  form_ending d a = rw (told, d, inside_open (p.depth - 1) m) a

  pub form_calling : r ≡ FM.Calling → kept_instr p (instruction 0x11 calling s at) ≡ inside_answer x → kept_instr p (formed (inside_of (p.depth - 1) m) op (form_of op) s at) ≡ inside_answer x
  unfolding admits instruction
  form_calling d a = rw (told, d) a

  module _ (w : Operands) (d : r ≡ FM.Operands w) where
    pub form_plain : (next : ℕ) (v : Inside) → stops (plain_of 0 (operands_is w) s at) ≡ got tt next → v ≡ plain_inside (operands_is w) (get_or s at 0) → x ≡ on_past p next p.depth v → kept_instr p (formed (inside_of (p.depth - 1) m) op (form_of op) s at) ≡ inside_answer x
    unfolding admits instruction depth_after may_use
    form_plain next v g i a =
        let y = gave_at (plain_of op (operands_is w) s at) next (any-opcode op (operands_is w) s at ∙ g) in
        let n = read_names op (operands_is w) s at y.value next y.is in
        rw (told, d, y.is) (kept_on p s at o x (Syntax.plain y.value) next p.depth v (omega arith) (λ q. rw (i, n) (named-kept (sort_names (operands_is w) (get_or s at 0)) q)) a)

    pub form_no_plain : (n : Fault) → stops (plain_of 0 (operands_is w) s at) ≡ fault (number n) → x ≡ Err (refused_here p n) → kept_instr p (formed (inside_of (p.depth - 1) m) op (form_of op) s at) ≡ inside_answer x
    unfolding admits instruction
    form_no_plain n g a = rw (told, d, stopped_at (plain_of op (operands_is w) s at) (number n) (any-opcode op (operands_is w) s at ∙ g)) (kept_not p s at o x n a)

pub ruleset forms-passed = (handed_as, form_none, form_opening, form_elsing, form_ending, form_calling, form_plain, form_no_plain)

-- ## A folded record

module _ (p : Place) (s : Bytes) where
  -- as a list of one
  list_of-one : (f : Fold) → f ≡ operands_by (folded_at 32 s) 1 none_do p → f ≡ folded_at 32 s none_do p
  unfolding operands_by
  list_of-one f told = told ∙ go (folded_at 32 s none_do p)
    where
      go : (x : Fold) → on_fold x (λ d q. L.passed d q) ≡ x
      go (L.passed d q) = refl
      go (L.stopped n q) = refl

  pub folded-past : (d : Does) (q : Place) → L.passed d q ≡ operands_by (folded_at 32 s) 1 none_do p
      → kept_fold (folded_at 32 s none_do p) ≡ (ok (some_folded (record { uses = d.uses; names = d.names })), q)
  folded-past d q g = rw (← list_of-one (L.passed d q) g)

  pub folded-refused : (r : Result (Inside × Place) (FaultAt Fault)) (e : FaultAt Fault) → L.stopped (number e.fault) e.place ≡ operands_by (folded_at 32 s) 1 none_do p → IsErr r → IsErrAnd r (λ z. z ≡ e)
      → kept_fold (folded_at 32 s none_do p) ≡ inside_answer r
  folded-refused r e g i h = rw (← list_of-one (L.stopped (number e.fault) e.place) g, handed_as r e e i h refl)

pub ruleset folded-ways = (folded-past, folded-refused, refl)

-- ## A record of a body

-- the byte that is looked at
byte-here : (s : Bytes) (at b next : ℕ) → byte s at ≡ got b next → get_or s at 0 ≡ b
unfolding byte
byte-here s at b next e = go (ltb at (length s)) e
  where
    go : (t : Bool) → (if t then got (get_or s at 0) (at + 1) else fault 2) ≡ got b next → get_or s at 0 ≡ b
    go true e = cc
    go false e = let z : ◌≡◌ {A = ℕ} 0 1 = cc in absurd (omega arith)

byte-missing : (s : Bytes) (at n : ℕ) → byte s at ≡ fault n → get_or s at 0 ≡ 0
unfolding byte
byte-missing s at n e = go (ltb at (length s)) refl e
  where
    go : (t : Bool) → ltb at (length s) ≡ t → (if t then got (get_or s at 0) (at + 1) else fault 2) ≡ fault n → get_or s at 0 ≡ 0
    go true d e = let z : ◌≡◌ {A = ℕ} 0 1 = cc in absurd (omega arith)
    go false d e = get_or_out s at (ltb-false at (length s) d)

module _ (p : Place) (m : Marks) (s : Bytes) where
  pub body-none : (n : Fault) (x : Result (Inside × Place) (FaultAt Fault)) → byte s p.at ≡ fault (number n) → x ≡ Err (refused_here p n) → turn_at p m s ≡ inside_answer x
  unfolding turn_at body_record_at body_rec
  body-none n x d a = rw (byte-missing s p.at (number n) d, d, a)

  module _ (b at : ℕ) (d : byte s p.at ≡ got b at) where
    here : get_or s p.at 0 ≡ b
    here = byte-here s p.at b at d

    other : eqb b 0xF0 ≡ false → (b ≡ 0xFF → ⊥) → kept_at (body_record_at p m s) ≡ kept_instr p (formed (inside_of (p.depth - 1) m) b (form_of b) s at)
    unfolding body_record_at body_rec unfolded_rec inside_of is_due
    other f n = rw (d, f, ne_eqb b 0xFF n) (as_instr (formed (inside_of (p.depth - 1) m) b (form_of b) s at))
      where
        as_instr : (e : Step (Syntax.Instr Identifier)) → kept_at (moved_by p (onward (λ z next. got (instr z) next) e)) ≡ kept_instr p e
        as_instr (got z next) = refl
        as_instr (fault n) = refl

    pub body-folded : (y : Answer Kept × Place) → b ≡ 0xF0 → kept_fold (folded_at 32 s none_do p) ≡ y → turn_at p m s ≡ y
    unfolding turn_at
    body-folded y e a = rw (here, eq-eqb b 0xF0 e) a

    pub body-instr : (y : Answer Kept × Place) → (b ≡ 0xF0 → ⊥) → (b ≡ 0xFF → ⊥) → kept_instr p (formed (inside_of (p.depth - 1) m) b (form_of b) s at) ≡ y → turn_at p m s ≡ y
    unfolding turn_at
    body-instr y f n a = rw (here, ne_eqb b 0xF0 f) (other (ne_eqb b 0xF0 f) n ∙ a)

    pub body_open : b ≡ 0xFF → 1 < p.depth → turn_at p m s ≡ (refused 8 p.rec, p)
    unfolding turn_at body_record_at body_rec unfolded_rec inside_of is_due
    body_open g h = rw (here, d, g, inside_open (p.depth - 1) m, lt-ltb 0 (p.depth - 1) (omega arith))

    pub body_end : (q : Place) → b ≡ 0xFF → 1 ≤ p.depth → p.depth ≤ 1 → q ≡ record_past p at 0 → turn_at p m s ≡ (ok an_end, q)
    unfolding turn_at body_record_at body_rec unfolded_rec inside_of is_due place_after
    body_end q g l h a = rw (here, d, g, inside_open (p.depth - 1) m, le-ltb 0 (p.depth - 1) (omega arith), a)

pub ruleset body-ways = (handed_as, body-none, body-folded, body-instr, body_open, body_end)

-- ## Only the innermost block's mark matters

module _ (k : ℕ) (m n : Marks) (same : may_else (inside_of k m).blocks ≡ may_else (inside_of k n).blocks) where
  admits-same : (f : Form) → admits (inside_of k m) f ≡ admits (inside_of k n) f
  unfolding admits
  admits-same opening = rw (inside-length k m, inside-length k n)
  admits-same elsing = rw same
  admits-same ending = rw (inside_open k m, inside_open k n)
  admits-same calling = refl
  admits-same (operands x) = refl

  formed-same : (op : ℕ) (f : Option Form) → formed (inside_of k m) op f ≡ formed (inside_of k n) op f
  formed-same op none = refl
  formed-same op (some f) = rw (admits-same f)

  body_same : (s : Bytes) (at : ℕ) → body_rec (inside_of k m) s at ≡ body_rec (inside_of k n) s at
  unfolding body_rec unfolded_rec folded_rec is_due inside_of
  body_same s at = go (byte s at) refl
    where
      go : (e : Step ℕ) → byte s at ≡ e → body_rec (inside_of k m) s at ≡ body_rec (inside_of k n) s at
      go (got b next) e = rw (e, inside_open k m, inside_open k n, formed-same b (form_of b))
      go (fault x) e = rw e

pub by_innermost : (p : Place) (m : Marks) (s : Bytes) (i : Innermost) (y : Answer Kept × Place) → i ≡ innermost_of m → turn_at p (mark_of i) s ≡ y → turn_at p m s ≡ y
unfolding turn_at body_record_at
by_innermost p m s i y e a = rw (body_same (p.depth - 1) m (mark_of i) (rw e (innermost_same (p.depth - 1) m)) s p.at) a
