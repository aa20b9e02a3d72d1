-- Folded records in the reading pass, along what the calls of the code answered.
use Rattle.std.specs.Prelude.{Result, Ok, Err, IsErrAnd}
use Rattle.std.specs.Result.{IsErr}
use Rattle.syntax.specs.Refusals.{number}
use Rattle.syntax.specs.declared.Fault.{Fault}
use Rattle.syntax.specs.Reads.{Read}
use Rattle.std.specs.Prelude.{if◌then◌else◌}
use mathlib.Core.Path.{◌≡◌, refl, ap, sym, ◌∙◌}
use Prim.Native.Nat.{ℕ, zero, suc, ◌+◌, ◌-◌, ◌≤◌, ◌<◌}
use mathlib.Core.Bool.{Bool, true, false, ◌||◌}
use mathlib.Core.List.{List, [], ◌∷◌}
use mathlib.Core.Option.{Option, none, some}
use lib.Dec.{eqb, leb}
use lib.ListN.{get_or}
use borrow.Author.Tests.{eq-eqb, ne_eqb, le-leb, lt-leb, leb-false}
use native.Mathlib.Omega.{arith}
use Rattle.definition.specs.Syntax as Syntax
use Rattle.definition.specs.Syntax.{Bytes, Identifier, Rec, field, folded, body_end}
use Rattle.definition.specs.Reader.{Step, got, fault, onward, byte}
use Rattle.definition.specs.Token.{up_to, optional, type_use}
use Rattle.definition.specs.Instructions as Instructions
use Rattle.definition.specs.Instructions.{Operands, opening, elsing, ending, calling, operands, form_of, plain_of, instruction, may_fold, operator_of, operator, fold}
use Rattle.syntax.specs.Plain.{operands_is}
use Rattle.syntax.specs.declared.Operands as Code
use Rattle.syntax.specs.Instructions.{form_is}
use Rattle.syntax.specs.declared.Form.{Form}
use Rattle.syntax.specs.declared.Form.TheVariants as FM
use Rattle.instr.specs.Readers.{count_of}
use Rattle.syntax.specs.declared.Place.{Place}
use Rattle.next_record.specs.Uses.{may_use, names_data, sort_names}
use Rattle.next_record.specs.Places.{record_past}
use Rattle.next_record.specs.Folds.{Head, Fold, head_is, fold_of, does_of, none_do, both_do, form_does, byte_does, does_at, head_of, head_at, head_with, on_head, on_fold, on_byte, operands_by, after_f0, folded_at}
use Rattle.next_record.specs.declared.record.Does.{Does}
use Rattle.next_record.specs.declared.record.FaultAt.{FaultAt}
use Rattle.next_record.specs.Folds as L
use Rattle.next_record.specs.Answers.{refused_here}
use Rattle.next_record.proofs.Naming.{read_names}
use Rattle.next_record.proofs.Steps.{handed_as}

-- ## What instructions do

or-true : (b : Bool) → (b || true) ≡ true
or-true true = refl
or-true false = refl

or_false : (b : Bool) → (b || false) ≡ b
or_false true = refl
or_false false = refl

none_more : (d : Does) → both_do d none_do ≡ d
unfolding both_do
none_more d = rw (or_false d.uses, or_false d.names) refl

-- ## The operator

-- by its opcode and the byte after it
module _ (s : Bytes) (at : ℕ) (does : Does) where
  pub does_no_byte : (n : ℕ) → byte s at ≡ fault n → does ≡ both_do does (does_at s at)
  unfolding does_at
  does_no_byte n d = sym (rw d (none_more does))

  module _ (b a : ℕ) (d : byte s at ≡ got b a) (f : Form) (says : form_of b ≡ form_is f) where
    by_form : does_at s at ≡ form_does (form_is f) (get_or s a 0)
    unfolding does_at
    by_form = rw (d, says) refl

    pub does_calling : f ≡ FM.Calling → ◌≡◌ {A = Does} (record { uses = true; names = does.names }) (both_do does (does_at s at))
    unfolding both_do
    does_calling e = sym (rw (by_form, e, or-true does.uses, or_false does.names) refl)

    module _ (w : Code.Operands) (n : Bool) (e : f ≡ FM.Operands w) (i : n ≡ sort_names (operands_is w) (get_or s a 0)) where
      pub does_name : n ≡ true → ◌≡◌ {A = Does} (record { uses = does.uses; names = true }) (both_do does (does_at s at))
      unfolding both_do
      does_name t = sym (rw (by_form, e, ← i, t, or_false does.uses, or-true does.names) refl)

      pub does_plain : n ≡ false → does ≡ both_do does (does_at s at)
      does_plain t = sym (rw (by_form, e, ← i, t) (none_more does))

    pub does_barred : (f ≡ FM.Calling → ⊥) → ((w : Code.Operands) → f ≡ FM.Operands w → ⊥) → does ≡ both_do does (does_at s at)
    does_barred h k = sym (ap (both_do does) (by_form ∙ go f h k) ∙ none_more does)
      where
        go : (g : Form) → (g ≡ FM.Calling → ⊥) → ((w : Code.Operands) → g ≡ FM.Operands w → ⊥) → form_does (form_is g) (get_or s a 0) ≡ none_do
        go FM.NoOpcode h k = refl
        go FM.Opening h k = refl
        go FM.Elsing h k = refl
        go FM.Ending h k = refl
        go FM.Calling h k = absurd (h refl)
        go (FM.Operands w) h k = absurd (k w refl)

-- one that was read does what its first bytes say
module _ (s : Bytes) (x : Syntax.Instr Identifier) (next : ℕ) where
  calls : (b a : ℕ) → instruction b calling s a ≡ got x next → does_of x ≡ form_does (some calling) (get_or s a 0)
  unfolding instruction does_of may_use names_data
  calls b a e = table (optional s a) e
    where
      type : (i : Syntax.Index Identifier) (m : Step (Syntax.TypeUse Identifier)) → onward (λ t n. got (Syntax.indirect i t) n) m ≡ got x next → does_of x ≡ form_does (some calling) (get_or s a 0)
      type i (got t n) e = let d : Syntax.indirect i t ≡ x = cc in rw (← d) refl
      type i (fault n) e = let z : ◌≡◌ {A = ℕ} 0 1 = cc in absurd (omega arith)

      table : (m : Step (Syntax.Index Identifier)) → onward (λ i c. onward (λ t n. got (Syntax.indirect i t) n) (type_use s c)) m ≡ got x next → does_of x ≡ form_does (some calling) (get_or s a 0)
      table (got i c) e = type i (type_use s c) e
      table (fault n) e = let z : ◌≡◌ {A = ℕ} 0 1 = cc in absurd (omega arith)

  is_plain : (b a : ℕ) (w : Operands) → instruction b (operands w) s a ≡ got x next → does_of x ≡ form_does (some (operands w)) (get_or s a 0)
  unfolding instruction does_of may_use names_data
  is_plain b a w e = go (plain_of b w s a) refl e
    where
      go : (m : Step (Syntax.Plain Identifier)) → plain_of b w s a ≡ m → onward (λ p n. got (Syntax.plain p) n) m ≡ got x next → does_of x ≡ form_does (some (operands w)) (get_or s a 0)
      go (got p n) r e = let d : Syntax.plain p ≡ x = cc in rw (← d, read_names b w s a p n r) refl
      go (fault n) r e = let z : ◌≡◌ {A = ℕ} 0 1 = cc in absurd (omega arith)

  by_opcode : (b a : ℕ) (f : Option Instructions.Form) → operator_of b f s a ≡ got x next → does_of x ≡ form_does f (get_or s a 0)
  unfolding may_fold
  by_opcode b a none e = let z : ◌≡◌ {A = ℕ} 0 1 = cc in absurd (omega arith)
  by_opcode b a (some opening) e = let z : ◌≡◌ {A = ℕ} 0 1 = cc in absurd (omega arith)
  by_opcode b a (some elsing) e = let z : ◌≡◌ {A = ℕ} 0 1 = cc in absurd (omega arith)
  by_opcode b a (some ending) e = let z : ◌≡◌ {A = ℕ} 0 1 = cc in absurd (omega arith)
  by_opcode b a (some calling) e = calls b a e
  by_opcode b a (some (operands w)) e = is_plain b a w e

  operator_does_lem : (at : ℕ) → operator s at ≡ got x next → does_of x ≡ does_at s at
  unfolding operator does_at
  operator_does_lem at e = go (byte s at) e
    where
      go : (m : Step ℕ) → onward (λ b a. operator_of b (form_of b) s a) m ≡ got x next → does_of x ≡ byte_does s m
      go (got b a) e = by_opcode b a (form_of b) e
      go (fault n) e = let z : ◌≡◌ {A = ℕ} 0 1 = cc in absurd (omega arith)

-- ## What stands after F0

-- nothing: both say so
head-fault : (m : Step (Rec Identifier)) (n : ℕ) → count_of m ≡ fault n → L.no_head n ≡ head_of m
head-fault (got (field f) next) n e = let d : 0 ≡ n = cc in rw (← d) refl
head-fault (got (Syntax.instr x) next) n e = let d : 0 ≡ n = cc in rw (← d) refl
head-fault (got (folded x k) next) n e = let z : ◌≡◌ {A = ℕ} 0 1 = cc in absurd (omega arith)
head-fault (got body_end next) n e = let d : 0 ≡ n = cc in rw (← d) refl
head-fault (fault k) n e = let d : k ≡ n = cc in rw d refl

module _ (s : Bytes) (at : ℕ) (does : Does) (x : Head) where
  pub head_not : (n : ℕ) → count_of (fold s at) ≡ fault n → x ≡ L.no_head n → x ≡ head_with does (head_at s at)
  unfolding head_at
  head_not n d p = p ∙ ap (head_with does) (head-fault (fold s at) n d)

  pub head-got : (n next : ℕ) (k : Does) → count_of (fold s at) ≡ got n next → k ≡ both_do does (does_at s at) → x ≡ L.head k n next → x ≡ head_with does (head_at s at)
  unfolding head_at fold
  head-got n next k d i p = p ∙ ap (λ z. L.head z n next) i ∙ ap (head_with does) (go (operator s at) refl d)
    where
      count : (y : Syntax.Instr Identifier) → does_of y ≡ does_at s at → (m : Step ℕ) → count_of (onward (λ k b. got (folded y k) b) m) ≡ got n next → L.head (does_at s at) n next ≡ head_of (onward (λ k b. got (folded y k) b) m)
      count y o (got k b) e = let f : k ≡ n = cc in let g : b ≡ next = cc in rw (f, g, o) refl
      count y o (fault k) e = let z : ◌≡◌ {A = ℕ} 0 1 = cc in absurd (omega arith)

      go : (m : Step (Syntax.Instr Identifier)) → operator s at ≡ m → count_of (onward (λ y a. onward (λ k b. got (folded y k) b) (up_to 7 16 s a)) m) ≡ got n next
          → L.head (does_at s at) n next ≡ head_of (onward (λ y a. onward (λ k b. got (folded y k) b) (up_to 7 16 s a)) m)
      go (got y a) o e = count y (operator_does_lem s y a at o) (up_to 7 16 s a) e
      go (fault k) o e = let z : ◌≡◌ {A = ℕ} 0 1 = cc in absurd (omega arith)

-- the fault of a call is handed on
pub head_handed : (r : Read (Does × ℕ)) (e : Fault) → IsErr r → IsErrAnd r (λ z. z ≡ e) → head_is r ≡ L.no_head (number e)
head_handed (Ok x) e i h = absurd h
head_handed (Err z) e i h = rw h

-- what comes before it may be joined first
head-onward : (does : Does) (h : Head) (f : Does → ℕ → ℕ → Fold) (g : ℕ → Fold) → on_head (head_with does h) f g ≡ on_head h (λ d n next. f (both_do does d) n next) g
head-onward does (L.head d n next) f g = refl
head-onward does (L.no_head n) f g = refl

-- ## A folded record

module _ (left : ℕ) (s : Bytes) (does : Does) (p : Place) (x : Fold) where
  -- whatever may be nested
  by_byte : ((f : ℕ → Fold) → x ≡ after_f0 f s p) → x ≡ folded_at left s does p
  unfolding folded_at
  by_byte h = go left
    where
      go : (left : ℕ) → x ≡ folded_at left s does p
      go zero = h _
      go (suc n) = h _

  pub no_byte : (n : ℕ) → byte s p.at ≡ fault n → x ≡ L.stopped n p → x ≡ folded_at left s does p
  unfolding after_f0
  no_byte n d a = by_byte (λ f. rw d a)

  module _ (b at : ℕ) (d : byte s p.at ≡ got b at) where
    pub not_folded : (b ≡ 0xF0 → ⊥) → x ≡ L.stopped 4 p → x ≡ folded_at left s does p
    unfolding after_f0
    not_folded n a = by_byte (λ f. rw (d, ne_eqb b 0xF0 n) a)

    module _ (e : b ≡ 0xF0) where
      pub one_too_many : 4096 ≤ p.rec → x ≡ L.stopped 7 p → x ≡ folded_at left s does p
      unfolding after_f0
      one_too_many h a = by_byte (λ f. rw (d, eq-eqb b 0xF0 e, le-leb _ _ h) a)

      module _ (l : p.rec < 4096) where
        pub too_deep : left < 1 → x ≡ L.stopped 7 p → x ≡ folded_at left s does p
        unfolding folded_at after_f0
        too_deep h a = let z : left ≡ 0 = omega arith in rw (z, d, eq-eqb b 0xF0 e, lt-leb _ _ l) a

        module _ (h : 1 ≤ left) (r : Head) (head : r ≡ head_with does (head_at s at)) where
          abbrev onward_by : Does → ℕ → ℕ → Fold
          onward_by m n next = operands_by (folded_at (left - 1) s) n m (record_past p next p.depth)

          deeper : x ≡ on_head r onward_by (λ n. L.stopped n p) → x ≡ folded_at left s does p
          unfolding folded_at after_f0
          deeper a =
              let z : left ≡ suc (left - 1) = omega arith in
              rw (z, d, eq-eqb b 0xF0 e, lt-leb _ _ l)
              (a ∙ ap (λ k. on_head k onward_by (λ n. L.stopped n p)) head ∙ head-onward does (head_at s at) onward_by (λ n. L.stopped n p))

          pub no_head : (n : ℕ) → r ≡ L.no_head n → x ≡ L.stopped n p → x ≡ folded_at left s does p
          no_head n g a = deeper (rw g a)

          pub with_operands : (m : Does) (n next : ℕ) (o : Place) → r ≡ L.head m n next → o ≡ record_past p next p.depth
              → x ≡ operands_by (folded_at (left - 1) s) n m o → x ≡ folded_at left s does p
          with_operands m n next o g j a = deeper (rw (g, ← j) a)

-- the fault of a call is handed on
pub fold_handed : (y : Fold) (r : Result (Does × Place) (FaultAt Fault)) (e : FaultAt Fault) → IsErr r → IsErrAnd r (λ z. z ≡ e) → L.stopped (number e.fault) e.place ≡ y → fold_of r ≡ y
fold_handed y (Ok x) e i h g = absurd h
fold_handed y (Err z) e i h g = rw h g

pub fold_refused : (r : Result (Does × Place) (FaultAt Fault)) (p : Place) (n : Fault) → r ≡ Err (refused_here p n) → fold_of r ≡ L.stopped (number n) p
fold_refused r p n e = rw e

pub ruleset foldings = (no_byte, not_folded, one_too_many, too_deep, no_head, with_operands, fold_refused, handed_as, refl)

-- ## How far the place has moved

-- after a folded record it stands at a later record, as deep as before; and after some operands
pub record Moved (p q : Place) : Type 0 where
  pub later : p.rec ≤ q.rec
  pub most : q.rec ≤ 4096
  pub deep : q.depth ≡ p.depth

abbrev pub MovedBy : Place → Fold → Type 0
MovedBy p (L.passed d q) = Moved p q
MovedBy p (L.stopped n q) = Unit {0}

operands_move : (f : Does → Place → Fold) → ((d : Does) (p : Place) → p.rec ≤ 4096 → MovedBy p (f d p)) → (n : ℕ) (d : Does) (p : Place) → p.rec ≤ 4096 → MovedBy p (operands_by f n d p)
unfolding operands_by
operands_move f h zero d p l = record { later = omega arith; most = l; deep = refl }
operands_move f h (suc n) d p l = go (f d p) (h d p l) (λ e q g. operands_move f h n e q g)
  where
    after : (q : Place) → Moved p q → (x : Fold) → MovedBy q x → MovedBy p x
    after q m (L.passed e o) w = record { later = omega (arith, m.later, w.later); most = w.most; deep = w.deep ∙ m.deep }
    after q m (L.stopped e o) w = tt

    go : (x : Fold) → MovedBy p x → ((e : Does) (q : Place) → q.rec ≤ 4096 → MovedBy q (operands_by f n e q)) → MovedBy p (on_fold x (λ e q. operands_by f n e q))
    go (L.passed e q) m w = after q m (operands_by f n e q) (w e q m.most)
    go (L.stopped e q) m w = tt

-- the operator's own record comes first
abbrev pub PassedBy : Place → Fold → Type 0
PassedBy p (L.passed d q) = Moved p q × (p.rec < q.rec)
PassedBy p (L.stopped n q) = Unit {0}

module _ (s : Bytes) (p : Place) where
  f0_passes : (f : ℕ → Fold) → ((a : ℕ) → p.rec < 4096 → PassedBy p (f a)) → PassedBy p (after_f0 f s p)
  unfolding after_f0
  f0_passes f h = go (byte s p.at)
    where
      full : (a : ℕ) (t : Bool) → leb 4096 p.rec ≡ t → PassedBy p (if t then L.stopped 7 p else f a)
      full a true e = tt
      full a false e = h a (leb-false _ _ e)

      is : (a : ℕ) (t : Bool) → PassedBy p (if t then (if leb 4096 p.rec then L.stopped 7 p else f a) else L.stopped 4 p)
      is a true = full a (leb 4096 p.rec) refl
      is a false = tt

      go : (m : Step ℕ) → PassedBy p (on_byte m (λ b a. if eqb b 0xF0 then (if leb 4096 p.rec then L.stopped 7 p else f a) else L.stopped 4 p) (λ n. L.stopped n p))
      go (got b a) = is a (eqb b 0xF0)
      go (fault n) = tt

  head_passes : (g : Does → Place → Fold) → ((d : Does) (q : Place) → q.rec ≤ 4096 → MovedBy q (g d q)) → (does : Does) (x : Head) → p.rec < 4096
      → PassedBy p (on_head x (λ d n next. operands_by g n (both_do does d) (record_past p next p.depth)) (λ n. L.stopped n p))
  unfolding record_past
  head_passes g h does (L.head d n next) l =
      go (operands_by g n (both_do does d) (record_past p next p.depth)) (operands_move g h n (both_do does d) (record_past p next p.depth) (omega arith))
    where
      go : (x : Fold) → MovedBy (record { at = next; rec = p.rec + 1; depth = p.depth }) x → PassedBy p x
      go (L.passed e q) m = (record { later = omega (arith, m.later); most = m.most; deep = m.deep }, omega (arith, m.later))
      go (L.stopped e q) m = tt
  head_passes g h does (L.no_head n) l = tt

passed_moved : (p : Place) (x : Fold) → PassedBy p x → MovedBy p x
passed_moved p (L.passed d q) m = m.0
passed_moved p (L.stopped n q) m = tt

pub folded_passes : (left : ℕ) (s : Bytes) (does : Does) (p : Place) → PassedBy p (folded_at left s does p)
unfolding folded_at
folded_passes zero s does p = f0_passes s p (λ a. L.stopped 7 p) (λ a l. tt)
folded_passes (suc left) s does p =
    f0_passes s p _ (λ a l. head_passes s p (folded_at left s) (λ d q h. passed_moved q (folded_at left s d q) (folded_passes left s d q)) does (head_at s a) l)
