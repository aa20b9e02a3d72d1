-- The loop over all records: what it started from passes as what is left passes from here.
use Rattle.std.specs.Prelude.{if◌then◌else◌, Ok, Err, IsErrAnd}
use Rattle.std.specs.Result.{IsErr}
use mathlib.Core.Path.{◌≡◌, refl, ap, sym, ◌∙◌, subst}
use Prim.Native.Nat.{ℕ, zero, suc, ◌+◌, ◌-◌, ◌*◌, ◌≤◌, ◌<◌, ◌^◌}
use mathlib.Core.Bool.{Bool, true, false, ◌||◌, not}
use mathlib.Core.List.{List, [], ◌∷◌, ◌++◌, append-nil}
use mathlib.Core.Option.{none, some}
use lib.Dec.{eqb}
use lib.ListN.{length, get_or, set, take, length-set, length-append}
use lib.Seq.{sets, take_all, take-append-le}
use borrow.Author.Tests.{lt-ltb, le-ltb}
use native.Mathlib.Omega.{arith}
use native.Mathlib.Decide.{dec_le}
use native.Mathlib.Numerals.{add-one}
use mir.Syntax.{w32}
use mir.Val.{Fits}
use Rattle.definition.specs.Basic as Basic
use Rattle.definition.specs.Basic.{Answer, ok, fails, refused}
use Rattle.definition.specs.Syntax as Syntax
use Rattle.definition.specs.Syntax.{Bytes, Identifier, Rec, field, instr, folded, body_end}
use Rattle.definition.specs.Reader.{Step, got, fault, onward, ◌>>=◌, ◌>>◌, give, require}
use Rattle.definition.specs.Instructions as Instructions
use Rattle.definition.specs.Instructions.{Blocks, opened, open_after, inside_after, is_open, is_due, form_of, formed, unfolded_rec, body_rec, body_begins}
use Rattle.definition.specs.Records.{Room}
use Rattle.definition.specs.Read as Read
use Rattle.definition.specs.Read.{own_body, source_body, field_body, instr_body, body_after, seen_after, nothing_seen, record_in, one_record, begins_in, at_end}
use Rattle.laws.specs.Steps.{total}
use Rattle.laws.specs.Depths.{depth_after}
use Rattle.laws.proofs.Backwards as Backwards
use Rattle.laws.proofs.Bodies as Bodies
use Rattle.laws.proofs.Bodies.{end_inside, read_fits}
use Rattle.laws.proofs.Sets.{sets-append}
use Rattle.syntax.specs.Refusals.{number, refusal, refused_by, Resolved}
use Rattle.syntax.specs.declared.Fault.{Fault}
use Rattle.syntax.specs.declared.Fault.TheVariants as Faults
use Rattle.syntax.proofs.Ways.{handed}
use Rattle.syntax.specs.declared.Refusal.{Refusal}
use Rattle.area.specs.Layout.{BYTES, COUNTS, DATA_NAMED, ENDS, WORDS, end_at}
use Rattle.area.specs.Flags.{flag_put}
use Rattle.syntax.specs.Items.{room_of, none_seen}
use Rattle.syntax.specs.Marks.{no_marks, bits_of, marks_in, inside_of}
use Rattle.syntax.specs.declared.Marks.{Marks}
use Rattle.syntax.specs.declared.Seen.{Seen}
use Rattle.syntax.specs.Fields.{field_of}
use Rattle.syntax.specs.declared.Own.TheVariants as O
use Rattle.syntax.specs.declared.Source.TheVariants as S
use Rattle.syntax.specs.declared.Field.{Field}
use Rattle.syntax.specs.declared.Field.TheVariants as F
use Rattle.next_record.specs.Uses.{may_use, names_data, operand_names, end_word}
use Rattle.stream.specs.Pass.{Passed, used_after, named_after, end_of, pass, passed, end_words, area_after, reading, reading_area, first_place, Ends, Walks, Reads}
use Rattle.next_record.specs.Places.{body_of, depth_of, depth_past, record_past, place_after, moved_by, field_record_at, body_record_at}
use Rattle.next_record.specs.Marks.{Opened, Elsed, Ended}
use Rattle.counting.specs.Counting.{field_seen}
use Rattle.next_record.specs.Answers.{fault_at, Shift, stay, name_data, open_one, else_one, end_one, shift_of, Kept, a_field, an_instr, some_folded, an_end, kept_of, kept_answer, kept_at, inside_kept}
use Rattle.next_record.specs.Folds.{Fold, none_do, folded_at, kept_fold, turn_at}
use Rattle.stream.specs.Pass.{end_put}
use Rattle.syntax.specs.declared.Place.{Place}
use Rattle.next_record.specs.declared.record.FaultAt.{FaultAt}
use Rattle.next_record.specs.declared.record.Inside.{Inside}
use Rattle.next_record.specs.declared.record.Inside.TheVariants as N
use Rattle.next_record.specs.declared.record.Does.{Does}
use Rattle.next_record.specs.Folds as L
use Rattle.stream.proofs.Model.{passed-says, pass_end, pass-fault, pass_full, pass-got}
use Rattle.stream.proofs.Folds.{or_none, byte-is, Turned, folded-turn}
use Rattle.counting.proofs.Counts.{Counts, counts-none, counts-field, counts-instr, counts_end, room-same, counts_words}
use Rattle.next_record.proofs.Records.{outside, inside}
use Rattle.next_record.proofs.Folding.{Moved, PassedBy, folded_passes}
use Rattle.next_record.proofs.Bits.{marks_length}

-- ## Backwards through a record that was read

-- what was read, and that the place has moved on by it
pub record Was (free : Room) (p : Place) (m : Marks) (s : Bytes) (x : Rec Identifier) (q : Place) : Type 0 where
  pub few : p.rec < 4096
  pub reads : record_in free (body_of p.depth m) s p.at ≡ got x q.at
  pub next : q.rec ≡ p.rec + 1
  pub deep : q.depth ≡ depth_past p.depth x

module _ (free : Room) (p : Place) (m : Marks) (s : Bytes) (x : Rec Identifier) (q : Place) (h : p.rec < 4096) where
  moved_was : (st : Step (Rec Identifier)) → record_in free (body_of p.depth m) s p.at ≡ st → moved_by p st ≡ (ok x, q) → Was free p m s x q
  unfolding place_after record_past
  moved_was (fault k) f e = let j : refused k p.rec ≡ ok x = ap (λ (z : Answer (Rec Identifier) × Place). z.0) e in let z : ◌≡◌ {A = ℕ} 0 1 = cc in absurd (omega arith)
  moved_was (got y n) f e =
      let j : ok y ≡ ok x = ap (λ (z : Answer (Rec Identifier) × Place). z.0) e in
      let a : y ≡ x = cc in
      let b : place_after p y n ≡ q = ap (λ (z : Answer (Rec Identifier) × Place). z.1) e in
      record {
        few = h;
        reads = f ∙ ap (λ z. got z n) a ∙ ap (λ (z : Place). got x z.at) b;
        next = sym (ap (λ (z : Place). z.rec) b);
        deep = sym (ap (λ (z : Place). z.depth) b) ∙ ap (depth_past p.depth) a;
      }

  -- outside a body
  field_was : p.depth < 1 → field_record_at free p s ≡ (ok x, q) → Was free p m s x q
  unfolding field_record_at
  field_was d e = moved_was (record_in free none s p.at) (ap (λ b. record_in free b s p.at) (outside p.depth m d)) e

  -- in one
  body_was : 1 ≤ p.depth → body_record_at p m s ≡ (ok x, q) → Was free p m s x q
  unfolding body_record_at
  body_was d e = moved_was (body_rec (inside_of (p.depth - 1) m) s p.at) (ap (λ b. record_in free b s p.at) (inside p.depth m d)) e

-- the record of which this was kept
record KeptOf (y : Answer (Rec Identifier) × Place) (k : Kept) (q : Place) : Type 0 where
  rec : Rec Identifier
  is : y ≡ (ok rec, q)
  keeps : kept_of rec ≡ k

kept_of_lem : (y : Answer (Rec Identifier) × Place) (k : Kept) (q : Place) → kept_at y ≡ (ok k, q) → KeptOf y k q
kept_of_lem (ok x, p) k q e =
    let a : ok (kept_of x) ≡ ok k = ap (λ (z : Answer Kept × Place). z.0) e in
    let b : p ≡ q = ap (λ (z : Answer Kept × Place). z.1) e in
    record { rec = x; is = rw b; keeps = cc }
kept_of_lem (fails z, p) k q e =
    let a : fails z ≡ ok k = ap (λ (z : Answer Kept × Place). z.0) e in let z : ◌≡◌ {A = ℕ} 0 1 = cc in absurd (omega arith)

-- an instruction
record OnInstr (u : Bool) (h : Shift) (x : Rec Identifier) : Type 0 where
  it : Syntax.Instr Identifier
  is : x ≡ instr it
  uses : may_use it ≡ u
  shifts : shift_of it ≡ h

on_instr : (u : Bool) (h : Shift) (x : Rec Identifier) → kept_of x ≡ an_instr u h → OnInstr u h x
on_instr u h (field f) e = let z : ◌≡◌ {A = ℕ} 0 1 = cc in absurd (omega arith)
on_instr u h (instr x) e = record { it = x; is = refl; uses = cc; shifts = cc }
on_instr u h (folded x n) e = let z : ◌≡◌ {A = ℕ} 0 1 = cc in absurd (omega arith)
on_instr u h body_end e = let z : ◌≡◌ {A = ℕ} 0 1 = cc in absurd (omega arith)

-- a body's end
on_end : (x : Rec Identifier) → kept_of x ≡ an_end → x ≡ body_end
on_end (field f) e = let z : ◌≡◌ {A = ℕ} 0 1 = cc in absurd (omega arith)
on_end (instr x) e = let z : ◌≡◌ {A = ℕ} 0 1 = cc in absurd (omega arith)
on_end (folded x n) e = let z : ◌≡◌ {A = ℕ} 0 1 = cc in absurd (omega arith)
on_end body_end e = refl

-- ## What a turn was

-- only after F0 a folded record is read
not_folded : (i : Instructions.Inside) (s : Bytes) (at : ℕ) (x : Syntax.Instr Identifier) (n q : ℕ) → at < length s → eqb (get_or s at 0) 0xF0 ≡ false
    → body_rec i s at ≡ got (folded x n) q → ⊥
unfolding body_rec unfolded_rec
not_folded i s at x n q h z e =
    go (eqb (get_or s at 0) 0xFF) (Backwards.passed _ 4 (not (is_due i.due)) s (at + 1) (rw (byte-is s at h, z) at e)).1
  where
    not_instr : (m : Step (Syntax.Instr Identifier)) → onward (λ y n. got (instr y) n) m ≡ got (folded x n) q → ⊥
    not_instr (got y k) e = let z : ◌≡◌ {A = ℕ} 0 1 = cc in omega arith
    not_instr (fault k) e = let z : ◌≡◌ {A = ℕ} 0 1 = cc in omega arith

    go : (t : Bool)
        → (if t then (require 8 (not (is_open i.blocks)) >> give body_end) else (formed i (get_or s at 0) (form_of (get_or s at 0)) >>= λ y. give (instr y))) s (at + 1) ≡ got (folded x n) q
        → ⊥
    go true e = let d = (Backwards.passed _ 8 (not (is_open i.blocks)) s (at + 1) e).1 in let z : ◌≡◌ {A = ℕ} 0 1 = cc in omega arith
    go false e = not_instr (formed i (get_or s at 0) (form_of (get_or s at 0)) s (at + 1)) e

-- kept of a record that is not folded
abbrev Single : Kept → Type 0
Single a_field = Unit {0}
Single (an_instr u h) = Unit {0}
Single (some_folded d) = ⊥
Single an_end = Unit {0}

module _ (p : Place) (m : Marks) (s : Bytes) (q : Place) where
  single : (k : Kept) → Single k → turn_at p m s ≡ (ok k, q) → kept_at (body_record_at p m s) ≡ (ok k, q)
  unfolding turn_at
  single k u e = go (eqb (get_or s p.at 0) 0xF0) e
    where
      no_fold : (x : Fold) → kept_fold x ≡ (ok k, q) → ⊥
      no_fold (L.passed d r) e =
          let a : ok (some_folded d) ≡ ok k = ap (λ (z : Answer Kept × Place). z.0) e in
          let b : k ≡ some_folded d = cc in
          subst Single b u
      no_fold (L.stopped n r) e = let a : refused n r.rec ≡ ok k = ap (λ (z : Answer Kept × Place). z.0) e in let z : ◌≡◌ {A = ℕ} 0 1 = cc in omega arith

      go : (t : Bool) → (if t then kept_fold (folded_at 32 s none_do p) else kept_at (body_record_at p m s)) ≡ (ok k, q) → kept_at (body_record_at p m s) ≡ (ok k, q)
      go true e = absurd (no_fold (folded_at 32 s none_do p) e)
      go false e = e

  -- F0 stands there, and this is what came of it
  record FoldedAs (f : Fold) : Type 0 where
    first : eqb (get_or s p.at 0) 0xF0 ≡ true
    is : folded_at 32 s none_do p ≡ f

  folded_as : (d : Does) → p.at < length s → turn_at p m s ≡ (ok (some_folded d), q) → FoldedAs (L.passed d q)
  unfolding turn_at body_record_at
  folded_as d h e = go (eqb (get_or s p.at 0) 0xF0) refl e
    where
      past : (x : Fold) → kept_fold x ≡ (ok (some_folded d), q) → x ≡ L.passed d q
      past (L.passed c r) e =
          let a : ok (some_folded c) ≡ ok (some_folded d) = ap (λ (z : Answer Kept × Place). z.0) e in
          let b : r ≡ q = ap (λ (z : Answer Kept × Place). z.1) e in
          let i : c ≡ d = cc in
          rw (i, b)
      past (L.stopped n r) e =
          let a : refused n r.rec ≡ ok (some_folded d) = ap (λ (z : Answer Kept × Place). z.0) e in let z : ◌≡◌ {A = ℕ} 0 1 = cc in absurd (omega arith)

      there : eqb (get_or s p.at 0) 0xF0 ≡ false → (st : Step (Rec Identifier)) → body_rec (inside_of (p.depth - 1) m) s p.at ≡ st
          → kept_at (moved_by p st) ≡ (ok (some_folded d), q) → ⊥
      there z (got (folded x n) k) f e = not_folded (inside_of (p.depth - 1) m) s p.at x n k h z f
      there z (got (field x) k) f e = let a : ok a_field ≡ ok (some_folded d) = ap (λ (z : Answer Kept × Place). z.0) e in let z : ◌≡◌ {A = ℕ} 0 1 = cc in omega arith
      there z (got (instr x) k) f e =
          let a : ok (an_instr (may_use x) (shift_of x)) ≡ ok (some_folded d) = ap (λ (z : Answer Kept × Place). z.0) e in let z : ◌≡◌ {A = ℕ} 0 1 = cc in omega arith
      there z (got body_end k) f e = let a : ok an_end ≡ ok (some_folded d) = ap (λ (z : Answer Kept × Place). z.0) e in let z : ◌≡◌ {A = ℕ} 0 1 = cc in omega arith
      there z (fault n) f e =
          let a : refused n p.rec ≡ ok (some_folded d) = ap (λ (z : Answer Kept × Place). z.0) e in let z : ◌≡◌ {A = ℕ} 0 1 = cc in omega arith

      go : (t : Bool) → eqb (get_or s p.at 0) 0xF0 ≡ t → (if t then kept_fold (folded_at 32 s none_do p) else kept_at (body_record_at p m s)) ≡ (ok (some_folded d), q)
          → FoldedAs (L.passed d q)
      go true z e = record { first = z; is = past (folded_at 32 s none_do p) e }
      go false z e = absurd (there z (body_rec (inside_of (p.depth - 1) m) s p.at) refl e)

  -- a refusal of what came of it, or of another record
  refused_as : {A : Type 0} (n : ℕ) → turn_at p m s ≡ (refused n q.rec, q) → (FoldedAs (L.stopped n q) → A) → (kept_at (body_record_at p m s) ≡ (refused n q.rec, q) → A) → A
  unfolding turn_at
  refused_as {A} n e f g = go (eqb (get_or s p.at 0) 0xF0) refl e
    where
      not : (x : Fold) → kept_fold x ≡ (refused n q.rec, q) → x ≡ L.stopped n q
      not (L.passed d r) e = let a : ok (some_folded d) ≡ refused n q.rec = ap (λ (z : Answer Kept × Place). z.0) e in let z : ◌≡◌ {A = ℕ} 0 1 = cc in absurd (omega arith)
      not (L.stopped k r) e =
          let a : ◌≡◌ {A = Answer Kept} (refused k r.rec) (refused n q.rec) = ap (λ (z : Answer Kept × Place). z.0) e in
          let b : r ≡ q = ap (λ (z : Answer Kept × Place). z.1) e in
          let j : Basic.refusal k r.rec ≡ Basic.refusal n q.rec = cc in
          let i : k ≡ n = ap (λ (z : Basic.Refusal). z.number) j in
          rw (i, b)

      go : (t : Bool) → eqb (get_or s p.at 0) 0xF0 ≡ t → (if t then kept_fold (folded_at 32 s none_do p) else kept_at (body_record_at p m s)) ≡ (refused n q.rec, q) → A
      go true z e = f (record { first = z; is = not (folded_at 32 s none_do p) e })
      go false z e = g e

-- ## Data segments that are named

abbrev naming : Shift → Bool
naming stay = false
naming name_data = true
naming (open_one may) = false
naming else_one = false
naming end_one = false

naming_of : (x : Syntax.Instr Identifier) → names_data x ≡ naming (shift_of x)
unfolding names_data
naming_of (Syntax.opens op l t) = refl
naming_of (Syntax.elses l) = refl
naming_of (Syntax.ends l) = refl
naming_of (Syntax.indirect x t) = refl
naming_of (Syntax.plain p) = go (operand_names p.operand)
  where
    go : (t : Bool) → t ≡ naming (if t then name_data else stay)
    go true = refl
    go false = refl

-- what was passed is kept
abbrev kept_here : Inside → Place → Answer Kept × Place
kept_here y q = (ok (inside_kept y), q)

-- ## Marks

-- what an instruction does to the blocks the marks have done
abbrev Shifted : Shift → Marks → Marks → Type 0
Shifted stay m r = m ≡ r
Shifted name_data m r = m ≡ r
Shifted (open_one may) m r = Opened m may r
Shifted else_one m r = Elsed m r
Shifted end_one m r = Ended m r

blocks_shift : (k : ℕ) (m r : Marks) (x : Syntax.Instr Identifier) → Shifted (shift_of x) m r → Bodies.Fits (marks_in k (bits_of m)) x → marks_in (depth_after x k) (bits_of r) ≡ open_after x (marks_in k (bits_of m))
unfolding depth_after open_after opened
blocks_shift k m r (Syntax.opens op l t) g f = g.each k (let e = f in rw (marks_length k (bits_of m)) at e)
blocks_shift k m r (Syntax.elses l) g f = g.each k
blocks_shift k m r (Syntax.ends l) g f = g.each k
blocks_shift k m r (Syntax.indirect x t) g f = rw g
blocks_shift k m r (Syntax.plain p) g f = rw (go (operand_names p.operand) g)
  where
    go : (t : Bool) → Shifted (if t then name_data else stay) m r → m ≡ r
    go true g = g
    go false g = g

body_shifts : (d : ℕ) (m r : Marks) (x : Syntax.Instr Identifier) → 1 ≤ d → Shifted (shift_of x) m r → Bodies.Fits (inside_of (d - 1) m).blocks x → body_of (depth_after x (d - 1) + 1) r ≡ instr_body x (body_of d m)
unfolding inside_of inside_after
body_shifts d m r x h g f = rw (inside d m h, add-one (depth_after x (d - 1))) (ap (λ (bs : Blocks). some (record { blocks = bs; due = [] })) (blocks_shift (d - 1) m r x g f))

-- a field begins a body with no block open, and there no mark counts
field-body : (s : Bytes) (f : Field) (m : Marks) → body_of (depth_of (field_body (field_of s f))) m ≡ field_body (field_of s f)
unfolding field_body source_body own_body inside_of marks_in
field-body s (F.Type i ps rs) m = refl
field-body s (F.Import n i x) m = refl
field-body s (F.Item i es (S.Own (O.Func t ls))) m = refl
field-body s (F.Item i es (S.Own (O.Table t))) m = refl
field-body s (F.Item i es (S.Own (O.Mem l))) m = refl
field-body s (F.Item i es (S.Own (O.Global t c))) m = refl
field-body s (F.Item i es (S.Imported n x)) m = refl
field-body s (F.Item i es (S.TableOf w xs)) m = refl
field-body s (F.Item i es (S.MemOf w d)) m = refl
field-body s (F.Export n k x) m = refl
field-body s (F.Start x) m = refl
field-body s (F.Elem i k xs) m = refl
field-body s (F.Data i k d) m = refl

-- whether a body is open does not hang on the marks
begins-any : (b d : ℕ) (m r : Marks) → begins_in b (body_of d m) ≡ begins_in b (body_of d r)
unfolding body_begins inside_of
begins-any b zero m r = refl
begins-any b (suc k) m r = refl

end_any : (n d : ℕ) (m r : Marks) → at_end n (body_of d m) ≡ at_end n (body_of d r)
end_any n zero m r = refl
end_any n (suc k) m r = refl

or_one : (u : Bool) → true ≡ u || true
or_one true = refl
or_one false = refl

-- ## The loop

pub record Going (s : Bytes) (w₀ : List ℕ) (p : Place) (m : Marks) (c : Seen) (ended : ℕ) (used named : Bool) (w : List ℕ) : Type 0 where
  pub seen : Read.Seen
  pub ends : List ℕ
  pub few : p.rec ≤ 4096
  pub body : seen.body ≡ body_of p.depth m
  pub counts : Counts seen c
  pub same : passed s ≡ pass (4096 - p.rec) p.rec seen used named ends s p.at
  pub area : w ≡ sets w₀ ENDS (end_words ends)
  pub number : length ends ≡ 2 * ended
  pub fewer : ended ≤ p.rec
  pub long : length w ≡ length w₀

pub begin : (s : Bytes) (w : List ℕ) (p : Place) (m : Marks) (c : Seen) → p ≡ first_place → c ≡ none_seen → Going s w p m c 0 false false w
unfolding passed nothing_seen end_words
begin s w p m c d e = rw d (record {
  seen = nothing_seen;
  ends = [];
  few = omega arith;
  body = refl;
  counts = rw e counts-none;
  same = refl;
  area = refl;
  number = refl;
  fewer = omega arith;
  long = refl;
})

module _ (s : Bytes) (w₀ : List ℕ) (p : Place) (m : Marks) (c : Seen) (ended : ℕ) (used named : Bool) (w : List ℕ) (v : Going s w₀ p m c ended used named w) (h : p.at < length s) where
  -- the definition reads the same record
  one-read : (x : Rec Identifier) (q : Place) → Was (room_of c) p m s x q → one_record v.seen s p.at ≡ got x q.at
  unfolding one_record
  one-read x q a = rw (room-same v.counts, v.body) a.reads

  turned : (x : Rec Identifier) (q : Place) → Was (room_of c) p m s x q
      → passed s ≡ pass (4096 - q.rec) q.rec (seen_after v.seen x) (used_after used x) (named_after named x) (v.ends ++ end_of used x q.at q.rec) s q.at
  turned x q a =
      let l : 0 < 4096 - p.rec = omega (arith, a.few) in
      let d : 4096 - p.rec - 1 ≡ 4096 - q.rec = omega (arith, a.next) in
      let n = a.next in
      v.same ∙ pass-got p.rec v.seen used named v.ends s p.at (4096 - p.rec) x q.at h l (one-read x q a) ∙ rw (d, ← n)

  -- where the body stands after it, by the marks after it
  body_on : (x : Rec Identifier) (q : Place) (m' : Marks) → body_of q.depth m' ≡ body_after (body_of p.depth m) x → (seen_after v.seen x).body ≡ body_of q.depth m'
  unfolding seen_after
  body_on x q m' e = ap (λ b. body_after b x) v.body ∙ sym e

  -- a refusal ends the pass
  stopped_by : (r : Refusal) → (passed s).says ≡ refused_by r → (passed s).ends ≡ v.ends → Walks s w₀ (Err r) w
  unfolding area_after
  stopped_by r g f = record { says = sym (passed-says s) ∙ g; leaves = v.area ∙ rw (g, f) }

  stopped : (r : Refusal) → passed s ≡ record { says = refused_by r; seen = v.seen; ends = v.ends; named = named } → Walks s w₀ (Err r) w
  stopped r g = stopped_by r (ap (λ (x : Passed). x.says) g) (ap (λ (x : Passed). x.ends) g)

  -- one record too many
  full_at : (n : ℕ) → 4096 ≤ p.rec → n ≡ (if begins_in (get_or s p.at 0) (body_of p.depth no_marks) then 7 else 4)
      → passed s ≡ record { says = refused n p.rec; seen = v.seen; ends = v.ends; named = named }
  full_at n l e =
      let z : 4096 - p.rec ≡ 0 = omega arith in
      let b = v.body in
      v.same ∙ pass_full p.rec v.seen used named v.ends s p.at (4096 - p.rec) h z ∙ rw (b, begins-any (get_or s p.at 0) p.depth m no_marks, e)

  pub full_walk : (f : Fault) → 4096 ≤ p.rec → number f ≡ (if begins_in (get_or s p.at 0) (body_of p.depth no_marks) then 7 else 4) → Walks s w₀ (Err (refusal f p.rec)) w
  full_walk f l e = stopped (refusal f p.rec) (full_at (number f) l e)

  module _ (l : p.rec < 4096) (q : Place) where
    -- a record that is not read
    faulted : (k : Fault) (st : Step (Rec Identifier)) → record_in (room_of c) (body_of p.depth m) s p.at ≡ st → (moved_by p st).0 ≡ refused (number k) q.rec
        → Walks s w₀ (Err (refusal k q.rec)) w
    unfolding one_record
    faulted k (got y next) f e = let z : ◌≡◌ {A = ℕ} 0 1 = cc in absurd (omega arith)
    faulted k (fault m) f e =
        let j : Basic.refusal m p.rec ≡ Basic.refusal (number k) q.rec = cc in
        let g : one_record v.seen s p.at ≡ fault m = rw (room-same v.counts, v.body) f in
        stopped (refusal k q.rec) (v.same ∙ pass-fault p.rec v.seen used named v.ends s p.at (4096 - p.rec) m h (omega arith) g ∙ ap (λ (z : Basic.Refusal). record { says = fails z; seen = v.seen; ends = v.ends; named = named }) j)

    -- in a body
    one-refused : (d : 1 ≤ p.depth) (n : Fault) → (body_record_at p m s).0 ≡ refused (number n) q.rec → Walks s w₀ (Err (refusal n q.rec)) w
    unfolding body_record_at
    one-refused d n e = faulted n (body_rec (inside_of (p.depth - 1) m) s p.at) (ap (λ b. record_in (room_of c) b s p.at) (inside p.depth m d)) e

    -- ### Outside a body

    module _ (d : p.depth < 1) where
      was_field : (f : Field) → field_record_at (room_of c) p s ≡ (ok (field (field_of s f)), q) → Was (room_of c) p m s (field (field_of s f)) q
      was_field f e = field_was (room_of c) p m s (field (field_of s f)) q l d e

      -- the record number is the measure
      pub less_field : (f : Field) → field_record_at (room_of c) p s ≡ (ok (field (field_of s f)), q) → 4097 - q.rec < 4097 - p.rec
      less_field f e = omega (arith, (was_field f e).next, l)

      -- a field begins a body with no block open, and there no mark counts
      after-field : (f : Field) → (q : Place) → Was (room_of c) p m s (field (field_of s f)) q → body_of q.depth m ≡ body_after (body_of p.depth m) (field (field_of s f))
      unfolding body_after
      after-field f q a = ap (λ d. body_of d m) a.deep ∙ field-body s f m

      pub again_field : (f : Field) (c' : Seen) → field_record_at (room_of c) p s ≡ (ok (field (field_of s f)), q) → c' ≡ field_seen c f → Going s w₀ q m c' ended used named w
      again_field f c' k g =
          let a = was_field f k in
          record {
            seen = seen_after v.seen (field (field_of s f));
            ends = v.ends;
            few = omega (arith, a.next);
            body = body_on _ q m (after-field f q a);
            counts = rw g (counts-field s v.seen c f v.counts);
            same = rw append-nil at (turned _ q a);
            area = v.area;
            number = v.number;
            fewer = omega (arith, a.next, v.fewer);
            long = v.long;
          }

      field-refused : (k : Fault) → field_record_at (room_of c) p s ≡ (refused (number k) q.rec, q) → Walks s w₀ (Err (refusal k q.rec)) w
      unfolding field_record_at
      field-refused k e =
          faulted k (record_in (room_of c) none s p.at) (ap (λ b. record_in (room_of c) b s p.at) (outside p.depth m d)) (ap (λ (x : Answer (Rec Identifier) × Place). x.0) e)

    -- ### In a body

    module _ (d : 1 ≤ p.depth) where
      -- a folded record with all its operands: the blocks and the marks stay
      in_body : v.seen.body ≡ some (record { blocks = marks_in (p.depth - 1) (bits_of m); due = [] })
      unfolding inside_of
      in_body = v.body ∙ inside p.depth m d

      turn_is : (f : Fold) → FoldedAs p m s q f → Turned s v.seen (marks_in (p.depth - 1) (bits_of m)) in_body used named v.ends (passed s) f
      turn_is f a =
          let x = folded-turn s v.seen (marks_in (p.depth - 1) (bits_of m)) in_body used named v.ends p a.first in
          let y = subst (Turned s v.seen (marks_in (p.depth - 1) (bits_of m)) in_body used named v.ends (pass (4096 - p.rec) p.rec v.seen used named v.ends s p.at)) a.is x in
          subst (λ z. Turned s v.seen (marks_in (p.depth - 1) (bits_of m)) in_body used named v.ends z f) (sym v.same) y

    module _ (d : 1 ≤ p.depth) (what : Inside) (e : turn_at p m s ≡ kept_here what q) where
      record WasInstr (u : Bool) (j : Shift) : Type 0 where
        it : Syntax.Instr Identifier
        uses : may_use it ≡ u
        shifts : shift_of it ≡ j
        was : Was (room_of c) p m s (instr it) q

      was_instr : (u : Bool) (j : Shift) → kept_here what q ≡ (ok (an_instr u j), q) → WasInstr u j
      was_instr u j k =
          let a = kept_of_lem (body_record_at p m s) (an_instr u j) q (single p m s q (an_instr u j) tt (e ∙ k)) in
          let b = on_instr u j a.rec a.keeps in
          record { it = b.it; uses = b.uses; shifts = b.shifts; was = body_was (room_of c) p m s (instr b.it) q l d (a.is ∙ ap (λ z. (ok z, q)) b.is) }

      was_end : what ≡ N.End → Was (room_of c) p m s body_end q
      was_end k =
          let a = kept_of_lem (body_record_at p m s) an_end q (single p m s q an_end tt (e ∙ ap (λ y. kept_here y q) k)) in
          body_was (room_of c) p m s body_end q l d (a.is ∙ ap (λ z. (ok z, q)) (on_end a.rec a.keeps))

      less : (u : Bool) (j : Shift) → kept_here what q ≡ (ok (an_instr u j), q) → 4097 - q.rec < 4097 - p.rec
      less u j k = omega (arith, (was_instr u j k).was.next, l)

      pub less_on : (u : Bool) → what ≡ N.On u → 4097 - q.rec < 4097 - p.rec
      less_on u k = less u stay (ap (λ y. kept_here y q) k)

      pub less_data : what ≡ N.Data → 4097 - q.rec < 4097 - p.rec
      less_data k = less false name_data (ap (λ y. kept_here y q) k)

      pub less_opens : (u may : Bool) → what ≡ N.Opens u may → 4097 - q.rec < 4097 - p.rec
      less_opens u may k = less u (open_one may) (ap (λ y. kept_here y q) k)

      pub less_elses : what ≡ N.Elses → 4097 - q.rec < 4097 - p.rec
      less_elses k = less false else_one (ap (λ y. kept_here y q) k)

      pub less_ends : what ≡ N.Ends → 4097 - q.rec < 4097 - p.rec
      less_ends k = less false end_one (ap (λ y. kept_here y q) k)

      pub less_end : what ≡ N.End → 4097 - q.rec < 4097 - p.rec
      less_end k = omega (arith, (was_end k).next, l)

      -- an instruction, with the marks after it
      again_instr : (u : Bool) (j : Shift) (m' : Marks) → kept_here what q ≡ (ok (an_instr u j), q) → Shifted j m m' → Going s w₀ q m' c ended (used || u) (named || naming j) w
      unfolding body_after
      again_instr u j m' k g =
          let a = was_instr u j k in
          let b = a.uses in
          let n = naming_of a.it ∙ ap naming a.shifts in
          let r = ap (λ b. record_in (room_of c) b s p.at) (sym (inside p.depth m d)) ∙ a.was.reads in
          let i : body_of q.depth m' ≡ body_after (body_of p.depth m) (instr a.it) =
          ap (λ z. body_of z m') a.was.deep ∙ body_shifts p.depth m m' a.it d (subst (λ z. Shifted z m m') (sym a.shifts) g) (read_fits (inside_of (p.depth - 1) m) s q.at a.it p.at r) in
          record {
            seen = seen_after v.seen (instr a.it);
            ends = v.ends;
            few = omega (arith, a.was.next);
            body = body_on _ q m' i;
            counts = counts-instr v.seen c a.it v.counts;
            same = rw (append-nil, b, n) at (turned _ q a.was);
            area = v.area;
            number = v.number;
            fewer = omega (arith, a.was.next, v.fewer);
            long = v.long;
          }

      -- no data segment was named
      unnamed : (u : Bool) (m' : Marks) → Going s w₀ q m' c ended u (named || false) w → Going s w₀ q m' c ended u named w
      unnamed u m' g = subst (λ z. Going s w₀ q m' c ended u z w) (sym (or_none named)) g

      -- the body may use a type by an instruction before, or not before this one
      first : (u : Bool) (m' : Marks) → used ≡ true → Going s w₀ q m' c ended (used || u) (named || false) w → Going s w₀ q m' c ended used named w
      first u m' t g = rw t (subst (λ z. Going s w₀ q m' c ended (z || u) named w) t (unnamed (used || u) m' g))

      second : (u : Bool) (m' : Marks) → used ≡ false → Going s w₀ q m' c ended (used || u) (named || false) w → Going s w₀ q m' c ended u named w
      second u m' t g = subst (λ z. Going s w₀ q m' c ended (z || u) named w) t (unnamed (used || u) m' g)

      -- the body uses no type by this one
      third : (b : Bool) (m' : Marks) → Going s w₀ q m' c ended (used || false) b w → Going s w₀ q m' c ended used b w
      third b m' g = subst (λ z. Going s w₀ q m' c ended z b w) (sym (or_none used)) g

      -- the marks stay
      pub on_first : (u : Bool) (m' : Marks) → what ≡ N.On u → m ≡ m' → used ≡ true → Going s w₀ q m' c ended used named w
      on_first u m' k g t = first u m' t (again_instr u stay m' (ap (λ y. kept_here y q) k) g)

      pub on_second : (u : Bool) (m' : Marks) → what ≡ N.On u → m ≡ m' → used ≡ false → Going s w₀ q m' c ended u named w
      on_second u m' k g t = second u m' t (again_instr u stay m' (ap (λ y. kept_here y q) k) g)

      pub again_data : (m' : Marks) → what ≡ N.Data → m ≡ m' → Going s w₀ q m' c ended used true w
      again_data m' k g = subst (λ z. Going s w₀ q m' c ended used z w) (sym (or_one named)) (third (named || true) m' (again_instr false name_data m' (ap (λ y. kept_here y q) k) g))

      pub opens-first : (u may : Bool) (m' : Marks) → what ≡ N.Opens u may → Opened m may m' → used ≡ true → Going s w₀ q m' c ended used named w
      opens-first u may m' k g t = first u m' t (again_instr u (open_one may) m' (ap (λ y. kept_here y q) k) g)

      pub opens-second : (u may : Bool) (m' : Marks) → what ≡ N.Opens u may → Opened m may m' → used ≡ false → Going s w₀ q m' c ended u named w
      opens-second u may m' k g t = second u m' t (again_instr u (open_one may) m' (ap (λ y. kept_here y q) k) g)

      pub again_elses : (m' : Marks) → what ≡ N.Elses → Elsed m m' → Going s w₀ q m' c ended used named w
      again_elses m' k g = third named m' (unnamed (used || false) m' (again_instr false else_one m' (ap (λ y. kept_here y q) k) g))

      pub again_ends : (m' : Marks) → what ≡ N.Ends → Ended m m' → Going s w₀ q m' c ended used named w
      again_ends m' k g = third named m' (unnamed (used || false) m' (again_instr false end_one m' (ap (λ y. kept_here y q) k) g))

      -- a body's end: its place fits a word, and two words are stored while there is room for them
      pub end_fits : what ≡ N.End → length s ≤ BYTES → q.at < 2 ^ 32
      end_fits k z =
          let a = was_end k in
          omega (arith, end_inside (inside_of (p.depth - 1) m) s p.at q.at (ap (λ b. record_in (room_of c) b s p.at) (sym (inside p.depth m d)) ∙ a.reads))

      pub end_few : what ≡ N.End → q.rec ≤ 4096
      end_few k = omega (arith, (was_end k).next, l)

      pub ended-fits : what ≡ N.End → Fits w32 (ended + 1)
      ended-fits k = record { fits = omega (arith, v.fewer, l) }

      pub again_end : (m' : Marks) (w' : List ℕ) → what ≡ N.End → w' ≡ end_put w ended q.at (end_word q.rec used) → Going s w₀ q m' c (ended + 1) false named w'
      unfolding end_put end_words body_after
      again_end m' w' k g =
          let a = was_end k in
          record {
            seen = seen_after {I = Identifier} v.seen body_end;
            ends = v.ends ++ (q.at ∷ second ∷ []);
            few = omega (arith, a.next);
            body = body_on body_end q m' (ap (λ n. body_of n m') a.deep);
            counts = counts_end v.seen c v.counts;
            same = turned body_end q a;
            area = g ∙ stored (dec_le 256 ended);
            number = length-append v.ends (q.at ∷ second ∷ []) ∙ omega (arith, v.number);
            fewer = omega (arith, a.next, v.fewer);
            long = ap length g ∙ kept (dec_le 256 ended);
          }
        where
          second : ℕ
          second = end_word q.rec used

          kept : Dec (256 ≤ ended) → length (end_put w ended q.at second) ≡ length w₀
          kept (yes k) = rw (le-ltb _ _ k) v.long
          kept (no k) = let n : ended < 256 = omega arith in rw (lt-ltb _ _ n, length-set, length-set) v.long

          stored : Dec (256 ≤ ended) → end_put w ended q.at second ≡ sets w₀ ENDS (end_words (v.ends ++ (q.at ∷ second ∷ [])))
          stored (yes k) =
              let n : 512 ≤ length v.ends = omega (arith, v.number) in
              rw (le-ltb _ _ k, take-append-le 512 v.ends (q.at ∷ second ∷ []) n) v.area
          stored (no k) =
              let n : ended < 256 = omega arith in
              let m : length (v.ends ++ (q.at ∷ second ∷ [])) ≤ 512 = omega (arith, v.number, length-append v.ends (q.at ∷ second ∷ [])) in
              let t : take 512 v.ends ≡ v.ends = take_all 512 v.ends (omega (arith, v.number)) in
              let i = v.number in
              let u : w ≡ sets w₀ ENDS v.ends = v.area ∙ rw t in
              let z : end_at ended + 1 ≡ suc (end_at ended) = omega arith in
              rw (lt-ltb _ _ n, take_all 512 (v.ends ++ (q.at ∷ second ∷ [])) m, sets-append w₀ ENDS v.ends (q.at ∷ second ∷ []), i, u, z)

      was_folded : (i j : Bool) → what ≡ N.Folded i j → FoldedAs p m s q (L.passed (record { uses = i; names = j }) q)
      was_folded i j k = folded_as p m s q (record { uses = i; names = j }) h (e ∙ ap (λ y. kept_here y q) k)

      moves : (i j : Bool) → what ≡ N.Folded i j → Moved p q × (p.rec < q.rec)
      moves i j k = subst (PassedBy p) (was_folded i j k).is (folded_passes 32 s none_do p)

      pub less_folded : (i j : Bool) → what ≡ N.Folded i j → 4097 - q.rec < 4097 - p.rec
      less_folded i j k = let a = moves i j k in omega (arith, a.1, a.0.most)

      pub again_folded : (i j : Bool) (m' : Marks) (u n : Bool) → what ≡ N.Folded i j → m ≡ m' → u ≡ (used || i) → n ≡ (named || j) → Going s w₀ q m' c ended u n w
      again_folded i j m' u n k g a b =
          let y = moves i j k in
          let z = y.0.deep in
          record {
            seen = v.seen;
            ends = v.ends;
            few = y.0.most;
            body = v.body ∙ rw (g, ← z);
            counts = v.counts;
            same = rw (← a, ← b) at (turn_is d (L.passed (record { uses = i; names = j }) q) (was_folded i j k));
            area = v.area;
            number = v.number;
            fewer = omega (arith, y.1, v.fewer);
            long = v.long;
          }

    -- a record that is refused, or one of a folded one's
    module _ (d : 1 ≤ p.depth) where
      instr-refused : (k : Fault) → turn_at p m s ≡ (refused (number k) q.rec, q) → Walks s w₀ (Err (refusal k q.rec)) w
      instr-refused k e = refused_as p m s q (number k) e by_fold by_one
        where
          by_fold : FoldedAs p m s q (L.stopped (number k) q) → Walks s w₀ (Err (refusal k q.rec)) w
          by_fold a = let x = turn_is d (L.stopped (number k) q) a in stopped_by (refusal k q.rec) x.says x.same

          not_kept : (y : Answer (Rec Identifier)) → kept_answer y ≡ refused (number k) q.rec → y ≡ refused (number k) q.rec
          not_kept (ok x) e = let z : ◌≡◌ {A = ℕ} 0 1 = cc in absurd (omega arith)
          not_kept (fails z) e = cc

          by_one : kept_at (body_record_at p m s) ≡ (refused (number k) q.rec, q) → Walks s w₀ (Err (refusal k q.rec)) w
          by_one a = one-refused d k (not_kept (body_record_at p m s).0 (ap (λ (x : Answer Kept × Place). x.0) a))

  -- the refusal is handed on
  refused-by : (a : FaultAt Fault) (b : Refusal) (r : Resolved ℕ) → b ≡ refusal a.fault a.place.rec → IsErr r → IsErrAnd r (λ z. z ≡ b) → Walks s w₀ (Err (refusal a.fault a.place.rec)) w
      → Walks s w₀ r w
  refused-by a b r e i g x = rw (handed r b i g, e) x

  module _ (l : p.rec < 4096) (a : FaultAt Fault) (b : Refusal) (r : Resolved ℕ) (e : b ≡ refusal a.fault a.place.rec) (i : IsErr r) (g : IsErrAnd r (λ z. z ≡ b)) where
    pub refused-field : p.depth < 1 → field_record_at (room_of c) p s ≡ fault_at a → Walks s w₀ r w
    refused-field d x = refused-by a b r e i g (field-refused l a.place d a.fault x)

    pub refused-instr : 1 ≤ p.depth → turn_at p m s ≡ fault_at a → Walks s w₀ r w
    refused-instr d x = refused-by a b r e i g (instr-refused l a.place d a.fault x)

-- ## The stream's end

module _ (s : Bytes) (w₀ : List ℕ) (p : Place) (m : Marks) (c : Seen) (ended : ℕ) (used named : Bool) (w : List ℕ) (v : Going s w₀ p m c ended used named w) (h : length s ≤ p.at) where
  at_end_lem : passed s ≡ record { says = total p.rec (at_end p.rec (body_of p.depth no_marks)); seen = v.seen; ends = v.ends; named = named }
  at_end_lem = let b = v.body in v.same ∙ pass_end p.rec v.seen used named v.ends s p.at (4096 - p.rec) h ∙ rw (b, end_any p.rec p.depth m no_marks)

  pub walk_ends : (r : Resolved ℕ) (w' : List ℕ) → Ends p c.counts named w r w' → Walks s w₀ r w'
  unfolding area_after
  walk_ends r w' e =
      let a = v.area in
      let n = e.says in
      record {
        says = sym (passed-says s) ∙ ap (λ (x : Passed). x.says) at_end_lem ∙ n;
        leaves = e.leaves ∙ rw (at_end_lem, n, counts_words v.counts, a);
      }

module _ (p : Place) (counts : List ℕ) (named : Bool) (w : List ℕ) where
  -- in a body it is refused
  pub end_in-body : (q : Refusal) → 0 < p.depth → q ≡ refusal Faults.Ended p.rec → Ends p counts named w (Err q) w
  end_in-body q d e = rw e (record { says = rw (inside p.depth no_marks d); leaves = refl })

  -- outside one the counts are left, and whether a data segment was named
  pub end_accepted : (w₁ w' : List ℕ) → p.depth ≤ 0 → w₁ ≡ sets w COUNTS counts → w' ≡ flag_put DATA_NAMED w₁ named → Ends p counts named w (Ok p.rec) w'
  end_accepted w₁ w' d e f = let n : p.rec + 0 ≡ p.rec = omega arith in record { says = rw (outside p.depth no_marks (omega arith), n); leaves = rw e at f }

-- what a refusal is
pub walk_refused : (s : Bytes) (w₀ w : List ℕ) (k : Fault) (p : Place) (q : Refusal) → q ≡ refusal k p.rec → Walks s w₀ (Err (refusal k p.rec)) w → Walks s w₀ (Err q) w
walk_refused s w₀ w k p q e h = rw e h

-- ## The second word of a body's end

pub second_word : (w : List ℕ) (n a : ℕ) → WORDS ≤ length w → n < 256 → end_at n + 1 < length (set w (end_at n) a)
second_word w n a h l = rw (length-set w (end_at n) a) (omega arith)

pub ends-put : (w : List ℕ) (n a r x : ℕ) (u : Bool) → n < 256 → x ≡ end_word r u → set (set w (end_at n) a) (end_at n + 1) x ≡ end_put w n a (end_word r u)
unfolding end_put
ends-put w n a r x u l e = rw (lt-ltb _ _ l, e)

-- ## The two lengths before it

pub too_long : (s : Bytes) (w : List ℕ) (q : Refusal) → BYTES < length s → q ≡ refusal Faults.TooLong 0 → Reads s w (Err q) w
unfolding reading reading_area
too_long s w q h e = record { says = rw (lt-ltb _ _ h, e); leaves = rw (lt-ltb _ _ h) }

pub too_short : (s : Bytes) (w : List ℕ) (q : Refusal) → length s ≤ BYTES → length w < WORDS → q ≡ refusal Faults.WorkTooShort 0 → Reads s w (Err q) w
unfolding reading reading_area
too_short s w q h l e = record { says = rw (le-ltb _ _ h, lt-ltb _ _ l, e); leaves = rw (le-ltb _ _ h, lt-ltb _ _ l) }

pub walked : (s : Bytes) (w : List ℕ) (r : Resolved ℕ) (w' : List ℕ) → length s ≤ BYTES → WORDS ≤ length w → Walks s w r w' → Reads s w r w'
unfolding reading reading_area
walked s w r w' h l v = record { says = rw (le-ltb _ _ h, le-ltb _ _ l) v.says; leaves = rw (le-ltb _ _ h, le-ltb _ _ l) v.leaves }
