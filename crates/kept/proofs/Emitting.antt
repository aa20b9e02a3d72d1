-- An entry of any kind is emitted.
use Rattle.std.specs.Prelude.{Ok, Err}
use Rattle.syntax.specs.Refusals.{Resolved}
use Prim.Native.Nat.{ℕ, ◌+◌, ◌-◌, ◌≤◌, ◌<◌}
use mathlib.Core.Path.{◌≡◌, refl, sym}
use mathlib.Core.List.{List, [], ◌∷◌, ◌++◌, append-nil}
use lib.ListN.{length, take, drop}
use mir.Syntax.{w8}
use mir.Val.{Fits}
use borrow.Rule.Slice.PartMut.{put_mid}
use native.Mathlib.Omega.{arith}
use Rattle.definition.specs.Basic.{concat_map}
use Rattle.definition.specs.Types as Types
use Rattle.definition.specs.Binary.{joined}
use Rattle.area.specs.Layout.{LOCALS}
use Rattle.syntax.specs.TypeUses.{use_of}
use Rattle.syntax.specs.declared.List as Code
use Rattle.syntax.specs.declared.TypeUse.{TypeUse}
use Rattle.emit.proofs.Laws.{put_is}
use Rattle.area.proofs.Kept.{kept_same}
use Rattle.type_table.specs.Table.{types_in, Recalled}
use Rattle.instr.specs.Bodies.{body_from}
use Rattle.binary.specs.Emits.{Emits}
use Rattle.scope.specs.Scope.{scope_in}
use Rattle.scope.proofs.Frames.{recalled-left, recalled_right}
use Rattle.frames.specs.Locals.{Head}
use Rattle.code.specs.Body.{Resolvable}
use Rattle.binary.specs.Code.{code_of}
use Rattle.function.specs.Function.{EmitsFunc}
use Rattle.deinline.specs.Entry.{one_of, section_no, answer_of, uses_of}
use Rattle.import_export.specs.declared.export.Ends.{Ends}
use Rattle.entries.specs.Listed.{Answers, NotCode, one_end}
use Rattle.syntax.specs.declared.Entry.{Entry}
use Rattle.syntax.specs.declared.Entry.TheVariants as E
use Rattle.kept.specs.Sections.{SECTIONS}
use Rattle.kept.specs.Parts.{start_of, part_in}
use Rattle.kept.specs.Tally.{Ready}
use Rattle.kept.specs.Emit.{AreaOf, EmitsEntry, EmitsKept}
use Rattle.kept.proofs.Keeping.{start_up, start-within, lent-here, lent-there, lent-long}

-- ## What a function's code needs

module _ (s w : List ℕ) (r : ℕ) (e : Entry) (h : Ready s w r e) (t : TypeUse) (ls : Code.List) (here : ℕ) (code : e ≡ E.Code t ls here) where
  uses : Recalled w (types_in s w) (Types.used_at r (Types.use_of (use_of s t)) ++ Types.body_uses (body_from 0 (r + 1) s here).body)
  unfolding uses_of
  uses = (let u = h.recalled in rw code at u)

  pub code_use : Recalled w (types_in s w) (Types.used_at r (Types.use_of (use_of s t)))
  code_use = recalled-left w (types_in s w) (Types.used_at r (Types.use_of (use_of s t))) _ uses

  pub code_body : Resolvable s w (body_from 0 (r + 1) s here)
  code_body = record { recalled = recalled_right w (types_in s w) (Types.used_at r (Types.use_of (use_of s t))) _ uses; whole = (let u = h.whole in rw code at u) }

  pub code-head : Head s t ls
  code-head = (let u = h.head in rw code at u)

  pub code-emits : (old : List ℕ) (at : ℕ) (q : Resolved ℕ) (z : Resolved Ends) (w' new : List ℕ) → EmitsFunc s w r t ls here old at q w' new → z ≡ one_end q → EmitsEntry s w r e old at z w' new
  unfolding Answers answer_of one_of Emits joined concat_map
  code-emits old at (Ok o) z w' new y g =
      let v = y.emits in
      let a = v.is in
      rw g (record { answers = rw code (record { entries = code_of v.value ∷ []; is = rw a refl; put = put_is v.put (sym (append-nil (code_of v.value))); number = refl }); area = y.area })
  code-emits old at (Err k) z w' new y g = let a = y.emits in rw g (record { answers = rw (code, a) refl; area = y.area })

-- ## Any other entry

module _ (s w : List ℕ) (r : ℕ) (e : Entry) where
  pub other-emits : (old : List ℕ) (at : ℕ) (z : Resolved Ends) (new : List ℕ) → Answers (answer_of (scope_in s w) s r e) old at z new → EmitsEntry s w r e old at z w new
  other-emits old at z new h = record { answers = h; area = go z }
    where
      go : (z : Resolved Ends) → AreaOf z w w
      go (Ok x) = kept_same LOCALS w
      go (Err q) = refl

pub ready-uses : (s w : List ℕ) (r : ℕ) (e : Entry) → Ready s w r e → Recalled w (types_in s w) (uses_of s r e)
ready-uses s w r e h = h.recalled

-- every entry but one is no code
pub not_code : (e : Entry) → ((t : TypeUse) (ls : Code.List) (here : ℕ) → e ≡ E.Code t ls here → ⊥) → NotCode e
not_code E.Nothing h = record { other = λ z. omega (arith, z) }
not_code (E.Import n x) h = record { other = λ z. omega (arith, z) }
not_code (E.Func t) h = record { other = λ z. omega (arith, z) }
not_code (E.Table t) h = record { other = λ z. omega (arith, z) }
not_code (E.InlineTable w xs) h = record { other = λ z. omega (arith, z) }
not_code (E.Mem l) h = record { other = λ z. omega (arith, z) }
not_code (E.InlineMem w d) h = record { other = λ z. omega (arith, z) }
not_code (E.Global t c) h = record { other = λ z. omega (arith, z) }
not_code (E.Export n k x) h = record { other = λ z. omega (arith, z) }
not_code (E.Exports es k n) h = record { other = λ z. omega (arith, z) }
not_code (E.Start x) h = record { other = λ z. omega (arith, z) }
not_code (E.Elem m xs) h = record { other = λ z. omega (arith, z) }
not_code (E.InlineElem w n xs) h = record { other = λ z. omega (arith, z) }
not_code (E.Code t ls here) h = absurd (h t ls here refl)
not_code (E.Data m d) h = record { other = λ z. omega (arith, z) }
not_code (E.InlineData w n d) h = record { other = λ z. omega (arith, z) }

-- ## An entry's part of the kept bytes

section_small : (e : Entry) → section_no e < SECTIONS
section_small E.Nothing = omega arith
section_small (E.Import n x) = omega arith
section_small (E.Func t) = omega arith
section_small (E.Table t) = omega arith
section_small (E.InlineTable w xs) = omega arith
section_small (E.Mem l) = omega arith
section_small (E.InlineMem w d) = omega arith
section_small (E.Global t c) = omega arith
section_small (E.Export n k x) = omega arith
section_small (E.Exports es k n) = omega arith
section_small (E.Start x) = omega arith
section_small (E.Elem m xs) = omega arith
section_small (E.InlineElem w n xs) = omega arith
section_small (E.Code t ls here) = omega arith
section_small (E.Data m d) = omega arith
section_small (E.InlineData w n d) = omega arith

pub section-below : (e : Entry) (k : ℕ) → k ≡ section_no e → k < SECTIONS
section-below e k d = rw d (section_small e)

pub section-next : (e : Entry) (k : ℕ) → k ≡ section_no e → Fits w8 (k + 1)
section-next e k d = let z = section-below e k d in record { fits = omega arith }

module _ (e : Entry) (k a b : ℕ) (old : List ℕ) (d : k ≡ section_no e) (from : a ≡ start_of (length old) k) (to : b ≡ start_of (length old) (k + 1)) where
  pub part-begins : a ≤ b
  part-begins = rw (from, to) (start_up (length old) k (section-below e k d))

  pub part-ends : b ≤ length old
  part-ends = rw to (start-within (length old) (k + 1))

  -- it was emitted into the part that was lent
  pub part-emits : (s w : List ℕ) (r at : ℕ) (q : Resolved Ends) (w' new : List ℕ) → EmitsEntry s w r e (take (b - a) (drop a old)) at q w' new → length new ≡ length (take (b - a) (drop a old))
      → EmitsKept s w r e old at q w' (put_mid a (b - a) old new)
  unfolding part_in
  part-emits s w r at q w' new x l =
      let h = section-below e k d in
      record {
        here = rw (sym d, lent-here old new k a b h from to l, sym from, sym to) x;
        there = rw (sym d) (lent-there old new k a b h from to l);
        long = lent-long old new k a b h from to l;
      }
