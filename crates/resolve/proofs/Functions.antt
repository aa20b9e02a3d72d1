-- An own function: its type's number is kept, and then its code.
use Rattle.std.specs.Prelude.{Option, Ok, Err, Some, None, IsErrAnd}
use Rattle.std.specs.Result.{IsErr}
use Rattle.syntax.specs.Refusals.{Resolved, refused_by}
use Rattle.syntax.proofs.Ways.{handed}
use Prim.Native.Nat.{ℕ, ◌+◌, ◌-◌, ◌*◌, ◌^◌, ◌<◌}
use mathlib.Core.Path.{◌≡◌, refl, sym, ◌∙◌, ap}
use mathlib.Core.List.{List, [], ◌∷◌, ◌++◌, append-nil}
use lib.ListN.{length, get_or, take, drop}
use borrow.Rule.Slice.PartMut.{put_mid}
use native.Mathlib.Omega.{arith}
use Rattle.definition.specs.Basic.{Answer, ok, ◌>>=◌, concat_map}
use Rattle.definition.specs.Syntax as Syntax
use Rattle.definition.specs.Syntax.{Bytes}
use Rattle.definition.specs.Types as Types
use Rattle.definition.specs.Names.{type_no, own_item, resolve}
use Rattle.definition.specs.Binary.{u, joined}
use Rattle.syntax.specs.declared.Refusal.{Refusal}
use Rattle.area.specs.Layout.{LOCALS}
use Rattle.syntax.specs.TypeUses.{use_of}
use Rattle.syntax.specs.declared.List as Code
use Rattle.syntax.specs.declared.TypeUse.{TypeUse}
use Rattle.emit.specs.Put.{Put}
use Rattle.emit.proofs.Laws.{put_is}
use Rattle.area.proofs.Kept.{kept_same}
use Rattle.syntax.specs.Resolved.{type_no_of}
use Rattle.binary.specs.Emits.{Emits, Wrote}
use Rattle.syntax.specs.declared.TypeNo.{TypeNo}
use Rattle.type_table.specs.Table.{types_in, Recalled}
use Rattle.scope.specs.Scope.{scope_in}
use Rattle.syntax.specs.declared.Seen.{Seen}
use Rattle.syntax.specs.declared.Own.{Own}
use Rattle.syntax.specs.declared.Own.TheVariants as O
use Rattle.syntax.specs.declared.Source.{Source}
use Rattle.syntax.specs.declared.Source.TheVariants as S
use Rattle.frames.specs.Locals.{Head}
use Rattle.instr.specs.Bodies.{body_from}
use Rattle.code.specs.Body.{Resolvable}
use Rattle.binary.specs.Code.{code_of}
use Rattle.instr.specs.Functions.{func_field}
use Rattle.function.specs.Function.{typed_answer, EmitsTyped}
use Rattle.deinline.specs.Entry.{one_of, type_bytes, uses_of, tagged, both, answer_of, entry_in, second_of, third_of}
use Rattle.syntax.specs.declared.Entry.{Entry}
use Rattle.syntax.specs.declared.Entry.TheVariants as E
use Rattle.kept.specs.Sections.{SECTIONS}
use Rattle.kept.specs.Parts.{start_of, part_in}
use Rattle.kept.specs.Tally.{reached, tallied, Slots, Tallied, Ready, ChecksIn}
use Rattle.resolve.specs.Func.{func_in, type_entry, code_entry, KeepsCode}
use Rattle.kept.specs.declared.tally.Tally.{Tally}
use Rattle.kept.proofs.Keeping.{lent-here, lent-there, lent-long, reached-is, keeps-lent}
use Rattle.kept.proofs.Emitting.{code_body}
use Rattle.resolve.proofs.Checking.{tallied_one, checks_fine, checks_not, refused-one, refused-first, then_by}

-- ## A part that is lent

-- one entry was put into it
tallied_lent : (t t' : Tally) (k a b to : ℕ) (x old new : Bytes) → k < SECTIONS → Slots t → length old * 1 < 2 ^ 63 → a ≡ start_of (length old) k → b ≡ start_of (length old) (k + 1)
    → Put (take (b - a) (drop a old)) (get_or t.sizes k 0) x to new → t' ≡ reached t k to 1 → Tallied (tagged k (ok (x ∷ []))) t old t' (put_mid a (b - a) old new)
unfolding tagged joined concat_map
tallied_lent t t' k a b to x old new h w f d e p z =
    let q : Put (take (b - a) (drop a old)) (get_or t.sizes k 0) (x ++ []) to new = put_is p (sym (append-nil x)) in
    record {
      entries = (k, x) ∷ [];
      is = refl;
      tally = z ∙ reached-is t k to 1 (x ∷ []) h w q.place refl;
      keeps = keeps-lent old new t k a b to (x ∷ []) h w f d e q;
    }

-- ## The number of the type

pub number-kept : (n : TypeNo) (t t' : Tally) (from a b to : ℕ) (old new : Bytes) → Slots t → length old * 1 < 2 ^ 63 → from ≡ get_or t.sizes 3 0
    → a ≡ start_of (length old) 3 → b ≡ start_of (length old) 4 → Put (take (b - a) (drop a old)) from (u (type_no_of n).type_no) to new → t' ≡ reached t 3 to 1
    → Tallied (type_entry (type_no_of n)) t old t' (put_mid a (b - a) old new)
unfolding type_entry one_of type_bytes
number-kept n t t' from a b to old new w f i d e p z = tallied_lent t t' 3 a b to (u (type_no_of n).type_no) old new (omega arith) w f d e (rw i at p) z

-- ## The code

module _ (s w : List ℕ) (r : ℕ) (t : TypeUse) (ls : Code.List) (here : ℕ) (h : Ready s w r (E.Code t ls here)) where
  pub own_body : Resolvable s w (body_from 0 (r + 1) s here)
  own_body = code_body s w r (E.Code t ls here) h t ls here refl

  pub own-head : Head s t ls
  own-head = h.head

-- it was emitted into the part that was lent
pub code-kept : (s w : List ℕ) (r : ℕ) (n : Syntax.TypeNo) (t : TypeUse) (ls : Code.List) (here : ℕ) (old : Bytes) (a b from : ℕ) (q : Resolved ℕ) (w' new : List ℕ)
    → EmitsTyped s w r n t ls here (take (b - a) (drop a old)) from q w' new → a ≡ start_of (length old) 10 → b ≡ start_of (length old) 11 → length new ≡ length (take (b - a) (drop a old))
    → KeepsCode s w r n t ls here old from q w' (put_mid a (b - a) old new)
unfolding part_in
code-kept s w r n t ls here old a b from q w' new h d e l =
    record {
      part = rw (lent-here old new 10 a b (omega arith) d e l, sym d, sym e) h;
      there = lent-there old new 10 a b (omega arith) d e l;
      long = lent-long old new 10 a b (omega arith) d e l;
    }

-- it is one entry more
code_tallied : (a : Answer Syntax.Item) (x : Tally) (old new : Bytes) (from to : ℕ) → Wrote code_of a (part_in old 10) from to (part_in new 10) → Slots x → length old * 1 < 2 ^ 63 → from ≡ get_or x.sizes 10 0
    → ((k : ℕ) → k < SECTIONS → (k ≡ 10 → ⊥) → part_in new k ≡ part_in old k) → length new ≡ length old → Tallied (tagged 10 (one_of code_of a)) x old (reached x 10 to 1) new
unfolding one_of joined concat_map
code_tallied a x old new from to v y f i o l =
    let p : Put (part_in old 10) from (code_of v.value ++ []) to (part_in new 10) = put_is v.put (sym (append-nil (code_of v.value))) in
    tallied_one x 10 to 1 (one_of code_of a) (code_of v.value ∷ []) old new (omega arith) y f (ap (one_of code_of) v.is) (rw i at p) refl o l

module _ (s w : List ℕ) (r : ℕ) (n : Syntax.TypeNo) (t : TypeUse) (ls : Code.List) (here : ℕ) (old : Bytes) (from : ℕ) (w' new : List ℕ) (x : Tally) where
  pub code-fine : (to : ℕ) (x' : Tally) → KeepsCode s w r n t ls here old from (Ok to) w' new → Slots x → length old * 1 < 2 ^ 63 → from ≡ get_or x.sizes 10 0 → x' ≡ reached x 10 to 1
      → ChecksIn (code_entry s w r n t ls here) x w old (Ok x') w' new
  unfolding Emits code_entry
  code-fine to x' h y f i z =
      rw z (checks_fine _ x w w' old new _ (code_tallied (typed_answer s w r n t ls here) x old new from to h.part.emits y f i h.there h.long) h.part.area)

  pub code_not : (q : Resolved (Unit {0})) (z : Refusal) (x' : Tally) → KeepsCode s w r n t ls here old from (Err z) w' new → IsErr q → IsErrAnd q (λ e. e ≡ z)
      → ChecksIn (code_entry s w r n t ls here) x w old (tallied q x') w' new
  unfolding Emits code_entry one_of
  code_not q z x' h i j =
      let g : typed_answer s w r n t ls here ≡ refused_by z = h.part.emits in
      rw (handed q z i j) (checks_not _ x w w' old new z (refused-one 10 z (one_of code_of (typed_answer s w r n t ls here)) (rw g refl)) h.part.area h.long)

-- ## Both

pub func_use : (s w : List ℕ) (r : ℕ) (t : TypeUse) → Ready s w r (E.Func t) → Recalled w (types_in s w) (Types.used_at r (Types.use_of (use_of s t)))
unfolding uses_of
func_use s w r t h = h.recalled

module _ (s w : List ℕ) (r : ℕ) (t : TypeUse) where
  -- the type has a number: the two entries by it
  type-is : (n : TypeNo) → type_no (scope_in s w) r (use_of s t) ≡ ok (type_no_of n) → entry_in (scope_in s w) s r (E.Func t) ≡ type_entry (type_no_of n)
  unfolding entry_in answer_of type_entry
  type-is n d = rw d refl

  code_is : (n : TypeNo) (ls : Code.List) (here : ℕ) → type_no (scope_in s w) r (use_of s t) ≡ ok (type_no_of n) → entry_in (scope_in s w) s r (E.Code t ls here) ≡ code_entry s w r (type_no_of n) t ls here
  unfolding entry_in answer_of code_entry resolve own_item func_field typed_answer ◌>>=◌ scope_in
  code_is n ls here d = rw d refl

  pub func-both : (n : TypeNo) (ls : Code.List) (here : ℕ) (x x₁ : Tally) (old mid : Bytes) (z : Resolved Tally) (w₂ : List ℕ) (new : Bytes) → type_no (scope_in s w) r (use_of s t) ≡ ok (type_no_of n)
      → Tallied (type_entry (type_no_of n)) x old x₁ mid → ChecksIn (code_entry s w r (type_no_of n) t ls here) x₁ w mid z w₂ new
      → ChecksIn (both (entry_in (scope_in s w) s r (E.Func t)) (entry_in (scope_in s w) s r (E.Code t ls here))) x w old z w₂ new
  func-both n ls here x x₁ old mid z w₂ new d y h =
      rw (type-is n d, code_is n ls here d)
      (then_by (type_entry (type_no_of n)) (code_entry s w r (type_no_of n) t ls here) x w old w mid x₁ z w₂ new (checks_fine _ x w w old mid x₁ y (kept_same LOCALS w)) h)

  -- it has none
  no_type : (z : Refusal) → type_no (scope_in s w) r (use_of s t) ≡ refused_by z → entry_in (scope_in s w) s r (E.Func t) ≡ refused_by z
  unfolding entry_in answer_of one_of tagged
  no_type z d = rw d refl

  pub func_not : (q : Resolved (Unit {0})) (z : Refusal) (b : Entry) (x x' : Tally) (old : Bytes) → type_no (scope_in s w) r (use_of s t) ≡ refused_by z → IsErr q → IsErrAnd q (λ e. e ≡ z)
      → ChecksIn (both (entry_in (scope_in s w) s r (E.Func t)) (entry_in (scope_in s w) s r b)) x w old (tallied q x') w old
  func_not q z b x x' old d i j = rw (handed q z i j) (checks_not _ x w w old old z (refused-first _ _ z (no_type z d)) refl refl)

-- ## Which items are functions

func-is : (x : Source) (t : TypeUse) (ls : Code.List) → func_in x ≡ Some (t, ls) → x ≡ S.Own (O.Func t ls)
func-is (S.Own (O.Func a b)) t ls d = let p : ◌≡◌ {A = TypeUse × Code.List} (a, b) (t, ls) = cc in ap (λ (z : TypeUse × Code.List). S.Own (O.Func z.0 z.1)) p
func-is (S.Own (O.Table u)) t ls d = let z : ◌≡◌ {A = ℕ} 0 1 = cc in absurd (omega arith)
func-is (S.Own (O.Mem l)) t ls d = let z : ◌≡◌ {A = ℕ} 0 1 = cc in absurd (omega arith)
func-is (S.Own (O.Global u c)) t ls d = let z : ◌≡◌ {A = ℕ} 0 1 = cc in absurd (omega arith)
func-is (S.Imported n e) t ls d = let z : ◌≡◌ {A = ℕ} 0 1 = cc in absurd (omega arith)
func-is (S.TableOf w xs) t ls d = let z : ◌≡◌ {A = ℕ} 0 1 = cc in absurd (omega arith)
func-is (S.MemOf w b) t ls d = let z : ◌≡◌ {A = ℕ} 0 1 = cc in absurd (omega arith)

-- ## An item's entries beside its exports

module _ (x : Source) (seen : Seen) (here : ℕ) (t : TypeUse) (ls : Code.List) (d : Some (t, ls) ≡ func_in x) where
  second_is : second_of x seen ≡ E.Func t
  unfolding second_of
  second_is = rw (func-is x t ls (sym d)) refl

  third-is : third_of x here ≡ E.Code t ls here
  unfolding third_of
  third-is = rw (func-is x t ls (sym d)) refl

  module _ (s w : List ℕ) (r : ℕ) where
    pub func-second : Ready s w r (second_of x seen) → Ready s w r (E.Func t)
    func-second h = rw second_is at h

    pub func-third : Ready s w r (third_of x here) → Ready s w r (E.Code t ls here)
    func-third h = rw third-is at h

    -- a function
    pub item-func : (y : Tally) (old : Bytes) (z : Resolved Tally) (w' : List ℕ) (new : Bytes)
        → ChecksIn (both (entry_in (scope_in s w) s r (E.Func t)) (entry_in (scope_in s w) s r (E.Code t ls here))) y w old z w' new
        → ChecksIn (both (entry_in (scope_in s w) s r (second_of x seen)) (entry_in (scope_in s w) s r (third_of x here))) y w old z w' new
    item-func y old z w' new h = rw (second_is, third-is) h

-- no other item is a function
pub own-other : (x : Source) (o : Own) → x ≡ S.Own o → ((t : TypeUse) (ls : Code.List) → o ≡ O.Func t ls → ⊥) → None ≡ func_in x
own-other x o d h = rw d (go o h)
  where
    go : (o : Own) → ((t : TypeUse) (ls : Code.List) → o ≡ O.Func t ls → ⊥) → None ≡ func_in (S.Own o)
    go (O.Func t ls) h = absurd (h t ls refl)
    go (O.Table t) h = refl
    go (O.Mem l) h = refl
    go (O.Global t c) h = refl

pub source-other : (x : Source) → ((o : Own) → x ≡ S.Own o → ⊥) → None ≡ func_in x
source-other (S.Own o) h = absurd (h o refl)
source-other (S.Imported n e) h = refl
source-other (S.TableOf w xs) h = refl
source-other (S.MemOf w b) h = refl
