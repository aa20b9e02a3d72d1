-- In a strict scope every index of a type use, an instruction or a body is in range.
use Rattle.std.specs.Prelude.{if◌then◌else◌}
use mathlib.Core.Path.{◌≡◌, refl, ap, ◌∙◌, sym}
use Prim.Native.Nat.{ℕ, zero, suc, ◌+◌, ◌-◌, ◌≤◌, ◌<◌}
use mathlib.Core.Bool.{Bool, true, false, ◌&&◌, not, false≢true}
use mathlib.Core.List.{List, [], ◌∷◌, map, tail}
use mathlib.Core.Option.{Option, none, some}
use lib.Dec.{ltb}
use lib.ListN.{length, replicate, length-map, length-replicate}
use borrow.Author.Tests.{ltb-true}
use native.Mathlib.Omega.{arith}
use Rattle.definition.specs.Basic.{ok, refused, ◌>>=◌, each, first_at, at, between}
use Rattle.definition.specs.Syntax.{Space, tables, mems, types, FuncType, ValType}
use Rattle.definition.specs.Syntax.{Index, absent, number, named, own_index, TypeUse}
use Rattle.definition.specs.Syntax.{Operand, nothing, label, labels, local, item, items, access, int32, int64, raw, Plain, Instr, opens, elses, ends, indirect, plain}
use Rattle.definition.specs.Syntax.{Body, LocalNo, TypeNo, Depth, typed, Op}
use Rattle.definition.specs.Syntax.{no_imm, label_imm, labels_imm, local_imm, item_imm, items_imm, access_imm, int32_imm, int64_imm, raw_imm}
use Rattle.definition.specs.Syntax.{Item}
use Rattle.definition.specs.Instructions.{Operands, operands, opcodes, form_in, form_of}
use Rattle.definition.specs.Types.{signature, same_type, type_number, is_inline, is_short, unless_indexed, use_of, instr_uses, Uses, used_at, body_uses}
use Rattle.definition.specs.Names.{Namespace, Scope, carries, find, found_at, below, number_in, is_absent, agrees, short_type, param_count, param_names, blocks_after, count_in, item_no, checked, type_no_of, type_no, block_type}
use Rattle.definition.specs.Names.{local_no, depth_of, immediate, plain_op, instr_op, body}
use Rattle.in_range.specs.InRange.{Every, open_blocks, Below, EachBelow, TypeInRange, BlockInRange, ImmInRange, OpInRange, BodyInRange}
use Rattle.laws.proofs.Equal.{and_true, same-eq}
use Rattle.laws.proofs.Interning.{first_passes, Interned}
use Rattle.in_range.proofs.Gives.{every_left, every_right, Holds, held, held_not, held_by, held_then, held-each}
use Rattle.in_range.proofs.Sorts.{Told, OwnBelow, told_below, UseTold, Suits, Sorted, InstrSorted, BodySorted}
use Rattle.in_range.proofs.Counts.{Counted}

-- ## Numbers

-- what stands at a place is within the list
at-within : {A : Type 0} (xs : List A) (n : ℕ) (x : A) → at xs n ≡ some x → n < length xs
unfolding at
at-within [] n x e = let z : ◌≡◌ {A = ℕ} 0 1 = cc in absurd (omega arith)
at-within (y ∷ xs) zero x e = omega arith
at-within (y ∷ xs) (suc n) x e = let h = at-within xs n x e in omega arith

-- a number that a strict call lets pass
below-held : (limit r n : ℕ) → Holds (λ m. m < limit) (below true limit r n)
unfolding below
below-held limit r n = go (ltb n limit) refl
  where
    go : (t : Bool) → ltb n limit ≡ t → Holds (λ m. m < limit) (if not t then refused 20 r else ok n)
    go true e = held n (ltb-true n limit e)
    go false e = held_not 20 r

number-held : {I : Type 0} (eq : I → I → Bool) (ns : Namespace I) (limit r : ℕ) → length ns ≤ limit → (x : Index I) → OwnBelow limit x
    → Holds (λ n. n < limit) (number_in true eq ns limit r x)
unfolding number_in find
number-held eq ns limit r h absent o = below-held limit r 0
number-held eq ns limit r h (number n) o = below-held limit r n
number-held eq ns limit r h (own_index n) o = held n o
number-held eq ns limit r h (named i) o = go (first_at (carries eq i) ns) refl
  where
    go : (o : Option ℕ) → first_at (carries eq i) ns ≡ o → Holds (λ n. n < limit) (found_at r o)
    go none e = held_not 14 r
    go (some n) e =
        let f = first_passes _ ns n e in
        let l = at-within ns n f.0 f.1 in held n (omega arith)

-- ## Signatures

-- the type of a number is equal to a signature
pub record Agrees (s : FuncType) (ts : List FuncType) (n : TypeNo) : Type 0 where
  pub type : FuncType
  pub there : at ts n.type_no ≡ some type
  pub equal : same_type s type ≡ true

agreed : (r : ℕ) (s : FuncType) (ts : List FuncType) (n : ℕ) → Holds (Agrees s ts) (agrees r s n (at ts n))
agreed r s ts n = go (at ts n) refl
  where
    step : (t : FuncType) → at ts n ≡ some t → (b : Bool) → same_type s t ≡ b → Holds (Agrees s ts) (if b then ok (record { type_no = n }) else refused 16 r)
    step t e true d = held _ (record { type = t; there = e; equal = d })
    step t e false d = held_not 16 r

    go : (o : Option FuncType) → at ts n ≡ o → Holds (Agrees s ts) (agrees r s n o)
    go none e = held_not 15 r
    go (some t) e = step t e (same_type s t) refl

same_params : (s t : FuncType) → same_type s t ≡ true → s.params ≡ t.params
unfolding same_type
same_params s t e = same-eq s.params t.params (and_true _ _ e).0

-- as many parameters have places as the type has
pub params_agree : {I : Type 0} (ts : List FuncType) (t : TypeUse I) (n : TypeNo) → (is_inline t ≡ true → Agrees (signature t) ts n)
    → length (param_names ts n t) ≡ param_count (at ts n.type_no)
unfolding param_names signature
params_agree {I} ts t n h = go (is_inline t) h
  where
    inline : Agrees (signature t) ts n → length (map (λ p. p.id) t.params) ≡ param_count (at ts n.type_no)
    inline a =
        rw a.there
        (length-map t.params (λ p. p.id) ∙ sym (length-map t.params (λ p. p.type)) ∙ ap length (same_params (signature t) a.type a.equal))

    go : (b : Bool) → (b ≡ true → Agrees (signature t) ts n)
        → length (if b then map (λ p. p.id) t.params else replicate (param_count (at ts n.type_no)) none) ≡ param_count (at ts n.type_no)
    go true h = inline (h refl)
    go false h = length-replicate (param_count (at ts n.type_no)) none

-- ## In a strict scope

-- every signature that is asked for has its type; so of uses with their records
abbrev pub Served : List FuncType → List FuncType → Type 0
Served ts us = Every (λ s. Interned s ts) us

abbrev pub AllServed : List FuncType → Uses → Type 0
AllServed ts us = Every (λ u. Interned u.1 ts) us

-- the uses of one record
pub served : (ts : List FuncType) (r : ℕ) (ss : List FuncType) → AllServed ts (used_at r ss) → Served ts ss
served ts r [] h = tt
served ts r (s ∷ ss) h = (h.0, served ts r ss h.1)

module _ {I : Type 0} (eq : I → I → Bool) (names : Space → Namespace I) (records : Space → List ℕ) (ts : List FuncType) where
  abbrev pub Strictly : Scope I
  Strictly = record { strict = true; eq = eq; names = names; definers = records; all_types = ts }

  module _ (is : List Item) (c : Counted Strictly is) where
    pub item-held : (k : Space) (r : ℕ) (x : Index I) → OwnBelow (count_in Strictly k) x → Holds (Below is k) (item_no Strictly k r x)
    unfolding item_no
    item-held k r x o = record { of = λ n e. rw (c.counts k) ((number-held eq (names k) _ r (c.names-within k) x o).of n e) }

    pub told-held : (k : Space) (r : ℕ) (x : Index I) → Told x → Holds (Below is k) (item_no Strictly k r x)
    told-held k r x o = item-held k r x (told_below _ x o)

    type-within : (n : ℕ) (t : FuncType) → at ts n ≡ some t → Below is types n
    unfolding count_in
    type-within n t e = rw (c.counts types) (at-within ts n t e)

    -- ## Type uses

    -- a type's number is in range, and an inline type is that of the number
    abbrev pub TypeHeld : Bool → FuncType → TypeNo → Type 0
    TypeHeld inline? s n = TypeInRange is n × (inline? ≡ true → Agrees s ts n)

    checked-held : (r : ℕ) (inline? : Bool) (s : FuncType) (n : ℕ) → Below is types n → Holds (TypeHeld inline? s) (checked Strictly r inline? s n)
    unfolding checked
    checked-held r true s n h = record { of = λ m e. let a = (agreed r s ts n).of m e in (type-within m.type_no a.type a.there, λ _. a) }
    checked-held r false s n h = held _ (h, λ e. absurd (false≢true e))

    type_no_of-held : (r : ℕ) (inline? : Bool) (s : FuncType) (x : Index I) → Told x → Served ts (unless_indexed s x)
        → Holds (TypeHeld inline? s) (type_no_of Strictly r inline? s x)
    unfolding type_no_of
    type_no_of-held r inline? s absent o h =
        let u = h.0 in
        held _ (type-within (type_number s ts) u.type u.there, λ _. record { type = u.type; there = u.there; equal = u.equal })
    type_no_of-held r inline? s (number n) o h = held_by _ (told-held types r (number n) o) λ m g. checked-held r inline? s m g
    type_no_of-held r inline? s (named i) o h = held_by _ (told-held types r (named i) o) λ m g. checked-held r inline? s m g
    type_no_of-held r inline? s (own_index n) o h = absurd o

    pub type_no-held : (r : ℕ) (t : TypeUse I) → UseTold t → Served ts (use_of t) → Holds (TypeHeld (is_inline t) (signature t)) (type_no Strictly r t)
    unfolding type_no use_of
    type_no-held r t o h = type_no_of-held r (is_inline t) (signature t) t.index o h

    short-held : (vs : List ValType) → BlockInRange is (short_type vs)
    short-held [] = tt
    short-held (v ∷ vs) = tt

    block_held : (r : ℕ) (t : TypeUse I) → UseTold t → Served ts (if is_short t then [] else use_of t) → Holds (BlockInRange is) (block_type Strictly r t)
    unfolding block_type use_of type_no is_absent
    block_held r t o h = go t.index (is_short t) o h
      where
        by_number : (x : Index I) → Told x → Served ts (unless_indexed (signature t) x)
            → Holds (BlockInRange is) (type_no_of Strictly r (is_inline t) (signature t) x >>= λ n. ok (typed n))
        by_number x o h = held_by _ (type_no_of-held r (is_inline t) (signature t) x o h) λ n g. held (typed n) g.0

        go : (x : Index I) (short : Bool) → Told x → Served ts (if short then [] else unless_indexed (signature t) x)
            → Holds (BlockInRange is) (if is_absent x && short then ok (short_type t.results) else (type_no_of Strictly r (is_inline t) (signature t) x >>= λ n. ok (typed n)))
        go absent true o h = held _ (short-held t.results)
        go absent false o h = by_number absent o h
        go (number n) short o h = by_number (number n) o tt
        go (named i) short o h = by_number (named i) o tt
        go (own_index n) short o h = absurd o

    -- ## Instructions

    module _ (locals blocks : Namespace I) (r : ℕ) where
      local-held : (x : Index I) → Told x → Holds (λ (n : LocalNo). n.local_no < length locals) (local_no Strictly locals r x)
      unfolding local_no
      local-held x o = held_by _ (number-held eq locals (length locals) r (omega arith) x (told_below _ x o)) λ n h. held _ h

      depth-held : (x : Index I) → Told x → Holds (λ (d : Depth). d.depth ≤ length blocks) (depth_of Strictly blocks r x)
      unfolding depth_of
      depth-held x o = held_by _ (number-held eq blocks (length blocks + 1) r (omega arith) x (told_below _ x o)) λ n h. held _ (omega arith)

      items-held : (xs : List (Space × Index I)) → Every (λ x. Told x.1) xs
          → Holds (EachBelow is (map (λ x. x.0) xs)) (each (λ x. item_no Strictly x.0 r x.1) xs)
      unfolding each
      items-held [] h = held [] tt
      items-held ((k, x) ∷ xs) h =
          held_by _ (told-held k r x h.0) λ n g.
          held_by _ (items-held xs h.1) λ ns f.
          held (n ∷ ns) (g, f)

      immediate-held : (w : Operands) (o : Operand I) → Suits w o
          → Holds (ImmInRange is (length locals) (length blocks) (some (operands w))) (immediate Strictly locals blocks r o)
      unfolding immediate
      immediate-held w nothing s = held no_imm tt
      immediate-held w (label x) s = held_by _ (depth-held x s) λ d h. held (label_imm d) h
      immediate-held w (labels xs x) s =
          held_by _ (held-each Told _ xs s.0 depth-held) λ ds h.
          held_by _ (depth-held x s.1) λ d g.
          held (labels_imm ds d) (h, g)
      immediate-held w (local x) s = held_by _ (local-held x s) λ n h. held (local_imm n) h
      immediate-held w (item k x) s = held_by _ (told-held k r x s.1) λ n h. held (item_imm n) (rw s.0 h)
      immediate-held w (items b xs) s = held_by _ (items-held xs s.2) λ ns h. held (items_imm b ns) (rw s.0 refl, rw s.1 h)
      immediate-held w (access e o x) s = held_by _ (told-held mems r x s) λ n h. held (access_imm e o n) h
      immediate-held w (int32 n) s = held (int32_imm n) tt
      immediate-held w (int64 n) s = held (int64_imm n) tt
      immediate-held w (raw bs) s = held (raw_imm bs) tt

      pub plain-held : (p : Plain I) → Sorted p → Holds (OpInRange is (length locals) (length blocks)) (plain_op Strictly locals blocks r p)
      unfolding plain_op
      plain-held p s = held_by _ (immediate-held s.sort p.operand s.suits) λ i h. held _ (rw s.form h)

      -- an instruction, with the blocks that are open after it
      abbrev InstrHeld : Instr I → Op → Type 0
      InstrHeld x o = OpInRange is (length locals) (length blocks) o × (open_blocks (form_of o.opcode) (length blocks) ≡ length (blocks_after blocks x))

      ended : (ns : Namespace I) → length ns - 1 ≡ length (tail ns)
      ended [] = refl
      ended (n ∷ ns) = omega arith

      instr-held : (x : Instr I) → InstrSorted x → Served ts (instr_uses x) → Holds (InstrHeld x) (instr_op Strictly locals blocks r x)
      unfolding instr_op instr_uses blocks_after plain_op form_of form_in opcodes between
      instr-held (opens op l t) s h = held_by _ (block_held r t s.1 h) λ b g. held _ (g, rw s.0 (omega arith))
      instr-held (elses l) s h = held_then _ λ _. held _ (tt, refl)
      instr-held (ends l) s h = held_then _ λ _. held _ (tt, ended blocks)
      instr-held (indirect x t) s h = held_by _ (told-held tables r x s.0) λ n g. held_by _ (type_no-held r t s.1 h) λ y f. held _ ((f.0, g), refl)
      instr-held (plain p) s h = held_by _ (immediate-held s.sort p.operand s.suits) λ i g. held _ (rw s.form g, rw s.form refl)

    pub body-held : (locals blocks : Namespace I) (xs : Body I) → BodySorted xs → AllServed ts (body_uses xs)
        → Holds (BodyInRange is (length locals) (length blocks)) (body Strictly locals blocks xs)
    unfolding body body_uses
    body-held locals blocks [] s h = held [] tt
    body-held locals blocks ((r, x) ∷ xs) s h =
        let here = served ts r (instr_uses x) (every_left _ (used_at r (instr_uses x)) (body_uses xs) h) in
        let later = every_right _ (used_at r (instr_uses x)) (body_uses xs) h in
        held_by _ (instr-held locals blocks r x s.0 here) λ o g.
        held_by _ (body-held locals (blocks_after blocks x) xs s.1 later) λ os f.
        held (o ∷ os) (g.0, rw g.1 f)
