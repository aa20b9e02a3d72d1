-- The number of a type use's type, and the type of a block.
use Rattle.std.specs.Prelude.{if◌then◌else◌}
use Prim.Native.Nat.{ℕ, zero, suc, ◌+◌, ◌<◌}
use mathlib.Core.Path.{◌≡◌, refl, sym, ◌∙◌}
use mathlib.Core.Bool.{Bool, true, false, ◌&&◌}
use mathlib.Core.List.{List, []}
use mathlib.Core.Option.{Option, none, some}
use lib.ListN.{get_or}
use native.Mathlib.Omega.{arith}
use Rattle.definition.specs.Basic.{Answer, ok, refused, ◌>>=◌, at}
use Rattle.definition.specs.Reader.{got, fault}
use Rattle.definition.specs.Syntax as Syntax
use Rattle.definition.specs.Syntax.{FuncType, types, empty, single, typed}
use Rattle.definition.specs.Token.{val_type}
use Rattle.definition.specs.Types as Types
use Rattle.definition.specs.Types.{signature, same_type, is_inline, is_short, used_at}
use Rattle.definition.specs.Names as Names
use Rattle.definition.specs.Names.{item_no, type_no, block_type, is_absent, short_type}
use Rattle.syntax.specs.Refusals.{refusal, refused_by}
use Rattle.syntax.specs.declared.Refusal.{Refusal}
use Rattle.syntax.specs.declared.Fault.TheVariants as F
use Rattle.syntax.proofs.Ways.{refusal_handed}
use Rattle.area.specs.Layout.{USES}
use Rattle.syntax.specs.Resolved.{type_no_of, block_type_of}
use Rattle.syntax.specs.declared.TypeNo.{TypeNo}
use Rattle.syntax.specs.declared.BlockType.{BlockType}
use Rattle.syntax.specs.Tokens.{index_of}
use Rattle.syntax.specs.declared.Part.{Part}
use Rattle.syntax.specs.declared.Index.{Index}
use Rattle.syntax.specs.declared.Index.TheVariants as X
use Rattle.syntax.specs.TypeUses.{elements, list_of, use_of}
use Rattle.syntax.specs.declared.List as Code
use Rattle.syntax.specs.declared.TypeUse.{TypeUse}
use Rattle.type_table.specs.Table.{types_in, agreeing, Recalled}
use Rattle.type_table.specs.declared.table.Agreement.{Agreement}
use Rattle.type_table.specs.declared.table.Agreement.TheVariants as A
use Rattle.scope.specs.Scope.{scope_in, indexed_type}
use Rattle.type_table.specs.Uses.{block_uses}

-- ## A number that a use says

-- what the comparison says, as the definition's answer
abbrev compared : ℕ → ℕ → Agreement → Answer Syntax.TypeNo
compared r n A.Same = ok (record { type_no = n })
compared r n A.Differs = refused 16 r
compared r n A.NoType = refused 15 r

agree_is : (r n : ℕ) (t : FuncType) (o : Option FuncType) → Names.agrees r t n o ≡ compared r n (agreeing t o)
agree_is r n t none = refl
agree_is r n t (some u) = go (same_type t u)
  where
    go : (b : Bool) → (if b then ok (record { type_no = n }) else refused 16 r) ≡ compared r n (if b then A.Same else A.Differs)
    go true = refl
    go false = refl

module _ (s w : List ℕ) (r n : ℕ) (t : TypeUse) (i : Bool) (is : i ≡ is_inline (use_of s t)) where
  -- a use that is not inline says nothing more
  pub checked-plain : i ≡ false → Names.checked (scope_in s w) r (is_inline (use_of s t)) (signature (use_of s t)) n ≡ ok (record { type_no = n })
  unfolding Names.checked
  checked-plain e = rw (← is, e)

  module _ (e : i ≡ true) (q : Agreement) (told : q ≡ agreeing (signature (use_of s t)) (at (types_in s w) n)) where
    checked-is : Names.checked (scope_in s w) r (is_inline (use_of s t)) (signature (use_of s t)) n ≡ compared r n q
    unfolding Names.checked scope_in
    checked-is = rw (← is, e, told) (agree_is r n (signature (use_of s t)) (at (types_in s w) n))

    pub checked-same : q ≡ A.Same → Names.checked (scope_in s w) r (is_inline (use_of s t)) (signature (use_of s t)) n ≡ ok (record { type_no = n })
    checked-same d = rw d at checked-is

    pub checked_differs : (z : Refusal) → q ≡ A.Differs → z ≡ refusal F.TypeDiffers r → Names.checked (scope_in s w) r (is_inline (use_of s t)) (signature (use_of s t)) n ≡ refused_by z
    checked_differs z d f = rw f (rw d at checked-is)

    pub checked-nothing : (z : Refusal) → q ≡ A.NoType → z ≡ refusal F.NoSuchType r → Names.checked (scope_in s w) r (is_inline (use_of s t)) (signature (use_of s t)) n ≡ refused_by z
    checked-nothing z d f = rw f (rw d at checked-is)

pub ruleset checks = (checked-plain, checked-same, checked_differs, checked-nothing)

-- ## The number of a use

module _ (s w : List ℕ) (r : ℕ) (t : TypeUse) where
  -- without an index it is the word of its record
  pub use_absent : (n : ℕ) → t.index ≡ X.Absent → Recalled w (types_in s w) (used_at r (Types.use_of (use_of s t))) → n ≡ get_or w (USES + r) 0
      → type_no (scope_in s w) r (use_of s t) ≡ ok (record { type_no = n })
  unfolding type_no Names.type_no_of scope_in Types.use_of Recalled signature
  use_absent n d h e = (let g : (r < 4096) × (get_or w (USES + r) 0 ≡ Types.type_number (signature (use_of s t)) (types_in s w)) × Unit {0} = rw d at h in rw (d, e, g.1))

  pub use_number : (n : ℕ) (a : Answer Syntax.TypeNo) → t.index ≡ X.Number n → indexed_type (scope_in s w) r (use_of s t) (index_of s (X.Number n)) ≡ a → type_no (scope_in s w) r (use_of s t) ≡ a
  unfolding type_no Names.type_no_of indexed_type is_inline signature
  use_number n a d h = rw d h

  pub use_named : (p : Part) (a : Answer Syntax.TypeNo) → t.index ≡ X.Named p → indexed_type (scope_in s w) r (use_of s t) (index_of s (X.Named p)) ≡ a → type_no (scope_in s w) r (use_of s t) ≡ a
  unfolding type_no Names.type_no_of indexed_type is_inline signature
  use_named p a d h = rw d h

  module _ (x : Index) (a : Answer Syntax.TypeNo) where
    pub indexed_to : (n : ℕ) → item_no (scope_in s w) types r (index_of s x) ≡ ok n → Names.checked (scope_in s w) r (is_inline (use_of s t)) (signature (use_of s t)) n ≡ a → indexed_type (scope_in s w) r (use_of s t) (index_of s x) ≡ a
    unfolding indexed_type ◌>>=◌
    indexed_to n e h = rw e h

    pub indexed_not : (z : Refusal) → item_no (scope_in s w) types r (index_of s x) ≡ refused_by z → refused_by z ≡ a → indexed_type (scope_in s w) r (use_of s t) (index_of s x) ≡ a
    unfolding indexed_type ◌>>=◌
    indexed_not z e h = rw e h

pub ruleset uses = (use_absent, use_number, use_named)

pub ruleset indexes = (indexed_to, indexed_not, refusal_handed)

-- ## The type of a block

module _ (s : List ℕ) (l : Code.List) where
  pub short_none : l.count ≡ 0 → short_type (list_of val_type s l) ≡ empty
  unfolding elements
  short_none e = rw e

  module _ (h : l.count ≡ 0 → ⊥) where
    pub short-one : (v next : ℕ) → val_type s l.at ≡ got v next → short_type (list_of val_type s l) ≡ single v
    unfolding elements
    short-one v next e = go l.count h
      where
        go : (n : ℕ) → (n ≡ 0 → ⊥) → short_type (elements val_type s l.at n) ≡ single v
        go zero g = absurd (g refl)
        go (suc n) g = rw e

    pub short-fault : (k : ℕ) → val_type s l.at ≡ fault k → short_type (list_of val_type s l) ≡ empty
    unfolding elements
    short-fault k e = go l.count h
      where
        go : (n : ℕ) → (n ≡ 0 → ⊥) → short_type (elements val_type s l.at n) ≡ empty
        go zero g = absurd (g refl)
        go (suc n) g = rw e

pub ruleset shorts = (short_none, short-one, short-fault)

module _ (s : List ℕ) (t : TypeUse) where
  pub goes_absent : (b : Bool) → t.index ≡ X.Absent → b ≡ is_short (use_of s t) → b ≡ (is_absent (use_of s t).index && is_short (use_of s t))
  unfolding is_absent is_short
  goes_absent b d e = rw d e

  pub goes_number : (n : ℕ) → t.index ≡ X.Number n → false ≡ (is_absent (use_of s t).index && is_short (use_of s t))
  unfolding is_absent
  goes_number n d = rw d

  pub goes_named : (p : Part) → t.index ≡ X.Named p → false ≡ (is_absent (use_of s t).index && is_short (use_of s t))
  unfolding is_absent
  goes_named p d = rw d

pub ruleset goings = (goes_absent, goes_number, goes_named)

module _ (s w : List ℕ) (r : ℕ) (t : TypeUse) (b : Bool) (is : b ≡ (is_absent (use_of s t).index && is_short (use_of s t))) where
  pub block_short : (x : BlockType) → b ≡ true → short_type (list_of val_type s t.results) ≡ block_type_of x → block_type (scope_in s w) r (use_of s t) ≡ ok (block_type_of x)
  unfolding block_type
  block_short x e h = rw (← is, e, h)

  -- a block that is not short uses what its type use does
  pub block_uses_lem : b ≡ false → Recalled w (types_in s w) (used_at r (block_uses (use_of s t))) → Recalled w (types_in s w) (used_at r (Types.use_of (use_of s t)))
  unfolding is_absent Types.use_of
  block_uses_lem e h = go t.index (is_short (use_of s t)) (sym is ∙ e) h
    where
      uses_of_lem : Index → List FuncType
      uses_of_lem x = Types.unless_indexed (signature (use_of s t)) (index_of s x)

      go : (x : Index) (short : Bool) → (is_absent (index_of s x) && short) ≡ false → Recalled w (types_in s w) (used_at r (if short then [] else uses_of_lem x))
          → Recalled w (types_in s w) (used_at r (uses_of_lem x))
      go x false e h = h
      go X.Absent true e h = (let z : ◌≡◌ {A = ℕ} 0 1 = cc in absurd (omega arith))
      go (X.Number n) true e h = h
      go (X.Named p) true e h = h

  module _ (e : b ≡ false) where
    pub block_typed : (n : TypeNo) → type_no (scope_in s w) r (use_of s t) ≡ ok (type_no_of n) → block_type (scope_in s w) r (use_of s t) ≡ ok (typed (type_no_of n))
    unfolding block_type ◌>>=◌
    block_typed n d = rw (← is, e, d)

    pub block_refused : (z : Refusal) (a : Answer Syntax.BlockType) → type_no (scope_in s w) r (use_of s t) ≡ refused_by z → refused_by z ≡ a → block_type (scope_in s w) r (use_of s t) ≡ a
    unfolding block_type ◌>>=◌
    block_refused z a d h = rw (← is, e, d) h

pub ruleset blocks = (block_short, block_typed, block_refused, refusal_handed)
