-- Laws of imports.
use Rattle.std.specs.Prelude.{Ok, Err}
use Rattle.syntax.specs.Refusals.{Resolved}
use Prim.Native.Nat.{ℕ}
use mathlib.Core.Path.{◌≡◌, refl}
use mathlib.Core.List.{List, ◌∷◌, ◌++◌}
use mathlib.Core.Option.{none}
use Rattle.definition.specs.Basic.{◌>>=◌}
use Rattle.definition.specs.Syntax as Syntax
use Rattle.definition.specs.Syntax.{Bytes, Identifier, FuncType}
use Rattle.definition.specs.Types as Types
use Rattle.definition.specs.Names.{Scope, type_no, extern_no, resolve}
use Rattle.definition.specs.Binary.{u, sized, limits, table_type, global_type, extern_type, entries}
use Rattle.syntax.specs.declared.Refusal.{Refusal}
use Rattle.emit.specs.Put.{Put}
use Rattle.syntax.specs.CoreTypes.{limits_is, table_type_is, global_type_is}
use Rattle.syntax.specs.declared.Limits.{Limits}
use Rattle.syntax.specs.declared.TableType.{TableType}
use Rattle.syntax.specs.declared.GlobalType.{GlobalType}
use Rattle.syntax.specs.TypeUses.{use_of}
use Rattle.syntax.specs.declared.TypeUse.{TypeUse}
use Rattle.syntax.specs.Items.{extern_is}
use Rattle.syntax.specs.declared.Extern.{Extern}
use Rattle.syntax.specs.declared.Extern.TheVariants as X
use Rattle.type_table.specs.Table.{Recalled}
use Rattle.scope.specs.Answers.{type_answer}
use Rattle.syntax.specs.Resolved.{type_no_of}
use Rattle.syntax.specs.declared.TypeNo.{TypeNo}
use Rattle.binary.specs.Emits.{Emits}
use Rattle.binary.proofs.Emitting.{wrote, halts, put-emits}
use Rattle.import_export.specs.Entry.{entry_of}

-- ## A function's type

module _ (Γ : Scope Identifier) (rec : ℕ) (t : Syntax.TypeUse Identifier) (y : Resolved TypeNo) (told : type_no Γ rec t ≡ type_answer y) (old : List ℕ) (at : ℕ) (new : List ℕ) where
  abbrev Func : Resolved ℕ → Type 0
  Func q = Emits extern_type (extern_no Γ rec (Syntax.func t)) old at q new

  pub func_to : (n : TypeNo) (r : ℕ) → y ≡ Ok n → Put old at (0x00 ∷ u (type_no_of n).type_no) r new → Func (Ok r)
  unfolding extern_no extern_type ◌>>=◌
  func_to n r d p = wrote extern_type (extern_no Γ rec (Syntax.func t)) old at new (Syntax.func (type_no_of n)) r p (rw (told, d))

  pub func_not : (r : Refusal) → y ≡ Err r → Func (Err r)
  unfolding extern_no ◌>>=◌
  func_not r d = halts extern_type (extern_no Γ rec (Syntax.func t)) old at new r (rw (told, d))

-- ## What is imported

module _ (s : Bytes) (x : Extern) where
  -- the uses of an imported function are those of its type use
  pub func-recalled : (w : List ℕ) (ts : List FuncType) (rec : ℕ) (t : TypeUse) → x ≡ X.Func t → Recalled w ts (Types.used_at rec (Types.extern_uses (extern_is s x))) → Recalled w ts (Types.used_at rec (Types.use_of (use_of s t)))
  unfolding Types.extern_uses
  func-recalled w ts rec t d h = rw d at h

  module _ (Γ : Scope Identifier) (rec : ℕ) (old : List ℕ) (at : ℕ) (new : List ℕ) where
    abbrev Extern' : Resolved ℕ → Type 0
    Extern' q = Emits extern_type (extern_no Γ rec (extern_is s x)) old at q new

    pub extern_func : (t : TypeUse) (q : Resolved ℕ) → x ≡ X.Func t → Emits extern_type (extern_no Γ rec (Syntax.func (use_of s t))) old at q new → Extern' q
    extern_func t q d w = rw d w

    pub extern_table : (t : TableType) (r : ℕ) → x ≡ X.Table t → Put old at (0x01 ∷ table_type (table_type_is t)) r new → Extern' (Ok r)
    unfolding extern_no extern_type
    extern_table t r d p = wrote extern_type (extern_no Γ rec (extern_is s x)) old at new (Syntax.table (table_type_is t)) r p (rw d)

    pub extern_mem : (l : Limits) (r : ℕ) → x ≡ X.Mem l → Put old at (0x02 ∷ limits (limits_is l)) r new → Extern' (Ok r)
    unfolding extern_no extern_type
    extern_mem l r d p = wrote extern_type (extern_no Γ rec (extern_is s x)) old at new (Syntax.mem (limits_is l)) r p (rw d)

    pub extern_global : (t : GlobalType) (r : ℕ) → x ≡ X.Global t → Put old at (0x03 ∷ global_type (global_type_is t)) r new → Extern' (Ok r)
    unfolding extern_no extern_type
    extern_global t r d p = wrote extern_type (extern_no Γ rec (extern_is s x)) old at new (Syntax.global (global_type_is t)) r p (rw d)

pub ruleset externs = (extern_func, extern_table, extern_mem, extern_global)

-- ## After its names

pub import_is : (Γ : Scope Identifier) (rec : ℕ) (n : Syntax.ImportName) (d : Syntax.ExternType (Syntax.TypeUse Identifier)) (old : List ℕ) (at o : ℕ) (mid : List ℕ) (q : Resolved ℕ) (new : List ℕ)
    → Put old at (sized n.module_name ++ sized n.item_name) o mid → Emits extern_type (extern_no Γ rec d) mid o q new → Emits entry_of (resolve Γ rec (Syntax.import_f n none d)) old at q new
unfolding resolve entry_of entries
import_is Γ rec n d old at o mid q new p w =
    put-emits extern_type entry_of (λ e. Syntax.import_i n e) (extern_no Γ rec d) old at (sized n.module_name ++ sized n.item_name) o mid q new (λ e. refl) p w
