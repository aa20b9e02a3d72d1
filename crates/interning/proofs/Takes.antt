-- Laws of one type use at its record.
use Rattle.std.specs.Prelude.{Ok, Err}
use Rattle.syntax.specs.Refusals.{Resolved}
use Prim.Native.Nat.{ℕ, ◌+◌, ◌-◌, ◌*◌, ◌≤◌, ◌<◌}
use mathlib.Core.Path.{◌≡◌, ◌∙◌, ap}
use mathlib.Core.Bool.{Bool, true, false}
use mathlib.Core.List.{List, [], ◌∷◌}
use lib.ListN.{length, get_or, set}
use lib.Seq.{get_or-set_same, get_or-set_other}
use native.Mathlib.Omega.{arith}
use Rattle.definition.specs.Basic.{Answer, ok, ◌>>=◌}
use Rattle.definition.specs.Syntax.{Bytes, FuncType}
use Rattle.definition.specs.Types as Types
use Rattle.definition.specs.Types.{intern, signature, is_short, instr_uses, used_at}
use Rattle.syntax.specs.declared.Refusal.{Refusal}
use Rattle.area.specs.Layout.{TYPES, USES, WORDS}
use Rattle.syntax.specs.declared.Index.TheVariants as X
use Rattle.syntax.specs.TypeUses.{use_of}
use Rattle.syntax.specs.declared.TypeUse.{TypeUse}
use Rattle.syntax.specs.Instructions.{instr_is}
use Rattle.syntax.specs.declared.Instr.{Instr}
use Rattle.syntax.specs.declared.Instr.TheVariants as N
use Rattle.area.specs.Kept.{Kept}
use Rattle.area.proofs.Kept.{kept_same, kept_set, kept_then, kept_less}
use Rattle.type_table.specs.Table.{type_table, Indexed, Taken, Denied, Interns}
use Rattle.type_table.proofs.Indexed.{index_kept}
use Rattle.type_table.proofs.Entries.{inside-above}
use Rattle.type_table.proofs.Types.{table_kept}
use Rattle.interning.specs.Uses.{Known, From, Handles}
use Rattle.type_table.specs.Uses.{block_uses}
use Rattle.interning.proofs.Handled.{handles_none}

-- ## A use without an index

module _ (s w : List ℕ) (count : ℕ) (t : TypeUse) (rec : ℕ) (q : Resolved (ℕ × ℕ)) (w₁ : List ℕ) (told : Interns s w count t rec q w₁) where
  took : (n k : ℕ) → q ≡ Ok (n, k) → Taken s w count t rec n k w₁
  unfolding Interns
  took n k d = rw d at told

  pub take-number : (n k : ℕ) (w' : List ℕ) → q ≡ Ok (n, k) → w' ≡ set w₁ (USES + rec) n → WORDS ≤ length w → rec < 4096
      → Handles rec (rec + 1) s (used_at rec (signature (use_of s t) ∷ [])) w count (Ok k) w'
  unfolding Handles intern ◌>>=◌ Known From
  take-number n k w' d e l h =
      let a = took n k d in
      let long : length w₁ ≡ length w = a.inside.kept.long in
      let below : Kept USES w₁ (set w₁ (USES + rec) n) = kept_set USES (USES + rec) n w₁ (omega arith) in
      let same : type_table k s (set w₁ (USES + rec) n) TYPES ≡ type_table k s w₁ TYPES = table_kept k s TYPES USES (omega (arith, a.indexed.few)) below in
      let word : get_or (set w₁ (USES + rec) n) (USES + rec) 0 ≡ n = get_or-set_same w₁ (USES + rec) n 0 (omega arith) in
      record {
        types = rw (e, same) (ap (λ (z : Answer (List FuncType)). z >>= λ all. ok all) a.types);
        indexed = rw e (index_kept USES s k (omega arith) below a.indexed);
        known = (omega arith, rw (e, same, word) a.number, tt);
        from = (omega arith, tt);
        kept = rw e (kept_then (kept_less TYPES (TYPES + 5 * count) (omega arith) a.inside.kept) (kept_less TYPES USES (omega arith) below));
        before = λ i g. rw e (get_or-set_other w₁ (USES + rec) (USES + i) n 0 (λ z. omega arith) ∙ inside-above a.inside (USES + i) (omega arith));
        beyond = λ i g f. rw e (get_or-set_other w₁ (USES + rec) (USES + i) n 0 (λ z. omega arith) ∙ inside-above a.inside (USES + i) (omega arith));
        above = λ i g. rw e (get_or-set_other w₁ (USES + rec) i n 0 (λ z. omega arith) ∙ inside-above a.inside i (omega arith));
      }

  denied : (r : Refusal) → q ≡ Err r → Denied s w count t rec r w₁
  unfolding Interns
  denied r d = rw d at told

  pub take-refused : (r : Refusal) → q ≡ Err r → Handles rec (rec + 1) s (used_at rec (signature (use_of s t) ∷ [])) w count (Err r) w₁
  unfolding Handles intern ◌>>=◌
  take-refused r d =
      let a = denied r d in
      record { says = ap (λ (z : Answer (List FuncType)). z >>= λ all. ok all) a.says; kept = rw a.area (kept_same TYPES w) }

pub ruleset takes = (take-number, take-refused)

-- ## Any use

module _ (rec : ℕ) (s : Bytes) (t : TypeUse) (w : List ℕ) (k : ℕ) where
  pub use_absent : (r : Resolved ℕ) (w' : List ℕ) → t.index ≡ X.Absent → Handles rec (rec + 1) s (used_at rec (signature (use_of s t) ∷ [])) w k r w'
      → Handles rec (rec + 1) s (used_at rec (Types.use_of (use_of s t))) w k r w'
  unfolding Types.use_of signature
  use_absent r w' d h = rw d h

  pub use_number : (n : ℕ) → t.index ≡ X.Number n → Indexed s w k → Handles rec (rec + 1) s (used_at rec (Types.use_of (use_of s t))) w k (Ok k) w
  unfolding Types.use_of
  use_number n d h = rw d (handles_none rec (rec + 1) s w k h)

  pub use_named : (p : _) → t.index ≡ X.Named p → Indexed s w k → Handles rec (rec + 1) s (used_at rec (Types.use_of (use_of s t))) w k (Ok k) w
  unfolding Types.use_of
  use_named p d h = rw d (handles_none rec (rec + 1) s w k h)

  -- a block
  module _ (b : Bool) (e : b ≡ is_short (use_of s t)) where
    pub block_short : b ≡ true → Indexed s w k → Handles rec (rec + 1) s (used_at rec (block_uses (use_of s t))) w k (Ok k) w
    block_short d h = rw (← e, d) (handles_none rec (rec + 1) s w k h)

    pub block_long : (r : Resolved ℕ) (w' : List ℕ) → b ≡ false → Handles rec (rec + 1) s (used_at rec (Types.use_of (use_of s t))) w k r w'
        → Handles rec (rec + 1) s (used_at rec (block_uses (use_of s t))) w k r w'
    block_long r w' d h = rw (← e, d) h

pub ruleset ways = (use_absent, use_number, use_named, block_short, block_long)

-- ## An instruction

module _ (rec : ℕ) (s : Bytes) (i : Instr) (w : List ℕ) (k : ℕ) where
  module _ (t : TypeUse) (r : Resolved ℕ) (w' : List ℕ) where
    pub instr-opens : (op : ℕ) (l : _) → i ≡ N.Opens op l t → Handles rec (rec + 1) s (used_at rec (block_uses (use_of s t))) w k r w'
        → Handles rec (rec + 1) s (used_at rec (instr_uses (instr_is s i))) w k r w'
    unfolding instr_uses
    instr-opens op l d h = rw d h

    pub instr-indirect : (x : _) → i ≡ N.Indirect x t → Handles rec (rec + 1) s (used_at rec (Types.use_of (use_of s t))) w k r w'
        → Handles rec (rec + 1) s (used_at rec (instr_uses (instr_is s i))) w k r w'
    unfolding instr_uses
    instr-indirect x d h = rw d h

  module _ (h : Indexed s w k) where
    pub instr_else : (l : _) → i ≡ N.Elses l → Handles rec (rec + 1) s (used_at rec (instr_uses (instr_is s i))) w k (Ok k) w
    unfolding instr_uses
    instr_else l d = rw d (handles_none rec (rec + 1) s w k h)

    pub instr_end : (l : _) → i ≡ N.Ends l → Handles rec (rec + 1) s (used_at rec (instr_uses (instr_is s i))) w k (Ok k) w
    unfolding instr_uses
    instr_end l d = rw d (handles_none rec (rec + 1) s w k h)

    pub instr-plain : (p : _) → i ≡ N.Plain p → Handles rec (rec + 1) s (used_at rec (instr_uses (instr_is s i))) w k (Ok k) w
    unfolding instr_uses
    instr-plain p d = rw d (handles_none rec (rec + 1) s w k h)

pub ruleset instrs = (instr-opens, instr-indirect, instr_else, instr_end, instr-plain)
