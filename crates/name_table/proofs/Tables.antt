-- Laws of the tables of names: where each begins, and the words that an entry does not change.
use Prim.Native.Nat.{ℕ, ◌+◌, ◌*◌, ◌≤◌, ◌<◌, zero, suc, min}
use mathlib.Core.Path.{◌≡◌, refl, ◌∙◌, ap}
use mathlib.Core.List.{List, [], ◌∷◌, ◌++◌}
use mir.Syntax.{w64}
use mir.Val.{Fits}
use lib.ListN.{length, get_or, set, length-set}
use native.Mathlib.Omega.{arith}
use Rattle.definition.specs.Syntax.{Identifier, Space, funcs, tables, mems, globals, types, elems, datas, code}
use Rattle.definition.specs.Names.{Namespace}
use Rattle.area.specs.Layout.{NAMED, NAMES, TABLE, DEFINERS}
use Rattle.syntax.specs.Tokens.{part_of}
use Rattle.syntax.specs.declared.Part.{Part}
use Rattle.name_table.specs.Area.{tag_of, entry, entry_words, names}
use Rattle.name_table.specs.Tables.{base, name_count}
use lib.Seq.{get_or-set_other}
use Rattle.area.specs.Kept.{Kept}
use Rattle.area.proofs.Kept.{kept_set, kept_then, kept_word}

-- ## Where a table begins

pub code_small : (k : Space) → code k < 7
code_small funcs = omega arith
code_small tables = omega arith
code_small mems = omega arith
code_small globals = omega arith
code_small types = omega arith
code_small elems = omega arith
code_small datas = omega arith

pub base-low : (k : Space) → base k + TABLE ≤ DEFINERS
unfolding base
base-low funcs = omega arith
base-low tables = omega arith
base-low mems = omega arith
base-low globals = omega arith
base-low types = omega arith
base-low elems = omega arith
base-low datas = omega arith

pub base_high : (k : Space) → NAMES ≤ base k
unfolding base
base_high k = omega arith

module _ (k : Space) (c : ℕ) (e : c ≡ code k) where
  pub base_mul : Fits w64 (TABLE * c)
  unfolding base
  base_mul = record { fits = let h = base-low k in omega arith }

  pub base_add : Fits w64 (NAMES + TABLE * c)
  unfolding base
  base_add = record { fits = let h = base-low k in omega arith }

  pub base-is : NAMES + TABLE * c ≡ base k
  unfolding base
  base-is = rw e

-- ## How many names a table has

module _ (k : Space) (c : ℕ) (e : c ≡ code k) where
  pub count-place : Fits w64 (NAMED + c)
  count-place = record { fits = omega (arith, code_small k) }

  module _ (w : List ℕ) (n : ℕ) (d : n ≡ get_or w (NAMED + c) 0) where
    -- fewer than 256 are as many as the word says
    pub count-few : n < 256 → n ≡ name_count k w
    count-few h = let g : n ≡ get_or w (NAMED + code k) 0 = rw (← e) d in omega (arith, g)

    pub count-all : 256 ≤ n → 256 ≡ name_count k w
    count-all h = let g : n ≡ get_or w (NAMED + code k) 0 = rw (← e) d in omega (arith, g)

-- ## Words that are not written

module _ (s w : List ℕ) (at : ℕ) (p : Part) where
  pub words_other : (i : ℕ) → (i ≡ at → ⊥) → (i ≡ at + 1 → ⊥) → (i ≡ at + 2 → ⊥) → get_or (entry_words s w at p) i 0 ≡ get_or w i 0
  unfolding entry_words
  words_other i a b c =
      let x = set w at (min p.at (length s)) in
      get_or-set_other (set x (at + 1) p.len) (at + 2) i (tag_of (part_of s p)) 0 c ∙ get_or-set_other x (at + 1) i p.len 0 b ∙ get_or-set_other w at i (min p.at (length s)) 0 a

  pub words_length : length (entry_words s w at p) ≡ length w
  unfolding entry_words
  words_length =
      let x = set w at (min p.at (length s)) in
      length-set (set x (at + 1) p.len) (at + 2) (tag_of (part_of s p)) ∙ length-set x (at + 1) p.len ∙ length-set w at (min p.at (length s))

  pub words_kept : (n : ℕ) → n ≤ at → Kept n w (entry_words s w at p)
  unfolding entry_words
  words_kept n h =
      let x = set w at (min p.at (length s)) in
      kept_then (kept_then (kept_set n at (min p.at (length s)) w h) (kept_set n (at + 1) p.len x (omega arith))) (kept_set n (at + 2) (tag_of (part_of s p)) (set x (at + 1) p.len) (omega arith))

  -- a table that ends before the entry, or begins after it
  pub names-low : (n b : ℕ) → b + 3 * n ≤ at → names n s (entry_words s w at p) b ≡ names n s w b
  unfolding names entry
  names-low zero b h = refl
  names-low (suc n) b h =
      rw (
        words_other b (λ e. omega arith) (λ e. omega arith) (λ e. omega arith),
        words_other (b + 1) (λ e. omega arith) (λ e. omega arith) (λ e. omega arith),
        words_other (b + 2) (λ e. omega arith) (λ e. omega arith) (λ e. omega arith),
        names-low n (b + 3) (omega arith),
      )

  pub names_high : (n b : ℕ) → at + 3 ≤ b → names n s (entry_words s w at p) b ≡ names n s w b
  unfolding names entry
  names_high zero b h = refl
  names_high (suc n) b h =
      rw (
        words_other b (λ e. omega arith) (λ e. omega arith) (λ e. omega arith),
        words_other (b + 1) (λ e. omega arith) (λ e. omega arith) (λ e. omega arith),
        words_other (b + 2) (λ e. omega arith) (λ e. omega arith) (λ e. omega arith),
        names_high n (b + 3) (omega arith),
      )

-- ## Words that are kept

module _ (s w w' : List ℕ) (m : ℕ) (k : Kept m w w') where
  pub entry_kept : (i : ℕ) → i + 2 < m → entry s w' i ≡ entry s w i
  unfolding entry
  entry_kept i h = rw (kept_word k i (omega arith), kept_word k (i + 1) (omega arith), kept_word k (i + 2) h)

  pub names-kept : (n b : ℕ) → b + 3 * n ≤ m → names n s w' b ≡ names n s w b
  unfolding names
  names-kept zero b h = refl
  names-kept (suc n) b h = rw (entry_kept b (omega arith), names-kept n (b + 3) (omega arith))

-- the last name, after the others
pub names_snoc : (n : ℕ) (s w : List ℕ) (b : ℕ) → names (suc n) s w b ≡ names n s w b ++ (entry s w (b + 3 * n) ∷ [])
unfolding names
names_snoc zero s w b = (let e : b + 3 * 0 ≡ b = omega arith in rw e)
names_snoc (suc n) s w b = (let e : b + 3 + 3 * n ≡ b + 3 * suc n = omega arith in ap (λ (l : Namespace Identifier). entry s w b ∷ l) (names_snoc n s w (b + 3) ∙ rw e))
