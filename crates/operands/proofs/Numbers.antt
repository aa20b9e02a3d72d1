-- What stands after FC: the second byte, and the numbers of the indices after it.
use Rattle.std.specs.Prelude.{Ok, Err}
use Rattle.syntax.specs.Reads.{Read}
use Rattle.syntax.specs.Refusals.{Resolved}
use Prim.Native.Nat.{ℕ, ◌*◌, ◌<◌, ◌^◌}
use mathlib.Core.Path.{◌≡◌, refl, sym}
use mathlib.Core.List.{List, [], ◌∷◌, append-nil}
use native.Mathlib.Omega.{arith}
use lib.ListN.{length}
use Rattle.definition.specs.Basic.{◌>>=◌, each, concat_map}
use Rattle.definition.specs.Syntax as Syntax
use Rattle.definition.specs.Syntax.{Identifier}
use Rattle.definition.specs.Instructions.{spaces_of, index_in}
use Rattle.definition.specs.Names.{item_no, immediate}
use Rattle.definition.specs.Binary.{u, imm}
use Rattle.syntax.specs.declared.Fault.{Fault}
use Rattle.syntax.specs.declared.Refusal.{Refusal}
use Rattle.emit.specs.Put.{Put}
use Rattle.emit.proofs.Laws.{put-skip}
use Rattle.syntax.specs.Tokens.{space_of, index_of, index_at}
use Rattle.syntax.specs.declared.Index.{Index}
use Rattle.syntax.specs.declared.Space.{Space}
use Rattle.syntax.specs.declared.Spaces.{Spaces}
use Rattle.syntax.specs.declared.Spaces.TheVariants as P
use Rattle.syntax.specs.Plain.{spaces_is, indices_at, bulk_at}
use Rattle.scope.specs.Scope.{scope_in}
use Rattle.binary.specs.Emits.{Emits}
use Rattle.binary.proofs.Emitting.{wrote, emits-map, put-emits, emits_not, emits_then}
use Rattle.operands.specs.Operands.{numbers_of}

-- ## Numbers one after the other

module _ (s w : List ℕ) (rec : ℕ) (old : List ℕ) (at : ℕ) where
  abbrev Numbers : List (Syntax.Space × Syntax.Index Identifier) → Resolved ℕ → List ℕ → Type 0
  Numbers xs r new = Emits (concat_map u) (numbers_of s w rec xs) old at r new

  no_number : length old * 1 < 2 ^ 63 → Numbers [] (Ok at) old
  unfolding numbers_of each concat_map
  no_number h = wrote (concat_map u) (numbers_of s w rec []) old at old [] at (put-skip h refl) refl

  module _ (k : Syntax.Space) (x : Syntax.Index Identifier) where
    abbrev Number : Resolved ℕ → List ℕ → Type 0
    Number r new = Emits u (item_no (scope_in s w) k rec x) old at r new

    one_number : (r : Resolved ℕ) (new : List ℕ) → Number r new → Numbers ((k, x) ∷ []) r new
    unfolding numbers_of each ◌>>=◌ concat_map
    one_number r new e = emits-map u (concat_map u) (λ n. n ∷ []) (item_no (scope_in s w) k rec x) old at r new (λ n. sym (append-nil (u n))) e

    number_halts : (xs : List (Syntax.Space × Syntax.Index Identifier)) (q : Resolved ℕ) (r : Refusal) (new : List ℕ) → Number q new → q ≡ Err r → Numbers ((k, x) ∷ xs) (Err r) new
    unfolding numbers_of each
    number_halts xs q r new e d = emits_not u (concat_map u) _ (item_no (scope_in s w) k rec x) old at q r new e d

number_then : (s w : List ℕ) (rec : ℕ) (old : List ℕ) (at : ℕ) (k : Syntax.Space) (x : Syntax.Index Identifier) (xs : List (Syntax.Space × Syntax.Index Identifier)) (q : Resolved ℕ) (o : ℕ) (mid : List ℕ) (r : Resolved ℕ) (new : List ℕ)
    → Emits u (item_no (scope_in s w) k rec x) old at q mid → q ≡ Ok o → Numbers s w rec mid o xs r new → Numbers s w rec old at ((k, x) ∷ xs) r new
unfolding numbers_of each concat_map
number_then s w rec old at k x xs q o mid r new e d f =
    emits_then u (concat_map u) (concat_map u) (λ n ns. n ∷ ns) (item_no (scope_in s w) k rec x) (numbers_of s w rec xs) old at q o mid r new (λ n ns. refl) e d f

-- ## As they are read

module _ (s w : List ℕ) (rec : ℕ) (k : Space) (here : ℕ) (q : Read Index) (told : index_in (space_of k) s here ≡ index_at s q) (old : List ℕ) (at : ℕ) where
  -- the first is read, or none is
  first-is : (ks : List Syntax.Space) (x : Index) (next : ℕ) → q ≡ Ok (x, next) → indices_at (space_of k ∷ ks) s here ≡ (space_of k, index_of s x) ∷ indices_at ks s next
  unfolding indices_at
  first-is ks x next d = rw (told, d)

  first-none : (ks : List Syntax.Space) (n : Fault) → q ≡ Err n → indices_at (space_of k ∷ ks) s here ≡ []
  unfolding indices_at
  first-none ks n d = rw (told, d)

  unread : (ks : List Syntax.Space) (n : Fault) → q ≡ Err n → length old * 1 < 2 ^ 63 → Numbers s w rec old at (indices_at (space_of k ∷ ks) s here) (Ok at) old
  unread ks n d h = rw (first-none ks n d) (no_number s w rec old at h)

  -- `emit_one`
  pub one-unread : (n : Fault) → q ≡ Err n → length old * 1 < 2 ^ 63 → Numbers s w rec old at (indices_at (space_of k ∷ []) s here) (Ok at) old
  one-unread n d h = unread [] n d h

  pub one-read : (x : Index) (next : ℕ) (r : Resolved ℕ) (new : List ℕ) → q ≡ Ok (x, next) → Emits u (item_no (scope_in s w) (space_of k) rec (index_of s x)) old at r new
      → Numbers s w rec old at (indices_at (space_of k ∷ []) s here) r new
  unfolding indices_at
  one-read x next r new d e = rw (first-is [] x next d) (one_number s w rec old at (space_of k) (index_of s x) r new e)

  -- `emit_two`
  module _ (j : Space) where
    abbrev Two : Resolved ℕ → List ℕ → Type 0
    Two r new = Numbers s w rec old at (indices_at (space_of k ∷ space_of j ∷ []) s here) r new

    pub two_unread : (n : Fault) → q ≡ Err n → length old * 1 < 2 ^ 63 → Two (Ok at) old
    two_unread n d h = unread (space_of j ∷ []) n d h

    module _ (x : Index) (next : ℕ) (d : q ≡ Ok (x, next)) (y : Resolved ℕ) (mid : List ℕ) (e : Emits u (item_no (scope_in s w) (space_of k) rec (index_of s x)) old at y mid) where
      pub two_read : (o : ℕ) (r : Resolved ℕ) (new : List ℕ) → y ≡ Ok o → Numbers s w rec mid o (indices_at (space_of j ∷ []) s next) r new → Two r new
      two_read o r new f g = rw (first-is (space_of j ∷ []) x next d) (number_then s w rec old at (space_of k) (index_of s x) (indices_at (space_of j ∷ []) s next) y o mid r new e f g)

      pub two_halts : (r : Refusal) → y ≡ Err r → Two (Err r) mid
      two_halts r f = rw (first-is (space_of j ∷ []) x next d) (number_halts s w rec old at (space_of k) (index_of s x) (indices_at (space_of j ∷ []) s next) y r mid e f)

-- ## After the second byte

module _ (s w : List ℕ) (rec b here : ℕ) (r : Spaces) (told : spaces_of b ≡ spaces_is r) (old : List ℕ) (at a : ℕ) (mid : List ℕ) (second : Put old at (u b) a mid) where
  abbrev Items : Resolved ℕ → List ℕ → Type 0
  Items q new = Emits imm (immediate (scope_in s w) [] [] rec (Syntax.items b (bulk_at (spaces_of b) s here))) old at q new

  then_numbers : (xs : List (Syntax.Space × Syntax.Index Identifier)) (q : Resolved ℕ) (new : List ℕ) → bulk_at (spaces_of b) s here ≡ xs → Numbers s w rec mid a xs q new → Items q new
  unfolding immediate imm numbers_of
  then_numbers xs q new d e = rw d (put-emits (concat_map u) imm (λ ns. Syntax.items_imm b ns) (numbers_of s w rec xs) old at (u b) a mid q new (λ ns. refl) second e)

  pub items-none : r ≡ P.None → Items (Ok a) mid
  items-none d = then_numbers [] (Ok a) mid (rw (told, d)) (no_number s w rec mid a (omega (arith, second.long, second.short)))

  pub items-one : (k : Space) (q : Resolved ℕ) (new : List ℕ) → r ≡ P.One k → Numbers s w rec mid a (indices_at (space_of k ∷ []) s here) q new → Items q new
  items-one k q new d e = then_numbers (indices_at (space_of k ∷ []) s here) q new (rw (told, d)) e

  pub items_two : (j k : Space) (q : Resolved ℕ) (new : List ℕ) → r ≡ P.Two j k → Numbers s w rec mid a (indices_at (space_of j ∷ space_of k ∷ []) s here) q new → Items q new
  items_two j k q new d e = then_numbers (indices_at (space_of j ∷ space_of k ∷ []) s here) q new (rw (told, d)) e
