-- What stands after FC: the indices after the second byte, for all second bytes at once.
use Rattle.std.specs.Prelude.{Ok, Err, IsErrAnd}
use Rattle.std.specs.Result.{IsErr}
use Rattle.syntax.specs.Reads.{Pass}
use Rattle.syntax.specs.Refusals.{number}
use Rattle.syntax.specs.declared.Fault.{Fault}
use Rattle.syntax.proofs.Ways.{skip_handed}
use mathlib.Core.Path.{◌≡◌, refl, ap, ◌∙◌}
use mathlib.Core.List.{List, [], ◌∷◌}
use mathlib.Core.Option.{none, some}
use Prim.Native.Nat.{ℕ}
use native.Mathlib.Omega.{arith}
use Rattle.definition.specs.Syntax as Syntax
use Rattle.definition.specs.Syntax.{Bytes, Identifier}
use Rattle.definition.specs.Reader.{Step, got, fault, onward, byte}
use Rattle.definition.specs.Token.{present, optional}
use Rattle.definition.specs.Instructions.{spaces_of, index_in, indices, bulk_of, plain_of, bulk}
use Rattle.laws.specs.Steps.{stops}
use Rattle.syntax.specs.Tokens.{space_of, skip}
use Rattle.syntax.specs.declared.Space.{Space}
use Rattle.syntax.specs.declared.Space.TheVariants as K
use Rattle.syntax.specs.TypeUses.{on_step}
use Rattle.syntax.specs.Plain.{indices_at}
use Rattle.token.proofs.Skips.{stops-made, stops_then, stops_not, gave_at, stopped_at}
use Rattle.expr.specs.Readers.{bulk_past}

-- indices, each with its space
abbrev Pairs : Type 0
Pairs = List (Syntax.Space × Syntax.Index Identifier)

-- ## One index: that of a memory may be absent

module _ (k : Space) where
  -- the arm that is left: no memory
  others : (k ≡ K.Mems → ⊥) → index_in (space_of k) ≡ present
  unfolding index_in
  others h = go k h
    where
      go : (j : Space) → (j ≡ K.Mems → ⊥) → index_in (space_of j) ≡ present
      go K.Funcs h = refl
      go K.Tables h = refl
      go K.Mems h = absurd (h refl)
      go K.Globals h = refl
      go K.Types h = refl
      go K.Elems h = refl
      go K.Datas h = refl

  module _ (s : Bytes) (at : ℕ) where
    pub in_memory : k ≡ K.Mems → index_in (space_of k) s at ≡ optional s at
    unfolding index_in
    in_memory d = rw d

    pub in_other : (k ≡ K.Mems → ⊥) → index_in (space_of k) s at ≡ present s at
    in_other h = rw (others h)

    pub memory_past : k ≡ K.Mems → stops (index_in (space_of k) s at) ≡ stops (optional s at)
    memory_past d = ap stops (in_memory d)

    pub other_past : (k ≡ K.Mems → ⊥) → stops (index_in (space_of k) s at) ≡ stops (present s at)
    other_past h = ap stops (in_other h)

pub ruleset ins = (in_memory, in_other, memory_past, other_past)

-- ## Indices that are passed over

module _ (k : Syntax.Space) (s : Bytes) (at : ℕ) (x : Step (Unit {0})) where
  -- the last one
  last : stops (index_in k s at) ≡ x → stops (indices (k ∷ []) s at) ≡ x
  unfolding indices
  last p = stops-made _ (index_in k s at) ∙ p

  -- one, and the others after it
  first : (ks : List Syntax.Space) (n : ℕ) → stops (index_in k s at) ≡ got tt n → stops (indices ks s n) ≡ x → stops (indices (k ∷ ks) s at) ≡ x
  unfolding indices
  first ks n e p = stops_then x _ (index_in k s at) n e (λ a. stops-made _ (indices ks s n) ∙ p)

  -- one that cannot be read
  first_not : (ks : List Syntax.Space) (n : ℕ) → stops (index_in k s at) ≡ fault n → fault n ≡ x → stops (indices (k ∷ ks) s at) ≡ x
  unfolding indices
  first_not ks n e p = stops_not x _ (index_in k s at) n e p

-- where indices are read, they are those at their place
indices_are : (ks : List Syntax.Space) (s : Bytes) (at : ℕ) (xs : Pairs) (q : ℕ) → indices ks s at ≡ got xs q → indices_at ks s at ≡ xs
unfolding indices indices_at
indices_are [] s at xs q e = let d : xs ≡ [] = cc in rw d
indices_are (k ∷ ks) s at xs q e = go (λ next ys z. indices_are ks s next ys q z) (index_in k s at) e
  where
    one : (x : Syntax.Index Identifier) (next : ℕ) (st : Step Pairs) → ((ys : Pairs) → st ≡ got ys q → indices_at ks s next ≡ ys)
        → onward (λ ys a. got ((k, x) ∷ ys) a) st ≡ got xs q → (k, x) ∷ indices_at ks s next ≡ xs
    one x next (got ys a) h z = let m : a ≡ q = cc in let d : xs ≡ (k, x) ∷ ys = cc in let i : indices_at ks s next ≡ ys = h ys (rw m) in rw (i, d)
    one x next (fault n) h z = let f : ◌≡◌ {A = ℕ} 0 1 = cc in absurd (omega arith)

    go : ((next : ℕ) (ys : Pairs) → indices ks s next ≡ got ys q → indices_at ks s next ≡ ys) → (st : Step (Syntax.Index Identifier))
        → onward (λ x next. onward (λ ys a. got ((k, x) ∷ ys) a) (indices ks s next)) st ≡ got xs q → on_step st (λ x next. (k, x) ∷ indices_at ks s next) [] ≡ xs
    go h (got x next) z = one x next (indices ks s next) (h next) z
    go h (fault n) z = let f : ◌≡◌ {A = ℕ} 0 1 = cc in absurd (omega arith)

-- where they end says what the operand is
module _ (b : ℕ) (s : Bytes) (at : ℕ) where
  ends : (ks : List Syntax.Space) (r : Pass) → spaces_of b ≡ some ks → stops (indices ks s at) ≡ skip r → bulk_of b (spaces_of b) s at ≡ bulk_past b s at r
  ends ks (Ok n) d e = let g = gave_at (indices ks s at) n e in let i = indices_are ks s at g.value n g.is in rw (d, g.is, i)
  ends ks (Err n) d e = rw (d, stopped_at (indices ks s at) (number n) e)

  -- `pass_indices`: none are asked for, one, or two
  pub bulk_none : spaces_of b ≡ none → bulk_of b (spaces_of b) s at ≡ fault 4
  bulk_none d = rw d

  pub bulk_one : (k : Space) (q : Pass) → spaces_of b ≡ some (space_of k ∷ []) → stops (index_in (space_of k) s at) ≡ skip q → bulk_of b (spaces_of b) s at ≡ bulk_past b s at q
  bulk_one k q d e = ends (space_of k ∷ []) q d (last (space_of k) s at (skip q) e)

  module _ (j k : Space) (d : spaces_of b ≡ some (space_of j ∷ space_of k ∷ [])) where
    pub bulk_two : (n : ℕ) (q : Pass) → stops (index_in (space_of j) s at) ≡ got tt n → stops (index_in (space_of k) s n) ≡ skip q → bulk_of b (spaces_of b) s at ≡ bulk_past b s at q
    bulk_two n q f g = ends (space_of j ∷ space_of k ∷ []) q d (first (space_of j) s at (skip q) (space_of k ∷ []) n f (last (space_of k) s n (skip q) g))

    pub bulk_first_not : (n : ℕ) → stops (index_in (space_of j) s at) ≡ fault n → bulk_of b (spaces_of b) s at ≡ fault n
    bulk_first_not n f = rw (d, stopped_at (indices (space_of j ∷ space_of k ∷ []) s at) n (first_not (space_of j) s at (fault n) (space_of k ∷ []) n f refl))

  pub bulk_handed : (r : Pass) (n : Fault) → IsErr r → IsErrAnd r (λ e. e ≡ n) → fault (number n) ≡ bulk_past b s at r
  bulk_handed (Ok a) n i p = absurd p
  bulk_handed (Err e) n i p = rw p

pub ruleset bulks_passed = (bulk_none, bulk_one, bulk_two, bulk_first_not, bulk_handed)

-- ## `pass_bulk`

-- an instruction that is only made of them stops where they do
stops_bulk : {A : Type 0} (f : Syntax.Operand Identifier → A) (b : ℕ) (s : Bytes) (at : ℕ) (m : Step (Syntax.Operand Identifier)) (r : Pass) → m ≡ bulk_past b s at r → stops (onward (λ x next. got (f x) next) m) ≡ skip r
stops_bulk f b s at m (Ok n) e = rw e
stops_bulk f b s at m (Err n) e = rw e

module _ (s : Bytes) (at : ℕ) where
  pub second_past : (b n : ℕ) (q : Pass) → byte s at ≡ got b n → bulk_of b (spaces_of b) s n ≡ bulk_past b s n q → stops (plain_of 0 bulk s at) ≡ skip q
  unfolding plain_of
  second_past b n q d e = rw d (stops_bulk _ b s n (bulk_of b (spaces_of b) s n) q e)

  pub second_not : (k : ℕ) → byte s at ≡ fault k → stops (plain_of 0 bulk s at) ≡ fault k
  unfolding plain_of
  second_not k d = rw d

pub ruleset seconds = (second_past, second_not, skip_handed)
